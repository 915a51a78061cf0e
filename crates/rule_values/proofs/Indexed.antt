-- Elements whose indices are worth a number.
use Rattle.std.proofs.Common.{◌≡◌, ◌<◌, ◌≤◌, ℕ, suc, refl, ap, sym, ◌∙◌, arith}
use Rattle.std.specs.Prelude.{ℤ, pos, negsuc, ◌+ℤ◌, ◌<ℤ◌, ◌≤ℤ◌, ◌^◌, ◌==◌, ◌&&◌, unsigned_abs, ◌-ℤ◌, Bool, true, false, Option, Some, None, FitsSigned, if◌then◌else◌}
use Rattle.std.specs.Int.{w64}
use Rattle.std.specs.Ordering.{int_eq}
use Rattle.std.proofs.lemmas.Bool.Decides.{nat_tests}
use Rattle.std.proofs.lemmas.Int.{ints}
use Rattle.express_logic.specs.Literals.{whole_units}
use Rattle.express_logic.specs.Data.{Shape, list, bag, array, Datum, indeterminate, number, text, bits, element, logical, instance, typed, aggregate, Data, none, more}
use Rattle.express_logic.specs.Holdings.{size_of, element_at}
use Rattle.conformance.specs.Operations.{is_index, first_index, element_from, element_of, indexed}
use Rattle.conformance.specs.Expressions.{or_this}
use Rattle.conformance.proofs.Indices.{one_whole, passed, found_at}
use Rattle.rule_values.specs.steps.Indices.{has_indices, element_behind}
use Rattle.rule_values.specs.Parts.{or_indeterminate}

pub index-fits : (n : ℤ) → FitsSigned w64 n → is_index n ≡ true
index-fits (pos n) h = let lt : n < 2 ^ 63 = omega (arith, h.sfits) in grind (arith, nat_tests)
index-fits (negsuc n) h = refl

-- what isn't below a number of 64 bits is one, where it is an index
fits-from : (low m : ℤ) → FitsSigned w64 low → low ≤ℤ m → is_index m ≡ true → FitsSigned w64 m
fits-from low (pos n) h le small =
    let lt : n < 2 ^ 63 = grind (arith, nat_tests) in record { sfits = omega (arith, lt) }
fits-from (pos k) (negsuc n) h le small = absurd (omega (arith, ints, le))
fits-from (negsuc k) (negsuc n) h le small =
    let below : n ≤ k = omega (arith, ints, le) in
    let lt : k < 2 ^ 63 = omega (arith, h.sfits) in record { sfits = omega (arith, below, lt) }

-- no index from here on is worth it
pub missing : (ds : Data) (low z : ℤ) → ((n : ℤ) → low ≤ℤ n → is_index n ≡ true → whole_units n ≡ z → ⊥)
    → element_from low z ds ≡ indeterminate
missing none low z never = refl
missing (more d ds) low z never =
    passed low z d ds (never low (omega (arith, ints)))
    ∙ missing ds (low +ℤ pos 1) z (λ n le. never n (omega (arith, ints, le)))

-- the index at a place
pub found-at : (ds : Data) (low n : ℤ) (k : ℕ) → n ≡ low +ℤ pos k → is_index n ≡ true
    → element_from low (whole_units n) ds ≡ or_indeterminate (element_at k ds)
found-at ds low n k e i = found_at ds low n k e i ∙ by (element_at k ds)
  where
    by : (o : Option Datum) → or_this o indeterminate ≡ or_indeterminate o
    by None = refl
    by (Some d) = refl

pub under-first : (ds : Data) (low n : ℤ) → n <ℤ low → element_from low (whole_units n) ds ≡ indeterminate
under-first ds low n lt =
    missing ds low (whole_units n)
    (λ m le _ units. (let same = one_whole m n units in absurd (omega (arith, ints, lt, le, same))))

-- no whole number of 64 bits is worth it
pub no-whole : (ds : Data) (low z : ℤ) → FitsSigned w64 low → ((n : ℤ) → FitsSigned w64 n → z ≡ whole_units n → ⊥)
    → element_from low z ds ≡ indeterminate
no-whole ds low z fits never =
    missing ds low z
    (λ m le small units. never m (fits-from low m fits le small) (sym units))

-- an element by its shape
more-than-one : (n : ℕ) → (suc (suc n) == 1) ≡ false
more-than-one n = grind (arith, nat_tests)

pub by-shape : (s : Shape) (z : ℤ) (ds : Data)
    → element_of s z ds ≡ (if has_indices s (size_of ds) then element_behind (first_index s) z ds else indeterminate)
by-shape list z ds = refl
by-shape (array (Some low) high) z ds = refl
by-shape (array None high) z ds = refl
by-shape bag z none = by (int_eq (whole_units (pos 1)) z)
  where
    by : (b : Bool) → (if b then indeterminate else indeterminate) ≡ indeterminate
    by true = refl
    by false = refl
by-shape bag z (more d none) = by (int_eq (whole_units (pos 1)) z)
  where
    by : (b : Bool) → (if b then d else indeterminate) ≡ (if (is_index (pos 1) && b) then d else indeterminate)
    by true = refl
    by false = refl
by-shape bag z (more d (more e ds)) =
    by (int_eq (whole_units (pos 1)) z)
    ∙ sym (ap (λ b. if b then element_behind (Some (pos 1)) z (more d (more e ds)) else indeterminate)
    (more-than-one (size_of ds)))
  where
    by : (b : Bool) → (if b then indeterminate else indeterminate) ≡ indeterminate
    by true = refl
    by false = refl

-- an index that isn't there, whatever the shape
pub unindexed : (s : Shape) (z : ℤ) (ds : Data) (first : ℤ) → first_index s ≡ Some first → FitsSigned w64 first
    → ((n : ℤ) → FitsSigned w64 n → z ≡ whole_units n → ⊥) → indeterminate ≡ element_of s z ds
unindexed s z ds first e fits never =
    sym (by-shape s z ds
    ∙ ap (λ o. if has_indices s (size_of ds) then element_behind o z ds else indeterminate) e
    ∙ by (has_indices s (size_of ds)))
  where
    by : (b : Bool) → (if b then element_from first z ds else indeterminate) ≡ indeterminate
    by true = no-whole ds first z fits never
    by false = refl

pub unordered : (s : Shape) (z : ℤ) (ds : Data) → has_indices s (size_of ds) ≡ false → indeterminate ≡ element_of s z ds
unordered s z ds e =
    sym (by-shape s z ds ∙ ap (λ b. if b then element_behind (first_index s) z ds else indeterminate) e)

pub indexed-there : (s : Shape) (ds : Data) (first n : ℤ) (d : Datum) → first_index s ≡ Some first
    → has_indices s (size_of ds) ≡ true → d ≡ number (whole_units n)
    → element_from first (whole_units n) ds ≡ indexed (aggregate s ds) d
indexed-there s ds first n d e there is =
    sym (ap (indexed (aggregate s ds)) is ∙ by-shape s (whole_units n) ds
    ∙ ap (λ o. if has_indices s (size_of ds) then element_behind o (whole_units n) ds else indeterminate) e
    ∙ ap (λ b. if b then element_from first (whole_units n) ds else indeterminate) there)

-- what isn't a number is no index
pub no-element : (s : Shape) (ds : Data) (d : Datum) → ((z : ℤ) → d ≡ number z → indeterminate ≡ element_of s z ds)
    → indeterminate ≡ indexed (aggregate s ds) d
no-element s ds (number z) h = h z refl
no-element s ds indeterminate h = refl
no-element s ds (text t) h = refl
no-element s ds (bits t) h = refl
no-element s ds (element e) h = refl
no-element s ds (logical p) h = refl
no-element s ds (instance y) h = refl
no-element s ds (typed n d) h = refl
no-element s ds (aggregate t es) h = refl

pub distance : (first index : ℤ) (k : ℕ) → first ≤ℤ index → k ≡ unsigned_abs (index -ℤ first)
    → index ≡ first +ℤ pos k
distance first index k le e = omega (arith, ints, le, e)
