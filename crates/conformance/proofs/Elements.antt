-- Sizes, indices and selections of aggregates that are alike.
use Rattle.std.proofs.Common.{◌≡◌, ℕ, suc, ℤ, pos, Bool, true, false, refl, ap, subst, ◌∙◌, arith}
use Rattle.std.specs.Prelude.{if◌then◌else◌, ◌+ℤ◌, ◌&&◌, Option, Some, None}
use Rattle.std.specs.Ordering.{int_eq}
use Rattle.express_syntax.specs.declared.expression.Logical.{Logical}
use Rattle.express_logic.specs.Literals.{whole_units}
use Rattle.express_logic.specs.Holdings.{size_of}
use Rattle.express_logic.specs.Data.{Shape, list, bag, array, Datum, indeterminate, number, text, bits, element, logical, instance, typed, aggregate, Data, none, more}
use Rattle.conformance.specs.Operations.{says, whole, size, last_index, first_index, high_index, low_index, or_else, is_index, element_from, only, element_of, indexed, is_true, filtered, kept_shape, queried}
use Rattle.conformance.specs.AlikeValues.{IsDataReordering, unchanged, kept, swapped, joined, InOrder, Alike, AlikeEach, AlikeIn}
use Rattle.conformance.proofs.Comparisons.{picked, alike_says}

pub size_each : (led : ℕ → ℕ → Type 0) (ds es : Data) → AlikeEach led ds es → size_of ds ≡ size_of es
size_each led none none h = refl
size_each led (more d ds) (more e es) h = ap suc (size_each led ds es h.1)
size_each led _ _ h = absurd h

pub size_reordered : {us es : Data} → IsDataReordering us es → size_of us ≡ size_of es
size_reordered (unchanged es) = refl
size_reordered (kept e r) = ap suc (size_reordered r)
size_reordered (swapped e f es) = refl
size_reordered (joined r s) = size_reordered r ∙ size_reordered s

size_in_order : (s : Shape) (us es : Data) → InOrder s us es → size_of us ≡ size_of es
size_in_order list us es r = ap size_of r
size_in_order bag us es r = size_reordered r
size_in_order (array low high) us es r = ap size_of r

pub size_same : (led : ℕ → ℕ → Type 0) (s : Shape) (ds es : Data) → AlikeIn led s ds es → size_of ds ≡ size_of es
size_same led s ds es h = size_each led ds h.0 h.1 ∙ size_in_order s h.0 es h.2

whole_alike : (led : ℕ → ℕ → Type 0) (o p : Option ℤ) → o ≡ p → Alike led (whole o) (whole p)
whole_alike led o p e = subst (λ q. Alike led (whole o) (whole q)) e (itself o)
  where
    itself : (o : Option ℤ) → Alike led (whole o) (whole o)
    itself None = tt
    itself (Some z) = refl

pub size_alike : (led : ℕ → ℕ → Type 0) (d e : Datum) → Alike led d e → Alike led (size d) (size e)
size_alike led indeterminate indeterminate h = tt
size_alike led (aggregate s ds) (aggregate t es) h = ap (λ n. whole_units (pos n)) (size_same led s ds es h.1)
size_alike led (number a) (number b) h = tt
size_alike led (text a) (text b) h = tt
size_alike led (bits a) (bits b) h = tt
size_alike led (element a) (element b) h = tt
size_alike led (logical a) (logical b) h = tt
size_alike led (instance a) (instance b) h = tt
size_alike led (typed n a) (typed m b) h = tt
size_alike led _ _ h = absurd h

pub high_index_alike : (led : ℕ → ℕ → Type 0) (d e : Datum) → Alike led d e → Alike led (high_index d) (high_index e)
high_index_alike led indeterminate indeterminate h = tt
high_index_alike led (aggregate s ds) (aggregate t es) h =
    whole_alike led (last_index s (size_of ds)) (last_index t (size_of es))
    (λ i. last_index (h.0 i) (size_same led s ds es h.1 i))
high_index_alike led (number a) (number b) h = tt
high_index_alike led (text a) (text b) h = tt
high_index_alike led (bits a) (bits b) h = tt
high_index_alike led (element a) (element b) h = tt
high_index_alike led (logical a) (logical b) h = tt
high_index_alike led (instance a) (instance b) h = tt
high_index_alike led (typed n a) (typed m b) h = tt
high_index_alike led _ _ h = absurd h

pub low_index_alike : (led : ℕ → ℕ → Type 0) (d e : Datum) → Alike led d e → Alike led (low_index d) (low_index e)
low_index_alike led indeterminate indeterminate h = tt
low_index_alike led (aggregate s ds) (aggregate t es) h =
    whole_alike led (first_index s) (first_index t) (ap first_index h.0)
low_index_alike led (number a) (number b) h = tt
low_index_alike led (text a) (text b) h = tt
low_index_alike led (bits a) (bits b) h = tt
low_index_alike led (element a) (element b) h = tt
low_index_alike led (logical a) (logical b) h = tt
low_index_alike led (instance a) (instance b) h = tt
low_index_alike led (typed n a) (typed m b) h = tt
low_index_alike led _ _ h = absurd h

pub or_else_alike : (led : ℕ → ℕ → Type 0) (d e : Datum) → Alike led d e → (f g : Datum) → Alike led f g
    → Alike led (or_else d f) (or_else e g)
or_else_alike led indeterminate indeterminate h f g k = k
or_else_alike led (number a) (number b) h f g k = h
or_else_alike led (text a) (text b) h f g k = h
or_else_alike led (bits a) (bits b) h f g k = h
or_else_alike led (element a) (element b) h f g k = h
or_else_alike led (logical a) (logical b) h f g k = h
or_else_alike led (instance a) (instance b) h f g k = h
or_else_alike led (typed n a) (typed m b) h f g k = h
or_else_alike led (aggregate s ds) (aggregate t es) h f g k = h
or_else_alike led _ _ h f g k = absurd h

element_from_alike : (led : ℕ → ℕ → Type 0) (index z : ℤ) (ds es : Data) → AlikeEach led ds es
    → Alike led (element_from index z ds) (element_from index z es)
element_from_alike led index z none none h = tt
element_from_alike led index z (more d ds) (more e es) h =
    picked led (is_index index && int_eq (whole_units index) z) d (element_from (index +ℤ pos 1) z ds) e
    (element_from (index +ℤ pos 1) z es) h.0 (element_from_alike led (index +ℤ pos 1) z ds es h.1)
element_from_alike led index z _ _ h = absurd h

only_each : (led : ℕ → ℕ → Type 0) (ds es : Data) → AlikeEach led ds es → Alike led (only ds) (only es)
only_each led none none h = tt
only_each led (more d none) (more e none) h = h.0
only_each led (more d none) (more e (more f fs)) h = absurd h.1
only_each led (more d (more c ds)) (more e none) h = absurd h.1
only_each led (more d (more c ds)) (more e (more f fs)) h = tt
only_each led none (more e es) h = absurd h
only_each led (more d ds) none h = absurd h

only_kept : (d : Datum) (us es : Data) → size_of us ≡ size_of es → only (more d us) ≡ only (more d es)
only_kept d none none h = refl
only_kept d (more u us) (more e es) h = refl
only_kept d none (more e es) h = absurd (omega (arith, h))
only_kept d (more u us) none h = absurd (omega (arith, h))

only_reordered : {us es : Data} → IsDataReordering us es → only us ≡ only es
only_reordered (unchanged es) = refl
only_reordered (kept {ds = us} {es = es} d r) = only_kept d us es (size_reordered r)
only_reordered (swapped e f es) = refl
only_reordered (joined r s) = only_reordered r ∙ only_reordered s

pub only_alike : (led : ℕ → ℕ → Type 0) (ds es : Data) → AlikeIn led bag ds es → Alike led (only ds) (only es)
only_alike led ds es h = subst (λ e. Alike led (only ds) e) (only_reordered h.2) (only_each led ds h.0 h.1)

element_of_alike : (led : ℕ → ℕ → Type 0) (s : Shape) (z : ℤ) (ds es : Data) → AlikeIn led s ds es
    → Alike led (element_of s z ds) (element_of s z es)
element_of_alike led list z ds es h =
    subst (λ us. Alike led (element_from (pos 1) z ds) (element_from (pos 1) z us)) h.2
    (element_from_alike led (pos 1) z ds h.0 h.1)
element_of_alike led bag z ds es h =
    picked led (int_eq (whole_units (pos 1)) z) (only ds) indeterminate (only es) indeterminate
    (only_alike led ds es h) tt
element_of_alike led (array (Some low) high) z ds es h =
    subst (λ us. Alike led (element_from low z ds) (element_from low z us)) h.2
    (element_from_alike led low z ds h.0 h.1)
element_of_alike led (array None high) z ds es h = tt

in_aggregate : (led : ℕ → ℕ → Type 0) (s t : Shape) (ds es : Data) → s ≡ t → AlikeIn led s ds es → (i j : Datum)
    → Alike led i j → Alike led (indexed (aggregate s ds) i) (indexed (aggregate t es) j)
in_aggregate led s t ds es r h (number y) (number z) k =
    subst (λ u. Alike led (element_of s y ds) (element_of u z es)) r
    (subst (λ w. Alike led (element_of s y ds) (element_of s w es)) k (element_of_alike led s y ds es h))
in_aggregate led s t ds es r h indeterminate indeterminate k = tt
in_aggregate led s t ds es r h (text a) (text b) k = tt
in_aggregate led s t ds es r h (bits a) (bits b) k = tt
in_aggregate led s t ds es r h (element a) (element b) k = tt
in_aggregate led s t ds es r h (logical a) (logical b) k = tt
in_aggregate led s t ds es r h (instance a) (instance b) k = tt
in_aggregate led s t ds es r h (typed n a) (typed m b) k = tt
in_aggregate led s t ds es r h (aggregate a cs) (aggregate b bs) k = tt
in_aggregate led s t ds es r h _ _ k = absurd k

pub indexed_alike : (led : ℕ → ℕ → Type 0) (d e : Datum) → Alike led d e → (i j : Datum) → Alike led i j
    → Alike led (indexed d i) (indexed e j)
indexed_alike led (aggregate s ds) (aggregate t es) h i j k = in_aggregate led s t ds es h.0 h.1 i j k
indexed_alike led indeterminate indeterminate h i j k = tt
indexed_alike led (number a) (number b) h i j k = tt
indexed_alike led (text a) (text b) h i j k = tt
indexed_alike led (bits a) (bits b) h i j k = tt
indexed_alike led (element a) (element b) h i j k = tt
indexed_alike led (logical a) (logical b) h i j k = tt
indexed_alike led (instance a) (instance b) h i j k = tt
indexed_alike led (typed n a) (typed m b) h i j k = tt
indexed_alike led _ _ h i j k = absurd h

-- QUERY
both_kept : (led : ℕ → ℕ → Type 0) (b c : Bool) → b ≡ c → (d e : Datum) → Alike led d e → (ds es : Data)
    → AlikeEach led ds es → AlikeEach led (if b then more d ds else ds) (if c then more e es else es)
both_kept led true true r d e h ds es k = (h, k)
both_kept led false false r d e h ds es k = k
both_kept led true false r d e h ds es k = absurd (cc)
both_kept led false true r d e h ds es k = absurd (cc)

filtered_each : (led : ℕ → ℕ → Type 0) (p q : Datum → Logical) → ((d e : Datum) → Alike led d e → p d ≡ q e)
    → (ds es : Data) → AlikeEach led ds es → AlikeEach led (filtered p ds) (filtered q es)
filtered_each led p q f none none h = tt
filtered_each led p q f (more d ds) (more e es) h =
    both_kept led (is_true (p d)) (is_true (q e)) (ap is_true (f d e h.0)) d e h.0 (filtered p ds) (filtered q es)
    (filtered_each led p q f ds es h.1)
filtered_each led p q f _ _ h = absurd h

kept_or : (b : Bool) (d : Datum) {us es : Data} → IsDataReordering us es
    → IsDataReordering (if b then more d us else us) (if b then more d es else es)
kept_or true d r = kept d r
kept_or false d r = r

swapped_or : (b c : Bool) (d e : Datum) (es : Data)
    → IsDataReordering (if b then more d (if c then more e es else es) else (if c then more e es else es))
    (if c then more e (if b then more d es else es) else (if b then more d es else es))
swapped_or true true d e es = swapped d e es
swapped_or true false d e es = unchanged (more d es)
swapped_or false true d e es = unchanged (more e es)
swapped_or false false d e es = unchanged es

filtered_reordered : (p : Datum → Logical) {us es : Data} → IsDataReordering us es
    → IsDataReordering (filtered p us) (filtered p es)
filtered_reordered p (unchanged es) = unchanged (filtered p es)
filtered_reordered p (kept d r) = kept_or (is_true (p d)) d (filtered_reordered p r)
filtered_reordered p (swapped d e es) = swapped_or (is_true (p d)) (is_true (p e)) d e (filtered p es)
filtered_reordered p (joined r s) = joined (filtered_reordered p r) (filtered_reordered p s)

filtered_in_order : (p : Datum → Logical) (s : Shape) (us es : Data) → InOrder s us es
    → InOrder (kept_shape s) (filtered p us) (filtered p es)
filtered_in_order p list us es r = ap (filtered p) r
filtered_in_order p bag us es r = filtered_reordered p r
filtered_in_order p (array low high) us es r = ap (filtered p) r

pub queried_alike : (led : ℕ → ℕ → Type 0) (f g : Datum → Datum)
    → ((d e : Datum) → Alike led d e → Alike led (f d) (g e)) → (d e : Datum) → Alike led d e
    → Alike led (queried f d) (queried g e)
queried_alike led f g c (aggregate s ds) (aggregate t es) h = (
  ap kept_shape h.0,
  (
    filtered (λ e. says (g e)) h.1.0,
    filtered_each led (λ d. says (f d)) (λ e. says (g e)) (λ d e k. alike_says led (f d) (g e) (c d e k)) ds h.1.0
        h.1.1,
    filtered_in_order (λ e. says (g e)) s h.1.0 es h.1.2,
  ),
)
queried_alike led f g c indeterminate indeterminate h = tt
queried_alike led f g c (number a) (number b) h = tt
queried_alike led f g c (text a) (text b) h = tt
queried_alike led f g c (bits a) (bits b) h = tt
queried_alike led f g c (element a) (element b) h = tt
queried_alike led f g c (logical a) (logical b) h = tt
queried_alike led f g c (instance a) (instance b) h = tt
queried_alike led f g c (typed n a) (typed m b) h = tt
queried_alike led f g c _ _ h = absurd h
