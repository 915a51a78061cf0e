-- Elements of aggregates, by their indices.
use Rattle.std.proofs.Common.{◌≡◌, ◌<◌, ℕ, zero, suc, true, false, List, [], ◌∷◌, length, get_or, nat_lt, refl, ap, sym, arith}
use Rattle.std.specs.Prelude.{Some, None, slice_index}
use Rattle.std.specs.Option.{option_map}
use Rattle.std.proofs.lemmas.Bool.Decides.{nat_tests}
use Rattle.step_values.specs.AgreementTests.{value_count}
use Rattle.step_values.specs.steps.Slots.{nth}
use Rattle.step_values.specs.Values as values
use Rattle.step_values.specs.Values.{Value, Values}
use Rattle.schema_underlying_types.specs.declared.base.Base.{Base}
use Rattle.express_logic.specs.Data.{indeterminate, instance, Data, none, more}
use Rattle.express_logic.specs.Holdings.{size_of, element_at}
use Rattle.conformance.specs.Meanings.{instance_data}
use Rattle.conformance.specs.Operations.{only}
use Rattle.rule_values.specs.declared.types.ValueTypes.{ValueTypes}
use Rattle.rule_values.specs.TableValues.{coded_datum, coded_each}
use Rattle.rule_values.specs.Parts.{or_indeterminate, picked}

-- how many they are
pub size-coded : (t : ValueTypes) (b : Base) (vs : Values) → size_of (coded_each t b vs) ≡ value_count vs
size-coded t b values.none = refl
size-coded t b (values.more v vs) = ap suc (size-coded t b vs)

pub size-instances : (ys : List ℕ) → size_of (instance_data ys) ≡ length ys
size-instances [] = refl
size-instances (y ∷ ys) = ap suc (size-instances ys)

pub size-picked : (is : List ℕ) (ds : Data) → size_of (picked is ds) ≡ length is
size-picked [] ds = refl
size-picked (i ∷ is) ds = ap suc (size-picked is ds)

-- what stands at an index
pub nth-coded : (t : ValueTypes) (b : Base) (vs : Values) (i : ℕ)
    → element_at i (coded_each t b vs) ≡ option_map (coded_datum t b) (nth vs i)
nth-coded t b values.none i = refl
nth-coded t b (values.more v vs) zero = refl
nth-coded t b (values.more v vs) (suc i) = nth-coded t b vs i

pub instance-found : (ys : List ℕ) (i y : ℕ) → i < length ys → y ≡ get_or ys i y
    → element_at i (instance_data ys) ≡ Some (instance y)
instance-found [] i y l e = absurd (omega (arith, l))
instance-found (z ∷ ys) zero y l e = ap (λ w. Some (instance w)) (sym e)
instance-found (z ∷ ys) (suc i) y l e = instance-found ys i y (omega (arith, l)) e

pub instance-missing : (ys : List ℕ) (i : ℕ) → (i < length ys → ⊥) → element_at i (instance_data ys) ≡ None
instance-missing [] i h = refl
instance-missing (y ∷ ys) zero h = absurd (h (omega arith))
instance-missing (y ∷ ys) (suc i) h = instance-missing ys i (λ l. h (omega (arith, l)))

pub place-found : (is : List ℕ) (i k : ℕ) (ds : Data) → i < length is → k ≡ get_or is i k
    → element_at i (picked is ds) ≡ Some (or_indeterminate (element_at k ds))
place-found [] i k ds l e = absurd (omega (arith, l))
place-found (j ∷ is) zero k ds l e = ap (λ w. Some (or_indeterminate (element_at w ds))) (sym e)
place-found (j ∷ is) (suc i) k ds l e = place-found is i k ds (omega (arith, l)) e

pub place-missing : (is : List ℕ) (i : ℕ) (ds : Data) → (i < length is → ⊥) → element_at i (picked is ds) ≡ None
place-missing [] i ds h = refl
place-missing (j ∷ is) zero ds h = absurd (h (omega arith))
place-missing (j ∷ is) (suc i) ds h = place-missing is i ds (λ l. h (omega (arith, l)))

pub is-below : (i n : ℕ) → true ≡ nat_lt i n → i < n
is-below i n h = grind (arith, nat_tests, h)

pub not-below : (i n : ℕ) → false ≡ nat_lt i n → i < n → ⊥
not-below i n h l = grind (arith, nat_tests, h, l)

pub picked-place : (is : List ℕ) (i : ℕ) (ds : Data) → i < length is
    → element_at i (picked is ds) ≡ Some (or_indeterminate (element_at (slice_index is i) ds))
picked-place [] i ds l = absurd (omega (arith, l))
picked-place (j ∷ is) zero ds l = refl
picked-place (j ∷ is) (suc i) ds l = picked-place is i ds (omega (arith, l))

-- an element that is there, and one that isn't
pub element-there : (i : ℕ) (ds : Data) → i < size_of ds → Some (or_indeterminate (element_at i ds)) ≡ element_at i ds
element-there i none l = absurd (omega (arith, l))
element-there zero (more d ds) l = refl
element-there (suc i) (more d ds) l = element-there i ds (omega (arith, l))

pub element-over : (i : ℕ) (ds : Data) → (i < size_of ds → ⊥) → None ≡ element_at i ds
element-over i none h = refl
element-over zero (more d ds) h = absurd (h (omega arith))
element-over (suc i) (more d ds) h = element-over i ds (λ l. h (omega (arith, l)))

-- none or several instances
pub not-alone : (ys : List ℕ) → (length ys ≡ 1 → ⊥) → indeterminate ≡ only (instance_data ys)
not-alone [] h = refl
not-alone (y ∷ []) h = absurd (h refl)
not-alone (y ∷ (z ∷ ys)) h = refl
