-- Shapes of data types: their kinds, and the data types of their elements.
use Rattle.std.specs.Prelude.{◌≡◌, ℕ, Bool, true, List, Option, None, Some, slice_get}
use Rattle.std.proofs.Common.{refl, inl, inr, ap, sym, subst, ◌∙◌, arith}
use Rattle.schema_semantics.proofs.Lists.{first-step}
use Rattle.express_syntax.specs.Schemas.{Schema, DataType, integer, number, boolean, logical, real, string, binary, named, array, list, bag, set}
use Rattle.schema_semantics.specs.Names.{Renames}
use Rattle.schema_semantics.specs.Faults.{IsResolved}
use Rattle.schema_semantics.specs.Shapes.{TypeShape, of_numbers, of_logicals, of_strings, of_binaries, of_items, of_instances, of_arrays, of_lists, of_collections, IsShapeAt, HasShape, AreOne}
use Rattle.schema_data_types.specs.declared.shapes.Shape.{Shape as NumberedShape}
use Rattle.schema_data_types.specs.declared.shapes.Shape.TheVariants.{Numbers, Logicals, Strings, Binaries, Items, Instances, Arrays, Lists, Collections}
use Rattle.schema_data_types.specs.steps.Comparing.{kind, element}
use Rattle.schema_data_types.specs.ShapeTables.{IsKnown, IsShown}
use Rattle.schema_data_types.proofs.Known.{known-on}

abbrev pub kind_of : TypeShape → ℕ
kind_of of_numbers = 0
kind_of of_logicals = 1
kind_of of_strings = 2
kind_of of_binaries = 3
kind_of of_items = 4
kind_of of_instances = 5
kind_of (of_arrays k) = 6
kind_of (of_lists k) = 7
kind_of (of_collections k) = 8

-- the data type of its elements
abbrev pub part : TypeShape → Option DataType
part (of_arrays k) = Some k
part (of_lists k) = Some k
part (of_collections k) = Some k
part f = None

pub kind-shown : (all : List DataType) (x : NumberedShape) (f : TypeShape) → IsShown all x f → kind x ≡ kind_of f
kind-shown all Numbers f h = sym (ap kind_of h)
kind-shown all Logicals f h = sym (ap kind_of h)
kind-shown all Strings f h = sym (ap kind_of h)
kind-shown all Binaries f h = sym (ap kind_of h)
kind-shown all Items f h = sym (ap kind_of h)
kind-shown all Instances f h = sym (ap kind_of h)
kind-shown all (Arrays c) f (k, at, h) = sym (ap kind_of h)
kind-shown all (Lists c) f (k, at, h) = sym (ap kind_of h)
kind-shown all (Collections c) f (k, at, h) = sym (ap kind_of h)

abbrev IsPart : List DataType → NumberedShape → DataType → Type 0
IsPart all x e = (c : ℕ) × (element x ≡ Some c) × (slice_get all c ≡ Some e)

one-part : (all : List DataType) (x : NumberedShape) (c : ℕ) (k e : DataType) (f : TypeShape) → element x ≡ Some c
    → slice_get all c ≡ Some k → part f ≡ Some k → part f ≡ Some e → IsPart all x e
one-part all x c k e f el at is p = let same : k ≡ e = cc in (c, el, at ∙ ap Some same)

no-part : (f g : TypeShape) (e : DataType) → f ≡ g → part g ≡ None → part f ≡ Some e → ⊥
no-part f g e h none p = let is = ap part h in absurd (cc)

pub part-shown : (all : List DataType) (x : NumberedShape) (f : TypeShape) (e : DataType) → IsShown all x f
    → part f ≡ Some e → IsPart all x e
part-shown all Numbers f e h p = absurd (no-part f of_numbers e h refl p)
part-shown all Logicals f e h p = absurd (no-part f of_logicals e h refl p)
part-shown all Strings f e h p = absurd (no-part f of_strings e h refl p)
part-shown all Binaries f e h p = absurd (no-part f of_binaries e h refl p)
part-shown all Items f e h p = absurd (no-part f of_items e h refl p)
part-shown all Instances f e h p = absurd (no-part f of_instances e h refl p)
part-shown all (Arrays c) f e (k, at, h) p = one-part all (Arrays c) c k e f refl at (ap part h) p
part-shown all (Lists c) f e (k, at, h) p = one-part all (Lists c) c k e f refl at (ap part h) p
part-shown all (Collections c) f e (k, at, h) p = one-part all (Collections c) c k e f refl at (ap part h) p

-- shapes of one kind are one where their elements are related
pub one : (R : DataType → DataType → Bool) (f g : TypeShape) → kind_of f ≡ kind_of g
    → ((d e : DataType) → part f ≡ Some d → part g ≡ Some e → R d e ≡ true) → AreOne R f g
one R of_numbers of_numbers k h = tt
one R of_logicals of_logicals k h = tt
one R of_strings of_strings k h = tt
one R of_binaries of_binaries k h = tt
one R of_items of_items k h = tt
one R of_instances of_instances k h = tt
one R (of_arrays d) (of_arrays e) k h = h d e refl refl
one R (of_lists d) (of_lists e) k h = h d e refl refl
one R (of_collections d) (of_collections e) k h = h d e refl refl
one R f g k h = absurd (omega arith)

module _ (s : Schema) where
  -- what is no name has its own shape
  pub own-shape : (k : DataType) (f : TypeShape) → ((l : DataType) → Renames s k l → ⊥) → HasShape s k f → IsShapeAt s k f
  own-shape k f none (l, inl e, h) = subst (λ x. IsShapeAt s x f) (sym e) h
  own-shape k f none (l, inr c, h) = let (m, step) = first-step (Renames s) k l c in absurd (none m step)

  part-at : (l e : DataType) (f : TypeShape) → IsKnown s l → IsShapeAt s l f → part f ≡ Some e → IsKnown s e
  part-at integer e f known h p = absurd (no-part f of_numbers e h refl p)
  part-at number e f known h p = absurd (no-part f of_numbers e h refl p)
  part-at boolean e f known h p = absurd (no-part f of_logicals e h refl p)
  part-at logical e f known h p = absurd (no-part f of_logicals e h refl p)
  part-at (real w) e f known h p = absurd (no-part f of_numbers e h refl p)
  part-at (string w) e f known h p = absurd (no-part f of_strings e h refl p)
  part-at (binary w) e f known h p = absurd (no-part f of_binaries e h refl p)
  part-at (array b o u k) e f known h p =
      let same : k ≡ e = (let is = ap part h in cc) in subst (IsKnown s) same known
  part-at (list b u k) e f known h p =
      let same : k ≡ e = (let is = ap part h in cc) in subst (IsKnown s) same known
  part-at (bag b k) e f known h p =
      let same : k ≡ e = (let is = ap part h in cc) in subst (IsKnown s) same known
  part-at (set b k) e f known h p =
      let same : k ≡ e = (let is = ap part h in cc) in subst (IsKnown s) same known
  part-at (named n) e f known (inl (is, h)) p = absurd (no-part f of_items e h refl p)
  part-at (named n) e f known (inr (is, h)) p = absurd (no-part f of_instances e h refl p)

  -- the elements of what is known are known
  pub part-known : (r : IsResolved s) (k e : DataType) (f : TypeShape) → IsKnown s k → HasShape s k f → part f ≡ Some e
      → IsKnown s e
  part-known r k e f known (l, leads, h) p = part-at l e f (known-on s r k l known leads) h p
