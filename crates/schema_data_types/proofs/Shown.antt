-- The shape of a data type by its form.
use Rattle.std.specs.Prelude.{◌≡◌, ℕ, ◌+◌, List, [], ◌∷◌, Option, Some, length, slice_get}
use Rattle.std.proofs.Common.{refl, inl, inr, ap, sym, subst, ◌∙◌, suc, arith}
use Rattle.express_syntax.specs.Schemas.{Schema, type, entity, DataType, integer, number, boolean, logical, real, string, binary, named, array, list, bag, set}
use Rattle.schema_semantics.specs.Names.{Name, Renames}
use Rattle.schema_semantics.specs.Faults.{IsMet, a_type}
use Rattle.schema_semantics.specs.Shapes.{TypeShape, of_numbers, of_logicals, of_strings, of_binaries, of_arrays, of_lists, of_collections, IsShapeAt, HasShape}
use Rattle.schema_names.specs.Numbers.{HasNumber}
use Rattle.schema_names.proofs.Numbers.{each-number}
use Rattle.schema_names.proofs.Edges.{within}
use Rattle.schema_data_types.specs.declared.forms.Form.TheVariants.{Named}
use Rattle.schema_data_types.specs.NumberedTypes.{all_data_types, form_in}
use Rattle.schema_data_types.specs.declared.shapes.Shape.{Shape as NumberedShape}
use Rattle.schema_data_types.specs.declared.shapes.Shape.TheVariants.{Numbers, Logicals, Strings, Binaries, Items, Instances, Arrays, Lists, Collections}
use Rattle.schema_data_types.specs.steps.Alike.{LeadsBelow}
use Rattle.schema_data_types.specs.ShapeTables.{IsKnown, IsOver, IsShown, IsShapeOf}
use Rattle.schema_data_types.specs.steps.Making.{shape_by, IsDeclaredAt}
use Rattle.schema_data_types.proofs.Elements.{element-behind}

-- a data type that opens no further has its shape
abbrev its : (s : Schema) (k : DataType) (f : TypeShape) → IsShapeAt s k f → HasShape s k f
its s k f h = (k, inl refl, h)

-- the data type behind a name has its shape
pub behind : (s : Schema) (k l : DataType) (f : TypeShape) → Renames s k l → HasShape s l f → HasShape s k f
behind s k l f step (x, inl e, h) = (x, inr ([], subst (Renames s k) e step), h)
behind s k l f step (x, inr (ms, c), h) = (x, inr (l ∷ ms, (step, c)), h)

pub over : (all : List DataType) (of : DataType → TypeShape) (m : ℕ) (e : DataType) → slice_get all (suc m) ≡ Some e
    → IsOver all of (m + 1) (of e)
over all of m e at =
    let next : m + 1 ≡ suc m = omega arith in
    (e, ap (slice_get all) next ∙ at, refl)

module _ (s : Schema) (declared : List NumberedShape) where
  named-number : (n : Name) → IsMet s (a_type n) → (j : ℕ) × HasNumber s n j
  named-number n (inl (t, at)) = each-number 0 s.declarations n (type t) at
  named-number n (inr (e, at)) = each-number 0 s.declarations n (entity e) at

  -- where the name in it, if it is one, has its shape
  pub form-shape : (k : DataType) (n : ℕ) → slice_get (all_data_types s) n ≡ Some k → IsKnown s k
      → ((m : Name) (j : ℕ) → k ≡ named m → HasNumber s m j → IsDeclaredAt s declared j)
      → IsShapeOf s k (shape_by declared n (form_in s k))
  form-shape integer n at known of = (of_numbers, its s integer of_numbers refl, refl)
  form-shape number n at known of = (of_numbers, its s number of_numbers refl, refl)
  form-shape boolean n at known of = (of_logicals, its s boolean of_logicals refl, refl)
  form-shape logical n at known of = (of_logicals, its s logical of_logicals refl, refl)
  form-shape (real w) n at known of = (of_numbers, its s (real w) of_numbers refl, refl)
  form-shape (string w) n at known of = (of_strings, its s (string w) of_strings refl, refl)
  form-shape (binary w) n at known of = (of_binaries, its s (binary w) of_binaries refl, refl)
  form-shape (array b o u k) n at known of = (
    of_arrays k,
    its s (array b o u k) (of_arrays k) refl,
    over (all_data_types s) of_arrays n k (element-behind s n (array b o u k) k at refl),
  )
  form-shape (list b u k) n at known of = (
    of_lists k,
    its s (list b u k) (of_lists k) refl,
    over (all_data_types s) of_lists n k (element-behind s n (list b u k) k at refl),
  )
  form-shape (bag b k) n at known of = (
    of_collections k,
    its s (bag b k) (of_collections k) refl,
    over (all_data_types s) of_collections n k (element-behind s n (bag b k) k at refl),
  )
  form-shape (set b k) n at known of = (
    of_collections k,
    its s (set b k) (of_collections k) refl,
    over (all_data_types s) of_collections n k (element-behind s n (set b k) k at refl),
  )
  form-shape (named m) n at known of =
      let (j, h) = named-number m known.0 in
      subst (λ (o : Option ℕ). IsShapeOf s (named m) (shape_by declared n (Named o))) (sym h)
      (of m j refl h m h)

-- what a shown shape leads to is in the list
pub shown-below : (all : List DataType) (x : NumberedShape) (f : TypeShape) → IsShown all x f → LeadsBelow (length all) x
shown-below all Numbers f h = tt
shown-below all Logicals f h = tt
shown-below all Strings f h = tt
shown-below all Binaries f h = tt
shown-below all Items f h = tt
shown-below all Instances f h = tt
shown-below all (Arrays m) f (k, at, is) = within all m k at
shown-below all (Lists m) f (k, at, is) = within all m k at
shown-below all (Collections m) f (k, at, is) = within all m k at
