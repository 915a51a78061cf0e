-- The table of the shapes of all data types.
use Rattle.std.specs.Prelude.{◌≡◌, ℕ, ◌+◌, ◌<◌, List, [], ◌∷◌, ◌++◌, Option, None, Some, ◌⊎◌, map, length, slice_get, get_or}
use Rattle.std.proofs.Common.{refl, inl, inr, ap, sym, subst, ◌∙◌, zero, suc, arith}
use Rattle.std.proofs.lemmas.List.{length-map, length-append}
use Rattle.std.proofs.lemmas.Option.{slice_get-get_or}
use Rattle.express_syntax.specs.Schemas.{Schema, DataType, integer, number, boolean, logical, real, string, binary, named, array, list, bag, set}
use Rattle.schema_semantics.specs.Names.{Name}
use Rattle.schema_names.specs.Numbers.{number_of}
use Rattle.schema_names.proofs.Edges.{within}
use Rattle.schema_data_types.specs.declared.forms.Form.{Form}
use Rattle.schema_data_types.specs.declared.forms.Form.TheVariants.{Named}
use Rattle.schema_data_types.specs.NumberedTypes.{all_data_types, form_in}
use Rattle.schema_data_types.specs.declared.shapes.Shape.{Shape}
use Rattle.schema_data_types.specs.declared.shapes.Shape.TheVariants.{Instances}
use Rattle.schema_data_types.specs.steps.Alike.{LeadsBelow}
use Rattle.schema_data_types.specs.ShapeTables.{IsShapeOf, AreShapes}
use Rattle.schema_data_types.specs.steps.Making.{shape_declared, shape_by, shape_seen, AreDeclared}
use Rattle.schema_data_types.proofs.Elements.{element, element-behind}
use Rattle.schema_data_types.proofs.Shown.{form-shape, shown-below}
use Rattle.schema_names.proofs.Items.{mapped-at}

-- each shape so far is that of its form
abbrev pub AreMade : List Form → List Shape → List Shape → Type 0
AreMade forms declared shapes =
    (n : ℕ) (x : Shape) → slice_get shapes n ≡ Some x → x ≡ shape_seen declared n (slice_get forms n)

at-end : (xs : List Shape) (y : Shape) (n : ℕ) (x : Shape) → slice_get (xs ++ y ∷ []) n ≡ Some x
    → (slice_get xs n ≡ Some x) ⊎ ((n ≡ length xs) × (y ≡ x))
at-end [] y zero x h = inr (refl, cc)
at-end [] y (suc n) x h = absurd (cc)
at-end (z ∷ xs) y zero x h = inl h
at-end (z ∷ xs) y (suc n) x h = by (at-end xs y n x h)
  where
    by : (slice_get xs n ≡ Some x) ⊎ ((n ≡ length xs) × (y ≡ x))
        → (slice_get (z ∷ xs) (suc n) ≡ Some x) ⊎ ((suc n ≡ length (z ∷ xs)) × (y ≡ x))
    by (inl k) = inl k
    by (inr (e, k)) = inr (ap suc e, k)

pub made-more : (forms : List Form) (declared shapes : List Shape) (y : Shape) (i : ℕ) → length shapes ≡ i
    → y ≡ shape_seen declared i (slice_get forms i) → AreMade forms declared shapes
    → AreMade forms declared (shapes ++ y ∷ [])
made-more forms declared shapes y i count is so n x h = by (at-end shapes y n x h)
  where
    by : (slice_get shapes n ≡ Some x) ⊎ ((n ≡ length shapes) × (y ≡ x)) → x ≡ shape_seen declared n (slice_get forms n)
    by (inl k) = so n x k
    by (inr (e, k)) =
        let same : i ≡ n = sym count ∙ sym e in
        sym k ∙ is ∙ ap (λ (m : ℕ). shape_seen declared m (slice_get forms m)) same

module _ (s : Schema) (declared : List Shape) (shown : AreDeclared s declared) where
  named-below : (m : Name) (n : ℕ) (o : Option ℕ) → number_of s m ≡ o
      → LeadsBelow (length (all_data_types s)) (shape_by declared n (Named o))
  named-below m n None e = tt
  named-below m n (Some j) e =
      let (f, shape, is) = shown j m e in shown-below (all_data_types s) (shape_declared declared j) f is

  next-below : (k e : DataType) (n : ℕ) → slice_get (all_data_types s) n ≡ Some k → element k ≡ Some e
      → n + 1 < length (all_data_types s)
  next-below k e n at is =
      let lt = within (all_data_types s) (suc n) e (element-behind s n k e at is) in omega arith

  form-below : (k : DataType) (n : ℕ) → slice_get (all_data_types s) n ≡ Some k
      → LeadsBelow (length (all_data_types s)) (shape_by declared n (form_in s k))
  form-below integer n at = tt
  form-below number n at = tt
  form-below boolean n at = tt
  form-below logical n at = tt
  form-below (real w) n at = tt
  form-below (string w) n at = tt
  form-below (binary w) n at = tt
  form-below (array b o u k) n at = next-below (array b o u k) k n at refl
  form-below (list b u k) n at = next-below (list b u k) k n at refl
  form-below (bag b k) n at = next-below (bag b k) k n at refl
  form-below (set b k) n at = next-below (set b k) k n at refl
  form-below (named m) n at = named-below m n (number_of s m) refl

  pub are-shapes : (forms : List Form) → forms ≡ map (form_in s) (all_data_types s) → (shapes : List Shape)
      → length shapes ≡ length forms → AreMade forms declared shapes → AreShapes s shapes
  are-shapes forms is shapes count made = record {
    same = long;
    table = λ n x at.
        (let lt = within shapes n x at in
        let (k, there) = at-index n (omega (arith, lt, long)) in
        subst (λ m. LeadsBelow m x) (sym long)
        (subst (LeadsBelow (length (all_data_types s))) (sym (made n x at ∙ form-at n k there))
        (form-below k n there)));
    each = λ n k there known.
        (let lt = within (all_data_types s) n k there in
        let at = slice_get-get_or shapes n Instances (omega (arith, lt, long)) in
        let x = get_or shapes n Instances in (
          x,
          at,
          subst (IsShapeOf s k) (sym (made n x at ∙ form-at n k there))
              (form-shape s declared k n there known (λ m j same h. shown j)),
        ));
  }
    where
      long : length shapes ≡ length (all_data_types s)
      long = count ∙ ap length is ∙ length-map (all_data_types s) (form_in s)

      form-at : (n : ℕ) (k : DataType) → slice_get (all_data_types s) n ≡ Some k
          → shape_seen declared n (slice_get forms n) ≡ shape_by declared n (form_in s k)
      form-at n k there =
          ap (λ (xs : List Form). shape_seen declared n (slice_get xs n)) is
          ∙ ap (shape_seen declared n) (mapped-at (form_in s) (all_data_types s) n k there)

      at-index : (n : ℕ) → n < length (all_data_types s) → (k : DataType) × (slice_get (all_data_types s) n ≡ Some k)
      at-index n lt = (get_or (all_data_types s) n integer, slice_get-get_or (all_data_types s) n integer lt)

pub count-more : (xs ys : List Shape) (y : Shape) (i : ℕ) → length xs ≡ i → ys ≡ xs ++ y ∷ [] → length ys ≡ i + 1
count-more xs ys y i count is =
    let long = length-append xs (y ∷ []) in
    let all : length ys ≡ length (xs ++ y ∷ []) = ap length is in omega (arith, count, long, all)
