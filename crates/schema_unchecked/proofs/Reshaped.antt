-- Redeclared attributes with another shape, and the numbers of data types.
use Rattle.std.specs.Prelude.{◌≡◌, ℕ, zero, suc, ◌<◌, Bool, true, false, not, IsTrue, ◌↔◌, List, [], ◌∷◌, ◌++◌, Option, None, Some, length, map, slice_get, get_or}
use Rattle.std.proofs.Common.{refl, ap, sym, subst, ◌∙◌, arith}
use Rattle.std.proofs.lemmas.List.{length-map}
use Rattle.express_syntax.specs.ExpressionViews.{capitals}
use Rattle.express_syntax.specs.declared.tree.Attribute.{Attribute as Written}
use Rattle.express_syntax.specs.Clauses.{name_of}
use Rattle.express_syntax.specs.Views.{attribute_of}
use Rattle.express_syntax.specs.Schemas.{Schema, Declaration, entity, Entity, Explicit, DataType}
use Rattle.schema_semantics.specs.Names.{Name, listed, IsEntity}
use Rattle.schema_semantics.specs.Faults.{IsResolved}
use Rattle.schema_semantics.specs.Attributes.{HasFirstShape}
use Rattle.schema_semantics.specs.Ranks.{derived_name}
use Rattle.schema_semantics.specs.Parts.{HasOtherShape}
use Rattle.schema_semantics.proofs.Lists.{among-map, every-at}
use Rattle.schema_names.specs.Numbers.{HasNumber, IsAt, AreAt, AreNumberRowsOf}
use Rattle.schema_names.proofs.Items.{stays, front-at, back-at, row-at, mapped-at}
use Rattle.schema_names.proofs.Edges.{within}
use Rattle.schema_explicit_attributes.proofs.Distinct.{at-among}
use Rattle.schema_data_types.specs.NumberedTypes.{whole_types, all_data_types, attribute_types, explicit_types, derived_types, inverse_types}
use Rattle.schema_data_types.specs.ShapeTables.{IsKnown}
use Rattle.schema_data_types.specs.Laws.{DataTypesAreKnown}
use Rattle.schema_attributes.specs.steps.Redeclaring.{IsRedeclaredAt}
use Rattle.schema_unchecked.specs.steps.Places.{IsDataTypeAt, AreDataTypesAt}
use Rattle.schema_attribute_references.proofs.Holding.{written-name}

-- what stands at a number of a row
at-row : {A : Type 0} (all : List A) (row : List ℕ) (xs : List A) (j : ℕ) (x : A) → AreAt all row xs
    → slice_get xs j ≡ Some x → (n : ℕ) × (slice_get row j ≡ Some n) × (slice_get all n ≡ Some x)
at-row all row [] j x h at = absurd (cc)
at-row all [] (y ∷ xs) j x h at = absurd (cc)
at-row all (r ∷ row) (y ∷ xs) zero x h at = (r, refl, front-at all r row y xs h ∙ at)
at-row all (r ∷ row) (y ∷ xs) (suc j) x h at = at-row all row xs j x (back-at all r row y xs h) at

pub rows-within : {A : Type 0} (of : Declaration → List A) (all : List A) (ds : List Declaration)
    (rows : List (List ℕ)) (i : ℕ) (d : Declaration) → AreNumberRowsOf of all ds rows → slice_get ds i ≡ Some d
    → i < length rows
rows-within of all ds rows i d h at =
    let same : length (map (map (slice_get all)) rows) ≡ length (map (λ (x : Declaration). map Some (of x)) ds) =
    ap length h in
    let long = length-map rows (map (slice_get all)) in
    let wide = length-map ds (λ (x : Declaration). map Some (of x)) in
    let lt = within ds i d at in
    omega (arith, same, long, wide, lt)

pub data-types-here : (s : Schema) → IsResolved s → DataTypesAreKnown → (rows : List (List ℕ))
    → AreNumberRowsOf whole_types (all_data_types s) s.declarations rows → (i : ℕ) (e : Entity) → IsAt s i (entity e)
    → AreDataTypesAt s (get_or rows i []) e.explicits
data-types-here s r law rows are i e at j x h =
    let one : slice_get (explicit_types e.explicits) j ≡ Some x.data_type =
    mapped-at (λ (y : Explicit). y.data_type) e.explicits j x h in
    let all : slice_get (attribute_types e) j ≡ Some x.data_type =
    stays (explicit_types e.explicits ++ derived_types (listed e.derived)) (inverse_types (listed e.inverses)) j
    x.data_type (stays (explicit_types e.explicits) (derived_types (listed e.derived)) j x.data_type one) in
    let (n, here, is) =
    at-row (all_data_types s) (get_or rows i []) (attribute_types e) j x.data_type
    (row-at whole_types (all_data_types s) s.declarations rows i (entity e) are at) all in (
      n,
      here,
      (
        is,
        every-at (IsKnown s) x.data_type (explicit_types e.explicits)
            ((law s r).1 e (at-among s.declarations i (entity e) at)).0
            (at-among (explicit_types e.explicits) j x.data_type one),
      ),
    )

-- whether an attribute redeclares one with another shape
not-both : (b : Bool) → not b ≡ true → b ≡ true → ⊥
not-both true e f = cc
not-both false e f = cc

is-not : (b : Bool) → (b ≡ true → ⊥) → not b ≡ true
is-not true h = absurd (h refl)
is-not false h = refl

pub other-shape : (s : Schema) (x : Written) (o : Option ℕ) (i n : ℕ) (first : Bool)
    → IsRedeclaredAt s (attribute_of x) o → o ≡ Some i
    → ((p : Name) (k : DataType) → IsEntity s p → HasNumber s p i → slice_get (all_data_types s) n ≡ Some k
    → IsKnown s k → IsTrue first ↔ HasFirstShape s p (capitals (name_of x)) k)
    → (k : DataType) → IsDataTypeAt s n k → IsTrue (not first) ↔ HasOtherShape s (attribute_of x) k
other-shape s x o i n first redeclared-at some told k (is, known) =
    by (subst (IsRedeclaredAt s (attribute_of x)) some redeclared-at)
  where
    by : IsRedeclaredAt s (attribute_of x) (Some i) → IsTrue (not first) ↔ HasOtherShape s (attribute_of x) k
    by (p, a, entity-p, here, redeclares, only) = (forth, back)
      where
        named : capitals (name_of x) ≡ a
        named = written-name x ∙ ap derived_name redeclares.1

        shaped : IsTrue first ↔ HasFirstShape s p a k
        shaped = subst (λ c. IsTrue first ↔ HasFirstShape s p c k) named (told p k entity-p here is known)

        forth : IsTrue (not first) → HasOtherShape s (attribute_of x) k
        forth h = (p, a, redeclares, λ shape. not-both first h (shaped.1 shape))

        back : HasOtherShape s (attribute_of x) k → IsTrue (not first)
        back (q, b, again, never) =
            let (same, so) = only q b again in
            is-not first (λ f. never (subst (λ c. HasFirstShape s q c k) (sym so)
            (subst (λ y. HasFirstShape s y a k) (sym same) (shaped.0 f))))

pub same-shape : (s : Schema) (x : Written) (o : Option ℕ) → IsRedeclaredAt s (attribute_of x) o → o ≡ None
    → (k : DataType) → IsTrue false ↔ HasOtherShape s (attribute_of x) k
same-shape s x o h none k = ((λ e. absurd (cc)), back)
  where
    back : HasOtherShape s (attribute_of x) k → IsTrue false
    back (p, a, redeclares, never) = absurd (subst (IsRedeclaredAt s (attribute_of x)) none h p a redeclares)
