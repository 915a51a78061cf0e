-- What declarations give together, one by one.
use Rattle.std.specs.Prelude.{◌≡◌, ℕ, ◌+◌, ◌<◌, List, [], ◌∷◌, ◌++◌, length, get_or, take, ◌⊎◌, ◌↔◌}
use Rattle.std.proofs.Common.{inl, inr, sym, subst, ◌∙◌}
use Rattle.express_syntax.specs.Schemas.{Schema, DataType}
use Rattle.schema_semantics.specs.Shapes.{Atom, IsOf}
use Rattle.schema_names.proofs.Rows.{take-more}
use Rattle.schema_data_types.specs.declared.values.Atom.{Atom as Numbered}
use Rattle.schema_data_types.specs.steps.Values.{Holds, AddsAll}
use Rattle.schema_attributes.specs.declared.declaration.AttributeDeclaration.{AttributeDeclaration}
use Rattle.schema_attributes.specs.steps.Declarations.{GivesType}
use Rattle.schema_attribute_references.specs.steps.Gathering.{IsOfOne}
use Rattle.schema_attribute_references.proofs.Filtering.{some-is, one-left, one-right, one-either}

module _ (s : Schema) where
  abbrev OfThis : Atom → AttributeDeclaration → Type 0
  OfThis a x = (k : DataType) × GivesType s k x × IsOf s k a

  pub values-more : (xs : List AttributeDeclaration) (i : ℕ) (x : AttributeDeclaration) (k : DataType)
      (old new : List Numbered) → i < length xs → x ≡ get_or xs i x → GivesType s k x
      → ((a : Atom) → Holds s old a ↔ IsOfOne s (take i xs) a) → AddsAll s old (IsOf s k) new
      → (a : Atom) → Holds s new a ↔ IsOfOne s (take (i + 1) xs) a
  values-more xs i x k old new lt at gives h adds a =
      subst (λ ys. Holds s new a ↔ IsOfOne s ys a) (sym (take-more xs i x lt at)) (
        (λ m. forth ((adds a).0 m)),
        (λ m. (adds a).1 (back (one-either (OfThis a) (take i xs) (x ∷ []) m))),
      )
    where
      forth : Holds s old a ⊎ IsOf s k a → IsOfOne s (take i xs ++ x ∷ []) a
      forth (inl m) = one-left (OfThis a) (take i xs) (x ∷ []) ((h a).0 m)
      forth (inr p) = one-right (OfThis a) (take i xs) (x ∷ []) (inl (k, gives, p))

      back : IsOfOne s (take i xs) a ⊎ IsOfOne s (x ∷ []) a → Holds s old a ⊎ IsOf s k a
      back (inl m) = inl ((h a).1 m)
      back (inr (inl (l, other, p))) =
          inr (subst (λ t. IsOf s t a) (some-is l k (sym other ∙ gives)) p)
      back (inr (inr m)) = elim m [ ]
