-- The first of some types that has a name.
use Rattle.std.specs.Prelude.{◌≡◌, ℕ, Bool, true, false, cond, List, [], ◌∷◌, None, Some, bytes_eq}
use Rattle.std.proofs.Common.{refl, ap, sym, subst, inl, inr, ◌∙◌}
use Rattle.std.proofs.lemmas.Slice.Eq.{bytes_eq-Decides}
use Rattle.graphs.specs.Graphs.{has}
use Rattle.express_syntax.specs.Schemas.{Schema}
use Rattle.schema_semantics.specs.Names.{Name}
use Rattle.schema_underlying_types.specs.BaseViews.{name_at}
use Rattle.schema_attribute_sources.specs.steps.Grouping.{first_named}
use Rattle.schema_attribute_sources.proofs.Members.{differ, has-first, has-later, has-split}

module _ (s : Schema) (e : Name) where
  pub first-is : (types : List ℕ) (i : ℕ) → first_named s e types ≡ Some i → (has types i ≡ true) × (name_at s i ≡ e)
  first-is [] i h = absurd (cc)
  first-is (x ∷ xs) i h = by (first-is xs i) (bytes_eq (name_at s x) e) refl h
    where
      by : (first_named s e xs ≡ Some i → (has xs i ≡ true) × (name_at s i ≡ e)) → (b : Bool)
          → bytes_eq (name_at s x) e ≡ b → cond b (Some x) (first_named s e xs) ≡ Some i
          → (has (x ∷ xs) i ≡ true) × (name_at s i ≡ e)
      by later true t k =
          let same : x ≡ i = cc in (
            subst (λ y. has (x ∷ xs) y ≡ true) same (has-first x xs),
            ap (name_at s) (sym same) ∙ (bytes_eq-Decides (name_at s x) e).0 t,
          )
      by later false t k = let (m, is) = later k in (has-later x i xs m, is)

  pub first-none : (types : List ℕ) → first_named s e types ≡ None → (j : ℕ) → has types j ≡ true → name_at s j ≡ e → ⊥
  first-none [] h j m is = absurd (cc)
  first-none (x ∷ xs) h j m is = by (λ k l. first-none xs k j l is) (bytes_eq (name_at s x) e) refl h
    where
      by : (first_named s e xs ≡ None → has xs j ≡ true → ⊥) → (b : Bool) → bytes_eq (name_at s x) e ≡ b
          → cond b (Some x) (first_named s e xs) ≡ None → ⊥
      by later true t k = absurd (cc)
      by later false t k =
          elim (has-split x j xs m) [
            | inl q ↦ differ (bytes_eq (name_at s x) e)
                ((bytes_eq-Decides (name_at s x) e).1 (ap (name_at s) (sym q) ∙ is)) t
            | inr l ↦ later k l
          ]
