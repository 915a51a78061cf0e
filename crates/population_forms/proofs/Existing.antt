-- There are functions that say what entities say.
use Rattle.std.specs.Prelude.{◌≡◌, ℕ, Bool, true, false, ◌||◌, Option, None, Some, bytes_eq, ◌⊎◌, ◌↔◌, IsTrue}
use Rattle.std.proofs.Common.{refl, inl, inr, ap, ◌∙◌}
use Rattle.std.proofs.lemmas.Slice.Eq.{bytes_eq-Decides}
use Rattle.graphs.specs.Graphs.{Graph, has, next}
use Rattle.express_syntax.specs.Schemas.{Schema, entity}
use Rattle.schema_semantics.specs.Names.{Name, IsEntity, IsSubtypeOf, IsBelow, IsKindOf}
use Rattle.schema_semantics.specs.Faults.{IsResolved}
use Rattle.schema_semantics.proofs.Lists.{first-step}
use Rattle.schema_semantics.proofs.Bools.{or-left, or-right}
use Rattle.schema_semantics.proofs.Recursion.{make_places, solution}
use Rattle.schema_names.specs.Numbers.{number_of, HasNumber}
use Rattle.schema_names.proofs.Numbers.{each-number}
use Rattle.schema_explicit_attributes.specs.Supertypes.{AreAbove}
use Rattle.schema_redeclarations.specs.Uses.{AreSaid}
use Rattle.conformance.specs.Entities.{Entities, AreEntities}
use Rattle.population_forms.proofs.Kindred.{either, below-entity, above-forth, above-back}

module _ (s : Schema) (r : IsResolved s) (rows : Graph) (h : AreAbove s rows) where
  -- what has a row's number is below what has the other number
  leads : Option ℕ → Option ℕ → Bool
  leads None o = false
  leads (Some i) None = false
  leads (Some i) (Some j) = has (next rows i) j

  kind : Name → Name → Bool
  kind a b = bytes_eq a b || leads (number_of s a) (number_of s b)

  numbered : (n : Name) → IsEntity s n → (i : ℕ) × HasNumber s n i
  numbered n (e, at) = each-number 0 s.declarations n (entity e) at

  leads-forth : (a b : Name) (x y : Option ℕ) → number_of s a ≡ x → number_of s b ≡ y → leads x y ≡ true → IsBelow s a b
  unfolding leads
  leads-forth a b None y k l e = absurd (cc)
  leads-forth a b (Some i) None k l e = absurd (cc)
  leads-forth a b (Some i) (Some j) k l e = above-forth s r rows h a b i j k l e

  leads-back : (a b : Name) → IsBelow s a b → leads (number_of s a) (number_of s b) ≡ true
  unfolding leads
  leads-back a b below =
      let (m, (e, at, among)) = first-step (IsSubtypeOf s) a b below in
      let (i, k) = numbered a (e, at) in
      let (j, l) = numbered b (below-entity s r a b below) in
      ap (λ x. leads x (number_of s b)) k ∙ ap (leads (Some i)) l ∙ above-back s r rows h a b i j k l below

  kinds-are : (a b : Name) → IsTrue (kind a b) ↔ IsKindOf s a b
  unfolding kind
  kinds-are a b = (λ e. forth (either (bytes_eq a b) (leads (number_of s a) (number_of s b)) e), back)
    where
      forth : (bytes_eq a b ≡ true) ⊎ (leads (number_of s a) (number_of s b) ≡ true) → IsKindOf s a b
      forth (inl e) = inl ((bytes_eq-Decides a b).0 e)
      forth (inr e) = inr (leads-forth a b (number_of s a) (number_of s b) refl refl e)

      back : IsKindOf s a b → (bytes_eq a b || leads (number_of s a) (number_of s b)) ≡ true
      back (inl same) = or-left (bytes_eq a b) (leads (number_of s a) (number_of s b)) ((bytes_eq-Decides a b).1 same)
      back (inr below) = or-right (bytes_eq a b) (leads (number_of s a) (number_of s b)) (leads-back a b below)

  pub entities-are : AreSaid s → (en : Entities) × AreEntities s en
  entities-are said = (
    record {
      is_kind_of = kind;
      places = (solution s r make_places).0;
      declarations = said.declarations;
      derives = said.derives;
    },
    record {
      kinds = kinds-are;
      places = (solution s r make_places).1;
      declarations = said.declared;
      derives = said.derived;
    },
  )
