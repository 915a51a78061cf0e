-- The entities that declare what a name in a UNIQUE rule means, by number.
use Rattle.std.specs.Prelude.{◌≡◌, ℕ, true, false, List, [], ◌∷◌, None, Some}
use Rattle.std.proofs.Common.{refl, inl, inr, sym, subst, ◌∙◌}
use Rattle.graphs.specs.Graphs.{has}
use Rattle.express_syntax.specs.Schemas.{Schema, Attribute, own, redeclared}
use Rattle.schema_semantics.specs.Names.{Name, Among, IsEntity, Has, Declares}
use Rattle.schema_semantics.specs.Ranks.{derived_name}
use Rattle.schema_names.specs.Numbers.{number_of, HasNumber}
use Rattle.schema_names.proofs.Numbers.{one-name}
use Rattle.schema_explicit_attributes.specs.declared.own_attributes.Meant.TheVariants.{All}
use Rattle.schema_explicit_attributes.proofs.Having.{has-none}
use Rattle.schema_attribute_references.specs.steps.Named.{AreNumbersOf, AreHolders}
use Rattle.schema_attribute_references.proofs.Members.{has-among, among-has}
use Rattle.conformance.specs.Rules.{MeansAttribute}

pub means-name : (s : Schema) (e : Name) (x : Attribute) (p a : Name) → MeansAttribute s e x p a → a ≡ derived_name x
means-name s e (own n) p a h = sym h.0
means-name s e (redeclared q n) p a h = sym h.0

pub means-entity : (s : Schema) (e : Name) (x : Attribute) (p a : Name) → MeansAttribute s e x p a → IsEntity s p
means-entity s e (own n) p a (same, (kind, (y, at, m))) = (y, at)
means-entity s e (redeclared q n) p a (same, (under, (y, at, m)), only) = (y, at)

some-number : (i j : ℕ) → Some i ≡ Some j → i ≡ j
some-number i j e = cc

-- an attribute that an entity has
pub means-own : (s : Schema) (e a : Name) (row : List ℕ) → AreHolders s e a row
    → AreNumbersOf s (λ p. MeansAttribute s e (own a) p a) row
means-own s e a row are = record {
  forth = λ i m. let (p, k, h) = are.forth i m in (p, k, (refl, h));
  back = λ p h. are.back p h.1;
}

-- behind a name of nothing
pub means-nothing : (s : Schema) (e q a : Name) → number_of s q ≡ None
    → AreNumbersOf s (λ p. MeansAttribute s e (redeclared q a) p a) []
means-nothing s e q a none = record {
  forth = λ i m. absurd m;
  back = λ p h. absurd (has-none s All a q none (p, h.1.0, h.1.1.0, h.1.1.1, h.1.1.2));
}

module _ (s : Schema) (e q a : Name) (g : ℕ) (group : HasNumber s q g) (row : List ℕ) (are : AreHolders s q a row) where
  abbrev Means : Name → Type 0
  Means p = MeansAttribute s e (redeclared q a) p a

  -- the group declares it itself
  owned : has row g ≡ true → Has s q q a
  owned h =
      let (p, there, held) = are.forth g (has-among row g h) in
      subst (λ y. Has s q y a) (one-name s p q g there group) held

  pub means-own-only : has row g ≡ true → AreNumbersOf s (λ p. MeansAttribute s e (redeclared q a) p a) (g ∷ [])
  means-own-only h = record { forth = forth; back = back }
    where
      forth : (j : ℕ) → Among j (g ∷ []) → (p : Name) × HasNumber s p j × Means p
      forth j (inl is) = (q, subst (HasNumber s q) is group, (refl, owned h, (λ d. refl)))
      forth j (inr m) = absurd m

      back : (p : Name) → Means p → (j : ℕ) × HasNumber s p j × Among j (g ∷ [])
      back p (same, held, own-first) = (g, subst (λ y. HasNumber s y g) (sym (own-first (owned h).1)) group, inl refl)

  -- it inherits it, from one entity or several
  not-own : has row g ≡ false → Declares s q a → ⊥
  not-own none d =
      let (l, at, m) = are.back q (inl refl, d) in
      let there = among-has row g (subst (λ j. Among j row) (some-number l g (sym at ∙ group)) m) in
      let wrong : true ≡ false = sym there ∙ none in absurd (cc)

  pub means-inherited : has row g ≡ false → AreNumbersOf s (λ p. MeansAttribute s e (redeclared q a) p a) row
  means-inherited none = record {
    forth = λ j m. let (p, there, held) = are.forth j m in (p, there, (refl, held, (λ d. absurd (not-own none d))));
    back = λ p h. are.back p h.1;
  }
