-- What is asked of one name.
use Rattle.std.specs.Prelude.{◌≡◌, ℕ, ◌<◌, Bool, true, false, MatchBool, length, [], ◌∷◌, None, Some}
use Rattle.std.proofs.Common.{refl, inl, inr, ap, sym, ◌∙◌}
use Rattle.express_syntax.specs.Schemas.{Schema, Declaration, type, entity, skipped, Entity}
use Rattle.schema_semantics.specs.Names.{Name, declared_name, declaration_of, IsEntity}
use Rattle.schema_semantics.specs.Faults.{IsMet, a_type, an_entity}
use Rattle.schema_names.specs.Numbers.{number_of, HasNumber, IsAt}
use Rattle.schema_names.proofs.Numbers.{what-stands, stands-at, each-number}
use Rattle.schema_names.proofs.Edges.{within}
use Rattle.schema_faults.specs.steps.Checks.{IsFirstUnmet, is_entity}

module _ (s : Schema) (n : Name) where
  -- it stands for something
  by-what : (d : Declaration) → declared_name d ≡ Some n → declaration_of s.declarations n ≡ Some d
      → IsMet s (a_type n)
  by-what (type t) named stands = inl (t, stands)
  by-what (entity e) named stands = inr (e, stands)
  by-what (skipped p) named stands = absurd (cc)

  pub type-met : (i : ℕ) → HasNumber s n i → IsMet s (a_type n)
  type-met i h =
      let (d, at, named) = what-stands s n i h in
      by-what d named (stands-at s n i h ∙ at)

  -- it stands for nothing
  pub nothing-met : number_of s n ≡ None → (d : Declaration) → declaration_of s.declarations n ≡ Some d → ⊥
  nothing-met none d h = let (i, k) = each-number 0 s.declarations n d h in absurd (cc)

  pub type-unmet : number_of s n ≡ None → IsFirstUnmet s (a_type n ∷ []) n
  type-unmet none = (a_type n, inl (unmet, refl), refl)
    where
      unmet : IsMet s (a_type n) → ⊥
      unmet (inl (t, at)) = nothing-met none (type t) at
      unmet (inr (e, at)) = nothing-met none (entity e) at

  pub no-entity : number_of s n ≡ None → IsEntity s n → ⊥
  no-entity none (e, at) = nothing-met none (entity e) at

  pub entity-unmet : (IsEntity s n → ⊥) → IsFirstUnmet s (an_entity n ∷ []) n
  entity-unmet unmet = (an_entity n, inl (unmet, refl), refl)

  decided : (d : Declaration) (b : Bool) → b ≡ is_entity d → declaration_of s.declarations n ≡ Some d
      → MatchBool b (IsEntity s n) (IsEntity s n → ⊥)
  decided (type t) true e stands = absurd (cc)
  decided (type t) false e stands = λ (x, at). differ x (sym stands ∙ at)
    where
      differ : (x : Entity) → Some (type t) ≡ Some (entity x) → ⊥
      differ x h = absurd (cc)
  decided (entity x) true e stands = (x, stands)
  decided (entity x) false e stands = absurd (cc)
  decided (skipped p) true e stands = absurd (cc)
  decided (skipped p) false e stands = λ (x, at). differ x (sym stands ∙ at)
    where
      differ : (x : Entity) → Some (skipped p) ≡ Some (entity x) → ⊥
      differ x h = absurd (cc)

  -- by what stands at its number
  pub entity-decided : (i : ℕ) → HasNumber s n i → (d : Declaration)
      → ((e : Declaration) → IsAt s i e → d ≡ e) → (b : Bool) → b ≡ is_entity d
      → MatchBool b (IsEntity s n) (IsEntity s n → ⊥)
  entity-decided i h d same b e =
      let (x, at, named) = what-stands s n i h in
      decided d b e (stands-at s n i h ∙ at ∙ ap Some (sym (same x at)))

  pub number-within : (i : ℕ) → HasNumber s n i → i < length s.declarations
  number-within i h = let (x, at, named) = what-stands s n i h in within s.declarations i x at
