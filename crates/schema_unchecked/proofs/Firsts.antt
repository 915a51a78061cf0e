-- The first reasons of bodies.
use Rattle.std.specs.Prelude.{◌≡◌, ℕ, ◌<◌, Bool, true, false, cond, ◌||◌, List, [], ◌∷◌, Option, Some, None, slice_get, ◌⊎◌, ◌↔◌, IsTrue}
use Rattle.std.specs.List.{list_any}
use Rattle.std.proofs.Common.{refl, inl, inr, ap, ◌∙◌, arith}
use Rattle.express_syntax.specs.Trees.{Tree}
use Rattle.express_syntax.specs.Schemas.{Schema, Body, parsed, set_aside}
use Rattle.schema_semantics.specs.declared.unchecked.Reason.{Reason}
use Rattle.schema_semantics.specs.declared.unchecked.Reason.TheVariants as reasons
use Rattle.schema_semantics.specs.Names.{IsFirst}
use Rattle.schema_semantics.specs.Attributes.{Derivation}
use Rattle.schema_semantics.specs.Sets.{Set}
use Rattle.schema_semantics.specs.Reasons.{GivesReason, HasLooseAggregate, HasUnclearName, HasBadTypeof, HasBadKind}
use Rattle.schema_semantics.specs.Ranks.{IsSetAside, HasReason}
use Rattle.schema_semantics.specs.Parts.{all_reasons}
use Rattle.schema_attributes.specs.Derivations.{all_derivations, HoldsDerivation}
use Rattle.schema_derived_attributes.specs.AttributeRanks.{AreRanksOf}
use Rattle.schema_derived_attributes.proofs.Ranked.{below-end, something-at}
use Rattle.schema_expression_analysis.specs.declared.survey.Survey.{Survey}
use Rattle.schema_expression_analysis.specs.steps.Surveys.{IsSurvey}
use Rattle.schema_unchecked.specs.declared.judgement.Judgement.{Judgement}
use Rattle.schema_unchecked.specs.steps.Judging.{IsFirstReason, IsJudged, IsReasonFor}
use Rattle.schema_unchecked.specs.steps.Surveyed.{first_found, is_aside, has_no_rank, or_leads, reason_with}

module _ (s : Schema) (self : Set) where
  -- by itself
  free : {A : Type 0} → IsTrue false ↔ A → A → ⊥
  free h a = let no-way : false ≡ true = h.1 a in absurd (cc)

  pub first-is : (x : Tree) (t : Survey) → IsSurvey s self x t → IsFirstReason (GivesReason s self (parsed x)) (first_found t)
  first-is x t h =
      by t.has_loose_aggregate t.has_unclear_name t.has_bad_typeof t.has_bad_kind h.aggregate h.name h.bad_typeof h.kind
    where
      by : (a n y k : Bool) → IsTrue a ↔ HasLooseAggregate s self x → IsTrue n ↔ HasUnclearName s self x
          → IsTrue y ↔ HasBadTypeof s self x → IsTrue k ↔ HasBadKind s self x
          → IsFirstReason (GivesReason s self (parsed x)) (cond a (Some reasons.Profile) (cond n (Some reasons.Name)
          (cond y (Some reasons.Typeof) (cond k (Some reasons.Kind) None))))
      by true n y k p q u v = inr ((λ z. z), inl (p.0 refl, refl))
      by false true y k p q u v = inr ((λ z. z), inr (free p, inl (q.0 refl, refl)))
      by false false true k p q u v = inr ((λ z. z), inr (free p, inr (free q, inl (u.0 refl, refl))))
      by false false false true p q u v =
          inr ((λ z. z), inr (free p, inr (free q, inr (free u, inl (v.0 refl, refl)))))
      by false false false false p q u v = none
        where
          none : (r : Reason) → GivesReason s self (parsed x) r → ⊥
          none reasons.Skipped z = z
          none reasons.Profile z = free p z
          none reasons.Name z = free q z
          none reasons.Typeof z = free u z
          none reasons.Kind z = free v z
          none reasons.Leads z = z

  -- with what it leads to
  no-leads : (b : Body) → GivesReason s self b reasons.Leads → ⊥
  no-leads (parsed x) z = z
  no-leads (set_aside r) z = z

  some-first : (b : Body) (r : Reason) → IsFirst (GivesReason s self b) all_reasons r
      → IsFirst (HasReason s self b) all_reasons r
  some-first b r (inl h) = inl h
  some-first b r (inr (n, inl h)) = inr (n, inl h)
  some-first b r (inr (n, inr (o, inl h))) = inr (n, inr (o, inl h))
  some-first b r (inr (n, inr (o, inr (p, inl h)))) = inr (n, inr (o, inr (p, inl h)))
  some-first b r (inr (n, inr (o, inr (p, inr (q, inl h))))) = inr (n, inr (o, inr (p, inr (q, inl h))))
  some-first b r (inr (n, inr (o, inr (p, inr (q, inr (u, inl (h, e))))))) = absurd (no-leads b h)
  some-first b r (inr (n, inr (o, inr (p, inr (q, inr (u, inr (v, h))))))) = elim h [ ]

  module _ (ranks : List (Option ℕ)) (are : AreRanksOf s ranks) where
    aside-at : (o : Option (Option ℕ)) → has_no_rank o ≡ true → o ≡ Some None
    aside-at None e = absurd (cc)
    aside-at (Some None) e = refl
    aside-at (Some (Some r)) e = absurd (cc)

    any-to : (ns : List ℕ) → list_any (is_aside ranks) ns ≡ true → (u : Derivation) × HoldsDerivation s ns u
        × IsSetAside s u
    any-to [] e = absurd (cc)
    any-to (n ∷ ns) e = by (is_aside ranks n) refl e (any-to ns)
      where
        by : (b : Bool) → is_aside ranks n ≡ b → (b || list_any (is_aside ranks) ns) ≡ true
            → (list_any (is_aside ranks) ns ≡ true → (u : Derivation) × HoldsDerivation s ns u × IsSetAside s u)
            → (u : Derivation) × HoldsDerivation s (n ∷ ns) u × IsSetAside s u
        by true is k more =
            let at = aside-at (slice_get ranks n) is in
            let lt = below-end ranks n None at in
            let same = are.same in
            let (u, h) = something-at (all_derivations s) n (omega (arith, lt, same)) in
            (u, inl h, (are.aside n u h).0 at)
        by false is k more = let (u, h, aside) = more k in (u, inr h, aside)

    any-from : (ns : List ℕ) (u : Derivation) → HoldsDerivation s ns u → IsSetAside s u
        → list_any (is_aside ranks) ns ≡ true
    any-from [] u h aside = elim h [ ]
    any-from (n ∷ ns) u (inl h) aside =
        ap (λ o. has_no_rank o || list_any (is_aside ranks) ns) ((are.aside n u h).1 aside)
    any-from (n ∷ ns) u (inr h) aside = further (is_aside ranks n) (any-from ns u h aside)
      where
        further : (b : Bool) → list_any (is_aside ranks) ns ≡ true → (b || list_any (is_aside ranks) ns) ≡ true
        further true e = refl
        further false e = e

    pub reason-is : (b : Body) (j : Judgement) → IsJudged s self b j → IsReasonFor s self b (reason_with ranks j)
    reason-is b j h = by j.reason h.reason (list_any (is_aside ranks) j.uses.items) refl
      where
        by : (o : Option Reason) → IsFirstReason (GivesReason s self b) o → (c : Bool)
            → list_any (is_aside ranks) j.uses.items ≡ c → IsReasonFor s self b (or_leads o c)
        by (Some r) first c e = some-first b r first
        by None none true e =
            let (u, holds, aside) = any-to j.uses.items e in
            inr (
              none reasons.Skipped,
              inr (
                none reasons.Profile,
                inr (
                  none reasons.Name,
                  inr (
                    none reasons.Typeof,
                    inr (none reasons.Kind, inl ((u, (h.uses u).0 holds, aside), refl)),
                  ),
                ),
              ),
            )
        by None none false e = nothing
          where
            nothing : (r : Reason) → HasReason s self b r → ⊥
            nothing reasons.Skipped z = none reasons.Skipped z
            nothing reasons.Profile z = none reasons.Profile z
            nothing reasons.Name z = none reasons.Name z
            nothing reasons.Typeof z = none reasons.Typeof z
            nothing reasons.Kind z = none reasons.Kind z
            nothing reasons.Leads (u, may, aside) =
                let yes = any-from j.uses.items u ((h.uses u).1 may) aside in absurd (cc)
