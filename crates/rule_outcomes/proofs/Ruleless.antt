-- Where there are no rules nothing is said of them.
use Rattle.std.specs.Prelude.{◌≡◌, ℕ, List, [], ◌∷◌, ◌++◌, length, flat_map}
use Rattle.std.proofs.Common.{refl, ap, sym, subst, ◌∙◌, arith}
use Rattle.std.proofs.lemmas.List.Concat.{flat_map-cons}
use Rattle.express_syntax.specs.Schemas.{Schema}
use Rattle.conformance.specs.Bases.{Domain}
use Rattle.conformance.specs.Entities.{Entities}
use Rattle.conformance.specs.Populations.{Instance}
use Rattle.schema_constraints.specs.declared.finding.RuleFinding.{RuleFinding}
use Rattle.schema_constraints.specs.declared.finding.RuleFindingKind.TheVariants.{WhereFalse}
use Rattle.schema_constraints.specs.Findings.{AreFindingsOf}
use Rattle.conformance.specs.Attributes.{Attributes}
use Rattle.conformance.specs.DomainFindings.{rule_findings, unknown}

pub no-rules : {A : Type 0} (xs : List A) → length xs ≡ 0 → xs ≡ []
no-rules [] e = refl
no-rules (x ∷ xs) e = absurd (omega (arith, e))

flat-none : {A B : Type 0} (f : A → List B) → ((x : A) → f x ≡ []) → (xs : List A) → flat_map f xs ≡ []
flat-none f h [] = refl
flat-none f h (x ∷ xs) = flat_map-cons f x xs ∙ ap (λ l. l ++ flat_map f xs) (h x) ∙ flat-none f h xs

module _ (s : Schema) (d : Domain) (en : Entities) (attributes : Attributes) (is : List Instance) where
  pub none-false : (fs : List RuleFinding) → fs ≡ []
      → AreFindingsOf WhereFalse (rule_findings s d en attributes is []) fs
  none-false fs e =
      subst (λ bs. AreFindingsOf WhereFalse bs fs) (sym (flat-none _ (λ x. refl) is))
      (subst (AreFindingsOf WhereFalse []) (sym e) tt)

  pub none-unknown : unknown s d en attributes is [] ≡ 0
  none-unknown = ap length (flat-none _ (λ x. refl) is)
