-- What is found in a whole expression, from nothing on.
use Rattle.std.specs.Prelude.{◌≡◌, false, IsTrue, ◌↔◌, ◌⊎◌, List, []}
use Rattle.std.proofs.Common.{inl, inr, subst}
use Rattle.express_syntax.specs.Trees.{Tree}
use Rattle.express_syntax.specs.Schemas.{Schema}
use Rattle.schema_semantics.specs.Sets.{Set}
use Rattle.schema_expression_types.specs.declared.scope.Variable.{Variable as Numbered}
use Rattle.schema_expression_analysis.specs.declared.survey.Survey.{Survey}
use Rattle.schema_expression_analysis.specs.steps.Findings.{Finding, aggregate, unclear, bad_typeof, bad_kind, asked, IsFound, Within, Finds, Walks}
use Rattle.schema_expression_types.specs.steps.Scopes.{inside}
use Rattle.schema_expression_analysis.specs.steps.Surveys.{IsSurvey}

pub whole : (s : Schema) (self : Set) (x : Tree) (none some : Survey) (before after : List Numbered)
    → before ≡ [] → ((s : Schema) (f : Finding) → IsFound s none f → ⊥)
    → Walks s before none (λ vs f. Within s self f false vs x) after some → IsSurvey s self x some
whole s self x none some before after no-variables empty h = record {
  aggregate = found aggregate;
  name = found unclear;
  bad_typeof = found bad_typeof;
  kind = found bad_kind;
  uses = λ d. found (asked d);
}
  where
    found : (f : Finding) → IsFound s some f ↔ Within s self f false [] x
    found f =
        let is = (subst (λ vs. Finds s none (λ f. Within s self f false (inside s vs []) x) some) no-variables h.finds) f in
        ((λ k. forth (is.0 k)), (λ k. is.1 (inr k)))
      where
        forth : IsFound s none f ⊎ Within s self f false [] x → Within s self f false [] x
        forth (inl k) = absurd (empty s f k)
        forth (inr k) = k
