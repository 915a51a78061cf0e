-- What holds in the scope of a context holds of the context.
use Rattle.std.proofs.Common.{◌≡◌, List, [], subst}
use Rattle.express_syntax.specs.Schemas.{Schema}
use Rattle.schema_semantics.specs.Sets.{Set, QueryVariable}
use Rattle.schema_data_types.specs.steps.Values.{Holds}
use Rattle.schema_attribute_references.specs.steps.Taking.{schema_in}
use Rattle.schema_expression_types.specs.declared.scope.Variable.{Variable as Numbered}
use Rattle.schema_expression_types.specs.declared.scope.Scope.{Scope}
use Rattle.schema_expression_types.specs.steps.Scopes.{inside, own_in, variables_in}
use Rattle.schema_expression_analysis.specs.declared.context.Context.{Context}
use Rattle.schema_expression_analysis.specs.steps.Questions.{own_of_context}

pub around : (t : Scope) (x : Context) (ws : List Numbered) → schema_in t.known ≡ schema_in x.known
    → t.own.now ≡ x.own.now → t.variables.now ≡ ws → (P : Schema → Set → List QueryVariable → Type 0)
    → P (schema_in t.known) (own_in t) (variables_in t)
    → P (schema_in x.known) (own_of_context x) (inside (schema_in x.known) ws [])
around t x ws e f g P h =
    let s = schema_in x.known in
    subst (λ v. P s (own_of_context x) (inside s v [])) g
    (subst (λ o. P s (Holds s o) (inside s t.variables.now [])) f
    (subst (λ r. P r (Holds r t.own.now) (inside r t.variables.now [])) e h))
