use Rattle.std.proofs.Common.{[], sym, subst, refl}
use Rattle.express_syntax.specs.ExpressionViews.{tree_of}
use Rattle.schema_semantics.specs.Sets.{Elements, May}
use Rattle.schema_attribute_references.specs.steps.Taking.{IsSet, schema_in}
use Rattle.schema_expression_types.specs.steps.Scopes.{inside}
use Rattle.schema_expression_analysis.specs.steps.Questions.{own_of_context}
use Rattle.schema_expression_analysis.proofs.variables.push_variable.Goals as goal

pub returns : goal.returns
returns c =
    let x = c.args.context.now in
    let s = schema_in x.known in
    record {
      variable = record { name = c.args.name; may = c.in_ok-may.may };
      last = c.in_ok-push.ensures.items;
      called = refl;
      may =
          subst (λ ws. IsSet s (Elements s (May s (own_of_context x) (inside s ws []) (tree_of c.args.source.now)))
          c.in_ok-may.may.items) c.deref.ensures.value c.in_ok-may.ensures;
    }
