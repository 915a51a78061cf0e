use Rattle.std.proofs.Common.{inl, refl}
use Rattle.express_syntax.specs.ExpressionViews.{tree_of}
use Rattle.schema_attribute_references.specs.steps.Taking.{schema_in}
use Rattle.schema_expression_analysis.specs.steps.Questions.{may_in}
use Rattle.schema_expression_analysis.proofs.Tests.{nothing-holds, tests-none, tests-bare}
use Rattle.schema_expression_analysis.proofs.comparisons.tests_type.Goals as goal

pub returns-then-is_entity : goal.returns-then-is_entity
returns-then-is_entity c n k = ((λ e. inl ((c.is_entity.ensures n k).0 c.if-is_entity.true)), (λ e. refl))

pub returns-then-is_over_select : goal.returns-then-is_over_select
returns-then-is_over_select c n k =
    nothing-holds (tests-none (schema_in c.args.scope.now.known) n (may_in c.args.scope.now (tree_of c.args.expression.now))
    (λ e. let q = (c.is_entity.ensures n k).1 e in let f = c.if-is_entity.false in absurd (cc))
    ((c.is_over_select.ensures n k).0 c.if-is_over_select.true))

pub returns : goal.returns
returns c n k =
    tests-bare (schema_in c.args.scope.now.known) n c.args.part
    (may_in c.args.scope.now (tree_of c.args.expression.now)) c.in_ok-may_be_bare.field-0 k
    (λ e. let q = (c.is_entity.ensures n k).1 e in let f = c.if-is_entity.false in absurd (cc))
    (λ e. let q = (c.is_over_select.ensures n k).1 e in let f = c.if-is_over_select.false in absurd (cc))
    c.in_ok-may_be_bare.ensures
