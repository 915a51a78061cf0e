use Rattle.std.proofs.Common.{ap, sym, ◌∙◌}
use Rattle.express_syntax.specs.ExpressionViews.{capitals}
use Rattle.schema_names.specs.Schemas.{the_schema}
use Rattle.schema_explicit_attributes.specs.steps.Owned.{declares_at}
use Rattle.schema_explicit_attributes.proofs.Classes.{explicit-at, all-at}
use Rattle.schema_explicit_attributes.proofs.own_attributes.declares_at.Goals as goal

pub returns-in-Explicit : goal.returns-in-Explicit
returns-in-Explicit c =
    let s = the_schema c.args.names.now in
    let a = capitals c.args.name in
    let i = c.args.number in
    c.has_class.ensures ∙ explicit-at s a i ∙ ap (λ m. declares_at s m a i) (sym c.in-Explicit.is)

pub returns-in-All : goal.returns-in-All
returns-in-All c =
    let s = the_schema c.args.names.now in
    let a = capitals c.args.name in
    let i = c.args.number in
    c.has_any.ensures ∙ all-at s a i ∙ ap (λ m. declares_at s m a i) (sym c.in-All.is)
