use Rattle.express_syntax.specs.ExpressionViews.{capitals}
use Rattle.express_syntax.specs.Schemas.{named}
use Rattle.schema_semantics.specs.Shapes.{IsOf}
use Rattle.schema_attribute_references.specs.steps.Taking.{schema_in}
use Rattle.schema_unchecked.proofs.SelfSets.{set-added}
use Rattle.schema_unchecked.proofs.rules.values_of_type.Goals as goal

pub returns : goal.returns
returns c =
    let s = schema_in c.args.findings.now.known in
    let n = capitals c.args.holder.name in
    set-added s (IsOf s (named n)) c.new-atoms.result.items c.add_named.new.atoms.items c.new-atoms.ensures.items
    (c.in_ok-add_named.ensures n c.requires.number)
