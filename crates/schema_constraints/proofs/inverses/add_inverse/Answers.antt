use Rattle.std.proofs.Common.{ap}
use Rattle.express_syntax.specs.ExpressionViews.{capitals}
use Rattle.express_syntax.specs.Views.{attribute_of, inverse_of}
use Rattle.schema_attribute_references.specs.steps.Taking.{schema_in}
use Rattle.schema_constraints.proofs.Inverting.{known-inverse}
use Rattle.schema_constraints.proofs.inverses.add_inverse.Goals as goal

pub inverse_attribute-requires-clause-known : goal.inverse_attribute-requires-clause-known
inverse_attribute-requires-clause-known c =
    known-inverse (schema_in c.args.sources.now.known) c.requires.sources.known.resolved c.args.entity
    (inverse_of c.args.inverse.now) (capitals c.in-Unqualified.name) c.requires.declared
    (ap attribute_of c.in-Unqualified.is)
