use Rattle.std.proofs.Common.{ap, ◌∙◌}
use Rattle.step_literals.specs.Words.{upper}
use Rattle.conformance.specs.ParameterFits.{is_listed}
use Rattle.schema_names.specs.Schemas.{the_schema}
use Rattle.parameter_fits.proofs.Enumerated.{same-items}
use Rattle.parameter_fits.proofs.leaves.has_item.Goals as goal

pub returns : goal.returns
returns c =
    c.has_item.ensures
    ∙ ap (is_listed (upper c.args.word.text.now)) (same-items (the_schema c.args.bases.now.names.now) c.args.number)
