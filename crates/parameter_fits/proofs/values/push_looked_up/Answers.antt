use Rattle.conformance.specs.Bases.{base}
use Rattle.schema_names.specs.Schemas.{the_schema}
use Rattle.schema_underlying_types.specs.BaseViews.{base_seen, type_at}
use Rattle.parameter_fits.proofs.Pushed.{as_asked}
use Rattle.parameter_fits.proofs.values.push_looked_up.Goals as goal

pub returns : goal.returns
returns c =
    let s = the_schema c.args.bases.now.names.now in
    as_asked s c.args.builder.now c.push_value.new.builder (base_seen s c.of_number-base.result)
    (λ d. base d (type_at s c.args.number)) c.args.param (c.of_number-base.ensures.says c.requires.known)
    c.push_value.result c.push_value.ensures
