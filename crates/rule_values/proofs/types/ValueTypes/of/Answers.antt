use Rattle.schema_names.specs.Schemas.{the_schema}
use Rattle.rule_values.proofs.Tabled.{are-value-types}
use Rattle.rule_values.proofs.types.ValueTypes.of.Goals as goal

pub returns : goal.returns
returns c =
    are-value-types (the_schema c.args.bases.now.names.now) c.args.bases.now.table.now c.requires.bases.1
    (record { by_number = c.deref.result; by_declaration = c.deref-2.result; numbers = c.in_ok-numbers.numbers })
    c.deref.ensures.value c.deref-2.ensures.value c.in_ok-numbers.ensures
