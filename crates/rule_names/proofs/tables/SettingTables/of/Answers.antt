use Rattle.std.proofs.Common.{subst}
use Rattle.schema_names.specs.Schemas.{the_schema}
use Rattle.rule_values.specs.Tables.{AreValueTypes}
use Rattle.rule_names.proofs.tables.SettingTables.of.Goals as goal

pub returns : goal.returns
returns c = record {
  value_types = subst (λ n. AreValueTypes (the_schema n) c.in_ok-value_types.value_types)
      c.bases-bases.ensures.same c.in_ok-value_types.ensures;
  sources = c.in_ok-sources.ensures;
  declared = c.in_ok-declared.ensures;
  uses = c.requires.tables.uses;
  forms = c.in_ok-data_types.ensures.forms;
  items = c.in_ok-items.ensures;
}
