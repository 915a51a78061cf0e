use Rattle.std.proofs.Common.{take}
use Rattle.schema_names.specs.Schemas.{the_schema}
use Rattle.population_findings.specs.steps.Making.{MakeForms}
use Rattle.population_findings.proofs.rows.forms_of.Given as goal

abbrev pub invariant-loop-i : goal.invariant-loop-i
invariant-loop-i l = MakeForms (the_schema l.known.names.now) (take l.i l.instances) l.made l.form_of.items
