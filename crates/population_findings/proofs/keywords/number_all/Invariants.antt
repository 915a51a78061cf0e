use Rattle.std.proofs.Common.{take, map, true}
use Rattle.step_exchange.specs.Views.{record_in}
use Rattle.schema_names.specs.Schemas.{the_schema}
use Rattle.population_findings.specs.steps.Keywords.{NumberAll}
use Rattle.population_findings.proofs.keywords.number_all.Given as goal

abbrev pub invariant-loop-i : goal.invariant-loop-i
invariant-loop-i l =
    NumberAll (the_schema l.names) (map record_in (take l.i l.partials)) l.entities.items true
