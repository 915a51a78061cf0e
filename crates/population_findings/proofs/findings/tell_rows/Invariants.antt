use Rattle.std.proofs.Common.{drop}
use Rattle.step_exchange.specs.Views.{rows_with}
use Rattle.population_findings.specs.steps.Judging.{TellsRowsTo}
use Rattle.population_findings.proofs.findings.tell_rows.Given as goal

abbrev pub invariant-loop-i : goal.invariant-loop-i
invariant-loop-i l =
    TellsRowsTo l.judge l.rows (rows_with l.names l.instances) l.initial.found.items
    (drop l.i (rows_with l.names l.instances)) l.found.items
