use Rattle.std.proofs.Common.{drop}
use Rattle.step_records.specs.Cells.{all_of}
use Rattle.population_findings.specs.steps.Judging.{TellsBetween}
use Rattle.population_findings.proofs.misfits.tell_record.Given as goal

abbrev pub invariant-loop-i : goal.invariant-loop-i
invariant-loop-i l =
    TellsBetween l.judge l.instance l.slots l.from (all_of l.values) l.initial.found.items l.place
    (all_of (drop l.i l.values)) l.found.items
