use Rattle.std.proofs.Common.{drop, map}
use Rattle.step_exchange.specs.Views.{record_in}
use Rattle.conformance.specs.Entities.{parameters}
use Rattle.population_findings.specs.steps.Judging.{TellsUpTo}
use Rattle.population_findings.proofs.misfits.tell_partials.Given as goal

abbrev pub invariant-loop-i : goal.invariant-loop-i
invariant-loop-i l =
    TellsUpTo l.judge l.instance l.slots (parameters (map record_in l.partials)) l.initial.found.items l.place
    (parameters (map record_in (drop l.i l.partials))) l.found.items
