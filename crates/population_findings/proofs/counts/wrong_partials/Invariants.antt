use Rattle.std.proofs.Common.{◌≡◌, ◌+◌, ◌≤◌, drop, map}
use Rattle.step_exchange.specs.Views.{record_in}
use Rattle.population_findings.specs.steps.Counting.{miscounts}
use Rattle.population_findings.proofs.counts.wrong_partials.Given as goal

abbrev pub invariant-loop-i : goal.invariant-loop-i
invariant-loop-i l =
    (l.wrong + miscounts (drop l.i l.counts) (map record_in (drop l.i l.partials))
    ≡ miscounts l.counts (map record_in l.partials))
    × (l.wrong ≤ l.i)
