use Rattle.std.proofs.Common.{◌≡◌, ◌++◌}
use Rattle.conformance.specs.Findings.{whole_findings}
use Rattle.population_findings.proofs.finding_lists.tell_whole.Given as goal

abbrev pub invariant-loop : goal.invariant-loop
invariant-loop l = l.found.items ≡ l.initial.found.items ++ whole_findings l.instance l.kind l.counter
