use Rattle.std.proofs.Common.{◌≡◌, ◌<◌, ◌≤◌, ℕ}
use Rattle.split_checks.specs.steps.Moves.{round_at}
use Rattle.split_checks.proofs.group_walk.run_start.Given as goal

abbrev pub invariant-loop-first : goal.invariant-loop-first
invariant-loop-first l = record {
  order : l.first ≤ l.end;
  there : (k : ℕ) → l.first ≤ k → k < l.end → round_at l.moves k ≡ l.round;
}

abbrev pub decreases-loop-first : goal.decreases-loop-first
decreases-loop-first l = l.first
