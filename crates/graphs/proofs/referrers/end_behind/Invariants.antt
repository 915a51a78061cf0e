use Rattle.std.proofs.Common.{◌≡◌, ◌<◌, ◌≤◌, ℕ, get_or}
use Rattle.graphs.specs.declared.referrers.Reference.{Reference}
use Rattle.graphs.proofs.referrers.end_behind.Given as goal

abbrev pub invariant-loop-end : goal.invariant-loop-end
invariant-loop-end l =
    (k : ℕ) (d : Reference) → l.first ≤ k → k < l.end → (get_or l.references k d).target ≡ l.target
