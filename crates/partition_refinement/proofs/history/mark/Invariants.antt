use Rattle.std.proofs.Common.{◌≡◌}
use Rattle.partition_refinement.specs.steps.Working.{AreWritten}
use Rattle.partition_refinement.proofs.history.mark.Given as goal

abbrev pub invariant-loop-place : goal.invariant-loop-place
invariant-loop-place l = AreWritten (λ _ v. v ≡ l.round) l.initial.rounds.items l.rounds.items l.places l.place-index
