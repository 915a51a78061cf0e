use Rattle.partition_refinement.proofs.Unique.{rounds_are_the_refinement}
use Rattle.partition_refinement.proofs.round_laws.rounds_are_the_refinement.Goals as goal

pub returns : goal.returns
returns c = rounds_are_the_refinement
