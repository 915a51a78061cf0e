use Rattle.partition_refinement.proofs.Unique.{rounds_part}
use Rattle.partition_refinement.proofs.round_laws.rounds_part.Goals as goal

pub returns : goal.returns
returns c = rounds_part
