use Rattle.partition_refinement.proofs.Unique.{parted_off_earlier}
use Rattle.partition_refinement.proofs.round_laws.parted_off_earlier.Goals as goal

pub returns : goal.returns
returns c = parted_off_earlier
