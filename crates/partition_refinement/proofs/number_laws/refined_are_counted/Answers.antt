use Rattle.partition_refinement.proofs.Refined.{refined_are_counted}
use Rattle.partition_refinement.proofs.number_laws.refined_are_counted.Goals as goal

pub returns : goal.returns
returns c = refined_are_counted
