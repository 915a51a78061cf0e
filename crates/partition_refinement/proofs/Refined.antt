-- Rounds of refinement count classes.
use Rattle.partition_refinement.proofs.Unique.{parted_off_earlier}
use Rattle.partition_refinement.specs.NumberLaws.{RefinedAreCounted}

pub refined_are_counted : RefinedAreCounted
refined_are_counted edges shapes start p counts refined = record {
  some = refined.some;
  last = refined.last;
  rising = refined.rounds.rising;
  parted = parted_off_earlier edges shapes start p counts refined;
}
