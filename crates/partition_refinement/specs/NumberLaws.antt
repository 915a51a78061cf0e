-- The law that connects rounds and standard numbers.
use Rattle.std.specs.Prelude.{ℕ, List}
use Rattle.partitions.specs.Layouts.{Layout}
use Rattle.partition_edges.specs.declared.edges.Edge.{Edge}
use Rattle.partition_refinement.specs.Rounds.{IsRefined}
use Rattle.partition_refinement.specs.Births.{AreCounts}

-- The counts of a refinement are counts of classes after its rounds. Each class that came after round 0 was
-- split off one with a smaller number.
abbrev pub RefinedAreCounted : Type 0
RefinedAreCounted = (edges : List Edge) (shapes : List ℕ) (start p : Layout) (counts : List ℕ)
    → IsRefined edges shapes start p counts → AreCounts p counts
