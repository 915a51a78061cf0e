-- What the code computes.
use Rattle.std.specs.Prelude.{ℕ, ◌/◌, ◌%◌, ◌==◌, cond, List, slice_index}
use Rattle.partition_refinement.specs.declared.numbering.Origin.{Origin}
use Rattle.partition_refinement.specs.declared.numbering.Origin.TheVariants.{Start, Split}

abbrev pub place_in : ℕ → ℕ
place_in birth = birth % 4294967296

-- The origin of the class of a birth. `numbers` has by first place the number of a class, and `before` the
-- first place of the class that it was split off.
abbrev pub origin_of : List ℕ → List ℕ → ℕ → Origin
origin_of numbers before birth =
    cond (birth / 4294967296 == 0) Start
    (Split (slice_index numbers (slice_index before (birth % 4294967296))) (birth / 4294967296))
