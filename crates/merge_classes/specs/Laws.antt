-- The standard numbers of classes, as a table.
use Rattle.std.specs.Prelude.{◌≡◌, ◌↔◌, ℕ, ◌+◌, ◌<◌, Bool, true, List, [], ◌∷◌, length, map, slice_index}
use Rattle.partitions.specs.Layouts.{Layout, size, IsLaid}
use Rattle.partition_refinement.specs.Rounds.{Shared}
use Rattle.partition_refinement.specs.declared.numbering.Origin.{Origin}
use Rattle.partition_refinement.specs.declared.numbering.Origin.TheVariants.{Start, Split}
use Rattle.partition_refinement.specs.Births.{AreCounts}
use Rattle.partition_refinement.specs.Numbers.{IsNumbering}
use Rattle.value_equality.specs.Rows.{Row, names, IsPopulation}
use Rattle.value_equality.specs.Tables as tables
use Rattle.value_equality.specs.Standard.{IsRefinement, IsStandard}

-- the origin of a class, as in a table
abbrev pub origin_in : Origin → tables.Origin
origin_in Start = tables.start
origin_in (Split parent round) = tables.split parent round

-- each name with the number at its position
abbrev pub members_of : List ℕ → List ℕ → List (ℕ × ℕ)
members_of [] ms = []
members_of (y ∷ ys) [] = []
members_of (y ∷ ys) (m ∷ ms) = (y, m) ∷ members_of ys ms

-- the table of classes, from the numbers
abbrev pub table_of : List ℕ → ℕ → List Origin → List ℕ → tables.Table
table_of ys last origins members = record {
  rounds = last;
  classes = map origin_in origins;
  members = members_of ys members;
}

-- Let two positions of a population share a class after each round exactly if that round of
-- refinement doesn't split their instances. Then the standard numbers of these classes form the
-- standard table.
abbrev pub NumbersAreStandard : Type 0
NumbersAreStandard = (P : List Row) (pinned : ℕ → Bool) (E : ℕ → ℕ → ℕ → Bool) (p : Layout) (counts firsts : List ℕ)
    (origins : List Origin) (members : List ℕ) (last : ℕ) → IsPopulation P → IsLaid p → AreCounts p counts
    → size p ≡ length (names P) → last + 1 ≡ length counts → IsRefinement P pinned E last
    → ((r x z : ℕ) → r < length counts → x < size p → z < size p
    → (E r (slice_index (names P) x) (slice_index (names P) z) ≡ true) ↔ Shared p (slice_index counts r) x z)
    → IsNumbering p counts firsts origins members → IsStandard P pinned (table_of (names P) last origins members)
