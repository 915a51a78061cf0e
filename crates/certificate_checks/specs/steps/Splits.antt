-- When the splits of a table after round 0 have grounds.
use Rattle.std.specs.Prelude.{◌≡◌, ◌<◌, ◌+◌, ℕ, Bool, true, List}
use Rattle.value_equality.specs.ValueEquality.{AgreeUnder}
use Rattle.value_equality.specs.Rows.{Row}
use Rattle.value_equality.specs.Tables.{Table, shares}

-- Instances that share a class at a round, and agree under it, share one at the next.
abbrev pub SplitsHaveGrounds : List Row → (ℕ → Bool) → Table → Type 0
SplitsHaveGrounds P pinned t = (round x z : ℕ) → round < t.rounds → shares t round x z ≡ true
    → AgreeUnder P pinned (shares t round) x z → shares t (round + 1) x z ≡ true
