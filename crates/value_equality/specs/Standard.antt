-- The table that partition refinement makes.
use Rattle.std.specs.Prelude.{◌≡◌, ◌≢◌, ℕ, ◌+◌, ◌<◌, ◌≤◌, ◌↔◌, ◌⊎◌, Bool, true, false, List, Some, slice_get, slice_index, length, All}
use Rattle.value_equality.specs.Rows.{Row, names}
use Rattle.value_equality.specs.ValueEquality.{AreAlike, AgreeUnder}
use Rattle.value_equality.specs.Tables.{Origin, split, Table, began, class_at, shares, HasMembers}

-- The parent has a lower number than the class and began earlier, and the class begins no later
-- than at the last round.
pub record IsParent (t : Table) (c parent round : ℕ) : Type 0 where
  pub before : parent < c
  pub origin : Origin
  pub origin_is : slice_get t.classes parent ≡ Some origin
  pub earlier : began origin < round
  pub in_time : round ≤ t.rounds

-- The table is well-formed, so that a certificate can represent it: each split has a parent, and
-- the class of each member exists.
pub record IsWellFormed (t : Table) : Type 0 where
  pub parents : (c parent round : ℕ) → slice_get t.classes c ≡ Some (split parent round) → IsParent t c parent round
  pub declared : All (λ m. m.1 < length t.classes) t.members

-- Round 0 separates instances by kinds and pins. Each later round also separates instances whose
-- values don't agree under the round before. The last round is the first after which nothing is
-- separated.
pub record IsRefinement (rows : List Row) (pinned : ℕ → Bool) (E : ℕ → ℕ → ℕ → Bool) (last : ℕ) : Type 0 where
  pub first : (x z : ℕ) → (E 0 x z ≡ true) ↔ AreAlike rows pinned x z
  pub next : (round x z : ℕ) → round < last → (E (round + 1) x z ≡ true)
      ↔ ((E round x z ≡ true) × AgreeUnder rows pinned (E round) x z)
  pub stable : (x z : ℕ) → E last x z ≡ true → AgreeUnder rows pinned (E last) x z
  pub parts : (round : ℕ) → round < last → (x : ℕ) × (z : ℕ) × (E round x z ≡ true) × (E (round + 1) x z ≡ false)

-- The instance at index `i` is the first in class `c` at the round.
pub record IsFirstOfClass (ys : List ℕ) (t : Table) (round c i : ℕ) : Type 0 where
  pub within : i < length ys
  pub there : class_at t (slice_index ys i) round ≡ Some c
  pub earliest : (j : ℕ) → j < i → class_at t (slice_index ys j) round ≢ Some c

-- Class `c` begins at the round, and its first instance there is that at index `i`.
pub record ClassBegins (ys : List ℕ) (t : Table) (c round i : ℕ) : Type 0 where
  pub origin : Origin
  pub origin_is : slice_get t.classes c ≡ Some origin
  pub began_at : began origin ≡ round
  pub first : IsFirstOfClass ys t round c i

-- Each class is used. Classes are numbered by the round at which they begin, then by their first
-- instance. If a class is split, the part with its first instance keeps its number.
pub record IsNumberedInOrder (ys : List ℕ) (t : Table) : Type 0 where
  pub used : (c : ℕ) → c < length t.classes → (round : ℕ) × (i : ℕ) × ClassBegins ys t c round i
  pub ordered : (c d round later i j : ℕ) → c < d → ClassBegins ys t c round i → ClassBegins ys t d later j → (round < later)
      ⊎ ((round ≡ later) × (i < j))
  pub keeps_number : (round c i : ℕ) → IsFirstOfClass ys t round c i → class_at t (slice_index ys i) (round + 1) ≡ Some c

-- `t` is the table that partition refinement makes.
pub record IsStandard (rows : List Row) (pinned : ℕ → Bool) (t : Table) : Type 0 where
  pub members : HasMembers rows t
  pub well_formed : IsWellFormed t
  pub refines : IsRefinement rows pinned (shares t) t.rounds
  pub numbered : IsNumberedInOrder (names rows) t
