-- Tables of partition refinement: the classes of instances at each round, and when a table is
-- valid.
use Rattle.std.specs.Prelude.{◌≡◌, ◌≢◌, ℕ, zero, suc, ◌+◌, ◌<◌, ◌≤◌, ◌==◌, Bool, true, false, cond, nat_lt, nat_le, List, [], ◌∷◌, Option, Some, None, slice_get, map}
use Rattle.value_equality.specs.Rows.{Row, names}
use Rattle.value_equality.specs.ValueEquality.{AreAlike, AgreeUnder}

-- The origin of a class: it exists from round 0 on, or it was split off a parent at a round.
pub data Origin : Type 0 where
  start : Origin
  split : (parent round : ℕ) → Origin

-- The last round, the origin of each class by its number, and the class of each instance at the
-- last round.
pub record Table : Type 0 where
  pub rounds : ℕ
  pub classes : List Origin
  pub members : List (ℕ × ℕ)

abbrev pub began : Origin → ℕ
began start = 0
began (split parent round) = round

-- `a` is the nearest class that had begun by the round, from class `c` up the chain of parents. The
-- numbers of classes fall along the chain.
pub data IsAncestor (classes : List Origin) (round : ℕ) : ℕ → ℕ → Type 0 where
  itself : (c : ℕ) (o : Origin) → slice_get classes c ≡ Some o → began o ≤ round → IsAncestor classes round c c
  through : (c parent since a : ℕ) → slice_get classes c ≡ Some (split parent since) → round < since → parent < c
      → IsAncestor classes round parent a → IsAncestor classes round c a

-- The nearest ancestor of class `c` that had begun by the round, as a function: `c` itself if it
-- had begun, otherwise that of its parent.
abbrev pub climbed : Option Origin → ℕ → ℕ → (ℕ → Option ℕ) → Option ℕ
climbed None round c climb = None
climbed (Some start) round c climb = Some c
climbed (Some (split parent since)) round c climb = cond (nat_le since round) (Some c)
    (cond (nat_lt parent c) (climb parent) None)

-- The nearest ancestor of class `c` that had begun by the round, found in at most `n` steps.
abbrev pub ancestor : List Origin → ℕ → ℕ → ℕ → Option ℕ
ancestor classes round zero c = None
ancestor classes round (suc n) c = climbed (slice_get classes c) round c (ancestor classes round n)

abbrev pub ancestor_of : List Origin → ℕ → Option ℕ → Option ℕ
ancestor_of classes round None = None
ancestor_of classes round (Some c) = ancestor classes round (suc c) c

abbrev pub last_class : List (ℕ × ℕ) → ℕ → Option ℕ
last_class [] x = None
last_class (m ∷ members) x = cond (m.0 == x) (Some m.1) (last_class members x)

-- The class of `x` at a round; `None` if `x` isn't a member. It is also `None` if the chain of
-- parents leaves the list, or doesn't fall, before it reaches that class.
abbrev pub class_at : Table → ℕ → ℕ → Option ℕ
class_at t x round = ancestor_of t.classes round (last_class t.members x)

abbrev pub same_class : Option ℕ → Option ℕ → Bool
same_class None d = false
same_class (Some c) None = false
same_class (Some c) (Some d) = c == d

-- Two names share a class at a round.
abbrev pub shares : Table → ℕ → ℕ → ℕ → Bool
shares t round x z = same_class (class_at t x round) (class_at t z round)

-- The members are the instances, in order.
abbrev pub HasMembers : List Row → Table → Type 0
HasMembers rows t = map (λ m. m.0) t.members ≡ names rows

-- Each split has a ground. Instances that are alike share a class at round 0. Instances that share
-- a class at a round, and agree under that round, share one at the next.
pub record IsGrounded (rows : List Row) (pinned : ℕ → Bool) (E : ℕ → ℕ → ℕ → Bool) (last : ℕ) : Type 0 where
  pub first : (x z : ℕ) → AreAlike rows pinned x z → E 0 x z ≡ true
  pub next : (round x z : ℕ) → round < last → E round x z ≡ true → AgreeUnder rows pinned (E round) x z
      → E (round + 1) x z ≡ true

-- The last round is stable: two instances that share a class are alike, and agree under it.
abbrev pub IsStable : List Row → (ℕ → Bool) → (ℕ → ℕ → Bool) → Type 0
IsStable rows pinned E = (x z : ℕ) → x ≢ z → E x z ≡ true → AreAlike rows pinned x z × AgreeUnder rows pinned E x z

-- The table is valid for the population: its members are the instances, each split has a ground,
-- and the last round is stable.
pub record IsValid (rows : List Row) (pinned : ℕ → Bool) (t : Table) : Type 0 where
  pub members : HasMembers rows t
  pub grounded : IsGrounded rows pinned (shares t) t.rounds
  pub stable : IsStable rows pinned (shares t t.rounds)
