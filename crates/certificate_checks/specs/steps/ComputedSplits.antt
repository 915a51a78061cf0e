-- What the code computes; no promise stands here. How the splits of classes are judged.
use Rattle.std.specs.Prelude.{◌≡◌, ◌<◌, ◌↔◌, ◌⊎◌, ℕ, suc, Bool, cond, List, Some, length, slice_get, slice_index}
use Rattle.std.specs.List.{Contains}
use Rattle.split_checks.specs.declared.births.Birth.{Birth}
use Rattle.value_equality.specs.Rows.{Row, names}
use Rattle.value_equality.specs.Tables.{Origin, split}

-- The class is added if it is split off another one.
abbrev pub AddsBirth : ℕ → Origin → List Birth → List Birth → Type 0
AddsBirth class o old new = (b : Birth) → Contains new b
    ↔ (Contains old b ⊎ ((b.class ≡ class) × (o ≡ split b.parent b.round)))

-- `births` are those of the first `n` classes that are split off others.
abbrev pub AreFirstBirths : List Origin → List Birth → ℕ → Type 0
AreFirstBirths classes births n = (b : Birth) → Contains births b
    ↔ ((b.class < n) × (slice_get classes b.class ≡ Some (split b.parent b.round)))

abbrev pub AreBirthsOf : List Origin → List Birth → Type 0
AreBirthsOf classes births = AreFirstBirths classes births (length classes)

-- 0 for a free instance; for a pinned one its position, counted from 1.
abbrev pub own_at : List Row → (ℕ → Bool) → ℕ → ℕ
own_at P pinned i = cond (pinned (slice_index (names P) i)) (suc i) 0

-- `own` has the numbers of the first `n` instances.
pub record AreOwn (P : List Row) (pinned : ℕ → Bool) (own : List ℕ) (n : ℕ) : Type 0 where
  pub each : length own ≡ n
  pub number : (i : ℕ) → i < n → slice_index own i ≡ own_at P pinned i
