-- Why a table isn't valid for a population.
use Rattle.std.specs.Prelude.{⊤, ℕ, Bool, List}
use Rattle.value_equality.specs.Rows.{Row}
use Rattle.value_equality.specs.Tables.{Table, HasMembers, IsGrounded, IsStable, shares}
use Rattle.certificate_checks.specs.declared.fault.TableFault.{TableFault}
use Rattle.certificate_checks.specs.declared.fault.TableFault.TheVariants.{Members, Ground, Stable, Memory}

-- The fault of a table:
-- - `Members`: the members aren't the instances;
-- - `Ground`: they are, and a split has no ground;
-- - `Stable`: they are, each split has a ground, and the last round isn't stable;
-- - `Memory`: memory ran out, which is possible with any table.
abbrev pub IsTableFaultOf : List Row → (ℕ → Bool) → Table → TableFault → Type 0
IsTableFaultOf rows pinned t Members = HasMembers rows t → ⊥
IsTableFaultOf rows pinned t Ground = HasMembers rows t × (IsGrounded rows pinned (shares t) t.rounds → ⊥)
IsTableFaultOf rows pinned t Stable = HasMembers rows t × IsGrounded rows pinned (shares t) t.rounds
    × (IsStable rows pinned (shares t t.rounds) → ⊥)
IsTableFaultOf rows pinned t Memory = ⊤
