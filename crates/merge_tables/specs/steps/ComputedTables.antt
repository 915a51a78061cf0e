-- What the code computes; no promise is stated here.
use Rattle.std.specs.Prelude.{ℕ, Bool, IsTrue, List, ◌⊎◌, ◌↔◌}
use Rattle.step_structures.specs.Trees.{File}
use Rattle.value_equality.specs.Rows.{Row, IsPopulation}
use Rattle.value_equality.specs.Tables.{Table, shares}
use Rattle.value_equality.specs.Standard.{IsStandard}
use Rattle.express_syntax.specs.Schemas.{Schema}
use Rattle.schema_semantics.specs.Names.{Name, OneOf}
use Rattle.conformance.specs.Choices.{MergeOptions}
use Rattle.conformance.specs.Bases.{Domain, IsDomain}
use Rattle.conformance.specs.Entities.{Entities, AreEntities}
use Rattle.conformance.specs.Pins.{StandsBesideItsClass}
use Rattle.conformance.specs.PlainRows.{AreRowsOf}
use Rattle.conformance.specs.Populations.{Instance}
use Rattle.merge_choices.specs.ChosenEntities.{AreOptions}
use Rattle.merge_choices.specs.declared.choice.Chosen.{Chosen}
use Rattle.merge_tables.specs.steps.Merges.{Merges, HaveMembers}
use Rattle.merge_tables.specs.declared.file_merge.Merging.{Merging}

module _ (s : Schema) (is : List Instance) where
  -- the gentle pins that weak pins and the classes of a table give
  abbrev pub AreGentle : (ℕ → Bool) → Table → (ℕ → Bool) → Type 0
  AreGentle weak t pinned = (d : Domain) (en : Entities) → IsDomain s d → AreEntities s en → (y : ℕ)
      → IsTrue (pinned y) ↔ (IsTrue (weak y) ⊎ OneOf (StandsBesideItsClass s d en (shares t t.rounds) y) is)

  -- a table under weak pins, and one under the gentle pins that the first one's classes give
  pub record AreTablesUnder (weak : ℕ → Bool) (first second : Table) : Type 0 where
    pub rows : List Row
    pub are_rows : AreRowsOf s is rows
    pub population : IsPopulation rows
    pub pinned : ℕ → Bool
    pub gentle : AreGentle weak first pinned
    pub first_is : IsStandard rows weak first
    pub second_is : IsStandard rows pinned second

-- the result of merging a file, whatever may be merged by `chosen`
abbrev pub Comes : Schema → List Name → Chosen → File → List ℕ → Merging → Type 0
Comes s others chosen f names m =
    ((those : MergeOptions) → AreOptions s others those chosen → Merges s those f m) × HaveMembers names m
