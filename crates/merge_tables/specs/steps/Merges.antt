-- The result of merging a file according to a schema: findings, or the tables of its population.
use Rattle.std.specs.Prelude.{◌≡◌, ⊤, ℕ, Bool, List, [], map, Option, None, Some}
use Rattle.step_structures.specs.Trees.{File}
use Rattle.value_equality.specs.Rows.{Row, IsPopulation}
use Rattle.value_equality.specs.Tables.{Table, shares}
use Rattle.value_equality.specs.TableViews.{table_of}
use Rattle.value_equality.specs.declared.table.Table as held
use Rattle.value_equality.specs.Standard.{IsStandard}
use Rattle.express_syntax.specs.Schemas.{Schema}
use Rattle.conformance.specs.Choices.{MergeOptions}
use Rattle.conformance.specs.PlainRows.{AreRowsOf}
use Rattle.conformance.specs.SchemaMeanings.{Said, instances}
use Rattle.merge_theorems.specs.FilePins.{ArePins}
use Rattle.file_findings.specs.Findings.{AreFindings}
use Rattle.merge_tables.specs.declared.file_merge.Merging.{Merging}
use Rattle.merge_tables.specs.declared.file_merge.Merging.TheVariants.{Faulty, Clean}

-- The rows of a file's population, the instances that keep their identity if those of the chosen entity data types
-- are merged, and the tables of partition refinement: one under the weak pins, and one under the gentle pins that
-- the first one's classes give.
pub record AreTablesOf (s : Schema) (said : Said s) (chosen : MergeOptions) (f : File) (first second : Table) : Type 0 where
  pub rows : List Row
  pub are_rows : AreRowsOf s (instances s said f) rows
  pub population : IsPopulation rows
  pub pinned : ℕ → Bool
  pub pins : ArePins s said chosen (instances s said f) rows pinned
  pub gentle : pins.classes ≡ shares first first.rounds
  pub first_is : IsStandard rows pins.weak first
  pub second_is : IsStandard rows pinned second

-- the table that decides the merge: the second, if any, otherwise the first
abbrev pub last_of : held.Table → Option held.Table → held.Table
last_of first None = first
last_of first (Some second) = second

-- The file may call the schema by the chosen other names. Either it has findings, and these are all, or it has none, and these are its tables under every meaning of
-- the schema. `unknown` pairs of an instance and a domain rule are UNKNOWN.
abbrev pub Merges : Schema → MergeOptions → File → Merging → Type 0
Merges s chosen f (Faulty x) =
    AreFindings s chosen.other_names f x.findings.items x.rules.findings.items x.rules.unknown
    × ((x.findings.items ≡ []) × (x.rules.findings.items ≡ []) → ⊥)
Merges s chosen f (Clean unknown first second) =
    AreFindings s chosen.other_names f [] [] unknown
    × ((said : Said s) → AreTablesOf s said chosen f (table_of first) (table_of (last_of first second)))

-- the members of both tables are `names`, in order
abbrev pub HaveMembers : List ℕ → Merging → Type 0
HaveMembers names (Faulty x) = ⊤
HaveMembers names (Clean unknown first second) =
    (map (λ m. m.0) (table_of first).members ≡ names)
    × (map (λ m. m.0) (table_of (last_of first second)).members ≡ names)
