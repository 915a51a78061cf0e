-- The laws of the rows of populations: their names, their pins, and when they form a population.
use Rattle.std.specs.Prelude.{◌≡◌, ℕ, ◌==◌, Bool, IsTrue, List, [], map}
use Rattle.std.specs.List.{IsDistinct}
use Rattle.step_structures.specs.Trees as trees
use Rattle.step_structures.specs.Trees.{File, rows_of}
use Rattle.step_structures.specs.Fits.{the_rules, FitsFile}
use Rattle.value_equality.specs.Rows as rows
use Rattle.value_equality.specs.Rows.{Row, IsPopulation, BagsArePinned}
use Rattle.express_syntax.specs.Schemas.{Schema}
use Rattle.schema_semantics.specs.Names.{Name}
use Rattle.conformance.specs.Choices.{MergeOptions}
use Rattle.conformance.specs.Bases.{Domain}
use Rattle.conformance.specs.Entities.{Entities, AreEntities}
use Rattle.conformance.specs.Findings.{findings}
use Rattle.conformance.specs.Populations.{Instance, population_of}
use Rattle.conformance.specs.Conforming.{PopulationConforms}
use Rattle.conformance.specs.PopulationLaws.{AreOf}
use Rattle.conformance.specs.Rules.{Rules}
use Rattle.conformance.specs.Pins.{IsWeaklyPinned}
use Rattle.conformance.specs.PlainRows.{AreRowsOf}
use Rattle.conformance.specs.RuleLaws.{names}

-- The names of rows are those of their instances, in order.
abbrev pub RowsHaveNames : Type 0
RowsHaveNames = (s : Schema) (is : List Instance) (P : List Row) → AreRowsOf s is P → rows.names P ≡ names is

-- The names of the population of a file are those of the file's instances, in the order of the
-- text, whatever the schema. If the file satisfies `FitsFile`, no name occurs twice.
abbrev pub FilesNameInstances : Type 0
FilesNameInstances = (s : Schema) (d : Domain) (en : Entities) (f : File)
    → (names (population_of s d en f) ≡ map (λ (r : trees.ExchangeRow). r.name) (rows_of f.sections))
    × (FitsFile the_rules f → IsDistinct (◌==◌) (names (population_of s d en f)))

-- Each reference in a SET or BAG of more than one value, at any depth of a row, names a pinned
-- instance, if at least the weak pins are pinned.
abbrev pub BagsOfRowsArePinned : Type 0
BagsOfRowsArePinned = (s : Schema) (d : Domain) (en : Entities) (rules : Rules) (chosen : MergeOptions)
    (is : List Instance) (P : List Row) (pinned : ℕ → Bool) → AreRowsOf s is P
    → ((y : ℕ) → IsWeaklyPinned s d en rules chosen is y → IsTrue (pinned y)) → BagsArePinned P pinned

-- If instances conform and no two have the same name, their rows are a population: no name occurs
-- twice, and each reference names a row.
abbrev pub RowsOfConformingArePopulations : Type 0
RowsOfConformingArePopulations = (s : Schema) (d : Domain) (en : Entities) → AreEntities s en
    → (is : List Instance) (P : List Row) → IsDistinct (◌==◌) (names is) → PopulationConforms s d en is
    → AreRowsOf s is P → IsPopulation P

-- If a file satisfies `FitsFile` and has no findings, the rows of its instances are a population.
abbrev pub RowsOfFilesArePopulations : Type 0
RowsOfFilesArePopulations = (s : Schema) (d : Domain) (en : Entities) → AreOf s d en
    → (others : List Name)
    (f : File) (P : List Row) → FitsFile the_rules f → findings s d en others f ≡ []
    → AreRowsOf s (population_of s d en f) P → IsPopulation P
