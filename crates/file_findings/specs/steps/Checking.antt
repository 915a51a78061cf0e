-- The findings of a file according to its schema or, if there are none, the rows of its population and the
-- instances that the weak rules pin.
use Rattle.std.specs.Prelude.{◌≡◌, ◌↔◌, ℕ, IsTrue, List, []}
use Rattle.step_structures.specs.Trees.{File}
use Rattle.schema_semantics.specs.Names.{Name}
use Rattle.value_equality.specs.Rows.{Row, IsPopulation}
use Rattle.express_syntax.specs.Schemas.{Schema}
use Rattle.conformance.specs.Choices.{MergeOptions}
use Rattle.conformance.specs.Pins.{IsWeaklyPinned}
use Rattle.conformance.specs.PlainRows.{AreRowsOf}
use Rattle.conformance.specs.SchemaMeanings.{Said, instances}
use Rattle.merge_choices.specs.ChosenEntities.{AreChosen}
use Rattle.merge_choices.specs.declared.choice.Chosen.{Chosen}
use Rattle.population_pins.specs.Lists.{AreUniqueOf}
use Rattle.population_pins.specs.PopulationPins.{is_pinned}
use Rattle.population_pins.specs.declared.weak_pins.WeakPins.{WeakPins}
use Rattle.file_findings.specs.Findings.{AreFindings}
use Rattle.file_findings.specs.declared.checked_file.Checked.{Checked}
use Rattle.file_findings.specs.declared.checked_file.Checked.TheVariants.{Faulty, Clean}

module _ (s : Schema) (others : List Name) (f : File) (chosen : Chosen) where
  -- The file has no findings, and `unknown` pairs of an instance and a domain rule are UNKNOWN. Under every meaning
  -- of the schema, `rows` are the rows of the file's population. `weak` pins exactly the weakly pinned instances,
  -- if instances of the chosen entity data types may be merged. Its lists show which instances occur beside another
  -- one of their class in LISTs and ARRAYs OF UNIQUE.
  pub record IsConforming (unknown : ℕ) (weak : WeakPins) (rows : List Row) : Type 0 where
    pub nothing : AreFindings s others f [] [] unknown
    pub population : IsPopulation rows
    pub are_rows : (said : Said s) → AreRowsOf s (instances s said f) rows
    pub are_weak : (said : Said s) (those : MergeOptions) → AreChosen s those chosen → (y : ℕ)
        → IsTrue (is_pinned weak.pins y)
        ↔ IsWeaklyPinned s said.domain said.entities said.rules those (instances s said f) y
    pub are_unique : (said : Said s) → AreUniqueOf s (instances s said f) weak.lists

  -- Either the file has findings, and these are all, or it has none.
  abbrev pub ChecksFile : Checked → Type 0
  ChecksFile (Faulty x) =
      AreFindings s others f x.findings.items x.rules.findings.items x.rules.unknown
      × ((x.findings.items ≡ []) × (x.rules.findings.items ≡ []) → ⊥)
  ChecksFile (Clean unknown weak rows) = IsConforming unknown weak rows
