-- The tables of a file are those of its population.
use Rattle.std.specs.Prelude.{◌≡◌, ℕ, Bool, IsTrue, ◌↔◌, map}
use Rattle.std.proofs.Common.{refl, ◌∙◌}
use Rattle.express_syntax.specs.Schemas.{Schema}
use Rattle.step_structures.specs.Trees.{File}
use Rattle.step_exchange.specs.declared.structure.Exchange.{Exchange}
use Rattle.step_exchange.specs.Exchanges.{structure}
use Rattle.step_exchange.proofs.Named.{names-are}
use Rattle.value_equality.specs.Tables.{Table}
use Rattle.value_equality.proofs.Rounds.{standard_is_valid}
use Rattle.conformance.specs.Choices.{MergeOptions}
use Rattle.conformance.specs.Pins.{IsWeaklyPinned}
use Rattle.conformance.specs.SchemaMeanings.{Said, instances}
use Rattle.conformance.proofs.Rowed.{same_names}
use Rattle.conformance.proofs.FileNames.{names_from}
use Rattle.merge_theorems.proofs.PinsFound.{pins_are_found}
use Rattle.merge_tables.specs.steps.Merges.{AreTablesOf}
use Rattle.merge_tables.specs.steps.ComputedTables.{AreTablesUnder}

module _ (s : Schema) (said : Said s) (weak : ℕ → Bool) (first second : Table) where
  pub tables-of : (f : File) → AreTablesUnder s (instances s said f) weak first second → (chosen : MergeOptions)
      → ((y : ℕ) → IsTrue (weak y)
      ↔ IsWeaklyPinned s said.domain said.entities said.rules chosen (instances s said f) y)
      → AreTablesOf s said chosen f first second
  unfolding pins_are_found
  tables-of f tables chosen weakly = record {
    rows = tables.rows;
    are_rows = tables.are_rows;
    population = tables.population;
    pinned = tables.pinned;
    pins = pins_are_found s said chosen (instances s said f) tables.rows said.rules weak tables.pinned first
        said.are_rules tables.population weakly (standard_is_valid tables.rows weak first tables.first_is)
        (tables.gentle said.domain said.entities said.is_domain said.are_entities);
    gentle = refl;
    first_is = tables.first_is;
    second_is = tables.second_is;
  }

  pub members-of : (x : Exchange) → AreTablesUnder s (instances s said (structure x)) weak first second
      → (map (λ m. m.0) first.members ≡ x.names) × (map (λ m. m.0) second.members ≡ x.names)
  members-of x tables =
      let all = same_names s (instances s said (structure x)) tables.rows tables.are_rows
      ∙ names_from s said.domain said.entities 0 (structure x).sections ∙ names-are x in
      (tables.first_is.members ∙ all, tables.second_is.members ∙ all)
