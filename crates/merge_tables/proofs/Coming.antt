-- What a merge comes to: by findings, or by the tables of a population.
use Rattle.std.specs.Prelude.{ℕ, List, [], Option}
use Rattle.std.proofs.Common.{sym, subst}
use Rattle.express_syntax.specs.Schemas.{Schema}
use Rattle.step_structures.specs.Trees.{File}
use Rattle.step_exchange.specs.declared.structure.Exchange.{Exchange}
use Rattle.step_exchange.specs.Exchanges.{structure}
use Rattle.value_equality.specs.Rows.{Row}
use Rattle.value_equality.specs.declared.table.Table as held
use Rattle.value_equality.specs.TableViews.{table_of}
use Rattle.schema_semantics.specs.Names.{Name}
use Rattle.conformance.specs.PlainRows.{AreRowsOf}
use Rattle.conformance.specs.Populations.{Instance}
use Rattle.conformance.specs.SchemaMeanings.{Said, instances}
use Rattle.merge_choices.specs.declared.choice.Chosen.{Chosen}
use Rattle.population_pins.specs.Lists.{AreUniqueOf}
use Rattle.population_pins.specs.PopulationPins.{is_pinned}
use Rattle.population_pins.specs.declared.weak_pins.WeakPins.{WeakPins}
use Rattle.file_findings.specs.Findings.{AreFindings}
use Rattle.file_findings.specs.declared.findings.Found.{Found}
use Rattle.file_findings.specs.steps.Checking.{ChecksFile, IsConforming}
use Rattle.file_findings.specs.declared.checked_file.Checked.TheVariants as checked
use Rattle.merge_tables.specs.steps.ComputedTables.{AreTablesUnder, Comes}
use Rattle.merge_tables.specs.steps.Merges.{last_of}
use Rattle.merge_tables.specs.declared.file_merge.Merging.TheVariants.{Faulty, Clean}
use Rattle.merge_tables.proofs.Tabled.{tables-of, members-of}

pub comes-faulty : (s : Schema) (others : List Name) (f : File) (c : Chosen) (names : List ℕ) (x : Found)
    → ChecksFile s others f c (checked.Faulty x) → Comes s others c f names (Faulty x)
comes-faulty s others f c names x found = (
  λ those are. (
    subst (λ l. AreFindings s l f x.findings.items x.rules.findings.items x.rules.unknown) (sym are.1) found.0,
    found.1,
  ),
  tt,
)

pub comes-clean : (s : Schema) (others : List Name) (x : Exchange) (c : Chosen) (unknown : ℕ) (weak : WeakPins) (rows : List Row)
    (first : held.Table) (second : Option held.Table) → IsConforming s others (structure x) c unknown weak rows
    → ((is : List Instance) → AreRowsOf s is rows → AreUniqueOf s is weak.lists
    → AreTablesUnder s is (is_pinned weak.pins) (table_of first) (table_of (last_of first second)))
    → Comes s others c (structure x) x.names (Clean unknown first second)
comes-clean s others x c unknown weak rows first second clean tables = (
  λ those are. (
    subst (λ l. AreFindings s l (structure x) [] [] unknown) (sym are.1) clean.nothing,
    λ said. tables-of s said (is_pinned weak.pins) (table_of first) (table_of (last_of first second)) (structure x) (under said) those
        (clean.are_weak said those are.0),
  ),
  members-of s clean.nothing.0 (is_pinned weak.pins) (table_of first) (table_of (last_of first second)) x (under clean.nothing.0),
)
  where
    under : (said : Said s) → AreTablesUnder s (instances s said (structure x)) (is_pinned weak.pins) (table_of first)
        (table_of (last_of first second))
    under said = tables (instances s said (structure x)) (clean.are_rows said) (clean.are_unique said)
