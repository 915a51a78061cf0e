-- What is found of a file: by its instances one by one, or by its population and what rules say of it.
use Rattle.std.specs.Prelude.{◌≡◌, ℕ, List, []}
use Rattle.std.proofs.Common.{refl, subst}
use Rattle.step_structures.specs.Trees.{File}
use Rattle.value_equality.specs.Rows.{Row, IsPopulation}
use Rattle.express_syntax.specs.Schemas.{Schema}
use Rattle.schema_constraints.specs.declared.tables.RuleTables.{RuleTables}
use Rattle.schema_constraints.specs.RuleTables.{AreRuleTables}
use Rattle.schema_semantics.specs.Names.{Name}
use Rattle.conformance.specs.PlainRows.{AreRowsOf}
use Rattle.conformance.specs.PopulationLaws.{NoFindingsExactlyWhereItConforms}
use Rattle.conformance.specs.Populations.{Instance}
use Rattle.conformance.specs.SchemaMeanings.{Said, instances}
use Rattle.typed_populations.specs.TypedPopulations.{IsTyped}
use Rattle.population_reader.specs.Verdicts.{IsFaulty}
use Rattle.merge_choices.specs.declared.choice.Chosen.{Chosen}
use Rattle.population_pins.specs.Lists.{AreUniqueOf}
use Rattle.population_pins.specs.PopulationPins.{is_pinned}
use Rattle.population_pins.specs.declared.weak_pins.WeakPins.{WeakPins}
use Rattle.file_findings.specs.declared.findings.Found.{Found}
use Rattle.file_findings.proofs.ByVerdict.{found-by-rules, found-one-by-one}
use Rattle.file_findings.specs.steps.Checking.{ChecksFile}
use Rattle.file_findings.specs.steps.ComputedRuling.{IsRuled}
use Rattle.file_findings.specs.declared.checked_file.Checked.TheVariants.{Faulty, Clean}
use Rattle.file_findings.specs.declared.rule_pins.Ruled.TheVariants.{Broken, Kept}
use Rattle.file_findings.proofs.Weak.{weakly}

pub faulty-one-by-one : (s : Schema) (others : List Name) (f : File) → Said s → (c : Chosen) (x : Found)
    → IsFaulty s others f x.findings.items → x.rules.findings.items ≡ [] → x.rules.unknown ≡ 0
    → ChecksFile s others f c (Faulty x)
faulty-one-by-one s others f some c x faulty e z = (
  found-one-by-one s others f some x.findings.items x.rules.findings.items x.rules.unknown faulty e z,
  λ none. faulty.2 none.0,
)

module _ (s : Schema) (some : Said s) (law : NoFindingsExactlyWhereItConforms) (is : List Instance) (others : List Name)
    (f : File) (typed : IsTyped s others f is) (t : RuleTables) (c : Chosen) where
  pub faulty-by-rules : (x : Found) → IsRuled s is t c (Broken x.rules) → x.findings.items ≡ [] → ChecksFile s others f c (Faulty x)
  faulty-by-rules x ruled e = (
    found-by-rules s others f some law is x.findings.items x.rules.findings.items x.rules.unknown typed e ruled.1,
    λ none. ruled.0 none.1,
  )

  pub clean-by-rules : AreRuleTables s t → (unknown : ℕ) (weak : WeakPins) (rows : List Row) → IsRuled s is t c (Kept unknown weak)
      → AreRowsOf s is rows → IsPopulation rows → ChecksFile s others f c (Clean unknown weak rows)
  clean-by-rules rules unknown weak rows ruled are population = record {
    nothing = found-by-rules s others f some law is [] [] unknown typed refl ruled.0;
    population = population;
    are_rows = λ said. subst (λ l. AreRowsOf s l rows) (at said) are;
    are_weak = λ said names chosen. weakly s said is (instances s said f) t c (is_pinned weak.pins) names rules ruled.1
        chosen (at said);
    are_unique = λ said. subst (λ l. AreUniqueOf s l weak.lists) (at said) ruled.2;
  }
    where
      at : (said : Said s) → is ≡ instances s said f
      at said = (typed.1 said.domain said.entities said.is_domain said.are_entities).1
