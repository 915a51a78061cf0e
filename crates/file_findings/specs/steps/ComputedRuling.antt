-- What the code computes; no promise is stated here. The outcome of a schema's rules at a population,
-- the instances that the weak rules pin, and the lists that the gentle rules need.
use Rattle.std.specs.Prelude.{◌≢◌, ◌↔◌, ℕ, Bool, IsTrue, List, []}
use Rattle.express_syntax.specs.Schemas.{Schema}
use Rattle.schema_constraints.specs.declared.finding.RuleFinding.{RuleFinding}
use Rattle.schema_constraints.specs.declared.tables.RuleTables.{RuleTables}
use Rattle.schema_constraints.specs.RuleViews.{rules_seen}
use Rattle.conformance.specs.Bases.{Domain, IsDomain}
use Rattle.conformance.specs.Choices.{MergeOptions}
use Rattle.conformance.specs.Conforming.{PopulationConforms}
use Rattle.conformance.specs.Entities.{Entities, AreEntities}
use Rattle.conformance.specs.Pins.{IsWeaklyPinned}
use Rattle.conformance.specs.Populations.{Instance}
use Rattle.conformance.specs.SchemaMeanings.{Said}
use Rattle.merge_choices.specs.ChosenEntities.{AreChosen}
use Rattle.merge_choices.specs.declared.choice.Chosen.{Chosen}
use Rattle.population_pins.specs.Lists.{AreUniqueOf}
use Rattle.population_pins.specs.PopulationPins.{is_pinned}
use Rattle.file_findings.specs.Findings.{AreRuleFindings}
use Rattle.file_findings.specs.declared.rule_pins.Ruled.{Ruled}
use Rattle.file_findings.specs.declared.rule_pins.Ruled.TheVariants.{Broken, Kept}

module _ (s : Schema) (is : List Instance) where
  -- `weak` holds exactly of the weakly pinned instances, whatever may be merged by `chosen`.
  abbrev pub AreWeakPins : RuleTables → Chosen → (ℕ → Bool) → Type 0
  AreWeakPins t chosen weak = (d : Domain) (en : Entities) (those : MergeOptions) → IsDomain s d → AreEntities s en
      → AreChosen s those chosen → (y : ℕ)
      → IsTrue (weak y) ↔ IsWeaklyPinned s d en (rules_seen s t) those is y

  -- `gs` are the findings of rules, and `n` pairs of an instance and a domain rule are UNKNOWN, if the population
  -- conforms apart from rules.
  abbrev pub AreFound : List RuleFinding → ℕ → Type 0
  AreFound gs n = (said : Said s) → PopulationConforms s said.domain said.entities is → AreRuleFindings s said is gs n

  -- Either some rules are broken, and the report lists them, or none is. In that case the weak pins are given, and
  -- the lists of the instances that occur in LISTs and ARRAYs OF UNIQUE.
  abbrev pub IsRuled : RuleTables → Chosen → Ruled → Type 0
  IsRuled t chosen (Broken r) = (r.findings.items ≢ []) × AreFound r.findings.items r.unknown
  IsRuled t chosen (Kept unknown weak) =
      AreFound [] unknown × AreWeakPins t chosen (is_pinned weak.pins) × AreUniqueOf s is weak.lists
