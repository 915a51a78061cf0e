-- Weak pins that are found by the tables of a schema's rules are those of its rules.
use Rattle.std.specs.Prelude.{◌≡◌, ℕ, Bool, IsTrue, List, ◌↔◌}
use Rattle.std.proofs.Common.{subst, inl, inr}
use Rattle.express_syntax.specs.Schemas.{Schema}
use Rattle.schema_constraints.specs.declared.tables.RuleTables.{RuleTables}
use Rattle.schema_constraints.specs.RuleTables.{AreRuleTables}
use Rattle.schema_constraints.specs.RuleViews.{rules_seen}
use Rattle.conformance.specs.Choices.{MergeOptions}
use Rattle.conformance.specs.Pins.{IsWeaklyPinned}
use Rattle.conformance.specs.Populations.{Instance}
use Rattle.conformance.specs.Rules.{Rules, AreRules}
use Rattle.conformance.specs.SchemaMeanings.{Said}
use Rattle.conformance.proofs.RuleOneness.{rules_are_one}
use Rattle.merge_choices.specs.ChosenEntities.{AreChosen}
use Rattle.merge_choices.specs.declared.choice.Chosen.{Chosen}
use Rattle.file_findings.specs.steps.ComputedRuling.{AreWeakPins}

-- whatever the rules of the schema are said by
by_others : (s : Schema) (said : Said s) (chosen : MergeOptions) (is : List Instance) (p q : Rules)
    → AreRules s said.domain p → AreRules s said.domain q → (y : ℕ)
    → IsWeaklyPinned s said.domain said.entities p chosen is y
    → IsWeaklyPinned s said.domain said.entities q chosen is y
by_others s said chosen is p q h k y (inl o) =
    inl ((rules_are_one s said.domain said.entities p q said.resolved h k is).4 chosen y o)
by_others s said chosen is p q h k y (inr o) = inr o

pub weakly : (s : Schema) (said : Said s) (is all : List Instance) (t : RuleTables) (c : Chosen) (weak : ℕ → Bool)
    (chosen : MergeOptions) → AreRuleTables s t → AreWeakPins s is t c weak → AreChosen s chosen c → is ≡ all → (y : ℕ)
    → IsTrue (weak y) ↔ IsWeaklyPinned s said.domain said.entities said.rules chosen all y
weakly s said is all t c weak chosen rules found are same y =
    let seen = rules_seen s t in
    let seen_are = rules.rules said.domain said.is_domain in
    let told = subst (λ l. IsTrue (weak y) ↔ IsWeaklyPinned s said.domain said.entities seen chosen l y) same
    (found said.domain said.entities chosen said.is_domain said.are_entities are y) in (
      λ w. by_others s said chosen all seen said.rules seen_are said.are_rules y (told.0 w),
      λ p. told.1 (by_others s said chosen all said.rules seen said.are_rules seen_are y p),
    )
