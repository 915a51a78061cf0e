-- Pins that are found in two steps.
use Rattle.std.specs.Prelude.{ℕ, List}
use Rattle.std.proofs.Common.{inl, inr}
use Rattle.value_equality.specs.Tables.{shares}
use Rattle.value_equality.proofs.Rounds.{tables_decide}
use Rattle.express_syntax.specs.Schemas.{Schema}
use Rattle.conformance.specs.Choices.{MergeOptions}
use Rattle.conformance.specs.Populations.{Instance}
use Rattle.conformance.specs.Rules.{Rules, AreRules}
use Rattle.conformance.specs.Pins.{IsWeaklyPinned}
use Rattle.conformance.proofs.RuleOneness.{rules_are_one}
use Rattle.conformance.proofs.Standing.{either}
use Rattle.conformance.specs.SchemaMeanings.{Said}
use Rattle.merge_theorems.specs.TwoStepPins.{PinsAreFound}

-- whatever the rules of the schema are said by
pub weak_one : (s : Schema) (said : Said s) (chosen : MergeOptions) (is : List Instance) (p q : Rules)
    → AreRules s said.domain p → AreRules s said.domain q → (y : ℕ)
    → IsWeaklyPinned s said.domain said.entities p chosen is y
    → IsWeaklyPinned s said.domain said.entities q chosen is y
weak_one s said chosen is p q h k y (inl o) =
    inl ((rules_are_one s said.domain said.entities p q said.resolved h k is).4 chosen y o)
weak_one s said chosen is p q h k y (inr o) = inr o

unfoldable pub pins_are_found : PinsAreFound
pins_are_found s said chosen is P rules weak gentle t are population weakly valid gently = record {
  weak = weak;
  are_weak = λ y. (
    λ w. weak_one s said chosen is rules said.rules are said.are_rules y ((weakly y).0 w),
    λ p. (weakly y).1 (weak_one s said chosen is said.rules rules said.are_rules are y p),
  );
  classes = shares t t.rounds;
  are_classes = tables_decide P weak t population valid;
  are_gentle = λ y. (
    λ g. either (λ w. weak_one s said chosen is rules said.rules are said.are_rules y ((weakly y).0 w)) (λ b. b)
        ((gently y).0 g),
    λ p. (gently y).1 (either (λ w. (weakly y).1 (weak_one s said chosen is said.rules rules said.are_rules are y w))
        (λ b. b) p),
  );
}
