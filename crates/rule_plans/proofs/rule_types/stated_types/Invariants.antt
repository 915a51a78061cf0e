use Rattle.std.proofs.Common.{◌≡◌, length, take}
use Rattle.rule_plans.specs.steps.Wanted.{AreStated}
use Rattle.rule_plans.proofs.rule_types.stated_types.Given as goal

abbrev pub invariant-loop-rule : goal.invariant-loop-rule
invariant-loop-rule l =
    record {
      long : length l.stated.items ≡ length l.names.schema.now.declarations.items;
      stated : AreStated (take l.rule-index l.rules) l.stated.items;
    }
