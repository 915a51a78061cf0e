use Rattle.std.proofs.Common.{subst, sym}
use Rattle.express_syntax.specs.Profile.{Every}
use Rattle.rule_evaluation.specs.steps.Kept.{IsRight}
use Rattle.rule_evaluation.proofs.Keeping.{every-pushed}
use Rattle.rule_evaluation.proofs.derived_values.KeptValues.keep.Goals as goal

pub returns : goal.returns
returns c S m right worth =
    subst (Every (IsRight S m)) (sym c.in_ok-push.ensures.items)
    (every-pushed (IsRight S m) c.args.self.now.values.items _ right worth)
