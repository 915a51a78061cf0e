use Rattle.std.proofs.Common.{ap, refl}
use Rattle.express_parts.proofs.BoundSteps.{same_capitals}
use Rattle.std.specs.Prelude.{codes}
use Rattle.express_parts.proofs.bounds.is_one_of.Goals as goal

pub returns : goal.returns
returns c = same_capitals c.args.word.text.now c.spelling.result.now (codes "ONEOF") c.eq_ignore_ascii_case.result
    (ap (λ r. r.now) c.spelling.ensures) refl c.eq_ignore_ascii_case.ensures.test
