use Rattle.std.proofs.Common.{ap, ◌∙◌}
use Rattle.std.specs.Str.{bytes_eq}
use Rattle.step_literals.specs.Words.{upper}
use Rattle.express_token_runs.proofs.SkippedSteps.{spelled}
use Rattle.express_token_runs.proofs.skipped_declarations.spells.Goals as goal

pub returns : goal.returns
returns c =
    spelled c.spelling.result.now c.args.wanted.now c.eq_ignore_ascii_case.result c.requires
    c.eq_ignore_ascii_case.ensures.test ∙ ap (λ r. bytes_eq (upper r.now) c.args.wanted.now) c.spelling.ensures
