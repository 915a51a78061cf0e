use Rattle.express_token_runs.specs.steps.Items.{located_of}
use Rattle.express_syntax.specs.Views.{run_of}
use Rattle.express_token_runs.specs.steps.OpenRuns.{part_of}
use Rattle.express_parts.proofs.BoundSteps.{run_of_gather}
use Rattle.express_syntax.proofs.SameText.{shows_text, kept_ok}
use Rattle.express_syntax.specs.Sources.{IsRunOf}
use Rattle.express_parts.proofs.bounds.next_run.Goals as goal

pub returns-clause-read : goal.returns-clause-read
returns-clause-read c =
    run_of_gather run_of (part_of c.args.part) c.args.around c.clear.new.self c.gather.new.buffer
    (located_of c.in_ok-first.first) c.args.lexer.now c.next_item.new.lexer c.gather.new.lexer c.gather.result
    c.clear.ensures.empty c.in_ok-first.ensures c.gather.ensures.read

pub returns-clause-text : goal.returns-clause-text
returns-clause-text c = kept_ok IsRunOf c.gather.result (shows_text _ _ _ c.in_ok-first.ensures) c.gather.ensures.text
