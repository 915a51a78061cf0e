use Rattle.std.proofs.Common.{ap, sym, ◌∙◌}
use Rattle.express_syntax.specs.Words.{words_of}
use Rattle.express_syntax.specs.Views.{run_of}
use Rattle.express_parts.proofs.BoundSteps.{width_known, width_other}
use Rattle.express_parts.proofs.bounds.width.Goals as goal

pub returns-in-Some-clause-read : goal.returns-in-Some-clause-read
returns-in-Some-clause-read c =
    rw (← c.reader.view_is) (width_known c.args.around c.next_run.new.buffer.lexemes.items
    (run_of c.in_ok-tokens.tokens) c.in-Some.width.text.now c.reader.inside.lexer c.next_run.new.lexer
    c.requires.around c.in_ok-tokens.ensures.read (sym (ap words_of c.deref.ensures.value) ∙ c.in-Some.ensures))

pub returns-clause-read : goal.returns-clause-read
returns-clause-read c =
    rw (← c.reader.view_is) (width_other c.args.around c.next_run.new.buffer.lexemes.items
    (run_of c.in_ok-tokens.tokens) c.reader.inside.lexer c.next_run.new.lexer c.requires.around
    c.in_ok-tokens.ensures.read (λ t e. c.in_default.ensures t (ap words_of c.deref.ensures.value ∙ e)))

pub returns-clause-text : goal.returns-clause-text
returns-clause-text c = rw (← c.reader.view_is) c.in_ok-tokens.ensures.text
