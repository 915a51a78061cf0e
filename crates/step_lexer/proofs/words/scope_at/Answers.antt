use Rattle.std.proofs.Common.{sym, ◌∙◌}
use Rattle.std.proofs.lemmas.Bool.{false≢true}
use Rattle.step_lexer.proofs.LeftOutLemmas.{scope_front, scope_none_at}
use Rattle.step_lexer.proofs.words.scope_at.Goals as goal

pub returns-then-says : goal.returns-then-says
returns-then-says c = scope_front c.args.bytes.now (c.says.ensures.0 c.if-says.true)

pub returns-else-says : goal.returns-else-says
returns-else-says c = scope_none_at c.args.bytes.now c.requires
    (λ h. false≢true (sym c.if-says.false ∙ c.says.ensures.1 h))
