use Rattle.std.proofs.Common.{◌≡◌, arith}
use Rattle.express_syntax.specs.Words.{word_of}
use Rattle.express_token_runs.proofs.SkippedSteps.{begun_first, begun_more}
use Rattle.express_token_runs.proofs.skipped_declarations.begun.Goals as goal

pub returns-then-from-to-clause-stand : goal.returns-then-from-to-clause-stand
returns-then-from-to-clause-stand c = λ ws old new h e k. begun_first c.args.from c.args.to ws
    (word_of c.args.item.lexeme) c.args.item.place old new (omega arith) h k

pub returns-clause-stand : goal.returns-clause-stand
returns-clause-stand c = λ ws old new h e k. begun_more c.args.from c.args.to ws (word_of c.args.item.lexeme)
    c.args.item.place old new (λ (same : c.args.from ≡ c.args.to). omega (arith, same)) h e k
