use Rattle.std.proofs.Common.{◌∙◌}
use Rattle.step_literals.specs.Words.{upper}
use Rattle.express_syntax.proofs.KeywordLemmas.{keyword_in, said, found_here, not_here}
use Rattle.express_syntax.proofs.keyword.among.Goals as goal

pub returns-then-eq_ignore_ascii_case : goal.returns-then-eq_ignore_ascii_case
returns-then-eq_ignore_ascii_case c =
    let ks = c.args.keywords.now in
    let i = c.loop-keyword.keyword-index in
    let t = c.args.text.now in
    let test = said (keyword_in ks i) t c.text.result.now c.eq_ignore_ascii_case.result c.text.ensures
    c.eq_ignore_ascii_case.ensures.test in
    found_here ks i (upper t) c.loop-keyword-test.true c.loop-keyword.invariant (test ∙ c.if-eq_ignore_ascii_case.true)

pub loop-keyword-preserved : goal.loop-keyword-preserved
loop-keyword-preserved c =
    let ks = c.args.keywords.now in
    let i = c.loop-keyword.keyword-index in
    let t = c.args.text.now in
    let test = said (keyword_in ks i) t c.text.result.now c.eq_ignore_ascii_case.result c.text.ensures
    c.eq_ignore_ascii_case.ensures.test in
    not_here ks i (upper t) c.loop-keyword-test.true c.loop-keyword.invariant (test ∙ c.if-eq_ignore_ascii_case.false)
