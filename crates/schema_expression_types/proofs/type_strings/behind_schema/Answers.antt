use Rattle.std.proofs.Common.{◌≡◌, ◌∙◌, false, true, ap, sym, length, take, drop}
use Rattle.step_literals.specs.Words.{upper}
use Rattle.step_literals.proofs.CaseLemmas.{same_without_case}
use Rattle.schema_expression_types.proofs.Capitals.{other-front, behind-told}
use Rattle.schema_expression_types.proofs.type_strings.behind_schema.Goals as goal

pub returns-then-not-eq_ignore_ascii_case : goal.returns-then-not-eq_ignore_ascii_case
returns-then-not-eq_ignore_ascii_case c n e =
    let schema = c.args.schema.text.now in
    let text = c.args.text.now in
    let front = c.in_ok-front.front.now in
    let long : c.spelling.result.now ≡ schema = λ i. (c.spelling.ensures i).now in
    let again : c.spelling-2.result.now ≡ schema = λ i. (c.spelling-2.ensures i).now in
    let (within, front-is, rest-is, front-long, rest-long) = c.in_ok-front.ensures.cases in
    let case = same_without_case front c.spelling-2.result.now in
    other-front schema text front (front-is ∙ ap (λ l. take (length l) text) long)
    (λ same. let q : false ≡ true =
    sym c.if-not-eq_ignore_ascii_case.true ∙ c.eq_ignore_ascii_case.ensures.test.1 (case.1 (same ∙ ap upper (sym again)))
    in absurd (cc)) n e

pub returns : goal.returns
returns c =
    let schema = c.args.schema.text.now in
    let text = c.args.text.now in
    let front = c.in_ok-front.front.now in
    let long : c.spelling.result.now ≡ schema = λ i. (c.spelling.ensures i).now in
    let again : c.spelling-2.result.now ≡ schema = λ i. (c.spelling-2.ensures i).now in
    let (within, front-is, rest-is, front-long, rest-long) = c.in_ok-front.ensures.cases in
    let case = same_without_case front c.spelling-2.result.now in
    behind-told schema text front c.in_ok-front.rest.now (front-is ∙ ap (λ l. take (length l) text) long)
    (rest-is ∙ ap (λ l. drop (length l) text) long) c.requires
    (case.0 (c.eq_ignore_ascii_case.ensures.test.0 c.if-not-eq_ignore_ascii_case.false) ∙ ap upper again)
    c.strip_prefix.result (λ b. b.now) c.strip_prefix.ensures.cases
