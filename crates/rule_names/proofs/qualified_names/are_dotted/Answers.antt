use Rattle.std.proofs.Common.{◌≡◌, ◌≤◌, ◌∙◌, ap, subst, length, take, drop}
use Rattle.rule_names.proofs.Letters.{dotted_then, dotted_else}
use Rattle.rule_names.proofs.qualified_names.are_dotted.Goals as goal

pub returns-then-are_pointed : goal.returns-then-are_pointed
returns-then-are_pointed c =
    let bytes = c.args.bytes.now in
    let first = c.args.first.text.now in
    let spelled : c.spelling.result.now ≡ first = λ i. (c.spelling.ensures i).now in
    let (within, front-is, behind-is, front-long, behind-long) = c.in-Some.ensures.cases in
    dotted_then bytes first c.args.second.text.now c.in-Some.front.now c.in-Some.behind.now
    (subst (λ l. length l ≤ length bytes) spelled within) (front-is ∙ ap (λ l. take (length l) bytes) spelled)
    (behind-is ∙ ap (λ l. drop (length l) bytes) spelled) c.are_pointed.result c.are_capitals.result c.are_pointed.ensures
    c.if-are_pointed.true c.are_capitals.ensures

pub returns-else-are_pointed : goal.returns-else-are_pointed
returns-else-are_pointed c =
    let bytes = c.args.bytes.now in
    let first = c.args.first.text.now in
    let spelled : c.spelling.result.now ≡ first = λ i. (c.spelling.ensures i).now in
    let (within, front-is, behind-is, front-long, behind-long) = c.in-Some.ensures.cases in
    dotted_else bytes first c.args.second.text.now c.in-Some.front.now c.in-Some.behind.now
    (subst (λ l. length l ≤ length bytes) spelled within) (front-is ∙ ap (λ l. take (length l) bytes) spelled)
    (behind-is ∙ ap (λ l. drop (length l) bytes) spelled) c.are_pointed.result c.are_pointed.ensures c.if-are_pointed.false
