use Rattle.std.proofs.Common.{◌∙◌, ap, refl, take, drop}
use Rattle.std.proofs.lemmas.Str.{is_utf8-from_IsUtf8}
use Rattle.express_lexer.proofs.MeaningLemmas.{run_begun, raw_begun, no_utf8, stops_behind}
use Rattle.express_lexer.proofs.literal.characters.Characters.at_run.Goals as goal

pub returns-in-Ok-clause-left : goal.returns-in-Ok-clause-left
returns-in-Ok-clause-left c =
    let bs = c.args.rest.now in
    let cases = c.in-Ok.ensures.cases in
    c.inside.ensures.left ∙ run_begun c.in-Ok.text.now c.split_at.result.0.now bs c.split_at.result.1.now
    (c.split_at.ensures.front ∙ ap (λ n. take n bs) c.high_len.ensures.len)
    (c.split_at.ensures.back ∙ ap (λ n. drop n bs) c.high_len.ensures.len) cases.0
    (is_utf8-from_IsUtf8 c.split_at.result.0.now cases.1)

pub returns-in-Ok-clause-stops : goal.returns-in-Ok-clause-stops
returns-in-Ok-clause-stops c = stops_behind c.args.rest.now _ (c.inside.ensures.rest ∙ c.split_at.ensures.back
    ∙ ap (λ n. drop n c.args.rest.now) c.high_len.ensures.len)

pub returns-in-Err-clause-left : goal.returns-in-Err-clause-left
returns-in-Err-clause-left c =
    let bs = c.args.rest.now in
    c.inside-in-Err.ensures.left ∙ raw_begun _ c.split_at.result.0.now bs c.split_at.result.1.now
    (c.split_at.ensures.front ∙ ap (λ n. take n bs) c.high_len.ensures.len)
    (c.split_at.ensures.back ∙ ap (λ n. drop n bs) c.high_len.ensures.len) refl
    (no_utf8 c.split_at.result.0.now c.in-Err.ensures.cases.0)

pub returns-in-Err-clause-stops : goal.returns-in-Err-clause-stops
returns-in-Err-clause-stops c = stops_behind c.args.rest.now _ (c.inside-in-Err.ensures.rest ∙ c.split_at.ensures.back
    ∙ ap (λ n. drop n c.args.rest.now) c.high_len.ensures.len)
