use Rattle.std.proofs.Common.{◌≡◌, sym, ◌∙◌}
use Rattle.std.proofs.lemmas.Result.{err_from_is_err_and}
use Rattle.express_token_runs.specs.steps.Items.{located_of}
use Rattle.express_syntax.specs.steps.Predict.{Super, EndOfText}
use Rattle.express_entities.proofs.EntitySteps.{answers_as, head_plain, head_err_plain, head_err_second, head_abstract, head_err_abstract}
use Rattle.express_syntax.proofs.SameText.{shows_text, kept_ok}
use Rattle.express_syntax.specs.Sources.{IsSupertypeOf}
use Rattle.express_entities.proofs.entities.read_head.Goals as goal

pub returns-then-not-is_keyword-clause-read : goal.returns-then-not-is_keyword-clause-read
returns-then-not-is_keyword-clause-read c =
    answers_as c.types.result (λ h g. head_plain h (located_of c.in_ok-first.first) c.args.reader.now
    c.in_ok-first.ensures (sym c.is_keyword.ensures ∙ c.if-not-is_keyword.true) g)
    (λ f g. head_err_plain f (located_of c.in_ok-first.first) c.args.reader.now c.in_ok-first.ensures
    (sym c.is_keyword.ensures ∙ c.if-not-is_keyword.true) g) c.types.ensures.read

pub returns-in_err-second-clause-read : goal.returns-in_err-second-clause-read
returns-in_err-second-clause-read c =
    let p = err_from_is_err_and c.from_residual-in_err-second.result c.from_residual-in_err-second.ensures.1 in
    rw (p.1, p.2) (head_err_second _ (located_of c.in_ok-first.first) c.args.reader.now c.in_ok-first.ensures
    (sym c.is_keyword.ensures ∙ c.if-not-is_keyword.false)
    (c.in_err-second.ensures Super (λ (e : Super ≡ EndOfText). cc)))

pub returns-clause-read : goal.returns-clause-read
returns-clause-read c =
    answers_as c.types-2.result (λ h g. head_abstract h (located_of c.in_ok-first.first)
    (located_of c.in_ok-second.second) c.args.reader.now c.in_ok-first.ensures (sym c.is_keyword.ensures
    ∙ c.if-not-is_keyword.false) c.in_ok-second.ensures g)
    (λ f g. head_err_abstract f (located_of c.in_ok-first.first) (located_of c.in_ok-second.second)
    c.args.reader.now c.in_ok-first.ensures (sym c.is_keyword.ensures ∙ c.if-not-is_keyword.false)
    c.in_ok-second.ensures g) c.types-2.ensures.read

pub returns-then-not-is_keyword-clause-text : goal.returns-then-not-is_keyword-clause-text
returns-then-not-is_keyword-clause-text c = kept_ok (λ t h. IsSupertypeOf t h.supertype) c.types.result
    (shows_text _ _ _ c.in_ok-first.ensures) c.types.ensures.text

pub returns-clause-text : goal.returns-clause-text
returns-clause-text c = kept_ok (λ t h. IsSupertypeOf t h.supertype) c.types-2.result
    (shows_text _ _ _ c.in_ok-second.ensures ∙ shows_text _ _ _ c.in_ok-first.ensures) c.types-2.ensures.text
