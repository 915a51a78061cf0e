use Rattle.std.proofs.Common.{sym, ◌∙◌, ◌≡◌}
use Rattle.std.proofs.lemmas.Result.{err_from_is_err_and}
use Rattle.express_syntax.specs.Words.{word_of}
use Rattle.express_token_runs.specs.steps.Items.{located_of}
use Rattle.express_syntax.specs.steps.Predict.{Labelled, EndOfText, in_rule}
use Rattle.express_syntax.specs.Views.{body_of}
use Rattle.express_parts.proofs.RuleSteps.{behind_name, behind_label, labelled_read, second_read, second_stops}
use Rattle.express_syntax.proofs.SameText.{shows_text, kept}
use Rattle.express_syntax.specs.Sources.{IsBodyOf}
use Rattle.express_parts.proofs.rules.named_rule.Goals as goal

pub returns-in_err-next-clause-read : goal.returns-in_err-next-clause-read
returns-in_err-next-clause-read c = λ end.
    let p = err_from_is_err_and c.from_residual.result c.from_residual.ensures.1 in
    rw (p.1, p.2) (behind_name _ end c.args.word c.args.place c.args.reader.now
    (c.in_err-next.ensures (Labelled end) (λ (e : Labelled end ≡ EndOfText). cc)))

pub returns-in_err-body-clause-read : goal.returns-in_err-body-clause-read
returns-in_err-body-clause-read c = λ end.
    let p = err_from_is_err_and c.from_residual-in_err-body.result c.from_residual-in_err-body.ensures.1 in
    rw (p.1, p.2) (behind_label _ end c.args.word c.args.place (located_of c.in_ok-next.next) c.args.reader.now
    c.take.new.self c.in_ok-next.ensures (sym c.is_mark.ensures ∙ c.if-is_mark.true) c.in_err-body.ensures.read)

pub returns-then-is_mark-clause-read : goal.returns-then-is_mark-clause-read
returns-then-is_mark-clause-read c = λ end.
    labelled_read end c.args.word c.args.place (located_of c.in_ok-next.next) (body_of c.in_ok-body.body)
    c.args.reader.now c.take.new.self c.body.new.reader c.in_ok-next.ensures (sym c.is_mark.ensures
    ∙ c.if-is_mark.true) c.in_ok-body.ensures.read

pub gathered_body-requires : goal.gathered_body-requires
gathered_body-requires c = record {
  begun = (
    c.args.reader.now,
    c.in_ok-begin.ensures.2 in_rule 0 c.requires.shown.0 c.args.reader.now
        c.requires.shown.1 c.place-to.ensures,
    rw c.reader.view_is c.in_ok-next.ensures,
  );
}

pub returns-in_err-body-2-clause-read : goal.returns-in_err-body-2-clause-read
returns-in_err-body-2-clause-read c = λ end.
    let p = err_from_is_err_and c.from_residual-in_err-body-2.result c.from_residual-in_err-body-2.ensures.1 in
    rw (p.1, p.2) (second_stops end c.args.word c.args.place (word_of c.in_ok-next.next.lexeme) c.in_ok-next.next.place
    c.begin.new.self c.args.reader.now c.reader.inside.lexer _ c.in_ok-begin.ensures.0 c.in_ok-begin.ensures.1
    (sym c.is_mark.ensures ∙ c.if-is_mark.false) (rw c.reader.view_is c.in_ok-next.ensures)
    c.in_err-body-2.ensures.read)

pub returns-clause-read : goal.returns-clause-read
returns-clause-read c = λ end.
    second_read end c.args.word c.args.place (word_of c.in_ok-next.next.lexeme) c.in_ok-next.next.place c.begin.new.self
    c.args.reader.now c.reader.inside.lexer (body_of c.in_ok-body-2.body) c.gathered_body.new.lexer
    c.in_ok-begin.ensures.0 c.in_ok-begin.ensures.1 (sym c.is_mark.ensures ∙ c.if-is_mark.false)
    (rw c.reader.view_is c.in_ok-next.ensures) c.in_ok-body-2.ensures.read

pub returns-then-is_mark-clause-text : goal.returns-then-is_mark-clause-text
returns-then-is_mark-clause-text c = kept IsBodyOf c.in_ok-body.body (shows_text _ _ _ c.in_ok-next.ensures)
    c.in_ok-body.ensures.text

pub returns-clause-text : goal.returns-clause-text
returns-clause-text c = kept IsBodyOf c.in_ok-body-2.body (shows_text c.args.reader.now
    (located_of c.in_ok-next.next) c.reader.inside.lexer (rw c.reader.view_is c.in_ok-next.ensures))
    c.in_ok-body-2.ensures.text
