use Rattle.std.proofs.Common.{sym, ap, refl, ◌∙◌, ◌≡◌, false, Bool, IsTrue}
use Rattle.std.proofs.lemmas.Bool.{false≢true}
use Rattle.std.proofs.lemmas.Result.{err_from_is_err_and}
use Rattle.step_lexer.specs.declared.token.Mark.TheVariants.{Semicolon}
use Rattle.step_structures.specs.Words.{located}
use Rattle.step_structures.specs.steps.Predict.{Just, EndOfText}
use Rattle.step_records.specs.steps.Readers.{reading}
use Rattle.step_records.proofs.Looking.{stops_refused, mark_refused}
use Rattle.step_exchange.proofs.HeadSteps.{schema_err, schema_err_mark, schema_unnamed}
use Rattle.step_exchange.proofs.HeadKeeping.{schema_kept}
use Rattle.step_exchange.proofs.SchemaNames.{line_is, line_within, names_of_line, line_of_names}
use Rattle.step_exchange.proofs.schema.schema.Goals as goal

not_true : (b : Bool) → b ≡ false → IsTrue b → ⊥
not_true b e h = false≢true (sym e ∙ h)

pub returns-in_err-place : goal.returns-in_err-place
returns-in_err-place c =
    let p = err_from_is_err_and c.from_residual.result c.from_residual.ensures.1 in
    rw (p.1, p.2) (schema_err _ (reading c.args.reader.now) c.in_err-place.ensures)

pub returns-in_err-end : goal.returns-in_err-end
returns-in_err-end c =
    let p = err_from_is_err_and c.from_residual-in_err-end.result c.from_residual-in_err-end.ensures.1 in
    let h = c.in_ok-place.ensures in
    rw (p.1, p.2) (schema_err_mark _ (reading c.args.reader.now) h.p c.in_ok-place.place (reading c.head.new.reader)
    h.takes (c.in_err-end.ensures (Just Semicolon) (λ (e : Just Semicolon ≡ EndOfText). cc)))

pub returns-then-not-is_mark : goal.returns-then-not-is_mark
returns-then-not-is_mark c =
    let h = c.in_ok-place.ensures in
    schema_err_mark c.refuse.result (reading c.args.reader.now) h.p c.in_ok-place.place (reading c.head.new.reader)
    h.takes (stops_refused c.refuse.result (Just Semicolon) c.in_ok-end.end (reading c.head.new.reader)
    (reading c.take.new.reader) c.in_ok-end.ensures.0 (mark_refused Semicolon (located c.in_ok-end.end).lookahead
    (sym c.is_mark.ensures ∙ c.if-not-is_mark.true)) c.refuse.ensures)

pub at-requires : goal.at-requires
at-requires c =
    let h = c.in_ok-place.ensures in
    line_within c.args.reader.now c.head.new.reader h.p c.kept.result c.kept_len-before.result h.keeps
    c.kept_len-before.ensures (c.kept.ensures ∙ ap (λ b. b.kept) c.in_ok-end.ensures.1)

pub returns-then-not-names_schema : goal.returns-then-not-names_schema
returns-then-not-names_schema c =
    let h = c.in_ok-place.ensures in
    let is = line_is c.args.reader.now c.head.new.reader h.p c.kept.result c.kept_len-before.result c.at.result h.keeps
    c.kept_len-before.ensures (c.kept.ensures ∙ ap (λ b. b.kept) c.in_ok-end.ensures.1) c.at.ensures in
    schema_unnamed _ (reading c.args.reader.now) h.p c.in_ok-place.place (reading c.head.new.reader) c.in_ok-end.end
    (reading c.take.new.reader) h.takes c.in_ok-end.ensures.0 (sym c.is_mark.ensures ∙ c.if-not-is_mark.false)
    (λ n. not_true c.names_schema.result c.if-not-names_schema.true (c.names_schema.ensures.1 (line_of_names h.p
    c.at.result is n))) refl

pub returns : goal.returns
returns c =
    let h = c.in_ok-place.ensures in
    let is = line_is c.args.reader.now c.head.new.reader h.p c.kept.result c.kept_len-before.result c.at.result h.keeps
    c.kept_len-before.ensures (c.kept.ensures ∙ ap (λ b. b.kept) c.in_ok-end.ensures.1) c.at.ensures in
    schema_kept c.in_ok-place.place c.args.reader.now c.head.new.reader c.take.new.reader c.in_ok-end.end h
    c.in_ok-end.ensures.0 c.in_ok-end.ensures.1 (sym c.is_mark.ensures ∙ c.if-not-is_mark.false) (names_of_line h.p
    c.at.result is (c.names_schema.ensures.0 c.if-not-names_schema.false))
