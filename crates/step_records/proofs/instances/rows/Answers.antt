use Rattle.std.proofs.Common.{sym, ap, ◌∙◌, ◌≡◌, ◌++◌, ◌∷◌, []}
use Rattle.std.proofs.lemmas.Result.{err_from_is_err_and}
use Rattle.step_structures.specs.steps.Predict.{Rows, EndOfText}
use Rattle.step_records.specs.steps.Readers.{reading}
use Rattle.step_records.proofs.RowSteps.{rows_err_token, rows_err_name, rows_err_row, rows_err_end}
use Rattle.step_records.proofs.Instancing.{instances_begin, instances_next, instances_end, instances_less}
use Rattle.step_records.proofs.instances.rows.Goals as goal

pub loop-token-init : goal.loop-token-init
loop-token-init c = instances_begin c.args.names.now c.args.reader.now

pub returns-in_err-token : goal.returns-in_err-token
returns-in_err-token c =
    let p = err_from_is_err_and c.from_residual.result c.from_residual.ensures.1 in
    let ns = c.loop-token.names in
    rw (p.1, p.2) (rows_err_token _ c.args.names.now (reading c.args.reader.now) ns (reading c.loop-token.reader)
    c.loop-token.invariant.so (λ k. c.in_err-token.ensures (Rows k ns) (λ (e : Rows k ns ≡ EndOfText). cc)))

pub returns-in_err-expect : goal.returns-in_err-expect
returns-in_err-expect c =
    let p = err_from_is_err_and c.from_residual-in_err-expect.result c.from_residual-in_err-expect.ensures.1 in
    rw (p.1, p.2) (rows_err_end _ c.args.names.now (reading c.args.reader.now) c.loop-token.names
    (reading c.loop-token.reader) c.in_ok-token.token (reading c.take.new.reader) c.loop-token.invariant.so
    c.in_ok-token.ensures.0 (sym c.is_word.ensures ∙ c.if-is_word.true) c.in_err-expect.ensures)

pub returns-then-is_word : goal.returns-then-is_word
returns-then-is_word c = instances_end c.args.names.now c.args.reader.now
    c.loop-token.names c.loop-token.reader c.take.new.reader c.expect.new.reader c.in_ok-token.token
    c.loop-token.invariant c.in_ok-token.ensures.0 c.in_ok-token.ensures.1
    (sym c.is_word.ensures ∙ c.if-is_word.true) c.in_ok-expect.ensures.0 c.in_ok-expect.ensures.1

pub returns-in_err-name : goal.returns-in_err-name
returns-in_err-name c =
    let p = err_from_is_err_and c.from_residual-in_err-name.result c.from_residual-in_err-name.ensures.1 in
    rw (p.1, p.2) (rows_err_name _ c.args.names.now (reading c.args.reader.now) c.loop-token.names
    (reading c.loop-token.reader) c.in_ok-token.token (reading c.take.new.reader) c.loop-token.invariant.so
    c.in_ok-token.ensures.0 c.in_err-name.ensures.name)

pub returns-in_err-row : goal.returns-in_err-row
returns-in_err-row c =
    let p = err_from_is_err_and c.from_residual-in_err-row.result c.from_residual-in_err-row.ensures.1 in
    rw (p.1, p.2) (rows_err_row _ c.args.names.now (reading c.args.reader.now) c.loop-token.names
    (reading c.loop-token.reader) c.in_ok-token.token c.in_ok-name.name (reading c.take.new.reader)
    c.loop-token.invariant.so c.in_ok-token.ensures.0 c.in_ok-name.ensures.name c.in_err-row.ensures)

pub loop-token-smaller : goal.loop-token-smaller
loop-token-smaller c = instances_less c.loop-token.reader c.take.new.reader c.row.new.reader c.in_ok-token.token
    c.in_ok-token.ensures.0 c.in_ok-row.ensures

pub loop-token-preserved : goal.loop-token-preserved
loop-token-preserved c =
    let ns = c.loop-token.names in
    rw (c.in_ok-push.ensures ∙ ap (λ l. l ++ c.in_ok-name.name ∷ []) c.in_ok-name.ensures.same)
    (instances_next c.args.names.now c.args.reader.now ns c.loop-token.reader c.take.new.reader c.row.new.reader
    c.in_ok-token.token c.in_ok-name.name c.loop-token.invariant c.in_ok-token.ensures.0 c.in_ok-token.ensures.1
    c.in_ok-name.ensures.name c.in_ok-row.ensures)
