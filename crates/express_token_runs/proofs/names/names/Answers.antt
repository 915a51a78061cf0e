use Rattle.std.proofs.Common.{sym, ap, ◌∙◌, ◌≡◌, [], ◌∷◌, ◌++◌}
use Rattle.std.proofs.lemmas.Result.{err_from_is_err_and}
use Rattle.express_syntax.specs.ExpressionViews.{capitals}
use Rattle.express_token_runs.specs.steps.Items.{located_of}
use Rattle.express_syntax.specs.Views.{names_of}
use Rattle.express_syntax.specs.steps.Predict.{Names, EndOfText}
use Rattle.express_token_runs.proofs.NameSteps.{names_first, names_none, names_stopped, names_other, names_done, names_lacking, names_next, names_smaller}
use Rattle.express_token_runs.proofs.names.names.Goals as goal
use Rattle.express_syntax.proofs.Lists.{map_push}

pub returns-in_err-first : goal.returns-in_err-first
returns-in_err-first c =
    let p = err_from_is_err_and c.from_residual-in_err-first.result c.from_residual-in_err-first.ensures.1 in
    rw (p.1, p.2) (names_none _ c.args.reader.now c.expect.new.self c.in_ok-expect.ensures c.in_err-first.ensures)

pub loop-names-init : goal.loop-names-init
loop-names-init c =
    let e : names_of c.push.new.self.items ≡ capitals c.in_ok-first.first ∷ [] = ap names_of c.in_ok-push.ensures.items
    ∙ ap (λ l. names_of (l ++ c.in_ok-first.first ∷ [])) c.new-names.ensures.items in
    rw e (names_first (capitals c.in_ok-first.first) c.args.reader.now c.expect.new.self c.expect_name.new.self
    c.in_ok-expect.ensures c.in_ok-first.ensures)

pub returns-in_err-behind : goal.returns-in_err-behind
returns-in_err-behind c =
    let p = err_from_is_err_and c.from_residual-in_err-behind.result c.from_residual-in_err-behind.ensures.1 in
    rw (p.1, p.2) (names_stopped _ (names_of c.loop-names.names.items) c.args.reader.now c.loop-names.reader
    c.loop-names.invariant (c.in_err-behind.ensures Names (λ (e : Names ≡ EndOfText). cc)))

pub returns-then-is_mark : goal.returns-then-is_mark
returns-then-is_mark c =
    rw c.shrink_to_fit.ensures.items (names_done (names_of c.loop-names.names.items) (located_of c.in_ok-behind.behind)
    c.args.reader.now c.loop-names.reader c.take.new.self c.loop-names.invariant c.in_ok-behind.ensures
    (sym c.is_mark.ensures ∙ c.if-is_mark.true))

pub returns-then-not-is_mark : goal.returns-then-not-is_mark
returns-then-not-is_mark c =
    names_other c.refuse.result (names_of c.loop-names.names.items) (located_of c.in_ok-behind.behind) c.args.reader.now
    c.loop-names.reader c.take.new.self c.loop-names.invariant c.in_ok-behind.ensures
    (sym c.is_mark.ensures ∙ c.if-is_mark.false) (sym c.is_mark-in-loop-names.ensures ∙ c.if-not-is_mark.true)
    c.refuse.ensures

pub returns-in_err-further : goal.returns-in_err-further
returns-in_err-further c =
    let p = err_from_is_err_and c.from_residual-in_err-further.result c.from_residual-in_err-further.ensures.1 in
    rw (p.1, p.2) (names_lacking _ (names_of c.loop-names.names.items) (located_of c.in_ok-behind.behind)
    c.args.reader.now c.loop-names.reader c.take.new.self c.loop-names.invariant c.in_ok-behind.ensures
    (sym c.is_mark-in-loop-names.ensures ∙ c.if-not-is_mark.false) c.in_err-further.ensures)

pub loop-names-smaller : goal.loop-names-smaller
loop-names-smaller c =
    names_smaller (capitals c.in_ok-further.further) (located_of c.in_ok-behind.behind) c.loop-names.reader
    c.take.new.self c.expect_name-in-loop-names.new.self c.in_ok-behind.ensures (sym c.is_mark-in-loop-names.ensures
    ∙ c.if-not-is_mark.false) c.in_ok-further.ensures

pub loop-names-preserved : goal.loop-names-preserved
loop-names-preserved c =
    let e : names_of c.push-in-loop-names.new.self.items ≡ names_of c.loop-names.names.items
    ++ capitals c.in_ok-further.further ∷ [] = ap names_of c.in_ok-push-2.ensures.items
    ∙ map_push capitals c.loop-names.names.items c.in_ok-further.further in
    rw e (names_next (names_of c.loop-names.names.items) (capitals c.in_ok-further.further)
    (located_of c.in_ok-behind.behind) c.args.reader.now c.loop-names.reader c.take.new.self
    c.expect_name-in-loop-names.new.self
    c.loop-names.invariant c.in_ok-behind.ensures (sym c.is_mark-in-loop-names.ensures ∙ c.if-not-is_mark.false)
    c.in_ok-further.ensures)
