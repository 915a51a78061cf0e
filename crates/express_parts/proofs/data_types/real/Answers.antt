use Rattle.std.proofs.lemmas.Result.{err_from_is_err_and}
use Rattle.std.proofs.Common.{[], ◌∷◌, refl}
use Rattle.express_parts.specs.steps.Endings.{ending_of}
use Rattle.express_syntax.specs.Views.{width_of}
use Rattle.express_syntax.specs.steps.Predict.{Just, WidthOr, ending_mark}
use Rattle.express_parts.proofs.DataTypeSteps.{stops_left, real_none, real_some}
use Rattle.express_parts.proofs.data_types.real.Goals as goal

pub returns-in_err-width-clause-read : goal.returns-in_err-width-clause-read
returns-in_err-width-clause-read c =
    let p = err_from_is_err_and c.from_residual.result c.from_residual.ensures.1 in
    rw (p.1, p.2) (c.in_err-width.ensures.read (WidthOr c.args.depth (ending_of c.args.end))
    (Just (ending_mark (ending_of c.args.end)) ∷ []) (λ s. refl))

pub returns-in_default-clause-read : goal.returns-in_default-clause-read
returns-in_default-clause-read c =
    rw c.real.ensures.data_type
    (real_none c.args.depth (ending_of c.args.end) c.args.reader.now c.width_or_end.new.reader
    (rw c.in_default.is at (c.in_ok-width.ensures.read (WidthOr c.args.depth (ending_of c.args.end))
    (Just (ending_mark (ending_of c.args.end)) ∷ []) (λ s. refl))))

pub returns-in_err-expect_end-clause-read : goal.returns-in_err-expect_end-clause-read
returns-in_err-expect_end-clause-read c =
    let p = err_from_is_err_and c.from_residual-in_err-expect_end.result c.from_residual-in_err-expect_end.ensures.1 in
    rw (p.1, p.2) (stops_left _ (Just (ending_mark (ending_of c.args.end)) ∷ [])
    (rw c.in-Some.is at (c.in_ok-width.ensures.read (WidthOr c.args.depth (ending_of c.args.end))
    (Just (ending_mark (ending_of c.args.end)) ∷ []) (λ s. refl))).1 c.in_err-expect_end.ensures)

pub returns-clause-read : goal.returns-clause-read
returns-clause-read c =
    let h = rw c.in-Some.is at (c.in_ok-width.ensures.read (WidthOr c.args.depth (ending_of c.args.end))
    (Just (ending_mark (ending_of c.args.end)) ∷ []) (λ s. refl)) in
    rw (c.real-2.ensures.data_type, c.in_ok-boxed.ensures.ok)
    (real_some c.args.depth (ending_of c.args.end) (width_of c.in-Some.width) c.args.reader.now
    c.width_or_end.new.reader c.expect_end.new.reader h.0 h.1 c.in_ok-expect_end.ensures)

pub returns-in_default-clause-text : goal.returns-in_default-clause-text
returns-in_default-clause-text c = c.real.ensures.text _ tt

pub returns-clause-text : goal.returns-clause-text
returns-clause-text c =
    c.real-2.ensures.text _ (rw c.in_ok-boxed.ensures.ok (rw c.in-Some.is at c.in_ok-width.ensures.text))
