use Rattle.std.proofs.lemmas.Result.{err_from_is_err_and}
use Rattle.std.proofs.Common.{[], ◌∷◌, refl}
use Rattle.express_parts.specs.steps.Endings.{ending_of}
use Rattle.express_syntax.specs.Views.{width_of}
use Rattle.express_syntax.specs.steps.Predict.{FixedWidthOr, FixedOr}
use Rattle.express_parts.proofs.DataTypeSteps.{stops_left, fixed_some}
use Rattle.express_parts.proofs.data_types.fixed_width.Goals as goal

pub returns-in_err-width-clause-read : goal.returns-in_err-width-clause-read
returns-in_err-width-clause-read c =
    let p = err_from_is_err_and c.from_residual.result c.from_residual.ensures.1 in
    rw (p.1, p.2) (c.in_err-width.ensures.read (FixedWidthOr c.args.depth (ending_of c.args.end))
    (FixedOr (ending_of c.args.end) ∷ []) (λ s. refl))

pub returns-in_default-clause-read : goal.returns-in_default-clause-read
returns-in_default-clause-read c = (
  tt,
  rw c.in_default.is at
      (c.in_ok-width.ensures.read (FixedWidthOr c.args.depth (ending_of c.args.end))
      (FixedOr (ending_of c.args.end) ∷ [])
      (λ s. refl)),
)

pub returns-in_err-is_fixed-clause-read : goal.returns-in_err-is_fixed-clause-read
returns-in_err-is_fixed-clause-read c =
    let p = err_from_is_err_and c.from_residual-in_err-is_fixed.result c.from_residual-in_err-is_fixed.ensures.1 in
    rw (p.1, p.2) (stops_left _ (FixedOr (ending_of c.args.end) ∷ [])
    (rw c.in-Some.is at (c.in_ok-width.ensures.read (FixedWidthOr c.args.depth (ending_of c.args.end))
    (FixedOr (ending_of c.args.end) ∷ []) (λ s. refl))).1 c.in_err-is_fixed.ensures)

pub returns-clause-read : goal.returns-clause-read
returns-clause-read c =
    let h = rw c.in-Some.is at (c.in_ok-width.ensures.read (FixedWidthOr c.args.depth (ending_of c.args.end))
    (FixedOr (ending_of c.args.end) ∷ []) (λ s. refl)) in rw c.in_ok-boxed.ensures.ok (
      h.0,
      fixed_some c.args.depth (ending_of c.args.end) (width_of c.in-Some.width) c.in_ok-is_fixed.is_fixed
          c.args.reader.now c.width_or_end.new.reader c.fixed.new.reader h.1 c.in_ok-is_fixed.ensures,
    )

pub returns-clause-text : goal.returns-clause-text
returns-clause-text c = rw c.in_ok-boxed.ensures.ok (rw c.in-Some.is at c.in_ok-width.ensures.text)
