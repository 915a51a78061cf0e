use Rattle.std.proofs.lemmas.Result.{err_from_is_err_and}
use Rattle.express_syntax.specs.Views.{bound_of}
use Rattle.express_parts.proofs.BoundSteps.{bounds_err_upper, bounds_err_of, bounds_done}
use Rattle.express_syntax.proofs.SameText.{passes_text, kept}
use Rattle.express_syntax.specs.Sources.{IsBoundOf}
use Rattle.express_parts.proofs.bounds.bounds.Goals as goal

pub returns-in_err-upper-clause-read : goal.returns-in_err-upper-clause-read
returns-in_err-upper-clause-read c =
    let p = err_from_is_err_and c.from_residual-in_err-upper.result c.from_residual-in_err-upper.ensures.1 in
    rw (p.1, p.2) (bounds_err_upper _ c.args.around (bound_of c.in_ok-lower.lower) c.args.reader.now c.bound.new.reader
    c.in_ok-lower.ensures.read c.in_err-upper.ensures.read)

pub returns-in_err-expect_keyword-clause-read : goal.returns-in_err-expect_keyword-clause-read
returns-in_err-expect_keyword-clause-read c =
    let p = err_from_is_err_and c.from_residual-in_err-expect_keyword.result
    c.from_residual-in_err-expect_keyword.ensures.1 in
    rw (p.1, p.2) (bounds_err_of _ c.args.around (bound_of c.in_ok-lower.lower) (bound_of c.in_ok-upper.upper)
    c.args.reader.now c.bound.new.reader c.bound-2.new.reader c.in_ok-lower.ensures.read c.in_ok-upper.ensures.read
    c.in_err-expect_keyword.ensures)

pub returns-clause-read : goal.returns-clause-read
returns-clause-read c =
    bounds_done c.args.around (record {
      lower = bound_of c.in_ok-lower.lower;
      upper = bound_of c.in_ok-upper.upper;
    }) c.args.reader.now
    c.bound.new.reader c.bound-2.new.reader c.expect_keyword.new.self c.requires.around
    c.in_ok-lower.ensures.read c.in_ok-upper.ensures.read c.in_ok-expect_keyword.ensures

pub returns-clause-text : goal.returns-clause-text
returns-clause-text c = (
  c.in_ok-lower.ensures.text,
  kept IsBoundOf c.in_ok-upper.upper (passes_text c.in_ok-lower.ensures.read.1) c.in_ok-upper.ensures.text,
)
