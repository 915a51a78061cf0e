use Rattle.std.proofs.Common.{rules, sym, ◌∙◌, ◌≤◌, ◌<◌}
use Rattle.std.proofs.lemmas.Result.{err_from_is_err_and}
use Rattle.express_syntax.specs.Grammar.{depth_limit}
use Rattle.express_token_runs.specs.steps.Items.{located_of}
use Rattle.express_syntax.specs.Views.{bounds_of}
use Rattle.express_parts.proofs.BoundSteps.{no_bounds, some_bounds_err, some_bounds_deep, some_bounds_stop, some_bounds_done}
use Rattle.express_syntax.proofs.SameText.{shows_text, kept}
use Rattle.express_syntax.specs.Sources.{IsBoundsOf}
use Rattle.express_parts.proofs.bounds.some_bounds.Goals as goal

pub returns-then-is_keyword-clause-read : goal.returns-then-is_keyword-clause-read
returns-then-is_keyword-clause-read c = (
  tt,
  no_bounds c.args.around (located_of c.in_ok-item.item) c.args.reader.now
      c.take.new.self c.in_ok-item.ensures (sym c.is_keyword.ensures ∙ c.if-is_keyword.true),
)

pub returns-then-not-is_mark-clause-read : goal.returns-then-not-is_mark-clause-read
returns-then-not-is_mark-clause-read c =
    some_bounds_err c.refuse.result c.args.around (located_of c.in_ok-item.item) c.args.reader.now c.take.new.self
    c.in_ok-item.ensures (sym c.is_keyword.ensures ∙ c.if-is_keyword.false) (sym c.is_mark.ensures
    ∙ c.if-not-is_mark.true) c.refuse.ensures

pub returns-then-around-ge-LEVELS-clause-read : goal.returns-then-around-ge-LEVELS-clause-read
returns-then-around-ge-LEVELS-clause-read c =
    let deep : depth_limit ≤ c.args.around = search rules in
    some_bounds_deep c.fault_at.result c.args.around (located_of c.in_ok-item.item) c.args.reader.now c.take.new.self
    c.in_ok-item.ensures (sym c.is_mark.ensures ∙ c.if-not-is_mark.false) deep c.fault_at.ensures

pub returns-in_err-bounds-clause-read : goal.returns-in_err-bounds-clause-read
returns-in_err-bounds-clause-read c =
    let p = err_from_is_err_and c.from_residual-in_err-bounds.result c.from_residual-in_err-bounds.ensures.1 in
    let shallow : c.args.around < depth_limit = search rules in
    rw (p.1, p.2) (some_bounds_stop _ c.args.around (located_of c.in_ok-item.item) c.args.reader.now c.take.new.self
    c.in_ok-item.ensures (sym c.is_mark.ensures ∙ c.if-not-is_mark.false) shallow c.in_err-bounds.ensures.read)

pub returns-clause-read : goal.returns-clause-read
returns-clause-read c =
    let shallow : c.args.around < depth_limit = search rules in
    some_bounds_done c.args.around (bounds_of c.in_ok-bounds.bounds) (located_of c.in_ok-item.item) c.args.reader.now
    c.take.new.self c.bounds.new.reader c.in_ok-item.ensures (sym c.is_mark.ensures ∙ c.if-not-is_mark.false)
    shallow c.in_ok-bounds.ensures.read

pub returns-clause-text : goal.returns-clause-text
returns-clause-text c = kept IsBoundsOf c.in_ok-bounds.bounds (shows_text _ _ _ c.in_ok-item.ensures)
    c.in_ok-bounds.ensures.text
