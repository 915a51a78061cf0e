use Rattle.std.proofs.lemmas.Result.{err_from_is_err_and}
use Rattle.std.proofs.Common.{sym, ◌∙◌, ◌≤◌, ◌<◌, rules}
use Rattle.express_syntax.specs.Grammar.{depth_limit}
use Rattle.express_token_runs.specs.steps.Items.{located_of}
use Rattle.express_parts.specs.steps.Endings.{ending_of}
use Rattle.express_syntax.specs.Views.{width_of}
use Rattle.express_parts.proofs.DataTypeSteps.{not_over, width_deep, width_stopped, width_some, width_refused, width_none}
use Rattle.express_syntax.proofs.SameText.{shows_text, kept}
use Rattle.express_syntax.specs.Sources.{IsWidthOf}
use Rattle.express_parts.proofs.data_types.width_or_end.Goals as goal

pub returns-in_err-first-clause-read : goal.returns-in_err-first-clause-read
returns-in_err-first-clause-read c =
    let p = err_from_is_err_and c.from_residual.result c.from_residual.ensures.1 in
    rw (p.1, p.2) (λ y us t. c.in_err-first.ensures y (not_over y us c.args.depth (ending_of c.args.end) t))

pub returns-then-depth-ge-LEVELS-clause-read : goal.returns-then-depth-ge-LEVELS-clause-read
returns-then-depth-ge-LEVELS-clause-read c =
    let h : depth_limit ≤ c.args.depth = search rules in
    λ y us t. width_deep c.fault_at.result y us c.args.depth (ending_of c.args.end) (located_of c.in_ok-first.first)
    c.args.reader.now c.take.new.self t c.in_ok-first.ensures (sym c.is_mark.ensures ∙ c.if-is_mark.true) h
    c.fault_at.ensures

pub returns-in_err-width-clause-read : goal.returns-in_err-width-clause-read
returns-in_err-width-clause-read c =
    let h : c.args.depth < depth_limit = search rules in
    let p = err_from_is_err_and c.from_residual-in_err-width.result c.from_residual-in_err-width.ensures.1 in
    rw (p.1, p.2) (λ y us t. width_stopped _ y us c.args.depth (ending_of c.args.end) (located_of c.in_ok-first.first)
    c.args.reader.now c.take.new.self t c.in_ok-first.ensures (sym c.is_mark.ensures ∙ c.if-is_mark.true) h
    c.in_err-width.ensures.read)

pub returns-then-is_mark-clause-read : goal.returns-then-is_mark-clause-read
returns-then-is_mark-clause-read c =
    let h : c.args.depth < depth_limit = search rules in
    let w = c.in_ok-width.ensures.read in
    λ y us t. (
      w.0,
      width_some y us c.args.depth (ending_of c.args.end) (located_of c.in_ok-first.first)
          (width_of c.in_ok-width.width) w.1 c.args.reader.now c.take.new.self c.width.new.reader t
          c.in_ok-first.ensures
          (sym c.is_mark.ensures ∙ c.if-is_mark.true) h w.2 w.3,
    )

pub returns-then-not-is_end-clause-read : goal.returns-then-not-is_end-clause-read
returns-then-not-is_end-clause-read c =
    λ y us t. width_refused c.refuse.result y us c.args.depth (ending_of c.args.end) (located_of c.in_ok-first.first)
    c.args.reader.now c.take.new.self t c.in_ok-first.ensures (sym c.is_mark.ensures ∙ c.if-is_mark.false)
    (sym c.is_end.ensures ∙ c.if-not-is_end.true) c.refuse.ensures

pub returns-clause-read : goal.returns-clause-read
returns-clause-read c = λ y us t. width_none y us c.args.depth (ending_of c.args.end) (located_of c.in_ok-first.first)
    c.args.reader.now c.take.new.self t c.in_ok-first.ensures (sym c.is_end.ensures ∙ c.if-not-is_end.false)

pub returns-then-is_mark-clause-text : goal.returns-then-is_mark-clause-text
returns-then-is_mark-clause-text c = kept IsWidthOf c.in_ok-width.width (shows_text _ _ _ c.in_ok-first.ensures)
    c.in_ok-width.ensures.text
