use Rattle.std.proofs.Common.{ap, arith, drop}
use Rattle.parsing.specs.Nodes.{said_by}
use Rattle.step_records.specs.Cells.{parameters}
use Rattle.step_records.specs.steps.Building.{list_of}
use Rattle.step_records.proofs.Built.{closed, kept_pushed, closed_kept}
use Rattle.step_records.proofs.builder.Builder.keep_list.Goals as goal

pub invariant_of-self : goal.invariant_of-self
invariant_of-self c =
    let v = c.self.inside in
    let h = closed v.text.now v.cells v.kept.items c.args.mark c.close-run.result c.close-run.new.self c.self.invariant
    c.close-run.ensures in
    h.builds

pub invariant_of-self-in_err-push : goal.invariant_of-self-in_err-push
invariant_of-self-in_err-push c =
    let v = c.self.inside in
    let h = closed v.text.now v.cells v.kept.items c.args.mark c.close-run.result c.close-run.new.self c.self.invariant
    c.close-run.ensures in
    rw c.in_err-push.ensures.items h.builds

pub invariant_of-self-2 : goal.invariant_of-self-2
invariant_of-self-2 c =
    let v = c.self.inside in
    let h = closed v.text.now v.cells v.kept.items c.args.mark c.close-run.result c.close-run.new.self c.self.invariant
    c.close-run.ensures in
    let end = h.end in
    rw (c.in_ok-push.ensures.items, c.in_ok-cell.ensures) (kept_pushed v.text.now c.close-run.new.self.column
    v.kept.items c.close-run.new.self.pending _ h.builds (omega (arith, end)) tt)

pub returns : goal.returns
returns c =
    let v = c.self.inside in
    let h = closed v.text.now v.cells v.kept.items c.args.mark c.close-run.result c.close-run.new.self c.self.invariant
    c.close-run.ensures in
    rw (c.in_ok-push.ensures.items, c.in_ok-cell.ensures, ← c.self.view_is) (closed_kept v.text.now v.cells
    v.kept.items c.args.mark c.close-run.result c.close-run.new.self h _ (list_of (drop c.args.mark
    (said_by (parameters v.text.now) v.cells.column v.cells.pending))) (ap list_of h.moved))
