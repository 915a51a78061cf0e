use Rattle.std.proofs.Common.{ap, ◌∙◌, sym, arith, drop}
use Rattle.parsing.specs.Nodes.{run, said_at, said_by}
use Rattle.step_records.specs.Cells.{parameters, typed_of}
use Rattle.step_records.proofs.Built.{closed, counted, pending_pushed, closed_pending}
use Rattle.step_records.proofs.builder.Builder.close_typed.Goals as goal

pub invariant_of-self : goal.invariant_of-self
invariant_of-self c =
    let v = c.self.inside in
    let h = closed v.text.now v.cells v.kept.items c.args.mark c.close-run.result c.close-run.new.self c.self.invariant
    c.close-run.ensures in
    rw c.in_err-push_pending.ensures h.builds

pub invariant_of-self-2 : goal.invariant_of-self-2
invariant_of-self-2 c =
    let v = c.self.inside in
    let h = closed v.text.now v.cells v.kept.items c.args.mark c.close-run.result c.close-run.new.self c.self.invariant
    c.close-run.ensures in
    let two = counted v.text.now v.cells.column v.kept.items v.cells.pending c.args.self.now c.args.mark 2
    c.close-run.result.count c.self.view_is c.requires c.close-run.ensures.count in
    let end = h.end in
    rw c.in_ok-push_pending.ensures (pending_pushed v.text.now c.close-run.new.self.column
    v.kept.items c.close-run.new.self.pending _ h.builds (omega (arith, end, two)) tt)

pub returns : goal.returns
returns c =
    let v = c.self.inside in
    let h = closed v.text.now v.cells v.kept.items c.args.mark c.close-run.result c.close-run.new.self c.self.invariant
    c.close-run.ensures in
    let two = counted v.text.now v.cells.column v.kept.items v.cells.pending c.args.self.now c.args.mark 2
    c.close-run.result.count c.self.view_is c.requires c.close-run.ensures.count in
    let inside = ap (run (said_at (parameters v.text.now) c.close-run.new.self.column) c.close-run.result.first)
    (sym two) ∙ h.moved in
    rw (c.in_ok-push_pending.ensures, ← c.self.view_is) (closed_pending v.text.now v.cells
    v.kept.items c.args.mark c.close-run.result c.close-run.new.self h _ (typed_of (drop c.args.mark
    (said_by (parameters v.text.now) v.cells.column v.cells.pending))) (ap typed_of inside))
