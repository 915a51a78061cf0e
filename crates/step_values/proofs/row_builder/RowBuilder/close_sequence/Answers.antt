use Rattle.std.proofs.Common.{suc, drop, refl, ap, arith}
use Rattle.parsing.specs.Nodes.{said_by}
use Rattle.step_values.specs.declared.cell.Cell.TheVariants.{Sequence}
use Rattle.step_values.specs.Cells.{value_nodes}
use Rattle.step_values.specs.Values.{sequence}
use Rattle.step_values.specs.Views.{all_of}
use Rattle.step_values.proofs.Built.{closed, nothing_built, parent_pushed, parent_built}
use Rattle.step_values.proofs.Counting.{nodes_all}
use Rattle.step_values.proofs.row_builder.RowBuilder.close_sequence.Goals as goal

pub invariant_of-self : goal.invariant_of-self
invariant_of-self c =
    rw (c.in_err-push_or_clear.ensures.cells, c.in_err-push_or_clear.ensures.runs)
    (nothing_built c.self.inside.names.now)

pub invariant_of-self-2 : goal.invariant_of-self-2
invariant_of-self-2 c =
    let v = c.self.inside in
    let new = c.close-run.new.self in
    let h = closed v.names.now v.cells v.runs.items c.args.mark c.close-run.result new c.self.invariant
    c.close-run.ensures in
    let end = h.end in
    let inside = drop c.args.mark (said_by value_nodes v.cells.column v.cells.pending) in
    rw (c.in_ok-push_or_clear.ensures.cells, c.in_ok-push_or_clear.ensures.runs)
    (parent_pushed v.names.now v.cells v.runs.items c.args.mark c.close-run.result new h (Sequence c.close-run.result)
    (sequence (all_of inside)) (omega (arith, end)) refl (ap (λ l. sequence (all_of l)) h.moved)
    (ap suc (nodes_all inside)) (λ k i. i.0)
    (λ k from to. (from, omega (arith, to, end))))

pub returns : goal.returns
returns c =
    let v = c.self.inside in
    let new = c.close-run.new.self in
    let h = closed v.names.now v.cells v.runs.items c.args.mark c.close-run.result new c.self.invariant
    c.close-run.ensures in
    let end = h.end in
    let inside = drop c.args.mark (said_by value_nodes v.cells.column v.cells.pending) in
    rw (c.in_ok-push_or_clear.ensures.cells, c.in_ok-push_or_clear.ensures.runs, ← c.self.view_is)
    (parent_built v.names.now v.cells v.runs.items c.args.mark c.close-run.result new h (Sequence c.close-run.result)
    (sequence (all_of inside)) (omega (arith, end)) refl (ap (λ l. sequence (all_of l)) h.moved)
    (ap suc (nodes_all inside)))
