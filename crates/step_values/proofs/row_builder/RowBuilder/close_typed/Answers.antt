use Rattle.std.proofs.Common.{◌≡◌, ◌-◌, ◌∷◌, [], length, ◌∙◌, ap, sym, arith, length-append}
use Rattle.std.proofs.lemmas.List.{length-map}
use Rattle.parsing.specs.Nodes.{said_by}
use Rattle.step_values.specs.Cells.{value_at, value_by, value_nodes}
use Rattle.step_values.proofs.Built.{closed, nothing_built, typed_pushed, typed_built}
use Rattle.step_values.proofs.row_builder.RowBuilder.close_typed.Goals as goal

pub invariant_of-self : goal.invariant_of-self
invariant_of-self c =
    rw (c.in_err-push_or_clear.ensures.cells, c.in_err-push_or_clear.ensures.runs)
    (nothing_built c.self.inside.names.now)

pub invariant_of-self-2 : goal.invariant_of-self-2
invariant_of-self-2 c =
    let v = c.self.inside in
    let mark = c.pending_len.result - 1 in
    let h = closed v.names.now v.cells v.runs.items mark c.close.result c.close.new.self c.self.invariant
    c.close.ensures in
    let seen : length (said_by value_nodes v.cells.column v.cells.pending) ≡ length c.args.self.now.pending =
    ap (λ b. length b.pending) c.self.view_is in
    let size = length-map v.cells.pending (value_by (value_at v.cells.column)) in
    let count = c.close.ensures.count in
    let all = c.pending_len.ensures in
    let asked = c.requires in
    let one : c.close.result.count ≡ 1 = omega (arith, count, asked, all, seen, size) in
    let inner = c.in-Some.ensures.1 ∙ ap length c.column.ensures ∙ sym c.close.ensures.first in
    rw (c.in_ok-push_or_clear.ensures.cells, c.in_ok-push_or_clear.ensures.runs)
    (typed_pushed v.names.now v.cells v.runs.items mark c.close.result c.close.new.self h c.args.word c.in-Some.high
    c.in-Some.low inner one)

pub returns-clause-typed : goal.returns-clause-typed
returns-clause-typed c front x e =
    let v = c.self.inside in
    let mark = c.pending_len.result - 1 in
    let h = closed v.names.now v.cells v.runs.items mark c.close.result c.close.new.self c.self.invariant
    c.close.ensures in
    let said = ap (λ b. b.pending) c.self.view_is ∙ e in
    let seen : length (said_by value_nodes v.cells.column v.cells.pending) ≡ _ = ap length said in
    let longer = length-append front (x ∷ []) in
    let size = length-map v.cells.pending (value_by (value_at v.cells.column)) in
    let count = c.close.ensures.count in
    let all = c.pending_len.ensures in
    let one : c.close.result.count ≡ 1 = omega (arith, count, all, seen, longer, size) in
    let end : mark ≡ length front = omega (arith, all, seen, longer, size) in
    let inner = c.in-Some.ensures.1 ∙ ap length c.column.ensures ∙ sym c.close.ensures.first in
    rw (c.in_ok-push_or_clear.ensures.cells, c.in_ok-push_or_clear.ensures.runs, ← c.self.view_is)
    (typed_built v.names.now v.cells v.runs.items mark c.close.result c.close.new.self h c.args.word c.in-Some.high
    c.in-Some.low inner one front x said end)
