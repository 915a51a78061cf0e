use Rattle.std.proofs.Common.{sym, subst, arith}
use Rattle.parsing.specs.Nodes.{said_at}
use Rattle.step_records.specs.steps.Building.{Building}
use Rattle.step_records.specs.Cells.{parameters}
use Rattle.step_records.specs.steps.Tokens.{IsLeafAt, leaf_tree}
use Rattle.step_records.proofs.Built.{pending_pushed, pending_built}
use Rattle.step_records.proofs.builder.Builder.push_leaf_at.Goals as goal

pub leaf_cell-requires : goal.leaf_cell-requires
leaf_cell-requires c =
    let In : Building → Type 0 = λ b. IsLeafAt b.text c.args.leaf c.args.at c.args.len c.requires.0 in (
      c.requires.0,
      subst In (sym c.self.view_is) c.requires.1,
    )

pub invariant_of-self-2 : goal.invariant_of-self-2
invariant_of-self-2 c =
    let v = c.self.inside in
    let In : Building → Type 0 = λ b. IsLeafAt b.text c.args.leaf c.args.at c.args.len c.requires.0 in
    let is = c.in_ok-cell.ensures c.requires.0 (subst In (sym c.self.view_is) c.requires.1) in
    let start = is.reach in
    rw c.in_ok-push_pending.ensures (pending_pushed v.text.now v.cells.column v.kept.items v.cells.pending
    c.in_ok-cell.cell c.self.invariant (omega (arith, start)) is.in_text)

pub returns : goal.returns
returns c t h =
    let v = c.self.inside in
    let In : Building → Type 0 = λ b. IsLeafAt b.text c.args.leaf c.args.at c.args.len t in
    let is = c.in_ok-cell.ensures t (subst In (sym c.self.view_is) h) in
    rw (c.in_ok-push_pending.ensures, ← c.self.view_is) (pending_built v.text.now v.cells.column v.kept.items
    v.cells.pending c.in_ok-cell.cell (leaf_tree t) (is.says (said_at (parameters v.text.now) v.cells.column)))
