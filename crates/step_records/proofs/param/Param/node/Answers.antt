use Rattle.std.proofs.Common.{◌≤◌, ◌∙◌, [], ap, sym, subst, length}
use Rattle.parsing.specs.Nodes.{said_at}
use Rattle.step_structures.specs.Trees.{group}
use Rattle.step_records.specs.steps.Building.{kept_by}
use Rattle.step_records.specs.Cells.{all_of, parameters, reach_as, says_as}
use Rattle.step_records.proofs.Runs.{column_builds, part_builds, run_said}
use Rattle.step_records.proofs.param.Param.node.Goals as goal

pub of-requires : goal.of-requires
of-requires c =
    let v = c.self.inside in
    rw c.part-cells.ensures (part_builds v.text.now v.column.now v.column.now [] v.cell.at v.cell.len
    (column_builds v.text.now v.column.now _ [] c.self.invariant))

pub returns-in-List : goal.returns-in-List
returns-in-List c =
    let v = c.self.inside in
    let within = subst (λ k. reach_as k v.cell.at v.cell.len ≤ length v.column.now) c.in-List.is
    c.self.invariant.kept_before.0 in
    let trees = c.of.ensures ∙ ap (kept_by v.text.now v.column.now) c.part-cells.ensures
    ∙ sym (run_said v.text.now v.column.now c.self.invariant.column_is v.cell.at v.cell.len within) in
    let says = ap (λ k. says_as v.text.now (said_at (parameters v.text.now) v.column.now) k v.cell.at v.cell.len)
    c.in-List.is in
    ap (λ xs. group (all_of xs)) trees ∙ sym says ∙ c.self.view_is
