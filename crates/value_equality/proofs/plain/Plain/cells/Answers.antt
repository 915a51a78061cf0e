use Rattle.std.proofs.Common.{◌∙◌, ap, subst, sym}
use Rattle.std.specs.Prelude.{map}
use Rattle.std.specs.List.{sum_by}
use Rattle.step_values.specs.steps.Building.{AreRunsOf}
use Rattle.step_values.specs.steps.NodeCounts.{nodes_in}
use Rattle.value_equality.specs.Views.{heads_seen, type_lists_of}
use Rattle.value_equality.proofs.Parted.{nodes_from, values_from}
use Rattle.value_equality.proofs.plain.Plain.cells.Goals as goal

pub returns-clause-count : goal.returns-clause-count
returns-clause-count c =
    c.cells.ensures.count ∙ nodes_from (heads_seen (type_lists_of c.self.inside.type_lists.items) c.self.inside.heads.items) c.self.inside.values.rows c.self.invariant.each
    ∙ ap (sum_by (λ r. nodes_in r.values)) c.self.view_is

pub returns-clause-rows : goal.returns-clause-rows
returns-clause-rows c =
    let heads = heads_seen (type_lists_of c.self.inside.type_lists.items) c.self.inside.heads.items in
    let same = sym (values_from heads c.self.inside.values.rows c.self.invariant.each)
    ∙ ap (map (λ r. r.values)) c.self.view_is in
    subst (AreRunsOf c.cells.result.now) same c.cells.ensures.rows
