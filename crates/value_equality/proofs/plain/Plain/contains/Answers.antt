use Rattle.std.proofs.Common.{◌∙◌, ap}
use Rattle.std.specs.Prelude.{is_some}
use Rattle.value_equality.specs.Rows.{row_at}
use Rattle.value_equality.specs.Views.{heads_seen, type_lists_of, rows_from}
use Rattle.value_equality.proofs.Placing.{name_placed}
use Rattle.value_equality.proofs.plain.Plain.contains.Goals as goal

pub returns : goal.returns
returns c =
    let v = c.self.inside in
    let rows = rows_from (heads_seen (type_lists_of v.type_lists.items) v.heads.items) v.values.rows in
    c.is_some.ensures ∙ ap is_some (c.find.ensures ∙ c.self.invariant.placed.finds c.args.name)
    ∙ name_placed rows c.args.name ∙ ap (λ rs. is_some (row_at rs c.args.name)) c.self.view_is
