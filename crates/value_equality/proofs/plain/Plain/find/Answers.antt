use Rattle.std.proofs.Common.{◌≡◌, ◌<◌, ◌∙◌, sym, subst, length, slice_get, Some, None}
use Rattle.value_equality.specs.Rows.{row_at}
use Rattle.value_equality.specs.Views.{heads_seen, type_lists_of, rows_from}
use Rattle.value_equality.proofs.Placing.{found_at}
use Rattle.value_equality.proofs.plain.Plain.find.Goals as goal

pub returns-in_default : goal.returns-in_default
returns-in_default c =
    let v = c.self.inside in
    let y = c.args.name in
    let rows = rows_from (heads_seen (type_lists_of v.type_lists.items) v.heads.items) v.values.rows in
    subst (λ rs. row_at rs y ≡ None) c.self.view_is
    (found_at rows y None (sym c.in_default.is ∙ c.find.ensures ∙ c.self.invariant.placed.finds y))

pub returns : goal.returns
returns c =
    let v = c.self.inside in
    let y = c.args.name in
    let i = c.in-Some.place in
    let rows = rows_from (heads_seen (type_lists_of v.type_lists.items) v.heads.items) v.values.rows in
    subst (λ rs. (i < length rs) × (slice_get rs i ≡ row_at rs y)) c.self.view_is
    (found_at rows y (Some i) (sym c.in-Some.is ∙ c.find.ensures ∙ c.self.invariant.placed.finds y))
