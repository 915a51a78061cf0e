use Rattle.std.proofs.Common.{◌≡◌, ◌∙◌, ap, sym, Some, get_or}
use Rattle.std.specs.Option.{option_map}
use Rattle.std.proofs.lemmas.Option.{slice_get-get_or, slice_get-map}
use Rattle.value_equality.specs.declared.row.RowHead.{RowHead}
use Rattle.value_equality.specs.Views.{head_seen, heads_seen, type_lists_of, row_from, row_seen}
use Rattle.value_equality.proofs.Parted.{row_there}
use Rattle.value_equality.proofs.plain.row_in.Goals as goal

pub returns : goal.returns
returns c =
    let type_lists = type_lists_of c.args.type_lists.now in
    let none : RowHead = record { name = 0; section = 0; type_list = 0 } in
    let h = get_or c.args.heads.now c.args.place none in
    let vs = c.row.result in
    let at = slice_get-map (head_seen type_lists) c.args.heads.now c.args.place
    ∙ ap (option_map (head_seen type_lists)) (slice_get-get_or c.args.heads.now c.args.place none c.requires.head) in
    let seen : row_from (head_seen type_lists h) vs ≡ row_seen c.of.result =
    (λ i. record { name = h.name; section = h.section; types = sym c.types_at.ensures i; values = vs })
    ∙ sym c.of.ensures in
    row_there (heads_seen type_lists c.args.heads.now) c.args.values.now.rows c.args.place (head_seen type_lists h) vs at c.row.ensures
    ∙ ap Some seen
