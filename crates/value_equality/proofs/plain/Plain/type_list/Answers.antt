use Rattle.std.proofs.Common.{◌≡◌, ap, length, arith}
use Rattle.value_equality.specs.Views.{heads_seen, type_lists_of, rows_from}
use Rattle.value_equality.proofs.Parted.{length_from, length_seen}
use Rattle.value_equality.proofs.plain.Plain.type_list.Goals as goal

pub list_number-requires : goal.list_number-requires
list_number-requires c =
    let v = c.self.inside in
    let hs = heads_seen (type_lists_of v.type_lists.items) v.heads.items in
    let all : length (rows_from hs v.values.rows) ≡ length c.args.self.now = ap length c.self.view_is in
    let kept = length_from hs v.values.rows c.self.invariant.each in
    let seen = length_seen (type_lists_of v.type_lists.items) v.heads.items in
    let within = c.requires in
    rw c.deref.ensures.value (omega (arith, all, kept, seen, within))
