use Rattle.std.proofs.Common.{◌≡◌, ◌∙◌, ap, sym, length, arith}
use Rattle.std.specs.Prelude.{slice_get}
use Rattle.value_equality.specs.Views.{heads_seen, type_lists_of, rows_from}
use Rattle.value_equality.proofs.Parted.{length_from, length_seen}
use Rattle.value_equality.proofs.plain.Plain.row.Goals as goal

pub row_in-requires : goal.row_in-requires
row_in-requires c =
    let v = c.self.inside in
    let hs = heads_seen (type_lists_of v.type_lists.items) v.heads.items in
    let all : length (rows_from hs v.values.rows) ≡ length c.args.self.now = ap length c.self.view_is in
    let kept = length_from hs v.values.rows c.self.invariant.each in
    let seen = length_seen (type_lists_of v.type_lists.items) v.heads.items in
    let each = c.self.invariant.each in
    let within = c.requires in
    rw c.deref.ensures.value (record {
      head = omega (arith, all, kept, seen, within);
      values = omega (arith, all, kept, each, within);
    })

pub returns : goal.returns
returns c =
    let seen = rw (c.deref.ensures.value, c.deref-2.ensures.value) at c.row_in.ensures in
    ap (λ rows. slice_get rows c.args.place) (sym c.self.view_is) ∙ seen
