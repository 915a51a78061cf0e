use Rattle.std.proofs.Common.{◌≡◌, ◌∙◌, ap, length, arith}
use Rattle.std.specs.Prelude.{slice_get}
use Rattle.std.proofs.lemmas.Bool.{OnTrue_at, OnTrue_from}
use Rattle.value_equality.specs.Views.{heads_seen, type_lists_of, rows_from}
use Rattle.value_equality.proofs.Parted.{kinds_shared, length_from, length_seen}
use Rattle.value_equality.proofs.plain.Plain.share_kind.Goals as goal

pub share_list-requires : goal.share_list-requires
share_list-requires c =
    let v = c.self.inside in
    let hs = heads_seen (type_lists_of v.type_lists.items) v.heads.items in
    let all : length (rows_from hs v.values.rows) ≡ length c.args.self.now = ap length c.self.view_is in
    let kept = length_from hs v.values.rows c.self.invariant.each in
    let seen = length_seen (type_lists_of v.type_lists.items) v.heads.items in
    let place = c.requires.place in
    let other = c.requires.other in
    rw c.deref.ensures.value (record {
      place = omega (arith, all, kept, seen, place);
      other = omega (arith, all, kept, seen, other);
    })

pub returns : goal.returns
returns c =
    let v = c.self.inside in
    let shared = rw c.deref.ensures.value at c.share_list.ensures in
    OnTrue_from c.share_list.result _ (λ e r s at there.
    kinds_shared (type_lists_of v.type_lists.items) v.heads.items v.values.rows c.args.place c.args.other
    (OnTrue_at e shared) r s (ap (λ rows. slice_get rows c.args.place) c.self.view_is ∙ at)
    (ap (λ rows. slice_get rows c.args.other) c.self.view_is ∙ there))
