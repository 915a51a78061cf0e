use Rattle.std.proofs.Common.{◌<◌, ◌^◌, ◌∙◌, ap, subst, sym, length}
use Rattle.std.specs.List.{All}
use Rattle.value_equality.specs.Rows.{names}
use Rattle.value_equality.specs.Views.{heads_seen, type_lists_of}
use Rattle.value_equality.proofs.Parted.{length_from, length_seen}
use Rattle.value_equality.proofs.plain.Plain.len.Goals as goal

pub returns-clause-range : goal.returns-clause-range
returns-clause-range c =
    subst (λ rows. All (λ y. y < 2 ^ 64) (names rows)) c.self.view_is c.self.invariant.placed.range

pub returns-clause-length : goal.returns-clause-length
returns-clause-length c =
    let v = c.self.inside in
    let hs = heads_seen (type_lists_of v.type_lists.items) v.heads.items in
    c.len.ensures ∙ v.heads.ok.0 ∙ sym (length_seen (type_lists_of v.type_lists.items) v.heads.items)
    ∙ sym (length_from hs v.values.rows c.self.invariant.each)
    ∙ ap length c.self.view_is
