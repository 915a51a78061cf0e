use Rattle.std.proofs.Common.{ap, sym, ◌∙◌}
use Rattle.step_values.specs.Maps.{led_by}
use Rattle.value_equality.specs.Rows.{row_at}
use Rattle.value_equality.specs.Views.{row_seen}
use Rattle.value_equality.proofs.Landing.{lands_if_one_kind, lands_in_two_kinds}
use Rattle.value_equality.proofs.image.row_lands.Goals as goal

pub returns : goal.returns
returns c =
    lands_if_one_kind (led_by c.args.map.now) (row_seen c.args.row.now) (row_seen c.row-other.result) _
    c.same_each.result
    (sym c.row-other.ensures ∙ c.in-Some.ensures.1 ∙ ap (row_at c.args.q.now) c.lead.ensures)
    (sym c.is_one_kind.ensures.test ∙ c.if-not-is_one_kind.false) c.same_each.ensures

pub returns-then-not-is_one_kind : goal.returns-then-not-is_one_kind
returns-then-not-is_one_kind c =
    lands_in_two_kinds (led_by c.args.map.now) (row_seen c.args.row.now) (row_seen c.row-other.result) _
    (sym c.row-other.ensures ∙ c.in-Some.ensures.1 ∙ ap (row_at c.args.q.now) c.lead.ensures)
    (sym c.is_one_kind.ensures.test ∙ c.if-not-is_one_kind.true)
