use Rattle.std.proofs.Common.{sym, ◌∙◌}
use Rattle.value_equality.specs.Views.{row_seen}
use Rattle.value_equality.proofs.Landing.{lands_if_one_kind, lands_in_two_kinds}
use Rattle.certificate_checks.specs.steps.Places.{by_place}
use Rattle.certificate_checks.proofs.quotient.row_lands.Goals as goal

pub returns : goal.returns
returns c =
    lands_if_one_kind (by_place c.args.firsts.now.input.now c.args.firsts.now.firsts.items) (row_seen c.args.row.now)
    (row_seen c.row-other.result) _ c.same_each.result (sym c.row-other.ensures ∙ c.in-Some.ensures.1)
    (sym c.is_one_kind.ensures.test ∙ c.if-not-is_one_kind.false) c.same_each.ensures

pub returns-then-not-is_one_kind : goal.returns-then-not-is_one_kind
returns-then-not-is_one_kind c =
    lands_in_two_kinds (by_place c.args.firsts.now.input.now c.args.firsts.now.firsts.items) (row_seen c.args.row.now)
    (row_seen c.row-other.result) _ (sym c.row-other.ensures ∙ c.in-Some.ensures.1)
    (sym c.is_one_kind.ensures.test ∙ c.if-not-is_one_kind.true)
