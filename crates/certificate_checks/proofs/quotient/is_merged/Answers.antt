use Rattle.std.proofs.Common.{◌≡◌, true, false, sym, ◌∙◌, ap, subst}
use Rattle.std.specs.List.{list_all}
use Rattle.value_equality.specs.Tables.{shares}
use Rattle.value_equality.specs.TableViews.{table_of}
use Rattle.certificate_checks.specs.steps.ComputedFirsts.{first_lands, is_first}
use Rattle.certificate_checks.specs.steps.Places.{by_place}
use Rattle.certificate_checks.proofs.MergedRows.{not_merged, merged_where}
use Rattle.certificate_checks.proofs.quotient.is_merged.Goals as goal

pub returns-then-not-branch : goal.returns-then-not-branch
returns-then-not-branch c =
    let t = table_of c.args.table.now in
    let out = c.args.output.now in
    let fs = c.in_ok-firsts.firsts.firsts.items in
    not_merged c.args.input.now out (shares t t.rounds) c.len-rows.ensures.population.distinct fs
    c.in_ok-firsts.ensures.firsts (subst (λ P. list_all (first_lands (by_place P fs) out) P ≡ false)
    c.in_ok-firsts.ensures.input (sym c.in_ok-firsts_land.ensures ∙ c.if-not-branch.true))

pub returns : goal.returns
returns c =
    let t = table_of c.args.table.now in
    let out = c.args.output.now in
    let fs = c.in_ok-firsts.firsts.firsts.items in
    merged_where c.args.input.now out (shares t t.rounds) c.len-rows.ensures.population.distinct fs
    c.in_ok-firsts.ensures.firsts (subst (λ P. list_all (first_lands (by_place P fs) out) P ≡ true)
    c.in_ok-firsts.ensures.input (sym c.in_ok-firsts_land.ensures ∙ c.if-not-branch.false)) c.are_firsts.result
    (c.are_firsts.ensures ∙ ap (λ P. list_all (λ q. is_first P (by_place P fs) q.name) out) c.in_ok-firsts.ensures.input)
