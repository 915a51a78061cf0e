use Rattle.std.proofs.lemmas.List.{take_all}
use Rattle.std.proofs.Common.{◌≡◌, ◌<◌, ◌≤◌, arith, ◌+◌, ◌∙◌, [], ◌++◌, length, map, take, flat_map, ap, sym, subst}
use Rattle.express_syntax.specs.Profile.{Every}
use Rattle.typed_populations.specs.Rows.{instance_seen}
use Rattle.typed_populations.specs.PopulationTables.{form_among}
use Rattle.typed_populations.proofs.Found.{kept}
use Rattle.population_inverses.specs.steps.Inverses.{row_by}
use Rattle.population_inverses.proofs.Held.{flat-next}
use Rattle.rule_settings.specs.Settings.{schema_in, population_in}
use Rattle.rule_plans.specs.steps.Applying.{numbers_by}
use Rattle.rule_outcomes.specs.ReportCounts.{Counts, Has, broken_at, open_at, broken_in, open_in}
use Rattle.rule_plans.specs.steps.Planning.{TellAll}
use Rattle.rule_plans.proofs.Numbers.{row-within}
use Rattle.rule_outcomes.proofs.Telling.{broken-told, open-told, broken-are, open-are, seen-name}
use Rattle.rule_outcomes.proofs.Counted.{has-more}
use Rattle.rule_outcomes.proofs.rule_check.planned_report.Goals as goal

pub add_instance-requires-clause-within : goal.add_instance-requires-clause-within
add_instance-requires-clause-within c =
    let rules = c.args.plan.now.rules.now in
    let forms = c.args.evaluator.now.setting.now.extents.now.population.now.rows.forms.items in
    let form = c.instance-instance.result.form in
    let row : c.row_at-numbers.result.now ≡ row_by (map (numbers_by rules 0) forms) form =
    c.row_at-numbers.ensures
    ∙ ap (λ rs. row_by (map (λ v. v.items) rs) form) c.deref.ensures.value
    ∙ ap (λ rs. row_by rs form) c.requires.plan.rows in
    subst (Every (λ n. n < length rules)) (sym row) (row-within rules forms form)

pub loop-row-preserved : goal.loop-row-preserved
loop-row-preserved c m =
    let S = c.args.evaluator.now.setting.now in
    let p = S.extents.now.population.now in
    let s = schema_in S in
    let is = population_in S in
    let rules = c.args.plan.now.rules.now in
    let forms = p.rows.forms.items in
    let i = c.instance-instance.result in
    let section = c.instance-instance.ensures.section in
    let x = instance_seen s i.name section (form_among forms i.form) i.values in
    let at = c.instance-instance.ensures.seen in
    let k = c.loop-row.row in
    let row : c.row_at-numbers.result.now ≡ row_by (map (numbers_by rules 0) forms) i.form =
    c.row_at-numbers.ensures
    ∙ ap (λ rs. row_by (map (λ v. v.items) rs) i.form) c.deref.ensures.value
    ∙ ap (λ rs. row_by rs i.form) c.requires.plan.rows in
    let broken : broken_at S m x rules c.row_at-numbers.result.now ≡ broken_in S m rules x =
    ap (broken_at S m x rules) row
    ∙ broken-told S m i.name section i.values forms (kept p).numbered i.form rules c.requires.plan.numbered
    ∙ broken-are S m x rules in
    let open-ones : open_at S m x rules c.row_at-numbers.result.now ≡ open_in S m rules x =
    ap (open_at S m x rules) row
    ∙ open-told S m i.name section i.values forms (kept p).numbered i.form rules c.requires.plan.numbered
    ∙ open-are S m x rules in
    let tell = subst (λ l. TellAll S m x l rules) (sym c.deref-in-loop-row.ensures.value) (c.in_ok-types.ensures m x at) in
    let counts : Counts (broken_in S m rules x) (length (open_in S m rules x)) c.loop-row.report c.add_instance.new.report =
    subst (λ bs. Counts bs (length (open_in S m rules x)) c.loop-row.report c.add_instance.new.report) broken
    (subst (λ os. Counts (broken_at S m x rules c.row_at-numbers.result.now) (length os) c.loop-row.report c.add_instance.new.report)
    open-ones (c.in_ok-add_instance.ensures m x at (seen-name s i.name section (form_among forms i.form) i.values) tell)) in
    subst (λ bs. Has bs (length (flat_map (open_in S m rules) (take (k + 1) is))) c.add_instance.new.report)
    (sym (flat-next (broken_in S m rules) is k x at))
    (subst (λ os. Has (flat_map (broken_in S m rules) (take k is) ++ broken_in S m rules x) (length os) c.add_instance.new.report)
    (sym (flat-next (open_in S m rules) is k x at))
    (has-more (flat_map (broken_in S m rules) (take k is)) (broken_in S m rules x) (flat_map (open_in S m rules) (take k is))
    (open_in S m rules x) c.loop-row.report c.add_instance.new.report (c.loop-row.invariant m) counts))

pub returns : goal.returns
returns c m =
    let S = c.args.evaluator.now.setting.now in
    let rules = c.args.plan.now.rules.now in
    let past = c.loop-row-test.false in
    let end = c.len-row-end.ensures in
    subst (λ is. Has (flat_map (broken_in S m rules) is) (length (flat_map (open_in S m rules) is)) c.loop-row.report)
    (take_all c.loop-row.row (population_in S) (omega (arith, past, end))) (c.loop-row.invariant m)
