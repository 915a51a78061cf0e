use Rattle.std.proofs.Common.{◌≡◌, ◌<◌, ◌+◌, ◌∙◌, ◌∷◌, [], ◌++◌, Some, length, take, ap, sym, subst, map, slice_get, slice_index_or}
use Rattle.std.proofs.lemmas.List.{take_all}
use Rattle.std.proofs.lemmas.Option.{slice_get-get_or}
use Rattle.typed_populations.proofs.Found.{every-at}
use Rattle.population_inverses.proofs.Held.{flat-next}
use Rattle.schema_domain_rules.specs.declared.rule.DomainRule.{DomainRule}
use Rattle.schema_domain_rules.specs.RuleViews.{IsNumberedRule}
use Rattle.rule_settings.specs.Settings.{schema_in}
use Rattle.rule_outcomes.specs.ReportCounts.{Counts, broken_by, open_by, broken_of, open_of, of_one, of_number, broken_at, open_at}
use Rattle.rule_plans.specs.steps.Planning.{Tell}
use Rattle.rule_outcomes.proofs.Counted.{counts-none, counts-joined}
use Rattle.rule_outcomes.proofs.Stating.{at-among}
use Rattle.rule_outcomes.proofs.rule_check.add_instance.Goals as goal

pub loop-number-init : goal.loop-number-init
loop-number-init c m x at same tell = counts-none c.args.report.now

pub outcome-requires-clause-numbered : goal.outcome-requires-clause-numbered
outcome-requires-clause-numbered c =
    let s = schema_in c.args.evaluator.now.setting.now in
    let rules = c.args.plan.now.rules.now in
    let ns = c.args.tried.now.numbers.now in
    let k = c.loop-number.number-index in
    let n = slice_index_or ns k 0 in
    let r = c.index-plan-number.result in
    let here = slice_get-get_or ns k 0 c.loop-number-test.true in
    let within = every-at (λ l. l < length rules) ns k n c.requires.within here in
    every-at (IsNumberedRule s) rules n _ c.requires.plan.numbered (slice_get-get_or rules n r within)

pub outcome-requires-clause-among : goal.outcome-requires-clause-among
outcome-requires-clause-among c =
    let rules = c.args.plan.now.rules.now in
    let ns = c.args.tried.now.numbers.now in
    let k = c.loop-number.number-index in
    let n = slice_index_or ns k 0 in
    let r = c.index-plan-number.result in
    let here = slice_get-get_or ns k 0 c.loop-number-test.true in
    let within = every-at (λ l. l < length rules) ns k n c.requires.within here in
    at-among rules n _ (slice_get-get_or rules n r within)

pub returns : goal.returns
returns c m x at same tell =
    let S = c.args.evaluator.now.setting.now in
    let rules = c.args.plan.now.rules.now in
    subst (λ l. Counts (broken_at S m x rules l) (length (open_at S m x rules l)) c.args.report.now c.loop-number.report)
    (take_all c.loop-number.number-index c.args.tried.now.numbers.now c.loop-number-test.false)
    (c.loop-number.invariant m x at same tell)

pub loop-number-preserved : goal.loop-number-preserved
loop-number-preserved c m x at same tell =
    let S = c.args.evaluator.now.setting.now in
    let s = schema_in S in
    let rules = c.args.plan.now.rules.now in
    let ns = c.args.tried.now.numbers.now in
    let k = c.loop-number.number-index in
    let n = slice_index_or ns k 0 in
    let r = slice_index_or rules n c.index-plan-number.result in
    let p = c.in_ok-outcome.outcome in
    let here = slice_get-get_or ns k 0 c.loop-number-test.true in
    let within = every-at (λ l. l < length rules) ns k n c.requires.within here in
    let got : slice_get rules n ≡ Some r = slice_get-get_or rules n c.index-plan-number.result within in
    let is = c.in_ok-outcome.ensures m x at same
    (every-at (λ (u : DomainRule). Tell S m x c.args.tried.now.types.now u.holder) rules n r tell got) in
    let broken : broken_by s c.args.tried.now.name r p ≡ of_number (broken_of S m x) rules n =
    ap (λ y. broken_by s y r p) same ∙ ap (broken_by s x.name r) is ∙ ap (of_one (broken_of S m x)) (sym got) in
    let open-ones : open_by s r p ≡ of_number (open_of S m x) rules n =
    ap (open_by s r) is ∙ ap (of_one (open_of S m x)) (sym got) in
    let one : Counts (of_number (broken_of S m x) rules n) (length (of_number (open_of S m x) rules n))
    c.loop-number.report c.add_outcome.new.report =
    subst (λ bs. Counts bs (length (of_number (open_of S m x) rules n)) c.loop-number.report c.add_outcome.new.report) broken
    (subst (λ os. Counts (broken_by s c.args.tried.now.name r p) (length os) c.loop-number.report c.add_outcome.new.report)
    open-ones c.in_ok-add_outcome.ensures) in
    subst (λ bs. Counts bs (length (open_at S m x rules (take (k + 1) ns))) c.args.report.now c.add_outcome.new.report)
    (sym (flat-next (of_number (broken_of S m x) rules) ns k n here))
    (subst (λ os. Counts (broken_at S m x rules (take k ns) ++ of_number (broken_of S m x) rules n) (length os) c.args.report.now
    c.add_outcome.new.report) (sym (flat-next (of_number (open_of S m x) rules) ns k n here))
    (counts-joined (broken_at S m x rules (take k ns)) (of_number (broken_of S m x) rules n)
    (open_at S m x rules (take k ns)) (of_number (open_of S m x) rules n) c.args.report.now c.loop-number.report
    c.add_outcome.new.report (c.loop-number.invariant m x at same tell) one))
