use Rattle.std.proofs.Common.{◌≡◌, ◌∙◌, ◌∷◌, [], ◌++◌, ◌+◌, cond, drop, ap, sym, append_assoc}
use Rattle.rule_plans.specs.steps.Applying.{numbers_by}
use Rattle.rule_plans.proofs.Numbers.{next-number}
use Rattle.rule_plans.proofs.applicable_rules.numbers_of.Goals as goal
use Rattle.rule_plans.proofs.applicable_rules.numbers_of.Goals.{then-may_apply+in_ok-push, else-may_apply}

pub loop-number-preserved : goal.loop-number-preserved
loop-number-preserved c =
    let all = c.args.rules.now in
    let n = c.loop-number.number in
    let x = c.args.form.now in
    let i = c.index-rules-number.result in
    let rest = numbers_by (drop (n + 1) all) (n + 1) x in
    let step = next-number all n i x c.loop-number-test.true c.index-rules-number.is in
    let by : numbers_by (drop n all) n x ≡ cond c.may_apply.result (n ∷ rest) rest =
    step ∙ ap (λ b. cond b (n ∷ rest) rest) (sym c.may_apply.ensures) in
    elim c.if-may_apply.branch [
      | then-may_apply+in_ok-push w ↦
          ap (λ l. l ++ rest) (ap (λ v. v.items) w.numbers-is ∙ w.in_ok-push.ensures.items)
          ∙ append_assoc c.loop-number.numbers.items (n ∷ []) rest
          ∙ ap (λ l. c.loop-number.numbers.items ++ l) (sym (by ∙ ap (λ b. cond b (n ∷ rest) rest) w.if-may_apply.true))
          ∙ c.loop-number.invariant
      | else-may_apply w ↦
          ap (λ v. v.items ++ rest) w.numbers-is
          ∙ ap (λ l. c.loop-number.numbers.items ++ l) (sym (by ∙ ap (λ b. cond b (n ∷ rest) rest) w.if-may_apply.false))
          ∙ c.loop-number.invariant
    ]
