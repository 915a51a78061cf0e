use Rattle.std.proofs.Common.{◌≡◌, ◌∙◌, ◌∷◌, [], ◌++◌, ◌+◌, cond, drop, ap, sym, append_assoc}
use Rattle.population_inverses.specs.steps.Inverses.{numbers_by}
use Rattle.population_inverses.proofs.Numbered.{next-number}
use Rattle.population_inverses.proofs.inverses.numbers_of.Goals as goal
use Rattle.population_inverses.proofs.inverses.numbers_of.Goals.{then-has_inverse+in_ok-push, else-has_inverse}

pub loop-number-preserved : goal.loop-number-preserved
loop-number-preserved c =
    let all = c.args.inverses.now in
    let n = c.loop-number.number in
    let x = c.args.form.now in
    let i = c.index-inverses-number.result in
    let rest = numbers_by (drop (n + 1) all) (n + 1) x in
    let step = next-number all n i x c.loop-number-test.true c.index-inverses-number.is in
    let by : numbers_by (drop n all) n x ≡ cond c.has_inverse.result (n ∷ rest) rest =
    step ∙ ap (λ b. cond b (n ∷ rest) rest) (sym c.has_inverse.ensures) in
    elim c.if-has_inverse.branch [
      | then-has_inverse+in_ok-push w ↦
          ap (λ l. l ++ rest) (ap (λ v. v.items) w.numbers-is ∙ w.in_ok-push.ensures.items)
          ∙ append_assoc c.loop-number.numbers.items (n ∷ []) rest
          ∙ ap (λ l. c.loop-number.numbers.items ++ l) (sym (by ∙ ap (λ b. cond b (n ∷ rest) rest) w.if-has_inverse.true))
          ∙ c.loop-number.invariant
      | else-has_inverse w ↦
          ap (λ v. v.items ++ rest) w.numbers-is
          ∙ ap (λ l. c.loop-number.numbers.items ++ l) (sym (by ∙ ap (λ b. cond b (n ∷ rest) rest) w.if-has_inverse.false))
          ∙ c.loop-number.invariant
    ]
