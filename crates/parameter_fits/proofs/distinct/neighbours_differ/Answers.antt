use Rattle.std.proofs.Common.{◌≡◌, ◌≤◌, ◌+◌, ◌-◌, ℕ, suc, zero, true, List, [], ◌∷◌, length, drop, refl, sym, ◌∙◌, arith}
use Rattle.step_values.specs.declared.normal.Normal.{Normal}
use Rattle.step_values.specs.NormalForms.{normal_eq}
use Rattle.parameter_fits.specs.steps.Apart.{neighbours_apart}
use Rattle.parameter_fits.proofs.distinct.neighbours_differ.Goals as goal

short : (k : ℕ) (ns : List Normal) → length ns ≤ k + 1 → neighbours_apart normal_eq (drop k ns) ≡ true
short zero [] h = refl
short zero (n ∷ []) h = refl
short zero (m ∷ n ∷ ns) h = absurd (omega (arith, h))
short (suc k) [] h = refl
short (suc k) (n ∷ ns) h = short k ns (omega (arith, h))

pub returns : goal.returns
returns c =
    let past = c.loop-i-test.false in
    let least = c.loop-i.invariant.from in
    sym (short (c.loop-i.i - 1) c.args.forms.now (omega (arith, past, least))) ∙ c.loop-i.invariant.left
