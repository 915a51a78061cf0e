use Rattle.std.proofs.Common.{◌≡◌, ◌-◌, ◌≤◌, drop}
use Rattle.step_values.specs.NormalForms.{normal_eq}
use Rattle.parameter_fits.specs.steps.Apart.{neighbours_apart}
use Rattle.parameter_fits.proofs.distinct.neighbours_differ.Given as goal

-- what is left decides
abbrev pub invariant-loop-i : goal.invariant-loop-i
invariant-loop-i l = record {
  from : 1 ≤ l.i;
  left : neighbours_apart normal_eq (drop (l.i - 1) l.forms) ≡ neighbours_apart normal_eq l.forms;
}
