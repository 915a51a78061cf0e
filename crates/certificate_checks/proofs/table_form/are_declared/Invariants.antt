use Rattle.std.proofs.Common.{◌<◌, ℕ, take}
use Rattle.std.specs.Prelude.{All}
use Rattle.certificate_checks.proofs.table_form.are_declared.Given as goal

abbrev pub invariant-loop-i : goal.invariant-loop-i
invariant-loop-i l = All (λ (m : ℕ × ℕ). m.1 < l.count) (take l.i l.members)
