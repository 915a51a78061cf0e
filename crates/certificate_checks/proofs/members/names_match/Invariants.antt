use Rattle.std.proofs.Common.{◌≡◌, ℕ, take, map}
use Rattle.value_equality.specs.Rows.{names}
use Rattle.value_equality.specs.TableViews.{table_of}
use Rattle.certificate_checks.proofs.members.names_match.Given as goal

abbrev pub invariant-loop-place : goal.invariant-loop-place
invariant-loop-place l = take l.place (map (λ (m : ℕ × ℕ). m.0) (table_of l.table).members) ≡ take l.place (names l.input)
