-- The test of kinds decides that they are one.
use Rattle.std.proofs.Common.{◌≡◌, ◌≢◌, Bool, false, Decides, sym, ◌∙◌, ap, eqb-true, eq-eqb}
use Rattle.std.specs.Prelude.{◌==◌, ◌&&◌}
use Rattle.std.specs.Str.{bytes_eq}
use Rattle.std.proofs.lemmas.Bool.{and_parts, and_from}
use Rattle.std.proofs.lemmas.Slice.Eq.{bytes_eq-Decides}
use Rattle.step_values.specs.AgreementTests.{each_test}
use Rattle.step_values.proofs.Deciding.{each_decides}
use Rattle.step_values.proofs.Crowds.{not_equal}
use Rattle.value_equality.specs.Rows.{Kind}
use Rattle.value_equality.specs.steps.ComputedKinds.{kind_test}

pub kinds_decide : (a b : Kind) → Decides (kind_test a b) (a ≡ b)
kinds_decide a b = (
  λ e. let parts = and_parts (a.0 == b.0) (each_test bytes_eq a.1 b.1) e in
      ap (λ s. (s, a.1)) (eqb-true a.0 b.0 parts.0) ∙ ap (λ ts. (b.0, ts))
      ((each_decides bytes_eq bytes_eq-Decides a.1 b.1).0 parts.1),
  λ e. and_from (a.0 == b.0) (each_test bytes_eq a.1 b.1) (eq-eqb a.0 b.0 (ap (λ (k : Kind). k.0) e))
      ((each_decides bytes_eq bytes_eq-Decides a.1 b.1).1 (ap (λ (k : Kind). k.1) e)),
)

-- kinds of two sections
pub two_sections : (a b : Kind) → a.0 ≢ b.0 → false ≡ kind_test a b
two_sections a b n = sym (ap (λ c. c && each_test bytes_eq a.1 b.1) (not_equal a.0 b.0 n))

-- kinds of one section
pub one_section : (a b : Kind) (r : Bool) → a.0 ≡ b.0 → r ≡ each_test bytes_eq a.1 b.1 → r ≡ kind_test a b
one_section a b r e f = f ∙ sym (ap (λ c. c && each_test bytes_eq a.1 b.1) (eq-eqb a.0 b.0 e))
