use Rattle.std.proofs.Common.{true, sym, ◌∙◌}
use Rattle.std.proofs.lemmas.Bool.{false≢true}
use Rattle.certificate_checks.proofs.Finding.{through_ok}
use Rattle.certificate_checks.proofs.judge.has_grounds.Goals as goal

pub returns-then-not-branch : goal.returns-then-not-branch
returns-then-not-branch c = (
  λ q. absurd (false≢true q),
  λ grounded. sym c.if-not-branch.true ∙ c.in_ok-starts_together.ensures.1 grounded.first,
)

pub returns : goal.returns
returns c =
    through_ok c.splits_have_grounds.result c.splits_have_grounds.ensures (
      λ next. record { first = c.in_ok-starts_together.ensures.0 c.if-not-branch.false; next = next },
      λ grounded. grounded.next,
    )
