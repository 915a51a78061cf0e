use Rattle.std.proofs.Common.{sym, ◌∙◌}
use Rattle.std.proofs.lemmas.Bool.{false≢true}
use Rattle.verifying.proofs.output.is_image.Goals as goal

pub returns-then-not-branch : goal.returns-then-not-branch
returns-then-not-branch c = (
  λ e. absurd (false≢true e),
  λ m. sym c.if-not-branch.true ∙ c.in_ok-is_merged.ensures.1 m.0,
)

pub returns : goal.returns
returns c = (
  λ e. (c.in_ok-is_merged.ensures.0 c.if-not-branch.false, c.are_those_of.ensures.0 e),
  λ m. c.are_those_of.ensures.1 m.1,
)
