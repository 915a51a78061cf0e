use Rattle.std.proofs.Common.{sym, ◌∙◌}
use Rattle.std.proofs.lemmas.Bool.{false≢true}
use Rattle.certificate_checks.proofs.judge.judge_by.Goals as goal

pub returns-then-not-names_match : goal.returns-then-not-names_match
returns-then-not-names_match c members = false≢true (sym c.if-not-names_match.true ∙ c.names_match.ensures.1 members)

pub has_grounds-requires-clause-members : goal.has_grounds-requires-clause-members
has_grounds-requires-clause-members c = c.names_match.ensures.0 c.if-not-names_match.false

pub returns-then-not-branch : goal.returns-then-not-branch
returns-then-not-branch c = (
  c.names_match.ensures.0 c.if-not-names_match.false,
  λ grounded. false≢true (sym c.if-not-branch.true ∙ c.in_ok-has_grounds.ensures.1 grounded),
)

pub is_stable-requires-clause-members : goal.is_stable-requires-clause-members
is_stable-requires-clause-members c = c.names_match.ensures.0 c.if-not-names_match.false

pub returns-then-not-branch-2 : goal.returns-then-not-branch-2
returns-then-not-branch-2 c = (
  c.names_match.ensures.0 c.if-not-names_match.false,
  c.in_ok-has_grounds.ensures.0 c.if-not-branch.false,
  λ stable. false≢true (sym c.if-not-branch-2.true ∙ c.in_ok-is_stable.ensures.1 stable),
)

pub returns : goal.returns
returns c = record {
  members = c.names_match.ensures.0 c.if-not-names_match.false;
  grounded = c.in_ok-has_grounds.ensures.0 c.if-not-branch.false;
  stable = c.in_ok-is_stable.ensures.0 c.if-not-branch-2.false;
}
