use Rattle.std.proofs.Common.{refl, sym, ◌∙◌}
use Rattle.express_syntax.specs.Views.{rule_of, body_of}
use Rattle.schema_attribute_references.specs.steps.Taking.{schema_in}
use Rattle.schema_unchecked.specs.steps.Rules.{has_reason}
use Rattle.schema_domain_rules.specs.RuleViews.{holder_seen}
use Rattle.schema_domain_rules.specs.steps.Making.{statement_of}
use Rattle.schema_domain_rules.proofs.Listing.{adds-left}
use Rattle.schema_domain_rules.proofs.Holding.{some-reason, no-reason}
use Rattle.schema_domain_rules.proofs.rules.add_rule.Goals as goal

pub returns-then-is_checked : goal.returns-then-is_checked
returns-then-is_checked c =
    let s = schema_in c.args.findings.now.known in
    let b = body_of c.args.rule.now.body in
    c.add_checked.ensures s c.requires.holder
    (λ r why. no-reason (has_reason s c.args.own b) c.in_ok-reason.reason
    (sym c.is_checked.ensures ∙ c.if-is_checked.true) c.in_ok-reason.ensures r
    ((c.requires.own b r).1 why))

pub returns : goal.returns
returns c =
    let s = schema_in c.args.findings.now.known in
    let x = statement_of (holder_seen s c.args.place.holder) c.args.place.number (rule_of c.args.rule.now) in
    let (r, why) = some-reason (has_reason s c.args.own (body_of c.args.rule.now.body)) c.in_ok-reason.reason
    (sym c.is_checked.ensures ∙ c.if-is_checked.false) c.in_ok-reason.ensures in
    adds-left s x r c.args.rules.now.items c.args.rules.now.items
    ((c.requires.own (body_of c.args.rule.now.body) r).0 why) refl
