use Rattle.std.proofs.Common.{◌<◌, length, arith, map, subst}
use Rattle.std.proofs.lemmas.List.{take_all}
use Rattle.express_syntax.specs.Views.{rule_of}
use Rattle.conformance.specs.DomainRules.{domain_statements_from}
use Rattle.schema_attribute_references.specs.steps.Taking.{schema_in}
use Rattle.schema_domain_rules.specs.RuleViews.{holder_seen}
use Rattle.schema_domain_rules.specs.steps.Making.{Adds}
use Rattle.schema_domain_rules.proofs.Listing.{adds-none, adds-statement}
use Rattle.schema_domain_rules.proofs.rules.add_rules.Goals as goal

pub loop-i-init : goal.loop-i-init
loop-i-init c = adds-none (schema_in c.args.findings.now.known) c.args.rules.now.items

pub loop-i-preserved : goal.loop-i-preserved
loop-i-preserved c =
    let s = schema_in c.args.findings.now.known in
    let xs = c.args.written.now in
    let i = c.loop-i.i in
    let x = c.index-written-i.result in
    let lt : i < length xs = omega (arith, c.loop-i-test.true) in
    adds-statement s rule_of (holder_seen s c.args.holder) xs i x c.args.rules.now.items c.loop-i.rules.items
    c.add_rule.new.rules.items lt c.index-written-i.is c.loop-i.invariant c.in_ok-add_rule.ensures

pub returns : goal.returns
returns c =
    let s = schema_in c.args.findings.now.known in
    subst (λ xs. Adds s (domain_statements_from (holder_seen s c.args.holder) 1 (map rule_of xs)) c.args.rules.now.items
    c.loop-i.rules.items) (take_all c.loop-i.i c.args.written.now c.loop-i-test.false) c.loop-i.invariant
