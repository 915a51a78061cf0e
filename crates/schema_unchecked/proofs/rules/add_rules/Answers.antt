use Rattle.std.proofs.Common.{◌<◌, length, arith, map, refl, subst}
use Rattle.std.proofs.lemmas.List.{take_all}
use Rattle.express_syntax.specs.ExpressionViews.{capitals}
use Rattle.express_syntax.specs.Views.{rule_of}
use Rattle.schema_semantics.specs.Parts.{parts_of_rules}
use Rattle.schema_attribute_references.specs.steps.Taking.{schema_in}
use Rattle.schema_unchecked_declarations.specs.UncheckedLists.{Adds, unchecked_in}
use Rattle.schema_unchecked.specs.steps.Rules.{has_reason}
use Rattle.schema_unchecked.proofs.Counted.{adds-counted}
use Rattle.schema_unchecked.proofs.rules.add_rules.Goals as goal

pub loop-i-preserved : goal.loop-i-preserved
loop-i-preserved c =
    let xs = c.args.rules.now in
    let i = c.loop-i.i in
    let x = c.index-rules-i.result in
    let lt : i < length xs = omega (arith, c.loop-i-test.true) in
    adds-counted rule_of (parts_of_rules (capitals c.args.holder) (has_reason (schema_in c.args.findings.now.known) c.args.own))
    (λ n. refl) (λ n r rs. refl) xs i x (unchecked_in c.args.list.now.items) (unchecked_in c.loop-i.list.items)
    (unchecked_in c.add_rule.new.list.items) lt c.index-rules-i.is c.loop-i.invariant c.in_ok-add_rule.ensures

pub returns : goal.returns
returns c =
    subst (λ xs. Adds
    (parts_of_rules (capitals c.args.holder) (has_reason (schema_in c.args.findings.now.known) c.args.own) 1 (map rule_of xs))
    (unchecked_in c.args.list.now.items) (unchecked_in c.loop-i.list.items))
    (take_all c.loop-i.i c.args.rules.now c.loop-i-test.false) c.loop-i.invariant
