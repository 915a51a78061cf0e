use Rattle.std.proofs.Common.{OnOk, map, sym, subst}
use Rattle.express_syntax.specs.ExpressionViews.{capitals}
use Rattle.express_syntax.specs.Schemas.{named}
use Rattle.express_syntax.specs.Views.{rule_of}
use Rattle.schema_semantics.specs.Shapes.{IsOf}
use Rattle.schema_data_types.specs.steps.Values.{Holds}
use Rattle.schema_attribute_references.specs.steps.Taking.{schema_in}
use Rattle.schema_unchecked.proofs.SelfSets.{SameSet}
use Rattle.conformance.specs.DomainRules.{of_type, domain_statements_from}
use Rattle.schema_domain_rules.specs.steps.Making.{Adds}
use Rattle.schema_domain_rules.proofs.Holding.{name-is, number-seen, own-value}
use Rattle.schema_domain_rules.proofs.rules.add_type_rules.Goals as goal

pub add_rules-requires-clause-own : goal.add_rules-requires-clause-own
add_rules-requires-clause-own c =
    let s = schema_in c.args.findings.now.known in
    let n = capitals c.args.holder.name in
    own-value s n c.args.holder.number c.requires.number (Holds s c.deref.result.now) c.is_type_over_select.result
    (subst (λ xs. SameSet (Holds s xs) (IsOf s (named n))) (sym c.deref.ensures.value) c.in_ok-atoms.ensures)
    c.is_type_over_select.ensures

pub add_rules-requires-clause-holder : goal.add_rules-requires-clause-holder
add_rules-requires-clause-holder c =
    number-seen (schema_in c.args.findings.now.known) (capitals c.args.holder.name) c.args.holder.number
    c.requires.number

pub returns : goal.returns
returns c =
    let s = schema_in c.args.findings.now.known in
    let n = capitals c.args.holder.name in
    subst (λ m. OnOk c.add_rules.result (Adds s (domain_statements_from (of_type m) 1 (map rule_of c.args.written.now))
    c.args.rules.now.items c.add_rules.new.rules.items)) (name-is s n c.args.holder.number c.requires.number)
    c.add_rules.ensures
