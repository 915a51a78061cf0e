use Rattle.std.proofs.Common.{OnOk, ◌↔◌, false, map, sym, subst}
use Rattle.express_syntax.specs.ExpressionViews.{capitals}
use Rattle.express_syntax.specs.Views.{rule_of}
use Rattle.schema_data_types.specs.steps.Values.{Holds}
use Rattle.schema_underlying_types.specs.BaseViews.{name_at}
use Rattle.schema_attribute_references.specs.steps.Taking.{schema_in}
use Rattle.schema_unchecked.specs.steps.Rules.{RuleHasReason as HasReasonBy}
use Rattle.conformance.specs.DomainRules.{of_entity, domain_statements_from, RuleHasReason}
use Rattle.schema_domain_rules.specs.steps.Making.{Adds}
use Rattle.schema_domain_rules.proofs.Holding.{name-is, number-seen, own-instance}
use Rattle.schema_domain_rules.proofs.rules.add_entity_rules.Goals as goal

pub add_rules-requires-clause-own : goal.add_rules-requires-clause-own
add_rules-requires-clause-own c b r =
    let s = schema_in c.args.findings.now.known in
    let i = c.args.holder.number in
    subst (λ xs. HasReasonBy s (Holds s xs) false b r ↔ RuleHasReason s (of_entity (name_at s i)) b r)
    (sym c.from_ref.ensures.value) (own-instance s (capitals c.args.holder.name) i c.requires.number b r)

pub add_rules-requires-clause-holder : goal.add_rules-requires-clause-holder
add_rules-requires-clause-holder c =
    number-seen (schema_in c.args.findings.now.known) (capitals c.args.holder.name) c.args.holder.number
    c.requires.number

pub returns : goal.returns
returns c =
    let s = schema_in c.args.findings.now.known in
    let n = capitals c.args.holder.name in
    subst (λ m. OnOk c.add_rules.result (Adds s (domain_statements_from (of_entity m) 1 (map rule_of c.args.written.now))
    c.args.rules.now.items c.add_rules.new.rules.items)) (name-is s n c.args.holder.number c.requires.number)
    c.add_rules.ensures
