use Rattle.std.proofs.Common.{◌<◌, ◌++◌, ◌∙◌, length, arith, map, ap, sym, subst}
use Rattle.std.proofs.lemmas.List.{length-map}
use Rattle.express_syntax.specs.Views.{declaration_of}
use Rattle.express_syntax.specs.Profile.{Every}
use Rattle.conformance.specs.DomainRules.{AreDomainRules}
use Rattle.schema_attribute_references.specs.steps.Taking.{schema_in}
use Rattle.schema_domain_rules.specs.RuleViews.{rule_seen, IsNumberedRule}
use Rattle.schema_domain_rules.proofs.list.domain_rules.Goals as goal

pub add_all-requires-clause-few : goal.add_all-requires-clause-few
add_all-requires-clause-few c =
    let ds = c.args.findings.now.known.tables.names.now.schema.now.declarations.items in
    let few = c.args.findings.now.known.tables.names.now.few in
    let long = length-map ds declaration_of in
    subst (λ xs. length xs < 4294967296) (sym c.deref.ensures.value) (omega (arith, few, long))

pub add_all-requires-clause-all : goal.add_all-requires-clause-all
add_all-requires-clause-all c = ap (map declaration_of) c.deref.ensures.value

pub returns-clause-checked : goal.returns-clause-checked
returns-clause-checked c =
    let s = schema_in c.args.findings.now.known in
    let (rows, is, checked, numbered) = c.in_ok-add_all.ensures in
    subst (λ rs. AreDomainRules s (map (rule_seen s) rs)) (sym (is ∙ ap (λ xs. xs ++ rows) c.new-rules.ensures.items))
    checked

pub returns-clause-numbered : goal.returns-clause-numbered
returns-clause-numbered c =
    let s = schema_in c.args.findings.now.known in
    let (rows, is, checked, numbered) = c.in_ok-add_all.ensures in
    subst (Every (IsNumberedRule s)) (sym (is ∙ ap (λ xs. xs ++ rows) c.new-rules.ensures.items)) numbered
