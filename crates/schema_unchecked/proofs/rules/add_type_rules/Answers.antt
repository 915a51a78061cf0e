use Rattle.std.proofs.Common.{map, subst, sym}
use Rattle.std.proofs.lemmas.Result.{on_ok_weaker}
use Rattle.express_syntax.specs.ExpressionViews.{capitals}
use Rattle.express_syntax.specs.Schemas.{named}
use Rattle.express_syntax.specs.Views.{rule_of}
use Rattle.schema_semantics.specs.Parts.{TypeRuleHasReason}
use Rattle.schema_semantics.specs.Shapes.{IsOf}
use Rattle.schema_data_types.specs.steps.Values.{Holds}
use Rattle.schema_attribute_references.specs.steps.Taking.{schema_in}
use Rattle.schema_unchecked_declarations.specs.UncheckedLists.{unchecked_in}
use Rattle.schema_unchecked.specs.steps.Rules.{RuleHasReason}
use Rattle.schema_unchecked.proofs.SelfSets.{SameSet, rules-alike, type-alike}
use Rattle.schema_unchecked.proofs.rules.add_type_rules.Goals as goal

pub returns : goal.returns
returns c =
    let s = schema_in c.args.findings.now.known in
    let h = capitals c.args.holder.name in
    let M = Holds s c.deref.result.now in
    let w = c.is_type_over_select.result in
    on_ok_weaker c.add_rules.result
    (rules-alike h (RuleHasReason s M w) (TypeRuleHasReason s (named h))
    (type-alike s (named h) M w
    (subst (λ xs. SameSet (Holds s xs) (IsOf s (named h))) (sym c.deref.ensures.value) c.in_ok-atoms.ensures)
    c.is_type_over_select.ensures) 1 (map rule_of c.args.rules.now)
    (unchecked_in c.args.list.now.items) (unchecked_in c.add_rules.new.list.items)) c.add_rules.ensures
