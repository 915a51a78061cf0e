use Rattle.std.proofs.Common.{false, map, subst, sym}
use Rattle.std.proofs.lemmas.Result.{on_ok_weaker}
use Rattle.express_syntax.specs.ExpressionViews.{capitals}
use Rattle.express_syntax.specs.Views.{rule_of}
use Rattle.schema_semantics.specs.Ranks.{Self, HasReason}
use Rattle.schema_data_types.specs.steps.Values.{Holds}
use Rattle.schema_attribute_references.specs.steps.Taking.{schema_in}
use Rattle.schema_unchecked_declarations.specs.UncheckedLists.{unchecked_in}
use Rattle.schema_unchecked.specs.steps.Rules.{RuleHasReason}
use Rattle.schema_unchecked.proofs.Selves.{Alike}
use Rattle.schema_unchecked.proofs.SelfSets.{rules-alike, entity-alike}
use Rattle.schema_unchecked.proofs.rules.add_entity_rules.Goals as goal

pub returns : goal.returns
returns c =
    let s = schema_in c.args.findings.now.known in
    let h = capitals c.args.holder.name in
    on_ok_weaker c.add_rules.result
    (rules-alike h (RuleHasReason s (Holds s c.from_ref.result.now) false) (HasReason s (Self h))
    (λ b. subst (λ xs. Alike (RuleHasReason s (Holds s xs) false b) (HasReason s (Self h) b)) (sym c.from_ref.ensures.value)
    (entity-alike s h c.args.holder.number c.requires.number b)) 1 (map rule_of c.args.rules.now)
    (unchecked_in c.args.list.now.items) (unchecked_in c.add_rules.new.list.items)) c.add_rules.ensures
