use Rattle.std.proofs.Common.{not, ap, ◌∙◌}
use Rattle.std.specs.List.{list_any}
use Rattle.express_syntax.specs.ExpressionViews.{capitals}
use Rattle.express_syntax.specs.Clauses.{name_of}
use Rattle.express_syntax.specs.Views.{attribute_of}
use Rattle.schema_attribute_references.specs.steps.Taking.{schema_in}
use Rattle.schema_attribute_references.specs.steps.Named.{is_one, is_other_at}
use Rattle.schema_attribute_references.proofs.Holding.{written-name, naming-is}
use Rattle.schema_attribute_references.proofs.unique_rule_names.naming_of.Goals as goal

pub returns : goal.returns
returns c e k known =
    let s = schema_in c.args.known.now in
    let x = c.args.attribute in
    let row = c.in_ok-row.row.items in
    naming-is s e (attribute_of x) (capitals (name_of x)) (written-name x) row (c.in_ok-row.ensures e k known) _
    (c.any_other.ensures ∙ ap (λ xs. list_any (is_other_at s (capitals c.name.result)) xs) c.deref.ensures.value
    ∙ ap (λ w. list_any (is_other_at s (capitals w)) row) c.name.ensures)
    (ap not (c.is_one.ensures ∙ ap is_one c.deref-2.ensures.value))
