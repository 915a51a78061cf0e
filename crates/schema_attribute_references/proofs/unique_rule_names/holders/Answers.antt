use Rattle.std.proofs.Common.{◌≡◌, Some, map, subst, sym}
use Rattle.std.specs.List.{filter}
use Rattle.std.proofs.lemmas.Result.{IfOk-weaker}
use Rattle.graphs.specs.Graphs.{graph_of}
use Rattle.express_syntax.specs.ExpressionViews.{capitals}
use Rattle.schema_explicit_attributes.specs.Supertypes.{is_or_leads}
use Rattle.schema_attributes.specs.steps.Declarations.{AreDeclarations}
use Rattle.schema_attribute_references.specs.steps.Taking.{schema_in}
use Rattle.schema_attribute_references.specs.steps.Named.{AreHolders}
use Rattle.schema_attribute_references.proofs.Holding.{holders-are}
use Rattle.schema_attribute_references.proofs.unique_rule_names.holders.Goals as goal

pub returns : goal.returns
returns c e k =
    let s = schema_in c.args.known.now in
    let a = capitals c.args.name in
    let g = graph_of c.args.known.now.above.now in
    let xs = c.find.result.now in
    IfOk-weaker c.entities_above.result
    (λ t. t.items ≡ filter (is_or_leads g (Some c.args.entity)) (map (λ x. x.entity) xs))
    (λ t. AreHolders s e a t.items)
    (λ t is. holders-are s g c.requires.known.above e a c.args.entity k xs
    (subst (AreDeclarations s a) (sym c.find.ensures) (c.requires.known.attributes c.args.name)) t.items is)
    c.entities_above.ensures
