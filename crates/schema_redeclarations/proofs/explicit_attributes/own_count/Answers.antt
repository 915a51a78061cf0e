use Rattle.std.proofs.Common.{◌+◌, ◌∙◌, ap, sym, map, length, [], ◌∷◌}
use Rattle.express_syntax.specs.Views.{attribute_of}
use Rattle.schema_semantics.specs.Names.{own_names}
use Rattle.schema_attributes.proofs.Gathered.{seen}
use Rattle.schema_redeclarations.proofs.OfAttributes.{own-more}
use Rattle.schema_redeclarations.proofs.Going.{all-taken}
use Rattle.schema_redeclarations.proofs.explicit_attributes.own_count.Goals as goal

pub loop-attribute-preserved : goal.loop-attribute-preserved
loop-attribute-preserved c =
    let xs = c.args.attributes.now in
    let n = c.loop-attribute.attribute-index in
    let x = c.attribute-item.result in
    let at = seen attribute_of xs n x c.loop-attribute-test.true c.attribute-item.is in
    c.in_ok-count.ensures ∙ ap (λ m. c.loop-attribute.count + m) c.own_one.ensures
    ∙ ap (λ m. m + length (own_names (attribute_of x ∷ []))) c.loop-attribute.invariant
    ∙ sym (own-more (map attribute_of xs) n (attribute_of x) at)

pub returns : goal.returns
returns c =
    c.loop-attribute.invariant
    ∙ ap (λ ys. length (own_names ys)) (all-taken attribute_of c.args.attributes.now c.loop-attribute.attribute-index
    c.loop-attribute-test.false)
