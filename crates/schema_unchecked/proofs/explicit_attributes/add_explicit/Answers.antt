use Rattle.std.proofs.Common.{◌<◌, ◌++◌, length, arith, map, ap, subst, sym, ◌∙◌}
use Rattle.std.proofs.lemmas.List.{take_all}
use Rattle.express_syntax.specs.ExpressionViews.{capitals}
use Rattle.express_syntax.specs.Schemas.{Attribute}
use Rattle.express_syntax.specs.Views.{attribute_of, data_type_of}
use Rattle.schema_semantics.specs.Parts.{Candidate, for_each, attribute_label, parts_of_redeclared, parts_of_data_type}
use Rattle.schema_attribute_references.specs.steps.Taking.{schema_in}
use Rattle.schema_unchecked_declarations.specs.UncheckedLists.{Adds, unchecked_in}
use Rattle.schema_unchecked_declarations.proofs.Joining.{adds-joined}
use Rattle.schema_unchecked_declarations.proofs.Turns.{adds-next}
use Rattle.schema_unchecked.proofs.explicit_attributes.add_explicit.Goals as goal

pub loop-attribute-preserved : goal.loop-attribute-preserved
loop-attribute-preserved c =
    let s = schema_in c.args.findings.now.known in
    let h = capitals c.args.holder in
    let k = data_type_of c.args.explicit.now.data_type in
    let xs = c.as_slice-attribute-items.result.now in
    let i = c.loop-attribute.attribute-index in
    let x = c.attribute-item.result in
    let a = attribute_of x in
    let lt : i < length xs = omega (arith, c.loop-attribute-test.true) in
    let old = unchecked_in c.args.list.now.items in
    let low = unchecked_in c.loop-attribute.list.items in
    let mid = unchecked_in c.add_redeclared.new.list.items in
    let new = unchecked_in c.add_data_type.new.list.items in
    adds-next attribute_of
    (λ (y : Attribute). parts_of_redeclared s h k y ++ parts_of_data_type (attribute_label h y) k) xs i x old low new lt
    c.attribute-item.is c.loop-attribute.invariant
    (adds-joined (parts_of_redeclared s h k a) (parts_of_data_type (attribute_label h a) k) low mid new
    (c.in_ok-add_redeclared.ensures k c.requires.data_type)
    (subst (λ n. Adds (parts_of_data_type n k) mid new) c.attribute_label-label.ensures c.in_ok-add_data_type.ensures))

pub returns : goal.returns
returns c =
    let s = schema_in c.args.findings.now.known in
    let h = capitals c.args.holder in
    let k = data_type_of c.args.explicit.now.data_type in
    subst (λ ys. Adds (for_each
    (λ (y : Attribute). parts_of_redeclared s h k y ++ parts_of_data_type (attribute_label h y) k) ys)
    (unchecked_in c.args.list.now.items) (unchecked_in c.loop-attribute.list.items))
    (ap (map attribute_of) (take_all c.loop-attribute.attribute-index c.as_slice-attribute-items.result.now
    c.loop-attribute-test.false) ∙ c.as_slice-attribute-items.ensures) c.loop-attribute.invariant
