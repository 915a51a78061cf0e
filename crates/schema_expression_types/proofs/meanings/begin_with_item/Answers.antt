use Rattle.std.proofs.Common.{◌≡◌, ◌∙◌, ap, sym, Some, slice_get}
use Rattle.std.specs.Option.{option_copied}
use Rattle.express_syntax.specs.ExpressionViews.{capitals, of_attribute, of_group, of_element, selection_of, tree_of}
use Rattle.express_syntax.proofs.Layers.{attribute-selected, group-selected, index-selected}
use Rattle.schema_names.specs.Schemas.{the_schema}
use Rattle.schema_expression_types.proofs.Choosing.{begins, none-begins}
use Rattle.schema_expression_types.proofs.meanings.begin_with_item.Goals as goal

pub returns-in-Attribute : goal.returns-in-Attribute
returns-in-Attribute c =
    let s = the_schema c.args.tables.now.names.now in
    let n = capitals c.args.defined in
    let a = c.in-Attribute.item in
    let at = sym c.first.ensures.value ∙ ap option_copied c.in-Some.is in
    let is = begins s n c.args.qualifiers.now c.in-Some.first.now at (of_attribute (capitals a))
    (ap selection_of c.in-Attribute.is ∙ attribute-selected a) in
    (λ h. is.1 (c.is_item_of.ensures.0 h), λ h. c.is_item_of.ensures.1 (is.0 h))

pub returns-in-Group : goal.returns-in-Group
returns-in-Group c =
    let s = the_schema c.args.tables.now.names.now in
    let n = capitals c.args.defined in
    let e = c.in-Group.field-0 in
    let a = c.in-Group.field-1 in
    let at = sym c.first.ensures.value ∙ ap option_copied c.in-Some.is in
    let is = begins s n c.args.qualifiers.now c.in-Some.first.now at (of_group (capitals e) (capitals a))
    (ap selection_of c.in-Group.is ∙ group-selected e a) in
    (λ h. absurd (cc), λ h. absurd (is.0 h))

pub returns-in-Index : goal.returns-in-Index
returns-in-Index c =
    let s = the_schema c.args.tables.now.names.now in
    let n = capitals c.args.defined in
    let i = c.in-Index.field-0 in
    let at = sym c.first.ensures.value ∙ ap option_copied c.in-Some.is in
    let is = begins s n c.args.qualifiers.now c.in-Some.first.now at (of_element (tree_of i.value))
    (ap selection_of c.in-Index.is ∙ index-selected i) in
    (λ h. absurd (cc), λ h. absurd (is.0 h))

pub returns-in_default : goal.returns-in_default
returns-in_default c =
    let none = none-begins (the_schema c.args.tables.now.names.now) (capitals c.args.defined) c.args.qualifiers.now
    (sym c.first.ensures.value ∙ ap option_copied c.in_default.is) in
    (λ h. absurd (cc), λ h. absurd (none h))
