use Rattle.std.proofs.Common.{◌≡◌, ◌∙◌, ◌&&◌, true, false, ap, sym, subst}
use Rattle.express_syntax.specs.ExpressionViews.{capitals}
use Rattle.express_syntax.specs.Views.{declaration_of}
use Rattle.express_syntax.specs.SchemaViews.{schema_of}
use Rattle.conformance.specs.ParameterFits.{is_listed}
use Rattle.schema_underlying_types.specs.BaseViews as seen
use Rattle.schema_names.specs.Schemas.{the_schema}
use Rattle.schema_underlying_types.specs.BaseViews.{name_at, base_seen}
use Rattle.schema_underlying_types.specs.Tables.{IsNumberedBase}
use Rattle.conformance.specs.Meanings.{type_names, items_in}
use Rattle.schema_names.proofs.Items.{mapped-at}
use Rattle.schema_attribute_sources.proofs.Reading.{tree-within}
use Rattle.rule_names.proofs.Enumerations.{no_type, type_told, no_items, both_told}
use Rattle.rule_names.proofs.items.is_item_of.Goals as goal

pub declaration-requires : goal.declaration-requires
declaration-requires c =
    tree-within c.args.names.now.schema.now (capitals c.args.declared) c.in-Some.number (sym c.in-Some.ensures)

pub returns-in_default : goal.returns-in_default
returns-in_default c d is =
    let t = capitals c.args.declared in
    ap (λ b. b && is_listed (capitals c.args.name) (items_in (d.of_name t)))
    (no_type (the_schema c.args.names.now) c.requires.resolved t c.in_default.ensures)

pub returns-then-not-is_type : goal.returns-then-not-is_type
returns-then-not-is_type c d is =
    let tree = c.args.names.now.schema.now in
    let s = schema_of tree in
    let t = capitals c.args.declared in
    let x = declaration_of c.declaration.result.now in
    let at = mapped-at declaration_of tree.declarations.items c.in-Some.number c.declaration.result.now c.declaration.ensures in
    ap (λ b. b && is_listed (capitals c.args.name) (items_in (d.of_name t)))
    (sym c.if-not-is_type.true ∙ c.is_type.ensures
    ∙ type_told s c.requires.resolved t c.in-Some.number (sym c.in-Some.ensures) x at)

pub declaration-requires-in-Enumeration : goal.declaration-requires-in-Enumeration
declaration-requires-in-Enumeration c =
    let tree = c.args.names.now.schema.now in
    let s = schema_of tree in
    tree-within tree (name_at s c.in-Enumeration.enumeration) c.in-Enumeration.enumeration
    (subst (IsNumberedBase s) (sym c.in-Enumeration.ensures) (c.requires.tables.named (capitals c.args.declared)))

pub returns-in-Enumeration : goal.returns-in-Enumeration
returns-in-Enumeration c d is =
    let tree = c.args.names.now.schema.now in
    let s = schema_of tree in
    let n = capitals c.args.name in
    let t = capitals c.args.declared in
    let i = c.in-Some.number in
    let x = declaration_of c.declaration.result.now in
    let at = mapped-at declaration_of tree.declarations.items i c.declaration.result.now c.declaration.ensures in
    let there =
    mapped-at declaration_of tree.declarations.items c.in-Enumeration.enumeration
    c.declaration-in-Enumeration.result.now c.declaration-in-Enumeration.ensures in
    let one : true ≡ is_listed t (type_names s) =
    sym c.if-not-is_type.false ∙ c.is_type.ensures ∙ type_told s c.requires.resolved t i (sym c.in-Some.ensures) x at in
    let two : c.is_among.result ≡ is_listed n (items_in (d.of_name t)) =
    c.is_among.ensures ∙ ap (is_listed n) (c.items_in.ensures ∙ sym (ap seen.items_in there))
    ∙ ap (λ b. is_listed n (items_in b))
    (ap (base_seen s) c.in-Enumeration.ensures ∙ c.requires.tables.by_name d is t i (sym c.in-Some.ensures)) in
    both_told one two

pub returns-in_default-base_of : goal.returns-in_default-base_of
returns-in_default-base_of c d is =
    let tree = c.args.names.now.schema.now in
    let s = schema_of tree in
    let n = capitals c.args.name in
    let t = capitals c.args.declared in
    let i = c.in-Some.number in
    let x = declaration_of c.declaration.result.now in
    let at = mapped-at declaration_of tree.declarations.items i c.declaration.result.now c.declaration.ensures in
    let one : true ≡ is_listed t (type_names s) =
    sym c.if-not-is_type.false ∙ c.is_type.ensures ∙ type_told s c.requires.resolved t i (sym c.in-Some.ensures) x at in
    let two : false ≡ is_listed n (items_in (d.of_name t)) =
    ap (is_listed n) (no_items s c.base_of.result c.in_default-base_of.not-Enumeration)
    ∙ ap (λ b. is_listed n (items_in b))
    (ap (base_seen s) c.base_of.ensures ∙ c.requires.tables.by_name d is t i (sym c.in-Some.ensures)) in
    both_told one two
