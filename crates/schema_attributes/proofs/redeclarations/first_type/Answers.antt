use Rattle.std.proofs.Common.{sym, arith, get_or, [], subst, ◌∙◌, ap}
use Rattle.std.proofs.lemmas.List.{length-map}
use Rattle.graphs.specs.Graphs.{graph_of}
use Rattle.express_syntax.specs.ExpressionViews.{capitals}
use Rattle.express_syntax.specs.Schemas.{entity}
use Rattle.express_syntax.specs.Views.{declaration_of, entity_of}
use Rattle.schema_names.specs.Numbers.{IsAt}
use Rattle.schema_names.specs.Schemas.{the_schema}
use Rattle.schema_names.proofs.Numbers.{stands-at}
use Rattle.schema_names.proofs.Edges.{number-within}
use Rattle.schema_names.proofs.Items.{row-at, mapped-at}
use Rattle.schema_data_types.specs.NumberedTypes.{whole_types, all_data_types}
use Rattle.schema_attributes.specs.steps.Searching.{number_where, types_own, typings}
use Rattle.schema_attributes.proofs.Origins.{not-entity, seen-entity}
use Rattle.schema_attributes.proofs.FirstTypes.{first-type-at, not-none}
use Rattle.schema_attributes.proofs.redeclarations.first_type.Goals as goal

pub returns-in_err-declaration : goal.returns-in_err-declaration
returns-in_err-declaration c p ent k =
    let lt = number-within (the_schema c.args.names.now) p c.args.entity k in
    let same = length-map c.args.names.now.schema.now.declarations.items declaration_of in
    absurd (not-none c.args.names.now.schema.now.declarations.items c.args.entity (omega (arith, lt, same))
    (sym c.in_err-declaration.ensures))

pub returns-in-Entity : goal.returns-in-Entity
returns-in-Entity c p ent k =
    let s = the_schema c.args.names.now in
    let i = c.args.entity in
    let ds = c.args.names.now.schema.now.declarations.items in
    let a = capitals c.args.attribute in
    let e = entity_of c.in-Entity.declared in
    let at = subst (λ d. IsAt s i (declaration_of d)) c.in-Entity.is
    (mapped-at declaration_of ds i c.in_ok-declaration.declaration.now (sym c.in_ok-declaration.ensures)) in
    let rows = graph_of c.args.data_types.now.rows.items in
    first-type-at s c.requires.resolved p a e (stands-at s p i k ∙ at) (get_or rows i [])
    (row-at whole_types (all_data_types s) s.declarations rows i (entity e) c.requires.rows at) c.own_type.result
    (c.own_type.ensures ∙ ap (λ row. number_where (types_own a) row (typings e)) c.row_of.ensures)

pub returns-in_default : goal.returns-in_default
returns-in_default c p ent k =
    let s = the_schema c.args.names.now in
    let i = c.args.entity in
    let ds = c.args.names.now.schema.now.declarations.items in
    λ l first. not-entity s p i (declaration_of c.in_ok-declaration.declaration.now) k
    (mapped-at declaration_of ds i c.in_ok-declaration.declaration.now (sym c.in_ok-declaration.ensures))
    (seen-entity c.in_ok-declaration.declaration.now c.in_default.not-Entity) ent
