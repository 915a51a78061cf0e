use Rattle.std.proofs.Common.{arith, sym, subst}
use Rattle.std.proofs.lemmas.List.{length-map}
use Rattle.schema_names.proofs.Items.{mapped-at}
use Rattle.schema_data_types.proofs.Declared.{entity-here}
use Rattle.express_syntax.specs.ExpressionViews.{capitals}
use Rattle.express_syntax.specs.Views.{declaration_of, entity_of}
use Rattle.schema_semantics.specs.Attributes.{IsOrigin}
use Rattle.schema_names.specs.Numbers.{IsAt}
use Rattle.schema_names.specs.Schemas.{the_schema}
use Rattle.schema_names.proofs.Edges.{number-within}
use Rattle.schema_explicit_attributes.specs.steps.Origins.{IsNumberOf}
use Rattle.schema_attributes.proofs.Origins.{no-entity, no-number, seen-entity}
use Rattle.schema_attributes.proofs.redeclarations.entity_origin.Goals as goal

pub returns-in_err-number : goal.returns-in_err-number
returns-in_err-number c =
    let s = the_schema c.args.names.now in
    subst (IsNumberOf s (IsOrigin s (capitals c.args.entity) (capitals c.args.attribute)))
    (sym c.from_residual.ensures)
    (no-number s (capitals c.args.entity) (sym c.in_err-number.ensures) (capitals c.args.attribute))

pub declaration-requires : goal.declaration-requires
declaration-requires c =
    let lt = number-within (the_schema c.args.names.now) (capitals c.args.entity) c.in_ok-number.number
    (sym c.in_ok-number.ensures) in
    let same = length-map c.args.names.now.schema.now.declarations.items declaration_of in
    omega (arith, lt, same)

pub origin-requires-clause-within : goal.origin-requires-clause-within
origin-requires-clause-within c =
    let lt = number-within (the_schema c.args.names.now) (capitals c.args.entity) c.in_ok-number.number
    (sym c.in_ok-number.ensures) in
    let same = length-map c.args.names.now.schema.now.declarations.items declaration_of in
    let each = c.requires.each in
    omega (arith, lt, same, each)

pub returns-in-Entity : goal.returns-in-Entity
returns-in-Entity c =
    let s = the_schema c.args.names.now in
    let at =
    subst (λ d. IsAt s c.in_ok-number.number (declaration_of d)) c.in-Entity.is
    (mapped-at declaration_of c.args.names.now.schema.now.declarations.items c.in_ok-number.number
    c.declaration.result.now c.declaration.ensures) in
    c.origin.ensures (capitals c.args.entity)
    (entity-here s (capitals c.args.entity) c.in_ok-number.number (entity_of c.in-Entity.field-0)
    (sym c.in_ok-number.ensures) at) (sym c.in_ok-number.ensures)

pub returns-in_default : goal.returns-in_default
returns-in_default c =
    let s = the_schema c.args.names.now in
    no-entity s (capitals c.args.entity) c.in_ok-number.number (declaration_of c.declaration.result.now)
    (sym c.in_ok-number.ensures)
    (mapped-at declaration_of c.args.names.now.schema.now.declarations.items c.in_ok-number.number
    c.declaration.result.now c.declaration.ensures) (seen-entity c.declaration.result.now c.in_default.not-Entity)
    (capitals c.args.attribute)
