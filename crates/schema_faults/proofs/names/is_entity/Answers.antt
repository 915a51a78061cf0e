use Rattle.std.proofs.Common.{◌∙◌, sym, arith}
use Rattle.std.proofs.lemmas.List.{length-map}
use Rattle.express_syntax.specs.ExpressionViews.{capitals}
use Rattle.express_syntax.specs.Views.{declaration_of as declaration_seen}
use Rattle.schema_names.specs.Schemas.{the_schema}
use Rattle.schema_names.proofs.Rows.{seen-at}
use Rattle.schema_faults.proofs.Asking.{entity-decided, no-entity, number-within}
use Rattle.schema_faults.proofs.names.is_entity.Goals as goal

pub declaration-requires : goal.declaration-requires
declaration-requires c =
    let s = the_schema c.args.names.now in
    let lt = number-within s (capitals c.args.word) c.in-Some.number (sym c.find.ensures ∙ c.in-Some.is) in
    let seen = length-map c.args.names.now.schema.now.declarations.items declaration_seen in
    omega (arith, lt, seen)

pub returns-in-Some : goal.returns-in-Some
returns-in-Some c =
    let xs = c.args.names.now.schema.now.declarations.items in
    entity-decided (the_schema c.args.names.now) (capitals c.args.word) c.in-Some.number
    (sym c.find.ensures ∙ c.in-Some.is) (declaration_seen c.declaration.result.now)
    (λ e at. seen-at declaration_seen xs c.in-Some.number c.declaration.result.now e c.declaration.ensures at)
    c.declares_entity.result c.declares_entity.ensures

pub returns-in-None : goal.returns-in-None
returns-in-None c =
    no-entity (the_schema c.args.names.now) (capitals c.args.word) (sym c.find.ensures ∙ c.in-None.is)
