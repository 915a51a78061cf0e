use Rattle.std.proofs.Common.{sym, ◌∙◌, arith}
use Rattle.std.proofs.lemmas.List.{length-map}
use Rattle.express_syntax.specs.SchemaViews.{schema_of}
use Rattle.express_syntax.specs.Views.{declaration_of}
use Rattle.express_syntax.specs.ExpressionViews.{capitals}
use Rattle.schema_names.specs.Schemas.{the_schema}
use Rattle.schema_names.proofs.Edges.{number-within}
use Rattle.population_findings.proofs.Naming.{none-found, found-entity, found-other}
use Rattle.population_findings.proofs.keywords.find_entity.Goals as goal

pub returns-in_default : goal.returns-in_default
returns-in_default c =
    none-found (the_schema c.args.names.now) c.requires (capitals c.args.name) (sym c.find.ensures ∙ c.in_default.is)

pub declaration-requires : goal.declaration-requires
declaration-requires c =
    let t = c.args.names.now.schema.now in
    let within = number-within (schema_of t) (capitals c.args.name) c.in-Some.number
    (sym c.find.ensures ∙ c.in-Some.is) in
    omega (arith, within, length-map t.declarations.items declaration_of)

pub returns-in-Entity : goal.returns-in-Entity
returns-in-Entity c =
    found-entity c.args.names.now.schema.now (capitals c.args.name) c.in-Some.number c.declaration.result.now
    (sym c.find.ensures ∙ c.in-Some.is) c.declaration.ensures c.in-Entity.field-0 c.in-Entity.is

pub returns-in_default-declaration : goal.returns-in_default-declaration
returns-in_default-declaration c =
    found-other c.args.names.now.schema.now (capitals c.args.name) c.in-Some.number c.declaration.result.now
    (sym c.find.ensures ∙ c.in-Some.is) c.declaration.ensures c.requires c.in_default-declaration.not-Entity
