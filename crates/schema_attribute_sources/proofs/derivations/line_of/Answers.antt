use Rattle.std.proofs.Common.{sym, ◌∙◌}
use Rattle.graphs.specs.Graphs.{graph_of}
use Rattle.express_syntax.specs.ExpressionViews.{capitals}
use Rattle.express_syntax.specs.SchemaViews.{schema_of}
use Rattle.express_syntax.specs.Views.{declaration_of}
use Rattle.schema_names.proofs.Items.{mapped-at}
use Rattle.schema_attribute_sources.proofs.Reading.{tree-within, no-line, line-is}
use Rattle.schema_attribute_sources.proofs.derivations.line_of.Goals as goal

pub declaration-requires : goal.declaration-requires
declaration-requires c =
    tree-within c.args.names.now.schema.now (capitals c.args.entity) c.in-Some.number (sym c.in-Some.ensures)

pub returns-then-not-is_entity : goal.returns-then-not-is_entity
returns-then-not-is_entity c =
    let t = c.args.names.now.schema.now in
    let d = c.declaration.result.now in
    no-line (schema_of t) (graph_of c.args.lines.now) (capitals c.args.entity) c.in-Some.number (sym c.in-Some.ensures)
    (declaration_of d) (mapped-at declaration_of t.declarations.items c.in-Some.number d c.declaration.ensures)
    (sym c.is_entity.ensures ∙ c.if-not-is_entity.true)

pub returns : goal.returns
returns c =
    let t = c.args.names.now.schema.now in
    let d = c.declaration.result.now in
    line-is (schema_of t) (graph_of c.args.lines.now) (capitals c.args.entity) c.in-Some.number (sym c.in-Some.ensures)
    (declaration_of d) (mapped-at declaration_of t.declarations.items c.in-Some.number d c.declaration.ensures)
    c.row_of.result.now (sym c.is_entity.ensures ∙ c.if-not-is_entity.false) c.row_of.ensures
