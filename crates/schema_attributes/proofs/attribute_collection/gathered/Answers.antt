use Rattle.std.proofs.Common.{map, subst}
use Rattle.express_syntax.specs.Views.{declaration_of}
use Rattle.schema_names.specs.Schemas.{the_schema}
use Rattle.schema_attributes.specs.steps.Gathering.{AddsAll, rows_in, SaysAt, AreNth}
use Rattle.schema_attributes.proofs.Meaning.{found-are}
use Rattle.schema_attributes.proofs.attribute_collection.gathered.Goals as goal

pub returns : goal.returns
returns c =
    let s = the_schema c.args.sources.now.names.now in
    let rows = rows_in c.args.sources.now in
    found-are s c.requires.sources.resolved rows c.requires.sources.rows c.in_ok-table.table
    c.add_declarations.new.table c.in_ok-table.ensures
    (subst (λ xs. AddsAll c.in_ok-table.table (AreNth (SaysAt s rows (map declaration_of xs)) (map declaration_of xs))
    c.add_declarations.new.table) c.declarations-declarations.ensures c.in_ok-add_declarations.ensures)
