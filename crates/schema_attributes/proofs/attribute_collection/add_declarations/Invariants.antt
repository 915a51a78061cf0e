use Rattle.std.proofs.Common.{◌≡◌, map, take, length, flat_map}
use Rattle.express_syntax.specs.Views.{declaration_of}
use Rattle.schema_names.specs.Schemas.{the_schema}
use Rattle.schema_attributes.specs.Derivations.{derivations_in}
use Rattle.schema_attributes.specs.steps.Gathering.{AddsAll, rows_in, SaysAt}
use Rattle.schema_attributes.proofs.Gathered.{UpTo}
use Rattle.schema_attributes.proofs.attribute_collection.add_declarations.Given as goal

abbrev pub invariant-loop-n : goal.invariant-loop-n
invariant-loop-n l =
    (l.count ≡ length (flat_map derivations_in (take l.n (map declaration_of l.declarations))))
    × AddsAll l.initial.table
    (UpTo (SaysAt (the_schema l.sources.names.now) (rows_in l.sources) (map declaration_of l.declarations))
    (map declaration_of l.declarations) l.n) l.table
