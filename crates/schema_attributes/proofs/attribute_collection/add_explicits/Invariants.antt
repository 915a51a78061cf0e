use Rattle.std.proofs.Common.{map}
use Rattle.express_syntax.specs.Views.{explicit_of}
use Rattle.schema_names.specs.Schemas.{the_schema}
use Rattle.schema_attributes.specs.steps.Gathering.{AddsAll, SaysExplicit}
use Rattle.schema_attributes.proofs.Gathered.{UpTo}
use Rattle.schema_attributes.proofs.attribute_collection.add_explicits.Given as goal

abbrev pub invariant-loop-n : goal.invariant-loop-n
invariant-loop-n l =
    AddsAll l.initial.table (UpTo (SaysExplicit (the_schema l.sources.names.now) l.owner.entity l.owner.row.now) (map explicit_of l.explicits) l.n) l.table
