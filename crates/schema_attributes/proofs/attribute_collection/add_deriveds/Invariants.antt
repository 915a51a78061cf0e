use Rattle.std.proofs.Common.{map}
use Rattle.express_syntax.specs.Views.{derived_of}
use Rattle.schema_names.specs.Schemas.{the_schema}
use Rattle.schema_attributes.specs.steps.Gathering.{AddsAll, SaysDerived}
use Rattle.schema_attributes.proofs.Gathered.{UpTo}
use Rattle.schema_attributes.proofs.attribute_collection.add_deriveds.Given as goal

abbrev pub invariant-loop-n : goal.invariant-loop-n
invariant-loop-n l =
    AddsAll l.initial.table (UpTo (SaysDerived (the_schema l.sources.names.now) l.owner.entity l.owner.row.now l.first l.owner.count) (map derived_of l.deriveds) l.n) l.table
