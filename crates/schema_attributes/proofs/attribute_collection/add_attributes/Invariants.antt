use Rattle.std.proofs.Common.{ℕ, map}
use Rattle.express_syntax.specs.Views.{attribute_of}
use Rattle.schema_attributes.specs.declared.attribute_collection.Class.TheVariants as classes
use Rattle.schema_names.specs.Schemas.{the_schema}
use Rattle.schema_attributes.specs.steps.Gathering.{AddsAll, Says}
use Rattle.schema_attributes.proofs.Gathered.{UpTo}
use Rattle.schema_attributes.proofs.attribute_collection.add_attributes.Given as goal

abbrev pub invariant-loop-n : goal.invariant-loop-n
invariant-loop-n l =
    AddsAll l.initial.table (UpTo (λ (m : ℕ). Says (the_schema l.sources.names.now) classes.Explicit l.declaration) (map attribute_of l.attributes) l.n) l.table
