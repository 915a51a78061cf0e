use Rattle.std.proofs.Common.{map, take}
use Rattle.express_syntax.specs.Views.{derived_of}
use Rattle.schema_names.specs.Schemas.{the_schema}
use Rattle.schema_redeclarations.specs.steps.Speaking.{ArePlacesOf, DerivesOne}
use Rattle.schema_redeclarations.proofs.derived_attributes.derived_places.Given as goal

abbrev pub invariant-loop-derived : goal.invariant-loop-derived
invariant-loop-derived l =
    ArePlacesOf (the_schema l.sources.names.now)
    (DerivesOne (the_schema l.sources.names.now) (take l.derived-index (map derived_of l.deriveds))) l.places.items
