use Rattle.std.proofs.Common.{take}
use Rattle.express_syntax.specs.ExpressionViews.{capitals}
use Rattle.schema_attribute_references.specs.steps.Taking.{schema_in}
use Rattle.schema_constraints.specs.steps.Making.{IsDeclaredBy, AddsPlaces}
use Rattle.schema_constraints.proofs.uniques.add_declared.Given as goal

abbrev pub invariant-loop-entity : goal.invariant-loop-entity
invariant-loop-entity l =
    AddsPlaces (schema_in l.sources.known)
    (IsDeclaredBy (schema_in l.sources.known) (capitals l.name) (take l.entity-index l.entities)) l.initial.places.items
    l.places.items
