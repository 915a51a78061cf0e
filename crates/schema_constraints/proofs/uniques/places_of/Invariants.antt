use Rattle.std.proofs.Common.{[], map, take}
use Rattle.express_syntax.specs.Views.{attribute_of}
use Rattle.schema_semantics.specs.Names.{Name, OneOf, IsEntity}
use Rattle.schema_names.specs.Numbers.{HasNumber}
use Rattle.conformance.specs.Rules.{NamesPlace}
use Rattle.schema_attribute_references.specs.steps.Taking.{schema_in}
use Rattle.schema_constraints.specs.steps.Making.{AddsPlaces}
use Rattle.schema_constraints.proofs.uniques.places_of.Given as goal

abbrev pub invariant-loop-attribute : goal.invariant-loop-attribute
invariant-loop-attribute l =
    (e : Name) → HasNumber (schema_in l.sources.known) e l.entity → IsEntity (schema_in l.sources.known) e
    → AddsPlaces (schema_in l.sources.known)
    (λ p. OneOf (λ x. NamesPlace (schema_in l.sources.known) e x p)
    (map attribute_of (take l.attribute-index l.attributes))) [] l.places.items
