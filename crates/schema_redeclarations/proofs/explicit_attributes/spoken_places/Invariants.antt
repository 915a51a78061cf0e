use Rattle.std.proofs.Common.{◌≡◌, ◌+◌, map, take, length}
use Rattle.express_syntax.specs.Schemas.{DataType}
use Rattle.express_syntax.specs.Views.{attribute_of}
use Rattle.schema_semantics.specs.Names.{Name, own_names}
use Rattle.schema_names.specs.Schemas.{the_schema}
use Rattle.schema_redeclarations.specs.steps.Speaking.{ArePlacesOf, SpeakTogether, IsTypeAt, AreOwnAt}
use Rattle.schema_redeclarations.proofs.explicit_attributes.spoken_places.Given as goal

abbrev pub invariant-loop-attribute : goal.invariant-loop-attribute
invariant-loop-attribute l =
    (l.next ≡ l.first + length (own_names (take l.attribute-index (map attribute_of l.attributes))))
    × ((n : Name) (k : DataType) → IsTypeAt (the_schema l.sources.names.now) k l.data_type
    → AreOwnAt (the_schema l.sources.names.now) n l.own l.first (own_names (map attribute_of l.attributes))
    → ArePlacesOf (the_schema l.sources.names.now)
    (SpeakTogether (the_schema l.sources.names.now) n k (take l.attribute-index (map attribute_of l.attributes)))
    l.places.items)
