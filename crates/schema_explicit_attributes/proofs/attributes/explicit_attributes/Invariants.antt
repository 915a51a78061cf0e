use Rattle.std.proofs.Common.{◌≡◌, map, take, flat_map}
use Rattle.graphs.specs.Graphs.{graph_of}
use Rattle.express_syntax.specs.Views.{declaration_of}
use Rattle.schema_explicit_attributes.specs.Places.{places_of, places_in, ArePlaceRows}
use Rattle.schema_explicit_attributes.proofs.attributes.explicit_attributes.Given as goal

abbrev pub invariant-loop-declaration : goal.invariant-loop-declaration
invariant-loop-declaration l =
    (places_of l.places.items ≡ flat_map places_in (map declaration_of (take l.declaration-index l.declaration-items)))
    × ArePlaceRows (places_of l.places.items) (map declaration_of (take l.declaration-index l.declaration-items))
    (graph_of l.own.items)
