use Rattle.std.proofs.Common.{[], map, take}
use Rattle.express_syntax.specs.ExpressionViews.{capitals}
use Rattle.express_syntax.specs.Views.{explicit_of}
use Rattle.schema_explicit_attributes.specs.Places.{places_of, Adds}
use Rattle.schema_explicit_attributes.proofs.Adding.{explicits_of}
use Rattle.schema_explicit_attributes.proofs.attributes.add_entity.Given as goal

abbrev pub invariant-loop-explicit : goal.invariant-loop-explicit
invariant-loop-explicit l =
    Adds (places_of l.initial.places.items) []
    (explicits_of (capitals l.entity.name) (map explicit_of (take l.explicit-index l.explicit-items)))
    (places_of l.places.items) l.row.items
