use Rattle.std.proofs.Common.{map, take}
use Rattle.express_syntax.specs.ExpressionViews.{capitals}
use Rattle.express_syntax.specs.Views.{attribute_of}
use Rattle.schema_explicit_attributes.specs.Places.{places_of, Adds}
use Rattle.schema_explicit_attributes.proofs.Adding.{of_names}
use Rattle.schema_explicit_attributes.proofs.attributes.add_explicit.Given as goal

abbrev pub invariant-loop-attribute : goal.invariant-loop-attribute
invariant-loop-attribute l =
    Adds (places_of l.initial.places.items) l.initial.row.items
    (of_names (capitals l.entity) (map attribute_of (take l.attribute-index l.attribute-items)))
    (places_of l.places.items) l.row.items
