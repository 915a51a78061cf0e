use Rattle.std.proofs.Common.{flat_map, take}
use Rattle.express_syntax.specs.Profile.{Every}
use Rattle.express_syntax.specs.Views.{attribute_of, names_of}
use Rattle.schema_semantics.specs.Faults.{IsMet, demands_of_attribute}
use Rattle.schema_names.specs.Schemas.{the_schema}
use Rattle.schema_faults.proofs.entities.check_attributes.Given as goal

abbrev pub invariant-loop-attribute : goal.invariant-loop-attribute
invariant-loop-attribute l =
    Every (IsMet (the_schema l.names)) (flat_map (λ x. demands_of_attribute (names_of l.supertypes) (attribute_of x))
    (take l.attribute-index l.attributes))
