use Rattle.std.proofs.Common.{map, take}
use Rattle.express_syntax.specs.Schemas.{Entity, entity}
use Rattle.express_syntax.specs.Views.{inverse_of}
use Rattle.schema_names.specs.Numbers.{IsAt}
use Rattle.schema_attribute_references.specs.steps.Taking.{schema_in}
use Rattle.schema_constraints.specs.steps.Making.{Adds, inverses_of, IsInverse}
use Rattle.schema_constraints.proofs.inverses.add_inverses.Given as goal

abbrev pub invariant-loop-inverse : goal.invariant-loop-inverse
invariant-loop-inverse l =
    (e : Entity) → IsAt (schema_in l.sources.known) l.entity (entity e)
    → Adds (IsInverse (schema_in l.sources.known))
    (inverses_of e.name (map inverse_of (take l.inverse-index l.inverses)))
    l.initial.attributes.items l.attributes.items
