use Rattle.std.proofs.Common.{map, take}
use Rattle.express_syntax.specs.Schemas.{Entity, entity}
use Rattle.express_syntax.specs.Views.{unique_of}
use Rattle.schema_names.specs.Numbers.{IsAt}
use Rattle.conformance.specs.Rules.{statements_from}
use Rattle.schema_attribute_references.specs.steps.Taking.{schema_in}
use Rattle.schema_constraints.specs.steps.Making.{Adds, IsUnique}
use Rattle.schema_constraints.proofs.uniques.add_uniques.Given as goal

abbrev pub invariant-loop-i : goal.invariant-loop-i
invariant-loop-i l =
    (e : Entity) → IsAt (schema_in l.sources.known) l.entity (entity e)
    → Adds (IsUnique (schema_in l.sources.known)) (statements_from e.name 1 (map unique_of (take l.i l.uniques)))
    l.initial.rules.items l.rules.items
