use Rattle.std.proofs.Common.{map, take}
use Rattle.std.specs.Prelude.{flat_map}
use Rattle.express_syntax.specs.Views.{declaration_of}
use Rattle.schema_attribute_references.specs.steps.Taking.{schema_in}
use Rattle.schema_constraints.specs.steps.Making.{Adds, of_entity, inverses_by, IsInverse}
use Rattle.schema_constraints.proofs.inverses.add_all.Given as goal

abbrev pub invariant-loop-i : goal.invariant-loop-i
invariant-loop-i l =
    Adds (IsInverse (schema_in l.sources.known))
    (flat_map (of_entity inverses_by) (map declaration_of (take l.i l.declarations)))
    l.initial.attributes.items l.attributes.items
