use Rattle.std.proofs.Common.{map, take}
use Rattle.express_syntax.specs.Views.{attribute_of}
use Rattle.schema_semantics.specs.Names.{Name, IsEntity}
use Rattle.schema_names.specs.Numbers.{HasNumber}
use Rattle.schema_attribute_references.specs.steps.Taking.{schema_in}
use Rattle.schema_attribute_references.specs.steps.Naming.{IsNaming}
use Rattle.schema_attribute_references.proofs.unique_rule_names.naming_of_all.Given as goal

abbrev pub invariant-loop-attribute : goal.invariant-loop-attribute
invariant-loop-attribute l =
    (e : Name) → HasNumber (schema_in l.known) e l.entity → IsEntity (schema_in l.known) e
    → IsNaming (schema_in l.known) e (map attribute_of (take l.attribute-index l.attributes)) l.found
