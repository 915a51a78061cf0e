use Rattle.std.proofs.Common.{◌≡◌, map, take, length}
use Rattle.express_syntax.specs.Views.{attribute_of}
use Rattle.schema_semantics.specs.Names.{own_names}
use Rattle.schema_redeclarations.proofs.explicit_attributes.own_count.Given as goal

abbrev pub invariant-loop-attribute : goal.invariant-loop-attribute
invariant-loop-attribute l = l.count ≡ length (own_names (take l.attribute-index (map attribute_of l.attributes)))
