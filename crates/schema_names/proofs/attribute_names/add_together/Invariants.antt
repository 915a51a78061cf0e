use Rattle.std.proofs.Common.{◌≡◌, ◌++◌, map, take}
use Rattle.express_syntax.specs.Views.{attribute_of, names_of}
use Rattle.schema_semantics.specs.Names.{own_names}
use Rattle.schema_names.proofs.attribute_names.add_together.Given as goal

abbrev pub invariant-loop-attribute : goal.invariant-loop-attribute
invariant-loop-attribute l =
    names_of l.names.items
    ≡ names_of l.fn.names.items ++ own_names (map attribute_of (take l.attribute-index l.attributes))
