-- The other names of the schema that a value of the program represents.
use Rattle.std.specs.Prelude.{List, map, string_bytes}
use Rattle.express_syntax.specs.declared.tree.SchemaTree.{SchemaTree}
use Rattle.schema_semantics.specs.Names.{Name}

-- The names by which a file may call the schema beside its own, in any case.
abbrev pub other_names : SchemaTree → List Name
other_names x = map string_bytes x.other_names.items
