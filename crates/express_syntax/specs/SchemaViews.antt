-- The schema that a value of the program represents.
use Rattle.express_syntax.specs.declared.tree.SchemaTree.{SchemaTree}
use Rattle.express_syntax.specs.Schemas.{Schema}
use Rattle.express_syntax.specs.Views.{schema_from}

abbrev pub schema_of : SchemaTree → Schema
schema_of x = schema_from x.name x.version x.declarations.items
