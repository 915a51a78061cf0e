-- The schema of a table of names.
use Rattle.express_syntax.specs.Schemas.{Schema}
use Rattle.express_syntax.specs.SchemaViews.{schema_of}
use Rattle.schema_names.specs.declared.names.Names.{Names}

-- The schema to which the names belong.
abbrev pub the_schema : Names → Schema
the_schema names = schema_of names.schema.now
