-- What a declaration names, by relation.
use Rattle.std.specs.Prelude.{List}
use Rattle.express_syntax.specs.Schemas.{Declaration}
use Rattle.schema_semantics.specs.Names.{Name}
use Rattle.schema_names.specs.Edges.{supertypes_in, parts_in}
use Rattle.schema_names.specs.declared.declaration_graphs.Relation.{Relation}
use Rattle.schema_names.specs.declared.declaration_graphs.Relation.TheVariants.{Supertypes, Parts}

abbrev pub named_in : Relation → Declaration → List Name
named_in Supertypes d = supertypes_in d
named_in Parts d = parts_in d
