-- The result of resolving the names of a schema.
use Rattle.std.specs.Prelude.{◌≡◌, Option, None, Some}
use Rattle.std.specs.String.{string_bytes}
use Rattle.express_syntax.specs.ExpressionViews.{capitals}
use Rattle.express_syntax.specs.Schemas.{Schema}
use Rattle.express_syntax.specs.SchemaViews.{schema_of}
use Rattle.express_syntax.specs.declared.fault.NameFault.{NameFault}
use Rattle.express_syntax.specs.declared.fault.SchemaFault.{SchemaFault}
use Rattle.express_syntax.specs.declared.fault.SchemaFault.TheVariants.{Text, Name as Faulted, Memory}
use Rattle.express_syntax.specs.declared.tree.SchemaTree.{SchemaTree}
use Rattle.schema_semantics.specs.Names.{Name}
use Rattle.schema_semantics.specs.Faults.{IsFault, IsResolved}
use Rattle.schema_types.specs.TypeTables.{IsMade}
use Rattle.schema_types.specs.declared.resolution.Faulty.{Faulty}
use Rattle.schema_types.specs.declared.resolution.Resolution.{Resolution}
use Rattle.schema_types.specs.declared.resolution.Resolution.TheVariants as found

-- The names are resolved, or f is the fault that resolution reports.
abbrev pub IsFound : Schema → Option Faulty → Type 0
IsFound s None = IsResolved s
IsFound s (Some f) = IsFault s f.kind (capitals f.name)

abbrev pub IsResolution : SchemaTree → Resolution → Type 0
IsResolution t (found.Resolved x) = IsResolved (schema_of t) × (x.names.schema.now ≡ t) × IsMade x
IsResolution t (found.Faulty f) = IsFault (schema_of t) f.kind (capitals f.name)

-- The fault has this kind and this name in capitals, or memory ran out.
abbrev pub IsSaid : NameFault → Name → SchemaFault → Type 0
IsSaid kind name (Text k place) = ⊥
IsSaid kind name (Faulted k text) = (k ≡ kind) × (string_bytes text ≡ name)
IsSaid kind name Memory = Unit {0}

-- The fault is the one that resolution reports, with its name in capitals, or memory ran out.
abbrev pub IsNameFault : Schema → SchemaFault → Type 0
IsNameFault s (Text k place) = ⊥
IsNameFault s (Faulted kind text) = IsFault s kind (string_bytes text)
IsNameFault s Memory = Unit {0}
