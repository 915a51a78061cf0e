-- What `check` returns.
use Rattle.std.specs.Prelude.{◌≡◌, ◌≤◌, ◌<◌, ◌^◌, ◌⊎◌, ℕ, List, length, Option, IfSome, Result, Ok, Err}
use Rattle.express_syntax.specs.Schemas.{Schema}
use Rattle.express_syntax.specs.Texts as schema_texts
use Rattle.express_syntax.specs.declared.fault.FaultKind.TheVariants as schema_kinds
use Rattle.express_syntax.specs.declared.fault.LeftOut.TheVariants as schema_left_out
use Rattle.express_syntax.specs.declared.fault.SchemaFault.{SchemaFault}
use Rattle.express_syntax.specs.declared.fault.SchemaFault.TheVariants as schemas
use Rattle.step_structures.specs.declared.fault.FaultKind.{FaultKind}
use Rattle.step_structures.specs.declared.fault.FaultKind.TheVariants.{LeftOut}
use Rattle.step_structures.specs.declared.fault.LeftOut.TheVariants.{TooLarge}
use Rattle.step_structures.specs.Texts.{ReadsAs, IsFirstFault}
use Rattle.step_structures.specs.Trees.{File}
use Rattle.schema_semantics.specs.Names.{Name}
use Rattle.schema_semantics.specs.Faults.{IsResolved}
use Rattle.schema_types.specs.Resolution.{IsNameFault}
use Rattle.files.specs.declared.fault.Role.TheVariants as roles
use Rattle.reports.specs.declared.report.Report.{Report}
use Rattle.reports.specs.declared.fault.Fault.{Fault}
use Rattle.reports.specs.declared.fault.Fault.TheVariants as faults
use Rattle.checking.specs.Reporting.{IsReport}

-- The bytes are at most 2^40 and read as the schema `s`, whose names are resolved.
pub record IsResolvedSchemaText (s : Schema) (bytes : List ℕ) : Type 0 where
  pub within : length bytes ≤ 2 ^ 40
  pub reads : schema_texts.ReadsAs bytes s
  pub resolved : IsResolved s

-- The fault of a schema's bytes: there are more than 2^40, or else their text has this first fault, or else this
-- name is at fault. It is never out of memory.
abbrev pub HasSchemaFault : SchemaFault → List ℕ → Type 0
HasSchemaFault (schemas.Text kind place) bytes =
    (2 ^ 40 < length bytes × (kind ≡ schema_kinds.LeftOut schema_left_out.TooLarge) × (place ≡ 2 ^ 40))
    ⊎ (length bytes ≤ 2 ^ 40 × schema_texts.IsFaultOf bytes (schemas.Text kind place))
HasSchemaFault (schemas.Name kind name) bytes =
    length bytes ≤ 2 ^ 40 × ((s : Schema) × schema_texts.ReadsAs bytes s × IsNameFault s (schemas.Name kind name))
HasSchemaFault schemas.Memory bytes = ⊥

-- The bytes are at most 2^40 and read as the exchange structure `f`.
pub record HasFile (f : File) (bytes : List ℕ) : Type 0 where
  pub within : length bytes ≤ 2 ^ 40
  pub header_bytes : List ℕ
  pub reads : ReadsAs bytes header_bytes f

-- The fault of a file's bytes: there are more than 2^40, or else their text has this first fault.
abbrev pub HasFileFault : FaultKind → ℕ → List ℕ → Type 0
HasFileFault kind place bytes =
    (2 ^ 40 < length bytes × (kind ≡ LeftOut TooLarge) × (place ≡ 2 ^ 40))
    ⊎ (length bytes ≤ 2 ^ 40 × IsFirstFault bytes kind place)

-- what is returned for the bytes of a file, according to a schema that it may call by these other names
abbrev pub FileAnswers : Schema → List Name → List ℕ → Result Report Fault → Type 0
FileAnswers s others bytes (Ok r) = (f : File) × HasFile f bytes × IsReport s others f r
FileAnswers s others bytes (Err (faults.Text roles.File kind place)) = HasFileFault kind place bytes
FileAnswers s others bytes (Err faults.Memory) = Unit {0}
FileAnswers s others bytes (Err f) = ⊥

-- What is returned for a file that a source delivers, according to a schema that it may call by these other names.
-- `file` are the bytes to come, if the source reveals them.
abbrev pub SourceAnswers : Schema → List Name → Option (List ℕ) → Result Report Fault → Type 0
SourceAnswers s others file (Ok r) = (f : File) × IfSome file (HasFile f) × IsReport s others f r
SourceAnswers s others file (Err (faults.Text roles.File kind place)) = IfSome file (HasFileFault kind place)
SourceAnswers s others file (Err (faults.Device roles.File written)) = written ≡ 0
SourceAnswers s others file (Err faults.Memory) = Unit {0}
SourceAnswers s others file (Err f) = ⊥

-- What `check` returns for the bytes to come of the schema and of the file, if these are revealed. The file may call
-- the schema by these other names. A fault of the schema precedes everything about the file. No other fault is
-- returned.
abbrev pub Checks : List Name → Option (List ℕ) → Option (List ℕ) → Result Report Fault → Type 0
Checks others schema file (Ok r) =
    (s : Schema) × (f : File) × IfSome schema (IsResolvedSchemaText s) × IfSome file (HasFile f)
    × IsReport s others f r
Checks others schema file (Err (faults.Schema fault)) = IfSome schema (HasSchemaFault fault)
Checks others schema file (Err (faults.Text roles.File kind place)) =
    ((s : Schema) × IfSome schema (IsResolvedSchemaText s)) × IfSome file (HasFileFault kind place)
Checks others schema file (Err (faults.Device roles.Schema written)) = written ≡ 0
Checks others schema file (Err (faults.Device roles.File written)) =
    ((s : Schema) × IfSome schema (IsResolvedSchemaText s)) × (written ≡ 0)
Checks others schema file (Err faults.Memory) = Unit {0}
Checks others schema file (Err f) = ⊥
