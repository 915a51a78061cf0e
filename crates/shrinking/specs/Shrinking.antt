-- What `shrink` returns for the texts of a schema and of a file, and what it writes.
use Rattle.std.specs.Prelude.{◌≡◌, ◌≢◌, ◌≤◌, ◌-◌, ◌^◌, ◌++◌, ◌⊎◌, ℕ, min, Bool, true, List, [], length, Option, None, Some, IfSome, Result, Ok, Err}
use Rattle.std.specs.Io.KnownBytes.{Appends}
use Rattle.step_structures.specs.Trees.{File, rows_of}
use Rattle.express_syntax.specs.Schemas.{Schema}
use Rattle.express_syntax.specs.declared.fault.SchemaFault.{SchemaFault}
use Rattle.express_syntax.specs.declared.fault.SchemaFault.TheVariants as schemas
use Rattle.schema_semantics.specs.Parts.{AreUnchecked}
use Rattle.schema_unchecked_declarations.specs.UncheckedLists.{unchecked_in}
use Rattle.conformance.specs.Choices.{Choice, merge_options, unknown_choice, MergeOptions}
use Rattle.conformance.specs.SchemaMeanings.{Said}
use Rattle.merge_choices.specs.ChosenEntities.{IsChoiceFault}
use Rattle.value_equality.specs.Tables.{Table}
use Rattle.value_equality.specs.Standard.{IsStandard}
use Rattle.certificate_text.specs.Texts.{IsCertificate}
use Rattle.merge_theorems.specs.Headline.{IsMergeOf, IsLeast}
use Rattle.files.specs.declared.fault.Role.TheVariants as roles
use Rattle.reports.specs.declared.report.Report.{Report}
use Rattle.reports.specs.declared.fault.Fault.{Fault}
use Rattle.reports.specs.declared.fault.Fault.TheVariants as faults
use Rattle.checking.specs.Reporting.{IsReport}
use Rattle.checking.specs.Checks.{IsResolvedSchemaText, HasSchemaFault, HasFile, HasFileFault}
use Rattle.shrinking.specs.declared.summary.Summary.{Summary}

-- What a sink held before a call, and what it holds after it, if it reveals that.
pub record Written : Type 0 where
  pub before : Option (List ℕ)
  pub after : Option (List ℕ)

abbrev pub written_to : {S : Type 0} → (S → Option (List ℕ)) → S → S → Written
written_to held old new = record { before = held old; after = held new }

-- a sink that was empty holds these bytes
abbrev pub written_anew : List ℕ → Written
written_anew bytes = record { before = Some []; after = Some bytes }

-- the report has no findings
abbrev pub IsClean : Report → Type 0
IsClean r = (r.findings.items ≡ []) × (r.rule_findings.items ≡ [])

-- What is merged. The input conforms, and the output is its text with exactly its value-equal instances merged;
-- pinned instances are distinguished by identity. The output reads as the quotient of the input and conforms too,
-- and no image of the input has fewer instances. This holds under every meaning of the schema, and the schema has
-- one.
pub record IsMergedFile (s : Schema) (chosen : MergeOptions) (bytes output : List ℕ) : Type 0 where
  pub some_said : Said s
  pub merge : (said : Said s) → IsMergeOf s said chosen bytes output
  pub least : (said : Said s) → IsLeast s said chosen bytes output (merge said)

-- What is certified. The certificate is that of the two tables that partition refinement makes of the instances: by
-- the weak pins, and by the pins.
pub record IsCertified (s : Schema) (chosen : MergeOptions) (bytes output : List ℕ) (merged : IsMergedFile s chosen bytes output)
    (first second : Table) (certificate : List ℕ) : Type 0 where
  pub first_is : (said : Said s)
      → IsStandard (merged.merge said).input.rows (merged.merge said).input.pins.weak first
  pub second_is : (said : Said s)
      → IsStandard (merged.merge said).input.rows (merged.merge said).input.pinned second
  pub certificate_is : IsCertificate certificate first second

-- What is reported: the report on the file, which has no findings, the number of the output's instances, and the
-- rounds of the second table. Neither table has more rounds than the file has instances.
pub record IsReported (s : Schema) (chosen : MergeOptions) (bytes output : List ℕ) (merged : IsMergedFile s chosen bytes output)
    (first second : Table) (m : Summary) : Type 0 where
  pub file : File
  pub has_file : HasFile file bytes
  pub report : IsReport s chosen.other_names file m.report
  pub clean : IsClean m.report
  pub kept : (said : Said s) → m.kept ≡ length (rows_of (merged.least said).file.sections)
  pub rounds : m.rounds ≡ second.rounds
  pub first_few : first.rounds ≤ m.report.instances
  pub second_few : second.rounds ≤ m.report.instances

-- A file of these bytes, merged according to a schema of which these entity data types are chosen, has this output,
-- this certificate and this summary.
pub record IsDone (s : Schema) (chosen : MergeOptions) (bytes output certificate : List ℕ) (m : Summary) : Type 0 where
  pub merged : IsMergedFile s chosen bytes output
  pub first : Table
  pub second : Table
  pub certified : IsCertified s chosen bytes output merged first second certificate
  pub reported : IsReported s chosen bytes output merged first second m

-- `sent` is the prefix of the text that was written; `written` is its length, at most 2^64 - 1.
pub record IsWrittenPrefix (sent text : List ℕ) (written : ℕ) : Type 0 where
  pub left : List ℕ
  pub text_is : text ≡ sent ++ left
  pub count : written ≡ min (length sent) (2 ^ 64 - 1)

-- nothing was written
abbrev pub AreUnwritten : List ℕ → List ℕ → Type 0
AreUnwritten output certificate = (output ≡ []) × (certificate ≡ [])

-- What is returned for a file of these bytes, if these entity data types of the schema are chosen, and what is
-- written as output and as certificate. Nothing is written unless the whole file is checked, and the certificate is
-- written after all of the output.
abbrev pub FileAnswers : Schema → MergeOptions → List ℕ → List ℕ → List ℕ → Result Summary Fault → Type 0
FileAnswers s chosen bytes output certificate (Ok m) = IsDone s chosen bytes output certificate m
FileAnswers s chosen bytes output certificate (Err (faults.Text roles.File kind place)) =
    HasFileFault kind place bytes × AreUnwritten output certificate
FileAnswers s chosen bytes output certificate (Err (faults.Findings r)) =
    ((f : File) × HasFile f bytes × IsReport s chosen.other_names f r × (IsClean r → ⊥)) × AreUnwritten output certificate
FileAnswers s chosen bytes output certificate (Err (faults.Device roles.File written)) =
    (written ≡ 0) × AreUnwritten output certificate
FileAnswers s chosen bytes output certificate (Err (faults.Device roles.Output written)) =
    (whole : List ℕ) × (certified : List ℕ) × (m : Summary) × IsDone s chosen bytes whole certified m
    × IsWrittenPrefix output whole written × (certificate ≡ [])
FileAnswers s chosen bytes output certificate (Err (faults.Device roles.Certificate written)) =
    (whole : List ℕ) × (m : Summary) × IsDone s chosen bytes output whole m × IsWrittenPrefix certificate whole written
FileAnswers s chosen bytes output certificate (Err faults.Memory) = AreUnwritten output certificate
FileAnswers s chosen bytes output certificate (Err f) = ⊥

-- if the choice is strict, all of the schema is checked
abbrev pub Passes : Bool → Schema → Type 0
Passes strict s = strict ≡ true → ∥ AreUnchecked s [] ∥₁

-- The fault is that of the first chosen name that isn't an entity data type of the schema, in capitals.
abbrev pub IsUnknownChoice : Schema → Choice → SchemaFault → Type 0
IsUnknownChoice s c (schemas.Name kind name) = IsChoiceFault s c (schemas.Name kind name)
IsUnknownChoice s c f = ⊥

-- What is returned for a schema of this text and a file of these bytes. A fault of the schema precedes that of a
-- strict choice, which precedes a chosen name that isn't an entity data type. All of these precede everything about
-- the file.
abbrev pub ShrinkAnswers : Choice → Bool → List ℕ → List ℕ → List ℕ → List ℕ → Result Summary Fault → Type 0
ShrinkAnswers c strict text bytes output certificate (Err (faults.Schema f)) =
    (HasSchemaFault f text ⊎ ((s : Schema) × IsResolvedSchemaText s text × Passes strict s × IsUnknownChoice s c f))
    × AreUnwritten output certificate
ShrinkAnswers c strict text bytes output certificate (Err (faults.Unchecked us)) =
    ((s : Schema) × IsResolvedSchemaText s text × (strict ≡ true) × ∥ AreUnchecked s (unchecked_in us.items) ∥₁ × (us.items ≢ []))
    × AreUnwritten output certificate
ShrinkAnswers c strict text bytes output certificate (Err (faults.Device roles.Schema written)) =
    (written ≡ 0) × AreUnwritten output certificate
ShrinkAnswers c strict text bytes output certificate (Err faults.Memory) = AreUnwritten output certificate
ShrinkAnswers c strict text bytes output certificate r =
    (s : Schema) × IsResolvedSchemaText s text × Passes strict s × (unknown_choice s c ≡ None)
    × FileAnswers s (merge_options s c) bytes output certificate r

-- What `shrink` returns. The texts are the bytes to come, if the sources reveal them. What is written follows what
-- the sinks held, if they reveal that.
pub record Shrinks (c : Choice) (strict : Bool) (schema file : Option (List ℕ)) (to_output to_certificate : Written)
    (result : Result Summary Fault) : Type 0 where
  pub text : List ℕ
  pub bytes : List ℕ
  pub output : List ℕ
  pub certificate : List ℕ
  pub text_is : IfSome schema (λ t. t ≡ text)
  pub bytes_are : IfSome file (λ b. b ≡ bytes)
  pub answers : ShrinkAnswers c strict text bytes output certificate result
  pub written : Appends to_output.before to_output.after output
  pub certified : Appends to_certificate.before to_certificate.after certificate
