-- What is answered to bytes is answered to a source that gave them to its end.
use Rattle.std.specs.Prelude.{◌≡◌, ◌≤◌, ◌<◌, ◌^◌, ℕ, List, length, Option, IfSome, None, Some, Result, Ok, Err, false}
use Rattle.std.proofs.Common.{refl, inl, inr, sym, ap, ◌∙◌, subst}
use Rattle.std.proofs.lemmas.List.{length-map}
use Rattle.std.proofs.KnownBytes.{Consumes-whole}
use Rattle.std.specs.Io.KnownBytes.{Consumes, IsAtEnd}
use Rattle.express_syntax.specs.Schemas.{Schema}
use Rattle.express_syntax.specs.Texts as schema_texts
use Rattle.express_syntax.specs.Texts.{ReadsAs}
use Rattle.express_syntax.specs.declared.fault.FaultKind.TheVariants.{LeftOut}
use Rattle.express_syntax.specs.declared.fault.LeftOut.TheVariants as left_out
use Rattle.express_syntax.specs.declared.fault.SchemaFault.{SchemaFault}
use Rattle.express_syntax.specs.declared.fault.SchemaFault.TheVariants as schemas
use Rattle.schema_types.specs.Resolution.{IsNameFault}
use Rattle.step_structures.specs.declared.fault.TextFault.{TextFault}
use Rattle.step_structures.specs.declared.fault.TextFault.TheVariants as texts
use Rattle.step_structures.specs.Texts.{IsFaultOf}
use Rattle.step_structures.specs.Trees.{ExchangeRow, rows_of}
use Rattle.step_exchange.specs.Exchanges.{structure}
use Rattle.step_exchange.specs.declared.structure.Exchange.{Exchange}
use Rattle.step_exchange.proofs.Named.{names-are}
use Rattle.files.specs.Faults.{text_fault}
use Rattle.files.specs.steps.Reads.{IsBeyond}
use Rattle.files.specs.declared.read.ReadFault.{ReadFault}
use Rattle.files.specs.declared.read.ReadFault.TheVariants as reads
use Rattle.files.specs.declared.fault.Role.{Role}
use Rattle.files.specs.declared.fault.Role.TheVariants as roles
use Rattle.files.specs.declared.fault.FileFault.{FileFault}
use Rattle.schema_semantics.specs.Names.{Name}
use Rattle.reports.specs.declared.report.Report.{Report}
use Rattle.reports.specs.declared.fault.Fault.{Fault}
use Rattle.reports.specs.declared.fault.Fault.TheVariants as faults
use Rattle.reports.specs.Faults.{of_file, of_schema, unread}
use Rattle.reports.specs.Devices.{is_device}
use Rattle.checking.specs.Checks.{IsResolvedSchemaText, HasSchemaFault, HasFile, HasFileFault, FileAnswers, SourceAnswers, Checks}

-- as many instances as names
pub as-many : (x : Exchange) (n : ℕ) → n ≡ length x.names → n ≡ length (rows_of (structure x).sections)
as-many x n e =
    e ∙ ap length (sym (names-are x)) ∙ length-map (rows_of (structure x).sections) (λ (r : ExchangeRow). r.name)

-- what holds of bytes holds of a source that gave them
abbrev Gives : Option (List ℕ) → List ℕ → Type 1
Gives coming bytes = (P : List ℕ → Type 0) → P bytes → IfSome coming P

pub gives : (coming left : Option (List ℕ)) (bytes : List ℕ) → Consumes coming left bytes × IsAtEnd left → Gives coming bytes
gives coming left bytes h P p = Consumes-whole coming left bytes P h.0 h.1 p

module _ (others : List Name) where
  -- the text of the file isn't read
  pub unread-text : (s : Schema) (bytes : List ℕ) (e : TextFault) (f : FileFault) (r : Fault) → f ≡ text_fault roles.File e
      → r ≡ of_file f → length bytes ≤ 2 ^ 40 → IsFaultOf bytes e → FileAnswers s others bytes (Err r)
  unread-text s bytes e f r is so within h =
      subst (λ (x : Fault). FileAnswers s others bytes (Err x)) (sym (so ∙ (λ i. of_file (is i)))) (by e h)
    where
      by : (e : TextFault) → IsFaultOf bytes e → FileAnswers s others bytes (Err (of_file (text_fault roles.File e)))
      by (texts.Fault kind place) h = inr (within, h)
      by texts.Memory h = tt

  pub of-source : (s : Schema) (coming : Option (List ℕ)) (bytes : List ℕ) → Gives coming bytes → (r : Result Report Fault)
      → FileAnswers s others bytes r → SourceAnswers s others coming r
  of-source s coming bytes give (Ok r) h = (h.0, give (HasFile h.0) h.1, h.2)
  of-source s coming bytes give (Err (faults.Text roles.File kind place)) h = give (HasFileFault kind place) h
  of-source s coming bytes give (Err (faults.Text roles.Schema kind place)) h = absurd h
  of-source s coming bytes give (Err (faults.Text roles.Output kind place)) h = absurd h
  of-source s coming bytes give (Err (faults.Text roles.Certificate kind place)) h = absurd h
  of-source s coming bytes give (Err (faults.Schema fault)) h = absurd h
  of-source s coming bytes give (Err (faults.Unchecked parts)) h = absurd h
  of-source s coming bytes give (Err (faults.Findings report)) h = absurd h
  of-source s coming bytes give (Err (faults.Refused role findings rules)) h = absurd h
  of-source s coming bytes give (Err (faults.Certificate refusal)) h = absurd h
  of-source s coming bytes give (Err (faults.Device role written)) h = absurd h
  of-source s coming bytes give (Err faults.Memory) h = tt

  -- bytes are no device
  pub no-device : (s : Schema) (bytes : List ℕ) (role : Role) (r : Result Report Fault) → FileAnswers s others bytes r
      → is_device role r ≡ false
  no-device s bytes role (Err (faults.Device other written)) h = absurd h
  no-device s bytes role _ h = refl

  -- what is answered to a file is answered to a schema that is read
  pub of-file : (bytes : List ℕ) (s : Schema) → IsResolvedSchemaText s bytes → (file : Option (List ℕ)) (r : Result Report Fault)
      → SourceAnswers s others file r → Checks others (Some bytes) file r
  of-file bytes s has file (Ok r) (f, of, is) = (s, f, has, of, is)
  of-file bytes s has file (Err (faults.Text roles.File kind place)) h = ((s, has), h)
  of-file bytes s has file (Err (faults.Text roles.Schema kind place)) h = absurd h
  of-file bytes s has file (Err (faults.Text roles.Output kind place)) h = absurd h
  of-file bytes s has file (Err (faults.Text roles.Certificate kind place)) h = absurd h
  of-file bytes s has file (Err (faults.Schema fault)) h = absurd h
  of-file bytes s has file (Err (faults.Unchecked parts)) h = absurd h
  of-file bytes s has file (Err (faults.Findings report)) h = absurd h
  of-file bytes s has file (Err (faults.Refused role findings rules)) h = absurd h
  of-file bytes s has file (Err (faults.Certificate refusal)) h = absurd h
  of-file bytes s has file (Err (faults.Device roles.File written)) h = ((s, has), h)
  of-file bytes s has file (Err (faults.Device roles.Schema written)) h = absurd h
  of-file bytes s has file (Err (faults.Device roles.Output written)) h = absurd h
  of-file bytes s has file (Err (faults.Device roles.Certificate written)) h = absurd h
  of-file bytes s has file (Err faults.Memory) h = tt

  -- the schema's bytes are those of a source that gave them
  pub of-schema-source : (coming file : Option (List ℕ)) (bytes : List ℕ) → Gives coming bytes
      → (r : Result Report Fault) → Checks others (Some bytes) file r → Checks others coming file r
  of-schema-source coming file bytes give (Ok r) (s, f, has, of, h) = (s, f, give (IsResolvedSchemaText s) has, of, h)
  of-schema-source coming file bytes give (Err (faults.Schema fault)) h = give (HasSchemaFault fault) h
  of-schema-source coming file bytes give (Err (faults.Text roles.File kind place)) ((s, has), h) =
      ((s, give (IsResolvedSchemaText s) has), h)
  of-schema-source coming file bytes give (Err (faults.Text roles.Schema kind place)) h = absurd h
  of-schema-source coming file bytes give (Err (faults.Text roles.Output kind place)) h = absurd h
  of-schema-source coming file bytes give (Err (faults.Text roles.Certificate kind place)) h = absurd h
  of-schema-source coming file bytes give (Err (faults.Unchecked parts)) h = absurd h
  of-schema-source coming file bytes give (Err (faults.Findings report)) h = absurd h
  of-schema-source coming file bytes give (Err (faults.Refused role findings rules)) h = absurd h
  of-schema-source coming file bytes give (Err (faults.Certificate refusal)) h = absurd h
  of-schema-source coming file bytes give (Err (faults.Device roles.Schema written)) h = h
  of-schema-source coming file bytes give (Err (faults.Device roles.File written)) ((s, has), h) =
      ((s, give (IsResolvedSchemaText s) has), h)
  of-schema-source coming file bytes give (Err (faults.Device roles.Output written)) h = absurd h
  of-schema-source coming file bytes give (Err (faults.Device roles.Certificate written)) h = absurd h
  of-schema-source coming file bytes give (Err faults.Memory) h = tt

  -- a fault of the schema's text
  pub of-text : (file : Option (List ℕ)) (bytes : List ℕ) (fault : SchemaFault) (r : Fault) → r ≡ of_schema fault
      → length bytes ≤ 2 ^ 40 → schema_texts.IsFaultOf bytes fault → Checks others (Some bytes) file (Err r)
  of-text file bytes fault r is within h =
      subst (λ (x : Fault). Checks others (Some bytes) file (Err x)) (sym is) (by fault h)
    where
      by : (fault : SchemaFault) → schema_texts.IsFaultOf bytes fault → Checks others (Some bytes) file (Err (of_schema fault))
      by (schemas.Text kind place) h = inr (within, h)
      by (schemas.Name kind name) h = absurd h
      by schemas.Memory h = tt

  -- a fault of the schema's names
  pub of-names : (file : Option (List ℕ)) (bytes : List ℕ) (s : Schema) (fault : SchemaFault) (r : Fault)
      → r ≡ of_schema fault → length bytes ≤ 2 ^ 40 → ReadsAs bytes s → IsNameFault s fault
      → Checks others (Some bytes) file (Err r)
  of-names file bytes s fault r is within reads h =
      subst (λ (x : Fault). Checks others (Some bytes) file (Err x)) (sym is) (by fault h)
    where
      by : (fault : SchemaFault) → IsNameFault s fault → Checks others (Some bytes) file (Err (of_schema fault))
      by (schemas.Text kind place) h = absurd h
      by (schemas.Name kind name) h = (within, (s, reads, h))
      by schemas.Memory h = tt

  -- the schema has too many bytes, if that is told
  beyond : (schema : Option (List ℕ)) → IsBeyond (2 ^ 40) schema
      → IfSome schema (HasSchemaFault (schemas.Text (LeftOut left_out.TooLarge) (2 ^ 40)))
  beyond None h = tt
  beyond (Some bytes) h = inl (h, refl, refl)

  -- the schema isn't read to its end
  pub unread-schema : (schema file : Option (List ℕ)) (e : ReadFault) (f : Fault) → f ≡ unread roles.Schema e
      → (e ≡ reads.TooLarge → IsBeyond (2 ^ 40) schema) → Checks others schema file (Err f)
  unread-schema schema file e f is h =
      subst (λ (x : Fault). Checks others schema file (Err x)) (sym is) (by e h)
    where
      by : (e : ReadFault) → (e ≡ reads.TooLarge → IsBeyond (2 ^ 40) schema)
          → Checks others schema file (Err (unread roles.Schema e))
      by reads.Device h = refl
      by reads.TooLarge h = beyond schema (h refl)
      by reads.Memory h = tt

  -- the file isn't read to its end
  pub unread-file : (s : Schema) (file : Option (List ℕ)) (e : ReadFault) (f : Fault) → f ≡ unread roles.File e
      → (e ≡ reads.TooLarge → IsBeyond (2 ^ 40) file) → SourceAnswers s others file (Err f)
  unread-file s file e f is h =
      subst (λ (x : Fault). SourceAnswers s others file (Err x)) (sym is) (by file e h)
    where
      by : (file : Option (List ℕ)) (e : ReadFault) → (e ≡ reads.TooLarge → IsBeyond (2 ^ 40) file)
          → SourceAnswers s others file (Err (unread roles.File e))
      by file reads.Device h = refl
      by None reads.TooLarge h = tt
      by (Some bytes) reads.TooLarge h = inl (h refl, refl, refl)
      by file reads.Memory h = tt
