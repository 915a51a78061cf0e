-- A text reads as one schema or one structure, or has one fault.
use Rattle.std.specs.Prelude.{◌≡◌, ◌≤◌, ◌<◌, ◌^◌, ℕ, List, length}
use Rattle.std.specs.String.{string_bytes}
use Rattle.std.proofs.Common.{sym, subst, ◌∙◌, arith, inl, inr}
use Rattle.step_structures.specs.Trees.{File}
use Rattle.step_structures.specs.declared.fault.FaultKind.{FaultKind}
use Rattle.step_structures.proofs.Once as texts
use Rattle.step_structures.proofs.FirstFault as text_faults
use Rattle.express_syntax.specs.Schemas.{Schema}
use Rattle.express_syntax.specs.declared.fault.SchemaFault.{SchemaFault}
use Rattle.express_syntax.specs.declared.fault.SchemaFault.TheVariants as schemas
use Rattle.express_syntax.proofs.UniqueSchemas.{one_schema}
use Rattle.express_syntax.proofs.FirstFault.{reads_no_fault, one_fault}
use Rattle.schema_semantics.specs.Faults.{IsFault}
use Rattle.schema_semantics.proofs.Faults.{faults-are-one}
use Rattle.reports.specs.SameFaults.{SameFault}
use Rattle.checking.specs.Checks.{IsResolvedSchemaText, HasSchemaFault, HasFile, HasFileFault}

too_long : (text : List ℕ) → length text ≤ 2 ^ 40 → 2 ^ 40 < length text → ⊥
too_long text less more = omega (arith, less, more)

module _ (text : List ℕ) where
  -- a schema that is resolved has no fault
  pub no_schema_fault : (s : Schema) → IsResolvedSchemaText s text → (f : SchemaFault) → HasSchemaFault f text → ⊥
  no_schema_fault s has (schemas.Text kind place) (inl h) = too_long text has.within h.0
  no_schema_fault s has (schemas.Text kind place) (inr h) = reads_no_fault text s kind place has.reads h.1
  no_schema_fault s has (schemas.Name kind name) h =
      let one = one_schema text h.1.0 s h.1.1 has.reads in
      (faults-are-one s).1 kind (string_bytes name) (subst (λ t. IsFault t kind (string_bytes name)) one h.1.2)
      has.resolved
  no_schema_fault s has schemas.Memory h = h

  pub schemas_once : (s t : Schema) → IsResolvedSchemaText s text → IsResolvedSchemaText t text → s ≡ t
  schemas_once s t h k = one_schema text s t h.reads k.reads

  pub schema_faults_once : (f g : SchemaFault) → HasSchemaFault f text → HasSchemaFault g text → SameFault f g
  schema_faults_once (schemas.Text kind place) (schemas.Text other elsewhere) (inl h) (inl k) =
      let kinds = h.1 ∙ sym k.1 in
      let places = h.2 ∙ sym k.2 in
      λ i. schemas.Text (kinds i) (places i)
  schema_faults_once (schemas.Text kind place) (schemas.Text other elsewhere) (inl h) (inr k) =
      absurd (too_long text k.0 h.0)
  schema_faults_once (schemas.Text kind place) (schemas.Text other elsewhere) (inr h) (inl k) =
      absurd (too_long text h.0 k.0)
  schema_faults_once (schemas.Text kind place) (schemas.Text other elsewhere) (inr h) (inr k) =
      let one = one_fault text kind other place elsewhere h.1 k.1 in λ i. schemas.Text (one.0 i) (one.1 i)
  schema_faults_once (schemas.Text kind place) (schemas.Name other name) (inl h) k = absurd (too_long text k.0 h.0)
  schema_faults_once (schemas.Text kind place) (schemas.Name other name) (inr h) k =
      absurd (reads_no_fault text k.1.0 kind place k.1.1 h.1)
  schema_faults_once (schemas.Text kind place) schemas.Memory h k = absurd k
  schema_faults_once (schemas.Name other name) (schemas.Text kind place) h (inl k) = absurd (too_long text h.0 k.0)
  schema_faults_once (schemas.Name other name) (schemas.Text kind place) h (inr k) =
      absurd (reads_no_fault text h.1.0 kind place h.1.1 k.1)
  schema_faults_once (schemas.Name kind name) (schemas.Name other again) h k =
      let one = one_schema text k.1.0 h.1.0 k.1.1 h.1.1 in
      (faults-are-one h.1.0).0 kind other (string_bytes name) (string_bytes again) h.1.2
      (subst (λ t. IsFault t other (string_bytes again)) one k.1.2)
  schema_faults_once (schemas.Name kind name) schemas.Memory h k = absurd k
  schema_faults_once schemas.Memory g h k = absurd h

  -- a structure that is read has no fault
  pub no_file_fault : (f : File) → HasFile f text → (kind : FaultKind) (place : ℕ) → HasFileFault kind place text → ⊥
  no_file_fault f has kind place (inl h) = too_long text has.within h.0
  no_file_fault f has kind place (inr h) = texts.reads_no_fault text has.header_bytes f kind place has.reads h.1

  pub files_once : (f g : File) → HasFile f text → HasFile g text → f ≡ g
  files_once f g h k = (texts.reads_once text h.header_bytes k.header_bytes f g h.reads k.reads).1

  pub file_faults_once : (kind other : FaultKind) (place elsewhere : ℕ) → HasFileFault kind place text
      → HasFileFault other elsewhere text → (kind ≡ other) × (place ≡ elsewhere)
  file_faults_once kind other place elsewhere (inl h) (inl k) = (h.1 ∙ sym k.1, h.2 ∙ sym k.2)
  file_faults_once kind other place elsewhere (inl h) (inr k) = absurd (too_long text k.0 h.0)
  file_faults_once kind other place elsewhere (inr h) (inl k) = absurd (too_long text h.0 k.0)
  file_faults_once kind other place elsewhere (inr h) (inr k) =
      text_faults.one_fault text kind other place elsewhere h.1 k.1
