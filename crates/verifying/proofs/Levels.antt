-- Where an answer stops: at each step it is refused there, or passes it.
use Rattle.std.specs.Prelude.{◌≡◌, ◌≢◌, ◌⊎◌, ◌↔◌, ℕ, Bool, IsTrue, List, [], length, Result, Ok, Err}
use Rattle.step_structures.specs.Trees.{File}
use Rattle.step_structures.specs.Texts.{ReadsAs, IsFirstFault}
use Rattle.step_structures.specs.declared.fault.FaultKind.{FaultKind}
use Rattle.value_equality.specs.Rows.{Row, SamePopulation}
use Rattle.value_equality.specs.Images.{quotient}
use Rattle.value_equality.specs.Tables.{Table, shares, IsValid}
use Rattle.express_syntax.specs.Schemas.{Schema}
use Rattle.express_syntax.specs.declared.fault.SchemaFault.{SchemaFault}
use Rattle.conformance.specs.Choices.{Choice, merge_options, MergeOptions}
use Rattle.conformance.specs.Findings.{findings}
use Rattle.conformance.specs.PlainRows.{AreRowsOf}
use Rattle.conformance.specs.Pins.{IsWeaklyPinned, IsGentlyPinned}
use Rattle.conformance.specs.SchemaMeanings.{Said, instances}
use Rattle.step_headings.specs.Headings.{SameHeadings}
use Rattle.file_findings.specs.Findings.{AreFindings}
use Rattle.certificate_text.specs.Texts.{IsCertificate}
use Rattle.certificate_text.specs.Faults.{IsOld, IsBadLine}
use Rattle.files.specs.declared.fault.Role.TheVariants as roles
use Rattle.reports.specs.declared.refusal.Refusal.{Refusal}
use Rattle.reports.specs.declared.refusal.Refusal.TheVariants.{OldVersion, BadText, NotTheImage}
use Rattle.reports.specs.declared.fault.Fault.{Fault}
use Rattle.reports.specs.declared.fault.Fault.TheVariants as faults
use Rattle.verifying.specs.declared.proof.Proof.{Proof}
use Rattle.verifying.specs.Verifying.{Settles, IsSchemaFault, IsConformingInput, IsOutput, Lacks}

-- The certificate of an output, by some functions that say what the schema says: each refusal, or a proof.
module _ (s : Schema) (said : Said s) (chosen : MergeOptions) (f g : File) (r : Result Proof Fault) where
  abbrev pub IsRefusedBy : Refusal → Type 0
  IsRefusedBy refusal = r ≡ Err (faults.Certificate refusal)

  abbrev pub AreWeakBy : (ℕ → Bool) → Type 0
  AreWeakBy weak = (y : ℕ) → IsTrue (weak y)
      ↔ IsWeaklyPinned s said.domain said.entities said.rules chosen (instances s said f) y

  abbrev pub AreGentleBy : Table → (ℕ → Bool) → Type 0
  AreGentleBy t gentle = (y : ℕ) → IsTrue (gentle y)
      ↔ IsGentlyPinned s said.domain said.entities said.rules chosen (instances s said f) (shares t t.rounds) y

  abbrev pub AreImage : List Row → Table → List Row → Type 0
  AreImage rows second image =
      SamePopulation image (quotient rows (shares second second.rounds)) × SameHeadings f g

  -- the rows of the output
  abbrev pub AtImage : List Row → Table → Type 0
  AtImage rows second =
      (IsRefusedBy NotTheImage × (image : List Row) × AreRowsOf s (instances s said g) image
      × (AreImage rows second image → ⊥))
      ⊎ ((p : Proof) × (r ≡ Ok p) × (image : List Row) × AreRowsOf s (instances s said g) image
      × AreImage rows second image × (p.instances ≡ length rows) × (p.kept ≡ length image)
      × (p.rounds ≡ second.rounds))

  -- the second table
  abbrev pub AtSecond : List Row → Table → (ℕ → Bool) → Type 0
  AtSecond rows second gentle =
      ((refusal : Refusal) × IsRefusedBy refusal × Lacks rows gentle second refusal)
      ⊎ (IsValid rows gentle second × AtImage rows second)

  -- the first table
  abbrev pub AtFirst : List Row → (ℕ → Bool) → Table → Table → Type 0
  AtFirst rows weak first second =
      ((refusal : Refusal) × IsRefusedBy refusal × Lacks rows weak first refusal)
      ⊎ (IsValid rows weak first × (gentle : ℕ → Bool) × AreGentleBy first gentle × AtSecond rows second gentle)

  -- the text of the certificate
  module _ (certificate : List ℕ) where
    abbrev pub AtTables : Type 0
    AtTables = (first : Table) × (second : Table) × IsCertificate certificate first second × (rows : List Row)
        × AreRowsOf s (instances s said f) rows × (weak : ℕ → Bool) × AreWeakBy weak × AtFirst rows weak first second

    abbrev pub AtLines : Type 0
    AtLines = ((line : ℕ) × IsRefusedBy (BadText line) × (IsOld certificate → ⊥) × IsBadLine certificate line) ⊎ AtTables

    abbrev pub AtText : Type 0
    AtText = (IsRefusedBy OldVersion × IsOld certificate) ⊎ AtLines

module _ (schema input output certificate : List ℕ) (choice : Choice) (r : Result Proof Fault) where
  module _ (s : Schema) where
    -- the certificate
    abbrev pub AtCertificate : File → File → Type 0
    AtCertificate f g = (said : Said s) → AtText s said (merge_options s choice) f g r certificate

    -- what is found of the output
    abbrev pub AtOutputFound : File → File → Type 0
    AtOutputFound f g =
        ((fs : _) × (gs : _) × (r ≡ Err (faults.Refused roles.Output fs gs))
        × ((said : Said s) → fs.items ≡ findings s said.domain said.entities choice.other_names g) × (fs.items ≢ []) × (gs.items ≡ []))
        ⊎ (IsOutput s choice.other_names output g × AtCertificate f g)

    -- the text of the output
    abbrev pub AtOutput : File → Type 0
    AtOutput f =
        ((kind : FaultKind) × (place : ℕ) × (r ≡ Err (faults.Text roles.Output kind place))
        × IsFirstFault output kind place)
        ⊎ ((header_bytes : List ℕ) × (g : File) × ReadsAs output header_bytes g × AtOutputFound f g)

    -- what is found of the input
    abbrev pub AtInputFound : File → Type 0
    AtInputFound f =
        ((fs : _) × (gs : _) × (r ≡ Err (faults.Refused roles.File fs gs))
        × (unknown : ℕ) × AreFindings s choice.other_names f fs.items gs.items unknown × ((fs.items ≡ []) × (gs.items ≡ []) → ⊥))
        ⊎ (IsConformingInput s choice.other_names input f × AtOutput f)

    -- the text of the input
    abbrev pub AtInput : Type 0
    AtInput =
        ((kind : FaultKind) × (place : ℕ) × (r ≡ Err (faults.Text roles.File kind place))
        × IsFirstFault input kind place)
        ⊎ ((header_bytes : List ℕ) × (f : File) × ReadsAs input header_bytes f × AtInputFound f)

  -- the schema and the choice
  abbrev pub AtSchema : Type 0
  AtSchema =
      ((fault : SchemaFault) × (r ≡ Err (faults.Schema fault)) × IsSchemaFault schema choice fault)
      ⊎ ((s : Schema) × Settles schema choice s × AtInput s)
