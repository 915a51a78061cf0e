-- What `verify` returns for four texts (a schema, an input, an output and a certificate) and a choice of entity
-- data types: that the output is proved to be a least image of the input, or the first reason why it isn't.
use Rattle.std.specs.Prelude.{◌≡◌, ◌≢◌, ◌⊎◌, ◌↔◌, ℕ, Bool, IsTrue, List, [], length, None, Result, Ok, Err}
use Rattle.step_structures.specs.Trees.{File}
use Rattle.step_structures.specs.Texts.{ReadsAs, IsFirstFault}
use Rattle.value_equality.specs.Rows.{Row, IsPopulation, SamePopulation}
use Rattle.value_equality.specs.Images.{quotient}
use Rattle.value_equality.specs.Tables.{Table, shares, HasMembers, IsGrounded, IsStable, IsValid}
use Rattle.express_syntax.specs.Schemas.{Schema}
use Rattle.schema_semantics.specs.Names.{Name}
use Rattle.express_syntax.specs.Texts as schema_texts
use Rattle.express_syntax.specs.declared.fault.SchemaFault.{SchemaFault}
use Rattle.express_syntax.specs.declared.fault.SchemaFault.TheVariants as schemas
use Rattle.schema_semantics.specs.Faults.{IsResolved}
use Rattle.schema_types.specs.Resolution.{IsNameFault}
use Rattle.schema_constraints.specs.declared.finding.RuleFinding.{RuleFinding}
use Rattle.conformance.specs.declared.finding.Finding.{Finding}
use Rattle.conformance.specs.Choices.{Choice, merge_options, unknown_choice, MergeOptions}
use Rattle.conformance.specs.Findings.{findings}
use Rattle.conformance.specs.PlainRows.{AreRowsOf}
use Rattle.conformance.specs.Pins.{IsWeaklyPinned, IsGentlyPinned}
use Rattle.conformance.specs.SchemaMeanings.{Said, instances, FileConforms}
use Rattle.merge_choices.specs.ChosenEntities.{IsChoiceFault}
use Rattle.step_headings.specs.Headings.{SameHeadings}
use Rattle.file_findings.specs.Findings.{AreFindings}
use Rattle.certificate_text.specs.Texts.{IsCertificate}
use Rattle.certificate_text.specs.Faults.{IsOld, IsBadLine}
use Rattle.merge_theorems.specs.Headline.{IsCheckedOutput, IsLeastImage}
use Rattle.files.specs.declared.fault.Role.TheVariants as roles
use Rattle.reports.specs.declared.fault.Fault.{Fault}
use Rattle.reports.specs.declared.fault.Fault.TheVariants as faults
use Rattle.reports.specs.declared.refusal.Refusal.{Refusal}
use Rattle.reports.specs.declared.refusal.Refusal.TheVariants.{OldVersion, BadText, WrongNames, GroundlessSplit, Unstable, NotTheImage}
use Rattle.verifying.specs.declared.proof.Proof.{Proof}

-- The text reads as the schema `s`, whose names are resolved, and each chosen name is an entity data type of it.
pub record Settles (text : List ℕ) (choice : Choice) (s : Schema) : Type 0 where
  pub reads : schema_texts.ReadsAs text s
  pub resolved : IsResolved s
  pub known : unknown_choice s choice ≡ None

-- The text of the schema has this first fault, or this name in it is at fault, or this chosen name isn't an entity
-- data type of it. It is never out of memory.
abbrev pub IsSchemaFault : List ℕ → Choice → SchemaFault → Type 0
IsSchemaFault text choice (schemas.Text kind place) = schema_texts.IsFaultOf text (schemas.Text kind place)
IsSchemaFault text choice (schemas.Name kind name) = (s : Schema) × schema_texts.ReadsAs text s
    × (IsNameFault s (schemas.Name kind name) ⊎ (IsResolved s × IsChoiceFault s choice (schemas.Name kind name)))
IsSchemaFault text choice schemas.Memory = ⊥

module _ (s : Schema) where
  -- The text reads as this structure, which may call the schema by these other names and conforms to it under every
  -- meaning of it; and the schema has one.
  pub record IsConformingInput (others : List Name) (text : List ℕ) (f : File) : Type 0 where
    pub header_bytes : List ℕ
    pub reads : ReadsAs text header_bytes f
    pub some : Said s
    pub conforms : (said : Said s) → FileConforms s said others f

  -- The text reads as this structure, which may call the schema by these other names, and whose header and instances,
  -- one by one, have no findings.
  pub record IsOutput (others : List Name) (text : List ℕ) (g : File) : Type 0 where
    pub header_bytes : List ℕ
    pub reads : ReadsAs text header_bytes g
    pub nothing : (said : Said s) → findings s said.domain said.entities others g ≡ []

  -- these are the rows of a structure's instances
  pub record AreRows (f : File) (rows : List Row) : Type 0 where
    pub are : (said : Said s) → AreRowsOf s (instances s said f) rows
    pub population : IsPopulation rows

  module _ (chosen : MergeOptions) (f : File) where
    -- `pinned` holds exactly of the weakly pinned instances, if instances of the chosen entity data types may be
    -- merged.
    abbrev pub AreWeak : (ℕ → Bool) → Type 0
    AreWeak pinned = (said : Said s) (y : ℕ) → IsTrue (pinned y)
        ↔ IsWeaklyPinned s said.domain said.entities said.rules chosen (instances s said f) y

    -- `pinned` holds exactly of the gently pinned instances, according to the classes of a table at its last round.
    abbrev pub AreGentle : Table → (ℕ → Bool) → Type 0
    AreGentle t pinned = (said : Said s) (y : ℕ) → IsTrue (pinned y)
        ↔ IsGentlyPinned s said.domain said.entities said.rules chosen (instances s said f) (shares t t.rounds) y

    -- The certificate is the text of these two tables; the rows and weak pins of the input are what they are judged
    -- by.
    pub record AreJudged (certificate : List ℕ) : Type 0 where
      pub first : Table
      pub second : Table
      pub certificate_is : IsCertificate certificate first second
      pub rows : List Row
      pub are_rows : AreRows f rows
      pub weak : ℕ → Bool
      pub are_weak : AreWeak weak

    -- The first table is valid, and gives the pins under which the second one is judged.
    pub record FirstHolds (certificate : List ℕ) : Type 0 where
      pub judged : AreJudged certificate
      pub valid : IsValid judged.rows judged.weak judged.first
      pub gentle : ℕ → Bool
      pub are_gentle : AreGentle judged.first gentle

    -- Both tables are valid.
    pub record BothHold (certificate : List ℕ) : Type 0 where
      pub held : FirstHolds certificate
      pub valid : IsValid held.judged.rows held.gentle held.judged.second

-- The first of these conditions that a table lacks: its members are the instances, in order; each of its splits has
-- a ground; its last round is stable.
abbrev pub Lacks : List Row → (ℕ → Bool) → Table → Refusal → Type 0
Lacks rows pinned t WrongNames = HasMembers rows t → ⊥
Lacks rows pinned t GroundlessSplit = HasMembers rows t × (IsGrounded rows pinned (shares t) t.rounds → ⊥)
Lacks rows pinned t Unstable =
    HasMembers rows t × IsGrounded rows pinned (shares t) t.rounds × (IsStable rows pinned (shares t t.rounds) → ⊥)
Lacks rows pinned t refusal = ⊥

module _ (s : Schema) (chosen : MergeOptions) (f : File) where
  -- the first table lacks this condition, or the first table holds and the second one lacks it
  abbrev pub TablesLack : List ℕ → Refusal → Type 0
  TablesLack certificate refusal =
      ((j : AreJudged s chosen f certificate) × Lacks j.rows j.weak j.first refusal)
      ⊎ ((h : FirstHolds s chosen f certificate) × Lacks h.judged.rows h.gentle h.judged.second refusal)

  -- The rows of the output are those of the quotient by the last round of the second table, in any order. The
  -- output's sections have the headings of the input's.
  abbrev pub IsMergedOutput : (certificate : List ℕ) → BothHold s chosen f certificate → File → List Row → Type 0
  IsMergedOutput certificate b g rows =
      SamePopulation rows (quotient b.held.judged.rows (shares b.held.judged.second b.held.judged.second.rounds))
      × SameHeadings f g

  -- For an output that reads as `g`, this is the first reason why the certificate doesn't prove it.
  abbrev pub IsRefused : File → List ℕ → Refusal → Type 0
  IsRefused g certificate OldVersion = IsOld certificate
  IsRefused g certificate (BadText line) = (IsOld certificate → ⊥) × IsBadLine certificate line
  IsRefused g certificate NotTheImage =
      (b : BothHold s chosen f certificate) × (rows : List Row) × AreRows s g rows
      × (IsMergedOutput certificate b g rows → ⊥)
  IsRefused g certificate refusal = TablesLack certificate refusal

-- By these tables the output is proved to conform, to be an image of the input, and to be a least one. The proof
-- states the numbers of rows of input and output, and the last round of the second table.
pub record IsAccepted (s : Schema) (said : Said s) (chosen : MergeOptions) (input output : List ℕ) (first second : Table)
    (p : Proof) : Type 0 where
  pub checked : IsCheckedOutput s said chosen input output
  pub first_is : checked.first ≡ first
  pub second_is : checked.second ≡ second
  pub headings : SameHeadings checked.input.file checked.file
  pub proved : IsLeastImage s said chosen input output checked
  pub instances : p.instances ≡ length checked.input.rows
  pub kept : p.kept ≡ length checked.rows
  pub rounds : p.rounds ≡ second.rounds

-- The certificate is accepted under every meaning of the schema, and the schema has one.
pub record Proves (s : Schema) (chosen : MergeOptions) (input output certificate : List ℕ) (p : Proof) : Type 0 where
  pub first : Table
  pub second : Table
  pub certificate_is : IsCertificate certificate first second
  pub some : Said s
  pub accepted : (said : Said s) → IsAccepted s said chosen input output first second p

module _ (schema input output certificate : List ℕ) (choice : Choice) where
  -- The schema and the choice have no fault, and `P` holds of the schema.
  abbrev pub UpToChoice : (Schema → Type 0) → Type 0
  UpToChoice P = (s : Schema) × Settles schema choice s × P s

  -- The input has no fault and no findings either, and `P` holds.
  abbrev pub UpToInput : (Schema → File → Type 0) → Type 0
  UpToInput P = UpToChoice (λ s. (f : File) × IsConformingInput s choice.other_names input f × P s f)

  -- The output has no fault either, its header and instances, one by one, have no findings, and `P` holds.
  abbrev pub UpToOutput : (Schema → File → File → Type 0) → Type 0
  UpToOutput P = UpToInput (λ s f. (g : File) × IsOutput s choice.other_names output g × P s f g)

  -- The findings of the input, rules included, or of the output's header and instances, one by one. There is at
  -- least one.
  abbrev pub AreOfInput : List Finding → List RuleFinding → Type 0
  AreOfInput fs gs =
      UpToChoice (λ s. (header_bytes : List ℕ) × (f : File) × ReadsAs input header_bytes f
      × (unknown : ℕ) × AreFindings s choice.other_names f fs gs unknown × ((fs ≡ []) × (gs ≡ []) → ⊥))

  abbrev pub AreOfOutput : List Finding → List RuleFinding → Type 0
  AreOfOutput fs gs =
      UpToInput (λ s f. (header_bytes : List ℕ) × (g : File) × ReadsAs output header_bytes g
      × ((said : Said s) → fs ≡ findings s said.domain said.entities choice.other_names g) × (fs ≢ []) × (gs ≡ []))

  -- What `verify` returns. Each refusal requires that nothing before it is refused. Out of memory may be returned
  -- at any time, and no other fault is returned.
  abbrev pub Verifies : Result Proof Fault → Type 0
  Verifies (Ok p) = UpToChoice (λ s. Proves s (merge_options s choice) input output certificate p)
  Verifies (Err (faults.Schema fault)) = IsSchemaFault schema choice fault
  Verifies (Err (faults.Text roles.File kind place)) = UpToChoice (λ s. IsFirstFault input kind place)
  Verifies (Err (faults.Refused roles.File fs gs)) = AreOfInput fs.items gs.items
  Verifies (Err (faults.Text roles.Output kind place)) = UpToInput (λ s f. IsFirstFault output kind place)
  Verifies (Err (faults.Refused roles.Output fs gs)) = AreOfOutput fs.items gs.items
  Verifies (Err (faults.Certificate refusal)) =
      UpToOutput (λ s f g. IsRefused s (merge_options s choice) f g certificate refusal)
  Verifies (Err faults.Memory) = Unit {0}
  Verifies (Err fault) = ⊥
