-- What the code computes; no promise is stated here. Results of the steps of a verification, where the earlier ones
-- passed.
use Rattle.std.specs.Prelude.{◌≡◌, ◌⊎◌, ℕ, Bool, List, length, Result, Ok, Err}
use Rattle.step_structures.specs.Trees.{File}
use Rattle.step_structures.specs.Texts.{ReadsAs}
use Rattle.value_equality.specs.Rows.{Row}
use Rattle.value_equality.specs.Standard.{IsWellFormed}
use Rattle.value_equality.specs.Tables.{Table, HasMembers, IsValid}
use Rattle.value_equality.specs.TableViews.{table_of}
use Rattle.express_syntax.specs.Schemas.{Schema}
use Rattle.schema_semantics.specs.Names.{Name}
use Rattle.conformance.specs.Choices.{Choice, merge_options, MergeOptions}
use Rattle.conformance.specs.Populations.{Instance}
use Rattle.conformance.specs.SchemaMeanings.{Said, instances}
use Rattle.step_headings.specs.steps.Views.{AreHeadingsOf}
use Rattle.step_headings.specs.declared.headings.Headings.{Headings}
use Rattle.merge_choices.specs.ChosenEntities.{AreChosen}
use Rattle.merge_choices.specs.declared.choice.Chosen.{Chosen}
use Rattle.population_pins.specs.Lists.{AreUniqueOf}
use Rattle.population_pins.specs.PopulationPins.{is_pinned}
use Rattle.population_pins.specs.declared.weak_pins.WeakPins.{WeakPins}
use Rattle.reports.specs.declared.fault.Fault.{Fault}
use Rattle.verifying.specs.declared.fault.TablesFault.{TablesFault}
use Rattle.verifying.specs.declared.fault.TablesFault.TheVariants.{Refused, Memory}
use Rattle.verifying.specs.declared.proof.Proof.{Proof}
use Rattle.verifying.specs.declared.tables.Judged.{Judged}
use Rattle.verifying.specs.Verifying.{Settles, IsConformingInput, AreRows, AreWeak, Lacks, BothHold, IsMergedOutput, IsRefused, Verifies}

-- the table lacks something, or memory ran out
abbrev pub IsTableFault : List Row → (ℕ → Bool) → Table → TablesFault → Type 0
IsTableFault rows pinned t (Refused refusal) = Lacks rows pinned t refusal
IsTableFault rows pinned t Memory = Unit {0}

module _ (rows : List Row) (weak gentle : ℕ → Bool) (first second : Table) where
  -- each table is valid under its pins
  abbrev pub AreValid : Type 0
  AreValid = IsValid rows weak first × IsValid rows gentle second

  -- the first table lacks something, or it is valid and the second one lacks something
  abbrev pub AreFaulty : TablesFault → Type 0
  AreFaulty e = IsTableFault rows weak first e ⊎ (IsValid rows weak first × IsTableFault rows gentle second e)

-- the members of the table are the rows, and it is well-formed
pub record IsReady (j : Judged) : Type 0 where
  pub members : HasMembers j.rows (table_of j.table)
  pub well_formed : IsWellFormed (table_of j.table)

module _ (s : Schema) where
  -- The rows of the input, and its weak pins, with the lists that the gentle pins need.
  pub record AreKnown (chosen : MergeOptions) (f : File) (rows : List Row) (weak : WeakPins) : Type 0 where
    pub are_rows : AreRows s f rows
    pub are_weak : AreWeak s chosen f (is_pinned weak.pins)
    pub are_unique : (said : Said s) → AreUniqueOf s (instances s said f) weak.lists

  module _ (chosen : MergeOptions) (f : File) (certificate : List ℕ) where
    -- The outcome for a certificate's tables: both hold, and the table of `j` is the second one, for these rows; or
    -- the certificate is refused, whatever the output is.
    abbrev pub IsJudgement : Result Judged TablesFault → Type 0
    IsJudgement (Ok j) = (b : BothHold s chosen f certificate) × (b.held.judged.rows ≡ j.rows)
        × (b.held.judged.second ≡ table_of j.table)
    IsJudgement (Err (Refused refusal)) = (g : File) → IsRefused s chosen f g certificate refusal
    IsJudgement (Err Memory) = Unit {0}

    -- the output is the merged input
    pub record Comes (g : File) (p : Proof) : Type 0 where
      pub both : BothHold s chosen f certificate
      pub image : List Row
      pub are_rows : AreRows s g image
      pub merged : IsMergedOutput s chosen f certificate both g image
      pub instances : p.instances ≡ length both.held.judged.rows
      pub kept : p.kept ≡ length image
      pub rounds : p.rounds ≡ both.held.judged.second.rounds

    -- the result for an output that reads as this structure
    abbrev pub IsAnswer : File → Result Proof TablesFault → Type 0
    IsAnswer g (Ok p) = Comes g p
    IsAnswer g (Err (Refused refusal)) = IsRefused s chosen f g certificate refusal
    IsAnswer g (Err Memory) = Unit {0}

  -- The result for an output with these instances, where the input's sections have these headings, and this is the
  -- outcome for the tables.
  abbrev pub AnswersTyped : Headings → Result Judged TablesFault → File → List Instance → Result Proof TablesFault
      → Type 0
  AnswersTyped hs j g js r = (chosen : MergeOptions) (certificate : List ℕ) (f : File) → AreHeadingsOf hs f
      → IsJudgement chosen f certificate j → ((said : Said s) → js ≡ instances s said g)
      → IsAnswer chosen f certificate g r

  -- The schema and the choice are settled, and the choice has these other names.
  abbrev pub SettlesBy : List Name → List ℕ → Choice → Type 0
  SettlesBy others schema choice = Settles schema choice s × (choice.other_names ≡ others)

  -- The result for an output, where the input has no findings, its sections have these headings, and this is the
  -- outcome for the certificate's tables:
  module _ (others : List Name) (hs : Headings) (j : Result Judged TablesFault) (r : Result Proof Fault) where
    -- the output reads as this structure
    abbrev pub AnswersOutput : File → Type 0
    AnswersOutput g = (schema input output certificate header_bytes : List ℕ) (choice : Choice) (f : File)
        → AreHeadingsOf hs f → SettlesBy others schema choice → IsConformingInput s choice.other_names input f
        → IsJudgement (merge_options s choice) f certificate j → ReadsAs output header_bytes g
        → Verifies schema input output certificate choice r

    -- the output is this text
    abbrev pub AnswersClean : List ℕ → Type 0
    AnswersClean output = (schema input certificate : List ℕ) (choice : Choice) (f : File) → AreHeadingsOf hs f
        → SettlesBy others schema choice → IsConformingInput s choice.other_names input f
        → IsJudgement (merge_options s choice) f certificate j
        → Verifies schema input output certificate choice r

  module _ (others : List Name) (certificate : List ℕ) where
    -- The outcome for an input before the output is read: it has no findings, and the certificate's tables have
    -- this outcome; or the result is this fault, whatever the output is.
    module _ (schema input : List ℕ) (choice : Choice) (f : File) where
      abbrev pub IsFinding : Result (Result Judged TablesFault) Fault → Type 0
      IsFinding (Ok j) = IsConformingInput s choice.other_names input f × IsJudgement (merge_options s choice) f certificate j
      IsFinding (Err e) = (output : List ℕ) → Verifies schema input output certificate choice (Err e)

    module _ (r : Result (Result Judged TablesFault) Fault) where
      -- the input reads as this structure
      abbrev pub Finds : Chosen → File → Type 0
      Finds c f = (schema input header_bytes : List ℕ) (choice : Choice)
          → SettlesBy others schema choice → AreChosen s (merge_options s choice) c → ReadsAs input header_bytes f
          → IsFinding schema input choice f r

  -- The result, for all earlier texts and choices:
  module _ (others : List Name) (output certificate : List ℕ) (r : Result Proof Fault) where
    -- the input reads as this structure
    abbrev pub AnswersRead : Chosen → File → Type 0
    AnswersRead c f = (schema input header_bytes : List ℕ) (choice : Choice) → SettlesBy others schema choice
        → AreChosen s (merge_options s choice) c → ReadsAs input header_bytes f
        → Verifies schema input output certificate choice r

    -- the choice is settled
    abbrev pub AnswersSettled : Chosen → List ℕ → Type 0
    AnswersSettled c input = (schema : List ℕ) (choice : Choice) → SettlesBy others schema choice
        → AreChosen s (merge_options s choice) c → Verifies schema input output certificate choice r
