-- What is answered, where what comes before has passed.
use Rattle.std.specs.Prelude.{◌≡◌, ℕ, List, Result, Ok, Err}
use Rattle.std.proofs.Common.{inl, inr}
use Rattle.step_structures.specs.Trees.{File}
use Rattle.step_structures.specs.Texts as texts
use Rattle.step_structures.specs.declared.fault.TextFault.{TextFault}
use Rattle.step_structures.specs.declared.fault.TextFault.TheVariants as text_faults
use Rattle.express_syntax.specs.Schemas.{Schema}
use Rattle.schema_semantics.specs.Names.{Name}
use Rattle.express_syntax.specs.Texts as schema_texts
use Rattle.express_syntax.specs.declared.fault.SchemaFault.{SchemaFault}
use Rattle.express_syntax.specs.declared.fault.SchemaFault.TheVariants as schemas
use Rattle.schema_semantics.specs.Faults.{IsResolved}
use Rattle.schema_types.specs.Resolution.{IsNameFault}
use Rattle.conformance.specs.Choices.{Choice, merge_options}
use Rattle.conformance.specs.Populations.{Instance}
use Rattle.step_headings.specs.steps.Views.{AreHeadingsOf}
use Rattle.step_headings.specs.declared.headings.Headings.{Headings}
use Rattle.merge_choices.specs.ChosenEntities.{IsChoiceFault}
use Rattle.typed_populations.specs.TypedPopulations.{IsTyped}
use Rattle.merge_theorems.specs.Headline.{ChecksProve}
use Rattle.files.specs.Faults.{text_fault}
use Rattle.files.specs.declared.fault.Role.TheVariants as roles
use Rattle.reports.specs.Faults.{of_file, of_schema}
use Rattle.verifying.specs.declared.fault.TablesFault.{TablesFault}
use Rattle.verifying.specs.declared.fault.TablesFault.TheVariants as tables
use Rattle.verifying.specs.declared.proof.Proof.{Proof}
use Rattle.verifying.specs.declared.tables.Judged.{Judged}
use Rattle.verifying.specs.steps.Faults.{tables_fault}
use Rattle.verifying.specs.Verifying.{Settles, IsConformingInput, IsOutput, Verifies}
use Rattle.verifying.specs.steps.ComputedPassing.{AnswersTyped, IsAnswer, IsJudgement}
use Rattle.verifying.proofs.Accepting.{proves}

-- nothing is wrong with the output's instances one by one
output_is : (s : Schema) (others : List Name) (output header_bytes : List ℕ) (g : File) (js : List Instance)
    → texts.ReadsAs output header_bytes g → IsTyped s others g js → IsOutput s others output g
output_is s others output header_bytes g js reads typed = record {
  header_bytes = header_bytes;
  reads = reads;
  nothing = λ said. (typed.1 said.domain said.entities said.is_domain said.are_entities).0;
}

module _ (schema input output certificate : List ℕ) (choice : Choice) where
  pub unread_schema : (e : SchemaFault) → schema_texts.IsFaultOf schema e
      → Verifies schema input output certificate choice (Err (of_schema e))
  unread_schema (schemas.Text kind place) h = h
  unread_schema (schemas.Name kind name) h = absurd h
  unread_schema schemas.Memory h = tt

  module _ (s : Schema) where
    pub unresolved : schema_texts.ReadsAs schema s → (e : SchemaFault) → IsNameFault s e
        → Verifies schema input output certificate choice (Err (of_schema e))
    unresolved reads (schemas.Text kind place) h = absurd h
    unresolved reads (schemas.Name kind name) h = (s, reads, inl h)
    unresolved reads schemas.Memory h = tt

    pub unsettled : schema_texts.ReadsAs schema s → IsResolved s → (e : SchemaFault) → IsChoiceFault s choice e
        → Verifies schema input output certificate choice (Err (of_schema e))
    unsettled reads resolved (schemas.Text kind place) h = absurd h
    unsettled reads resolved (schemas.Name kind name) h = (s, reads, inr (resolved, h))
    unsettled reads resolved schemas.Memory h = tt

    module _ (settles : Settles schema choice s) where
      pub unread_input : (e : TextFault) → texts.IsFaultOf input e
          → Verifies schema input output certificate choice (Err (of_file (text_fault roles.File e)))
      unread_input (text_faults.Fault kind place) h = (s, settles, h)
      unread_input text_faults.Memory h = tt

      module _ (f : File) (reads : IsConformingInput s choice.other_names input f) where
        pub unread_output : (e : TextFault) → texts.IsFaultOf output e
            → Verifies schema input output certificate choice (Err (of_file (text_fault roles.Output e)))
        unread_output (text_faults.Fault kind place) h = (s, settles, (f, reads, h))
        unread_output text_faults.Memory h = tt

        module _ (j : Result Judged TablesFault) (judged : IsJudgement s (merge_options s choice) f certificate j)
            (header_bytes : List ℕ) (g : File) (out : texts.ReadsAs output header_bytes g) (js : List Instance)
            (typed : IsTyped s choice.other_names g js) (hs : Headings) (has : AreHeadingsOf hs f) where
          answered : (r : Result Proof TablesFault) → AnswersTyped s hs j g js r
              → IsAnswer s (merge_options s choice) f certificate g r
          answered r h = h (merge_options s choice) certificate f has judged
              (λ said. (typed.1 said.domain said.entities said.is_domain said.are_entities).1)

          pub refused : (e : TablesFault) → AnswersTyped s hs j g js (Err e)
              → Verifies schema input output certificate choice (Err (tables_fault e))
          refused (tables.Refused refusal) h =
              (s, settles, (f, reads, (g, output_is s choice.other_names output header_bytes g js out typed, answered (Err (tables.Refused refusal)) h)))
          refused tables.Memory h = tt

          pub proved : ChecksProve → (p : Proof) → AnswersTyped s hs j g js (Ok p)
              → Verifies schema input output certificate choice (Ok p)
          proved law p h = let a = answered (Ok p) h in (
            s,
            settles,
            proves s (merge_options s choice) input output certificate f g reads
                (output_is s choice.other_names output header_bytes g js out typed) a.both a.image a.are_rows a.merged law p a.instances
                a.kept a.rounds,
          )
