-- Texts and a choice have one answer, but for want of memory.
use Rattle.std.specs.Prelude.{◌≡◌, ◌⊎◌, ℕ, List, map, Some, None, Result, Err}
use Rattle.std.specs.String.{string_bytes}
use Rattle.std.proofs.Common.{refl, sym, ap, subst, ◌∙◌, inl, inr}
use Rattle.step_structures.specs.Trees.{File}
use Rattle.step_structures.proofs.Once as texts
use Rattle.step_structures.proofs.FirstFault as text_faults
use Rattle.express_syntax.specs.Schemas.{Schema}
use Rattle.express_syntax.specs.declared.fault.SchemaFault.{SchemaFault}
use Rattle.express_syntax.specs.declared.fault.SchemaFault.TheVariants as schemas
use Rattle.express_syntax.proofs.UniqueSchemas.{one_schema}
use Rattle.express_syntax.proofs.FirstFault.{reads_no_fault, one_fault}
use Rattle.schema_semantics.specs.Faults.{IsResolved}
use Rattle.schema_semantics.proofs.Faults.{faults-are-one}
use Rattle.schema_types.specs.Resolution.{IsNameFault}
use Rattle.conformance.specs.Choices.{Choice, merge_options, unknown_choice}
use Rattle.conformance.specs.SchemaMeanings.{Said, instances}
use Rattle.merge_choices.specs.ChosenEntities.{IsChoiceFault}
use Rattle.file_findings.specs.Findings.{AreBehind, ConformsWhereNothingIsFound}
use Rattle.files.specs.declared.fault.Role.TheVariants as roles
use Rattle.reports.specs.declared.fault.Fault.{Fault}
use Rattle.reports.specs.declared.fault.Fault.TheVariants as faults
use Rattle.reports.specs.SameFaults.{SameFault}
use Rattle.verifying.specs.declared.proof.Proof.{Proof}
use Rattle.verifying.specs.Verifying.{Settles, IsSchemaFault}
use Rattle.verifying.specs.Laws.{told, ProofsSayTheSame, VerifyAnswersAreOne}
use Rattle.verifying.proofs.Told.{told_once}
use Rattle.verifying.proofs.Levels.{AtOutputFound, AtOutput, AtInputFound, AtInput, AtSchema}
use Rattle.verifying.proofs.Reached.{reached}
use Rattle.verifying.proofs.Refusals.{says, at_text}

module _ (text : List ℕ) (choice : Choice) where
  -- of a name, or of the choice
  module _ (s : Schema) where
    abbrev IsNamed : SchemaFault → Type 0
    IsNamed fault = IsNameFault s fault ⊎ (IsResolved s × IsChoiceFault s choice fault)

    names_once : (kind other : _) (name again : _) → IsNamed (schemas.Name kind name) → IsNamed (schemas.Name other again)
        → SameFault (schemas.Name kind name) (schemas.Name other again)
    names_once kind other name again (inl h) (inl k) =
        (faults-are-one s).0 kind other (string_bytes name) (string_bytes again) h k
    names_once kind other name again (inl h) (inr k) = absurd ((faults-are-one s).1 kind (string_bytes name) h k.0)
    names_once kind other name again (inr h) (inl k) = absurd ((faults-are-one s).1 other (string_bytes again) k h.0)
    names_once kind other name again (inr h) (inr k) =
        let names : Some (string_bytes name) ≡ Some (string_bytes again) = sym h.1.1 ∙ k.1.1 in
        (h.1.0 ∙ sym k.1.0, (cc))

    not_settled : IsResolved s → unknown_choice s choice ≡ None → (kind : _) (name : _)
        → IsNamed (schemas.Name kind name) → ⊥
    not_settled resolved known kind name (inl h) = (faults-are-one s).1 kind (string_bytes name) h resolved
    not_settled resolved known kind name (inr h) = absurd (let clash = sym known ∙ h.1.1 in cc)

  schema_faults_once : (f g : SchemaFault) → IsSchemaFault text choice f → IsSchemaFault text choice g → SameFault f g
  schema_faults_once (schemas.Text kind place) (schemas.Text other elsewhere) h k =
      let one = one_fault text kind other place elsewhere h k in λ i. schemas.Text (one.0 i) (one.1 i)
  schema_faults_once (schemas.Text kind place) (schemas.Name other name) h k =
      absurd (reads_no_fault text k.0 kind place k.1 h)
  schema_faults_once (schemas.Text kind place) schemas.Memory h k = absurd k
  schema_faults_once (schemas.Name other name) (schemas.Text kind place) h k =
      absurd (reads_no_fault text h.0 kind place h.1 k)
  schema_faults_once (schemas.Name kind name) (schemas.Name other again) h k =
      names_once h.0 kind other name again h.2
      (subst (λ s. IsNamed s (schemas.Name other again)) (one_schema text k.0 h.0 k.1 h.1) k.2)
  schema_faults_once (schemas.Name other name) schemas.Memory h k = absurd k
  schema_faults_once schemas.Memory g h k = absurd h

  settled_no_fault : (s : Schema) → Settles text choice s → (f : SchemaFault) → IsSchemaFault text choice f → ⊥
  settled_no_fault s settles (schemas.Text kind place) h = reads_no_fault text s kind place settles.reads h
  settled_no_fault s settles (schemas.Name kind name) h =
      not_settled s settles.resolved settles.known kind name
      (subst (λ t. IsNamed t (schemas.Name kind name)) (one_schema text h.0 s h.1 settles.reads) h.2)
  settled_no_fault s settles schemas.Memory h = h

module _ (schema input output certificate : List ℕ) (choice : Choice) (r q : Result Proof Fault)
    (law : ConformsWhereNothingIsFound) where
  module _ (s : Schema) where
    at_output_found : (f g : File) → Said s → AtOutputFound schema input output certificate choice r s f g
        → AtOutputFound schema input output certificate choice q s f g → ProofsSayTheSame r q
    at_output_found f g said (inl a) (inl b) =
        says r q (Err (faults.Refused roles.Output a.0 a.1)) (Err (faults.Refused roles.Output b.0 b.1)) a.2 b.2
        (refl, a.3 said ∙ sym (b.3 said), ap (map told) (a.5 ∙ sym b.5))
    at_output_found f g said (inl a) (inr b) = absurd (a.4 (a.3 said ∙ b.0.nothing said))
    at_output_found f g said (inr a) (inl b) = absurd (b.4 (b.3 said ∙ a.0.nothing said))
    at_output_found f g said (inr a) (inr b) =
        at_text s said (merge_options s choice) f g r q certificate (a.1 said) (b.1 said)

    at_output : (f : File) → Said s → AtOutput schema input output certificate choice r s f
        → AtOutput schema input output certificate choice q s f → ProofsSayTheSame r q
    at_output f said (inl a) (inl b) =
        let one = text_faults.one_fault output a.0 b.0 a.1 b.1 a.3 b.3 in
        says r q (Err (faults.Text roles.Output a.0 a.1)) (Err (faults.Text roles.Output b.0 b.1)) a.2 b.2
        (refl, one.0, one.1)
    at_output f said (inl a) (inr b) = absurd (texts.reads_no_fault output b.0 b.1 a.0 a.1 b.2 a.3)
    at_output f said (inr a) (inl b) = absurd (texts.reads_no_fault output a.0 a.1 b.0 b.1 a.2 b.3)
    at_output f said (inr a) (inr b) =
        let one = texts.reads_once output b.0 a.0 b.1 a.1 b.2 a.2 in
        at_output_found f a.1 said a.3
        (subst (AtOutputFound schema input output certificate choice q s f) one.1 b.3)

    at_input_found : (f : File) → AtInputFound schema input output certificate choice r s f
        → AtInputFound schema input output certificate choice q s f → ProofsSayTheSame r q
    at_input_found f (inl a) (inl b) =
        let said : Said s = a.4.0 in
        let one = a.4.1 said in
        let other = b.4.1 said in
        let same : a.0.items ≡ b.0.items = one.0 ∙ sym other.0 in
        says r q (Err (faults.Refused roles.File a.0 a.1)) (Err (faults.Refused roles.File b.0 b.1)) a.2 b.2 (
          refl,
          same,
          told_once s said (instances s said f) a.0.items a.1.items b.1.items a.3 b.3 one.1
              (subst (λ fs. AreBehind s said fs (instances s said f) b.1.items b.3) (sym same) other.1),
        )
    at_input_found f (inl a) (inr b) =
        let said = b.0.some in
        absurd (a.5 ((law s said choice.other_names f a.0.items a.1.items a.3 a.4).1 (b.0.conforms said)))
    at_input_found f (inr a) (inl b) =
        let said = a.0.some in
        absurd (b.5 ((law s said choice.other_names f b.0.items b.1.items b.3 b.4).1 (a.0.conforms said)))
    at_input_found f (inr a) (inr b) = at_output f a.0.some a.1 b.1

    at_input : AtInput schema input output certificate choice r s → AtInput schema input output certificate choice q s
        → ProofsSayTheSame r q
    at_input (inl a) (inl b) =
        let one = text_faults.one_fault input a.0 b.0 a.1 b.1 a.3 b.3 in
        says r q (Err (faults.Text roles.File a.0 a.1)) (Err (faults.Text roles.File b.0 b.1)) a.2 b.2
        (refl, one.0, one.1)
    at_input (inl a) (inr b) = absurd (texts.reads_no_fault input b.0 b.1 a.0 a.1 b.2 a.3)
    at_input (inr a) (inl b) = absurd (texts.reads_no_fault input a.0 a.1 b.0 b.1 a.2 b.3)
    at_input (inr a) (inr b) =
        let one = texts.reads_once input b.0 a.0 b.1 a.1 b.2 a.2 in
        at_input_found a.1 a.3 (subst (AtInputFound schema input output certificate choice q s) one.1 b.3)

  at_schema : AtSchema schema input output certificate choice r → AtSchema schema input output certificate choice q
      → ProofsSayTheSame r q
  at_schema (inl a) (inl b) =
      says r q (Err (faults.Schema a.0)) (Err (faults.Schema b.0)) a.1 b.1
      (schema_faults_once schema choice a.0 b.0 a.2 b.2)
  at_schema (inl a) (inr b) = absurd (settled_no_fault schema choice b.0 b.1 a.0 a.2)
  at_schema (inr a) (inl b) = absurd (settled_no_fault schema choice a.0 a.1 b.0 b.2)
  at_schema (inr a) (inr b) =
      at_input a.0 a.2 (subst (AtInput schema input output certificate choice q)
      (one_schema schema b.0 a.0 b.1.reads a.1.reads) b.2)

pub answers_are_one : ConformsWhereNothingIsFound → VerifyAnswersAreOne
answers_are_one law schema input output certificate choice r q h k m n =
    at_schema schema input output certificate choice r q law
    (reached schema input output certificate choice r h m) (reached schema input output certificate choice q k n)
