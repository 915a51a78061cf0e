-- Texts and a choice have one answer, one output and one certificate, but for a device's fault and want of memory.
use Rattle.std.specs.Prelude.{◌≡◌, ◌≢◌, ◌⊎◌, ℕ, Bool, true, List, [], length, None, Some, Result, Ok, Err}
use Rattle.std.specs.String.{string_bytes}
use Rattle.std.proofs.Common.{refl, sym, ap, subst, ◌∙◌, inl, inr}
use Rattle.std.proofs.Math.Logic.{∥∥₁_elim}
use Rattle.std.proofs.Math.Nat.{ℕ_set}
use Rattle.std.proofs.Props.{props}
use Rattle.std.proofs.lemmas.List.{length-map}
use Rattle.step_structures.specs.Trees.{File, rows_of}
use Rattle.step_structures.specs.declared.fault.FaultKind.{FaultKind}
use Rattle.step_structures.proofs.Once.{reads_once}
use Rattle.express_syntax.specs.Schemas.{Schema}
use Rattle.express_syntax.specs.declared.fault.SchemaFault.{SchemaFault}
use Rattle.express_syntax.specs.declared.fault.SchemaFault.TheVariants as schemas
use Rattle.schema_semantics.specs.Parts.{AreUnchecked}
use Rattle.schema_semantics.proofs.Listed.{unchecked-are-one}
use Rattle.schema_unchecked_declarations.specs.UncheckedLists.{unchecked_in, unchecked_of}
use Rattle.schema_unchecked_declarations.specs.declared.list.Unchecked.{Unchecked as Part}
use Rattle.conformance.specs.Choices.{Choice, merge_options, unknown_choice, MergeOptions}
use Rattle.conformance.specs.SchemaMeanings.{Said, FileConforms}
use Rattle.file_findings.specs.Findings.{ConformsWhereNothingIsFound}
use Rattle.value_equality.specs.Laws.{StandardIsUnique}
use Rattle.value_equality.specs.Standard.{IsStandard}
use Rattle.value_equality.specs.Tables.{Table}
use Rattle.certificate_text.specs.Texts.{certificate_text}
use Rattle.merge_theorems.specs.Headline.{IsMergeInput, IsMergeOf}
use Rattle.merge_theorems.proofs.Once.{AreOne, inputs_once, merges_once}
use Rattle.files.specs.declared.fault.Role.TheVariants as roles
use Rattle.reports.specs.Lines.{report_text}
use Rattle.reports.specs.declared.report.Report.{Report}
use Rattle.reports.specs.SameFaults.{SameFault}
use Rattle.reports.specs.declared.fault.Fault.{Fault}
use Rattle.reports.specs.declared.fault.Fault.TheVariants as faults
use Rattle.checking.specs.Checks.{IsResolvedSchemaText, HasSchemaFault, HasFile, HasFileFault}
use Rattle.checking.specs.Laws.{IsOfTexts}
use Rattle.checking.specs.Reporting.{IsReport, ReportsAreOne}
use Rattle.checking.proofs.Once.{parts-one}
use Rattle.checking.proofs.Texts.{no_schema_fault, schemas_once, schema_faults_once, no_file_fault, files_once, file_faults_once}
use Rattle.shrinking.specs.declared.summary.Summary.{Summary}
use Rattle.shrinking.specs.Shrinking.{IsClean, IsDone, AreUnwritten, Passes, IsUnknownChoice, ShrinkAnswers}
use Rattle.shrinking.specs.Laws.{SummariesSayTheSame, ShrinkAnswersAreOne}
use Rattle.shrinking.proofs.Refusing.{none_unchecked}

abbrev kept_of : File → ℕ
kept_of f = length (rows_of f.sections)

abbrev last_of : Table → ℕ
last_of t = t.rounds

one_number : (m n : ℕ) → IsProp (m ≡ n)
one_number m n = hlevel (props, ℕ_set)

-- what isn't checked of a schema are as many parts
as_many : (s : Schema) (us vs : List Part) → ∥ AreUnchecked s (unchecked_in us) ∥₁ → ∥ AreUnchecked s (unchecked_in vs) ∥₁
    → length us ≡ length vs
as_many s us vs h k =
    ∥∥₁_elim h (one_number _ _) (λ a. ∥∥₁_elim k (one_number _ _) (λ b.
    sym (length-map us unchecked_of) ∙ ap length (unchecked-are-one s (unchecked_in us) (unchecked_in vs) a b)
    ∙ length-map vs unchecked_of))

-- A file is merged in one way, and one thing is said of that.
module _ (s : Schema) (chosen : MergeOptions) (bytes output certificate again recertified : List ℕ) (m n : Summary)
    (reports : ReportsAreOne) (tables : StandardIsUnique)
    (done : IsDone s chosen bytes output certificate m) (redone : IsDone s chosen bytes again recertified n) where
  abbrev said : Said s
  said = done.merged.some_said

  abbrev merge : IsMergeOf s said chosen bytes output
  merge = done.merged.merge said

  abbrev remerge : IsMergeOf s said chosen bytes again
  remerge = redone.merged.merge said

  inputs : AreOne s said chosen bytes remerge.input merge.input
  inputs = inputs_once s said chosen bytes remerge.input merge.input

  first_once : redone.first ≡ done.first
  first_once =
      tables merge.input.rows merge.input.pins.weak redone.first done.first merge.input.population
      (subst (λ w. IsStandard merge.input.rows w redone.first) inputs.weak
      (subst (λ P. IsStandard P remerge.input.pins.weak redone.first) inputs.rows (redone.certified.first_is said)))
      (done.certified.first_is said)

  second_once : redone.second ≡ done.second
  second_once =
      tables merge.input.rows merge.input.pinned redone.second done.second merge.input.population
      (subst (λ p. IsStandard merge.input.rows p redone.second) inputs.pinned
      (subst (λ P. IsStandard P remerge.input.pinned redone.second) inputs.rows (redone.certified.second_is said)))
      (done.certified.second_is said)

  certificates_once : recertified ≡ certificate
  certificates_once =
      redone.certified.certificate_is.text_is ∙ (λ k. certificate_text (first_once k) (second_once k))
      ∙ sym done.certified.certificate_is.text_is

  reports_once : report_text m.report ≡ report_text n.report
  reports_once =
      reports s chosen.other_names done.reported.file m.report n.report done.reported.report
      (subst (λ f. IsReport s chosen.other_names f n.report)
      (files_once bytes redone.reported.file done.reported.file redone.reported.has_file done.reported.has_file)
      redone.reported.report)

  kept_once : m.kept ≡ n.kept
  kept_once =
      let structures = (merges_once s said chosen bytes output again merge remerge).1 in
      done.reported.kept said
      ∙ ap kept_of ((done.merged.least said).is_merged ∙ sym structures ∙ sym (redone.merged.least said).is_merged)
      ∙ sym (redone.reported.kept said)

  rounds_once : m.rounds ≡ n.rounds
  rounds_once = done.reported.rounds ∙ ap last_of (sym second_once) ∙ sym redone.reported.rounds

  done_once : SummariesSayTheSame (Ok m) (Ok n) × (again ≡ output) × (recertified ≡ certificate)
  done_once = (
    (reports_once, kept_once, rounds_once),
    (merges_once s said chosen bytes output again merge remerge).0,
    certificates_once,
  )

module _ (c : Choice) (strict : Bool) (text bytes : List ℕ) where
  -- Where an answer stops: at each step there is a fault, and nothing is written, or it passes.
  module _ (output certificate : List ℕ) (r : Result Summary Fault) where
    -- what is found of the file
    abbrev AtFound : Schema → File → Type 0
    AtFound s f =
        (((p : Report) × (r ≡ Err (faults.Findings p)) × IsReport s c.other_names f p × (IsClean p → ⊥))
        × AreUnwritten output certificate)
        ⊎ ((m : Summary) × (r ≡ Ok m) × IsDone s (merge_options s c) bytes output certificate m)

    -- the text of the file
    abbrev AtFile : Schema → Type 0
    AtFile s =
        (((kind : FaultKind) × (place : ℕ) × (r ≡ Err (faults.Text roles.File kind place))
        × HasFileFault kind place bytes) × AreUnwritten output certificate)
        ⊎ ((f : File) × HasFile f bytes × AtFound s f)

    -- the names that are chosen
    abbrev AtChoice : Schema → Type 0
    AtChoice s =
        (((f : SchemaFault) × (r ≡ Err (faults.Schema f)) × IsUnknownChoice s c f) × AreUnwritten output certificate)
        ⊎ ((unknown_choice s c ≡ None) × AtFile s)

    -- the parts of the schema that aren't checked
    abbrev AtParts : Schema → Type 0
    AtParts s =
        (((us : _) × (r ≡ Err (faults.Unchecked us)) × (strict ≡ true) × ∥ AreUnchecked s (unchecked_in us.items) ∥₁
        × (us.items ≢ [])) × AreUnwritten output certificate)
        ⊎ (Passes strict s × AtChoice s)

    -- the text and the names of the schema
    abbrev AtSchema : Type 0
    AtSchema =
        (((f : SchemaFault) × (r ≡ Err (faults.Schema f)) × HasSchemaFault f text) × AreUnwritten output certificate)
        ⊎ ((s : Schema) × IsResolvedSchemaText s text × AtParts s)

  reached : (output certificate : List ℕ) (r : Result Summary Fault)
      → ShrinkAnswers c strict text bytes output certificate r → IsOfTexts r → AtSchema output certificate r
  reached o k (Ok m) h j =
      inr (h.0, h.1, inr (h.2, inr (h.3, inr (h.4.reported.file, h.4.reported.has_file, inr (m, refl, h.4)))))
  reached o k (Err (faults.Schema f)) (inl h, none) j = inl ((f, refl, h), none)
  reached o k (Err (faults.Schema f)) (inr h, none) j = inr (h.0, h.1, inr (h.2, inl ((f, refl, h.3), none)))
  reached o k (Err (faults.Unchecked us)) (h, none) j = inr (h.0, h.1, inl ((us, refl, h.2, h.3, h.4), none))
  reached o k (Err (faults.Text roles.File kind place)) h j =
      inr (h.0, h.1, inr (h.2, inr (h.3, inl ((kind, place, refl, h.4.0), h.4.1))))
  reached o k (Err (faults.Text roles.Schema kind place)) h j = absurd h.4
  reached o k (Err (faults.Text roles.Output kind place)) h j = absurd h.4
  reached o k (Err (faults.Text roles.Certificate kind place)) h j = absurd h.4
  reached o k (Err (faults.Findings p)) h j =
      inr (h.0, h.1, inr (h.2, inr (h.3, inr (h.4.0.0, h.4.0.1, inl ((p, refl, h.4.0.2, h.4.0.3), h.4.1)))))
  reached o k (Err (faults.Refused role findings rules)) h j = absurd h.4
  reached o k (Err (faults.Certificate refusal)) h j = absurd h.4
  reached o k (Err (faults.Device role written)) h j = absurd j
  reached o k (Err faults.Memory) h j = absurd j

  -- one chosen name is the first that is no entity
  names_once : (s : Schema) (f g : SchemaFault) → IsUnknownChoice s c f → IsUnknownChoice s c g → SameFault f g
  names_once s (schemas.Name kind name) (schemas.Name other again) h k =
      let names : Some (string_bytes name) ≡ Some (string_bytes again) = sym h.1 ∙ k.1 in (h.0 ∙ sym k.0, (cc))
  names_once s (schemas.Name kind name) (schemas.Text fault place) h k = absurd k
  names_once s (schemas.Name kind name) schemas.Memory h k = absurd k
  names_once s (schemas.Text fault place) g h k = absurd h
  names_once s schemas.Memory g h k = absurd h

  not_unknown : (s : Schema) → unknown_choice s c ≡ None → (f : SchemaFault) → IsUnknownChoice s c f → ⊥
  not_unknown s known (schemas.Name kind name) h = absurd (let clash = sym known ∙ h.1 in cc)
  not_unknown s known (schemas.Text kind place) h = h
  not_unknown s known schemas.Memory h = h

  -- a file that is merged has no findings
  merged_is_clean : ConformsWhereNothingIsFound → (s : Schema) (f : File) (output certificate : List ℕ) (m : Summary) (p : Report)
      → IsDone s (merge_options s c) bytes output certificate m → HasFile f bytes
      → IsReport s c.other_names f p → IsClean p
  merged_is_clean law s f output certificate m p done has report =
      let said : Said s = done.merged.some_said in
      let input : IsMergeInput s said (merge_options s c) bytes = (done.merged.merge said).input in
      let one = reads_once bytes input.header_bytes has.header_bytes input.file f input.reads has.reads in
      (law s said c.other_names f p.findings.items p.rule_findings.items p.unknown report.findings).1
      (subst (FileConforms s said c.other_names) one.1 input.conforms)

  -- what two answers say is what they are
  says : (r q x y : Result Summary Fault) → r ≡ x → q ≡ y → SummariesSayTheSame x y → SummariesSayTheSame r q
  says r q x y e d h = subst (λ z. SummariesSayTheSame z q) (sym e) (subst (SummariesSayTheSame x) (sym d) h)

  module _ (output certificate again recertified : List ℕ) (r q : Result Summary Fault) (reports : ReportsAreOne)
      (tables : StandardIsUnique) (law : ConformsWhereNothingIsFound) where
    abbrev AreTheSame : Type 0
    AreTheSame = SummariesSayTheSame r q × (again ≡ output) × (recertified ≡ certificate)

    neither : SummariesSayTheSame r q → AreUnwritten output certificate → AreUnwritten again recertified → AreTheSame
    neither h a b = (h, b.0 ∙ sym a.0, b.1 ∙ sym a.1)

    at_found : (s : Schema) (f : File) → HasFile f bytes → AtFound output certificate r s f
        → AtFound again recertified q s f → AreTheSame
    at_found s f has (inl a) (inl b) =
        neither (says r q (Err (faults.Findings a.0.0)) (Err (faults.Findings b.0.0)) a.0.1 b.0.1
        (reports s c.other_names f a.0.0 b.0.0 a.0.2 b.0.2)) a.1 b.1
    at_found s f has (inl a) (inr b) =
        absurd (a.0.3 (merged_is_clean law s f again recertified b.0 a.0.0 b.2 has a.0.2))
    at_found s f has (inr a) (inl b) =
        absurd (b.0.3 (merged_is_clean law s f output certificate a.0 b.0.0 a.2 has b.0.2))
    at_found s f has (inr a) (inr b) =
        let one =
        done_once s (merge_options s c) bytes output certificate again recertified a.0 b.0 reports tables a.2 b.2 in
        (says r q (Ok a.0) (Ok b.0) a.1 b.1 one.0, one.1, one.2)

    at_file : (s : Schema) → AtFile output certificate r s → AtFile again recertified q s → AreTheSame
    at_file s (inl a) (inl b) =
        let one = file_faults_once bytes a.0.0 b.0.0 a.0.1 b.0.1 a.0.3 b.0.3 in
        neither (says r q (Err (faults.Text roles.File a.0.0 a.0.1)) (Err (faults.Text roles.File b.0.0 b.0.1)) a.0.2 b.0.2
        (refl, one.0, one.1)) a.1 b.1
    at_file s (inl a) (inr b) = absurd (no_file_fault bytes b.0 b.1 a.0.0 a.0.1 a.0.3)
    at_file s (inr a) (inl b) = absurd (no_file_fault bytes a.0 a.1 b.0.0 b.0.1 b.0.3)
    at_file s (inr a) (inr b) =
        at_found s a.0 a.1 a.2
        (subst (λ f. AtFound again recertified q s f) (files_once bytes b.0 a.0 b.1 a.1) b.2)

    at_choice : (s : Schema) → AtChoice output certificate r s → AtChoice again recertified q s → AreTheSame
    at_choice s (inl a) (inl b) =
        neither (says r q (Err (faults.Schema a.0.0)) (Err (faults.Schema b.0.0)) a.0.1 b.0.1
        (names_once s a.0.0 b.0.0 a.0.2 b.0.2)) a.1 b.1
    at_choice s (inl a) (inr b) = absurd (not_unknown s b.0 a.0.0 a.0.2)
    at_choice s (inr a) (inl b) = absurd (not_unknown s a.0 b.0.0 b.0.2)
    at_choice s (inr a) (inr b) = at_file s a.1 b.1

    at_parts : (s : Schema) → AtParts output certificate r s → AtParts again recertified q s → AreTheSame
    at_parts s (inl a) (inl b) =
        neither (says r q (Err (faults.Unchecked a.0.0)) (Err (faults.Unchecked b.0.0)) a.0.1 b.0.1
        (parts-one s a.0.0.items b.0.0.items a.0.3 b.0.3, as_many s a.0.0.items b.0.0.items a.0.3 b.0.3)) a.1 b.1
    at_parts s (inl a) (inr b) = absurd (none_unchecked s a.0.0.items (b.0 a.0.2) a.0.3 a.0.4)
    at_parts s (inr a) (inl b) = absurd (none_unchecked s b.0.0.items (a.0 b.0.2) b.0.3 b.0.4)
    at_parts s (inr a) (inr b) = at_choice s a.1 b.1

    at_schema : AtSchema output certificate r → AtSchema again recertified q → AreTheSame
    at_schema (inl a) (inl b) =
        neither (says r q (Err (faults.Schema a.0.0)) (Err (faults.Schema b.0.0)) a.0.1 b.0.1
        (schema_faults_once text a.0.0 b.0.0 a.0.2 b.0.2)) a.1 b.1
    at_schema (inl a) (inr b) = absurd (no_schema_fault text b.0 b.1 a.0.0 a.0.2)
    at_schema (inr a) (inl b) = absurd (no_schema_fault text a.0 a.1 b.0.0 b.0.2)
    at_schema (inr a) (inr b) =
        at_parts a.0 a.2 (subst (λ s. AtParts again recertified q s) (schemas_once text b.0 a.0 b.1 a.1) b.2)

pub answers_are_one : ReportsAreOne → StandardIsUnique → ConformsWhereNothingIsFound → ShrinkAnswersAreOne
answers_are_one reports tables law c strict text bytes output certificate again recertified r q h k i j =
    at_schema c strict text bytes output certificate again recertified r q reports tables law
    (reached c strict text bytes output certificate r h i) (reached c strict text bytes again recertified q k j)
