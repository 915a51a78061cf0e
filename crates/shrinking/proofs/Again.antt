-- A run on what a run wrote.
use Rattle.std.specs.Prelude.{◌≡◌, ◌<◌, ◌^◌, ℕ, Bool, List, length, Result, Ok, Err, None}
use Rattle.std.proofs.Common.{sym, subst, ◌∙◌, inl, inr}
use Rattle.step_structures.specs.Trees.{File}
use Rattle.step_structures.proofs.Once as texts
use Rattle.express_syntax.specs.Schemas.{Schema}
use Rattle.express_syntax.specs.declared.fault.SchemaFault.{SchemaFault}
use Rattle.express_syntax.specs.declared.fault.SchemaFault.TheVariants as schemas
use Rattle.express_syntax.proofs.UniqueSchemas.{one_schema}
use Rattle.schema_semantics.specs.Parts.{AreUnchecked}
use Rattle.schema_unchecked_declarations.specs.UncheckedLists.{unchecked_in}
use Rattle.conformance.specs.Choices.{Choice, merge_options, unknown_choice}
use Rattle.conformance.specs.SchemaMeanings.{FileConforms}
use Rattle.file_findings.specs.Findings.{ConformsWhereNothingIsFound}
use Rattle.merge_theorems.specs.Headline.{SecondMergesStay}
use Rattle.files.specs.declared.fault.Role.TheVariants as roles
use Rattle.reports.specs.declared.fault.Fault.{Fault}
use Rattle.reports.specs.declared.fault.Fault.TheVariants as faults
use Rattle.checking.specs.Checks.{IsResolvedSchemaText}
use Rattle.checking.specs.Reporting.{IsReport}
use Rattle.checking.proofs.Texts.{no_schema_fault}
use Rattle.shrinking.specs.declared.summary.Summary.{Summary}
use Rattle.shrinking.specs.Shrinking.{Passes, IsUnknownChoice, IsDone, ShrinkAnswers}
use Rattle.shrinking.specs.Laws.{OwnOutputsPass, SecondShrinksStay, Stays}
use Rattle.shrinking.proofs.Refusing.{none_unchecked}

pub own_outputs_pass : ConformsWhereNothingIsFound → OwnOutputsPass
own_outputs_pass law s chosen bytes output merged =
    let said = merged.some_said in
    let header_bytes = (merged.merge said).input.header_bytes in
    let least = merged.least said in (
      λ kind place o. elim o [
        | inl long ↦ long.0
        | inr short ↦ absurd (texts.reads_no_fault output header_bytes least.file kind place least.reads short.1)
      ],
      λ f r has report.
          let one = texts.reads_once output has.header_bytes header_bytes f least.file has.reads least.reads in
          (law s said chosen.other_names f r.findings.items r.rule_findings.items r.unknown report.findings).1
          (subst (FileConforms s said chosen.other_names) (sym one.1) least.conforms),
    )

module _ (c : Choice) (strict : Bool) (text bytes output certificate : List ℕ) (s : Schema) (m : Summary)
    (has : IsResolvedSchemaText s text) (passes : Passes strict s) (known : unknown_choice s c ≡ None)
    (done : IsDone s (merge_options s c) bytes output certificate m) where
  -- the second run reads the same schema
  one : (t : Schema) → IsResolvedSchemaText t text → t ≡ s
  one t other = one_schema text t s other.reads has.reads

  not_unknown : (t : Schema) (f : SchemaFault) → t ≡ s → IsUnknownChoice t c f → ⊥
  not_unknown t (schemas.Name kind name) e h =
      let no = subst (λ u. IsUnknownChoice u c (schemas.Name kind name)) e h in
      absurd (let clash = sym known ∙ no.1 in cc)
  not_unknown t (schemas.Text kind place) e h = h
  not_unknown t schemas.Memory e h = h

  stays : OwnOutputsPass → SecondMergesStay → (again recertified : List ℕ) (r : Result Summary Fault)
      → ShrinkAnswers c strict text output again recertified r → Stays output again r
  stays own stay again recertified (Ok n) h =
      let redone : IsDone s (merge_options s c) output again recertified n =
      subst (λ u. IsDone u (merge_options u c) output again recertified n) (one h.0 h.1) h.4 in
      let said = done.merged.some_said in
      stay s said (merge_options s c) bytes output again (done.merged.merge said) (redone.merged.merge said)
  stays own stay again recertified (Err (faults.Schema f)) (inl h, none) = absurd (no_schema_fault text s has f h)
  stays own stay again recertified (Err (faults.Schema f)) (inr h, none) = absurd (not_unknown h.0 f (one h.0 h.1) h.3)
  stays own stay again recertified (Err (faults.Unchecked us)) (h, none) =
      absurd (none_unchecked s us.items (passes h.2)
      (subst (λ u. ∥ AreUnchecked u (unchecked_in us.items) ∥₁) (one h.0 h.1) h.3) h.4)
  stays own stay again recertified (Err (faults.Text roles.File kind place)) h =
      (own s (merge_options s c) bytes output done.merged).0 kind place h.4.0
  stays own stay again recertified (Err (faults.Text roles.Schema kind place)) h = absurd h.4
  stays own stay again recertified (Err (faults.Text roles.Output kind place)) h = absurd h.4
  stays own stay again recertified (Err (faults.Text roles.Certificate kind place)) h = absurd h.4
  stays own stay again recertified (Err (faults.Findings r)) h =
      let f : File = h.4.0.0 in
      absurd (h.4.0.3 ((own s (merge_options s c) bytes output done.merged).1 f r h.4.0.1
      (subst (λ u. IsReport u c.other_names f r) (one h.0 h.1) h.4.0.2)))
  stays own stay again recertified (Err (faults.Refused role findings rules)) h = absurd h.4
  stays own stay again recertified (Err (faults.Certificate refusal)) h = absurd h.4
  stays own stay again recertified (Err (faults.Device role written)) h = tt
  stays own stay again recertified (Err faults.Memory) h = tt

pub second_runs_stay : OwnOutputsPass → SecondMergesStay → SecondShrinksStay
second_runs_stay own stay c strict text bytes output certificate again recertified m result first =
    stays c strict text bytes output certificate first.0 m first.1 first.2 first.3 first.4 own stay again recertified
    result
