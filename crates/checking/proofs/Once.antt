-- What a file is told is one text.
use Rattle.std.specs.Prelude.{◌≡◌, ℕ, suc, ◌+◌, List, [], ◌∷◌, ◌++◌, length, flat_map, codes, decimal}
use Rattle.std.specs.List.{AllZip}
use Rattle.std.proofs.Common.{refl, sym, ap, subst, ◌∙◌}
use Rattle.std.proofs.Math.Logic.{∥∥₁_elim}
use Rattle.std.proofs.Math.Nat.{ℕ_set}
use Rattle.std.proofs.Props.{props}
use Rattle.std.proofs.lemmas.List.Concat.{flat_map-cons}
use Rattle.express_syntax.specs.Schemas.{Schema}
use Rattle.schema_semantics.specs.Parts.{Unchecked, AreUnchecked, dotted}
use Rattle.schema_semantics.proofs.Listed.{unchecked-are-one}
use Rattle.schema_unchecked_declarations.specs.UncheckedLists.{unchecked_of, unchecked_in}
use Rattle.schema_unchecked_declarations.specs.declared.list.Unchecked.{Unchecked as Part}
use Rattle.conformance.specs.declared.finding.Finding.{Finding}
use Rattle.conformance.specs.Populations.{Instance}
use Rattle.conformance.specs.RuleFindings.{Breach}
use Rattle.conformance.specs.SchemaMeanings.{Said, instances}
use Rattle.schema_constraints.specs.Findings.{IsFindingOf, AreFindingsOf}
use Rattle.schema_constraints.specs.declared.finding.RuleFinding.{RuleFinding}
use Rattle.schema_constraints.specs.declared.finding.RuleFindingKind.{RuleFindingKind}
use Rattle.file_findings.specs.Findings.{AreBehind}
use Rattle.reports.specs.Lines.{part_text, reason_text, unchecked_line, finding_line, rule_finding_text, rule_finding_line, count_line}
use Rattle.checking.specs.Reporting.{ReportsAreOne}

one-text : (a b : List ℕ) → IsProp (a ≡ b)
one-text a b = hlevel (props, ℕ_set)

-- the line of a part, by what is said of it
part_line : Unchecked → List ℕ
part_line u =
    codes "unchecked " ++ part_text u.kind ++ codes " " ++ u.name ++ codes " " ++ reason_text u.reason ++ 10 ∷ []

part-lines : (us : List Part) → flat_map unchecked_line us ≡ flat_map part_line (unchecked_in us)
unfolding part_line
part-lines [] = refl
part-lines (u ∷ us) =
    flat_map-cons unchecked_line u us ∙ ap (λ l. unchecked_line u ++ l) (part-lines us)
    ∙ sym (flat_map-cons part_line (unchecked_of u) (unchecked_in us))

pub parts-one : (s : Schema) (us vs : List Part) → ∥ AreUnchecked s (unchecked_in us) ∥₁ → ∥ AreUnchecked s (unchecked_in vs) ∥₁
    → flat_map unchecked_line us ≡ flat_map unchecked_line vs
parts-one s us vs h k =
    ∥∥₁_elim h (one-text _ _) (λ a. ∥∥₁_elim k (one-text _ _) (λ b.
    part-lines us ∙ ap (flat_map part_line) (unchecked-are-one s (unchecked_in us) (unchecked_in vs) a b)
    ∙ sym (part-lines vs)))

-- findings that have the same lines, in turn
abbrev HaveOneLine : RuleFinding → RuleFinding → Type 0
HaveOneLine g h = rule_finding_line g ≡ rule_finding_line h

abbrev told : RuleFindingKind → Breach → List ℕ
told kind b =
    rule_finding_text kind ++ codes " #" ++ decimal b.instance ++ codes " " ++ dotted b.holder b.label ++ 10 ∷ []

told-so : (kind : RuleFindingKind) (b : Breach) (g : RuleFinding) → IsFindingOf kind b g
    → rule_finding_line g ≡ told kind b
told-so kind b g h =
    λ i. rule_finding_text (h.kind i) ++ codes " #" ++ decimal (h.instance i) ++ codes " " ++ h.rule i ++ 10 ∷ []

zip-one : (kind : RuleFindingKind) (bs : List Breach) (gs hs : List RuleFinding) → AreFindingsOf kind bs gs
    → AreFindingsOf kind bs hs → AllZip HaveOneLine gs hs
zip-one kind [] [] [] h k = tt
zip-one kind [] (g ∷ gs) hs h k = absurd h
zip-one kind [] [] (f ∷ hs) h k = absurd k
zip-one kind (b ∷ bs) [] hs h k = absurd h
zip-one kind (b ∷ bs) (g ∷ gs) [] h k = absurd k
zip-one kind (b ∷ bs) (g ∷ gs) (f ∷ hs) h k =
    (told-so kind b g h.0 ∙ sym (told-so kind b f k.0), zip-one kind bs gs hs h.1 k.1)

zip-join : (es bs cs ds : List RuleFinding) → AllZip HaveOneLine es bs → AllZip HaveOneLine cs ds
    → AllZip HaveOneLine (es ++ cs) (bs ++ ds)
zip-join [] [] cs ds h k = k
zip-join [] (b ∷ bs) cs ds h k = absurd h
zip-join (a ∷ es) [] cs ds h k = absurd h
zip-join (a ∷ es) (b ∷ bs) cs ds h k = (h.0, zip-join es bs cs ds h.1 k)

zip-lines : (gs hs : List RuleFinding) → AllZip HaveOneLine gs hs
    → (flat_map rule_finding_line gs ≡ flat_map rule_finding_line hs) × (length gs ≡ length hs)
zip-lines [] [] h = (refl, refl)
zip-lines [] (f ∷ hs) h = absurd h
zip-lines (g ∷ gs) [] h = absurd h
zip-lines (g ∷ gs) (f ∷ hs) h =
    let rest = zip-lines gs hs h.1 in
    let first : rule_finding_line g ≡ rule_finding_line f = h.0 in (
      flat_map-cons rule_finding_line g gs ∙ (λ i. first i ++ rest.0 i) ∙ sym (flat_map-cons rule_finding_line f hs),
      (λ i. suc (rest.1 i)),
    )

module _ (s : Schema) (said : Said s) (is : List Instance) where
  -- rules break in one way
  behind-one : (fs : List Finding) (gs hs : List RuleFinding) (n m : ℕ) → AreBehind s said fs is gs n
      → AreBehind s said fs is hs m
      → (flat_map rule_finding_line gs ≡ flat_map rule_finding_line hs) × (length gs ≡ length hs) × (n ≡ m)
  behind-one (x ∷ xs) gs hs n m h k =
      (ap (flat_map rule_finding_line) (h.0 ∙ sym k.0), ap length (h.0 ∙ sym k.0), h.1 ∙ sym k.1)
  behind-one [] gs hs n m h k =
      let a = zip-one _ _ h.wheres k.wheres h.are_false k.are_false in
      let b = zip-one _ _ h.uniques k.uniques h.are_broken k.are_broken in
      let c = zip-one _ _ h.bounds k.bounds h.are_exceeded k.are_exceeded in
      let all = zip-lines (h.wheres ++ h.uniques ++ h.bounds) (k.wheres ++ k.uniques ++ k.bounds)
      (zip-join (h.wheres ++ h.uniques) (k.wheres ++ k.uniques) h.bounds k.bounds
      (zip-join h.wheres k.wheres h.uniques k.uniques a b) c) in (
        ap (flat_map rule_finding_line) h.all ∙ all.0 ∙ sym (ap (flat_map rule_finding_line) k.all),
        ap length h.all ∙ all.1 ∙ sym (ap length k.all),
        h.are_unknown ∙ sym k.are_unknown,
      )

pub reports_are_one : ReportsAreOne
reports_are_one s others f r q h k =
    let said : Said s = h.findings.0 in
    let one = h.findings.1 said in
    let other = k.findings.1 said in
    let same : r.findings.items ≡ q.findings.items = one.0 ∙ sym other.0 in
    let rules = behind-one s said (instances s said f) r.findings.items r.rule_findings.items q.rule_findings.items
    r.unknown q.unknown one.1
    (subst (λ fs. AreBehind s said fs (instances s said f) q.rule_findings.items q.unknown) (sym same) other.1) in
    let parts = parts-one s r.unchecked.items q.unchecked.items h.unchecked k.unchecked in
    let many : r.instances ≡ q.instances = h.instances ∙ sym k.instances in
    λ i. parts i ++ flat_map finding_line (same i) ++ rules.0 i ++ count_line (codes "instances ") (many i)
    ++ count_line (codes "unknown ") (rules.2 i) ++ count_line (codes "findings ") (length (same i) + rules.1 i)
