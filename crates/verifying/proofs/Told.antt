-- What findings of rules say is one.
use Rattle.std.specs.Prelude.{◌≡◌, ℕ, List, [], ◌∷◌, ◌++◌, map}
use Rattle.std.proofs.Common.{refl, sym, ap, ◌∙◌}
use Rattle.std.proofs.lemmas.List.{map-append}
use Rattle.express_syntax.specs.Schemas.{Schema}
use Rattle.schema_semantics.specs.Names.{Name}
use Rattle.schema_semantics.specs.Parts.{dotted}
use Rattle.schema_constraints.specs.Findings.{IsFindingOf, AreFindingsOf}
use Rattle.schema_constraints.specs.declared.finding.RuleFinding.{RuleFinding}
use Rattle.schema_constraints.specs.declared.finding.RuleFindingKind.{RuleFindingKind}
use Rattle.schema_constraints.specs.declared.finding.RuleFindingKind.TheVariants.{WhereFalse, UniqueBroken, InverseBound}
use Rattle.conformance.specs.declared.finding.Finding.{Finding}
use Rattle.conformance.specs.DomainFindings.{rule_findings}
use Rattle.conformance.specs.Populations.{Instance}
use Rattle.conformance.specs.RuleFindings.{Breach, unique_findings, inverse_findings}
use Rattle.conformance.specs.SchemaMeanings.{Said}
use Rattle.file_findings.specs.Findings.{AreRuleFindings, AreBehind}
use Rattle.verifying.specs.Laws.{told}

told_of : RuleFindingKind → Breach → RuleFindingKind × ℕ × Name
told_of kind b = (kind, b.instance, dotted b.holder b.label)

-- a finding says what the breach says
told_so : (kind : RuleFindingKind) (bs : List Breach) (gs : List RuleFinding) → AreFindingsOf kind bs gs
    → map told gs ≡ map (told_of kind) bs
unfolding told_of
told_so kind [] [] h = refl
told_so kind [] (g ∷ gs) h = absurd h
told_so kind (b ∷ bs) [] h = absurd h
told_so kind (b ∷ bs) (g ∷ gs) h =
    let first : IsFindingOf kind b g = h.0 in
    let rest = told_so kind bs gs h.1 in
    λ i. (first.kind i, first.instance i, first.rule i) ∷ rest i

three : (xs ys zs : List RuleFinding) → map told (xs ++ ys ++ zs) ≡ map told xs ++ map told ys ++ map told zs
three xs ys zs = map-append told (xs ++ ys) zs ∙ ap (λ l. l ++ map told zs) (map-append told xs ys)

module _ (s : Schema) (said : Said s) (is : List Instance) where
  all_told : (gs : List RuleFinding) (n : ℕ) → AreRuleFindings s said is gs n → map told gs
      ≡ map (told_of WhereFalse) (rule_findings s said.domain said.entities said.attributes is said.conditions)
      ++ map (told_of UniqueBroken) (unique_findings said.rules is)
      ++ map (told_of InverseBound) (inverse_findings said.rules is)
  all_told gs n h =
      let a = told_so WhereFalse _ h.wheres h.are_false in
      let b = told_so UniqueBroken _ h.uniques h.are_broken in
      let c = told_so InverseBound _ h.bounds h.are_exceeded in
      ap (map told) h.all ∙ three h.wheres h.uniques h.bounds ∙ (λ i. a i ++ b i ++ c i)

  -- whichever findings tell it
  pub told_once : (fs : List Finding) (gs hs : List RuleFinding) (n m : ℕ) → AreBehind s said fs is gs n
      → AreBehind s said fs is hs m → map told gs ≡ map told hs
  told_once (x ∷ xs) gs hs n m h k = ap (map told) (h.0 ∙ sym k.0)
  told_once [] gs hs n m h k = all_told gs n h ∙ sym (all_told hs m k)
