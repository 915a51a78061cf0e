-- Where nothing is found a file conforms, and nothing is found of one that conforms.
use Rattle.std.specs.Prelude.{◌≡◌, List, [], ◌∷◌, ◌++◌}
use Rattle.std.proofs.Common.{refl, sym, subst, ◌∙◌}
use Rattle.conformance.specs.Findings.{findings}
use Rattle.conformance.specs.RuleFindings.{Breach, unique_findings, inverse_findings}
use Rattle.conformance.specs.DomainFindings.{rule_findings}
use Rattle.conformance.specs.SchemaMeanings.{instances, FileConforms}
use Rattle.schema_constraints.specs.Findings.{AreFindingsOf}
use Rattle.schema_constraints.specs.declared.finding.RuleFinding.{RuleFinding}
use Rattle.schema_constraints.specs.declared.finding.RuleFindingKind.{RuleFindingKind}
use Rattle.schema_constraints.specs.declared.finding.RuleFindingKind.TheVariants.{WhereFalse, UniqueBroken, InverseBound}
use Rattle.file_findings.specs.Findings.{AreRuleFindings, AreBehind, ConformsWhereNothingIsFound}

none_zipped : (k : RuleFindingKind) (bs : List Breach) → AreFindingsOf k bs [] → bs ≡ []
none_zipped k [] h = refl
none_zipped k (b ∷ bs) h = absurd h

zipped_none : (k : RuleFindingKind) (gs : List RuleFinding) → AreFindingsOf k [] gs → gs ≡ []
zipped_none k [] h = refl
zipped_none k (g ∷ gs) h = absurd h

front_none : (xs ys : List RuleFinding) → [] ≡ xs ++ ys → xs ≡ []
front_none [] ys e = refl
front_none (x ∷ xs) ys e = absurd (cc)

back_none : (xs ys : List RuleFinding) → [] ≡ xs ++ ys → ys ≡ []
back_none [] ys e = sym e
back_none (x ∷ xs) ys e = absurd (cc)

pub conforms_where_nothing_is_found : ConformsWhereNothingIsFound
conforms_where_nothing_is_found s said others f fs gs n are = (to, from)
  where
    at : (fs ≡ findings s said.domain said.entities others f) × AreBehind s said fs (instances s said f) gs n
    at = are.1 said

    rules : fs ≡ [] → AreRuleFindings s said (instances s said f) gs n
    rules e = subst (λ l. AreBehind s said l (instances s said f) gs n) e at.1

    to : (fs ≡ []) × (gs ≡ []) → FileConforms s said others f
    to e =
        let r = rules e.0 in
        let all : [] ≡ r.wheres ++ r.uniques ++ r.bounds = sym e.1 ∙ r.all in
        let rest = front_none (r.wheres ++ r.uniques) r.bounds all in
        record {
          nothing = sym at.0 ∙ e.0;
          holds = none_zipped WhereFalse
              (rule_findings s said.domain said.entities said.attributes (instances s said f) said.conditions)
              (subst (λ l. AreFindingsOf WhereFalse
              (rule_findings s said.domain said.entities said.attributes (instances s said f) said.conditions) l)
              (front_none r.wheres r.uniques (sym rest)) r.are_false);
          unique = none_zipped UniqueBroken (unique_findings said.rules (instances s said f))
              (subst (λ l. AreFindingsOf UniqueBroken (unique_findings said.rules (instances s said f)) l)
              (back_none r.wheres r.uniques (sym rest)) r.are_broken);
          bounded = none_zipped InverseBound (inverse_findings said.rules (instances s said f))
              (subst (λ l. AreFindingsOf InverseBound (inverse_findings said.rules (instances s said f)) l)
              (back_none (r.wheres ++ r.uniques) r.bounds all) r.are_exceeded);
        }

    from : FileConforms s said others f → (fs ≡ []) × (gs ≡ [])
    from c =
        let none = at.0 ∙ c.nothing in
        let r = rules none in
        let a = zipped_none WhereFalse r.wheres (subst (λ l. AreFindingsOf WhereFalse l r.wheres) c.holds r.are_false) in
        let b = zipped_none UniqueBroken r.uniques
        (subst (λ l. AreFindingsOf UniqueBroken l r.uniques) c.unique r.are_broken) in
        let d = zipped_none InverseBound r.bounds
        (subst (λ l. AreFindingsOf InverseBound l r.bounds) c.bounded r.are_exceeded) in
        (none, r.all ∙ (λ i. a i ++ b i ++ d i))
