-- Where something else is found, nothing is said of rules; and where there are no rules, nothing is found of them.
use Rattle.std.specs.Prelude.{◌≡◌, ◌≢◌, ℕ, List, [], ◌∷◌, ◌++◌, length, map, filter, flat_map}
use Rattle.std.proofs.Common.{refl, sym, ap, subst, ◌∙◌}
use Rattle.std.proofs.lemmas.List.Concat.{flat_map-cons}
use Rattle.express_syntax.specs.Schemas.{Schema}
use Rattle.conformance.specs.Populations.{Instance}
use Rattle.conformance.specs.declared.finding.Finding.{Finding}
use Rattle.conformance.specs.Rules.{InverseAttribute, AreRules}
use Rattle.conformance.specs.RuleFindings.{Breach, breaks, breaches_of_unique, unique_findings, breaches_of_inverse, inverse_findings}
use Rattle.conformance.specs.DomainRules.{DomainRule, AreDomainRules}
use Rattle.conformance.specs.DomainFindings.{rule_findings, unknown, breaches_at, outcome, is_unknown}
use Rattle.schema_constraints.specs.Findings.{AreFindingsOf}
use Rattle.schema_constraints.specs.declared.finding.RuleFinding.{RuleFinding}
use Rattle.schema_constraints.specs.declared.finding.RuleFindingKind.{RuleFindingKind}
use Rattle.schema_constraints.specs.declared.finding.RuleFindingKind.TheVariants.{WhereFalse, UniqueBroken, InverseBound}
use Rattle.schema_constraints.specs.declared.tables.RuleTables.{RuleTables}
use Rattle.schema_constraints.specs.RuleViews.{rules_seen, unique_seen, inverse_seen}
use Rattle.schema_domain_rules.specs.RuleViews.{rule_seen}
use Rattle.schema_resolution.specs.declared.findings.DomainTables.{DomainTables}
use Rattle.rule_outcomes.specs.ReportCounts.{capped}
use Rattle.conformance.specs.SchemaMeanings.{Said}
use Rattle.conformance.proofs.RuleOneness.{rules_are_one}
use Rattle.conformance.proofs.MeaningOneness.{domain_rules_are_one}
use Rattle.file_findings.specs.Findings.{AreBehind}
use Rattle.file_findings.specs.steps.Sparing.{IsWithout}

pub none-behind : (s : Schema) (said : Said s) (fs : List Finding) → fs ≢ [] → (is : List Instance)
    (gs : List RuleFinding) (n : ℕ) → gs ≡ [] → n ≡ 0 → AreBehind s said fs is gs n
none-behind s said [] some is gs n e z = absurd (some refl)
none-behind s said (x ∷ xs) some is gs n e z = (e, z)

flat-none : {A B : Type 0} (f : A → List B) → ((x : A) → f x ≡ []) → (xs : List A) → flat_map f xs ≡ []
flat-none f none [] = refl
flat-none f none (x ∷ xs) = flat_map-cons f x xs ∙ ap (λ l. l ++ flat_map f xs) (none x) ∙ flat-none f none xs

zipped : (kind : RuleFindingKind) (bs : List Breach) → bs ≡ [] → AreFindingsOf kind bs []
zipped kind bs e = subst (λ bs. AreFindingsOf kind bs []) (sym e) tt

module _ (s : Schema) (said : Said s) (t : RuleTables) (rules : AreRules s said.domain (rules_seen s t))
    (domain : DomainTables) (conditions : AreDomainRules s (map (rule_seen s) domain.rules.items))
    (without : IsWithout t domain) (is : List Instance) where
  one : (unique_findings (rules_seen s t) is ≡ unique_findings said.rules is)
      × (inverse_findings (rules_seen s t) is ≡ inverse_findings said.rules is)
  one =
      let all = rules_are_one s said.domain said.entities (rules_seen s t) said.rules said.resolved rules said.are_rules
      is in
      (all.1, all.2)

  unique : unique_findings said.rules is ≡ []
  unique = sym one.0 ∙ ap (λ us. flat_map (breaches_of_unique is) (map (unique_seen s) us)) without.0

  inverse : inverse_findings said.rules is ≡ []
  inverse =
      sym one.1
      ∙ flat-none (breaches_of_inverse (rules_seen s t) is)
      (λ x. ap (λ us. map (λ (i : InverseAttribute). record { instance = x.name; holder = i.entity; label = i.name })
      (filter (breaks is x) (map (inverse_seen s) us))) without.1) is

  no-conditions : said.conditions ≡ []
  no-conditions =
      sym (domain_rules_are_one s (map (rule_seen s) domain.rules.items) said.conditions conditions said.are_conditions)
      ∙ ap (map (rule_seen s)) without.2

  none-false : rule_findings s said.domain said.entities said.attributes is said.conditions ≡ []
  none-false =
      ap (λ cs. rule_findings s said.domain said.entities said.attributes is cs) no-conditions
      ∙ flat-none (breaches_at s said.domain said.entities said.attributes is []) (λ x. refl) is

  open-pairs : unknown s said.domain said.entities said.attributes is said.conditions ≡ 0
  open-pairs =
      ap (λ cs. unknown s said.domain said.entities said.attributes is cs) no-conditions
      ∙ ap length (flat-none (λ (x : Instance). filter (λ (r : DomainRule). is_unknown
      (outcome s said.domain said.entities said.attributes is x r)) []) (λ x. refl) is)

  -- Where there are no rules, nothing breaks them.
  pub no-rules-behind : (fs : List Finding) (gs : List RuleFinding) (n : ℕ) → gs ≡ [] → n ≡ 0
      → AreBehind s said fs is gs n
  no-rules-behind (x ∷ xs) gs n e z = (e, z)
  no-rules-behind [] gs n e z = record {
    wheres = [];
    uniques = [];
    bounds = [];
    all = e;
    are_false = zipped WhereFalse _ none-false;
    are_broken = zipped UniqueBroken _ unique;
    are_exceeded = zipped InverseBound _ inverse;
    are_unknown = z ∙ sym (ap capped open-pairs);
  }
