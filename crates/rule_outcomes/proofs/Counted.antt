-- Reports that go on, one rule behind the other.
use Rattle.std.specs.Prelude.{◌≡◌, ℕ, ◌+◌, ◌-◌, ◌^◌, min, List, [], ◌∷◌, ◌++◌, length}
use Rattle.std.proofs.Common.{sym, ap, subst, ◌∙◌, arith}
use Rattle.std.proofs.lemmas.Bool.Decides.{nat_tests}
use Rattle.conformance.specs.RuleFindings.{Breach}
use Rattle.schema_constraints.specs.declared.finding.RuleFinding.{RuleFinding}
use Rattle.schema_constraints.specs.declared.finding.RuleFindingKind.TheVariants.{WhereFalse}
use Rattle.schema_constraints.specs.Findings.{AreFindingsOf}
use Rattle.population_inverses.specs.steps.Findings.{Adds}
use Rattle.population_inverses.proofs.Adding.{adds-none, adds-more}
use Rattle.rule_outcomes.specs.declared.report.RuleReport.{RuleReport}
use Rattle.rule_outcomes.specs.ReportCounts.{capped, Counts, Has}

min-once : (k most : ℕ) → min (min k most + 1) most ≡ min (k + 1) most
min-once k most = grind (arith, nat_tests)

length-joined : {A : Type 0} (xs ys : List A) → length (xs ++ ys) ≡ length xs + length ys
length-joined [] ys = omega arith
length-joined (x ∷ xs) ys =
    let more = length-joined xs ys in
    omega (arith, more)

pub counts-none : (r : RuleReport) → Counts [] 0 r r
counts-none r = record {
  findings = adds-none WhereFalse r.findings.items;
  unknown = λ k e. e ∙ ap capped (omega arith);
}

pub counts-more : (xs ys : List Breach) (a b : ℕ) (old mid new : RuleReport) → Counts xs a old mid → Counts ys b mid new
    → Counts (xs ++ ys) (a + b) old new
counts-more xs ys a b old mid new h k = record {
  findings = adds-more WhereFalse xs ys old.findings.items mid.findings.items new.findings.items h.findings k.findings;
  unknown = λ n e. k.unknown (n + a) (h.unknown n e) ∙ ap capped (omega arith);
}

pub counts-joined : {A : Type 0} (xs ys : List Breach) (us ws : List A) (old mid new : RuleReport)
    → Counts xs (length us) old mid → Counts ys (length ws) mid new → Counts (xs ++ ys) (length (us ++ ws)) old new
counts-joined xs ys us ws old mid new h k =
    subst (λ n. Counts (xs ++ ys) n old new) (sym (length-joined us ws))
    (counts-more xs ys (length us) (length ws) old mid new h k)

-- one pair more
pub one-more : (n k : ℕ) → n ≡ capped k → min (n + 1) (2 ^ 64 - 1) ≡ capped (k + 1)
one-more n k e = ap (λ m. min (m + 1) (2 ^ 64 - 1)) e ∙ min-once k (2 ^ 64 - 1)

-- a report that goes on
pub has-more : {A : Type 0} (xs ys : List Breach) (us ws : List A) (old new : RuleReport) → Has xs (length us) old
    → Counts ys (length ws) old new → Has (xs ++ ys) (length (us ++ ws)) new
has-more xs ys us ws old new h k = record {
  findings = adds-more WhereFalse xs ys [] old.findings.items new.findings.items h.findings k.findings;
  unknown = k.unknown (length us) h.unknown ∙ ap capped (sym (length-joined us ws));
}

-- all that is found
pub all-findings : (bs : List Breach) (fs : List RuleFinding) → Adds WhereFalse bs [] fs → AreFindingsOf WhereFalse bs fs
all-findings bs fs (more, e, are) = subst (AreFindingsOf WhereFalse bs) (sym e) are
