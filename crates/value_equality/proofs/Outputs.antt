-- A valid table and the quotient by its last partition prove a least image.
use Rattle.std.proofs.Common.{◌≤◌, ℕ, Bool, List, sym, ◌∙◌, subst, length, arith}
use Rattle.std.specs.Prelude.{◌==◌}
use Rattle.value_equality.specs.Rows.{Row, names, row_at, IsPopulation, RowsAgree, SamePopulation}
use Rattle.value_equality.specs.ValueEquality.{IsValueEquality}
use Rattle.value_equality.specs.Images.{IsImage, head_of, quotient}
use Rattle.value_equality.specs.Tables.{shares}
use Rattle.value_equality.specs.Laws.{CertificatesProve}
use Rattle.value_equality.proofs.Lookup.{same_row}
use Rattle.step_values.proofs.Agreement.{agree_each_sym, agree_each_trans, eqb_trans}
use Rattle.value_equality.proofs.Congruences.{congruence}
use Rattle.value_equality.proofs.Quotients.{quotient_image}
use Rattle.value_equality.proofs.Counting.{quotient_least, apart_no_more}
use Rattle.value_equality.proofs.Rounds.{tables_decide}

pub rows_agree_sym : (p q : Row) → RowsAgree p q → RowsAgree q p
rows_agree_sym p q a = record {
  same_kind = sym a.same_kind;
  values_agree = agree_each_sym p.values q.values a.values_agree;
}

pub rows_agree_trans : (p q r : Row) → RowsAgree p q → RowsAgree q r → RowsAgree p r
rows_agree_trans p q r a b = record {
  same_kind = a.same_kind ∙ b.same_kind;
  values_agree = agree_each_trans (◌==◌) (◌==◌) (◌==◌) eqb_trans p.values q.values r.values a.values_agree
      b.values_agree;
}

pub same_population_sym : (P Q : List Row) → SamePopulation P Q → SamePopulation Q P
same_population_sym P Q same = record {
  there = λ x q e.
      let n = same.back x (q, e) in
      let found = same.there x n.0 n.1 in
      (n.0, n.1, rows_agree_sym n.0 q (subst (λ (r : Row). RowsAgree n.0 r) (same_row (row_at Q x) found.1 e) found.2));
  back = λ x n. let found = same.there x n.0 n.1 in (found.0, found.1);
}

-- what is the same as an image is an image
pub image_of_same : (P Q R : List Row) (h : ℕ → ℕ) (pinned : ℕ → Bool) → IsImage P Q h pinned → SamePopulation Q R
    → IsImage P R h pinned
image_of_same P Q R h pinned image same = record {
  lands = λ x p e.
      let landed = image.lands x p e in
      let found = same.there (h x) landed.0 landed.1 in
      (found.0, found.1, rows_agree_trans _ landed.0 found.0 landed.2 found.2);
  onto = λ y n. image.onto y (same.back y n);
  alone = image.alone;
}

same_population_length : (P Q : List Row) → IsPopulation P → SamePopulation P Q → length P ≤ length Q
same_population_length P Q population same =
    apart_no_more (λ x. x) P Q population.distinct (λ a b n m e. e) (λ a n. let found = same.there a n.0 n.1 in
    (found.0, found.1))

pub certificates_prove : CertificatesProve
certificates_prove P out pinned t population valid good same =
    let E : ℕ → ℕ → Bool = shares t t.rounds in
    let equal : IsValueEquality P pinned E = tables_decide P pinned t population valid in
    let image = quotient_image P pinned E (congruence P pinned E population equal) in (
      image_of_same P (quotient P E) out (head_of (names P) E) pinned image
          (same_population_sym out (quotient P E) same),
      λ bags Q h other.
          let fewer = same_population_length out (quotient P E) good same in
          let least = quotient_least P Q pinned E h population bags equal other in
          omega (arith, fewer, least),
    )
