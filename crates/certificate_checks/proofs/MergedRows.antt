-- The tests of a merged output decide it.
use Rattle.std.proofs.Common.{◌≡◌, ℕ, Bool, true, false, cond, List, Option, Some, None, refl, sym, ◌∙◌, ap, subst, eqb-true, eq-eqb}
use Rattle.std.specs.Prelude.{◌==◌, ◌↔◌, is_some}
use Rattle.std.specs.List.{IsDistinct, list_all}
use Rattle.std.proofs.lemmas.Bool.{and_parts, and_from, false≢true}
use Rattle.step_values.specs.References.{renamed_each}
use Rattle.step_values.specs.AgreementTests.{same_each_test}
use Rattle.step_values.proofs.Agreement.{agree_each_sym}
use Rattle.step_values.proofs.Deciding.{each_sound, each_complete}
use Rattle.value_equality.specs.Images.{head_of, quotient}
use Rattle.value_equality.specs.Rows.{Row, row_kind, names, row_at, RowsAgree, renamed_row, SamePopulation}
use Rattle.value_equality.specs.steps.ComputedKinds.{kind_test}
use Rattle.value_equality.specs.steps.ComputedImages.{row_lands}
use Rattle.value_equality.proofs.OneKind.{kinds_decide}
use Rattle.value_equality.proofs.Lookup.{same_row, held_name, name_held, row_name, all_rows, rows_all, names_all, all_names}
use Rattle.value_equality.proofs.Chosen.{quotient_row, row_of_quotient}
use Rattle.certificate_checks.specs.steps.ComputedFirsts.{first_lands, is_first}
use Rattle.certificate_checks.specs.steps.Places.{by_place}

agree_back : (p q : Row) → RowsAgree p q → RowsAgree q p
agree_back p q a = record { same_kind = sym a.same_kind; values_agree = agree_each_sym p.values q.values a.values_agree }

landed : (h : ℕ → ℕ) (p : Row) (o : Option Row) → row_lands h p o ≡ true → (q : Row) × (o ≡ Some q)
    × RowsAgree (renamed_row h p) q
landed h p None e = absurd (false≢true e)
landed h p (Some q) e =
    let parts = and_parts (kind_test (row_kind p) (row_kind q)) (same_each_test (renamed_each h p.values) q.values) e in (
      q,
      refl,
      record {
        same_kind = (kinds_decide (row_kind p) (row_kind q)).0 parts.0;
        values_agree = each_sound (renamed_each h p.values) q.values parts.1;
      },
    )

lands : (h : ℕ → ℕ) (p q : Row) (o : Option Row) → o ≡ Some q → RowsAgree (renamed_row h p) q → row_lands h p o ≡ true
lands h p q o at a =
    ap (row_lands h p) at
    ∙ and_from (kind_test (row_kind p) (row_kind q)) (same_each_test (renamed_each h p.values) q.values)
    ((kinds_decide (row_kind p) (row_kind q)).1 a.same_kind)
    (each_complete (renamed_each h p.values) q.values a.values_agree)

when_true : (b v : Bool) → cond b v true ≡ true → b ≡ true → v ≡ true
when_true true v e f = e
when_true false v e f = absurd (false≢true f)

if_true : (b v : Bool) → (b ≡ true → v ≡ true) → cond b v true ≡ true
if_true true v f = f refl
if_true false v f = refl

module _ (P out : List Row) (E : ℕ → ℕ → Bool) where
  abbrev h : ℕ → ℕ
  h = head_of (names P) E

  module _ (firsts : list_all (first_lands h out) P ≡ true) where
    -- a row that is the first of its class is in the output
    lands_there : (x : ℕ) (p : Row) → row_at P x ≡ Some p → h x ≡ x → (q : Row) × (row_at out x ≡ Some q)
        × RowsAgree (renamed_row h p) q
    lands_there x p at first =
        let name : p.name ≡ x = row_name P x p at in
        let test = all_rows (first_lands h out) P firsts x p at in
        let same : h p.name ≡ p.name = ap h name ∙ first ∙ sym name in
        let l = landed h p (row_at out (h p.name)) (when_true (h p.name == p.name) (row_lands h p (row_at out (h p.name)))
        test (eq-eqb (h p.name) p.name same)) in
        (l.0, ap (row_at out) (sym (same ∙ name)) ∙ l.1, l.2)

    pub merged_then : list_all (λ q. is_first P h q.name) out ≡ true → SamePopulation out (quotient P E)
    merged_then names_are = record {
      there = (λ x q at.
          let parts = and_parts (is_some (row_at P x)) (h x == x) (all_names (is_first P h) out names_are x (q, at)) in
          let p = held_name P x parts.0 in
          let first : h x ≡ x = eqb-true (h x) x parts.1 in
          let l = lands_there x p.0 p.1 first in
          let same : l.0 ≡ q = same_row (row_at out x) l.1 at in (
            renamed_row h p.0,
            quotient_row P E x p.0 p.1 first,
            agree_back (renamed_row h p.0) q
                (subst (RowsAgree (renamed_row h p.0)) same l.2),
          ));
      back = (λ x n.
          let f = row_of_quotient P E x n.0 n.1 in
          let l = lands_there x f.row f.row_is f.first in (l.0, l.1));
    }

  module _ (s : SamePopulation out (quotient P E)) where
    pub firsts_land : IsDistinct (◌==◌) (names P) → list_all (first_lands h out) P ≡ true
    firsts_land d = rows_all (first_lands h out) P d (λ x p at.
        if_true (h p.name == p.name) (row_lands h p (row_at out (h p.name))) (λ e.
        let name : p.name ≡ x = row_name P x p at in
        let same : h p.name ≡ p.name = eqb-true (h p.name) p.name e in
        let first : h x ≡ x = ap h (sym name) ∙ same ∙ name in
        let there = quotient_row P E x p at first in
        let q = s.back x (renamed_row h p, there) in
        let a = s.there x q.0 q.1 in
        let is : a.0 ≡ renamed_row h p = same_row (row_at (quotient P E) x) a.1 there in
        lands h p q.0 (row_at out (h p.name)) (ap (row_at out) (same ∙ name) ∙ q.1)
        (agree_back q.0 (renamed_row h p) (subst (RowsAgree q.0) is a.2))))

    pub names_first : list_all (λ q. is_first P h q.name) out ≡ true
    names_first = names_all (is_first P h) out (λ x n.
        let a = s.there x n.0 n.1 in
        let f = row_of_quotient P E x a.0 a.1 in
        and_from (is_some (row_at P x)) (h x == x) (name_held P x (f.row, f.row_is)) (eq-eqb (h x) x f.first))

module _ (P out : List Row) (E : ℕ → ℕ → Bool) (distinct : IsDistinct (◌==◌) (names P)) (hs : List ℕ)
    (leads : by_place P hs ≡ head_of (names P) E) where
  pub not_merged : list_all (first_lands (by_place P hs) out) P ≡ false
      → (false ≡ true) ↔ SamePopulation out (quotient P E)
  not_merged e = (
    λ q. absurd (false≢true q),
    λ s. sym e ∙ ap (λ h. list_all (first_lands h out) P) leads ∙ firsts_land P out E s distinct,
  )

  pub merged_where : list_all (first_lands (by_place P hs) out) P ≡ true → (b : Bool)
      → b ≡ list_all (λ q. is_first P (by_place P hs) q.name) out
      → (b ≡ true) ↔ SamePopulation out (quotient P E)
  merged_where e b f = (
    λ q. merged_then P out E (sym (ap (λ h. list_all (first_lands h out) P) leads) ∙ e)
        (sym (ap (λ h. list_all (λ q. is_first P h q.name) out) leads) ∙ sym f ∙ q),
    λ s. f ∙ ap (λ h. list_all (λ q. is_first P h q.name) out) leads ∙ names_first P out E s,
  )
