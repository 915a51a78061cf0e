-- The quotient by a congruence is an image, and a population.
use Rattle.std.proofs.Common.{◌≡◌, ℕ, Bool, true, false, cond, List, Some, sym, ◌∙◌, ap, subst, ◌⊎◌, inl, inr, eqb-true}
use Rattle.std.specs.Prelude.{◌==◌, ◌||◌}
use Rattle.std.proofs.lemmas.Bool.{or_left, or_right}
use Rattle.step_values.specs.Values.{AgreeEach}
use Rattle.step_values.specs.References.{renamed_each, EachReferenceOf}
use Rattle.value_equality.specs.Rows.{Row, names, row_kind, row_at, IsName, IsPopulation, RowsAgree, renamed_row}
use Rattle.value_equality.specs.ValueEquality.{under, IsCongruence}
use Rattle.value_equality.specs.Images.{IsImage, head_of, quotient}
use Rattle.value_equality.specs.Laws.{QuotientsAreImages}
use Rattle.value_equality.proofs.Lookup.{same_row}
use Rattle.step_values.proofs.References.{each_renamed_of}
use Rattle.step_values.proofs.Renaming.{agree_each_renamed}
use Rattle.value_equality.proofs.Heads.{head_found, one_head, head_head, one_class}
use Rattle.value_equality.proofs.Chosen.{quotient_row, row_of_quotient, quotient_distinct}

module _ (P : List Row) (pinned : ℕ → Bool) (E : ℕ → ℕ → Bool) (congruence : IsCongruence P pinned E) where
  abbrev head : ℕ → ℕ
  head = head_of (names P) E

  pub in_class : (x : ℕ) → IsName P x → (E (head x) x ≡ true) × IsName P (head x)
  in_class x n = head_found E P x x n (congruence.reflexive x n)

  pub same_head : (x z : ℕ) → E x z ≡ true → head x ≡ head z
  same_head x z h =
      let alike = (congruence.keeps x z h).0 in
      one_head P E congruence.symmetric congruence.transitive x z (alike.left, alike.left_is) h

  pub head_of_head : (x : ℕ) → IsName P x → head (head x) ≡ head x
  head_of_head x n = head_head P E congruence.symmetric congruence.transitive x n (congruence.reflexive x n)

  same_class : (x z : ℕ) → IsName P x → IsName P z → head x ≡ head z → E x z ≡ true
  same_class x z n m e = one_class P E congruence.symmetric congruence.transitive x z n m (congruence.reflexive x n)
      (congruence.reflexive z m) e

  under_same_head : (y z : ℕ) → under pinned E y z ≡ true → head y ≡ head z
  under_same_head y z h = go (pinned y || pinned z) h
    where
      go : (a : Bool) → cond a (y == z) (E y z) ≡ true → head y ≡ head z
      go true k = ap head (eqb-true y z k)
      go false k = same_head y z k

  -- the row of the first of x's class, in the quotient
  lands : (x : ℕ) (p : Row) → row_at P x ≡ Some p → (q : Row) × (row_at (quotient P E) (head x) ≡ Some q)
      × RowsAgree (renamed_row head p) q
  lands x p n =
      let found = in_class x (p, n) in
      let pair = congruence.keeps x (head x) (congruence.symmetric (head x) x found.0) in
      let same : pair.0.left ≡ p = same_row (row_at P x) pair.0.left_is n in
      let left : pair.1.left ≡ p = same_row (row_at P x) pair.1.left_is n in
      let right : pair.1.right ≡ pair.0.right = same_row (row_at P (head x)) pair.1.right_is pair.0.right_is in
      let agree = agree_each_renamed head (under pinned E) under_same_head pair.1.left.values pair.1.right.values
      pair.1.values_agree in (
        renamed_row head pair.0.right,
        quotient_row P E (head x) pair.0.right pair.0.right_is (head_of_head x (p, n)),
        record {
          same_kind = ap row_kind (sym same) ∙ pair.0.same_kind;
          values_agree = subst (λ (r : Row). AgreeEach (◌==◌) (renamed_each head p.values) (renamed_each head r.values))
              right
              (subst (λ (r : Row). AgreeEach (◌==◌) (renamed_each head r.values)
              (renamed_each head pair.1.right.values)) left agree);
        },
      )

  pub quotient_image : IsImage P (quotient P E) head pinned
  quotient_image = record {
    lands = lands;
    onto = λ y n. let from = row_of_quotient P E y n.0 n.1 in (y, (from.row, from.row_is), from.first);
    alone = λ x z n m pin e. (congruence.keeps x z (same_class x z n m e)).0.same_if_pinned
        (or_right (pinned x) (pinned z) pin);
  }

  head_named : (y : ℕ) → IsName P y → IsName (quotient P E) (head y)
  head_named y n = let top = in_class y n in (
    renamed_row head top.1.0,
    quotient_row P E (head y) top.1.0 top.1.1
        (head_of_head y n),
  )

  pub quotient_population : IsPopulation P → IsPopulation (quotient P E)
  quotient_population population = record {
    distinct = quotient_distinct P E population.distinct;
    closed = λ y q n.
        let from = row_of_quotient P E y q n in
        let closed = each_renamed_of head (IsName P) (IsName (quotient P E)) head_named from.row.values
        (population.closed y from.row from.row_is) in
        subst (λ (r : Row). EachReferenceOf (IsName (quotient P E)) r.values) (sym from.renamed) closed;
  }

  -- a class with a pinned instance has no other
  pub pinned_head : (y : ℕ) → IsName P y → (pinned y ≡ true) ⊎ (pinned (head y) ≡ true) → head y ≡ y
  pinned_head y n pin = (congruence.keeps (head y) y (in_class y n).0).0.same_if_pinned (elim pin [
    | inl py ↦ or_right (pinned (head y)) (pinned y) py
    | inr ph ↦ or_left (pinned (head y)) (pinned y) ph
  ])

pub quotients_are_images : QuotientsAreImages
quotients_are_images P pinned E population congruence = (
  quotient_image P pinned E congruence,
  quotient_population P
      pinned E congruence population,
)
