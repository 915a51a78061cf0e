-- Partition refinement, as a test for each round, and the round after which nothing parts.
use Rattle.std.proofs.Common.{◌≡◌, ◌≤◌, ◌<◌, ℕ, zero, suc, Bool, true, false, cond, List, [], ◌∷◌, Option, Some, None, refl, sym, ◌∙◌, ap, subst, inl, inr, eqb-true, eq-eqb, length, arith, add-one}
use Rattle.std.specs.Prelude.{◌==◌, ◌&&◌, ◌||◌, not}
use Rattle.std.specs.List.{list_any}
use Rattle.std.proofs.lemmas.Bool.{and_parts, and_from, or_cases, or_left, or_right, not-true, not_from_false, not-false, true_from_ne_false, cases_lt}
use Rattle.value_equality.specs.Rows.{Row, names, row_kind, row_at, IsName, IsPopulation}
use Rattle.value_equality.specs.ValueEquality.{under, AreAlike, AgreeUnder}
use Rattle.value_equality.specs.Images.{head_of}
use Rattle.value_equality.specs.steps.ComputedKinds.{kind_test}
use Rattle.value_equality.specs.Standard.{IsRefinement}
use Rattle.value_equality.specs.Tables.{IsGrounded}
use Rattle.value_equality.specs.Laws.{ValueEqualityExists}
use Rattle.value_equality.proofs.OneKind.{kinds_decide}
use Rattle.value_equality.proofs.Lookup.{row_cases}
use Rattle.value_equality.proofs.Pairs.{alike_sym, alike_trans, agree_under_grows, agree_under_back, agree_under_trans}
use Rattle.step_values.specs.AgreementTests.{agree_each_by}
use Rattle.step_values.proofs.Deciding.{each_by_sound, each_by_complete}
use Rattle.value_equality.proofs.Few.{count_length, ArePartitions, many_heads}
use Rattle.value_equality.proofs.Rounds.{own, stable_decides, refinement_grounded, refinement_stable}
use Rattle.value_equality.proofs.Numbering.{scan, IsLeast}

-- a test of two rows, where there are two
abbrev rows_by : (Row → Row → Bool) → Option Row → Option Row → Bool
rows_by test None q = false
rows_by test (Some p) None = false
rows_by test (Some p) (Some q) = test p q

rows_there : (test : Row → Row → Bool) (o u : Option Row) → rows_by test o u ≡ true → (p : Row) × (q : Row)
    × (o ≡ Some p) × (u ≡ Some q) × (test p q ≡ true)
rows_there test None u h = absurd (cc)
rows_there test (Some p) None h = absurd (cc)
rows_there test (Some p) (Some q) h = (p, q, refl, refl, h)

rows_pass : (test : Row → Row → Bool) (o u : Option Row) (p q : Row) → o ≡ Some p → u ≡ Some q → test p q ≡ true
    → rows_by test o u ≡ true
rows_pass test None u p q e f h = absurd (cc)
rows_pass test (Some s) None p q e f h = absurd (cc)
rows_pass test (Some s) (Some t) p q e f h = let one : s ≡ p = cc in let two : t ≡ q = cc in
    let both : test s t ≡ test p q = cc in cc

module _ (P : List Row) (pinned : ℕ → Bool) where
  abbrev one_kind : Row → Row → Bool
  one_kind p q = kind_test (row_kind p) (row_kind q)

  abbrev alike : ℕ → ℕ → Bool
  alike x z = cond (pinned x || pinned z) (x == z) true && rows_by one_kind (row_at P x) (row_at P z)

  abbrev agreeing : (ℕ → ℕ → Bool) → ℕ → ℕ → Bool
  agreeing R x z = rows_by (λ p q. agree_each_by (under pinned R) p.values q.values) (row_at P x) (row_at P z)

  same_from : (b : Bool) (x z : ℕ) → cond b (x == z) true ≡ true → b ≡ true → x ≡ z
  same_from true x z h e = eqb-true x z h
  same_from false x z h e = absurd (cc)

  from_same : (b : Bool) (x z : ℕ) → (b ≡ true → x ≡ z) → cond b (x == z) true ≡ true
  from_same true x z f = eq-eqb x z (f refl)
  from_same false x z f = refl

  alike_sound : (x z : ℕ) → alike x z ≡ true → AreAlike P pinned x z
  alike_sound x z h =
      let parts = and_parts (cond (pinned x || pinned z) (x == z) true) (rows_by one_kind (row_at P x) (row_at P z)) h
      in
      let found = rows_there one_kind (row_at P x) (row_at P z) parts.1 in
      record {
        left = found.0;
        right = found.1;
        left_is = found.2;
        right_is = found.3;
        same_kind = (kinds_decide (row_kind found.0) (row_kind found.1)).0 found.4;
        same_if_pinned = same_from (pinned x || pinned z) x z parts.0;
      }

  alike_complete : (x z : ℕ) → AreAlike P pinned x z → alike x z ≡ true
  alike_complete x z a =
      and_from (cond (pinned x || pinned z) (x == z) true) (rows_by one_kind (row_at P x) (row_at P z))
      (from_same (pinned x || pinned z) x z a.same_if_pinned)
      (rows_pass one_kind (row_at P x) (row_at P z) a.left a.right a.left_is a.right_is
      ((kinds_decide (row_kind a.left) (row_kind a.right)).1 a.same_kind))

  agreeing_sound : (R : ℕ → ℕ → Bool) (x z : ℕ) → agreeing R x z ≡ true → AgreeUnder P pinned R x z
  agreeing_sound R x z h =
      let found = rows_there (λ p q. agree_each_by (under pinned R) p.values q.values) (row_at P x) (row_at P z) h in
      record {
        left = found.0;
        right = found.1;
        left_is = found.2;
        right_is = found.3;
        values_agree = each_by_sound (under pinned R) found.0.values found.1.values found.4;
      }

  agreeing_complete : (R : ℕ → ℕ → Bool) (x z : ℕ) → AgreeUnder P pinned R x z → agreeing R x z ≡ true
  agreeing_complete R x z a =
      rows_pass (λ p q. agree_each_by (under pinned R) p.values q.values) (row_at P x) (row_at P z) a.left a.right
      a.left_is a.right_is
      (each_by_complete (under pinned R) a.left.values a.right.values a.values_agree)

  -- the partition of each round
  pub parted : ℕ → ℕ → ℕ → Bool
  parted zero x z = alike x z
  parted (suc round) x z = parted round x z && agreeing (parted round) x z

  parted_first : (x z : ℕ) → (parted 0 x z ≡ true → AreAlike P pinned x z)
      × (AreAlike P pinned x z → parted 0 x z ≡ true)
  unfolding parted
  parted_first x z = (alike_sound x z, alike_complete x z)

  pub parted_from : (round x z : ℕ) → parted (suc round) x z ≡ true → (parted round x z ≡ true)
      × AgreeUnder P pinned (parted round) x z
  unfolding parted
  parted_from round x z h =
      let parts = and_parts (parted round x z) (agreeing (parted round) x z) h in
      (parts.0, agreeing_sound (parted round) x z parts.1)

  parted_next : (round x z : ℕ) → parted round x z ≡ true → AgreeUnder P pinned (parted round) x z
      → parted (suc round) x z ≡ true
  unfolding parted
  parted_next round x z h a = and_from (parted round x z) (agreeing (parted round) x z) h
      (agreeing_complete (parted round) x z a)

  parted_back : (round x z : ℕ) → parted round x z ≡ true → parted round z x ≡ true
  parted_back zero x z h = (parted_first z x).1 (alike_sym P pinned x z ((parted_first x z).0 h))
  parted_back (suc r) x z h =
      let before = parted_from r x z h in
      parted_next r z x (parted_back r x z before.0) (agree_under_back P pinned (parted r) (parted r) (parted_back r) x
      z before.1)

  parted_through : (round x y z : ℕ) → parted round x y ≡ true → parted round y z ≡ true → parted round x z ≡ true
  parted_through zero x y z h k = (parted_first x z).1 (alike_trans P pinned x y z ((parted_first x y).0 h)
      ((parted_first y z).0 k))
  parted_through (suc r) x y z h k =
      let one = parted_from r x y h in
      let two = parted_from r y z k in
      parted_next r x z (parted_through r x y z one.0 two.0) (agree_under_trans P pinned (parted r) (parted r)
      (parted r) (parted_through r) x y z one.1 two.1)

  parted_named : (round x z : ℕ) → parted round x z ≡ true → IsName P x
  parted_named zero x z h = let a = (parted_first x z).0 h in (a.left, a.left_is)
  parted_named (suc r) x z h = parted_named r x z (parted_from r x z h).0

  pub parted_partitions : ArePartitions P parted
  parted_partitions = record { symmetric = parted_back; transitive = parted_through; named = parted_named }

  pub parted_grounded : (last : ℕ) → IsGrounded P pinned parted last
  parted_grounded last = record {
    first = λ x z. (parted_first x z).1;
    next = λ r x z l h a. subst (λ n. parted n x z ≡ true) (sym (add-one r)) (parted_next r x z h a);
  }

passing : (test : ℕ → Bool) (rows : List Row) → list_any test (names rows) ≡ true → (x : ℕ) × (test x ≡ true)
passing test [] h = absurd (cc)
passing test (r ∷ rows) h = elim (or_cases (test r.name) (list_any test (names rows)) h)
    [ inl here ↦ (r.name, here) | inr there ↦ passing test rows there ]

passes : (test : ℕ → Bool) (rows : List Row) (x : ℕ) → IsName rows x → test x ≡ true → list_any test (names rows) ≡ true
passes test [] x n h = absurd (let e = n.1 in cc)
passes test (r ∷ rows) x n h = elim (row_cases r rows x n.0 n.1) [
  | inl here ↦ or_left (test r.name) (list_any test (names rows)) (ap test here.0 ∙ h)
  | inr there ↦ or_right (test r.name) (list_any test (names rows)) (passes test rows x (n.0, there.1) h)
]

module _ (P : List Row) (pinned : ℕ → Bool) (population : IsPopulation P) where
  abbrev E : ℕ → ℕ → ℕ → Bool
  E = parted P pinned

  abbrev leaves : ℕ → ℕ → ℕ → Bool
  leaves round x z = E round x z && not (E (suc round) x z)

  abbrev parts : ℕ → Bool
  parts round = list_any (λ x. list_any (leaves round x) (names P)) (names P)

  -- a round parts two names, ..
  parts_found : (round : ℕ) → parts round ≡ true → (x : ℕ) × (z : ℕ) × (E round x z ≡ true)
      × (E (suc round) x z ≡ false)
  parts_found round h =
      let x = passing (λ x. list_any (leaves round x) (names P)) P h in
      let z = passing (leaves round x.0) P x.1 in
      let both = and_parts (E round x.0 z.0) (not (E (suc round) x.0 z.0)) z.1 in
      (x.0, z.0, both.0, not-true (E (suc round) x.0 z.0) both.1)

  -- A round that parts no two names leaves all classes as they are.
  parts_nothing : (round : ℕ) → parts round ≡ false → (x z : ℕ) → E round x z ≡ true → E (suc round) x z ≡ true
  parts_nothing round e x z h = true_from_ne_false (E (suc round) x z) (λ k.
      let by = parted_partitions P pinned in
      let nx = by.named round x z h in
      let nz = by.named round z x (by.symmetric round x z h) in
      let yes : parts round ≡ true = passes (λ w. list_any (leaves round w) (names P)) P x nx
      (passes (leaves round x) P z nz (and_from (E round x z) (not (E (suc round) x z)) h
      (not_from_false (E (suc round) x z) k))) in
      cc)

  -- once a round parts nothing, none after it does
  settled : (last : ℕ) → parts last ≡ false → (round x z : ℕ) → last ≤ round → E round x z ≡ true
      → E (suc round) x z ≡ true
  settled last e zero x z l h = let same : last ≡ 0 = omega arith in parts_nothing 0 (ap parts (sym same) ∙ e) x z h
  settled last e (suc r) x z l h = elim (cases_lt r last) [
    | inl m ↦ let same : last ≡ suc r = omega arith in parts_nothing (suc r) (ap parts (sym same) ∙ e) x z h
    | inr m ↦ parted_next P pinned (suc r) x z h (agree_under_grows P pinned (E r) (E (suc r))
        (λ y w. settled last e r y w m) x z (parted_from P pinned r x z h).1)
  ]

  too_many : ((r : ℕ) → r < suc (length P) → not (parts r) ≡ false) → ⊥
  too_many all =
      let last : ℕ = suc (length P) in
      let many = many_heads P E (parted_partitions P pinned) last (λ r l x z h. (parted_from P pinned r x z h).0)
      (own P pinned E last (parted_grounded P pinned last) population)
      (λ r l. parts_found r (not-false (parts r) (all r l))) last (omega arith) in
      omega (arith, many, count_length (λ y. head_of (names P) (E last) y == y) P)

  -- the first round that parts nothing
  pub stop : (last : ℕ) × IsLeast (λ r. not (parts r)) last
  stop = elim (scan (λ r. not (parts r)) (suc (length P))) [
    | inl found ↦ (found.0, found.2)
    | inr nowhere ↦ absurd
        (too_many nowhere)
  ]

  pub stop_settled : (round x z : ℕ) → stop.0 ≤ round → E round x z ≡ true → E (suc round) x z ≡ true
  stop_settled = settled stop.0 (not-true (parts stop.0) stop.1.passes)

  pub parted_refines : IsRefinement P pinned E stop.0
  parted_refines = record {
    first = parted_first P pinned;
    next = λ r x z l. (
      λ h. parted_from P pinned r x z (subst (λ n. E n x z ≡ true) (add-one r) h),
      λ h. subst (λ n. E n x z ≡ true) (sym (add-one r)) (parted_next P pinned r x z h.0 h.1),
    );
    stable = λ x z h. (parted_from P pinned stop.0 x z (stop_settled stop.0 x z (omega arith) h)).1;
    parts = λ r l. let p = parts_found r (not-false (parts r) (stop.1.before r l)) in
        (p.0, p.1, p.2, subst (λ n. E n p.0 p.1 ≡ false) (sym (add-one r)) p.3);
  }

pub value_equality_exists : ValueEqualityExists
value_equality_exists P pinned population =
    let last = (stop P pinned population).0 in
    let refines = parted_refines P pinned population in (
      parted P pinned last,
      stable_decides P pinned (parted P pinned) last (refinement_grounded P pinned (parted P pinned) last refines)
          population
          (refinement_stable P pinned (parted P pinned) last refines) ((parted_partitions P pinned).named last),
    )
