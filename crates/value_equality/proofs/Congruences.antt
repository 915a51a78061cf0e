-- Value equality is a congruence.
use Rattle.std.proofs.Common.{◌≡◌, ℕ, Bool, true, false, List, [], ◌∷◌, refl, sym, subst, inl, inr, eqb-true, eq-eqb}
use Rattle.std.specs.Prelude.{◌==◌, ◌&&◌, ◌||◌, is_some}
use Rattle.std.proofs.lemmas.Bool.{and_parts, and_from, or_cases, or_left, or_right}
use Rattle.value_equality.specs.Rows.{Row, row_at, IsName, IsPopulation}
use Rattle.value_equality.specs.ValueEquality.{AreAlike, AgreeUnder, Keeps, IsValueEquality, IsCongruence}
use Rattle.value_equality.specs.Laws.{ValueEqualityIsCongruence}
use Rattle.value_equality.proofs.Lookup.{row_cases, held_name, name_held}
use Rattle.value_equality.proofs.Pairs.{alike_refl, alike_sym, alike_trans, agree_under_refl, agree_under_grows, agree_under_back, agree_under_trans}

-- the identity on the instances
pub identity : List Row → ℕ → ℕ → Bool
identity P x z = is_some (row_at P x) && (x == z)

pub identity_self : (P : List Row) (x : ℕ) → IsName P x → identity P x x ≡ true
unfolding identity
identity_self P x n = and_from (is_some (row_at P x)) (x == x) (name_held P x n) (eq-eqb x x refl)

pub identity_keeps : (P : List Row) (pinned : ℕ → Bool) → IsPopulation P → Keeps P pinned (identity P)
unfolding identity
identity_keeps P pinned population x z h =
    let parts = and_parts (is_some (row_at P x)) (x == z) h in
    let n = held_name P x parts.0 in
    subst (λ w. AreAlike P pinned x w × AgreeUnder P pinned (identity P) x w) (eqb-true x z parts.1)
    (alike_refl P pinned x n, agree_under_refl P pinned (identity P) population (identity_self P) x n)

-- the composition of two relations over the instances
composed : (R S : ℕ → ℕ → Bool) → List Row → ℕ → ℕ → Bool
composed R S [] x z = false
composed R S (r ∷ rows) x z = (R x r.name && S r.name z) || composed R S rows x z

composed_from : (R S : ℕ → ℕ → Bool) (rows : List Row) (x y z : ℕ) → IsName rows y → R x y ≡ true → S y z ≡ true
    → composed R S rows x z ≡ true
unfolding composed
composed_from R S [] x y z n h k = absurd (let e = n.1 in cc)
composed_from R S (r ∷ rows) x y z n h k =
    elim (row_cases r rows y n.0 n.1) [
      | inl here ↦ or_left (R x r.name && S r.name z) (composed R S rows x z)
          (and_from (R x r.name) (S r.name z) (subst (λ w. R x w ≡ true) (sym here.0) h)
          (subst (λ w. S w z ≡ true) (sym here.0) k))
      | inr there ↦ or_right (R x r.name && S r.name z) (composed R S rows x z)
          (composed_from R S rows x y z (n.0, there.1) h k)
    ]

between : (R S : ℕ → ℕ → Bool) (rows : List Row) (x z : ℕ) → composed R S rows x z ≡ true → (y : ℕ) × (R x y ≡ true)
    × (S y z ≡ true)
unfolding composed
between R S [] x z h = absurd (cc)
between R S (r ∷ rows) x z h =
    elim (or_cases (R x r.name && S r.name z) (composed R S rows x z) h) [
      | inl here ↦ let parts = and_parts (R x r.name) (S r.name z) here in (r.name, parts.0, parts.1)
      | inr there ↦ between R S rows x z there
    ]

module _ (P : List Row) (pinned : ℕ → Bool) (E : ℕ → ℕ → Bool) (population : IsPopulation P)
    (equal : IsValueEquality P pinned E) where
  keeps : Keeps P pinned E
  keeps x z h =
      let found = (equal x z).0 h in
      let pair = found.2 x z found.1 in
      (pair.0, agree_under_grows P pinned found.0 E (λ y w k. (equal y w).1 (found.0, k, found.2)) x z pair.1)

  converse : ℕ → ℕ → Bool
  converse x z = E z x

  converse_keeps : Keeps P pinned converse
  unfolding converse
  converse_keeps x z h =
      let pair = keeps z x h in
      (alike_sym P pinned z x pair.0, agree_under_back P pinned E converse (λ y w k. k) z x pair.1)

  through : (x y z : ℕ) → E x y ≡ true → E y z ≡ true → composed E E P x z ≡ true
  through x y z h k = let pair = keeps x y h in composed_from E E P x y z (pair.0.right, pair.0.right_is) h k

  composed_keeps : Keeps P pinned (composed E E P)
  composed_keeps x z h =
      let step = between E E P x z h in
      let first = keeps x step.0 step.1 in
      let second = keeps step.0 z step.2 in (
        alike_trans P pinned x step.0 z first.0 second.0,
        agree_under_trans P pinned E E (composed E E P) through x
            step.0 z first.1 second.1,
      )

  pub congruence : IsCongruence P pinned E
  unfolding converse
  congruence = record {
    keeps = keeps;
    reflexive = λ x n. (equal x x).1 (identity P, identity_self P x n, identity_keeps P pinned population);
    symmetric = λ x z h. (equal z x).1 (converse, h, converse_keeps);
    transitive = λ x y z h k. (equal x z).1 (composed E E P, through x y z h k, composed_keeps);
  }

pub value_equality_is_congruence : ValueEqualityIsCongruence
value_equality_is_congruence = congruence
