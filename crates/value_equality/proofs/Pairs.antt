-- Being alike is an equivalence on the instances, and so is agreeing under a relation, where the relation is one.
use Rattle.std.proofs.Common.{◌≡◌, ℕ, Bool, true, false, cond, List, refl, sym, ◌∙◌, ap, subst, inl, inr, eqb-true, eq-eqb}
use Rattle.std.specs.Prelude.{◌==◌, ◌||◌}
use Rattle.std.proofs.lemmas.Bool.{or_cases, or_left, or_right}
use Rattle.step_values.specs.Values.{AgreeEach}
use Rattle.value_equality.specs.Rows.{Row, row_kind, row_at, IsName, IsPopulation}
use Rattle.value_equality.specs.ValueEquality.{under, AreAlike, AgreeUnder}
use Rattle.value_equality.proofs.Lookup.{same_row}
use Rattle.step_values.proofs.References.{each_weaker_of}
use Rattle.step_values.proofs.Agreement.{eqb_sym, eqb_trans, agree_each_grows, agree_each_refl, agree_each_back, agree_each_trans}

module _ (pinned : ℕ → Bool) where
  pub under_grows : (R S : ℕ → ℕ → Bool) → ((y z : ℕ) → R y z ≡ true → S y z ≡ true) → (y z : ℕ)
      → under pinned R y z ≡ true → under pinned S y z ≡ true
  under_grows R S f y z h = go (pinned y || pinned z) h
    where
      go : (a : Bool) → cond a (y == z) (R y z) ≡ true → cond a (y == z) (S y z) ≡ true
      go true k = k
      go false k = f y z k

  pub under_self : (R : ℕ → ℕ → Bool) (y : ℕ) → R y y ≡ true → under pinned R y y ≡ true
  under_self R y h = go (pinned y || pinned y)
    where
      go : (a : Bool) → cond a (y == y) (R y y) ≡ true
      go true = eq-eqb y y refl
      go false = h

  pub under_back : (R S : ℕ → ℕ → Bool) → ((y z : ℕ) → R y z ≡ true → S z y ≡ true) → (y z : ℕ)
      → under pinned R y z ≡ true → under pinned S z y ≡ true
  under_back R S f y z h = go (pinned y) (pinned z) h
    where
      go : (a b : Bool) → cond (a || b) (y == z) (R y z) ≡ true → cond (b || a) (z == y) (S z y) ≡ true
      go true true k = eqb_sym y z k
      go true false k = eqb_sym y z k
      go false true k = eqb_sym y z k
      go false false k = f y z k

  pub under_through : (R S T : ℕ → ℕ → Bool) → ((x y z : ℕ) → R x y ≡ true → S y z ≡ true → T x z ≡ true) → (x y z : ℕ)
      → under pinned R x y ≡ true → under pinned S y z ≡ true → under pinned T x z ≡ true
  under_through R S T f x y z h k = go (pinned x) (pinned y) (pinned z) refl refl refl h k
    where
      go : (a b c : Bool) → pinned x ≡ a → pinned y ≡ b → pinned z ≡ c → cond (a || b) (x == y) (R x y) ≡ true
          → cond (b || c) (y == z) (S y z) ≡ true → cond (a || c) (x == z) (T x z) ≡ true
      go true true c px py pz g i = eqb_trans x y z g i
      go true false c px py pz g i = absurd (let e : pinned x ≡ pinned y = ap pinned (eqb-true x y g) in cc)
      go false true true px py pz g i = eqb_trans x y z g i
      go false true false px py pz g i = absurd (let e : pinned x ≡ pinned y = ap pinned (eqb-true x y g) in cc)
      go false false true px py pz g i = absurd (let e : pinned y ≡ pinned z = ap pinned (eqb-true y z i) in cc)
      go false false false px py pz g i = f x y z g i

module _ (P : List Row) (pinned : ℕ → Bool) where
  pub alike_refl : (x : ℕ) → IsName P x → AreAlike P pinned x x
  alike_refl x n = record {
    left = n.0;
    right = n.0;
    left_is = n.1;
    right_is = n.1;
    same_kind = refl;
    same_if_pinned = λ _. refl;
  }

  pub alike_sym : (x z : ℕ) → AreAlike P pinned x z → AreAlike P pinned z x
  alike_sym x z a = record {
    left = a.right;
    right = a.left;
    left_is = a.right_is;
    right_is = a.left_is;
    same_kind = sym a.same_kind;
    same_if_pinned = λ h. sym (a.same_if_pinned (swapped (pinned z) (pinned x) h));
  }
    where
      swapped : (b c : Bool) → (b || c) ≡ true → (c || b) ≡ true
      swapped true c h = or_right c true refl
      swapped false c h = or_left c false h

  pub alike_trans : (x y z : ℕ) → AreAlike P pinned x y → AreAlike P pinned y z → AreAlike P pinned x z
  alike_trans x y z a b = record {
    left = a.left;
    right = b.right;
    left_is = a.left_is;
    right_is = b.right_is;
    same_kind = a.same_kind ∙ ap row_kind (same_row (row_at P y) a.right_is b.left_is) ∙ b.same_kind;
    same_if_pinned = λ h. elim (or_cases (pinned x) (pinned z) h) [ inl px ↦ from_left px | inr pz ↦ from_right pz ];
  }
    where
      from_left : pinned x ≡ true → x ≡ z
      from_left px =
          let first : x ≡ y = a.same_if_pinned (or_left (pinned x) (pinned y) px) in
          first ∙ b.same_if_pinned (or_left (pinned y) (pinned z) (ap pinned (sym first) ∙ px))

      from_right : pinned z ≡ true → x ≡ z
      from_right pz =
          let second : y ≡ z = b.same_if_pinned (or_right (pinned y) (pinned z) pz) in
          a.same_if_pinned (or_right (pinned x) (pinned y) (ap pinned second ∙ pz)) ∙ second

  pub agree_under_refl : (R : ℕ → ℕ → Bool) → IsPopulation P → ((y : ℕ) → IsName P y → R y y ≡ true) → (x : ℕ)
      → IsName P x → AgreeUnder P pinned R x x
  agree_under_refl R population own x n = record {
    left = n.0;
    right = n.0;
    left_is = n.1;
    right_is = n.1;
    values_agree = agree_each_refl (under pinned R) n.0.values
        (each_weaker_of (IsName P) (λ y. under pinned R y y ≡ true) (λ y m. under_self pinned R y (own y m)) n.0.values
        (population.closed x n.0 n.1));
  }

  pub agree_under_grows : (R S : ℕ → ℕ → Bool) → ((y z : ℕ) → R y z ≡ true → S y z ≡ true) → (x z : ℕ)
      → AgreeUnder P pinned R x z → AgreeUnder P pinned S x z
  agree_under_grows R S f x z a = record {
    left = a.left;
    right = a.right;
    left_is = a.left_is;
    right_is = a.right_is;
    values_agree = agree_each_grows (under pinned R) (under pinned S) (under_grows pinned R S f) a.left.values
        a.right.values a.values_agree;
  }

  pub agree_under_back : (R S : ℕ → ℕ → Bool) → ((y z : ℕ) → R y z ≡ true → S z y ≡ true) → (x z : ℕ)
      → AgreeUnder P pinned R x z → AgreeUnder P pinned S z x
  agree_under_back R S f x z a = record {
    left = a.right;
    right = a.left;
    left_is = a.right_is;
    right_is = a.left_is;
    values_agree = agree_each_back (under pinned R) (under pinned S) (under_back pinned R S f) a.left.values
        a.right.values a.values_agree;
  }

  pub agree_under_trans : (R S T : ℕ → ℕ → Bool) → ((x y z : ℕ) → R x y ≡ true → S y z ≡ true → T x z ≡ true)
      → (x y z : ℕ) → AgreeUnder P pinned R x y → AgreeUnder P pinned S y z → AgreeUnder P pinned T x z
  agree_under_trans R S T f x y z a b =
      let one : a.right ≡ b.left = same_row (row_at P y) a.right_is b.left_is in
      record {
        left = a.left;
        right = b.right;
        left_is = a.left_is;
        right_is = b.right_is;
        values_agree = agree_each_trans (under pinned R) (under pinned S) (under pinned T)
            (under_through pinned R S T f) a.left.values a.right.values b.right.values a.values_agree
            (subst (λ (r : Row). AgreeEach (under pinned S) r.values b.right.values) (sym one) b.values_agree);
      }
