-- Value equality on the quotient by value equality is the identity.
use Rattle.std.proofs.Common.{◌≡◌, ℕ, Bool, true, false, cond, List, refl, sym, ◌∙◌, ap, subst, inl, inr, eq-eqb, [], ◌∷◌}
use Rattle.std.specs.Prelude.{◌==◌, map, filter}
use Rattle.step_values.proofs.Renaming.{each_renamed_itself}
use Rattle.value_equality.specs.Rows.{Row, names, IsName, IsPopulation, renamed_row, BagsArePinned}
use Rattle.value_equality.specs.ValueEquality.{ValueEqual, IsValueEquality, IsCongruence}
use Rattle.value_equality.specs.Images.{head_of, quotient}
use Rattle.value_equality.specs.Laws.{QuotientsAreReduced, QuotientsStay}
use Rattle.value_equality.proofs.Congruences.{identity, identity_self, identity_keeps, congruence}
use Rattle.value_equality.proofs.Chosen.{row_of_quotient}
use Rattle.value_equality.proofs.Quotients.{same_head, quotient_image, quotient_population, pinned_head}
use Rattle.value_equality.proofs.Carried.{images_carry_value_equality}

module _ (P : List Row) (pinned kept : ℕ → Bool) (E : ℕ → ℕ → Bool) (population : IsPopulation P)
    (bags : BagsArePinned P pinned) (equal : IsValueEquality P pinned E)
    (same : (y : ℕ) → IsName (quotient P E) y → kept y ≡ pinned y) where
  by : IsCongruence P pinned E
  by = congruence P pinned E population equal

  abbrev head : ℕ → ℕ
  head = head_of (names P) E

  pinned_same : (y : ℕ) → IsName P y → pinned (head y) ≡ pinned y
  pinned_same y n = go (pinned y) (pinned (head y)) refl refl
    where
      go : (a b : Bool) → pinned y ≡ a → pinned (head y) ≡ b → b ≡ a
      go true b py ph = sym ph ∙ ap pinned (pinned_head P pinned E by y n (inl py)) ∙ py
      go false true py ph = sym ph ∙ ap pinned (pinned_head P pinned E by y n (inr ph)) ∙ py
      go false false py ph = refl

  -- the first of a class is pinned in the quotient where an instance of the class is pinned
  anew : (y : ℕ) → IsName P y → kept (head y) ≡ pinned y
  anew y n =
      let landed = (quotient_image P pinned E by).lands y n.0 n.1 in
      same (head y) (landed.0, landed.1) ∙ pinned_same y n

  -- instances of the quotient that are value-equal there are so in the population
  pub equal_same : (x z : ℕ) → ValueEqual (quotient P E) kept x z → x ≡ z
  equal_same x z found =
      let alike = (found.2 x z found.1).0 in
      let from_x = row_of_quotient P E x alike.left alike.left_is in
      let from_z = row_of_quotient P E z alike.right alike.right_is in
      let firsts : ValueEqual (quotient P E) kept (head x) (head z) =
      subst (λ a. ValueEqual (quotient P E) kept a (head z)) (sym from_x.first)
      (subst (λ b. ValueEqual (quotient P E) kept x b) (sym from_z.first) found) in
      let together : E x z ≡ true =
      (equal x z).1 ((images_carry_value_equality P (quotient P E) pinned kept head population bags
      (quotient_image P pinned E by) anew
      x z).1 ((from_x.row, from_x.row_is), (from_z.row, from_z.row_is), firsts)) in
      sym from_x.first ∙ same_head P pinned E by x z together ∙ from_z.first

  pub reduced : (x z : ℕ) → (ValueEqual (quotient P E) kept x z → IsName (quotient P E) x × (x ≡ z))
      × (IsName (quotient P E) x × (x ≡ z) → ValueEqual (quotient P E) kept x z)
  reduced x z = (
    λ found. let alike = (found.2 x z found.1).0 in ((alike.left, alike.left_is), equal_same x z found),
    λ n. subst (λ w. ValueEqual (quotient P E) kept x w) n.1 (
      identity (quotient P E),
      identity_self (quotient P E) x n.0,
      identity_keeps (quotient P E) kept
          (quotient_population P pinned E by population),
    ),
  )

pub quotients_are_reduced : QuotientsAreReduced
quotients_are_reduced = reduced

-- The quotient by a relation that relates nothing to another instance is the population itself.

head_itself : (F : ℕ → ℕ → Bool) → ((x z : ℕ) → F x z ≡ true → x ≡ z) → (ys : List ℕ) (y : ℕ) → head_of ys F y ≡ y
head_itself F f [] y = refl
head_itself F f (a ∷ ys) y = go (F a y) refl (head_itself F f ys y)
  where
    go : (b : Bool) → F a y ≡ b → head_of ys F y ≡ y → cond b a (head_of ys F y) ≡ y
    go true e rest = f a y e
    go false e rest = rest

all_chosen : (h : ℕ → ℕ) (test : ℕ → Bool) → ((y : ℕ) → h y ≡ y) → ((y : ℕ) → test y ≡ true) → (rows : List Row)
    → map (renamed_row h) (filter (λ r. test r.name) rows) ≡ rows
all_chosen h test f g [] = refl
all_chosen h test f g (r ∷ rows) =
    let first : renamed_row h r ≡ r = ap (λ vs. record r { values = vs }) (each_renamed_itself h f r.values) in
    let rest = all_chosen h test f g rows in
    ap (λ b. map (renamed_row h) (cond b (r ∷ filter (λ q. test q.name) rows) (filter (λ q. test q.name) rows)))
    (g r.name) ∙ (cc)

pub quotients_stay : QuotientsStay
quotients_stay P pinned kept E F population bags equal same again =
    let apart : (x z : ℕ) → F x z ≡ true → x ≡ z = λ x z h. equal_same P pinned kept E population bags equal same x z
    ((again x z).0 h) in
    let Q = quotient P E in
    all_chosen (head_of (names Q) F) (λ y. head_of (names Q) F y == y) (head_itself F apart (names Q))
    (λ y. eq-eqb (head_of (names Q) F y) y (head_itself F apart (names Q) y)) Q
