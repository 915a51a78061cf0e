-- Images carry value equality over, both ways.
use Rattle.std.proofs.Common.{◌≡◌, ℕ, Bool, true, false, cond, List, [], ◌∷◌, Some, refl, sym, ◌∙◌, ap, subst, inl, inr, eqb-true, eq-eqb}
use Rattle.std.specs.Prelude.{◌==◌, ◌&&◌, ◌||◌, is_some}
use Rattle.std.specs.List.{list_any}
use Rattle.std.proofs.lemmas.Bool.{and_parts, and_from, or_cases, or_left, or_right}
use Rattle.step_values.specs.Values.{Values, AgreeEach}
use Rattle.step_values.specs.References.{renamed_each}
use Rattle.step_values.proofs.Agreement.{agree_each_sym, agree_each_trans}
use Rattle.step_values.proofs.Renaming.{agree_each_led}
use Rattle.value_equality.specs.Rows.{Row, row_kind, row_at, IsName, IsPopulation, BagsArePinned}
use Rattle.value_equality.specs.ValueEquality.{under, AreAlike, AgreeUnder, Keeps}
use Rattle.value_equality.specs.Images.{IsImage}
use Rattle.value_equality.specs.Laws.{ImagesCarryValueEquality}
use Rattle.value_equality.proofs.Lookup.{row_cases, held_name, name_held, name_here, name_later, same_row}
use Rattle.value_equality.proofs.Kernels.{apart, reflected_values}

-- values that agree under a test, between values that agree with them by name
between : (l : ℕ → ℕ → Bool) (us vs ws xs : Values) → AgreeEach (◌==◌) us vs → AgreeEach l vs ws
    → AgreeEach (◌==◌) ws xs → AgreeEach l us xs
between l us vs ws xs a b c =
    agree_each_trans l (◌==◌) l (λ x y z e f. subst (λ w. l x w ≡ true) (eqb-true y z f) e) us ws xs
    (agree_each_trans (◌==◌) l l (λ x y z e f. subst (λ w. l w z ≡ true) (sym (eqb-true x y e)) f) us vs ws a b) c

-- a test of names finds one
module _ (test : ℕ → Bool) where
  any_name : (rows : List Row) → list_any (λ r. test r.name) rows ≡ true → (x : ℕ) × IsName rows x × (test x ≡ true)
  any_name [] e = absurd (cc)
  any_name (r ∷ rows) e =
      elim (or_cases (test r.name) (list_any (λ r. test r.name) rows) e) [
        | inl here ↦ (r.name, name_here r rows, here)
        | inr there ↦ (let found = any_name rows there in (found.0, name_later r rows found.0 found.1, found.2))
      ]

  name_any : (rows : List Row) (x : ℕ) (p : Row) → row_at rows x ≡ Some p → test x ≡ true
      → list_any (λ r. test r.name) rows ≡ true
  name_any [] x p n e = absurd (cc)
  name_any (r ∷ rows) x p n e =
      elim (row_cases r rows x p n) [
        | inl here ↦ or_left (test r.name) (list_any (λ r. test r.name) rows) (ap test here.0 ∙ e)
        | inr there ↦ or_right (test r.name) (list_any (λ r. test r.name) rows) (name_any rows x p there.1 e)
      ]

module _ (P Q : List Row) (pinned kept : ℕ → Bool) (h : ℕ → ℕ) (population : IsPopulation P)
    (bags : BagsArePinned P pinned) (image : IsImage P Q h pinned)
    (pins : (y : ℕ) → IsName P y → kept (h y) ≡ pinned y) where
  -- what an image is pinned by
  flags : (x z : ℕ) → IsName P x → IsName P z → (kept (h x) || kept (h z)) ≡ (pinned x || pinned z)
  flags x z n m = ap (λ b. b || kept (h z)) (pins x n) ∙ ap (λ b. pinned x || b) (pins z m)

  -- From the image back: names whose images a relation that keeps relates.
  module _ (S : ℕ → ℕ → Bool) (keeps : Keeps Q kept S) where
    abbrev led : ℕ → ℕ → Bool
    led x z = is_some (row_at P x) && (is_some (row_at P z) && S (h x) (h z))

    led_from : (x z : ℕ) → IsName P x → IsName P z → S (h x) (h z) ≡ true → led x z ≡ true
    led_from x z n m s =
        and_from (is_some (row_at P x)) (is_some (row_at P z) && S (h x) (h z)) (name_held P x n)
        (and_from (is_some (row_at P z)) (S (h x) (h z)) (name_held P z m) s)

    led_under : (y w : ℕ) → IsName P y → IsName P w → under kept S (h y) (h w) ≡ true → under pinned led y w ≡ true
    led_under y w n m t =
        go (pinned y) (pinned w) refl refl
        (ap (λ b. cond b (h y == h w) (S (h y) (h w))) (sym (flags y w n m)) ∙ t)
      where
        go : (a b : Bool) → pinned y ≡ a → pinned w ≡ b → cond (a || b) (h y == h w) (S (h y) (h w)) ≡ true
            → cond (a || b) (y == w) (led y w) ≡ true
        go true b py pw e =
            eq-eqb y w (apart P Q pinned h population bags image y w n m (inl py) (eqb-true (h y) (h w) e))
        go false true py pw e =
            eq-eqb y w (apart P Q pinned h population bags image y w n m (inr pw) (eqb-true (h y) (h w) e))
        go false false py pw e = led_from y w n m e

    led_pair : (x z : ℕ) (n : IsName P x) (m : IsName P z) → S (h x) (h z) ≡ true → AreAlike P pinned x z
        × AgreeUnder P pinned led x z
    led_pair x z n m s =
        let pair = keeps (h x) (h z) s in
        let qx = image.lands x n.0 n.1 in
        let qz = image.lands z m.0 m.1 in
        let left : qx.0 ≡ pair.0.left = same_row (row_at Q (h x)) qx.1 pair.0.left_is in
        let right : qz.0 ≡ pair.0.right = same_row (row_at Q (h z)) qz.1 pair.0.right_is in
        let first : pair.1.left ≡ qx.0 = same_row (row_at Q (h x)) pair.1.left_is qx.1 in
        let second : pair.1.right ≡ qz.0 = same_row (row_at Q (h z)) pair.1.right_is qz.1 in
        let there : AgreeEach (under kept S) qx.0.values qz.0.values =
        subst (λ (q : Row). AgreeEach (under kept S) qx.0.values q.values) second
        (subst (λ (q : Row). AgreeEach (under kept S) q.values pair.1.right.values) first pair.1.values_agree) in
        let agree : AgreeEach (under kept S) (renamed_each h n.0.values) (renamed_each h m.0.values) =
        between (under kept S) (renamed_each h n.0.values) qx.0.values qz.0.values (renamed_each h m.0.values)
        qx.2.values_agree there (agree_each_sym (renamed_each h m.0.values) qz.0.values qz.2.values_agree) in (
          record {
            left = n.0;
            right = m.0;
            left_is = n.1;
            right_is = m.1;
            same_kind = qx.2.same_kind ∙ ap row_kind left ∙ pair.0.same_kind ∙ ap row_kind (sym right)
                ∙ sym qz.2.same_kind;
            same_if_pinned = λ flag. apart P Q pinned h population bags image x z n m
                (or_cases (pinned x) (pinned z) flag) (pair.0.same_if_pinned (flags x z n m ∙ flag));
          },
          record {
            left = n.0;
            right = m.0;
            left_is = n.1;
            right_is = m.1;
            values_agree = reflected_values P pinned population bags h (under kept S) (under pinned led)
                (apart P Q pinned h population bags image) led_under x z n m agree;
          },
        )

    led_keeps : Keeps P pinned led
    led_keeps x z e =
        let parts = and_parts (is_some (row_at P x)) (is_some (row_at P z) && S (h x) (h z)) e in
        let others = and_parts (is_some (row_at P z)) (S (h x) (h z)) parts.1 in
        led_pair x z (held_name P x parts.0) (held_name P z others.0) others.1

  -- To the image: names to which names that a relation that keeps relates are led.
  module _ (R : ℕ → ℕ → Bool) (keeps : Keeps P pinned R) where
    abbrev leads : ℕ → ℕ → ℕ → ℕ → Bool
    leads a b x z = (h x == a) && ((h z == b) && R x z)

    abbrev over : ℕ → ℕ → Bool
    over a b = list_any (λ p. list_any (λ q. leads a b p.name q.name) P) P

    record Over (a b : ℕ) : Type 0 where
      pub x : ℕ
      pub z : ℕ
      pub left : h x ≡ a
      pub right : h z ≡ b
      pub related : R x z ≡ true

    over_from : (x z : ℕ) → R x z ≡ true → over (h x) (h z) ≡ true
    over_from x z e =
        let pair = keeps x z e in
        name_any (λ y. list_any (λ q. leads (h x) (h z) y q.name) P) P x pair.0.left pair.0.left_is
        (name_any (leads (h x) (h z) x) P z pair.0.right pair.0.right_is
        (and_from (h x == h x) ((h z == h z) && R x z) (eq-eqb (h x) (h x) refl)
        (and_from (h z == h z) (R x z) (eq-eqb (h z) (h z) refl) e)))

    over_to : (a b : ℕ) → over a b ≡ true → Over a b
    over_to a b e =
        let x = any_name (λ y. list_any (λ q. leads a b y q.name) P) P e in
        let z = any_name (leads a b x.0) P x.2 in
        let parts = and_parts (h x.0 == a) ((h z.0 == b) && R x.0 z.0) z.2 in
        let others = and_parts (h z.0 == b) (R x.0 z.0) parts.1 in
        record {
          x = x.0;
          z = z.0;
          left = eqb-true (h x.0) a parts.0;
          right = eqb-true (h z.0) b others.0;
          related = others.1;
        }

    over_under : (y w : ℕ) → IsName P y → IsName P w → under pinned R y w ≡ true → under kept over (h y) (h w) ≡ true
    over_under y w n m t =
        ap (λ b. cond b (h y == h w) (over (h y) (h w))) (flags y w n m) ∙ go (pinned y || pinned w) t
      where
        go : (a : Bool) → cond a (y == w) (R y w) ≡ true → cond a (h y == h w) (over (h y) (h w)) ≡ true
        go true e = eq-eqb (h y) (h w) (ap h (eqb-true y w e))
        go false e = over_from y w e

    over_pair : (a b : ℕ) → Over a b → AreAlike Q kept a b × AgreeUnder Q kept over a b
    over_pair a b o =
        let pair = keeps o.x o.z o.related in
        let p = pair.1.left in
        let r = pair.1.right in
        let qx = image.lands o.x p pair.1.left_is in
        let qz = image.lands o.z r pair.1.right_is in
        let at : row_at Q a ≡ Some qx.0 = ap (row_at Q) (sym o.left) ∙ qx.1 in
        let to : row_at Q b ≡ Some qz.0 = ap (row_at Q) (sym o.right) ∙ qz.1 in
        let agree = agree_each_led h (under pinned R) (under kept over) (IsName P) over_under p.values r.values
        (population.closed o.x p pair.1.left_is) (population.closed o.z r pair.1.right_is) pair.1.values_agree in (
          record {
            left = qx.0;
            right = qz.0;
            left_is = at;
            right_is = to;
            same_kind = sym qx.2.same_kind ∙ ap row_kind (same_row (row_at P o.x) pair.1.left_is pair.0.left_is)
                ∙ pair.0.same_kind ∙ ap row_kind (same_row (row_at P o.z) pair.0.right_is pair.1.right_is)
                ∙ qz.2.same_kind;
            same_if_pinned = λ flag. sym o.left
                ∙ ap h (pair.0.same_if_pinned (sym (flags o.x o.z (p, pair.1.left_is) (r, pair.1.right_is))
                ∙ ap (λ y. kept y || kept (h o.z)) o.left ∙ ap (λ y. kept a || kept y) o.right ∙ flag)) ∙ o.right;
          },
          record {
            left = qx.0;
            right = qz.0;
            left_is = at;
            right_is = to;
            values_agree = between (under kept over) qx.0.values (renamed_each h p.values) (renamed_each h r.values)
                qz.0.values (agree_each_sym (renamed_each h p.values) qx.0.values qx.2.values_agree) agree
                qz.2.values_agree;
          },
        )

    over_keeps : Keeps Q kept over
    over_keeps a b e = over_pair a b (over_to a b e)

pub images_carry_value_equality : ImagesCarryValueEquality
images_carry_value_equality P Q pinned kept h population bags image pins x z = (
  λ equal. let pair = equal.2 x z equal.1 in (
    (pair.0.left, pair.0.left_is),
    (pair.0.right, pair.0.right_is),
    (
      over P Q pinned kept h population bags image pins equal.0 equal.2,
      over_from P Q pinned kept h population bags image pins equal.0 equal.2 x z equal.1,
      over_keeps P Q pinned kept h population bags image pins equal.0 equal.2,
    ),
  ),
  λ both. (
    led P Q pinned kept h population bags image pins both.2.0 both.2.2,
    led_from P Q pinned kept h population bags image pins both.2.0 both.2.2 x z both.0 both.1 both.2.1,
    led_keeps P Q pinned kept h population bags image pins both.2.0 both.2.2,
  ),
)
