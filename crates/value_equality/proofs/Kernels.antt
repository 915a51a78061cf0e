-- The kernel of an image is a congruence.
use Rattle.std.proofs.Common.{◌≡◌, ℕ, Bool, true, false, cond, List, refl, sym, ◌∙◌, ap, subst, ◌⊎◌, inl, inr, eqb-true, eq-eqb}
use Rattle.std.specs.Prelude.{◌==◌, ◌&&◌, ◌||◌, is_some}
use Rattle.std.proofs.lemmas.Bool.{and_parts, and_from, or_cases}
use Rattle.step_values.specs.Values.{AgreeEach}
use Rattle.step_values.specs.References.{renamed_each}
use Rattle.value_equality.specs.Rows.{Row, row_kind, row_at, IsName, IsPopulation, BagsArePinned}
use Rattle.value_equality.specs.ValueEquality.{under, AreAlike, AgreeUnder, Keeps}
use Rattle.value_equality.specs.Images.{IsImage, kernel}
use Rattle.value_equality.specs.Laws.{KernelsAreCongruences}
use Rattle.value_equality.proofs.Lookup.{held_name, name_held, same_row}
use Rattle.step_values.proofs.References.{bags_both_of}
use Rattle.step_values.proofs.Agreement.{eqb_trans, agree_each_sym, agree_each_trans}
use Rattle.step_values.proofs.Renaming.{reflected_each}

-- two instances with one image
pub record Meet (P : List Row) (h : ℕ → ℕ) (x z : ℕ) : Type 0 where
  pub left : IsName P x
  pub right : IsName P z
  pub image : h x ≡ h z

pub meet_from : (P : List Row) (h : ℕ → ℕ) (x z : ℕ) → kernel P h x z ≡ true → Meet P h x z
meet_from P h x z k =
    let parts = and_parts (is_some (row_at P x)) (is_some (row_at P z) && (h x == h z)) k in
    let others = and_parts (is_some (row_at P z)) (h x == h z) parts.1 in
    record { left = held_name P x parts.0; right = held_name P z others.0; image = eqb-true (h x) (h z) others.1 }

pub kernel_from : (P : List Row) (h : ℕ → ℕ) (x z : ℕ) → Meet P h x z → kernel P h x z ≡ true
kernel_from P h x z m =
    and_from (is_some (row_at P x)) (is_some (row_at P z) && (h x == h z)) (name_held P x m.left)
    (and_from (is_some (row_at P z)) (h x == h z) (name_held P z m.right) (eq-eqb (h x) (h z) m.image))

-- values of instances agree under a relation where their images agree by name
module _ (P : List Row) (pinned : ℕ → Bool) (population : IsPopulation P) (bags : BagsArePinned P pinned) where
  -- h maps nothing else to where it maps a pinned instance
  abbrev IsApart : (ℕ → ℕ) → Type 0
  IsApart h = (y w : ℕ) → IsName P y → IsName P w → (pinned y ≡ true) ⊎ (pinned w ≡ true) → h y ≡ h w → y ≡ w

  pub reflected_values : (h : ℕ → ℕ) (m l : ℕ → ℕ → Bool) → IsApart h
      → ((y w : ℕ) → IsName P y → IsName P w → m (h y) (h w) ≡ true → l y w ≡ true) → (x z : ℕ) (n : IsName P x)
      (k : IsName P z) → AgreeEach m (renamed_each h n.0.values) (renamed_each h k.0.values)
      → AgreeEach l n.0.values k.0.values
  reflected_values h m l apart f x z n k agree =
      let closed = population.closed x n.0 n.1 in
      reflected_each h (λ y. IsName P y × (pinned y ≡ true)) (IsName P) (λ y w b i e. apart y w b.0 i (inl b.1) e) m l
      (IsName P) f n.0.values k.0.values
      closed (bags_both_of (IsName P) (λ y. pinned y ≡ true) n.0.values closed (bags x n.0 n.1))
      (population.closed z k.0 k.1) agree

module _ (P Q : List Row) (pinned : ℕ → Bool) (h : ℕ → ℕ) (population : IsPopulation P) (bags : BagsArePinned P pinned)
    (image : IsImage P Q h pinned) where
  pub apart : IsApart P pinned population bags h
  apart y w n m (inl py) e = sym (image.alone w y m n py (sym e))
  apart y w n m (inr pw) e = image.alone y w n m pw e

  kernel_under : (y w : ℕ) → IsName P y → IsName P w → (h y == h w) ≡ true → under pinned (kernel P h) y w ≡ true
  kernel_under y w n m t = go (pinned y) (pinned w) refl refl
    where
      go : (a b : Bool) → pinned y ≡ a → pinned w ≡ b → cond (a || b) (y == w) (kernel P h y w) ≡ true
      go true b py pw = eq-eqb y w (apart y w n m (inl py) (eqb-true (h y) (h w) t))
      go false true py pw = eq-eqb y w (apart y w n m (inr pw) (eqb-true (h y) (h w) t))
      go false false py pw = kernel_from P h y w (record { left = n; right = m; image = eqb-true (h y) (h w) t })

  met : (x z : ℕ) → Meet P h x z → AreAlike P pinned x z × AgreeUnder P pinned (kernel P h) x z
  met x z m =
      let qx = image.lands x m.left.0 m.left.1 in
      let qz = image.lands z m.right.0 m.right.1 in
      let one : qx.0 ≡ qz.0 = same_row (row_at Q (h x)) qx.1 (ap (row_at Q) m.image ∙ qz.1) in
      let right : AgreeEach (◌==◌) (renamed_each h m.right.0.values) qx.0.values =
      subst (λ (q : Row). AgreeEach (◌==◌) (renamed_each h m.right.0.values) q.values) (sym one) qz.2.values_agree
      in
      let both = agree_each_trans (◌==◌) (◌==◌) (◌==◌) eqb_trans (renamed_each h m.left.0.values) qx.0.values
      (renamed_each h m.right.0.values) qx.2.values_agree (agree_each_sym (renamed_each h m.right.0.values)
      qx.0.values right) in (
        record {
          left = m.left.0;
          right = m.right.0;
          left_is = m.left.1;
          right_is = m.right.1;
          same_kind = qx.2.same_kind ∙ ap row_kind one ∙ sym qz.2.same_kind;
          same_if_pinned = λ flag. apart x z m.left m.right (or_cases (pinned x) (pinned z) flag) m.image;
        },
        record {
          left = m.left.0;
          right = m.right.0;
          left_is = m.left.1;
          right_is = m.right.1;
          values_agree = reflected_values P pinned population bags h (◌==◌) (under pinned (kernel P h)) apart
              kernel_under x z m.left m.right both;
        },
      )

  pub kernel_keeps : Keeps P pinned (kernel P h)
  kernel_keeps x z k = met x z (meet_from P h x z k)

pub kernels_are_congruences : KernelsAreCongruences
kernels_are_congruences P Q pinned h population bags image = record {
  keeps = kernel_keeps P Q pinned h population bags image;
  reflexive = λ x n. kernel_from P h x x (record { left = n; right = n; image = refl });
  symmetric = λ x z k. let m = meet_from P h x z k in kernel_from P h z x (record {
    left = m.right;
    right = m.left;
    image = sym m.image;
  });
  transitive = λ x y z k l.
      let m = meet_from P h x y k in
      let n = meet_from P h y z l in
      kernel_from P h x z (record { left = m.left; right = n.right; image = m.image ∙ n.image });
}
