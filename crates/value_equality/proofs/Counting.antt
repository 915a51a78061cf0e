-- No image has fewer instances than the quotient by value equality.
use Rattle.std.proofs.Common.{◌≡◌, ◌≤◌, ℕ, Bool, true, false, List, [], ◌∷◌, sym, ◌∙◌, ap, inl, inr, eqb-true, eq-eqb, length, arith}
use Rattle.std.specs.Prelude.{◌==◌, map}
use Rattle.std.specs.List.{IsDistinct, AllByRecursion, list_any}
use Rattle.std.proofs.lemmas.Bool.{or_cases, or_left, or_right, ne_eqb, eqb-false}
use Rattle.std.proofs.lemmas.List.{length-map}
use Rattle.std.proofs.lemmas.Cmp.{nat_eq_equiv}
use Rattle.std.proofs.lemmas.Map.Made.{length-le_from_is_member}
use Rattle.value_equality.specs.Rows.{Row, names, row_at, IsName, IsPopulation, BagsArePinned}
use Rattle.value_equality.specs.ValueEquality.{IsValueEquality}
use Rattle.value_equality.specs.Images.{IsImage, kernel, quotient}
use Rattle.value_equality.specs.Laws.{NoImageHasFewer}
use Rattle.value_equality.proofs.Lookup.{row_cases, name_later, name_here}
use Rattle.value_equality.proofs.Congruences.{congruence}
use Rattle.value_equality.proofs.Kernels.{kernel_from, kernel_keeps}
use Rattle.value_equality.proofs.Chosen.{row_of_quotient}
use Rattle.value_equality.proofs.Quotients.{same_head, quotient_population}

-- different names have different images
images_apart : (h : ℕ → ℕ) (n : ℕ) (rows : List Row) → ((a : ℕ) → IsName rows a → h n ≡ h a → n ≡ a)
    → AllByRecursion (λ y. (n == y) ≡ false) (names rows) → AllByRecursion (λ y. (h n == y) ≡ false)
    (map h (names rows))
images_apart h n [] f a = tt
images_apart h n (r ∷ rows) f a = (
  ne_eqb (h n) (h r.name) (λ e. eqb-false n r.name a.0 (f r.name (name_here r rows) e)),
  images_apart h n rows (λ b m e. f b (name_later r rows b m) e) a.1,
)

images_distinct : (h : ℕ → ℕ) (rows : List Row) → ((a b : ℕ) → IsName rows a → IsName rows b → h a ≡ h b → a ≡ b)
    → IsDistinct (◌==◌) (names rows) → IsDistinct (◌==◌) (map h (names rows))
unfolding IsDistinct
images_distinct h [] f d = tt
images_distinct h (r ∷ rows) f d = (
  images_apart h r.name rows (λ a m e. f r.name a (name_here r rows) (name_later r rows a m) e) d.0,
  images_distinct h rows (λ a b m n e. f a b (name_later r rows a m) (name_later r rows b n) e) d.1,
)

-- a name is among the names
name_member : (rows : List Row) (y : ℕ) → IsName rows y → list_any (◌==◌ y) (names rows) ≡ true
name_member [] y n = absurd (let e = n.1 in cc)
name_member (r ∷ rows) y n =
    elim (row_cases r rows y n.0 n.1) [
      | inl here ↦ or_left (y == r.name) (list_any (◌==◌ y) (names rows)) (eq-eqb y r.name (sym here.0))
      | inr there ↦ or_right (y == r.name) (list_any (◌==◌ y) (names rows)) (name_member rows y (n.0, there.1))
    ]

images_members : (h : ℕ → ℕ) (Q rows : List Row) → ((a : ℕ) → IsName rows a → IsName Q (h a)) → (q : ℕ)
    → list_any (◌==◌ q) (map h (names rows)) ≡ true → list_any (◌==◌ q) (names Q) ≡ true
images_members h Q [] f q e = absurd (cc)
images_members h Q (r ∷ rows) f q e =
    elim (or_cases (q == h r.name) (list_any (◌==◌ q) (map h (names rows))) e) [
      | inl here ↦ let n = f r.name (name_here r rows) in
          name_member Q q (n.0, ap (row_at Q) (eqb-true q (h r.name) here) ∙ n.1)
      | inr there ↦ images_members h Q rows (λ a m. f a (name_later r rows a m)) q there
    ]

-- names that a map keeps apart are no more than those that it goes to
pub apart_no_more : (h : ℕ → ℕ) (rows Q : List Row) → IsDistinct (◌==◌) (names rows)
    → ((a b : ℕ) → IsName rows a → IsName rows b → h a ≡ h b → a ≡ b) → ((a : ℕ) → IsName rows a → IsName Q (h a))
    → length rows ≤ length Q
apart_no_more h rows Q d f g =
    let le : length (map h (names rows)) ≤ length (names Q) = length-le_from_is_member nat_eq_equiv (map h (names rows))
    (names Q) (images_distinct h rows f d) (images_members h Q rows g) in
    omega (
      arith,
      le,
      length-map (names rows) h,
      length-map rows (λ (r : Row). r.name),
      length-map Q (λ (r : Row). r.name),
    )

module _ (P Q : List Row) (pinned : ℕ → Bool) (E : ℕ → ℕ → Bool) (h : ℕ → ℕ) (population : IsPopulation P)
    (bags : BagsArePinned P pinned) (equal : IsValueEquality P pinned E) (image : IsImage P Q h pinned) where
  -- different classes have different images
  classes_apart : (a b : ℕ) → IsName (quotient P E) a → IsName (quotient P E) b → h a ≡ h b → a ≡ b
  classes_apart a b n m e =
      let from_a = row_of_quotient P E a n.0 n.1 in
      let from_b = row_of_quotient P E b m.0 m.1 in
      let met : kernel P h a b ≡ true = kernel_from P h a b (record {
        left = (from_a.row, from_a.row_is);
        right = (from_b.row, from_b.row_is);
        image = e;
      }) in
      let related : E a b ≡ true = (equal a b).1 (kernel P h, met, kernel_keeps P Q pinned h population bags image) in
      sym from_a.first ∙ same_head P pinned E (congruence P pinned E population equal) a b related ∙ from_b.first

  into : (a : ℕ) → IsName (quotient P E) a → IsName Q (h a)
  into a n =
      let from = row_of_quotient P E a n.0 n.1 in
      let landed = image.lands a from.row from.row_is in
      (landed.0, landed.1)

  pub quotient_least : length (quotient P E) ≤ length Q
  quotient_least = apart_no_more h (quotient P E) Q
      (quotient_population P pinned E (congruence P pinned E population equal) population).distinct classes_apart into

pub no_image_has_fewer : NoImageHasFewer
no_image_has_fewer = quotient_least
