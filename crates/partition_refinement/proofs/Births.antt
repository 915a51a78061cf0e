-- What is born in a round are exactly the places that are the first of a class after it and of none before it.
use Rattle.std.proofs.Common.{◌≡◌, ◌≤◌, ◌<◌, ℕ, zero, suc, ◌+◌, ◌-◌, List, sym, ◌∙◌, ap, subst, inl, inr, arith}
use Rattle.std.specs.Prelude.{◌⊎◌, slice_index}
use Rattle.partitions.specs.Layouts.{Layout}
use Rattle.partitions.specs.Refinements.{IsAmong}
use Rattle.partition_refinement.specs.Firsts.{IsFirst}
use Rattle.partition_refinement.specs.steps.Working.{AreBorn}

module _ (p : Layout) (low high : ℕ) (born : List ℕ) (order : low ≤ high) (all : AreBorn p low high born) where
  -- who is the first of a class is so in each later partition
  stays : (n d h : ℕ) → low ≤ d → d + n ≤ high → IsFirst p d h → IsFirst p (d + n) h
  stays zero d h l m a = let e : d ≡ d + 0 = omega arith in subst (λ k. IsFirst p k h) e a
  stays (suc n) d h l m a =
      let next : IsFirst p (d + 1) h = (all.begins d l (omega arith) h).1 (inl a) in
      let e : d + 1 + n ≡ d + suc n = omega arith in
      subst (λ k. IsFirst p k h) e (stays n (d + 1) h (omega arith) (omega arith) next)

  -- going down from n classes above `low`, it is either the first all the way or was born on it
  found : (n h : ℕ) → low + n ≤ high → IsFirst p (low + n) h → IsFirst p low h ⊎ IsAmong born h
  found zero h m a = let e : low + 0 ≡ low = omega arith in inl (subst (λ k. IsFirst p k h) e a)
  found (suc n) h m a =
      let e : low + suc n ≡ low + n + 1 = omega arith in
      elim ((all.begins (low + n) (omega arith) (omega arith) h).0 (subst (λ k. IsFirst p k h) e a)) [
        | inl b ↦ found n h (omega arith) b
        | inr is ↦ let each = all.each in inr (high - 1 - (low + n), omega arith, sym is)
      ]

  pub born_lead : (h : ℕ) → IsAmong born h → IsFirst p high h × (IsFirst p low h → ⊥)
  born_lead h a =
      let each = all.each in
      let j : ℕ = a.0 in
      let l = a.1 in
      let d : ℕ = high - 1 - j in
      let low_d : low ≤ d = omega arith in
      let d_high : d < high = omega arith in
      let back : high - 1 - d ≡ j = omega arith in
      let is : h ≡ slice_index born (high - 1 - d) = sym a.2 ∙ ap (slice_index born) (sym back) in
      let first_places : IsFirst p (d + 1) h = (all.begins d low_d d_high h).1 (inr is) in
      let e : d + 1 + (high - (d + 1)) ≡ high = omega arith in (
        subst (λ k. IsFirst p k h) e (stays (high - (d + 1)) (d + 1) h (omega arith) (omega arith) first_places),
        λ b.
            let f : low + (d - low) ≡ d = omega arith in
            let at_d : IsFirst p d h = subst (λ k. IsFirst p k h) f (stays (d - low) low h (omega arith) (omega arith) b) in
            all.fresh d low_d d_high (subst (IsFirst p d) is at_d),
      )

  pub leads_are_born : (h : ℕ) → IsFirst p high h → (IsFirst p low h → ⊥) → IsAmong born h
  leads_are_born h a not =
      let e : high ≡ low + (high - low) = omega arith in
      elim (found (high - low) h (omega arith) (subst (λ k. IsFirst p k h) e a)) [
        | inl b ↦ absurd (not b)
        | inr b ↦ b
      ]
