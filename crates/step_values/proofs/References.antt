-- What holds of each reference in values.
use Rattle.std.proofs.Common.{ℕ}
use Rattle.step_values.specs.Values.{Value, leaf, reference, typed, sequence, bag, Values, none, more, is_crowd, IsReordering, unchanged, kept, swapped, joined}
use Rattle.step_values.specs.References.{renamed, renamed_each, EachReference, EachReferenceOf, EachBagReference, EachBagReferenceOf}
use Rattle.step_values.proofs.Crowds.{made, sized}

pub each_reordered : (P : ℕ → Type 0) {us vs : Values} → IsReordering us vs → EachReferenceOf P vs
    → EachReferenceOf P us
each_reordered P (unchanged vs) h = h
each_reordered P (kept v r) h = (h.0, each_reordered P r h.1)
each_reordered P (swapped v w vs) h = (h.1.0, (h.0, h.1.1))
each_reordered P (joined r s) h = each_reordered P r (each_reordered P s h)

mutual
  pub each_in_bag : (P : ℕ → Type 0) (v : Value) → EachReference P v → EachBagReference P v
  each_in_bag P (leaf a) h = tt
  each_in_bag P (reference y) h = tt
  each_in_bag P (typed n v) h = each_in_bag P v h
  each_in_bag P (sequence vs) h = each_in_bag_of P vs h
  each_in_bag P (bag vs) h = made (is_crowd vs) h (each_in_bag_of P vs h)

  pub each_in_bag_of : (P : ℕ → Type 0) (vs : Values) → EachReferenceOf P vs → EachBagReferenceOf P vs
  each_in_bag_of P none h = tt
  each_in_bag_of P (more v vs) h = (each_in_bag P v h.0, each_in_bag_of P vs h.1)

-- two facts of each reference at once
mutual
  pub each_both : (P Q : ℕ → Type 0) (v : Value) → EachReference P v → EachReference Q v
      → EachReference (λ y. P y × Q y) v
  each_both P Q (leaf a) h k = tt
  each_both P Q (reference y) h k = (h, k)
  each_both P Q (typed n v) h k = each_both P Q v h k
  each_both P Q (sequence vs) h k = each_both_of P Q vs h k
  each_both P Q (bag vs) h k = each_both_of P Q vs h k

  pub each_both_of : (P Q : ℕ → Type 0) (vs : Values) → EachReferenceOf P vs → EachReferenceOf Q vs
      → EachReferenceOf (λ y. P y × Q y) vs
  each_both_of P Q none h k = tt
  each_both_of P Q (more v vs) h k = (each_both P Q v h.0 k.0, each_both_of P Q vs h.1 k.1)

mutual
  pub bags_both : (P Q : ℕ → Type 0) (v : Value) → EachReference P v → EachBagReference Q v
      → EachBagReference (λ y. P y × Q y) v
  bags_both P Q (leaf a) h k = tt
  bags_both P Q (reference y) h k = tt
  bags_both P Q (typed n v) h k = bags_both P Q v h k
  bags_both P Q (sequence vs) h k = bags_both_of P Q vs h k
  bags_both P Q (bag vs) h k = sized (is_crowd vs) k (λ q. each_both_of P Q vs h q) (λ q. bags_both_of P Q vs h q)

  pub bags_both_of : (P Q : ℕ → Type 0) (vs : Values) → EachReferenceOf P vs → EachBagReferenceOf Q vs
      → EachBagReferenceOf (λ y. P y × Q y) vs
  bags_both_of P Q none h k = tt
  bags_both_of P Q (more v vs) h k = (bags_both P Q v h.0 k.0, bags_both_of P Q vs h.1 k.1)

mutual
  pub each_weaker : (P Q : ℕ → Type 0) → ((y : ℕ) → P y → Q y) → (v : Value) → EachReference P v → EachReference Q v
  each_weaker P Q f (leaf a) h = tt
  each_weaker P Q f (reference y) h = f y h
  each_weaker P Q f (typed n v) h = each_weaker P Q f v h
  each_weaker P Q f (sequence vs) h = each_weaker_of P Q f vs h
  each_weaker P Q f (bag vs) h = each_weaker_of P Q f vs h

  pub each_weaker_of : (P Q : ℕ → Type 0) → ((y : ℕ) → P y → Q y) → (vs : Values) → EachReferenceOf P vs
      → EachReferenceOf Q vs
  each_weaker_of P Q f none h = tt
  each_weaker_of P Q f (more v vs) h = (each_weaker P Q f v h.0, each_weaker_of P Q f vs h.1)

-- of renamed values
mutual
  pub each_renamed : (h : ℕ → ℕ) (P Q : ℕ → Type 0) → ((y : ℕ) → P y → Q (h y)) → (v : Value) → EachReference P v
      → EachReference Q (renamed h v)
  each_renamed h P Q f (leaf a) k = tt
  each_renamed h P Q f (reference y) k = f y k
  each_renamed h P Q f (typed n v) k = each_renamed h P Q f v k
  each_renamed h P Q f (sequence vs) k = each_renamed_of h P Q f vs k
  each_renamed h P Q f (bag vs) k = each_renamed_of h P Q f vs k

  pub each_renamed_of : (h : ℕ → ℕ) (P Q : ℕ → Type 0) → ((y : ℕ) → P y → Q (h y)) → (vs : Values)
      → EachReferenceOf P vs → EachReferenceOf Q (renamed_each h vs)
  each_renamed_of h P Q f none k = tt
  each_renamed_of h P Q f (more v vs) k = (each_renamed h P Q f v k.0, each_renamed_of h P Q f vs k.1)
