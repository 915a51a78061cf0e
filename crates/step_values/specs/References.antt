-- The references in values.
use Rattle.std.specs.Prelude.{⊤, ℕ, cond}
use Rattle.step_values.specs.Values.{Value, leaf, reference, typed, sequence, bag, Values, none, more, is_crowd}

-- each reference y, at any depth, replaced by h y
abbrev mutual
  pub renamed : (ℕ → ℕ) → Value → Value
  renamed h (leaf a) = leaf a
  renamed h (reference y) = reference (h y)
  renamed h (typed n v) = typed n (renamed h v)
  renamed h (sequence vs) = sequence (renamed_each h vs)
  renamed h (bag vs) = bag (renamed_each h vs)

  pub renamed_each : (ℕ → ℕ) → Values → Values
  renamed_each h none = none
  renamed_each h (more v vs) = more (renamed h v) (renamed_each h vs)

-- P holds of each reference at any depth
abbrev mutual
  pub EachReference : (ℕ → Type 0) → Value → Type 0
  EachReference P (leaf a) = ⊤
  EachReference P (reference y) = P y
  EachReference P (typed n v) = EachReference P v
  EachReference P (sequence vs) = EachReferenceOf P vs
  EachReference P (bag vs) = EachReferenceOf P vs

  pub EachReferenceOf : (ℕ → Type 0) → Values → Type 0
  EachReferenceOf P none = ⊤
  EachReferenceOf P (more v vs) = EachReference P v × EachReferenceOf P vs

-- P holds of each reference at any depth in a bag of more than one value
abbrev mutual
  pub EachBagReference : (ℕ → Type 0) → Value → Type 0
  EachBagReference P (leaf a) = ⊤
  EachBagReference P (reference y) = ⊤
  EachBagReference P (typed n v) = EachBagReference P v
  EachBagReference P (sequence vs) = EachBagReferenceOf P vs
  EachBagReference P (bag vs) = cond (is_crowd vs) (EachReferenceOf P vs) (EachBagReferenceOf P vs)

  pub EachBagReferenceOf : (ℕ → Type 0) → Values → Type 0
  EachBagReferenceOf P none = ⊤
  EachBagReferenceOf P (more v vs) = EachBagReference P v × EachBagReferenceOf P vs
