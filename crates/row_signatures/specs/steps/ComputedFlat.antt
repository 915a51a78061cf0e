-- What the code computes; no promise stands here. Values without bags, which are compared and
-- hashed in place.
use Rattle.std.specs.Prelude.{◌≡◌, ℕ, ◌&&◌, Bool, true, false, List, ◌++◌}
use Rattle.std.specs.Hash as fed
use Rattle.std.specs.Hash.FoldHasher as folding
use Rattle.std.specs.List.{flat_map, fold}
use Rattle.std.specs.declared.hash.FoldHasher.{FoldHasher}
use Rattle.step_literals.specs.declared.literal.Decimal.{Decimal}
use Rattle.step_literals.specs.Bits.{fed_bits}
use Rattle.step_literals.specs.DecimalKeys.{key_writes, units_of}
use Rattle.step_literals.specs.ItemKeys.{item_writes}
use Rattle.step_values.specs.AgreementTests.{agree_by, agree_each_by, value_count}
use Rattle.step_values.specs.Leaves.{Leaf, unset, derived, number, text, bits, element}
use Rattle.step_values.specs.Values.{Value, leaf, reference, typed, sequence, bag, Values, none, more}

-- whether two lists of values have one shape
abbrev pub shape_test : Values → Values → Bool
shape_test vs ws = agree_each_by (λ _ _. true) vs ws

-- whether there is no bag, at any depth
abbrev mutual
  pub bagless : Value → Bool
  bagless (leaf a) = true
  bagless (reference y) = true
  bagless (typed n v) = bagless v
  bagless (sequence vs) = bagless_each vs
  bagless (bag vs) = false

  pub bagless_each : Values → Bool
  bagless_each none = true
  bagless_each (more v vs) = bagless v && bagless_each vs

-- each bag without its members
abbrev mutual
  pub emptied : Value → Value
  emptied (leaf a) = leaf a
  emptied (reference y) = reference y
  emptied (typed n v) = typed n (emptied v)
  emptied (sequence vs) = sequence (each_emptied vs)
  emptied (bag vs) = bag none

  pub each_emptied : Values → Values
  each_emptied none = none
  each_emptied (more v vs) = more (emptied v) (each_emptied vs)

-- whether values have one shape, apart from the members of bags
abbrev pub alike : Value → Value → Bool
alike v w = agree_by (λ _ _. true) (emptied v) (emptied w)

abbrev pub alike_each : Values → Values → Bool
alike_each vs ws = shape_test (each_emptied vs) (each_emptied ws)

-- a hasher is fed a mark and what follows it
abbrev pub marked : {S : Type 0} → (S → List ℕ → S) → S → ℕ → List (List ℕ) → S
marked write s mark writes = fold write (fold write s (fed.u8 mark)) writes

abbrev pub word_writes : List ℕ → List (List ℕ)
word_writes w = flat_map fed.u8 w ++ fed.u8 255

-- A hasher is fed a leaf, which takes it from state s to state t. A number is fed by any literal of
-- it.
abbrev pub FeedsLeaf : {S : Type 0} → (S → List ℕ → S) → Leaf → S → S → Type 0
FeedsLeaf write unset s t = t ≡ fold write s (fed.u8 0)
FeedsLeaf write derived s t = t ≡ fold write s (fed.u8 1)
FeedsLeaf write (number z) s t = (d : Decimal) × (units_of d ≡ z) × (t ≡ marked write s 2 (key_writes d))
FeedsLeaf write (text is) s t = t ≡ marked write s 3 (flat_map item_writes is ++ fed.u8 255)
FeedsLeaf write (bits b) s t = t ≡ marked write s 4 (fed_bits b)
FeedsLeaf write (element w) s t = t ≡ marked write s 5 (word_writes w)

-- A hasher is fed a value, or a list of values. All references are fed alike, and so are all bags.
abbrev mutual
  pub Feeds : {S : Type 0} → (S → List ℕ → S) → Value → S → S → Type 0
  Feeds write (leaf a) s t = FeedsLeaf write a s t
  Feeds write (reference y) s t = t ≡ fold write s (fed.u8 6)
  Feeds write (typed n v) s t = Feeds write v (marked write s 7 (word_writes n)) t
  Feeds write (sequence vs) s t = FeedsEach write vs (marked write s 8 (fed.usize (value_count vs))) t
  Feeds write (bag vs) s t = t ≡ fold write s (fed.u8 9)

  pub FeedsEach : {S : Type 0} → (S → List ℕ → S) → Values → S → S → Type 0
  FeedsEach write none s t = s ≡ t
  FeedsEach {S} write (more v vs) s t = (m : S) × Feeds write v s m × FeedsEach write vs m t

-- the result of a hasher that is fed all of these
abbrev pub IsHashFrom : {S : Type 0} → (S → List ℕ → S) → (S → ℕ) → S → Values → ℕ → Type 0
IsHashFrom {S} write finish start vs hash = (t : S) × FeedsEach write vs start t × (hash ≡ finish t)

-- the result of a hasher with this initial state that is fed all of these
abbrev pub IsHash : FoldHasher → Values → ℕ → Type 0
IsHash start vs hash = IsHashFrom folding.write folding.finish start vs hash

-- the result of a hasher with this initial state that is fed these writes
abbrev pub hash_told : FoldHasher → List (List ℕ) → ℕ
hash_told start writes = folding.finish (fold folding.write start writes)
