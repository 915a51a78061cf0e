-- Values of an instance, and when two of them agree.
use Rattle.std.specs.Prelude.{◌≡◌, ⊤, ℕ, ◌==◌, Bool, true, false, cond, List}
use Rattle.step_values.specs.Leaves.{Leaf}

-- a value of an attribute: a LIST or ARRAY is a sequence, a SET or BAG is a bag (ISO 10303-11, 8.2)
mutual
  pub data Value : Type 0 where
    leaf : Leaf → Value
    reference : ℕ → Value
    typed : List ℕ → Value → Value
    sequence : Values → Value
    bag : Values → Value

  pub data Values : Type 0 where
    none : Values
    more : Value → Values → Values

-- whether there is more than one value
abbrev pub is_crowd : Values → Bool
is_crowd (more v (more w vs)) = true
is_crowd _ = false

-- the second list is a permutation of the first
pub data IsReordering : Values → Values → Type 0 where
  unchanged : (vs : Values) → IsReordering vs vs
  kept : {vs ws : Values} → (v : Value) → IsReordering vs ws → IsReordering (more v vs) (more v ws)
  swapped : (v w : Value) (vs : Values) → IsReordering (more v (more w vs)) (more w (more v vs))
  joined : {us vs ws : Values} → IsReordering us vs → IsReordering vs ws → IsReordering us ws

-- Values agree in these cases: equal leaves; references that the test passes; equal type names with
-- values that agree; sequences that agree position by position; bags of at most one value that
-- agree position by position; larger bags, if some permutation of one agrees with the other position
-- by position, each reference with itself alone.
abbrev mutual
  pub Agree : (ℕ → ℕ → Bool) → Value → Value → Type 0
  Agree test (leaf a) (leaf b) = a ≡ b
  Agree test (reference y) (reference z) = test y z ≡ true
  Agree test (typed n v) (typed m w) = (n ≡ m) × Agree test v w
  Agree test (sequence vs) (sequence ws) = AgreeEach test vs ws
  Agree test (bag vs) (bag ws) = cond (is_crowd vs) ((us : Values) × IsReordering us ws × AgreeEach (◌==◌) vs us)
      (AgreeEach test vs ws)
  Agree _ _ _ = ⊥

  pub AgreeEach : (ℕ → ℕ → Bool) → Values → Values → Type 0
  AgreeEach test none none = ⊤
  AgreeEach test (more v vs) (more w ws) = Agree test v w × AgreeEach test vs ws
  AgreeEach _ _ _ = ⊥
