-- The shape of values: everything except the targets of references outside SETs and BAGs of more
-- than one value. And these references, in order.
use Rattle.std.specs.Prelude.{◌≡◌, ◌↔◌, ◌<◌, ℕ, suc, Bool, true, cond, List, [], ◌∷◌, ◌++◌, map, nat_le}
use Rattle.std.specs.List.{AllZip}
use Rattle.step_values.specs.Values.{Value, leaf, reference, typed, sequence, bag, Values, none, more, is_crowd, AgreeEach}

-- the references outside bags of more than one value, in order
abbrev mutual
  pub outside : Value → List ℕ
  outside (leaf a) = []
  outside (reference y) = y ∷ []
  outside (typed n v) = outside v
  outside (sequence vs) = outside_each vs
  outside (bag vs) = cond (is_crowd vs) [] (outside_each vs)

  pub outside_each : Values → List ℕ
  outside_each none = []
  outside_each (more v vs) = outside v ++ outside_each vs

-- Values of one shape agree under the test that passes any two references.
abbrev pub HaveOneShape : Values → Values → Type 0
HaveOneShape vs ws = AgreeEach (λ _ _. true) vs ws

-- Values agree under a test exactly if they have one shape and the test passes their references
-- outside bags of more than one value, pair by pair.
abbrev pub AgreementIsByShapes : Type 0
AgreementIsByShapes = (test : ℕ → ℕ → Bool) (vs ws : Values) → AgreeEach test vs ws
    ↔ (HaveOneShape vs ws × AllZip (λ y z. test y z ≡ true) (outside_each vs) (outside_each ws))

-- Renumbering of classes: old numbers are below the limit, new numbers start at the limit, and
-- whatever has no new number keeps its old one.
pub record Renumbers (old new : ℕ → ℕ) (limit : ℕ) : Type 0 where
  pub before : (y : ℕ) → old y < limit
  pub keeps : (y : ℕ) → new y < limit → new y ≡ old y

-- the references that have a new number: the position of each, counted from k, with the new number
abbrev pub changes : ℕ → (ℕ → ℕ) → ℕ → List ℕ → List (ℕ × ℕ)
changes limit new k [] = []
changes limit new k (y ∷ ys) = cond (nat_le limit (new y)) ((k, new y) ∷ changes limit new (suc k) ys) (changes limit new
    (suc k) ys)

-- If the old numbers of two lists of references are equal pair by pair, then the new numbers are
-- equal exactly if the changes are.
abbrev pub ChangesDecide : Type 0
ChangesDecide = (old new : ℕ → ℕ) (limit : ℕ) → Renumbers old new limit → (ys zs : List ℕ) → map old ys ≡ map old zs
    → (map new ys ≡ map new zs) ↔ (changes limit new 0 ys ≡ changes limit new 0 zs)
