-- Maps of names that keep the elements of SETs, and of what is OF UNIQUE, apart.
use Rattle.std.specs.Prelude.{◌≡◌, ⊤, ℕ, true, Some, ◌⊎◌}
use Rattle.step_values.specs.Values.{Value, leaf, reference, typed, sequence, bag, Values, none, more, is_crowd}
use Rattle.express_syntax.specs.Schemas.{Schema}
use Rattle.conformance.specs.Bases.{Aggregate, Base, aggregate, Domain, base}
use Rattle.conformance.specs.ParameterFits.{inner}

-- The value refers to `y`, at any depth.
abbrev mutual
  pub Occurs : ℕ → Value → Type 0
  Occurs y (leaf a) = ⊥
  Occurs y (reference z) = y ≡ z
  Occurs y (typed n v) = Occurs y v
  Occurs y (sequence vs) = OccursIn y vs
  Occurs y (bag vs) = OccursIn y vs

  pub OccursIn : ℕ → Values → Type 0
  OccursIn y none = ⊥
  OccursIn y (more v vs) = Occurs y v ⊎ OccursIn y vs

-- `h` maps no two instances to which these values refer to the same name.
abbrev pub IsOneToOne : (ℕ → ℕ) → Values → Type 0
IsOneToOne h vs = (y z : ℕ) → OccursIn y vs → OccursIn z vs → h y ≡ h z → y ≡ z

module _ (s : Schema) (d : Domain) (h : ℕ → ℕ) where
  -- `h` maps no two instances to which one SET of more than one value, or one LIST or ARRAY OF
  -- UNIQUE, refers to the same name.
  abbrev mutual
    pub KeepsApart : Base → Value → Type 0
    KeepsApart b (leaf a) = ⊤
    KeepsApart b (reference y) = ⊤
    KeepsApart b (typed word v) = (c : Base) → inner s d b word ≡ Some c → KeepsApart c v
    KeepsApart b (sequence vs) = (a : Aggregate) → b ≡ aggregate a
        → (a.unique ≡ true → IsOneToOne h vs) × KeepEachApart (base d a.element) vs
    KeepsApart b (bag vs) = (a : Aggregate) → b ≡ aggregate a
        → (a.unique ≡ true → is_crowd vs ≡ true → IsOneToOne h vs) × KeepEachApart (base d a.element) vs

    pub KeepEachApart : Base → Values → Type 0
    KeepEachApart b none = ⊤
    KeepEachApart b (more v vs) = KeepsApart b v × KeepEachApart b vs
