-- Values that can't have a LIST or ARRAY OF UNIQUE in them have none.
use Rattle.std.specs.Prelude.{◌≡◌, ◌||◌, Bool, true, false, Some}
use Rattle.std.proofs.Common.{refl, sym, ap, ◌∙◌, inl, inr}
use Rattle.step_values.specs.Values.{Value, leaf, reference, typed, sequence, bag, Values, none, more}
use Rattle.express_syntax.specs.Schemas.{Schema}
use Rattle.conformance.specs.Bases.{Aggregate, Base, integer, number, boolean, logical, string, binary, enumeration, entity, select, aggregate, Domain, base}
use Rattle.conformance.specs.ParameterFits.{inner}
use Rattle.conformance.specs.Elements.{HasUnique, HasUniqueAmong}
use Rattle.population_pins.specs.steps.Holding.{has_parts, may_hold}

pub not-both : (a : Bool) → a ≡ false → a ≡ true → ⊥
not-both a e f = cc

or-first : (a b : Bool) → (a || b) ≡ false → a ≡ false
or-first true b e = e
or-first false b e = refl

or-second : (a b : Bool) → (a || b) ≡ false → b ≡ false
or-second true b e = absurd (cc)
or-second false b e = e

module _ (s : Schema) (d : Domain) (P : Values → Type 0) where
  -- what has no parts is no aggregate, and stands for no typed value
  none-inside : (b c : Base) (word : _) → has_parts b ≡ false → inner s d b word ≡ Some c → ⊥
  none-inside integer c word e i = cc
  none-inside number c word e i = cc
  none-inside boolean c word e i = cc
  none-inside logical c word e i = cc
  none-inside (string w) c word e i = cc
  none-inside (binary w) c word e i = cc
  none-inside (enumeration items) c word e i = cc
  none-inside (entity n) c word e i = cc
  none-inside (select m) c word e i = cc
  none-inside (aggregate a) c word e i = cc

  no-aggregate : (b : Base) (a : Aggregate) → has_parts b ≡ false → b ≡ aggregate a → ⊥
  no-aggregate b a e is = not-both (has_parts b) e (ap has_parts is)

  none-in-plain : (b : Base) (v : Value) → has_parts b ≡ false → HasUnique s d P b v → ⊥
  none-in-plain b (leaf a) e h = h
  none-in-plain b (reference y) e h = h
  none-in-plain b (typed word v) e h = none-inside b h.0 word e h.1
  none-in-plain b (sequence vs) e h = no-aggregate b h.0 e h.1
  none-in-plain b (bag vs) e h = no-aggregate b h.0 e h.1

  none-among-plain : (b : Base) (vs : Values) → has_parts b ≡ false → HasUniqueAmong s d P b vs → ⊥
  none-among-plain b none e h = h
  none-among-plain b (more v vs) e (inl h) = none-in-plain b v e h
  none-among-plain b (more v vs) e (inr h) = none-among-plain b vs e h

  none-typed : (b c : Base) (word : _) → may_hold d b ≡ false → inner s d b word ≡ Some c → ⊥
  none-typed integer c word e i = cc
  none-typed number c word e i = cc
  none-typed boolean c word e i = cc
  none-typed logical c word e i = cc
  none-typed (string w) c word e i = cc
  none-typed (binary w) c word e i = cc
  none-typed (enumeration items) c word e i = cc
  none-typed (entity n) c word e i = cc
  none-typed (select m) c word e i = cc
  none-typed (aggregate a) c word e i = cc

  -- what may_hold says of an aggregate
  says : (b : Base) (a : Aggregate) → may_hold d b ≡ false → b ≡ aggregate a
      → (a.unique || has_parts (base d a.element)) ≡ false
  says b a e is = sym (ap (may_hold d) is) ∙ e

  pub none-held : (b : Base) (v : Value) → may_hold d b ≡ false → HasUnique s d P b v → ⊥
  none-held b (leaf a) e h = h
  none-held b (reference y) e h = h
  none-held b (typed word v) e h = none-typed b h.0 word e h.1
  none-held b (sequence vs) e (a, is, inl (u, p)) =
      not-both a.unique (or-first a.unique (has_parts (base d a.element)) (says b a e is)) u
  none-held b (sequence vs) e (a, is, inr h) =
      none-among-plain (base d a.element) vs
      (or-second a.unique (has_parts (base d a.element)) (says b a e is)) h
  none-held b (bag vs) e (a, is, h) =
      none-among-plain (base d a.element) vs
      (or-second a.unique (has_parts (base d a.element)) (says b a e is)) h

  pub none-held-among : (b : Base) (vs : Values) → may_hold d b ≡ false → HasUniqueAmong s d P b vs → ⊥
  none-held-among b none e h = h
  none-held-among b (more v vs) e (inl h) = none-held b v e h
  none-held-among b (more v vs) e (inr h) = none-held-among b vs e h
