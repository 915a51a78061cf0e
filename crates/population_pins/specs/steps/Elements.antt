-- What is looked for in the elements of a LIST or ARRAY OF UNIQUE.
use Rattle.std.specs.Prelude.{ℕ, Bool}
use Rattle.step_values.specs.Values.{Values}
use Rattle.conformance.specs.Elements.{AnElement, IsReferenceTo, StandsWithin, IsAnotherOfClass}

pub data Question : Type 0 where
  -- An instance that occurs inside an element, and isn't that element itself.
  inside : ℕ → Question
  -- An instance that is an element, if another instance of its class, by this relation, is an
  -- element too.
  beside : (ℕ → ℕ → Bool) → ℕ → Question

abbrev pub Asks : Question → Values → Type 0
Asks (inside y) vs = AnElement (StandsWithin y) vs
Asks (beside E y) vs = AnElement (IsReferenceTo y) vs × AnElement (IsAnotherOfClass E y) vs
