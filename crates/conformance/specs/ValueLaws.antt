-- The laws of values that fit.
use Rattle.std.specs.Prelude.{◌≡◌, ℕ, ◌==◌, List, Some, None, ◌↔◌}
use Rattle.step_structures.specs.Trees.{Tree}
use Rattle.step_values.specs.Values.{Value, Agree}
use Rattle.step_values.specs.References.{renamed}
use Rattle.express_syntax.specs.Schemas.{Schema}
use Rattle.schema_semantics.specs.Names.{Name}
use Rattle.conformance.specs.Bases.{Base, Domain}
use Rattle.conformance.specs.ParameterFits.{Target, unknown, of_types, value_as, misfit}
use Rattle.conformance.specs.Fits.{Typing, Fits}
use Rattle.conformance.specs.ValueSpellings.{IsSpelt}
use Rattle.conformance.specs.SeparatingMaps.{KeepsApart}

-- `target` refers to instances with the types that `typing` gives.
abbrev pub TargetsHaveTypes : (ℕ → Target) → Typing → Type 0
TargetsHaveTypes target typing = (y : ℕ) (types : List Name) → (target y ≡ of_types types) ↔ (typing y ≡ Some types)

-- If no reference is to an instance with an unknown keyword, a parameter has no finding exactly if
-- it is spelled as its data type requires and its value fits.
abbrev pub NoFindingExactlyWhereItFits : Type 0
NoFindingExactlyWhereItFits = (s : Schema) (d : Domain) (target : ℕ → Target) (typing : Typing) → TargetsHaveTypes target typing
    → ((y : ℕ) → target y ≡ unknown → ⊥) → (b : Base) (x : Tree)
    → (misfit s d target b x ≡ None) ↔ (IsSpelt s d b x × Fits s d typing b (value_as s d b x))

-- If a value fits, so does its image by a map of names that keeps types and keeps the elements of
-- the value apart.
abbrev pub FitsInImages : Type 0
FitsInImages = (s : Schema) (d : Domain) (before after : Typing) (h : ℕ → ℕ)
    → ((y : ℕ) (types : List Name) → before y ≡ Some types → after (h y) ≡ Some types) → (b : Base) (v w : Value)
    → Fits s d before b v → KeepsApart s d h b v → Agree (◌==◌) (renamed h v) w → Fits s d after b w
