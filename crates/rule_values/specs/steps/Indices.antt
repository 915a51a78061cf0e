-- Whole numbers as indices.
use Rattle.std.specs.Prelude.{◌≡◌, ℕ, ◌==◌, ℤ, Bool, true, false, Option, Some, None, MatchOption, FitsSigned, not, ◌||◌}
use Rattle.std.specs.Int.{w64}
use Rattle.express_logic.specs.Literals.{whole_units}
use Rattle.express_logic.specs.Data.{Shape, bag, Datum, indeterminate, number, Data}
use Rattle.conformance.specs.Operations.{element_from}

-- o is the whole number that d is, if it is one of 64 bits
abbrev pub IsWholeNumber : Datum → Option ℤ → Type 0
IsWholeNumber d o =
    MatchOption o ((n : ℤ) → FitsSigned w64 n → d ≡ number (whole_units n) → ⊥) (λ n. d ≡ number (whole_units n))

abbrev pub is_bag : Shape → Bool
is_bag bag = true
is_bag s = false

-- elements with an order, and a single element, have indices
abbrev pub has_indices : Shape → ℕ → Bool
has_indices s n = not (is_bag s) || n == 1

-- the element with the index z, if the first element has an index
abbrev pub element_behind : Option ℤ → ℤ → Data → Datum
element_behind None z ds = indeterminate
element_behind (Some first) z ds = element_from first z ds
