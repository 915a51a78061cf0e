-- The spellings of literals.
use Rattle.std.specs.Prelude.{ℕ, List, ◌⊎◌}
use Rattle.step_literals.specs.Tokens.{Spells, string, integer, real}
use Rattle.step_literals.specs.Numbers.{IsShortNumber}
use Rattle.step_literals.specs.Strings.{content_of, IsReadable}

abbrev pub IsNumber : List ℕ → Type 0
IsNumber t = Spells integer t ⊎ Spells real t

-- an integer or a real within the limits
pub record IsDecimal (t : List ℕ) : Type 0 where
  pub number : IsNumber t
  pub short : IsShortNumber t

-- a string whose directives are all completed
pub record IsText (t : List ℕ) : Type 0 where
  pub string_is : Spells string t
  pub readable : IsReadable (content_of t)
