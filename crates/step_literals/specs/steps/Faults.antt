-- Why bytes are not a word or a literal.
use Rattle.std.specs.Prelude.{◌≡◌, ℕ, ◌+◌, List, [], ◌∷◌, take}
use Rattle.step_literals.specs.declared.fault.Flaw.{Flaw}
use Rattle.step_literals.specs.declared.fault.Flaw.TheVariants.{BadToken, UnendedString, BadEscape, NumberTooLong}
use Rattle.step_literals.specs.Tokens.{IsKeyword, Spells, string, binary, NoneAt}
use Rattle.step_literals.specs.Numbers.{IsShortNumber}
use Rattle.step_literals.specs.Strings.{content_of, IsBrokenAt}
use Rattle.step_literals.specs.Literals.{IsNumber}

-- the bytes aren't a word
abbrev pub IsNoWord : List ℕ → Flaw → ℕ → Type 0
IsNoWord t BadToken place = (IsKeyword t → ⊥) × (place ≡ 0)
IsNoWord t _ place = ⊥

-- the bytes aren't a number, or are one beyond the limits
abbrev pub IsNoDecimal : List ℕ → Flaw → ℕ → Type 0
IsNoDecimal t BadToken place = (IsNumber t → ⊥) × (place ≡ 0)
IsNoDecimal t NumberTooLong place = IsNumber t × (IsShortNumber t → ⊥) × (place ≡ 0)
IsNoDecimal t _ place = ⊥

-- the bytes are a string with a directive that isn't completed, begin a string that isn't ended, or aren't a
-- string
abbrev pub IsNoText : List ℕ → Flaw → ℕ → Type 0
IsNoText t BadEscape place = (index : ℕ) × Spells string t × IsBrokenAt (content_of t) index × (place ≡ 1 + index)
IsNoText t UnendedString place = (take 1 t ≡ 39 ∷ []) × NoneAt t × (place ≡ 0)
IsNoText t BadToken place = (Spells string t → ⊥) × (take 1 t ≡ 39 ∷ [] → NoneAt t → ⊥) × (place ≡ 0)
IsNoText t _ place = ⊥

-- the bytes aren't a binary
abbrev pub IsNoBits : List ℕ → Flaw → ℕ → Type 0
IsNoBits t BadToken place = (Spells binary t → ⊥) × (place ≡ 0)
IsNoBits t _ place = ⊥
