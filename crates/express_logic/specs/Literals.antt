-- The values of literals of a schema, from their spelling (ISO 10303-11, 7.5), and the values of
-- counts.
use Rattle.std.specs.Prelude.{ℕ, ℤ, Bool, List, drop, pos, ◌*ℤ◌}
use Rattle.step_literals.specs.declared.literal.items.Item.{Item}
use Rattle.step_literals.specs.Strings.{content_of}
use Rattle.step_literals.specs.Decimals.{ten_to, finest}
use Rattle.express_lexer.specs.DoubledApostrophes.{undoubled}
use Rattle.express_lexer.specs.Meanings.{characters_of, codes_of, written_bits}

-- the characters of a string between apostrophes, in which each apostrophe is doubled
abbrev pub simple_characters : List ℕ → List Item
simple_characters t = characters_of (undoubled (content_of t))

-- the characters of a string of codes between quotes
abbrev pub encoded_characters : List ℕ → List Item
encoded_characters t = codes_of (content_of t)

-- the bits after a `%`
abbrev pub binary_bits : List ℕ → List Bool
binary_bits t = written_bits (drop 1 t)

-- a whole number in units of 10 ^ -1,000,400
abbrev pub whole_units : ℤ → ℤ
whole_units n = n *ℤ ten_to (pos finest)
