-- The value of a word: case is ignored (ISO 10303-21, 5.2).
use Rattle.std.specs.Prelude.{ℕ, List, map}
use Rattle.std.specs.Char.{to_ascii_uppercase}

-- a word in upper case
abbrev pub upper : List ℕ → List ℕ
upper text = map to_ascii_uppercase text
