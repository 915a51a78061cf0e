-- Entering a row into an index.
use Rattle.std.specs.Prelude.{ℕ, Option, None, Some}

-- the row that was entered before, otherwise this one
abbrev pub earlier : Option ℕ → ℕ → ℕ
earlier None row = row
earlier (Some r) row = r
