-- Bytes in which apostrophes are doubled, as iterators over strings store them.
use Rattle.std.specs.Prelude.{ℕ, ◌==◌, List, [], ◌∷◌, ◌++◌, map, drop, if◌then◌else◌}
use Rattle.std.specs.Str.{chars}
use Rattle.step_literals.specs.declared.literal.items.Item.{Item}
use Rattle.step_literals.specs.declared.literal.items.Item.TheVariants.{Code, Raw}
use Rattle.express_lexer.specs.Meanings.{characters_of}

-- the bytes, with each doubled apostrophe replaced by a single one
abbrev pub undoubled : List ℕ → List ℕ
undoubled [] = []
undoubled (b ∷ []) = b ∷ []
undoubled (b ∷ c ∷ bs) = if b == 39 then 39 ∷ undoubled bs else b ∷ undoubled (c ∷ bs)

-- the rest after a byte; after an apostrophe one more byte is skipped
abbrev pub behind : ℕ → List ℕ → List ℕ
behind b bs = if b == 39 then drop 1 bs else bs

-- the characters of three parts in order: the rest of a run that is UTF-8, the rest of a run that
-- isn't, and bytes in which each apostrophe is doubled
abbrev pub left : List ℕ → List ℕ → List ℕ → List Item
left run raw rest = map (λ x. Code x) (chars run) ++ map (λ b. Raw b) raw ++ characters_of (undoubled rest)
