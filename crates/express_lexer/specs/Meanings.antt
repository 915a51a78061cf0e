-- The values of strings and binaries of a schema (ISO 10303-11, 7.5.1 and 7.5.5).
use Rattle.std.specs.Prelude.{ℕ, Bool, ◌==◌, List, [], ◌∷◌, ◌++◌, map, if◌then◌else◌}
use Rattle.step_literals.specs.Tokens.{doubled}
use Rattle.step_literals.specs.Strings.{is_high}
use Rattle.step_literals.specs.Items.{run_items, group_items}
use Rattle.step_literals.specs.declared.literal.items.Item.{Item}
use Rattle.step_literals.specs.declared.literal.items.Item.TheVariants.{Code}

-- The characters of the bytes after a run of bytes from 128 up. Each such run, as long as possible,
-- is read as in an exchange structure. Each other byte is its own code.
abbrev pub characters_behind : List ℕ → List ℕ → List Item
characters_behind run [] = run_items run
characters_behind run (b ∷ bs) =
    if is_high b then characters_behind (run ++ b ∷ []) bs else run_items run ++ Code b ∷ characters_behind [] bs

abbrev pub characters_of : List ℕ → List Item
characters_of bs = characters_behind [] bs

-- the spelling of a string with this content: between apostrophes (39), each apostrophe doubled
abbrev pub simple_text : List ℕ → List ℕ
simple_text content = 39 ∷ doubled content ++ 39 ∷ []

-- one character for each eight hexadecimal digits, whose number is the character's code
abbrev pub codes_of : List ℕ → List Item
codes_of digits = group_items 8 digits

-- the spelling of a string with these digits: between quotes (34)
abbrev pub encoded_text : List ℕ → List ℕ
encoded_text digits = 34 ∷ digits ++ 34 ∷ []

-- the bits that digits represent: 49 is `1`
abbrev pub written_bits : List ℕ → List Bool
written_bits digits = map (λ b. b == 49) digits
