-- Strings are compared by their characters, each as its kind and two numbers.
use Rattle.std.specs.Prelude.{◌≡◌, ℕ, List, [], ◌∷◌, ◌++◌, nat_eq, nat_lt, if◌then◌else◌}
use Rattle.std.specs.Bool.{Decides}
use Rattle.std.specs.Cmp.Lexicographic.{pointwise}
use Rattle.std.specs.Hash as fed
use Rattle.std.specs.List.{flat_map}
use Rattle.std.specs.Ordering.{on}
use Rattle.step_literals.specs.Items.{items_of, pieces_of, text_items}
use Rattle.step_literals.specs.Strings.{clean}
use Rattle.step_literals.specs.declared.literal.items.Item.{Item}
use Rattle.step_literals.specs.declared.literal.items.Item.TheVariants.{Code, Page, Raw}
use Rattle.step_literals.specs.declared.literal.Text.{Text}

-- codes come before characters of a page, and characters of a page before bytes
abbrev pub item_key : Item → List ℕ
item_key (Code c) = 0 ∷ c ∷ 0 ∷ []
item_key (Page p b) = 1 ∷ p ∷ b ∷ []
item_key (Raw b) = 2 ∷ b ∷ 0 ∷ []

abbrev pub items_key : List Item → List ℕ
items_key [] = []
items_key (i ∷ is) = item_key i ++ items_key is

abbrev pub text_key : Text → List ℕ
text_key t = items_key (text_items t)

-- strings are equal exactly if their characters are
abbrev pub TextsAreTheirItems : Type 0
TextsAreTheirItems = (s t : Text) → Decides (on text_key (pointwise nat_eq) s t) (text_items s ≡ text_items t)

-- What a hasher is fed: each character, and then a byte that marks the end. The bytes of one character are
-- never a prefix of another's.
abbrev pub code_writes : ℕ → List (List ℕ)
code_writes c = if nat_lt c 128 then fed.u8 c else (fed.u8 128 ++ fed.u32 c)

abbrev pub item_writes : Item → List (List ℕ)
item_writes (Code c) = code_writes c
item_writes (Page p b) = fed.u8 129 ++ (fed.u8 p ++ fed.u8 b)
item_writes (Raw b) = fed.u8 130 ++ fed.u8 b

-- what a hasher is fed of the content between apostrophes
abbrev pub content_writes : List ℕ → List (List ℕ)
content_writes bs = flat_map item_writes (items_of 1 (pieces_of (clean bs)))

abbrev pub text_writes : Text → List (List ℕ)
text_writes t = flat_map item_writes (text_items t) ++ fed.u8 255
