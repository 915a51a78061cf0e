-- Comparison of strings from their beginning on.
use Rattle.std.specs.Prelude.{◌≡◌, ℕ, Bool, ◌&&◌, List, ◌++◌, map}
use Rattle.step_literals.specs.declared.literal.items.Item.{Item}
use Rattle.step_literals.specs.declared.literal.items.Item.TheVariants.{Code}
use Rattle.express_logic.specs.Comparison.{same_text}

abbrev pub of_codes : List ℕ → List Item
of_codes cs = map (λ (c : ℕ). Code c) cs

-- The result says whether `old` begins with these characters; if so, `new` is the rest.
abbrev pub Takes : List ℕ → List Item → List Item → Bool → Type 0
Takes cs old new answer =
    (rest : List Item) → same_text old (of_codes cs ++ rest) ≡ (answer && same_text new rest)
