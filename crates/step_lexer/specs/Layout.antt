-- Layout: what may be between tokens (ISO 10303-21, 5.4 and 5.6).
use Rattle.std.specs.Prelude.{◌≡◌, ℕ, ◌+◌, ◌<◌, ◌≤◌, List, [], ◌∷◌, ◌++◌, length, take, codes, Some}
use Rattle.std.specs.List.{AllByRecursion}
use Rattle.memchr.specs.Find.{FindsNeedle}
use Rattle.step_literals.specs.Tokens.{Says}

-- the lists, concatenated
abbrev pub joined : List (List ℕ) → List ℕ
joined [] = []
joined (u ∷ us) = u ++ joined us

-- the kinds of layout
pub data Blank : Type 0 where
  space : Blank
  new_line : Blank
  form_feed : Blank
  comment : Blank

abbrev pub SpellsBlank : Blank → List ℕ → Type 0
SpellsBlank space t = (b : ℕ) × (b ≤ 32) × (t ≡ b ∷ [])
SpellsBlank new_line t = Says (codes "\\N\\") t
SpellsBlank form_feed t = Says (codes "\\F\\") t
SpellsBlank comment t = (rest : List ℕ) × (k : ℕ) × (t ≡ 47 ∷ 42 ∷ rest) × FindsNeedle rest (codes "*/") 0 (Some k)
    × (k + 2 ≡ length rest)

abbrev pub IsBlank : List ℕ → Type 0
IsBlank t = (kind : Blank) × SpellsBlank kind t

-- the bytes begin with a blank of n bytes
abbrev pub HasBlank : List ℕ → ℕ → Type 0
HasBlank l n = (0 < n) × (n ≤ length l) × IsBlank (take n l)

-- the bytes begin with no blank
abbrev pub NoBlank : List ℕ → Type 0
NoBlank l = (t rest : List ℕ) → l ≡ t ++ rest → IsBlank t → ⊥

-- layout is a sequence of blanks
abbrev pub IsLayout : List ℕ → Type 0
IsLayout t = (blanks : List (List ℕ)) × AllByRecursion IsBlank blanks × (t ≡ joined blanks)

-- all the layout at the start of a text is skipped
pub record SkipsLayout (before after : List ℕ) : Type 0 where
  pub gap : List ℕ
  pub layout : IsLayout gap
  pub split : before ≡ gap ++ after
  pub whole : NoBlank after
