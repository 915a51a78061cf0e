-- The parameter of a cell of a column, over a text (ISO 10303-21, 11).
use Rattle.std.specs.Prelude.{ℕ, ◌+◌, ◌<◌, ◌≤◌, ◌^◌, Bool, true, false, List, [], ◌∷◌, length, take, drop}
use Rattle.std.specs.Str.Parse.{digits_value}
use Rattle.parsing.specs.Nodes.{Nodes, run}
use Rattle.step_lexer.specs.declared.token.Mark.TheVariants.{Dollar, Asterisk}
use Rattle.step_literals.specs.Literals.{IsDecimal, IsText}
use Rattle.step_literals.specs.Tokens.{IsKeyword, Spells}
use Rattle.step_literals.specs.Tokens as token_kinds
use Rattle.step_structures.specs.Words.{keyword, name, number, element, string, binary, mark}
use Rattle.step_structures.specs.Trees.{Tree, leaf, typed, group, Trees, none, one}
use Rattle.step_records.specs.declared.cell.Cell.{Cell}
use Rattle.step_records.specs.declared.cell.Kind.{Kind}
use Rattle.step_records.specs.declared.cell.Kind.TheVariants as kinds
use Rattle.step_records.specs.declared.cell.Leaf.{Leaf}
use Rattle.step_records.specs.declared.cell.Leaf.TheVariants as leaves

abbrev pub all_of : List Tree → Trees
all_of [] = none
all_of (x ∷ xs) = one x (all_of xs)

-- the number that a reference writes after its `#`
abbrev pub name_of : List ℕ → ℕ
name_of text = digits_value 10 (drop 1 text)

-- a leaf with this spelling; for an element, the word between its dots
abbrev pub leaf_as : Leaf → List ℕ → Tree
leaf_as leaves.Unset s = leaf (mark Dollar)
leaf_as leaves.Star s = leaf (mark Asterisk)
leaf_as leaves.Number s = leaf (number s)
leaf_as leaves.Text s = leaf (string s)
leaf_as leaves.Bits s = leaf (binary s)
leaf_as leaves.Element s = leaf (element s)
leaf_as leaves.Reference s = leaf (name (name_of s) s)
leaf_as leaves.Keyword s = leaf (keyword s)

-- the bytes spell a leaf of this kind
abbrev pub IsSpelt : Leaf → List ℕ → Type 0
IsSpelt leaves.Unset s = Unit {0}
IsSpelt leaves.Star s = Unit {0}
IsSpelt leaves.Number s = IsDecimal s
IsSpelt leaves.Text s = IsText s
IsSpelt leaves.Bits s = Spells token_kinds.binary s
IsSpelt leaves.Element s = IsKeyword s
IsSpelt leaves.Reference s = Spells token_kinds.name s × (name_of s < 2 ^ 64)
IsSpelt leaves.Keyword s = IsKeyword s

-- a cell of this kind is a keyword
abbrev pub is_keyword : Kind → Bool
is_keyword (kinds.Leaf leaves.Keyword) = true
is_keyword _ = false

-- a cell of this kind is a number, a string or a binary
abbrev pub is_literal : Kind → Bool
is_literal (kinds.Leaf leaves.Number) = true
is_literal (kinds.Leaf leaves.Text) = true
is_literal (kinds.Leaf leaves.Bits) = true
is_literal _ = false

-- a cell of this kind is a literal or a list
abbrev pub is_literal_or_list : Kind → Bool
is_literal_or_list kinds.List = true
is_literal_or_list k = is_literal k

-- the typed parameter of a keyword and the parameter inside
abbrev pub typed_of : List Tree → Tree
typed_of (leaf (keyword text) ∷ x ∷ []) = typed text x
typed_of _ = group none

-- `len` bytes of a text, from byte offset `at` on
abbrev pub part : List ℕ → ℕ → ℕ → List ℕ
part text at len = take len (drop at text)

-- the cells inside a cell have indices below this number
abbrev pub reach_as : Kind → ℕ → ℕ → ℕ
reach_as (kinds.Leaf k) at len = 0
reach_as kinds.Typed at len = at + 2
reach_as kinds.List at len = at + len

module _ (text : List ℕ) where
  -- the parameter of a cell, given the parameter at each index
  abbrev pub says_as : (ℕ → Tree) → Kind → ℕ → ℕ → Tree
  says_as f (kinds.Leaf k) at len = leaf_as k (part text at len)
  says_as f kinds.Typed at len = typed_of (run f at 2)
  says_as f kinds.List at len = group (all_of (run f at len))

  -- cells as nodes of parameters
  abbrev pub parameters : Nodes Cell Tree
  parameters = record {
    reach = λ c. reach_as c.kind c.at c.len;
    says = λ f c. says_as f c.kind c.at c.len;
    nothing = group none;
  }

  -- a leaf is in the text, and has a spelling of its kind
  abbrev pub IsInText : Kind → ℕ → ℕ → Type 0
  IsInText (kinds.Leaf k) at len = (at + len ≤ length text) × IsSpelt k (part text at len)
  IsInText _ at len = Unit {0}

  -- all leaves are in the text, and have spellings of their kinds
  abbrev pub AreInText : List Cell → Type 0
  AreInText [] = Unit {0}
  AreInText (c ∷ cs) = IsInText c.kind c.at c.len × AreInText cs
