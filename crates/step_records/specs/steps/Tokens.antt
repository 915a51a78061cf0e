-- Tokens that are leaves.
use Rattle.std.specs.Prelude.{◌≡◌, ℕ, ◌≤◌, List, length, take, drop, Option, Some, None}
use Rattle.step_lexer.specs.declared.token.Token.{Token}
use Rattle.step_lexer.specs.declared.token.Sort.{Sort}
use Rattle.step_lexer.specs.declared.token.Sort.TheVariants as sorts
use Rattle.step_lexer.specs.declared.token.Mark.TheVariants.{Dollar, Asterisk}
use Rattle.step_lexer.specs.Front.{IsFront}
use Rattle.step_structures.specs.Words.{word_of}
use Rattle.step_structures.specs.Trees.{Tree, leaf}
use Rattle.step_records.specs.Cells.{reach_as, says_as, IsInText}
use Rattle.step_records.specs.declared.cell.Cell.{Cell}
use Rattle.step_records.specs.declared.cell.Leaf.{Leaf}
use Rattle.step_records.specs.declared.cell.Leaf.TheVariants as leaves

-- the token is in the text, at its byte offset
pub record StandsIn (text : List ℕ) (t : Token) : Type 0 where
  pub within : t.place ≤ length text
  pub front : IsFront (drop t.place text) t.sort (length t.text.now)
  pub is : t.text.now ≡ take (length t.text.now) (drop t.place text)

-- the kind of leaf that a token is, if any
abbrev pub leaf_of : Sort → Option Leaf
leaf_of (sorts.Mark Dollar) = Some leaves.Unset
leaf_of (sorts.Mark Asterisk) = Some leaves.Star
leaf_of (sorts.Name n) = Some leaves.Reference
leaf_of (sorts.Integer d) = Some leaves.Number
leaf_of (sorts.Real d) = Some leaves.Number
leaf_of (sorts.String s) = Some leaves.Text
leaf_of (sorts.Binary b) = Some leaves.Bits
leaf_of (sorts.Element w) = Some leaves.Element
leaf_of (sorts.Keyword w) = Some leaves.Keyword
leaf_of _ = None

-- a token that is a leaf of this kind is in the text at byte offset `at`, and has `len` bytes
pub record IsLeafAt (text : List ℕ) (kind : Leaf) (at len : ℕ) (t : Token) : Type 0 where
  pub is : leaf_of t.sort ≡ Some kind
  pub stands : StandsIn text t
  pub place : t.place ≡ at
  pub length : length t.text.now ≡ len

-- the leaf that a token is
abbrev pub leaf_tree : Token → Tree
leaf_tree t = leaf (word_of t.sort t.text.now)

-- the number of dots before the word of a leaf, and after it
abbrev pub dots_of : Leaf → ℕ
dots_of leaves.Element = 1
dots_of _ = 0

-- the cell of the leaf that a token is
pub record IsCellOf (text : List ℕ) (t : Token) (c : Cell) : Type 0 where
  pub reach : reach_as c.kind c.at c.len ≡ 0
  pub in_text : IsInText text c.kind c.at c.len
  pub says : (f : ℕ → Tree) → says_as text f c.kind c.at c.len ≡ leaf_tree t
