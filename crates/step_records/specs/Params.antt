-- Parameters, by their outermost parts (ISO 10303-21, 11).
use Rattle.std.specs.Prelude.{ℕ, ◌==◌, ◌&&◌, Bool, true, false, not, List, [], ◌∷◌, get_or}
use Rattle.step_lexer.specs.declared.token.Mark.TheVariants.{Dollar, Asterisk}
use Rattle.step_structures.specs.Words.{keyword, name, number, element, string, binary, mark}
use Rattle.step_structures.specs.Trees.{Tree, leaf, typed, group, Trees, none, one}
use Rattle.step_records.specs.Cells.{all_of}
use Rattle.step_records.specs.declared.param.Node.{Node}
use Rattle.step_records.specs.declared.param.Node.TheVariants as nodes

-- the tree of an outermost part and what is inside it
abbrev pub node_value : Node → Tree
node_value nodes.Unset = leaf (mark Dollar)
node_value nodes.Star = leaf (mark Asterisk)
node_value (nodes.Number d) = leaf (number d.text.now)
node_value (nodes.Text s) = leaf (string s.text.now)
node_value (nodes.Bits b) = leaf (binary b.text.now)
node_value (nodes.Element w) = leaf (element w.text.now)
node_value (nodes.Reference n s) = leaf (name n s.now)
node_value (nodes.Keyword w) = leaf (keyword w.text.now)
node_value (nodes.Typed w x) = typed w.text.now x
node_value (nodes.List xs) = group (all_of xs)

-- the trees as a list
abbrev pub trees_in : Trees → List Tree
trees_in none = []
trees_in (one x xs) = x ∷ trees_in xs

-- the trees directly inside a list; empty for anything else
abbrev pub parts_of : Tree → List Tree
parts_of (group xs) = trees_in xs
parts_of _ = []

-- the keyword, if the tree is one, otherwise empty
abbrev pub keyword_of : Tree → List ℕ
keyword_of (leaf (keyword text)) = text
keyword_of _ = []

-- The normal text has the tree as it is spelt: a number, a string, a binary, or a reference without leading
-- zeros.
abbrev pub stays_as_spelt : Tree → Bool
stays_as_spelt (leaf (number text)) = true
stays_as_spelt (leaf (string text)) = true
stays_as_spelt (leaf (binary text)) = true
stays_as_spelt (leaf (name n text)) = not (get_or text 1 0 == 48)
stays_as_spelt _ = false

-- a number, a string or a binary, or a list of literal trees
abbrev mutual
  pub is_literal_tree : Tree → Bool
  is_literal_tree (leaf (number text)) = true
  is_literal_tree (leaf (string text)) = true
  is_literal_tree (leaf (binary text)) = true
  is_literal_tree (group xs) = are_literals xs
  is_literal_tree _ = false

  pub are_literals : Trees → Bool
  are_literals none = true
  are_literals (one x xs) = is_literal_tree x && are_literals xs
