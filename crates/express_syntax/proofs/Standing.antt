-- What stands at the front of words, part by part: the first word decides which tree it is, and each part of it
-- stands at the words that the part before it left.
use Rattle.std.proofs.Common.{◌≡◌, ℕ, ◌+◌, ◌<◌, List, ◌∷◌, ◌++◌}
use Rattle.express_lexer.specs.declared.marks.Mark.TheVariants as marks
use Rattle.express_syntax.specs.declared.keyword.Keyword.TheVariants as keywords
use Rattle.express_syntax.specs.declared.expression.Sign.{Sign}
use Rattle.express_syntax.specs.declared.expression.Sign.TheVariants as signs
use Rattle.express_syntax.specs.declared.expression.Logical.TheVariants as logicals
use Rattle.express_syntax.specs.declared.expression.Function.{Function}
use Rattle.express_syntax.specs.declared.expression.Function.TheVariants as functions
use Rattle.express_syntax.specs.Words.{Word, keyword, name, integer, real, string, encoded, binary, mark}
use Rattle.express_syntax.specs.Trees.{whole, decimal, Literal, number, text, codes_of_text, bits, constant, indeterminate, Root, own, named, Tree, conjunction, disjunction, Trees, none, one, Alternatives, finish, another, words_of_others}
use Rattle.express_syntax.specs.Grammar.{simple, expression, FitsEach}
use Rattle.express_syntax.specs.steps.Reads.{Stops, Stands}

-- what a word begins
pub data First : Type 0 where
  value : Literal → First
  root : Root → First
  parenthesis : First
  bracket : First
  brace : First
  querying : First
  calling : Function → First
  choosing : First
  denying : First
  signing : Sign → First
  other : First

abbrev pub first_of : Word → First
first_of (keyword keywords.False) = value (constant logicals.False)
first_of (keyword keywords.Unknown) = value (constant logicals.Unknown)
first_of (keyword keywords.True) = value (constant logicals.True)
first_of (keyword keywords.SelfWord) = root own
first_of (keyword keywords.Query) = querying
first_of (keyword keywords.Exists) = calling functions.Exists
first_of (keyword keywords.Sizeof) = calling functions.Sizeof
first_of (keyword keywords.Hiindex) = calling functions.Hiindex
first_of (keyword keywords.Loindex) = calling functions.Loindex
first_of (keyword keywords.Typeof) = calling functions.Typeof
first_of (keyword keywords.Nvl) = choosing
first_of (keyword keywords.Not) = denying
first_of (name n) = root (named n)
first_of (integer t) = value (number (whole t))
first_of (real t) = value (number (decimal t))
first_of (string t) = value (text t)
first_of (encoded t) = value (codes_of_text t)
first_of (binary t) = value (bits t)
first_of (mark marks.Unknown) = value indeterminate
first_of (mark marks.Open) = parenthesis
first_of (mark marks.OpenBracket) = bracket
first_of (mark marks.OpenBrace) = brace
first_of (mark marks.Plus) = signing signs.Plus
first_of (mark marks.Minus) = signing signs.Minus
first_of _ = other

-- what follows a first tree makes of it
abbrev pub conjunction_of : Tree → Trees → Tree
conjunction_of x none = x
conjunction_of x (one y ys) = conjunction x (one y ys)

abbrev pub disjunction_of : Tree → Alternatives → Tree
disjunction_of x finish = x
disjunction_of x (another j y ys) = disjunction x (another j y ys)

-- a comma and an element each, and the bracket that closes them
pub record StandMore (n : ℕ) (ws : List Word) (xs : Trees) (rest : List Word) : Type 0 where
  pub fits : FitsEach n expression xs
  pub spelled : ws ≡ words_of_others (mark marks.Comma) xs ++ mark marks.CloseBracket ∷ rest

-- The tree y whose first word was read, by that word; more is behind the word, and rest behind the tree.

-- a simple expression alone, and no relation behind it
pub record IsAlone (n : ℕ) (ws : List Word) (y : Tree) (rest : List Word) : Type 0 where
  pub stands : Stands n simple ws y rest
  pub whole : Stops expression rest

pub record IsElement (n : ℕ) (more : List Word) (xs : Trees) (rest : List Word) : Type 0 where
  pub first : Tree
  pub others : Trees
  pub left : List Word
  pub is : xs ≡ one first others
  pub stands : Stands n expression more first left
  pub behind : StandMore n left others rest
