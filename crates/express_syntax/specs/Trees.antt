-- Expressions as trees, and the words of their spelling (ISO 10303-11, 12).
use Rattle.std.specs.Prelude.{ℕ, List, [], ◌∷◌, ◌++◌}
use Rattle.express_lexer.specs.declared.marks.Mark.TheVariants as marks
use Rattle.express_syntax.specs.declared.keyword.Keyword.TheVariants as keywords
use Rattle.express_syntax.specs.declared.expression.Sign.{Sign}
use Rattle.express_syntax.specs.declared.expression.Sign.TheVariants as signs
use Rattle.express_syntax.specs.declared.expression.Logical.{Logical}
use Rattle.express_syntax.specs.declared.expression.Logical.TheVariants as logicals
use Rattle.express_syntax.specs.declared.expression.Relation.{Relation}
use Rattle.express_syntax.specs.declared.expression.Relation.TheVariants as relations
use Rattle.express_syntax.specs.declared.expression.Limit.{Limit}
use Rattle.express_syntax.specs.declared.expression.Limit.TheVariants as limits
use Rattle.express_syntax.specs.declared.expression.Junction.{Junction}
use Rattle.express_syntax.specs.declared.expression.Junction.TheVariants as junctions
use Rattle.express_syntax.specs.declared.expression.Function.{Function}
use Rattle.express_syntax.specs.declared.expression.Function.TheVariants as functions
use Rattle.express_syntax.specs.Words.{Word, keyword, name, integer, real, string, encoded, binary, mark}

-- numbers by their spelling
pub data Number : Type 0 where
  whole : List ℕ → Number
  decimal : List ℕ → Number

pub data Literal : Type 0 where
  number : Number → Literal
  text : List ℕ → Literal
  codes_of_text : List ℕ → Literal
  bits : List ℕ → Literal
  constant : Logical → Literal
  indeterminate : Literal

pub data Root : Type 0 where
  own : Root
  named : List ℕ → Root

mutual
  pub data Tree : Type 0 where
    literal : Literal → Tree
    signed : Sign → Number → Tree
    reference : Root → Qualifiers → Tree
    parenthesized : Tree → Tree
    aggregate : Trees → Tree
    interval : Tree → Limit → Tree → Limit → Tree → Tree
    query : List ℕ → Tree → Tree → Tree
    call : Function → Tree → Tree
    nvl : Tree → Tree → Tree
    negation : Tree → Tree
    conjunction : Tree → Trees → Tree
    disjunction : Tree → Alternatives → Tree
    comparison : Tree → Relation → Tree → Tree

  pub data Trees : Type 0 where
    none : Trees
    one : Tree → Trees → Trees

  pub data Alternatives : Type 0 where
    finish : Alternatives
    another : Junction → Tree → Alternatives → Alternatives

  pub data Qualifiers : Type 0 where
    plain : Qualifiers
    attribute : List ℕ → Qualifiers → Qualifiers
    group : List ℕ → List ℕ → Qualifiers → Qualifiers
    index : Tree → Qualifiers → Qualifiers

abbrev pub word_of_number : Number → Word
word_of_number (whole t) = integer t
word_of_number (decimal t) = real t

abbrev pub word_of_logical : Logical → Word
word_of_logical logicals.False = keyword keywords.False
word_of_logical logicals.Unknown = keyword keywords.Unknown
word_of_logical logicals.True = keyword keywords.True

abbrev pub word_of_literal : Literal → Word
word_of_literal (number n) = word_of_number n
word_of_literal (text t) = string t
word_of_literal (codes_of_text t) = encoded t
word_of_literal (bits t) = binary t
word_of_literal (constant l) = word_of_logical l
word_of_literal indeterminate = mark marks.Unknown

abbrev pub word_of_sign : Sign → Word
word_of_sign signs.Plus = mark marks.Plus
word_of_sign signs.Minus = mark marks.Minus

abbrev pub word_of_relation : Relation → Word
word_of_relation relations.Equal = mark marks.Equal
word_of_relation relations.NotEqual = mark marks.NotEqual
word_of_relation relations.Less = mark marks.Less
word_of_relation relations.Greater = mark marks.Greater
word_of_relation relations.LessOrEqual = mark marks.LessOrEqual
word_of_relation relations.GreaterOrEqual = mark marks.GreaterOrEqual
word_of_relation relations.In = keyword keywords.In

abbrev pub word_of_limit : Limit → Word
word_of_limit limits.Less = mark marks.Less
word_of_limit limits.LessOrEqual = mark marks.LessOrEqual

abbrev pub word_of_junction : Junction → Word
word_of_junction junctions.Or = keyword keywords.Or
word_of_junction junctions.Xor = keyword keywords.Xor

abbrev pub word_of_function : Function → Word
word_of_function functions.Exists = keyword keywords.Exists
word_of_function functions.Sizeof = keyword keywords.Sizeof
word_of_function functions.Hiindex = keyword keywords.Hiindex
word_of_function functions.Loindex = keyword keywords.Loindex
word_of_function functions.Typeof = keyword keywords.Typeof

abbrev pub word_of_root : Root → Word
word_of_root own = keyword keywords.SelfWord
word_of_root (named n) = name n

abbrev mutual
  pub words : Tree → List Word
  words (literal l) = word_of_literal l ∷ []
  words (signed s n) = word_of_sign s ∷ word_of_number n ∷ []
  words (reference r qs) = word_of_root r ∷ words_of_qualifiers qs
  words (parenthesized x) = mark marks.Open ∷ (words x ++ mark marks.Close ∷ [])
  words (aggregate xs) = mark marks.OpenBracket ∷ (words_of_trees xs ++ mark marks.CloseBracket ∷ [])
  words (interval low above x below high) = mark marks.OpenBrace
      ∷ (words low ++ word_of_limit above
      ∷ (words x ++ word_of_limit below ∷ (words high ++ mark marks.CloseBrace ∷ [])))
  words (query v source condition) = keyword keywords.Query ∷ mark marks.Open ∷ name v ∷ mark marks.QuerySource
      ∷ (words source ++ mark marks.Bar ∷ (words condition ++ mark marks.Close ∷ []))
  words (call f x) = word_of_function f ∷ mark marks.Open ∷ (words x ++ mark marks.Close ∷ [])
  words (nvl x y) = keyword keywords.Nvl ∷ mark marks.Open
      ∷ (words x ++ mark marks.Comma ∷ (words y ++ mark marks.Close ∷ []))
  words (negation x) = keyword keywords.Not ∷ words x
  words (conjunction x xs) = words x ++ words_of_others (keyword keywords.And) xs
  words (disjunction x xs) = words x ++ words_of_alternatives xs
  words (comparison x r y) = words x ++ word_of_relation r ∷ words y

  -- with commas between
  pub words_of_trees : Trees → List Word
  words_of_trees none = []
  words_of_trees (one x xs) = words x ++ words_of_others (mark marks.Comma) xs

  -- each preceded by this word
  pub words_of_others : Word → Trees → List Word
  words_of_others w none = []
  words_of_others w (one x xs) = w ∷ (words x ++ words_of_others w xs)

  pub words_of_alternatives : Alternatives → List Word
  words_of_alternatives finish = []
  words_of_alternatives (another j x xs) = word_of_junction j ∷ (words x ++ words_of_alternatives xs)

  pub words_of_qualifiers : Qualifiers → List Word
  words_of_qualifiers plain = []
  words_of_qualifiers (attribute a qs) = mark marks.Dot ∷ name a ∷ words_of_qualifiers qs
  words_of_qualifiers (group e a qs) = mark marks.Backslash ∷ name e ∷ mark marks.Dot ∷ name a ∷ words_of_qualifiers qs
  words_of_qualifiers (index x qs) = mark marks.OpenBracket
      ∷ (words x ++ mark marks.CloseBracket ∷ words_of_qualifiers qs)
