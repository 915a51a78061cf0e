-- The parts of expressions, in the order in which they are read (ISO 10303-11, 12).
use Rattle.std.specs.Prelude.{◌≡◌, ℕ, ◌+◌, ◌<◌, List, ◌∷◌, ◌++◌, Option, None, Some, drop, MatchOption, Result, MatchResult}
use Rattle.express_lexer.specs.declared.marks.Mark.{Mark}
use Rattle.express_lexer.specs.declared.marks.Mark.TheVariants as marks
use Rattle.express_syntax.specs.declared.keyword.Keyword.{Keyword}
use Rattle.express_syntax.specs.declared.keyword.Keyword.TheVariants as keywords
use Rattle.express_syntax.specs.declared.expression.Logical.TheVariants as logicals
use Rattle.std.specs.Global.{Box}
use Rattle.express_syntax.specs.declared.expression.Expr.{Expr}
use Rattle.express_syntax.specs.declared.expression.Sign.{Sign}
use Rattle.express_syntax.specs.declared.expression.Limit.{Limit}
use Rattle.express_expressions.specs.declared.refusals.NotRead.{NotRead}
use Rattle.express_expressions.specs.declared.refusals.NotRead.TheVariants as failures
use Rattle.express_syntax.specs.declared.expression.Function.{Function}
use Rattle.express_syntax.specs.declared.expression.Function.TheVariants as functions
use Rattle.express_syntax.specs.declared.lexeme.Lexeme.{Lexeme}
use Rattle.express_expressions.specs.declared.primary_starts.Start.{Start}
use Rattle.express_expressions.specs.declared.primary_starts.Start.TheVariants as starts
use Rattle.express_expressions.specs.declared.primary_starts.Inner.{Inner}
use Rattle.express_expressions.specs.declared.primary_starts.Inner.TheVariants as inners
use Rattle.express_syntax.specs.Words.{Word, word_of, words_of, keyword, name, integer, real, string, encoded, binary, mark}
use Rattle.express_syntax.specs.Trees.{Tree, conjunction, disjunction, Trees, none, one, Alternatives, finish, another, Qualifiers, Literal, number, text, codes_of_text, bits, constant, indeterminate, whole, decimal, Root, own, named, words, words_of_trees, words_of_others, words_of_alternatives, words_of_qualifiers, word_of_literal, word_of_function, word_of_root, word_of_limit, word_of_sign}
use Rattle.express_syntax.specs.Grammar.{Level, primary, unary, term, simple, expression, depth_limit, FitsLevel, FitsEach, FitsMore, FitsQualifiers}
use Rattle.express_syntax.specs.steps.Reads.{Stops, Stands, StandsNone}
use Rattle.express_syntax.specs.ExpressionViews.{tree_of, literal_of, root_of, Selection, of_attribute, of_group, of_element}

-- the words from this index on
abbrev pub words_from : ℕ → List Lexeme → List Word
words_from at lexemes = words_of (drop at lexemes)

-- the words don't begin with this one
abbrev pub Lacks : Word → List Word → Type 0
Lacks w ws = (rest : List Word) → ws ≡ w ∷ rest → ⊥

-- the lexeme is the word of the result; if there is no result, it isn't the word of any y
abbrev pub Spells : {X Y : Type 0} → (Y → Word) → (X → Y) → Lexeme → Option X → Type 0
Spells {X} {Y} word view lexeme r = MatchOption r ((y : Y) → word_of lexeme ≡ word y → ⊥)
    (λ x. word_of lexeme ≡ word (view x))

-- the words from an index on begin with this word, and the result is the index after it
abbrev pub FindsWord : Word → ℕ → List Lexeme → Option ℕ → Type 0
FindsWord w at lexemes r = MatchOption r (Lacks w (words_from at lexemes)) (λ end. words_from at lexemes ≡ w
    ∷ words_from end lexemes)

-- the words from an index on begin with the word of the result, followed by the index beside it;
-- otherwise they don't begin with the word of any y
abbrev pub Finds : {X Y : Type 0} → (Y → Word) → (X → Y) → ℕ → List Lexeme → Option (X × ℕ) → Type 0
Finds {X} {Y} word view at lexemes r =
    MatchOption r ((y : Y) → Lacks (word y) (words_from at lexemes)) (λ p. words_from at lexemes ≡ word (view p.0)
    ∷ words_from p.1 lexemes)

-- AND and a unary expression, any number of times
pub record Others (n : ℕ) (ws : List Word) (xs : Trees) (rest : List Word) : Type 0 where
  pub fits : FitsEach n unary xs
  pub spelled : ws ≡ words_of_others (keyword keywords.And) xs ++ rest
  pub whole : Stops term rest

abbrev pub OthersNone : ℕ → List Word → Type 0
OthersNone n ws = (xs : Trees) (rest : List Word) → Others n ws xs rest → ⊥

-- OR or XOR and a term, any number of times
pub record More (n : ℕ) (ws : List Word) (xs : Alternatives) (rest : List Word) : Type 0 where
  pub fits : FitsMore n xs
  pub spelled : ws ≡ words_of_alternatives xs ++ rest
  pub whole : Stops simple rest

abbrev pub MoreNone : ℕ → List Word → Type 0
MoreNone n ws = (xs : Alternatives) (rest : List Word) → More n ws xs rest → ⊥

-- qualifiers, any number
pub record Selects (n : ℕ) (ws : List Word) (qs : Qualifiers) (rest : List Word) : Type 0 where
  pub fits : FitsQualifiers n qs
  pub spelled : ws ≡ words_of_qualifiers qs ++ rest
  pub whole : Stops primary rest

abbrev pub SelectsNone : ℕ → List Word → Type 0
SelectsNone n ws = (qs : Qualifiers) (rest : List Word) → Selects n ws qs rest → ⊥

-- expressions with commas between, up to the closing bracket
pub record Elements (n : ℕ) (ws : List Word) (xs : Trees) (rest : List Word) : Type 0 where
  pub shallow : n < depth_limit
  pub fits : FitsEach (n + 1) expression xs
  pub spelled : ws ≡ words_of_trees xs ++ mark marks.CloseBracket ∷ rest

abbrev pub ElementsNone : ℕ → List Word → Type 0
ElementsNone n ws = (xs : Trees) (rest : List Word) → Elements n ws xs rest → ⊥

-- a tree inside one more bracket, and the word that ends it
pub record Before (n : ℕ) (l : Level) (w : Word) (ws : List Word) (x : Tree) (rest : List Word) : Type 0 where
  pub shallow : n < depth_limit
  pub stands : Stands (n + 1) l ws x (w ∷ rest)

abbrev pub BeforeNone : ℕ → Level → Word → List Word → Type 0
BeforeNone n l w ws = (x : Tree) (rest : List Word) → Before n l w ws x rest → ⊥

-- a simple expression inside one more bracket has no limit after it
abbrev pub BoundNone : ℕ → List Word → Type 0
BoundNone n ws = (k : Limit) → BeforeNone n simple (word_of_limit k) ws

abbrev pub VariableNone : List Word → Type 0
VariableNone ws = (v : List ℕ) (rest : List Word) → ws ≡ mark marks.Open ∷ name v ∷ mark marks.QuerySource ∷ rest → ⊥

-- a qualifier that is an attribute, with or without its group
abbrev pub Attribute : List Word → Selection → List Word → Type 0
Attribute ws (of_attribute a) rest = ws ≡ mark marks.Dot ∷ name a ∷ rest
Attribute ws (of_group e a) rest = ws ≡ mark marks.Backslash ∷ name e ∷ mark marks.Dot ∷ name a ∷ rest
Attribute ws (of_element x) rest = ⊥

abbrev pub AttributeNone : List Word → Type 0
AttributeNone ws = (s : Selection) (rest : List Word) → Attribute ws s rest → ⊥

-- one qualifier
abbrev pub Qualifies : ℕ → List Word → Selection → List Word → Type 0
Qualifies n ws (of_attribute a) rest = ws ≡ mark marks.Dot ∷ name a ∷ rest
Qualifies n ws (of_group e a) rest = ws ≡ mark marks.Backslash ∷ name e ∷ mark marks.Dot ∷ name a ∷ rest
Qualifies n ws (of_element x) rest = (more : List Word) × (ws ≡ mark marks.OpenBracket ∷ more)
    × Before n simple (mark marks.CloseBracket) more x rest

abbrev pub QualifierNone : ℕ → List Word → Type 0
QualifierNone n ws = (s : Selection) (rest : List Word) → Qualifies n ws s rest → ⊥

-- the first word of a primary
pub data Beginning : Type 0 where
  value : Literal → Beginning
  parenthesis : Beginning
  bracket : Beginning
  brace : Beginning
  querying : Beginning
  calling : Function → Beginning
  either : Beginning
  referring : Root → Beginning

abbrev pub beginning_word : Beginning → Word
beginning_word (value v) = word_of_literal v
beginning_word parenthesis = mark marks.Open
beginning_word bracket = mark marks.OpenBracket
beginning_word brace = mark marks.OpenBrace
beginning_word querying = keyword keywords.Query
beginning_word (calling f) = word_of_function f
beginning_word either = keyword keywords.Nvl
beginning_word (referring r) = word_of_root r

abbrev pub beginning_of_keyword : Keyword → Option Beginning
beginning_of_keyword keywords.False = Some (value (constant logicals.False))
beginning_of_keyword keywords.Unknown = Some (value (constant logicals.Unknown))
beginning_of_keyword keywords.True = Some (value (constant logicals.True))
beginning_of_keyword keywords.Query = Some querying
beginning_of_keyword keywords.Exists = Some (calling functions.Exists)
beginning_of_keyword keywords.Sizeof = Some (calling functions.Sizeof)
beginning_of_keyword keywords.Hiindex = Some (calling functions.Hiindex)
beginning_of_keyword keywords.Loindex = Some (calling functions.Loindex)
beginning_of_keyword keywords.Typeof = Some (calling functions.Typeof)
beginning_of_keyword keywords.Nvl = Some either
beginning_of_keyword keywords.SelfWord = Some (referring own)
beginning_of_keyword _ = None

abbrev pub beginning_of_mark : Mark → Option Beginning
beginning_of_mark marks.Unknown = Some (value indeterminate)
beginning_of_mark marks.Open = Some parenthesis
beginning_of_mark marks.OpenBracket = Some bracket
beginning_of_mark marks.OpenBrace = Some brace
beginning_of_mark _ = None

-- the beginning of a primary whose first word this is, if any
abbrev pub beginning_of : Word → Option Beginning
beginning_of (keyword k) = beginning_of_keyword k
beginning_of (name t) = Some (referring (named t))
beginning_of (integer t) = Some (value (number (whole t)))
beginning_of (real t) = Some (value (number (decimal t)))
beginning_of (string t) = Some (value (text t))
beginning_of (encoded t) = Some (value (codes_of_text t))
beginning_of (binary t) = Some (value (bits t))
beginning_of (mark m) = beginning_of_mark m

abbrev pub begun : Start → Beginning
begun (starts.Literal v) = value (literal_of v)
begun starts.Parenthesis = parenthesis
begun starts.Bracket = bracket
begun starts.Brace = brace
begun starts.Query = querying
begun (starts.Call f) = calling f
begun starts.Nvl = either
begun (starts.Reference r) = referring (root_of r)

abbrev pub begins : Option Start → Option Beginning
begins None = None
begins (Some s) = Some (begun s)

-- no primary begins with these words
abbrev pub NoBeginning : List Word → Type 0
NoBeginning ws = (b : Beginning) → Lacks (beginning_word b) ws

-- A primary that the words begin with, unless it goes on after `rest`: no other primary is a prefix
-- of the words.
pub record Heads (n : ℕ) (ws : List Word) (x : Tree) (rest : List Word) : Type 0 where
  pub fits : FitsLevel n primary x
  pub spelled : ws ≡ words x ++ rest
  pub alone : (y : Tree) (s : List Word) → Stands n primary ws y s → rest ≡ s

-- n holds if no expression is read; nothing is claimed if memory ran out
abbrev pub Unless : NotRead → Type 0 → Type 0
Unless failures.NoExpression n = n
Unless failures.Memory n = Unit {0}

-- the result satisfies p, or n holds if no expression is read
abbrev pub MatchRead : {X : Type 0} → Result X NotRead → Type 0 → (X → Type 0) → Type 0
MatchRead r n p = MatchResult r p (λ e. Unless e n)

-- the result is a prefix of the words from an index on, in the sense of Is; otherwise nothing is
abbrev pub FindsPart : {X Y : Type 0} → (List Word → Y → List Word → Type 0) → (X → Y) → ℕ → List Lexeme
    → Result (X × ℕ) NotRead → Type 0
FindsPart {X} {Y} Is view at lexemes r =
    MatchRead r ((y : Y) (rest : List Word) → Is (words_from at lexemes) y rest → ⊥)
    (λ p. Is (words_from at lexemes) (view p.0) (words_from p.1 lexemes))

abbrev pub boxed_tree : Box Expr → Tree
boxed_tree b = tree_of b.value

-- a primary after its first word
abbrev pub FindsBehind : Word → ℕ → ℕ → List Lexeme → Result (Box Expr × ℕ) NotRead → Type 0
FindsBehind w n at lexemes r =
    MatchRead r (StandsNone n primary (w ∷ words_from at lexemes)) (λ p. Heads n (w ∷ words_from at lexemes)
    (boxed_tree p.0) (words_from p.1 lexemes))

-- what comes before a limit of an interval, and the limit
abbrev pub FindsBound : ℕ → ℕ → List Lexeme → Result (Box Expr × Limit × ℕ) NotRead → Type 0
FindsBound n at lexemes r =
    MatchRead r (BoundNone n (words_from at lexemes)) (λ p. Before n simple (word_of_limit p.1) (words_from at lexemes)
    (boxed_tree p.0) (words_from p.2 lexemes))

-- a number after its sign, for any number of brackets open around it
abbrev pub FindsSigned : Sign → ℕ → List Lexeme → Result (Box Expr × ℕ) NotRead → Type 0
FindsSigned s at lexemes r =
    MatchRead r ((n : ℕ) → StandsNone n unary (word_of_sign s ∷ words_from at lexemes))
    (λ p. (n : ℕ) → Stands n unary (word_of_sign s ∷ words_from at lexemes) (boxed_tree p.0)
    (words_from p.1 lexemes))

-- the tree is moved to the heap, with this index beside it, or memory runs out
abbrev pub Builds : Tree → ℕ → Result (Box Expr × ℕ) NotRead → Type 0
Builds t end r = MatchResult r (λ p. (boxed_tree p.0 ≡ t) × (p.1 ≡ end)) (λ e. e ≡ failures.Memory)

abbrev pub conjoined : Tree → Trees → Tree
conjoined x none = x
conjoined x (one y ys) = conjunction x (one y ys)

abbrev pub disjoined : Tree → Alternatives → Tree
disjoined x finish = x
disjoined x (another j y ys) = disjunction x (another j y ys)

abbrev pub level_of : Inner → Level
level_of inners.Simple = simple
level_of inners.Expression = expression
