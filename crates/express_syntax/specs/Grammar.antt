-- The trees that are expressions: the grammar by its levels (ISO 10303-11, 12 and annex A).
use Rattle.std.specs.Prelude.{◌≡◌, ℕ, ◌+◌, ◌<◌, ◌≤◌, List}
use Rattle.express_syntax.specs.Words.{Word}
use Rattle.express_syntax.specs.Trees.{Tree, literal, signed, reference, parenthesized, aggregate, interval, query, call, nvl, negation, conjunction, disjunction, comparison, Trees, none, one, Alternatives, finish, another, Qualifiers, plain, attribute, group, index, words}

-- the levels of the grammar, from the one that binds tightest
pub data Level : Type 0 where
  primary : Level
  unary : Level
  term : Level
  simple : Level
  expression : Level

abbrev pub level_rank : Level → ℕ
level_rank primary = 0
level_rank unary = 1
level_rank term = 2
level_rank simple = 3
level_rank expression = 4

-- the greatest number of parentheses, brackets and braces that are open at once
abbrev pub depth_limit : ℕ
depth_limit = 64

-- `FitsLevel n l x`: with n brackets open around it, the tree x belongs to level l and opens no more
-- brackets than the limit.
--
-- - expression = simple [relation simple]
-- - simple = term {(OR | XOR) term}
-- - term = unary {AND unary}
-- - unary = NOT primary | sign number | primary
abbrev mutual
  pub FitsLevel : ℕ → Level → Tree → Type 0
  FitsLevel n l (literal v) = Unit {0}
  FitsLevel n l (signed s v) = level_rank unary ≤ level_rank l
  FitsLevel n l (reference r qs) = FitsQualifiers n qs
  FitsLevel n l (parenthesized x) = (n < depth_limit) × FitsLevel (n + 1) expression x
  FitsLevel n l (aggregate xs) = (n < depth_limit) × FitsEach (n + 1) expression xs
  FitsLevel n l (interval low above x below high) = (n < depth_limit) × FitsLevel (n + 1) simple low × FitsLevel (n + 1) simple x
      × FitsLevel (n + 1) simple high
  FitsLevel n l (query v source condition) = (n < depth_limit) × FitsLevel (n + 1) simple source × FitsLevel (n + 1) expression
      condition
  FitsLevel n l (call f x) = (n < depth_limit) × FitsLevel (n + 1) expression x
  FitsLevel n l (nvl x y) = (n < depth_limit) × FitsLevel (n + 1) expression x × FitsLevel (n + 1) expression y
  FitsLevel n l (negation x) = (level_rank unary ≤ level_rank l) × FitsLevel n primary x
  FitsLevel n l (conjunction x xs) = (level_rank term ≤ level_rank l) × FitsLevel n unary x × FitsOthers n xs
  FitsLevel n l (disjunction x xs) = (level_rank simple ≤ level_rank l) × FitsLevel n term x × FitsAlternatives n xs
  FitsLevel n l (comparison x r y) = (level_rank expression ≤ level_rank l) × FitsLevel n simple x × FitsLevel n simple y

  pub FitsEach : ℕ → Level → Trees → Type 0
  FitsEach n l none = Unit {0}
  FitsEach n l (one x xs) = FitsLevel n l x × FitsEach n l xs

  -- at least one
  pub FitsOthers : ℕ → Trees → Type 0
  FitsOthers n none = ⊥
  FitsOthers n (one x xs) = FitsLevel n unary x × FitsEach n unary xs

  -- at least one
  pub FitsAlternatives : ℕ → Alternatives → Type 0
  FitsAlternatives n finish = ⊥
  FitsAlternatives n (another j x xs) = FitsLevel n term x × FitsMore n xs

  pub FitsMore : ℕ → Alternatives → Type 0
  FitsMore n finish = Unit {0}
  FitsMore n (another j x xs) = FitsLevel n term x × FitsMore n xs

  pub FitsQualifiers : ℕ → Qualifiers → Type 0
  FitsQualifiers n plain = Unit {0}
  FitsQualifiers n (attribute a qs) = FitsQualifiers n qs
  FitsQualifiers n (group e a qs) = FitsQualifiers n qs
  FitsQualifiers n (index x qs) = (n < depth_limit) × FitsLevel (n + 1) simple x × FitsQualifiers n qs

-- the words are the spelling of this expression, with n brackets open around it
pub record IsExpression (n : ℕ) (ws : List Word) (x : Tree) : Type 0 where
  pub fits : FitsLevel n expression x
  pub spelled : ws ≡ words x

-- the words are the spelling of no expression
abbrev pub IsNone : ℕ → List Word → Type 0
IsNone n ws = (x : Tree) → IsExpression n ws x → ⊥
