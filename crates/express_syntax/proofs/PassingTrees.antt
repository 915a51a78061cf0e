-- The words of an expression stand in a run that ends at a semicolon: their brackets are closed, and no semicolon
-- is in them.
use Rattle.std.proofs.Common.{◌≡◌, ℕ, ◌+◌, ◌<◌, Bool, true, List, [], ◌∷◌, ◌++◌, length, Ok, refl, arith}
use Rattle.express_lexer.specs.declared.marks.Mark.TheVariants as marks
use Rattle.express_syntax.specs.declared.keyword.Keyword.TheVariants as keywords
use Rattle.express_syntax.specs.declared.expression.Sign.{Sign}
use Rattle.express_syntax.specs.declared.expression.Sign.TheVariants as signs
use Rattle.express_syntax.specs.declared.expression.Logical.TheVariants as logicals
use Rattle.express_syntax.specs.declared.expression.Relation.{Relation}
use Rattle.express_syntax.specs.declared.expression.Relation.TheVariants as relations
use Rattle.express_syntax.specs.declared.expression.Limit.{Limit}
use Rattle.express_syntax.specs.declared.expression.Limit.TheVariants as limits
use Rattle.express_syntax.specs.declared.expression.Junction.{Junction}
use Rattle.express_syntax.specs.declared.expression.Junction.TheVariants as junctions
use Rattle.express_syntax.specs.declared.expression.Function.{Function}
use Rattle.express_syntax.specs.declared.expression.Function.TheVariants as functions
use Rattle.express_syntax.specs.Words.{Word, keyword, name, mark}
use Rattle.express_syntax.specs.Trees.{Number, whole, decimal, Literal, number, text, codes_of_text, bits, constant, indeterminate, Root, own, named, Tree, literal, signed, reference, parenthesized, aggregate, interval, query, call, nvl, negation, conjunction, disjunction, comparison, Trees, none, one, Alternatives, finish, another, Qualifiers, plain, attribute, group, index, word_of_number, word_of_literal, word_of_sign, word_of_relation, word_of_limit, word_of_junction, word_of_function, word_of_root, words, words_of_trees, words_of_others, words_of_alternatives, words_of_qualifiers}
use Rattle.express_syntax.specs.Grammar.{Level, primary, unary, term, simple, expression, depth_limit, FitsLevel, FitsEach, FitsMore, FitsQualifiers}
use Rattle.express_syntax.specs.Runs.{Bracket, parenthesis, square, brace, opening, closing, inside, in_rule}
use Rattle.express_syntax.specs.Texts.{token}
use Rattle.express_syntax.specs.steps.Predict.{Symbol, Running, next}
use Rattle.express_syntax.specs.steps.Predict as predict
use Rattle.express_syntax.proofs.Passing.{Goal, Led, step, regroup}
use Rattle.express_syntax.proofs.PassingRuns.{next_opening, next_closing, next_inside, next_outside}

-- neither a bracket nor a semicolon
abbrev pub IsQuiet : Word → Type 0
IsQuiet w = (inside w ≡ true) × (in_rule w ≡ true)

quiet_number : (n : Number) → IsQuiet (word_of_number n)
quiet_number (whole t) = (refl, refl)
quiet_number (decimal t) = (refl, refl)

quiet_literal : (l : Literal) → IsQuiet (word_of_literal l)
quiet_literal (number n) = quiet_number n
quiet_literal (text t) = (refl, refl)
quiet_literal (codes_of_text t) = (refl, refl)
quiet_literal (bits t) = (refl, refl)
quiet_literal (constant logicals.False) = (refl, refl)
quiet_literal (constant logicals.Unknown) = (refl, refl)
quiet_literal (constant logicals.True) = (refl, refl)
quiet_literal indeterminate = (refl, refl)

pub quiet_sign : (s : Sign) → IsQuiet (word_of_sign s)
quiet_sign signs.Plus = (refl, refl)
quiet_sign signs.Minus = (refl, refl)

quiet_relation : (r : Relation) → IsQuiet (word_of_relation r)
quiet_relation relations.Equal = (refl, refl)
quiet_relation relations.NotEqual = (refl, refl)
quiet_relation relations.Less = (refl, refl)
quiet_relation relations.Greater = (refl, refl)
quiet_relation relations.LessOrEqual = (refl, refl)
quiet_relation relations.GreaterOrEqual = (refl, refl)
quiet_relation relations.In = (refl, refl)

quiet_limit : (l : Limit) → IsQuiet (word_of_limit l)
quiet_limit limits.Less = (refl, refl)
quiet_limit limits.LessOrEqual = (refl, refl)

quiet_junction : (j : Junction) → IsQuiet (word_of_junction j)
quiet_junction junctions.Or = (refl, refl)
quiet_junction junctions.Xor = (refl, refl)

quiet_function : (f : Function) → IsQuiet (word_of_function f)
quiet_function functions.Exists = (refl, refl)
quiet_function functions.Sizeof = (refl, refl)
quiet_function functions.Hiindex = (refl, refl)
quiet_function functions.Loindex = (refl, refl)
quiet_function functions.Typeof = (refl, refl)

quiet_root : (r : Root) → IsQuiet (word_of_root r)
quiet_root own = (refl, refl)
quiet_root (named n) = (refl, refl)

-- a rule with these brackets open, and whether some of it has stood
abbrev pub Within : List Bracket → Bool → Symbol
Within inner some = Running predict.in_rule 0 inner some

next_quiet : (levels : ℕ) (inner : List Bracket) (some : Bool) (w : Word) → IsQuiet w → next levels (Within inner some)
    (token w) ≡ Ok (Within inner true ∷ [])
next_quiet levels [] some w q = next_outside levels predict.in_rule 0 some w q.0 q.1
next_quiet levels (b ∷ inner) some w q = next_inside levels predict.in_rule 0 b inner some w q.0

-- one such word
quiet : (g : Goal) (w : Word) (inner : List Bracket) (some : Bool) (ys : List Symbol) (ws : List Word) → IsQuiet w
    → Led g (Within inner true ∷ ys) ws → Led g (Within inner some ∷ ys) (w ∷ ws)
quiet g w inner some ys ws q h = step g (Within inner some) (Within inner true ∷ []) ys w ws
    (next_quiet g.levels inner some w q) h

-- an opening bracket
opens : (g : Goal) (b : Bracket) (n : ℕ) (inner : List Bracket) (some : Bool) (ys : List Symbol) (ws : List Word)
    → length inner ≡ n → n < depth_limit → Led g (Within (b ∷ inner) true ∷ ys) ws → Led g (Within inner some ∷ ys)
    (opening b ∷ ws)
opens g b n inner some ys ws e f h =
    step g (Within inner some) (Within (b ∷ inner) true ∷ []) ys (opening b) ws (next_opening g.levels predict.in_rule 0
    n inner some b (omega (arith, e)) (omega (arith, f, g.deep))) h

-- a closing one
closes : (g : Goal) (b : Bracket) (inner : List Bracket) (some : Bool) (ys : List Symbol) (ws : List Word)
    → Led g (Within inner true ∷ ys) ws → Led g (Within (b ∷ inner) some ∷ ys) (closing b ∷ ws)
closes g b inner some ys ws h = step g (Within (b ∷ inner) some) (Within inner true ∷ []) ys (closing b) ws
    (next_closing g.levels predict.in_rule 0 inner some b) h

deeper : (n : ℕ) (b : Bracket) (inner : List Bracket) → length inner ≡ n → length (b ∷ inner) ≡ n + 1
deeper n b inner e = omega (arith, e)

-- some words in a bracket, and what closes it
enclosed : (g : Goal) (us : List Word) (b : Bracket) (inner : List Bracket) (ys : List Symbol) (ws : List Word)
    → (Led g (Within (b ∷ inner) true ∷ ys) (closing b ∷ ws) → Led g (Within (b ∷ inner) true ∷ ys) (us ++ closing b
    ∷ ws))
    → Led g (Within inner true ∷ ys) ws → Led g (Within (b ∷ inner) true ∷ ys) ((us ++ closing b ∷ []) ++ ws)
enclosed g us b inner ys ws pass h = regroup g (Within (b ∷ inner) true ∷ ys) us (closing b ∷ []) ws
    (pass (closes g b inner true ys ws h))

mutual
  pub pass_tree : (g : Goal) (x : Tree) (n : ℕ) (l : Level) (inner : List Bracket) (some : Bool) (ys : List Symbol)
      (ws : List Word) → FitsLevel n l x → length inner ≡ n
      → Led g (Within inner true ∷ ys) ws → Led g (Within inner some ∷ ys) (words x ++ ws)
  pass_tree g (literal v) n l inner some ys ws f e h = quiet g (word_of_literal v) inner some ys ws (quiet_literal v) h
  pass_tree g (signed s v) n l inner some ys ws f e h = quiet g (word_of_sign s) inner some ys (word_of_number v ∷ ws)
      (quiet_sign s) (quiet g (word_of_number v) inner true ys ws (quiet_number v) h)
  pass_tree g (reference r qs) n l inner some ys ws f e h = quiet g (word_of_root r) inner some ys
      (words_of_qualifiers qs ++ ws) (quiet_root r) (pass_qualifiers g qs n inner ys ws f e h)
  pass_tree g (parenthesized x) n l inner some ys ws f e h =
      opens g parenthesis n inner some ys ((words x ++ mark marks.Close ∷ []) ++ ws) e f.0
      (enclosed g (words x) parenthesis inner ys ws (pass_tree g x (n + 1) expression (parenthesis ∷ inner) true ys
      (mark marks.Close ∷ ws) f.1 (deeper n parenthesis inner e)) h)
  pass_tree g (aggregate xs) n l inner some ys ws f e h =
      opens g square n inner some ys ((words_of_trees xs ++ mark marks.CloseBracket ∷ []) ++ ws) e f.0
      (regroup g (Within (square ∷ inner) true ∷ ys) (words_of_trees xs) (mark marks.CloseBracket ∷ []) ws
      (pass_trees g xs (n + 1) expression (square ∷ inner) ys (mark marks.CloseBracket ∷ ws) f.1
      (deeper n square inner e)
      (closes g square inner true ys ws h)))
  pass_tree g (interval low above x below high) n l inner some ys ws f e h =
      let i = brace ∷ inner in
      let d = deeper n brace inner e in
      let last = words high ++ mark marks.CloseBrace ∷ [] in
      let middle = words x ++ word_of_limit below ∷ last in
      opens g brace n inner some ys ((words low ++ word_of_limit above ∷ middle) ++ ws) e f.0
      (regroup g (Within i true ∷ ys) (words low) (word_of_limit above ∷ middle) ws
      (pass_tree g low (n + 1) simple i true ys (word_of_limit above ∷ middle ++ ws) f.1 d
      (quiet g (word_of_limit above) i true ys (middle ++ ws) (quiet_limit above)
      (regroup g (Within i true ∷ ys) (words x) (word_of_limit below ∷ last) ws
      (pass_tree g x (n + 1) simple i true ys (word_of_limit below ∷ last ++ ws) f.2 d
      (quiet g (word_of_limit below) i true ys (last ++ ws) (quiet_limit below)
      (enclosed g (words high) brace inner ys ws (pass_tree g high (n + 1) simple (brace ∷ inner) true ys
      (mark marks.CloseBrace ∷ ws) f.3 (deeper n brace inner e)) h)))))))
  pass_tree g (query v source condition) n l inner some ys ws f e h =
      let i = parenthesis ∷ inner in
      let last = words condition ++ mark marks.Close ∷ [] in
      let rest = (words source ++ mark marks.Bar ∷ last) ++ ws in
      quiet g (keyword keywords.Query) inner some ys (mark marks.Open ∷ name v ∷ mark marks.QuerySource ∷ rest)
      (refl, refl)
      (opens g parenthesis n inner true ys (name v ∷ mark marks.QuerySource ∷ rest) e f.0
      (quiet g (name v) i true ys (mark marks.QuerySource ∷ rest) (refl, refl)
      (quiet g (mark marks.QuerySource) i true ys rest (refl, refl)
      (regroup g (Within i true ∷ ys) (words source) (mark marks.Bar ∷ last) ws
      (pass_tree g source (n + 1) simple i true ys (mark marks.Bar ∷ last ++ ws) f.1 (deeper n parenthesis inner e)
      (quiet g (mark marks.Bar) i true ys (last ++ ws) (refl, refl)
      (enclosed g (words condition) parenthesis inner ys ws (pass_tree g condition (n + 1) expression
      (parenthesis ∷ inner) true ys (mark marks.Close ∷ ws) f.2 (deeper n parenthesis inner e)) h)))))))
  pass_tree g (call p x) n l inner some ys ws f e h =
      let rest = (words x ++ mark marks.Close ∷ []) ++ ws in
      quiet g (word_of_function p) inner some ys (mark marks.Open ∷ rest) (quiet_function p)
      (opens g parenthesis n inner true ys rest e f.0
      (enclosed g (words x) parenthesis inner ys ws (pass_tree g x (n + 1) expression (parenthesis ∷ inner) true ys
      (mark marks.Close ∷ ws) f.1 (deeper n parenthesis inner e)) h))
  pass_tree g (nvl x y) n l inner some ys ws f e h =
      let i = parenthesis ∷ inner in
      let last = words y ++ mark marks.Close ∷ [] in
      let rest = (words x ++ mark marks.Comma ∷ last) ++ ws in
      quiet g (keyword keywords.Nvl) inner some ys (mark marks.Open ∷ rest) (refl, refl)
      (opens g parenthesis n inner true ys rest e f.0
      (regroup g (Within i true ∷ ys) (words x) (mark marks.Comma ∷ last) ws
      (pass_tree g x (n + 1) expression i true ys (mark marks.Comma ∷ last ++ ws) f.1 (deeper n parenthesis inner e)
      (quiet g (mark marks.Comma) i true ys (last ++ ws) (refl, refl)
      (enclosed g (words y) parenthesis inner ys ws (pass_tree g y (n + 1) expression (parenthesis ∷ inner) true ys
      (mark marks.Close ∷ ws) f.2 (deeper n parenthesis inner e)) h)))))
  pass_tree g (negation x) n l inner some ys ws f e h = quiet g (keyword keywords.Not) inner some ys (words x ++ ws)
      (refl, refl) (pass_tree g x n primary inner true ys ws f.1 e h)
  pass_tree g (conjunction x none) n l inner some ys ws f e h = absurd f.2
  pass_tree g (conjunction x (one y xs)) n l inner some ys ws f e h =
      let others = words_of_others (keyword keywords.And) (one y xs) in
      regroup g (Within inner some ∷ ys) (words x) others ws
      (pass_tree g x n unary inner some ys (others ++ ws) f.1 e (pass_others g (keyword keywords.And) (one y xs) n unary
      inner ys ws (refl, refl) f.2 e h))
  pass_tree g (disjunction x finish) n l inner some ys ws f e h = absurd f.2
  pass_tree g (disjunction x (another j y xs)) n l inner some ys ws f e h =
      let others = words_of_alternatives (another j y xs) in
      regroup g (Within inner some ∷ ys) (words x) others ws
      (pass_tree g x n term inner some ys (others ++ ws) f.1 e (pass_alternatives g (another j y xs) n inner ys ws f.2 e
      h))
  pass_tree g (comparison x r y) n l inner some ys ws f e h =
      regroup g (Within inner some ∷ ys) (words x) (word_of_relation r ∷ words y) ws
      (pass_tree g x n simple inner some ys (word_of_relation r ∷ words y ++ ws) f.1 e
      (quiet g (word_of_relation r) inner true ys (words y ++ ws) (quiet_relation r)
      (pass_tree g y n simple inner true ys ws f.2 e h)))

  pass_trees : (g : Goal) (xs : Trees) (n : ℕ) (l : Level) (inner : List Bracket) (ys : List Symbol) (ws : List Word)
      → FitsEach n l xs → length inner ≡ n
      → Led g (Within inner true ∷ ys) ws → Led g (Within inner true ∷ ys) (words_of_trees xs ++ ws)
  pass_trees g none n l inner ys ws f e h = h
  pass_trees g (one x xs) n l inner ys ws f e h =
      let others = words_of_others (mark marks.Comma) xs in
      regroup g (Within inner true ∷ ys) (words x) others ws
      (pass_tree g x n l inner true ys (others ++ ws) f.0 e (pass_others g (mark marks.Comma) xs n l inner ys ws
      (refl, refl) f.1 e h))

  pass_others : (g : Goal) (w : Word) (xs : Trees) (n : ℕ) (l : Level) (inner : List Bracket) (ys : List Symbol)
      (ws : List Word) → IsQuiet w → FitsEach n l xs → length inner ≡ n
      → Led g (Within inner true ∷ ys) ws → Led g (Within inner true ∷ ys) (words_of_others w xs ++ ws)
  pass_others g w none n l inner ys ws q f e h = h
  pass_others g w (one x xs) n l inner ys ws q f e h =
      let others = words_of_others w xs in
      quiet g w inner true ys ((words x ++ others) ++ ws) q
      (regroup g (Within inner true ∷ ys) (words x) others ws
      (pass_tree g x n l inner true ys (others ++ ws) f.0 e (pass_others g w xs n l inner ys ws q f.1 e h)))

  pass_alternatives : (g : Goal) (xs : Alternatives) (n : ℕ) (inner : List Bracket) (ys : List Symbol) (ws : List Word)
      → FitsMore n xs → length inner ≡ n
      → Led g (Within inner true ∷ ys) ws → Led g (Within inner true ∷ ys) (words_of_alternatives xs ++ ws)
  pass_alternatives g finish n inner ys ws f e h = h
  pass_alternatives g (another j x xs) n inner ys ws f e h =
      let others = words_of_alternatives xs in
      quiet g (word_of_junction j) inner true ys ((words x ++ others) ++ ws) (quiet_junction j)
      (regroup g (Within inner true ∷ ys) (words x) others ws
      (pass_tree g x n term inner true ys (others ++ ws) f.0 e (pass_alternatives g xs n inner ys ws f.1 e h)))

  pass_qualifiers : (g : Goal) (qs : Qualifiers) (n : ℕ) (inner : List Bracket) (ys : List Symbol) (ws : List Word)
      → FitsQualifiers n qs → length inner ≡ n
      → Led g (Within inner true ∷ ys) ws → Led g (Within inner true ∷ ys) (words_of_qualifiers qs ++ ws)
  pass_qualifiers g plain n inner ys ws f e h = h
  pass_qualifiers g (attribute a qs) n inner ys ws f e h =
      let others = words_of_qualifiers qs ++ ws in
      quiet g (mark marks.Dot) inner true ys (name a ∷ others) (refl, refl)
      (quiet g (name a) inner true ys others (refl, refl) (pass_qualifiers g qs n inner ys ws f e h))
  pass_qualifiers g (group m a qs) n inner ys ws f e h =
      let others = words_of_qualifiers qs ++ ws in
      quiet g (mark marks.Backslash) inner true ys (name m ∷ mark marks.Dot ∷ name a ∷ others) (refl, refl)
      (quiet g (name m) inner true ys (mark marks.Dot ∷ name a ∷ others) (refl, refl)
      (quiet g (mark marks.Dot) inner true ys (name a ∷ others) (refl, refl)
      (quiet g (name a) inner true ys others (refl, refl) (pass_qualifiers g qs n inner ys ws f e h))))
  pass_qualifiers g (index x qs) n inner ys ws f e h =
      let others = words_of_qualifiers qs in
      opens g square n inner true ys ((words x ++ mark marks.CloseBracket ∷ others) ++ ws) e f.0
      (regroup g (Within (square ∷ inner) true ∷ ys) (words x) (mark marks.CloseBracket ∷ others) ws
      (pass_tree g x (n + 1) simple (square ∷ inner) true ys (mark marks.CloseBracket ∷ others ++ ws) f.1
      (deeper n square inner e)
      (closes g square inner true ys (others ++ ws) (pass_qualifiers g qs n inner ys ws f.2 e h))))
