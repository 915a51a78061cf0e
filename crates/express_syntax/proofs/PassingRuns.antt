-- The words of a run of tokens lead to what ends it.
use Rattle.std.proofs.Common.{◌≡◌, ℕ, ◌+◌, ◌<◌, Bool, true, false, List, [], ◌∷◌, ◌++◌, length, Ok, refl, arith}
use Rattle.std.specs.Prelude.{nat_lt}
use Rattle.express_lexer.specs.declared.marks.Mark.{Mark}
use Rattle.express_lexer.specs.declared.marks.Mark.TheVariants as marks
use Rattle.express_syntax.specs.Words.{Word, mark}
use Rattle.express_syntax.specs.Runs.{Bracket, parenthesis, square, brace, opening, closing, Run, ended, word, bracketed, words_of_run, inside, FitsRun, IsSome, in_rule, in_lower, in_brackets}
use Rattle.express_syntax.specs.Texts.{token}
use Rattle.express_syntax.specs.steps.Predict.{Symbol, RunEnd, Running, next}
use Rattle.express_syntax.specs.steps.Predict as predict
use Rattle.express_syntax.proofs.Passing.{Goal, Led, step, regroup}

-- what may stand in none of a run's brackets
abbrev pub may_of : RunEnd → Word → Bool
may_of predict.in_rule = in_rule
may_of predict.in_lower = in_lower
may_of predict.in_upper = in_brackets
may_of predict.in_parentheses = in_brackets

-- the mark that ends it
abbrev pub end_of : RunEnd → Mark
end_of predict.in_rule = marks.Semicolon
end_of predict.in_lower = marks.Colon
end_of predict.in_upper = marks.CloseBracket
end_of predict.in_parentheses = marks.Close

pub shallow : (n levels : ℕ) → n < levels → nat_lt n levels ≡ true
shallow n levels h = grind arith

pub next_opening : (levels : ℕ) (part : RunEnd) (k n : ℕ) (inner : List Bracket) (some : Bool) (b : Bracket)
    → k + length inner ≡ n → n < levels → next levels (Running part k inner some) (token (opening b)) ≡ Ok
    (Running part k (b ∷ inner) true ∷ [])
next_opening levels part k n inner some parenthesis e h = rw (shallow (k + length inner) levels (omega (arith, e, h)))
    refl
next_opening levels part k n inner some square e h = rw (shallow (k + length inner) levels (omega (arith, e, h))) refl
next_opening levels part k n inner some brace e h = rw (shallow (k + length inner) levels (omega (arith, e, h))) refl

pub next_closing : (levels : ℕ) (part : RunEnd) (k : ℕ) (inner : List Bracket) (some : Bool) (b : Bracket)
    → next levels (Running part k (b ∷ inner) some) (token (closing b)) ≡ Ok (Running part k inner true ∷ [])
next_closing levels part k inner some parenthesis = refl
next_closing levels part k inner some square = refl
next_closing levels part k inner some brace = refl

-- any word but a bracket stands in brackets
pub next_inside : (levels : ℕ) (part : RunEnd) (k : ℕ) (b : Bracket) (inner : List Bracket) (some : Bool) (w : Word)
    → inside w ≡ true → next levels (Running part k (b ∷ inner) some) (token w) ≡ Ok (Running part k (b ∷ inner) true
    ∷ [])
next_inside levels part k b inner some (mark marks.Open) h = absurd cc
next_inside levels part k b inner some (mark marks.Close) h = absurd cc
next_inside levels part k b inner some (mark marks.OpenBracket) h = absurd cc
next_inside levels part k b inner some (mark marks.CloseBracket) h = absurd cc
next_inside levels part k b inner some (mark marks.OpenBrace) h = absurd cc
next_inside levels part k b inner some (mark marks.CloseBrace) h = absurd cc
next_inside levels part k b inner some (mark m) h = refl
next_inside levels part k b inner some w h = refl

-- any other word may occur outside the brackets of a run, except the mark that ends it
pub next_outside : (levels : ℕ) (part : RunEnd) (k : ℕ) (some : Bool) (w : Word) → inside w ≡ true
    → may_of part w ≡ true → next levels (Running part k [] some) (token w) ≡ Ok (Running part k [] true ∷ [])
next_outside levels part k some (mark marks.Open) h g = absurd cc
next_outside levels part k some (mark marks.Close) h g = absurd cc
next_outside levels part k some (mark marks.OpenBracket) h g = absurd cc
next_outside levels part k some (mark marks.CloseBracket) h g = absurd cc
next_outside levels part k some (mark marks.OpenBrace) h g = absurd cc
next_outside levels part k some (mark marks.CloseBrace) h g = absurd cc
next_outside levels predict.in_rule k some (mark marks.Semicolon) h g = absurd cc
next_outside levels predict.in_lower k some (mark marks.Colon) h g = absurd cc
next_outside levels predict.in_rule k some (mark m) h g = refl
next_outside levels predict.in_lower k some (mark m) h g = refl
next_outside levels predict.in_upper k some (mark m) h g = refl
next_outside levels predict.in_parentheses k some (mark m) h g = refl
next_outside levels part k some w h g = refl

pub next_end : (levels : ℕ) (part : RunEnd) (k : ℕ) → next levels (Running part k [] true)
    (token (mark (end_of part))) ≡ Ok []
next_end levels predict.in_rule k = refl
next_end levels predict.in_lower k = refl
next_end levels predict.in_upper k = refl
next_end levels predict.in_parentheses k = refl

one_more : (k n : ℕ) (b : Bracket) (inner : List Bracket) → k + length inner ≡ n → k + length (b ∷ inner) ≡ n + 1
one_more k n b inner e = omega (arith, e)

-- the words of a run in brackets
pub pass_inner : (g : Goal) (r : Run) (part : RunEnd) (k n : ℕ) (b : Bracket) (inner : List Bracket) (ys : List Symbol)
    (ws : List Word) → k + length (b ∷ inner) ≡ n → FitsRun g.levels inside n r
    → Led g (Running part k (b ∷ inner) true ∷ ys) ws → Led g (Running part k (b ∷ inner) true ∷ ys) (words_of_run r
    ++ ws)
pass_inner g ended part k n b inner ys ws e f h = h
pass_inner g (word w r) part k n b inner ys ws e f h =
    step g (Running part k (b ∷ inner) true) (Running part k (b ∷ inner) true ∷ []) ys w (words_of_run r ++ ws)
    (next_inside g.levels part k b inner true w f.0) (pass_inner g r part k n b inner ys ws e f.2 h)
pass_inner g (bracketed c i r) part k n b inner ys ws e f h =
    let here = Running part k (b ∷ inner) true in
    let there = Running part k (c ∷ b ∷ inner) true in
    let more = words_of_run r ++ ws in
    step g here (there ∷ []) ys (opening c) ((words_of_run i ++ closing c ∷ words_of_run r) ++ ws)
    (next_opening g.levels part k n (b ∷ inner) true c e f.0)
    (regroup g (there ∷ ys) (words_of_run i) (closing c ∷ words_of_run r) ws
    (pass_inner g i part k (n + 1) c (b ∷ inner) ys (closing c ∷ more) (one_more k n c (b ∷ inner) e) f.1
    (step g there (here ∷ []) ys (closing c) more (next_closing g.levels part k (b ∷ inner) true c)
    (pass_inner g r part k n b inner ys ws e f.2 h))))

none_more : (n : ℕ) → n + length {A = Bracket} [] ≡ n
none_more n = omega arith

-- the words of a run that has a word already, outside its brackets
pub pass_on : (g : Goal) (r : Run) (part : RunEnd) (n : ℕ) (ys : List Symbol) (ws : List Word)
    → FitsRun g.levels (may_of part) n r
    → Led g (Running part n [] true ∷ ys) ws → Led g (Running part n [] true ∷ ys) (words_of_run r ++ ws)
pass_on g ended part n ys ws f h = h
pass_on g (word w r) part n ys ws f h =
    step g (Running part n [] true) (Running part n [] true ∷ []) ys w (words_of_run r ++ ws)
    (next_outside g.levels part n true w f.0 f.1) (pass_on g r part n ys ws f.2 h)
pass_on g (bracketed c i r) part n ys ws f h =
    let here = Running part n [] true in
    let there = Running part n (c ∷ []) true in
    let more = words_of_run r ++ ws in
    step g here (there ∷ []) ys (opening c) ((words_of_run i ++ closing c ∷ words_of_run r) ++ ws)
    (next_opening g.levels part n n [] true c (none_more n) f.0)
    (regroup g (there ∷ ys) (words_of_run i) (closing c ∷ words_of_run r) ws
    (pass_inner g i part n (n + 1) c [] ys (closing c ∷ more) (one_more n n c [] (none_more n)) f.1
    (step g there (here ∷ []) ys (closing c) more (next_closing g.levels part n [] true c)
    (pass_on g r part n ys ws f.2 h))))

-- the words of a run, from its first word on
pub pass_some : (g : Goal) (r : Run) (part : RunEnd) (n : ℕ) (ys : List Symbol) (ws : List Word)
    → FitsRun g.levels (may_of part) n r → IsSome r
    → Led g (Running part n [] true ∷ ys) ws → Led g (Running part n [] false ∷ ys) (words_of_run r ++ ws)
pass_some g ended part n ys ws f some h = absurd some
pass_some g (word w r) part n ys ws f some h =
    step g (Running part n [] false) (Running part n [] true ∷ []) ys w (words_of_run r ++ ws)
    (next_outside g.levels part n false w f.0 f.1) (pass_on g r part n ys ws f.2 h)
pass_some g (bracketed c i r) part n ys ws f some h =
    let here = Running part n [] true in
    let there = Running part n (c ∷ []) true in
    let more = words_of_run r ++ ws in
    step g (Running part n [] false) (there ∷ []) ys (opening c) ((words_of_run i ++ closing c ∷ words_of_run r) ++ ws)
    (next_opening g.levels part n n [] false c (none_more n) f.0)
    (regroup g (there ∷ ys) (words_of_run i) (closing c ∷ words_of_run r) ws
    (pass_inner g i part n (n + 1) c [] ys (closing c ∷ more) (one_more n n c [] (none_more n)) f.1
    (step g there (here ∷ []) ys (closing c) more (next_closing g.levels part n [] true c)
    (pass_on g r part n ys ws f.2 h))))

-- what ends a run
pub pass_end : (g : Goal) (part : RunEnd) (n : ℕ) (ys : List Symbol) (ws : List Word) → Led g ys ws
    → Led g (Running part n [] true ∷ ys) (mark (end_of part) ∷ ws)
pass_end g part n ys ws h = step g (Running part n [] true) [] ys (mark (end_of part)) ws (next_end g.levels part n) h
