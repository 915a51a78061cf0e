-- Bounds, widths and supertype expressions: which words are theirs, and how they are read.
use Rattle.std.proofs.Common.{◌≡◌, ℕ, ◌+◌, ◌<◌, ◌≤◌, Bool, true, false, List, [], ◌∷◌, ◌++◌, length, map, take, drop, get_or, nat_lt, Option, Result, Ok, Err, MatchOption, MatchResult, refl, sym, ap, ◌∙◌, subst, append_assoc, length-drop, ◌-◌, arith}
use Rattle.std.proofs.lemmas.List.{take_all}
use lib.ListN.{length-map}
use Rattle.std.proofs.lemmas.Bool.{false≢true}
use Rattle.std.proofs.lemmas.Bool.Decides.{nat_tests}
use Rattle.std.specs.Bool.{Decides}
use Rattle.std.specs.Char.{to_ascii_lowercase}
use Rattle.std.specs.Prelude.{◌↔◌, IsTrue}
use Rattle.step_literals.specs.Words.{upper}
use Rattle.step_literals.proofs.CaseLemmas.{same_without_case}
use Rattle.express_lexer.specs.declared.marks.Mark.TheVariants as marks
use Rattle.express_lexer.specs.Reading.{Reading}
use Rattle.express_syntax.specs.declared.keyword.Keyword.TheVariants as keywords
use Rattle.express_syntax.specs.declared.lexeme.Lexeme.{Lexeme}
use Rattle.express_syntax.specs.Words.{Word, keyword, name, integer, mark, word_of, words_of}
use Rattle.express_syntax.specs.Grammar.{depth_limit}
use Rattle.express_syntax.specs.declared.fault.FaultKind.TheVariants as fault_kinds
use Rattle.express_syntax.specs.declared.fault.SyntaxFault.{SyntaxFault}
use Rattle.express_syntax.specs.declared.fault.SyntaxFault.TheVariants as faults
use Rattle.express_token_runs.specs.declared.runs.Buffer.{Buffer}
use Rattle.express_syntax.specs.Runs.{Run, words_of_run, FitsRun, IsSome}
use Rattle.express_syntax.specs.Schemas.{Bound, other_bound, Bounds, Width, width, other_width, Supertype, of_other}
use Rattle.express_syntax.specs.declared.tree.Supertype as code
use Rattle.express_syntax.specs.Views.{supertype_of}
use Rattle.express_syntax.specs.WrittenSchemas.{with_commas, words_of_name, words_of_names, words_of_bound, words_of_bounds, words_of_width, words_of_expression, words_of_supertype}
use Rattle.express_syntax.specs.Profile.{IsFilled, IsBoundText, IsSupertypeText, FitsBound, FitsBounds, FitsWidth, FitsSupertype}
use Rattle.express_syntax.specs.Texts.{Lookahead, token, LocatedToken, Shows}
use Rattle.express_syntax.specs.steps.Predict.{RunEnd, in_lower, in_upper, in_parentheses, Symbol, Running, Say, BoundsOrOf, bounds_symbols, next, refused, is_mark, is_keyword}
use Rattle.express_syntax.specs.steps.Steps.{Passes, StopsIn}
use Rattle.express_token_runs.specs.steps.OpenRuns.{brackets_of, may_of, end_of, Gathered}
use Rattle.express_syntax.specs.Runs.{has_some}
use Rattle.express_syntax.proofs.Turning.{stops_shown}
use Rattle.express_syntax.proofs.Taking.{passes_as, passes_join, passes_more, passes_then, passes_token, passes_first, stops_behind, stops_first}
use Rattle.express_syntax.proofs.Looking.{keyword_met, mark_met, stops_refused}
use Rattle.express_syntax.proofs.Lists.{filled_push}

-- a buffer without tokens
abbrev IsEmpty : Buffer → Type 0
IsEmpty b = (b.lexemes.items ≡ []) × (b.open.items ≡ [])

fresh : (part : RunEnd) (n : ℕ) (b : Buffer) → IsEmpty b → Running part n (brackets_of b.open.items)
    (has_some (words_of b.lexemes.items)) ≡ Running part n [] false
fresh part n b h i = Running part n (brackets_of (h.1 i)) (has_some (words_of (h.0 i)))

-- These tokens are a run, and stand up to what ends it.
abbrev pub Whole : RunEnd → ℕ → List Lexeme → Run → Reading → Reading → Type 0
Whole part n ls r old new = (words_of_run r ≡ words_of ls) × FitsRun depth_limit (may_of part) n r × IsSome r
    × Passes (Running part n [] false ∷ []) [] [] (words_of ls ++ mark (end_of part) ∷ []) old new

run_done : (part : RunEnd) (n : ℕ) (b a : Buffer) (s : LocatedToken) (r : Run) (old mid new : Reading) → IsEmpty b
    → Shows old s mid → Gathered part n b a s r mid new → Whole part n a.lexemes.items r old new
run_done part n b a s r old mid new h shows g =
    let P : Symbol → Type 0 = λ y. Passes (y ∷ []) [] (s ∷ []) (g.further ++ mark (end_of part) ∷ []) mid new in
    let e : words_of a.lexemes.items ≡ g.further = g.words ∙ ap (λ ls. words_of ls ++ g.further) h.0 in (
      g.run,
      g.fits,
      g.some,
      passes_as (words_of a.lexemes.items ++ mark (end_of part) ∷ []) (ap (λ l. l ++ mark (end_of part) ∷ []) (sym e))
          (passes_first s old shows (subst P (fresh part n b h) g.passes)),
    )

-- a run from its first token on
pub run_of_gather : {M : Type 0} (f : M → Run) (part : RunEnd) (n : ℕ) (b a : Buffer) (s : LocatedToken)
    (old mid new : Reading) (r : Result M SyntaxFault) → IsEmpty b → Shows old s mid
    → MatchResult r (λ x. Gathered part n b a s (f x) mid new)
    (λ e. StopsIn e (Running part n (brackets_of b.open.items) (has_some (words_of b.lexemes.items)) ∷ []) (s ∷ [])
    mid)
    → MatchResult r (λ x. Whole part n a.lexemes.items (f x) old new) (λ e. StopsIn e (Running part n [] false ∷ []) []
    old)
run_of_gather f part n b a s old mid new (Ok x) h shows g = run_done part n b a s (f x) old mid new h shows g
run_of_gather f part n b a s old mid new (Err e) h shows g =
    let P : Symbol → Type 0 = λ y. StopsIn e (y ∷ []) (s ∷ []) mid in
    stops_first e (Running part n [] false ∷ []) s shows (subst P (fresh part n b h) g)

-- a word is spelt so where both are the same but for the case of letters
pub same_capitals : (word text spelled : List ℕ) (r : Bool) → text ≡ word → upper spelled ≡ spelled
    → Decides r (map to_ascii_lowercase text ≡ map to_ascii_lowercase spelled) → IsTrue r ↔ (upper word ≡ spelled)
same_capitals word text spelled r at is d =
    let same = same_without_case text spelled in
    (λ t. ap upper (sym at) ∙ same.0 (d.0 t) ∙ is, λ e. d.1 (same.1 (ap upper at ∙ e ∙ sym is)))

-- names, a comma behind each
abbrev with_comma : List (List ℕ) → List Word
with_comma [] = []
with_comma (n ∷ ns) = name n ∷ mark marks.Comma ∷ with_comma ns

-- names with commas, and the closing parenthesis
abbrev up_to_close : List (List ℕ) → List Word
up_to_close ns = with_commas (map words_of_name ns) ++ mark marks.Close ∷ []

-- some names with commas, and the closing parenthesis, are left
abbrev pub IsRest : List Word → Type 0
IsRest ws = (ns : List (List ℕ)) × IsFilled ns × (ws ≡ up_to_close ns)

-- The words begin with these names in parentheses, and go on with a name wherever they are names.
pub record NamesSoFar (words : List Word) (names : List (List ℕ)) (left : List Word) : Type 0 where
  pub begun : words ≡ mark marks.Open ∷ (with_comma names ++ left)
  pub rest : (ns : List (List ℕ)) → IsFilled ns → words ≡ words_of_names ns → IsRest left

-- what stands behind two lexemes
abbrev pub behind_two : List Lexeme → List Lexeme
behind_two ls = take (length ls - 2) (drop 2 ls)

two_first : (ls : List Lexeme) (a b : Lexeme) → 2 ≤ length ls → a ≡ get_or ls 0 a → b ≡ get_or ls 1 b
    → words_of ls ≡ word_of a ∷ word_of b ∷ words_of (drop 2 ls)
two_first [] a b h e f = absurd (omega (arith, h))
two_first (l ∷ []) a b h e f = absurd (omega (arith, h))
two_first (l ∷ k ∷ ls) a b h e f = ap (λ x. word_of x ∷ word_of k ∷ words_of ls) (sym e)
    ∙ ap (λ y. word_of a ∷ word_of y ∷ words_of ls) (sym f)

-- two lexemes and the others
pub two_words : (ls : List Lexeme) (a b : Lexeme) → 2 ≤ length ls → a ≡ get_or ls 0 a → b ≡ get_or ls 1 b
    → words_of ls ≡ word_of a ∷ word_of b ∷ words_of (behind_two ls)
two_words ls a b h e f = two_first ls a b h e f ∙ ap (λ l. word_of a ∷ word_of b ∷ words_of l)
    (sym (take_all (length ls - 2) (drop 2 ls) (omega (arith, length-drop 2 ls))))

-- no lexemes, no words
pub no_words : (ls : List Lexeme) → length ls ≡ 0 → words_of ls ≡ []
no_words [] h = refl
no_words (l ∷ ls) h = absurd (omega (arith, h))

-- the same words left, written otherwise
pub names_at : (words : List Word) (names : List (List ℕ)) (left ws : List Word) → NamesSoFar words names left
    → left ≡ ws → NamesSoFar words names ws
names_at words names left ws so e = subst (NamesSoFar words names) e so

comma_pushed : (ns : List (List ℕ)) (n : List ℕ) (ws : List Word) → with_comma ns ++ name n ∷ mark marks.Comma
    ∷ ws ≡ with_comma (ns ++ n ∷ []) ++ ws
comma_pushed [] n ws = refl
comma_pushed (m ∷ ns) n ws = ap (λ l. name m ∷ mark marks.Comma ∷ l) (comma_pushed ns n ws)

rest_next : (u v : Word) (ws : List Word) → v ≡ mark marks.Comma → IsRest (u ∷ v ∷ ws) → IsRest ws
rest_next u v ws c (m ∷ [], f, e) = absurd cc
rest_next u v ws c (m ∷ k ∷ ns, f, e) = (k ∷ ns, tt, cc)
rest_next u v ws c ([], f, e) = absurd f

-- a name and a comma go on with the names
pub names_next : (words : List Word) (names more : List (List ℕ)) (u v : Word) (left : List Word) (n : List ℕ)
    → NamesSoFar words names (u ∷ v ∷ left) → u ≡ name n → v ≡ mark marks.Comma → more ≡ names ++ n ∷ []
    → NamesSoFar words more left
names_next words names more u v left n so a c e =
    let next : NamesSoFar words (names ++ n ∷ []) left = record {
      begun = so.begun ∙ ap (λ x. mark marks.Open ∷ (with_comma names ++ x ∷ v ∷ left)) a
          ∙ ap (λ y. mark marks.Open ∷ (with_comma names ++ name n ∷ y ∷ left)) c ∙ ap (λ l. mark marks.Open ∷ l)
          (comma_pushed names n left);
      rest = λ ns f h. rest_next u v left c (so.rest ns f h);
    } in
    let P : List (List ℕ) → Type 0 = λ l. NamesSoFar words l left in
    subst P (sym e) next

closed_names : (ns : List (List ℕ)) (n : List ℕ) → with_comma ns ++ name n ∷ mark marks.Close
    ∷ [] ≡ up_to_close (ns ++ n ∷ [])
closed_names [] n = refl
closed_names (m ∷ []) n = refl
closed_names (m ∷ k ∷ ns) n = ap (λ l. name m ∷ mark marks.Comma ∷ l) (closed_names (k ∷ ns) n)

-- a name and the closing parenthesis end them
pub names_done : (words : List Word) (names more : List (List ℕ)) (u v : Word) (left : List Word) (n : List ℕ)
    → NamesSoFar words names (u ∷ v ∷ left) → u ≡ name n → v ≡ mark marks.Close → left ≡ [] → more ≡ names ++ n ∷ []
    → IsFilled more × (words ≡ words_of_names more)
names_done words names more u v left n so a c e m = (
  subst IsFilled (sym m) (filled_push names n),
  so.begun ∙ ap (λ x. mark marks.Open ∷ (with_comma names ++ x ∷ v ∷ left)) a
      ∙ ap (λ y. mark marks.Open ∷ (with_comma names ++ name n ∷ y ∷ left)) c
      ∙ ap (λ l. mark marks.Open ∷ (with_comma names ++ name n ∷ mark marks.Close ∷ l)) e
      ∙ ap (λ l. mark marks.Open ∷ l) (closed_names names n) ∙ ap words_of_names (sym m),
)

words_length : (ls : List Lexeme) → length (words_of ls) ≡ length ls
words_length ls = length-map ls word_of

-- words that don't go on with a name, and a comma or the closing parenthesis at their end
short_rest : (ls : List Lexeme) → length ls < 2 → IsRest (words_of ls) → ⊥
short_rest ls h (m ∷ [], f, e) = omega (arith, h, ap length e, words_length ls)
short_rest ls h (m ∷ k ∷ ns, f, e) = omega (arith, h, ap length e, words_length ls)
short_rest ls h ([], f, e) = f

other_first : (u : Word) (ws : List Word) → ((n : List ℕ) → u ≡ name n → ⊥) → IsRest (u ∷ ws) → ⊥
other_first u ws h (m ∷ [], f, e) = h m cc
other_first u ws h (m ∷ k ∷ ns, f, e) = h m cc
other_first u ws h ([], f, e) = f

-- fewer than two lexemes are no rest of names
pub names_short : (words : List Word) (names : List (List ℕ)) (left : List Lexeme)
    → NamesSoFar words names (words_of left) → length left < 2 → (ns : List (List ℕ)) → IsFilled ns
    → words ≡ words_of_names ns → ⊥
names_short words names left so h ns f e = short_rest left h (so.rest ns f e)

-- lexemes that begin with another word than a name are no rest of names
pub names_other : (words : List Word) (names : List (List ℕ)) (u : Word) (left : List Word)
    → NamesSoFar words names (u ∷ left) → ((n : List ℕ) → u ≡ name n → ⊥) → (ns : List (List ℕ)) → IsFilled ns
    → words ≡ words_of_names ns → ⊥
names_other words names u left so h ns f e = other_first u left h (so.rest ns f e)

-- a bound and what ends it
abbrev pub ReadsBound : RunEnd → ℕ → Bound → Reading → Reading → Type 0
ReadsBound part n b old new = FitsBound depth_limit (may_of part) n b × Passes (Running part n [] false ∷ []) [] []
    (words_of_bound b ++ mark (end_of part) ∷ []) old new

-- tokens that are a bound
pub bound_known : (part : RunEnd) (n : ℕ) (ls : List Lexeme) (r : Run) (b : Bound) (old new : Reading)
    → Whole part n ls r old new → words_of_bound b ≡ words_of ls → FitsBound depth_limit (may_of part) n b
    → ReadsBound part n b old new
bound_known part n ls r b old new h e f =
    (f, passes_as (words_of_bound b ++ mark (end_of part) ∷ []) (ap (λ l. l ++ mark (end_of part) ∷ []) (sym e)) h.3)

pub bound_other : (part : RunEnd) (n : ℕ) (ls : List Lexeme) (r : Run) (old new : Reading) → Whole part n ls r old new
    → (IsBoundText (words_of ls) → ⊥) → ReadsBound part n (other_bound r) old new
bound_other part n ls r old new h g =
    let P : List Word → Type 0 = λ l. IsBoundText l → ⊥ in (
      (h.1, h.2, subst P (sym h.0) g),
      passes_as (words_of_run r ++ mark (end_of part) ∷ [])
          (ap (λ l. l ++ mark (end_of part) ∷ []) (sym h.0)) h.3,
    )

-- the upper bound stops all
pub bounds_err_upper : (e : SyntaxFault) (n : ℕ) (lower : Bound) (old mid : Reading) → ReadsBound in_lower (n + 1) lower
    old mid → StopsIn e (Running in_upper (n + 1) [] false ∷ []) [] mid → StopsIn e (bounds_symbols n) [] old
bounds_err_upper e n lower old mid h g = stops_behind e (Running in_upper (n + 1) [] false ∷ []) (Say keywords.Of ∷ [])
    (passes_more (Running in_upper (n + 1) [] false ∷ Say keywords.Of ∷ []) h.1) g

-- another token where OF is expected stops all
pub bounds_err_of : (e : SyntaxFault) (n : ℕ) (lower upper : Bound) (old mid end : Reading)
    → ReadsBound in_lower (n + 1) lower old mid → ReadsBound in_upper (n + 1) upper mid end
    → StopsIn e (Say keywords.Of ∷ []) [] end → StopsIn e (bounds_symbols n) [] old
bounds_err_of e n lower upper old mid end h g k = stops_behind e (Say keywords.Of ∷ []) []
    (passes_more (Say keywords.Of ∷ []) (passes_then h.1 g.1)) k

-- bounds behind their bracket, and OF
abbrev pub ReadsBounds : ℕ → Bounds → Reading → Reading → Type 0
ReadsBounds n b old new = FitsBounds depth_limit n b × (ws : List Word) × (words_of_bounds b ++ keyword keywords.Of
    ∷ [] ≡ mark marks.OpenBracket ∷ ws) × Passes (bounds_symbols n) [] [] ws old new

bounds_words : (u v : List Word) → (mark marks.OpenBracket
    ∷ (u ++ mark marks.Colon ∷ (v ++ mark marks.CloseBracket ∷ []))) ++ keyword keywords.Of
    ∷ [] ≡ mark marks.OpenBracket ∷ ((u ++ mark marks.Colon ∷ [])
    ++ ((v ++ mark marks.CloseBracket ∷ []) ++ keyword keywords.Of ∷ []))
bounds_words u v =
    let x : List Word = v ++ mark marks.CloseBracket ∷ [] in
    ap (λ l. mark marks.OpenBracket ∷ l) (append_assoc u (mark marks.Colon ∷ x) (keyword keywords.Of ∷ [])
    ∙ sym (append_assoc u (mark marks.Colon ∷ []) (x ++ keyword keywords.Of ∷ [])))

-- both bounds, and OF
pub bounds_done : (n : ℕ) (b : Bounds) (old mid end new : Reading) → n < depth_limit → ReadsBound in_lower (n + 1)
    b.lower old mid → ReadsBound in_upper (n + 1) b.upper mid end → Passes (Say keywords.Of ∷ []) [] []
    (keyword keywords.Of ∷ []) end new → ReadsBounds n b old new
bounds_done n b old mid end new lt h g k = (
  (lt, h.0, g.0),
  (words_of_bound b.lower ++ mark marks.Colon ∷ []) ++ ((words_of_bound b.upper ++ mark marks.CloseBracket ∷ [])
      ++ keyword keywords.Of ∷ []),
  bounds_words (words_of_bound b.lower) (words_of_bound b.upper),
  passes_then h.1 (passes_then g.1 k),
)

-- bounds or none, and OF
pub no_bounds : (n : ℕ) (s : LocatedToken) (old new : Reading) → Shows old s new
    → is_keyword keywords.Of s.lookahead ≡ true → Passes (BoundsOrOf n ∷ []) [] [] (keyword keywords.Of ∷ []) old new
no_bounds n s old new h e = passes_token (BoundsOrOf n) [] (keyword keywords.Of) s old new h
    (keyword_met keywords.Of s.lookahead e) refl

bounds_refused : (n : ℕ) (s : Lookahead) → is_keyword keywords.Of s ≡ false → is_mark marks.OpenBracket s ≡ false
    → next depth_limit (BoundsOrOf n) s ≡ Err (refused s)
bounds_refused n (token (mark marks.OpenBracket)) e f = absurd (false≢true (sym f))
bounds_refused n (token (keyword keywords.Of)) e f = absurd (false≢true (sym e))
bounds_refused n _ e f = refl

-- a token that is neither a bracket nor OF
pub some_bounds_err : (e : SyntaxFault) (n : ℕ) (s : LocatedToken) (old new : Reading) → Shows old s new
    → is_keyword keywords.Of s.lookahead ≡ false → is_mark marks.OpenBracket s.lookahead ≡ false
    → e ≡ faults.Fault (refused s.lookahead) s.place → StopsIn e (BoundsOrOf n ∷ []) [] old
some_bounds_err e n s old new h a b q = stops_refused e (BoundsOrOf n) s old new h (bounds_refused n s.lookahead a b) q

opening_deep : (n : ℕ) (s : Lookahead) → s ≡ token (mark marks.OpenBracket) → depth_limit ≤ n
    → next depth_limit (BoundsOrOf n) s ≡ Err fault_kinds.TooDeep
opening_deep n s e h =
    let f : nat_lt n depth_limit ≡ false = grind (arith, nat_tests) in
    ap (next depth_limit (BoundsOrOf n)) e ∙ rw f refl

opening_next : (n : ℕ) → n < depth_limit → next depth_limit (BoundsOrOf n) (token (mark marks.OpenBracket)) ≡ Ok
    (bounds_symbols n)
opening_next n h = let f : nat_lt n depth_limit ≡ true = grind (arith, nat_tests) in rw f refl

-- a bracket too deep
pub some_bounds_deep : (e : SyntaxFault) (n : ℕ) (s : LocatedToken) (old new : Reading) → Shows old s new
    → is_mark marks.OpenBracket s.lookahead ≡ true → depth_limit ≤ n → e ≡ faults.Fault fault_kinds.TooDeep s.place
    → StopsIn e (BoundsOrOf n ∷ []) [] old
some_bounds_deep e n s old new h m deep q =
    let P : SyntaxFault → Type 0 = λ x. StopsIn x (BoundsOrOf n ∷ []) [] old in
    subst P (sym q) (stops_shown fault_kinds.TooDeep (BoundsOrOf n) s old new h
    (opening_deep n s.lookahead (mark_met marks.OpenBracket s.lookahead m) deep))

bracket_passes : (n : ℕ) (s : LocatedToken) (old mid : Reading) → Shows old s mid → is_mark marks.OpenBracket
    s.lookahead ≡ true → n < depth_limit → Passes (BoundsOrOf n ∷ []) (bounds_symbols n) [] (mark marks.OpenBracket
    ∷ []) old mid
bracket_passes n s old mid h m lt = passes_token (BoundsOrOf n) (bounds_symbols n) (mark marks.OpenBracket) s old mid h
    (mark_met marks.OpenBracket s.lookahead m) (opening_next n lt)

-- what stops bounds behind their bracket stops all
pub some_bounds_stop : (e : SyntaxFault) (n : ℕ) (s : LocatedToken) (old mid : Reading) → Shows old s mid
    → is_mark marks.OpenBracket s.lookahead ≡ true → n < depth_limit → StopsIn e (bounds_symbols n) [] mid
    → StopsIn e (BoundsOrOf n ∷ []) [] old
some_bounds_stop e n s old mid h m lt g = stops_behind e (bounds_symbols n) [] (bracket_passes n s old mid h m lt) g

-- bounds behind their bracket
pub some_bounds_done : (n : ℕ) (b : Bounds) (s : LocatedToken) (old mid new : Reading) → Shows old s mid
    → is_mark marks.OpenBracket s.lookahead ≡ true → n < depth_limit → ReadsBounds n b mid new
    → FitsBounds depth_limit n b × Passes (BoundsOrOf n ∷ []) [] [] (words_of_bounds b ++ keyword keywords.Of ∷ []) old
    new
some_bounds_done n b s old mid new h m lt g = (
  g.0,
  passes_as (words_of_bounds b ++ keyword keywords.Of ∷ []) (sym g.2)
      (passes_join (bracket_passes n s old mid h m lt) g.3),
)

-- a width behind its parenthesis, and the closing one
abbrev pub ReadsWidth : ℕ → Width → Reading → Reading → Type 0
ReadsWidth n w old new = FitsWidth depth_limit n w × (ws : List Word) × (words_of_width w ≡ mark marks.Open ∷ ws)
    × Passes (Running in_parentheses (n + 1) [] false ∷ []) [] [] ws old new

-- tokens that are one integer
pub width_known : (n : ℕ) (ls : List Lexeme) (r : Run) (t : List ℕ) (old new : Reading) → n < depth_limit
    → Whole in_parentheses (n + 1) ls r old new → words_of ls ≡ integer t ∷ [] → ReadsWidth n (width t) old new
width_known n ls r t old new lt h e = (
  lt,
  words_of ls ++ mark marks.Close ∷ [],
  ap (λ l. mark marks.Open ∷ (l ++ mark marks.Close ∷ [])) (sym e),
  h.3,
)

-- tokens that aren't one integer
pub width_other : (n : ℕ) (ls : List Lexeme) (r : Run) (old new : Reading) → n < depth_limit
    → Whole in_parentheses (n + 1) ls r old new → ((t : List ℕ) → words_of ls ≡ integer t ∷ [] → ⊥)
    → ReadsWidth n (other_width r) old new
width_other n ls r old new lt h g = (
  (lt, h.1, h.2, λ t e. g t (sym h.0 ∙ e)),
  words_of ls ++ mark marks.Close ∷ [],
  ap (λ l. mark marks.Open ∷ (l ++ mark marks.Close ∷ [])) h.0,
  h.3,
)

-- a supertype expression behind its parenthesis, and the closing one
abbrev pub ReadsSupertype : Supertype → Reading → Reading → Type 0
ReadsSupertype s old new =
    FitsSupertype depth_limit s × (ws : List Word) × (words_of_supertype s ≡ keyword keywords.Supertype
    ∷ keyword keywords.Of ∷ mark marks.Open ∷ ws) × Passes (Running in_parentheses 1 [] false ∷ []) [] [] ws old new

-- what is known of words: the tree that they are, or that they are none
abbrev pub IsKnown : List Word → Option code.Supertype → Type 0
IsKnown ws o = MatchOption o (IsSupertypeText ws → ⊥) (λ s. FitsSupertype depth_limit (supertype_of s)
    × (words_of_supertype (supertype_of s) ≡ words_of_expression ws))

-- tokens that are a tree
pub supertype_known : (ls : List Lexeme) (r : Run) (s : Supertype) (old new : Reading) → Whole in_parentheses 1 ls r old
    new → FitsSupertype depth_limit s → words_of_supertype s ≡ words_of_expression (words_of ls)
    → ReadsSupertype s old new
supertype_known ls r s old new h f e = (f, words_of ls ++ mark marks.Close ∷ [], e, h.3)

-- tokens that have no tree
pub supertype_other : (ls : List Lexeme) (r : Run) (old new : Reading) → Whole in_parentheses 1 ls r old new
    → (IsSupertypeText (words_of ls) → ⊥) → ReadsSupertype (of_other r) old new
supertype_other ls r old new h g =
    let P : List Word → Type 0 = λ l. IsSupertypeText l → ⊥ in
    ((h.1, h.2, subst P (sym h.0) g), words_of ls ++ mark marks.Close ∷ [], ap words_of_expression h.0, h.3)
