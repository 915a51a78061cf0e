-- Kinds, part by part.
use Rattle.std.proofs.Common.{◌≡◌, ℕ, ◌+◌, ◌<◌, ◌≤◌, Bool, true, false, List, [], ◌∷◌, ◌++◌, Result, Ok, Err, Option, None, Some, MatchResult, refl, sym, ap, ◌∙◌, subst, append_assoc, append-nil, arith, nat_lt}
use Rattle.std.proofs.lemmas.Bool.{false≢true}
use Rattle.std.proofs.lemmas.Bool.Decides.{nat_tests}
use Rattle.express_lexer.specs.declared.marks.Mark.TheVariants as marks
use Rattle.express_lexer.specs.Reading.{Reading}
use Rattle.express_syntax.specs.declared.keyword.Keyword.{Keyword}
use Rattle.express_syntax.specs.declared.keyword.Keyword.TheVariants as keywords
use Rattle.express_syntax.specs.Words.{Word, keyword, mark}
use Rattle.express_syntax.specs.Grammar.{depth_limit}
use Rattle.express_syntax.specs.declared.fault.FaultKind.TheVariants as fault_kinds
use Rattle.express_syntax.specs.declared.fault.SyntaxFault.{SyntaxFault}
use Rattle.express_syntax.specs.declared.fault.SyntaxFault.TheVariants as faults
use Rattle.express_syntax.specs.Texts.{Lookahead, token, end_of_text, LocatedToken, Shows}
use Rattle.express_syntax.specs.Schemas.{Bounds, Width, DataType, real, array, list, bag, set}
use Rattle.express_syntax.specs.WrittenSchemas.{said, words_of_bounds, words_of_some_bounds, words_of_width, words_of_fixed, words_of_data_type}
use Rattle.express_syntax.specs.Profile.{Maybe, FitsBounds, FitsWidth}
use Rattle.express_syntax.specs.steps.Predict.{Symbol, Just, EndOfText, Ending, ending_mark, semicolon, assignment, DataTypeThen, WidthOr, FixedWidthOr, FixedOr, BoundsOrOf, OptionalOr, UniqueOr, Running, in_parentheses, bounds_symbols, next, next_mark_or, refused, is_mark, is_keyword}
use Rattle.express_parts.specs.steps.DataTypeParts.{PassesDataType, PassesBehind, TakesWidth, is_aggregate}
use Rattle.express_syntax.specs.steps.Steps.{StopsIn, Passes}
use Rattle.express_syntax.proofs.PassingRuns.{shallow}
use Rattle.express_syntax.proofs.Turning.{stops_shown}
use Rattle.express_syntax.proofs.Taking.{passes_as, passes_join, passes_more, passes_then, passes_token, passes_taken, passes_first, stops_behind, stops_first, passes_other, stops_as}
use Rattle.express_syntax.proofs.Looking.{mark_met, keyword_met, stops_refused}

-- what stops what a token leaves to come stops it all
pub stops_left : {ys : List Symbol} {before : List LocatedToken} {ws : List Word} {old mid : Reading} (e : SyntaxFault)
    (zs : List Symbol) → Passes ys zs before ws old mid → StopsIn e zs [] mid → StopsIn e ys before old
stops_left {ys} {before} {ws} {old} {mid} e zs h g =
    let P : List Symbol → Type 0 = λ l. Passes ys l before ws old mid in
    stops_behind e zs [] (subst P (sym (append-nil zs)) h) g

deep : (n : ℕ) → depth_limit ≤ n → nat_lt n depth_limit ≡ false
deep n h = grind (arith, nat_tests)

-- a width, or the mark behind a data type
mark_or_end : (n : ℕ) (end : Ending) (us : List Symbol) → next_mark_or depth_limit n end us
    (token (mark (ending_mark end))) ≡ Ok []
mark_or_end n semicolon us = refl
mark_or_end n assignment us = refl

mark_or_open : (n : ℕ) (end : Ending) (us : List Symbol) → n < depth_limit → next_mark_or depth_limit n end us
    (token (mark marks.Open)) ≡ Ok (Running in_parentheses (n + 1) [] false ∷ us)
mark_or_open n end us h = rw (shallow n depth_limit h) refl

mark_or_deep : (n : ℕ) (end : Ending) (us : List Symbol) → depth_limit ≤ n → next_mark_or depth_limit n end us
    (token (mark marks.Open)) ≡ Err fault_kinds.TooDeep
mark_or_deep n end us h = rw (deep n h) refl

mark_or_refused : (n : ℕ) (end : Ending) (us : List Symbol) (s : Lookahead) → is_mark marks.Open s ≡ false
    → is_mark (ending_mark end) s ≡ false → next_mark_or depth_limit n end us s ≡ Err (refused s)
mark_or_refused n end us (token (mark marks.Open)) c d = absurd (false≢true (sym c))
mark_or_refused n end us (token (mark m)) c d = rw d refl
mark_or_refused n end us _ c d = refl

-- a symbol for a width or the mark after a data type isn't the end of the text
pub not_over : (y : Symbol) (us : List Symbol) (n : ℕ) (end : Ending) → TakesWidth y us n end → y ≡ EndOfText → ⊥
not_over y us n end t e = let d : next depth_limit EndOfText end_of_text ≡ next_mark_or depth_limit n end us
    end_of_text = ap (λ z. next depth_limit z end_of_text) (sym e) ∙ t end_of_text in absurd cc

-- the mark behind the data type, without a width
pub width_none : (y : Symbol) (us : List Symbol) (n : ℕ) (end : Ending) (s : LocatedToken) (old new : Reading)
    → TakesWidth y us n end → Shows old s new → is_mark (ending_mark end) s.lookahead ≡ true
    → Passes (y ∷ []) [] [] (mark (ending_mark end) ∷ []) old new
width_none y us n end s old new t shows c = passes_token y [] (mark (ending_mark end)) s old new shows
    (mark_met (ending_mark end) s.lookahead c) (t (token (mark (ending_mark end))) ∙ mark_or_end n end us)

-- a width that opens too much
pub width_deep : (e : SyntaxFault) (y : Symbol) (us : List Symbol) (n : ℕ) (end : Ending) (s : LocatedToken)
    (old new : Reading) → TakesWidth y us n end → Shows old s new → is_mark marks.Open s.lookahead ≡ true
    → depth_limit ≤ n → e ≡ faults.Fault fault_kinds.TooDeep s.place → StopsIn e (y ∷ []) [] old
width_deep e y us n end s old new t shows c h q =
    let P : SyntaxFault → Type 0 = λ x. StopsIn x (y ∷ []) [] old in
    subst P (sym q) (stops_shown fault_kinds.TooDeep y s old new shows
    (ap (next depth_limit y) (mark_met marks.Open s.lookahead c) ∙ t (token (mark marks.Open))
    ∙ mark_or_deep n end us h))

-- neither a width nor the mark
pub width_refused : (e : SyntaxFault) (y : Symbol) (us : List Symbol) (n : ℕ) (end : Ending) (s : LocatedToken)
    (old new : Reading) → TakesWidth y us n end → Shows old s new → is_mark marks.Open s.lookahead ≡ false
    → is_mark (ending_mark end) s.lookahead ≡ false → e ≡ faults.Fault (refused s.lookahead) s.place
    → StopsIn e (y ∷ []) [] old
width_refused e y us n end s old new t shows c d q = stops_refused e y s old new shows
    (t s.lookahead ∙ mark_or_refused n end us s.lookahead c d) q

passes_open : (y : Symbol) (us : List Symbol) (n : ℕ) (end : Ending) (s : LocatedToken) (old a : Reading)
    → TakesWidth y us n end → Shows old s a → is_mark marks.Open s.lookahead ≡ true → n < depth_limit
    → Passes (y ∷ []) (Running in_parentheses (n + 1) [] false ∷ us) [] (mark marks.Open ∷ []) old a
passes_open y us n end s old a t shows c h = passes_token y (Running in_parentheses (n + 1) [] false ∷ us)
    (mark marks.Open) s old a shows (mark_met marks.Open s.lookahead c) (t (token (mark marks.Open))
    ∙ mark_or_open n end us h)

-- what stops behind the parenthesis of a width stops it
pub width_stopped : (e : SyntaxFault) (y : Symbol) (us : List Symbol) (n : ℕ) (end : Ending) (s : LocatedToken)
    (old a : Reading) → TakesWidth y us n end → Shows old s a → is_mark marks.Open s.lookahead ≡ true → n < depth_limit
    → StopsIn e (Running in_parentheses (n + 1) [] false ∷ []) [] a → StopsIn e (y ∷ []) [] old
width_stopped e y us n end s old a t shows c h g = stops_behind e (Running in_parentheses (n + 1) [] false ∷ []) us
    (passes_open y us n end s old a t shows c h) g

-- a width
pub width_some : (y : Symbol) (us : List Symbol) (n : ℕ) (end : Ending) (s : LocatedToken) (w : Width) (ws : List Word)
    (old a b : Reading) → TakesWidth y us n end → Shows old s a → is_mark marks.Open s.lookahead ≡ true
    → n < depth_limit
    → words_of_width w ≡ mark marks.Open ∷ ws → Passes (Running in_parentheses (n + 1) [] false ∷ []) [] [] ws a b
    → Passes (y ∷ []) us [] (words_of_width w) old b
width_some y us n end s w ws old a b t shows c h e g = passes_as (words_of_width w) (sym e)
    (passes_join (passes_open y us n end s old a t shows c h) (passes_more us g))

-- behind a width, FIXED or not
fixed_end : (end : Ending) → next depth_limit (FixedOr end) (token (mark (ending_mark end))) ≡ Ok []
fixed_end semicolon = refl
fixed_end assignment = refl

fixed_other : (end : Ending) (s : Lookahead) → is_keyword keywords.Fixed s ≡ false → is_mark (ending_mark end) s ≡ false
    → next depth_limit (FixedOr end) s ≡ Err (refused s)
fixed_other end (token (keyword keywords.Fixed)) c d = absurd (false≢true (sym c))
fixed_other end (token (mark m)) c d = rw d refl
fixed_other end _ c d = refl

passes_fixed : (end : Ending) (s : LocatedToken) (old a : Reading) → Shows old s a → is_keyword keywords.Fixed
    s.lookahead ≡ true → Passes (FixedOr end ∷ []) (Just (ending_mark end) ∷ []) [] (keyword keywords.Fixed ∷ []) old a
passes_fixed end s old a shows c = passes_token (FixedOr end) (Just (ending_mark end) ∷ []) (keyword keywords.Fixed) s
    old a shows (keyword_met keywords.Fixed s.lookahead c) refl

-- what stops behind FIXED stops it all
pub fixed_stopped : (e : SyntaxFault) (end : Ending) (s : LocatedToken) (old a : Reading) → Shows old s a
    → is_keyword keywords.Fixed s.lookahead ≡ true → StopsIn e (Just (ending_mark end) ∷ []) [] a
    → StopsIn e (FixedOr end ∷ []) [] old
fixed_stopped e end s old a shows c g = stops_left e (Just (ending_mark end) ∷ []) (passes_fixed end s old a shows c) g

-- FIXED, and the mark
pub fixed_said : (end : Ending) (s : LocatedToken) (old a b : Reading) → Shows old s a → is_keyword keywords.Fixed
    s.lookahead ≡ true → Passes (Just (ending_mark end) ∷ []) [] [] (mark (ending_mark end) ∷ []) a b
    → Passes (FixedOr end ∷ []) [] [] (said keywords.Fixed true ++ mark (ending_mark end) ∷ []) old b
fixed_said end s old a b shows c g = passes_join (passes_fixed end s old a shows c) g

-- neither FIXED nor the mark
pub fixed_refused : (e : SyntaxFault) (end : Ending) (s : LocatedToken) (old new : Reading) → Shows old s new
    → is_keyword keywords.Fixed s.lookahead ≡ false → is_mark (ending_mark end) s.lookahead ≡ false
    → e ≡ faults.Fault (refused s.lookahead) s.place → StopsIn e (FixedOr end ∷ []) [] old
fixed_refused e end s old new shows c d q = stops_refused e (FixedOr end) s old new shows
    (fixed_other end s.lookahead c d) q

-- the mark without FIXED
pub fixed_unsaid : (end : Ending) (s : LocatedToken) (old new : Reading) → Shows old s new → is_mark (ending_mark end)
    s.lookahead ≡ true → Passes (FixedOr end ∷ []) [] [] (said keywords.Fixed false ++ mark (ending_mark end) ∷ []) old
    new
fixed_unsaid end s old new shows c = passes_token (FixedOr end) [] (mark (ending_mark end)) s old new shows
    (mark_met (ending_mark end) s.lookahead c) (fixed_end end)

-- REAL without a width
pub real_none : (n : ℕ) (end : Ending) (old new : Reading) → Passes (WidthOr n end ∷ []) [] [] (mark (ending_mark end)
    ∷ []) old new → PassesBehind (keyword keywords.Real) (WidthOr n end ∷ []) n end (real None) old new
real_none n end old new h = (tt, mark (ending_mark end) ∷ [], refl, h)

-- REAL with a width
pub real_some : (n : ℕ) (end : Ending) (w : Width) (old a b : Reading) → FitsWidth depth_limit n w
    → Passes (WidthOr n end ∷ []) (Just (ending_mark end) ∷ []) [] (words_of_width w) old a
    → Passes (Just (ending_mark end) ∷ []) [] [] (mark (ending_mark end) ∷ []) a b
    → PassesBehind (keyword keywords.Real) (WidthOr n end ∷ []) n end (real (Some w)) old b
real_some n end w old a b f h g = (f, words_of_width w ++ mark (ending_mark end) ∷ [], refl, passes_join h g)

-- a width with FIXED or not
pub fixed_some : (n : ℕ) (end : Ending) (w : Width) (fixed : Bool) (old a b : Reading)
    → Passes (FixedWidthOr n end ∷ []) (FixedOr end ∷ []) [] (words_of_width w) old a → Passes (FixedOr end ∷ []) [] []
    (said keywords.Fixed fixed ++ mark (ending_mark end) ∷ []) a b
    → Passes (FixedWidthOr n end ∷ []) [] [] (words_of_fixed (Some (w, fixed)) ++ mark (ending_mark end) ∷ []) old b
fixed_some n end w fixed old a b h g =
    passes_as ((words_of_width w ++ said keywords.Fixed fixed) ++ mark (ending_mark end) ∷ [])
    (sym (append_assoc (words_of_width w) (said keywords.Fixed fixed) (mark (ending_mark end) ∷ [])))
    (passes_join h g)

-- a data type behind its first word
pub data_type_behind : (w : Word) (ys : List Symbol) (n : ℕ) (end : Ending) (s : LocatedToken) (k : DataType)
    (old new : Reading) → s.lookahead ≡ token w → next depth_limit (DataTypeThen n end) (token w) ≡ Ok ys
    → PassesBehind w ys n end k old new → PassesDataType (DataTypeThen n end ∷ []) (s ∷ []) [] n end k old new
data_type_behind w ys n end s k old new i e h = (
  h.0,
  passes_as (words_of_data_type k ++ mark (ending_mark end) ∷ [])
      (sym h.2) (passes_join (passes_taken (DataTypeThen n end) ys w s old i e) h.3),
)

-- a fault after the first word of a data type
pub data_type_stopped : (f : SyntaxFault) (w : Word) (ys : List Symbol) (n : ℕ) (end : Ending) (s : LocatedToken)
    (old : Reading) → s.lookahead ≡ token w → next depth_limit (DataTypeThen n end) (token w) ≡ Ok ys
    → StopsIn f ys [] old → StopsIn f (DataTypeThen n end ∷ []) (s ∷ []) old
data_type_stopped f w ys n end s old i e h = stops_left f ys (passes_taken (DataTypeThen n end) ys w s old i e) h

-- a data type after its first word, or the fault there
pub data_type_behind_or : {C : Type 0} (f : C → DataType) (w : Word) (ys : List Symbol) (n : ℕ) (end : Ending)
    (s : LocatedToken) (r : Result C SyntaxFault) (old new : Reading) → s.lookahead ≡ token w
    → next depth_limit (DataTypeThen n end) (token w) ≡ Ok ys
    → MatchResult r (λ k. PassesBehind w ys n end (f k) old new) (λ e. StopsIn e ys [] old)
    → MatchResult r (λ k. PassesDataType (DataTypeThen n end ∷ []) (s ∷ []) [] n end (f k) old new)
    (λ e. StopsIn e (DataTypeThen n end ∷ []) (s ∷ []) old)
data_type_behind_or f w ys n end s (Ok k) old new i e h = data_type_behind w ys n end s (f k) old new i e h
data_type_behind_or f w ys n end s (Err x) old new i e h = data_type_stopped x w ys n end s old i e h

-- the words that begin aggregate types
pub last_aggregate : (k : Keyword) → is_aggregate k ≡ true → (k ≡ keywords.Array → ⊥) → (k ≡ keywords.List → ⊥)
    → (k ≡ keywords.Bag → ⊥) → k ≡ keywords.Set
last_aggregate keywords.Array h a b c = absurd (a refl)
last_aggregate keywords.List h a b c = absurd (b refl)
last_aggregate keywords.Bag h a b c = absurd (c refl)
last_aggregate keywords.Set h a b c = refl
last_aggregate _ h a b c = absurd (false≢true h)

-- what stands behind ARRAY
abbrev pub array_symbols : ℕ → Ending → List Symbol
array_symbols n end = Just marks.OpenBracket ∷ (bounds_symbols n ++ OptionalOr (n + 1) end ∷ [])

-- ARRAY leaves its bounds and its elements to come
pub next_array : (n : ℕ) (end : Ending) → n < depth_limit → next depth_limit (DataTypeThen n end)
    (token (keyword keywords.Array)) ≡ Ok (array_symbols n end)
next_array n end h = rw (shallow n depth_limit h) refl

-- LIST leaves its bounds and its elements to come
pub next_list : (n : ℕ) (end : Ending) → n < depth_limit → next depth_limit (DataTypeThen n end)
    (token (keyword keywords.List)) ≡ Ok (BoundsOrOf n ∷ UniqueOr (n + 1) end ∷ [])
next_list n end h = rw (shallow n depth_limit h) refl

-- BAG leaves its bounds and its elements to come
pub next_bag : (n : ℕ) (end : Ending) → n < depth_limit → next depth_limit (DataTypeThen n end)
    (token (keyword keywords.Bag)) ≡ Ok (BoundsOrOf n ∷ DataTypeThen (n + 1) end ∷ [])
next_bag n end h = rw (shallow n depth_limit h) refl

-- SET leaves its bounds and its elements to come
pub next_set : (n : ℕ) (end : Ending) → n < depth_limit → next depth_limit (DataTypeThen n end)
    (token (keyword keywords.Set)) ≡ Ok (BoundsOrOf n ∷ DataTypeThen (n + 1) end ∷ [])
next_set n end h = rw (shallow n depth_limit h) refl

-- UNIQUE, or a data type
unique_other : (n : ℕ) (end : Ending) (s : Lookahead) → is_keyword keywords.Unique s ≡ false
    → next depth_limit (UniqueOr n end) s ≡ next depth_limit (DataTypeThen n end) s
unique_other n end (token (keyword keywords.Unique)) c = absurd (false≢true (sym c))
unique_other n end _ c = refl

-- UNIQUE, and a data type
pub unique_said : (n : ℕ) (end : Ending) (s : LocatedToken) (k : DataType) (old new : Reading)
    → is_keyword keywords.Unique s.lookahead ≡ true → PassesDataType (DataTypeThen n end ∷ []) [] [] n end k old new
    → PassesDataType (UniqueOr n end ∷ []) (s ∷ []) (said keywords.Unique true) n end k old new
unique_said n end s k old new c h = (
  h.0,
  passes_join (passes_taken (UniqueOr n end) (DataTypeThen n end ∷ [])
      (keyword keywords.Unique) s old (keyword_met keywords.Unique s.lookahead c) refl) h.1,
)

-- what stops a data type without UNIQUE before it
pub unique_unsaid_stopped : (e : SyntaxFault) (n : ℕ) (end : Ending) (s : LocatedToken) (old : Reading)
    → is_keyword keywords.Unique s.lookahead ≡ false → StopsIn e (DataTypeThen n end ∷ []) (s ∷ []) old
    → StopsIn e (UniqueOr n end ∷ []) (s ∷ []) old
unique_unsaid_stopped e n end s old c h = stops_as e (UniqueOr n end) (DataTypeThen n end) s old
    (unique_other n end s.lookahead c) h

-- OPTIONAL, or what may stand behind it
optional_other : (n : ℕ) (end : Ending) (s : Lookahead) → is_keyword keywords.Optional s ≡ false
    → next depth_limit (OptionalOr n end) s ≡ next depth_limit (UniqueOr n end) s
optional_other n end (token (keyword keywords.Optional)) c = absurd (false≢true (sym c))
optional_other n end _ c = refl

passes_optional : (n : ℕ) (end : Ending) (s : LocatedToken) (old a : Reading) → Shows old s a
    → is_keyword keywords.Optional s.lookahead ≡ true → Passes (OptionalOr n end ∷ []) (UniqueOr n end ∷ []) []
    (keyword keywords.Optional ∷ []) old a
passes_optional n end s old a shows c = passes_token (OptionalOr n end) (UniqueOr n end ∷ [])
    (keyword keywords.Optional) s old a shows (keyword_met keywords.Optional s.lookahead c) refl

-- OPTIONAL, and what stands behind it
pub optional_said : (n : ℕ) (end : Ending) (s : LocatedToken) (u : Bool) (k : DataType) (old a b : Reading)
    → Shows old s a → is_keyword keywords.Optional s.lookahead ≡ true → PassesDataType (UniqueOr n end ∷ []) []
    (said keywords.Unique u) n end k a b
    → PassesDataType (OptionalOr n end ∷ []) [] (said keywords.Optional true ++ said keywords.Unique u) n end k old b
optional_said n end s u k old a b shows c h = (h.0, passes_join (passes_optional n end s old a shows c) h.1)

-- what stops behind OPTIONAL stops it all
pub optional_stopped : (e : SyntaxFault) (n : ℕ) (end : Ending) (s : LocatedToken) (old a : Reading) → Shows old s a
    → is_keyword keywords.Optional s.lookahead ≡ true → StopsIn e (UniqueOr n end ∷ []) [] a
    → StopsIn e (OptionalOr n end ∷ []) [] old
optional_stopped e n end s old a shows c h = stops_left e (UniqueOr n end ∷ []) (passes_optional n end s old a shows c)
    h

-- elements without OPTIONAL before them
pub optional_unsaid : (n : ℕ) (end : Ending) (s : LocatedToken) (u : Bool) (k : DataType) (old a b : Reading)
    → Shows old s a → is_keyword keywords.Optional s.lookahead ≡ false → PassesDataType (UniqueOr n end ∷ []) (s ∷ [])
    (said keywords.Unique u) n end k a b
    → PassesDataType (OptionalOr n end ∷ []) [] (said keywords.Optional false ++ said keywords.Unique u) n end k old b
optional_unsaid n end s u k old a b shows c h = (
  h.0,
  passes_first s old shows (passes_other (OptionalOr n end) (UniqueOr n end) s
      (optional_other n end s.lookahead c) h.1),
)

-- a fault in elements without OPTIONAL before them
pub optional_unsaid_stopped : (e : SyntaxFault) (n : ℕ) (end : Ending) (s : LocatedToken) (old a : Reading)
    → Shows old s a → is_keyword keywords.Optional s.lookahead ≡ false → StopsIn e (UniqueOr n end ∷ []) (s ∷ []) a
    → StopsIn e (OptionalOr n end ∷ []) [] old
optional_unsaid_stopped e n end s old a shows c h = stops_first e (OptionalOr n end ∷ []) s shows
    (stops_as e (OptionalOr n end) (UniqueOr n end) s a (optional_other n end s.lookahead c) h)

-- a token that a symbol begins with is taken first
pub begins_or : {C : Type 0} (f : C → DataType) (g : C → List Word) (ys : List Symbol) (n : ℕ) (end : Ending)
    (s : LocatedToken) (r : Result C SyntaxFault) (old a b : Reading) → Shows old s a
    → MatchResult r (λ k. PassesDataType ys (s ∷ []) (g k) n end (f k) a b) (λ e. StopsIn e ys (s ∷ []) a)
    → MatchResult r (λ k. PassesDataType ys [] (g k) n end (f k) old b) (λ e. StopsIn e ys [] old)
begins_or f g ys n end s (Ok k) old a b shows h = (h.0, passes_first s old shows h.1)
begins_or f g ys n end s (Err e) old a b shows h = stops_first e ys s shows h

-- words of bounds and of what stands behind them
aggregate_words : (b ss ks m : List Word) → (b ++ keyword keywords.Of ∷ [])
    ++ (ss ++ (ks ++ m)) ≡ (b ++ keyword keywords.Of ∷ (ss ++ ks)) ++ m
aggregate_words b ss ks m =
    append_assoc b (keyword keywords.Of ∷ []) (ss ++ (ks ++ m)) ∙ ap (λ l. b ++ keyword keywords.Of ∷ l)
    (sym (append_assoc ss ks m)) ∙ sym (append_assoc b (keyword keywords.Of ∷ (ss ++ ks)) m)

-- what stops the bounds of an array
pub array_bounds : (e : SyntaxFault) (n : ℕ) (end : Ending) (old a : Reading) → Passes (Just marks.OpenBracket ∷ []) []
    [] (mark marks.OpenBracket ∷ []) old a → StopsIn e (bounds_symbols n) [] a → StopsIn e (array_symbols n end) [] old
array_bounds e n end old a h g = stops_behind e (bounds_symbols n) (OptionalOr (n + 1) end ∷ [])
    (passes_more (bounds_symbols n ++ OptionalOr (n + 1) end ∷ []) h) g

-- what stops the elements of an array
pub array_stopped : (e : SyntaxFault) (n : ℕ) (end : Ending) (ws : List Word) (old a b : Reading)
    → Passes (Just marks.OpenBracket ∷ []) [] [] (mark marks.OpenBracket ∷ []) old a → Passes (bounds_symbols n) [] []
    ws a b → StopsIn e (OptionalOr (n + 1) end ∷ []) [] b → StopsIn e (array_symbols n end) [] old
array_stopped e n end ws old a b h g stop = stops_behind e (OptionalOr (n + 1) end ∷ []) []
    (passes_then h (passes_more (OptionalOr (n + 1) end ∷ []) g)) stop

-- an array behind its first word
pub array_done : (n : ℕ) (end : Ending) (b : Bounds) (o u : Bool) (k : DataType) (ws : List Word) (old a c d : Reading)
    → n < depth_limit → Passes (Just marks.OpenBracket ∷ []) [] [] (mark marks.OpenBracket ∷ []) old a
    → FitsBounds depth_limit n b → words_of_bounds b ++ keyword keywords.Of ∷ [] ≡ mark marks.OpenBracket ∷ ws
    → Passes (bounds_symbols n) [] [] ws a c → PassesDataType (OptionalOr (n + 1) end ∷ []) [] (said keywords.Optional o
    ++ said keywords.Unique u) (n + 1) end k c d → PassesBehind (keyword keywords.Array) (array_symbols n end) n end
    (array b o u k) old d
array_done n end b o u k ws old a c d shallow h fits e g x =
    let ss = said keywords.Optional o ++ said keywords.Unique u in
    let m = mark (ending_mark end) ∷ [] in
    let whole = (words_of_bounds b ++ keyword keywords.Of ∷ (ss ++ words_of_data_type k)) ++ m in (
      (shallow, fits, x.0),
      whole,
      refl,
      passes_as whole
          (ap (λ (l : List Word). l ++ (ss ++ (words_of_data_type k ++ m))) (sym e)
          ∙ aggregate_words (words_of_bounds b)
          ss (words_of_data_type k) m) (passes_then h (passes_then g x.1)),
    )

-- behind LIST, BAG and SET
pub bounded_stopped : (e : SyntaxFault) (n : ℕ) (y : Symbol) (ws : List Word) (old a : Reading)
    → Passes (BoundsOrOf n ∷ []) [] [] ws old a → StopsIn e (y ∷ []) [] a → StopsIn e (BoundsOrOf n ∷ y ∷ []) [] old
bounded_stopped e n y ws old a h g = stops_behind e (y ∷ []) [] (passes_more (y ∷ []) h) g

-- a list behind its first word
pub list_done : (n : ℕ) (end : Ending) (b : Option Bounds) (u : Bool) (k : DataType) (old a d : Reading)
    → n < depth_limit → Maybe (FitsBounds depth_limit n) b → Passes (BoundsOrOf n ∷ []) [] [] (words_of_some_bounds b
    ++ keyword keywords.Of ∷ []) old a
    → PassesDataType (UniqueOr (n + 1) end ∷ []) [] (said keywords.Unique u) (n + 1) end k a d
    → PassesBehind (keyword keywords.List) (BoundsOrOf n ∷ UniqueOr (n + 1) end ∷ []) n end (list b u k) old d
list_done n end b u k old a d shallow fits h x =
    let m = mark (ending_mark end) ∷ [] in
    let whole = (words_of_some_bounds b ++ keyword keywords.Of ∷ (said keywords.Unique u ++ words_of_data_type k))
    ++ m in (
      (shallow, fits, x.0),
      whole,
      refl,
      passes_as whole (aggregate_words (words_of_some_bounds b)
          (said keywords.Unique u) (words_of_data_type k) m) (passes_then h x.1),
    )

-- what stands behind BAG and SET
pub collection_done : (n : ℕ) (end : Ending) (b : Option Bounds) (k : DataType) (old a d : Reading)
    → Maybe (FitsBounds depth_limit n) b → Passes (BoundsOrOf n ∷ []) [] [] (words_of_some_bounds b
    ++ keyword keywords.Of ∷ []) old a
    → PassesDataType (DataTypeThen (n + 1) end ∷ []) [] [] (n + 1) end k a d → Maybe (FitsBounds depth_limit n) b
    × PassesDataType (BoundsOrOf n ∷ DataTypeThen (n + 1) end ∷ []) [] (words_of_some_bounds b
    ++ keyword keywords.Of ∷ []) (n + 1) end k old d
collection_done n end b k old a d fits h x = (fits, (x.0, passes_then h x.1))

collection_words : (n : ℕ) (end : Ending) (b : Option Bounds) (k : DataType) (old d : Reading)
    → PassesDataType (BoundsOrOf n ∷ DataTypeThen (n + 1) end ∷ []) [] (words_of_some_bounds b ++ keyword keywords.Of
    ∷ []) (n + 1) end k old d
    → Passes (BoundsOrOf n ∷ DataTypeThen (n + 1) end ∷ []) [] []
    ((words_of_some_bounds b ++ keyword keywords.Of ∷ words_of_data_type k) ++ mark (ending_mark end) ∷ []) old d
collection_words n end b k old d h =
    let m = mark (ending_mark end) ∷ [] in
    passes_as ((words_of_some_bounds b ++ keyword keywords.Of ∷ words_of_data_type k) ++ m)
    (aggregate_words (words_of_some_bounds b) [] (words_of_data_type k) m) h.1

-- a bag of which the first word is taken
pub bag_done : (n : ℕ) (end : Ending) (b : Option Bounds) (k : DataType) (s : LocatedToken) (old d : Reading)
    → s.lookahead ≡ token (keyword keywords.Bag) → n < depth_limit → Maybe (FitsBounds depth_limit n) b
    → PassesDataType (BoundsOrOf n ∷ DataTypeThen (n + 1) end ∷ []) [] (words_of_some_bounds b ++ keyword keywords.Of
    ∷ []) (n + 1) end k old d → PassesDataType (DataTypeThen n end ∷ []) (s ∷ []) [] n end (bag b k) old d
bag_done n end b k s old d i shallow fits h =
    let ws = (words_of_some_bounds b ++ keyword keywords.Of ∷ words_of_data_type k) ++ mark (ending_mark end) ∷ [] in
    data_type_behind (keyword keywords.Bag) (BoundsOrOf n ∷ DataTypeThen (n + 1) end ∷ []) n end s (bag b k) old d i
    (next_bag n end shallow) ((shallow, fits, h.0), ws, refl, collection_words n end b k old d h)

-- a set of which the first word is taken
pub set_done : (n : ℕ) (end : Ending) (b : Option Bounds) (k : DataType) (s : LocatedToken) (old d : Reading)
    → s.lookahead ≡ token (keyword keywords.Set) → n < depth_limit → Maybe (FitsBounds depth_limit n) b
    → PassesDataType (BoundsOrOf n ∷ DataTypeThen (n + 1) end ∷ []) [] (words_of_some_bounds b ++ keyword keywords.Of
    ∷ []) (n + 1) end k old d → PassesDataType (DataTypeThen n end ∷ []) (s ∷ []) [] n end (set b k) old d
set_done n end b k s old d i shallow fits h =
    let ws = (words_of_some_bounds b ++ keyword keywords.Of ∷ words_of_data_type k) ++ mark (ending_mark end) ∷ [] in
    data_type_behind (keyword keywords.Set) (BoundsOrOf n ∷ DataTypeThen (n + 1) end ∷ []) n end s (set b k) old d i
    (next_set n end shallow) ((shallow, fits, h.0), ws, refl, collection_words n end b k old d h)
