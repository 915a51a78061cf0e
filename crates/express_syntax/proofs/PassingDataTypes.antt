-- The words of bounds, widths and kinds lead to what is behind them.
use Rattle.std.proofs.Common.{◌≡◌, ℕ, ◌+◌, ◌<◌, Bool, true, false, List, [], ◌∷◌, ◌++◌, Option, None, Some, Ok, refl}
use Rattle.express_lexer.specs.declared.marks.Mark.TheVariants as marks
use Rattle.express_syntax.specs.declared.keyword.Keyword.TheVariants as keywords
use Rattle.express_syntax.specs.declared.expression.Sign.{Sign}
use Rattle.express_syntax.specs.declared.expression.Sign.TheVariants as signs
use Rattle.express_syntax.specs.Words.{Word, keyword, name, mark}
use Rattle.express_syntax.specs.Words as words
use Rattle.express_syntax.specs.Trees.{word_of_sign}
use Rattle.express_syntax.specs.Runs.{words_of_run}
use Rattle.express_syntax.specs.Texts.{Lookahead, token}
use Rattle.express_syntax.specs.Schemas.{Bound, value, unlimited, other_bound, Bounds, Width, width, other_width, DataType, integer, number, boolean, logical, real, string, binary, named, array, list, bag, set}
use Rattle.express_syntax.specs.WrittenSchemas.{said, words_of_bound, words_of_bounds, words_of_some_bounds, words_of_width, words_of_some_width, words_of_fixed, words_of_data_type}
use Rattle.express_syntax.specs.Profile.{Maybe, FitsBound, FitsBounds, FitsWidth, FitsDataType}
use Rattle.express_syntax.specs.steps.Predict.{Symbol, Just, Say, RunEnd, Ending, ending_mark, semicolon, assignment, DataTypeThen, WidthOr, FixedWidthOr, FixedOr, BoundsOrOf, OptionalOr, UniqueOr, Running, bounds_symbols, next}
use Rattle.express_syntax.specs.steps.Predict as predict
use Rattle.express_syntax.proofs.Passing.{Goal, Led, step, regroup, wider, pass_mark, pass_say}
use Rattle.express_syntax.proofs.PassingRuns.{may_of, end_of, shallow, next_outside, pass_some, pass_end}
use Rattle.express_syntax.proofs.PassingTrees.{quiet_sign}

may_integer : (part : RunEnd) (t : List ℕ) → may_of part (words.integer t) ≡ true
may_integer predict.in_rule t = refl
may_integer predict.in_lower t = refl
may_integer predict.in_upper t = refl
may_integer predict.in_parentheses t = refl

may_unknown : (part : RunEnd) → may_of part (mark marks.Unknown) ≡ true
may_unknown predict.in_rule = refl
may_unknown predict.in_lower = refl
may_unknown predict.in_upper = refl
may_unknown predict.in_parentheses = refl

may_sign : (part : RunEnd) (s : Sign) → may_of part (word_of_sign s) ≡ true
may_sign predict.in_rule signs.Plus = refl
may_sign predict.in_rule signs.Minus = refl
may_sign predict.in_lower signs.Plus = refl
may_sign predict.in_lower signs.Minus = refl
may_sign predict.in_upper signs.Plus = refl
may_sign predict.in_upper signs.Minus = refl
may_sign predict.in_parentheses signs.Plus = refl
may_sign predict.in_parentheses signs.Minus = refl

-- an integer, and what ends the run
last_integer : (g : Goal) (part : RunEnd) (n : ℕ) (some : Bool) (t : List ℕ) (ys : List Symbol) (ws : List Word)
    → Led g ys ws → Led g (Running part n [] some ∷ ys) (words.integer t ∷ mark (end_of part) ∷ ws)
last_integer g part n some t ys ws h =
    step g (Running part n [] some) (Running part n [] true ∷ []) ys (words.integer t) (mark (end_of part) ∷ ws)
    (next_outside g.levels part n some (words.integer t) refl (may_integer part t)) (pass_end g part n ys ws h)

-- a bound, and what ends it
pub pass_bound : (g : Goal) (b : Bound) (part : RunEnd) (n : ℕ) (ys : List Symbol) (ws : List Word)
    → FitsBound g.levels (may_of part) n b → Led g ys ws → Led g (Running part n [] false ∷ ys) (words_of_bound b
    ++ mark (end_of part) ∷ ws)
pass_bound g (value None t) part n ys ws f h = last_integer g part n false t ys ws h
pass_bound g (value (Some s) t) part n ys ws f h =
    step g (Running part n [] false) (Running part n [] true ∷ []) ys (word_of_sign s) (words.integer t
    ∷ mark (end_of part) ∷ ws) (next_outside g.levels part n false (word_of_sign s) (quiet_sign s).0
    (may_sign part s)) (last_integer g part n true t ys ws h)
pass_bound g unlimited part n ys ws f h =
    step g (Running part n [] false) (Running part n [] true ∷ []) ys (mark marks.Unknown) (mark (end_of part) ∷ ws)
    (next_outside g.levels part n false (mark marks.Unknown) refl (may_unknown part)) (pass_end g part n ys ws h)
pass_bound g (other_bound r) part n ys ws f h = pass_some g r part n ys (mark (end_of part) ∷ ws) f.0 f.1
    (pass_end g part n ys ws h)

-- bounds behind their opening bracket
pub pass_bounds : (g : Goal) (b : Bounds) (n : ℕ) (ys : List Symbol) (ws : List Word) → FitsBounds g.levels n b
    → Led g ys ws
    → Led g (Running predict.in_lower (n + 1) [] false ∷ Running predict.in_upper (n + 1) [] false ∷ ys)
    ((words_of_bound b.lower ++ mark marks.Colon ∷ (words_of_bound b.upper ++ mark marks.CloseBracket ∷ [])) ++ ws)
pass_bounds g b n ys ws f h =
    let upper = Running predict.in_upper (n + 1) [] false ∷ ys in
    let last = words_of_bound b.upper ++ mark marks.CloseBracket ∷ [] in
    regroup g (Running predict.in_lower (n + 1) [] false ∷ upper) (words_of_bound b.lower) (mark marks.Colon ∷ last) ws
    (pass_bound g b.lower predict.in_lower (n + 1) upper (last ++ ws) f.1
    (regroup g upper (words_of_bound b.upper) (mark marks.CloseBracket ∷ []) ws
    (pass_bound g b.upper predict.in_upper (n + 1) ys ws f.2 h)))

next_bounds : (levels n : ℕ) → n < levels → next levels (BoundsOrOf n) (token (mark marks.OpenBracket)) ≡ Ok
    (bounds_symbols n)
next_bounds levels n f = rw (shallow n levels f) refl

-- bounds or none, and OF
pub pass_bounds_of : (g : Goal) (b : Option Bounds) (n : ℕ) (ys : List Symbol) (ws : List Word)
    → Maybe (FitsBounds g.levels n) b → Led g ys ws → Led g (BoundsOrOf n ∷ ys) (words_of_some_bounds b
    ++ keyword keywords.Of ∷ ws)
pass_bounds_of g None n ys ws f h = step g (BoundsOrOf n) [] ys (keyword keywords.Of) ws refl h
pass_bounds_of g (Some b) n ys ws f h =
    let inner = words_of_bound b.lower ++ mark marks.Colon ∷ (words_of_bound b.upper ++ mark marks.CloseBracket ∷ []) in
    let more = keyword keywords.Of ∷ ws in
    step g (BoundsOrOf n) (bounds_symbols n) ys (mark marks.OpenBracket) (inner ++ more) (next_bounds g.levels n f.0)
    (pass_bounds g b n (Say keywords.Of ∷ ys) more f (pass_say g keywords.Of ys ws h))

width_within : (levels n : ℕ) (w : Width) → FitsWidth levels n w → n < levels
width_within levels n (width t) f = f
width_within levels n (other_width r) f = f.0

-- a width, where its bracket leaves these to come
pass_width : (g : Goal) (w : Width) (n : ℕ) (z : Symbol) (us ys : List Symbol) (ws : List Word) → FitsWidth g.levels n w
    → next g.levels z (token (mark marks.Open)) ≡ Ok (Running predict.in_parentheses (n + 1) [] false ∷ us)
    → Led g (us ++ ys) ws → Led g (z ∷ ys) (words_of_width w ++ ws)
pass_width g (width t) n z us ys ws f e h =
    step g z (Running predict.in_parentheses (n + 1) [] false ∷ us) ys (mark marks.Open) (words.integer t
    ∷ mark marks.Close ∷ ws) e (last_integer g predict.in_parentheses (n + 1) false t (us ++ ys) ws h)
pass_width g (other_width r) n z us ys ws f e h =
    let start = Running predict.in_parentheses (n + 1) [] false in
    step g z (start ∷ us) ys (mark marks.Open) ((words_of_run r ++ mark marks.Close ∷ []) ++ ws) e
    (regroup g (start ∷ us ++ ys) (words_of_run r) (mark marks.Close ∷ []) ws
    (pass_some g r predict.in_parentheses (n + 1) (us ++ ys) (mark marks.Close ∷ ws) f.1 f.2
    (pass_end g predict.in_parentheses (n + 1) (us ++ ys) ws h)))

next_width : (levels n : ℕ) (end : Ending) → n < levels → next levels (WidthOr n end) (token (mark marks.Open)) ≡ Ok
    (Running predict.in_parentheses (n + 1) [] false ∷ Just (ending_mark end) ∷ [])
next_width levels n end f = rw (shallow n levels f) refl

next_fixed_width : (levels n : ℕ) (end : Ending) → n < levels → next levels (FixedWidthOr n end)
    (token (mark marks.Open)) ≡ Ok (Running predict.in_parentheses (n + 1) [] false ∷ FixedOr end ∷ [])
next_fixed_width levels n end f = rw (shallow n levels f) refl

next_width_end : (levels n : ℕ) (end : Ending) → next levels (WidthOr n end) (token (mark (ending_mark end))) ≡ Ok []
next_width_end levels n semicolon = refl
next_width_end levels n assignment = refl

next_fixed_width_end : (levels n : ℕ) (end : Ending) → next levels (FixedWidthOr n end) (token (mark (ending_mark end)))
    ≡ Ok []
next_fixed_width_end levels n semicolon = refl
next_fixed_width_end levels n assignment = refl

next_fixed_end : (levels : ℕ) (end : Ending) → next levels (FixedOr end) (token (mark (ending_mark end))) ≡ Ok []
next_fixed_end levels semicolon = refl
next_fixed_end levels assignment = refl

-- behind REAL
pass_some_width : (g : Goal) (w : Option Width) (n : ℕ) (end : Ending) (ys : List Symbol) (ws : List Word)
    → Maybe (FitsWidth g.levels n) w → Led g ys ws → Led g (WidthOr n end ∷ ys) (words_of_some_width w
    ++ mark (ending_mark end) ∷ ws)
pass_some_width g None n end ys ws f h = step g (WidthOr n end) [] ys (mark (ending_mark end)) ws
    (next_width_end g.levels n end) h
pass_some_width g (Some w) n end ys ws f h =
    pass_width g w n (WidthOr n end) (Just (ending_mark end) ∷ []) ys (mark (ending_mark end) ∷ ws) f
    (next_width g.levels n end (width_within g.levels n w f)) (pass_mark g (ending_mark end) ys ws h)

-- FIXED or not
pass_fixed_or : (g : Goal) (fixed : Bool) (end : Ending) (ys : List Symbol) (ws : List Word) → Led g ys ws
    → Led g (FixedOr end ∷ ys) (said keywords.Fixed fixed ++ mark (ending_mark end) ∷ ws)
pass_fixed_or g true end ys ws h = step g (FixedOr end) (Just (ending_mark end) ∷ []) ys (keyword keywords.Fixed)
    (mark (ending_mark end) ∷ ws) refl (pass_mark g (ending_mark end) ys ws h)
pass_fixed_or g false end ys ws h = step g (FixedOr end) [] ys (mark (ending_mark end)) ws (next_fixed_end g.levels end)
    h

-- behind STRING and BINARY
pass_fixed : (g : Goal) (w : Option (Width × Bool)) (n : ℕ) (end : Ending) (ys : List Symbol) (ws : List Word)
    → Maybe (λ p. FitsWidth g.levels n p.0) w → Led g ys ws → Led g (FixedWidthOr n end ∷ ys) (words_of_fixed w
    ++ mark (ending_mark end) ∷ ws)
pass_fixed g None n end ys ws f h = step g (FixedWidthOr n end) [] ys (mark (ending_mark end)) ws
    (next_fixed_width_end g.levels n end) h
pass_fixed g (Some p) n end ys ws f h =
    let more = mark (ending_mark end) ∷ ws in
    regroup g (FixedWidthOr n end ∷ ys) (words_of_width p.0) (said keywords.Fixed p.1) more
    (pass_width g p.0 n (FixedWidthOr n end) (FixedOr end ∷ []) ys (said keywords.Fixed p.1 ++ more) f
    (next_fixed_width g.levels n end (width_within g.levels n p.0 f)) (pass_fixed_or g p.1 end ys ws h))

-- UNIQUE or not
unique_wider : (levels n : ℕ) (end : Ending) (w : Lookahead) (us : List Symbol) → next levels (DataTypeThen n end)
    w ≡ Ok us → next levels (UniqueOr n end) w ≡ Ok us
unique_wider levels n end (token (keyword keywords.Unique)) us e = absurd cc
unique_wider levels n end w us e = e

pass_unique : (g : Goal) (u : Bool) (n : ℕ) (end : Ending) (ys : List Symbol) (ws : List Word)
    → Led g (DataTypeThen n end ∷ ys) ws → Led g (UniqueOr n end ∷ ys) (said keywords.Unique u ++ ws)
pass_unique g true n end ys ws h = step g (UniqueOr n end) (DataTypeThen n end ∷ []) ys (keyword keywords.Unique) ws
    refl h
pass_unique g false n end ys ws h = wider g (DataTypeThen n end) (UniqueOr n end) ys ws (unique_wider g.levels n end) h

-- OPTIONAL or not
optional_wider : (levels n : ℕ) (end : Ending) (w : Lookahead) (us : List Symbol) → next levels (UniqueOr n end) w ≡ Ok
    us → next levels (OptionalOr n end) w ≡ Ok us
optional_wider levels n end (token (keyword keywords.Optional)) us e = absurd cc
optional_wider levels n end w us e = e

pass_optional : (g : Goal) (o : Bool) (n : ℕ) (end : Ending) (ys : List Symbol) (ws : List Word)
    → Led g (UniqueOr n end ∷ ys) ws → Led g (OptionalOr n end ∷ ys) (said keywords.Optional o ++ ws)
pass_optional g true n end ys ws h = step g (OptionalOr n end) (UniqueOr n end ∷ []) ys (keyword keywords.Optional) ws
    refl h
pass_optional g false n end ys ws h = wider g (UniqueOr n end) (OptionalOr n end) ys ws (optional_wider g.levels n end)
    h

next_array : (levels n : ℕ) (end : Ending) → n < levels → next levels (DataTypeThen n end)
    (token (keyword keywords.Array)) ≡ Ok (Just marks.OpenBracket ∷ (bounds_symbols n ++ OptionalOr (n + 1) end ∷ []))
next_array levels n end f = rw (shallow n levels f) refl

next_list : (levels n : ℕ) (end : Ending) → n < levels → next levels (DataTypeThen n end)
    (token (keyword keywords.List)) ≡ Ok (BoundsOrOf n ∷ UniqueOr (n + 1) end ∷ [])
next_list levels n end f = rw (shallow n levels f) refl

next_bag : (levels n : ℕ) (end : Ending) → n < levels → next levels (DataTypeThen n end) (token (keyword keywords.Bag))
    ≡ Ok (BoundsOrOf n ∷ DataTypeThen (n + 1) end ∷ [])
next_bag levels n end f = rw (shallow n levels f) refl

next_set : (levels n : ℕ) (end : Ending) → n < levels → next levels (DataTypeThen n end) (token (keyword keywords.Set))
    ≡ Ok (BoundsOrOf n ∷ DataTypeThen (n + 1) end ∷ [])
next_set levels n end f = rw (shallow n levels f) refl

-- a kind, and the mark behind it
pub pass_data_type : (g : Goal) (k : DataType) (n : ℕ) (end : Ending) (ys : List Symbol) (ws : List Word)
    → FitsDataType g.levels n k → Led g ys ws → Led g (DataTypeThen n end ∷ ys) (words_of_data_type k
    ++ mark (ending_mark end) ∷ ws)
pass_data_type g integer n end ys ws f h = step g (DataTypeThen n end) (Just (ending_mark end) ∷ []) ys
    (keyword keywords.Integer) (mark (ending_mark end) ∷ ws) refl (pass_mark g (ending_mark end) ys ws h)
pass_data_type g number n end ys ws f h = step g (DataTypeThen n end) (Just (ending_mark end) ∷ []) ys
    (keyword keywords.Number) (mark (ending_mark end) ∷ ws) refl (pass_mark g (ending_mark end) ys ws h)
pass_data_type g boolean n end ys ws f h = step g (DataTypeThen n end) (Just (ending_mark end) ∷ []) ys
    (keyword keywords.Boolean) (mark (ending_mark end) ∷ ws) refl (pass_mark g (ending_mark end) ys ws h)
pass_data_type g logical n end ys ws f h = step g (DataTypeThen n end) (Just (ending_mark end) ∷ []) ys
    (keyword keywords.Logical) (mark (ending_mark end) ∷ ws) refl (pass_mark g (ending_mark end) ys ws h)
pass_data_type g (real w) n end ys ws f h = step g (DataTypeThen n end) (WidthOr n end ∷ []) ys (keyword keywords.Real)
    (words_of_some_width w ++ mark (ending_mark end) ∷ ws) refl (pass_some_width g w n end ys ws f h)
pass_data_type g (string w) n end ys ws f h = step g (DataTypeThen n end) (FixedWidthOr n end ∷ []) ys
    (keyword keywords.String) (words_of_fixed w ++ mark (ending_mark end) ∷ ws) refl (pass_fixed g w n end ys ws f h)
pass_data_type g (binary w) n end ys ws f h = step g (DataTypeThen n end) (FixedWidthOr n end ∷ []) ys
    (keyword keywords.Binary) (words_of_fixed w ++ mark (ending_mark end) ∷ ws) refl (pass_fixed g w n end ys ws f h)
pass_data_type g (named m) n end ys ws f h = step g (DataTypeThen n end) (Just (ending_mark end) ∷ []) ys (name m)
    (mark (ending_mark end) ∷ ws) refl (pass_mark g (ending_mark end) ys ws h)
pass_data_type g (array b o u k) n end ys ws f h =
    let last = mark (ending_mark end) ∷ ws in
    let optional = said keywords.Optional o in
    let unique = said keywords.Unique u in
    let behind = optional ++ unique ++ words_of_data_type k in
    let all = OptionalOr (n + 1) end ∷ ys in
    let inner = words_of_bound b.lower ++ mark marks.Colon ∷ (words_of_bound b.upper ++ mark marks.CloseBracket ∷ []) in
    let more = keyword keywords.Of ∷ behind ++ last in
    let stack = Just marks.OpenBracket ∷ (bounds_symbols n ++ OptionalOr (n + 1) end ∷ []) in
    step g (DataTypeThen n end) stack ys (keyword keywords.Array) ((words_of_bounds b ++ keyword keywords.Of ∷ behind)
    ++ last) (next_array g.levels n end f.0)
    (regroup g (stack ++ ys) (words_of_bounds b) (keyword keywords.Of ∷ behind) last
    (pass_mark g marks.OpenBracket (bounds_symbols n ++ all) (inner ++ more)
    (pass_bounds g b n (Say keywords.Of ∷ all) more f.1
    (pass_say g keywords.Of all (behind ++ last)
    (regroup g all (optional ++ unique) (words_of_data_type k) last
    (regroup g all optional unique (words_of_data_type k ++ last)
    (pass_optional g o (n + 1) end ys (unique ++ (words_of_data_type k ++ last))
    (pass_unique g u (n + 1) end ys (words_of_data_type k ++ last)
    (pass_data_type g k (n + 1) end ys ws f.2 h)))))))))
pass_data_type g (list b u k) n end ys ws f h =
    let last = mark (ending_mark end) ∷ ws in
    let unique = said keywords.Unique u in
    let behind = unique ++ words_of_data_type k in
    let all = UniqueOr (n + 1) end ∷ ys in
    step g (DataTypeThen n end) (BoundsOrOf n ∷ UniqueOr (n + 1) end ∷ []) ys (keyword keywords.List)
    ((words_of_some_bounds b ++ keyword keywords.Of ∷ behind) ++ last) (next_list g.levels n end f.0)
    (regroup g (BoundsOrOf n ∷ all) (words_of_some_bounds b) (keyword keywords.Of ∷ behind) last
    (pass_bounds_of g b n all (behind ++ last) f.1
    (regroup g all unique (words_of_data_type k) last
    (pass_unique g u (n + 1) end ys (words_of_data_type k ++ last)
    (pass_data_type g k (n + 1) end ys ws f.2 h)))))
pass_data_type g (bag b k) n end ys ws f h =
    let last = mark (ending_mark end) ∷ ws in
    let all = DataTypeThen (n + 1) end ∷ ys in
    step g (DataTypeThen n end) (BoundsOrOf n ∷ DataTypeThen (n + 1) end ∷ []) ys (keyword keywords.Bag)
    ((words_of_some_bounds b ++ keyword keywords.Of ∷ words_of_data_type k) ++ last) (next_bag g.levels n end f.0)
    (regroup g (BoundsOrOf n ∷ all) (words_of_some_bounds b) (keyword keywords.Of ∷ words_of_data_type k) last
    (pass_bounds_of g b n all (words_of_data_type k ++ last) f.1 (pass_data_type g k (n + 1) end ys ws f.2 h)))
pass_data_type g (set b k) n end ys ws f h =
    let last = mark (ending_mark end) ∷ ws in
    let all = DataTypeThen (n + 1) end ∷ ys in
    step g (DataTypeThen n end) (BoundsOrOf n ∷ DataTypeThen (n + 1) end ∷ []) ys (keyword keywords.Set)
    ((words_of_some_bounds b ++ keyword keywords.Of ∷ words_of_data_type k) ++ last) (next_set g.levels n end f.0)
    (regroup g (BoundsOrOf n ∷ all) (words_of_some_bounds b) (keyword keywords.Of ∷ words_of_data_type k) last
    (pass_bounds_of g b n all (words_of_data_type k ++ last) f.1 (pass_data_type g k (n + 1) end ys ws f.2 h)))
