-- Kinds, bounds and names: what the table lets pass of them fits.
use Rattle.std.proofs.Common.{◌≡◌, ℕ, ◌+◌, ◌<◌, nat_lt, Bool, true, false, if◌then◌else◌, List, [], ◌∷◌, ◌++◌, Option, None, Some, Ok, Err, refl, sym, ap, ◌∙◌, subst, append_assoc}
use Rattle.express_lexer.specs.declared.marks.Mark.{Mark}
use Rattle.express_lexer.specs.declared.marks.Mark.TheVariants as marks
use Rattle.express_syntax.specs.declared.keyword.Keyword.{Keyword}
use Rattle.express_syntax.specs.declared.keyword.Keyword.TheVariants as keywords
use Rattle.express_syntax.specs.Words.{Word, keyword, name, mark}
use Rattle.express_syntax.specs.declared.fault.FaultKind.TheVariants as fault_kinds
use Rattle.express_syntax.specs.Runs as runs
use Rattle.express_syntax.specs.Runs.{words_of_run, in_brackets}
use Rattle.express_syntax.specs.Schemas.{Bounds, Width, DataType, integer, number, boolean, logical, real, string, binary, named, array, list, bag, set, enumeration, select, data_type}
use Rattle.express_syntax.specs.WrittenSchemas.{said, words_of_names, words_of_bound, words_of_bounds, words_of_some_bounds, words_of_width, words_of_data_type}
use Rattle.express_syntax.specs.Profile.{Maybe, IsFilled, FitsBounds, FitsWidth, FitsDataType}
use Rattle.express_syntax.specs.Texts.{token}
use Rattle.express_syntax.specs.steps.Predict.{in_lower, in_upper, in_parentheses, Ending, ending_mark, semicolon, Symbol, Just, Say, Id, Names, Underlying, DataTypeThen, WidthOr, FixedWidthOr, FixedOr, BoundsOrOf, OptionalOr, UniqueOr, OptionalDataType, Running, Next, refused, is_mark, is_keyword, names_symbols, bounds_symbols, next_data_type, next_unique, if_shallow}
use Rattle.express_syntax.proofs.Decide.{mark_is, keyword_is}
use Rattle.express_syntax.proofs.SoundTakes.{Takes, AllTake, Held, Answer, Production, takes_one, behind_mark, behind_word, behind_name}
use Rattle.express_syntax.proofs.SoundRuns.{is_below, bound_of, width_of}

-- a mark
is_mark_is : (m : Mark) (w : Word) → is_mark m (token w) ≡ true → w ≡ mark m
is_mark_is m (mark k) e = sym (ap mark (mark_is m k e))
is_mark_is m _ e = absurd cc

pub mark_ends : (levels : ℕ) (y : Symbol) (m : Mark) (w : Word) → Takes levels y (mark m ∷ [])
    → Answer levels y w (if is_mark m (token w) then Ok [] else Err (refused (token w)))
mark_ends levels y m w f = by (is_mark m (token w)) refl
  where
    by : (t : Bool) → is_mark m (token w) ≡ t → Answer levels y w (if t then Ok [] else Err (refused (token w)))
    by true e = (
      tt,
      λ ws h. let P : List Word → Type 0 = λ l. Takes levels y l in
          subst P (λ i. sym (is_mark_is m w e) i ∷ sym h i) f,
    )
    by false e = tt

is_keyword_is : (k : Keyword) (w : Word) → is_keyword k (token w) ≡ true → w ≡ keyword k
is_keyword_is k (keyword j) e = sym (ap keyword (keyword_is k j e))
is_keyword_is k _ e = absurd cc

pub say_production : (levels : ℕ) (k : Keyword) (w : Word) → Production levels (Say k) w
say_production levels k w = by (is_keyword k (token w)) refl
  where
    by : (t : Bool) → is_keyword k (token w) ≡ t → Answer levels (Say k) w
        (if t then Ok [] else Err (refused (token w)))
    by true e = (tt, λ ws h. (λ i. is_keyword_is k w e i ∷ h i))
    by false e = tt

pub just_production : (levels : ℕ) (m : Mark) (w : Word) → Production levels (Just m) w
just_production levels m w = mark_ends levels (Just m) m w refl

-- names
pub id_production : (levels : ℕ) (w : Word) → Production levels Id w
id_production levels (name n) = (tt, λ ws h. (n, ap (λ l. name n ∷ l) h))
id_production levels _ = tt

pub names_production : (levels : ℕ) (w : Word) → Production levels Names w
names_production levels (mark marks.Comma) = (
  (tt, (tt, tt)),
  λ ws h.
      let a = behind_name levels (Names ∷ []) ws h in
      let b = takes_one levels Names a.1 a.2 in
      (a.0 ∷ b.0, ap (λ l. mark marks.Comma ∷ l) (a.3 ∙ ap (λ l. name a.0 ∷ l) b.1)),
)
names_production levels (mark marks.Close) = (tt, λ ws h. ([], ap (λ l. mark marks.Close ∷ l) h))
names_production levels _ = tt

pub names_taken : (levels : ℕ) (ys : List Symbol) (ws : List Word) → AllTake levels (Just marks.Open ∷ Id ∷ Names ∷ ys)
    ws → (ns : List (List ℕ)) × (v : List Word) × IsFilled ns × AllTake levels ys v × (ws ≡ words_of_names ns ++ v)
names_taken levels ys ws h =
    let a = behind_mark levels marks.Open (Id ∷ Names ∷ ys) ws h in
    let b = behind_name levels (Names ∷ ys) a.0 a.1 in
    let c : AllTake levels (Names ∷ ys) b.1 = b.2 in (
      b.0 ∷ c.2.0,
      c.1,
      tt,
      c.3,
      a.2 ∙ ap (λ l. mark marks.Open ∷ l)
          (b.3 ∙ ap (λ l. name b.0 ∷ l) (c.4 ∙ ap (λ l. l ++ c.1) c.2.1)),
    )

-- bounds behind their opening bracket, and OF
spread_bounds : (a b c : List Word) (x y : Word) → (a ++ x ∷ []) ++ ((b ++ y ∷ []) ++ c) ≡ (a ++ x ∷ (b ++ y ∷ [])) ++ c
spread_bounds a b c x y = simp append_assoc

pub bounds_taken : (levels n : ℕ) (ys : List Symbol) (ws : List Word) → n < levels
    → AllTake levels (Running in_lower (n + 1) [] false ∷ Running in_upper (n + 1) [] false ∷ Say keywords.Of ∷ ys) ws
    → (b : Bounds) × (v : List Word) × FitsBounds levels n b × AllTake levels ys v
    × (mark marks.OpenBracket ∷ ws ≡ words_of_bounds b ++ keyword keywords.Of ∷ v)
bounds_taken levels n ys ws d h =
    let k : AllTake levels (Running in_upper (n + 1) [] false ∷ Say keywords.Of ∷ ys) h.1 = h.3 in
    let low : Takes levels (Running in_lower (n + 1) [] false) h.0 = h.2 in
    let high : Takes levels (Running in_upper (n + 1) [] false) k.0 = k.2 in
    let a = bound_of levels runs.in_lower (n + 1) low.0 low.1 (low.2 refl) in
    let b = bound_of levels in_brackets (n + 1) high.0 high.1 (high.2 refl) in
    let o = behind_word levels keywords.Of ys k.1 k.3 in
    let e : h.0 ≡ words_of_bound a.0 ++ mark marks.Colon ∷ [] = low.3 ∙ ap (λ l. l ++ mark marks.Colon ∷ []) (sym a.2)
    in
    let f : k.0 ≡ words_of_bound b.0 ++ mark marks.CloseBracket ∷ [] = high.3
    ∙ ap (λ l. l ++ mark marks.CloseBracket ∷ []) (sym b.2) in
    let g : h.1 ≡ (words_of_bound b.0 ++ mark marks.CloseBracket ∷ []) ++ keyword keywords.Of ∷ o.0 = k.4
    ∙ (λ i. f i ++ o.2 i) in (
      record { lower = a.0; upper = b.0 },
      o.0,
      (d, a.1, b.1),
      o.1,
      ap (λ l. mark marks.OpenBracket ∷ l) (h.4 ∙ (λ i. e i ++ g i) ∙ spread_bounds (words_of_bound a.0)
          (words_of_bound b.0) (keyword keywords.Of ∷ o.0) (mark marks.Colon) (mark marks.CloseBracket)),
    )

shallow : (levels n : ℕ) (y : Symbol) (w : Word) (zs : List Symbol) → (n < levels → Held levels y w zs)
    → Answer levels y w (if_shallow levels n zs)
shallow levels n y w zs f = by (nat_lt n levels) refl
  where
    by : (t : Bool) → nat_lt n levels ≡ t → Answer levels y w (if t then Ok zs else Err fault_kinds.TooDeep)
    by true e = f (is_below n levels e)
    by false e = tt

bounded : (levels n : ℕ) (d : n < levels) → Held levels (BoundsOrOf n) (mark marks.OpenBracket) (bounds_symbols n)
bounded levels n d = (
  (tt, (tt, (tt, tt))),
  λ ws h.
      let b = bounds_taken levels n [] ws d h in
      (Some b.0, b.2, b.4 ∙ ap (λ l. words_of_bounds b.0 ++ keyword keywords.Of ∷ l) b.3),
)

pub bounds_production : (levels n : ℕ) (w : Word) → Production levels (BoundsOrOf n) w
bounds_production levels n (mark marks.OpenBracket) = shallow levels n (BoundsOrOf n) (mark marks.OpenBracket)
    (bounds_symbols n) (λ d. bounded levels n d)
bounds_production levels n (keyword keywords.Of) = (tt, λ ws h. (None, tt, ap (λ l. keyword keywords.Of ∷ l) h))
bounds_production levels n _ = tt

-- optional bounds and OF, and what follows them
pub behind_bounds : (levels n : ℕ) (y : Symbol) (ws : List Word) → AllTake levels (BoundsOrOf n ∷ y ∷ []) ws
    → (b : Option Bounds) × (v : List Word) × Maybe (FitsBounds levels n) b × Takes levels y v
    × (ws ≡ words_of_some_bounds b ++ keyword keywords.Of ∷ v)
behind_bounds levels n y ws h =
    let b : Takes levels (BoundsOrOf n) h.0 = h.2 in (
      b.0,
      h.1,
      b.1,
      takes_one levels y h.1 h.3,
      h.4 ∙ ap (λ l. l ++ h.1) b.2 ∙ append_assoc (words_of_some_bounds b.0)
          (keyword keywords.Of ∷ []) h.1,
    )

-- a width in its parentheses
width_taken : (levels n : ℕ) (y : Symbol) (ws : List Word) → n < levels
    → AllTake levels (Running in_parentheses (n + 1) [] false ∷ y ∷ []) ws → (w : Width) × (v : List Word)
    × FitsWidth levels n w × Takes levels y v × (mark marks.Open ∷ ws ≡ words_of_width w ++ v)
width_taken levels n y ws d h =
    let r : Takes levels (Running in_parentheses (n + 1) [] false) h.0 = h.2 in
    let w = width_of levels n r.0 d r.1 (r.2 refl) in
    let e : mark marks.Open ∷ h.0 ≡ words_of_width w.0 = ap (λ l. mark marks.Open ∷ l) r.3 ∙ sym w.2 in
    (w.0, h.1, w.1, takes_one levels y h.1 h.3, ap (λ l. mark marks.Open ∷ l) h.4 ∙ ap (λ l. l ++ h.1) e)

pub width_production : (levels n : ℕ) (end : Ending) (w : Word) → Production levels (WidthOr n end) w
width_production levels n end (mark marks.Open) = shallow levels n (WidthOr n end) (mark marks.Open)
    (Running in_parentheses (n + 1) [] false ∷ Just (ending_mark end) ∷ []) (λ d. (
      (tt, (tt, tt)),
      λ ws h.
          let w = width_taken levels n (Just (ending_mark end)) ws d h in
          (Some w.0, w.2, w.4 ∙ ap (λ l. words_of_width w.0 ++ l) w.3),
    ))
width_production levels n end w = mark_ends levels (WidthOr n end) (ending_mark end) w (None, tt, refl)

pub fixed_width_production : (levels n : ℕ) (end : Ending) (w : Word) → Production levels (FixedWidthOr n end) w
fixed_width_production levels n end (mark marks.Open) = shallow levels n (FixedWidthOr n end) (mark marks.Open)
    (Running in_parentheses (n + 1) [] false ∷ FixedOr end ∷ []) (λ d. (
      (tt, (tt, tt)),
      λ ws h.
          let w = width_taken levels n (FixedOr end) ws d h in
          let f : Takes levels (FixedOr end) w.1 = w.3 in (
            Some (w.0, f.0),
            w.2,
            w.4 ∙ ap (λ l. words_of_width w.0 ++ l) f.1
                ∙ sym (append_assoc (words_of_width w.0) (said keywords.Fixed f.0) (mark (ending_mark end) ∷ [])),
          ),
    ))
fixed_width_production levels n end w = mark_ends levels (FixedWidthOr n end) (ending_mark end) w (None, tt, refl)

pub fixed_production : (levels : ℕ) (end : Ending) (w : Word) → Production levels (FixedOr end) w
fixed_production levels end (keyword keywords.Fixed) =
    ((tt, tt), λ ws h. (true, ap (λ l. keyword keywords.Fixed ∷ l) (takes_one levels (Just (ending_mark end)) ws h)))
fixed_production levels end w = mark_ends levels (FixedOr end) (ending_mark end) w (false, refl)

-- kinds
simple_data_type : (levels n : ℕ) (end : Ending) (w : Word) (k : DataType) → FitsDataType levels n k
    → words_of_data_type k ≡ w ∷ [] → Held levels (DataTypeThen n end) w (Just (ending_mark end) ∷ [])
simple_data_type levels n end w k f e = (
  (tt, tt),
  λ ws h. (
    k,
    f,
    ap (λ l. w ∷ l) (takes_one levels (Just (ending_mark end)) ws h)
        ∙ ap (λ l. l ++ mark (ending_mark end) ∷ []) (sym e),
  ),
)

array_held : (levels n : ℕ) (end : Ending) → n < levels → Held levels (DataTypeThen n end) (keyword keywords.Array)
    (Just marks.OpenBracket ∷ (bounds_symbols n ++ OptionalOr (n + 1) end ∷ []))
array_held levels n end d = (
  (tt, (tt, (tt, (tt, (tt, tt))))),
  λ ws h.
      let a = behind_mark levels marks.OpenBracket (bounds_symbols n ++ OptionalOr (n + 1) end ∷ []) ws h in
      let b = bounds_taken levels n (OptionalOr (n + 1) end ∷ []) a.0 d a.1 in
      let t : Takes levels (OptionalOr (n + 1) end) b.1 = takes_one levels (OptionalOr (n + 1) end) b.1 b.3 in
      let inner : List Word = said keywords.Optional t.0 ++ said keywords.Unique t.1 ++ words_of_data_type t.2 in (
        array b.0 t.0 t.1 t.2,
        (d, b.2, t.3),
        ap (λ l. keyword keywords.Array ∷ l) (a.2 ∙ b.4 ∙ ap (λ l. words_of_bounds b.0 ++ keyword keywords.Of ∷ l) t.4
            ∙ sym (append_assoc (words_of_bounds b.0) (keyword keywords.Of ∷ inner) (mark (ending_mark end) ∷ []))),
      ),
)

list_held : (levels n : ℕ) (end : Ending) → n < levels → Held levels (DataTypeThen n end) (keyword keywords.List)
    (BoundsOrOf n ∷ UniqueOr (n + 1) end ∷ [])
list_held levels n end d = (
  (tt, (tt, tt)),
  λ ws h.
      let b = behind_bounds levels n (UniqueOr (n + 1) end) ws h in
      let t : Takes levels (UniqueOr (n + 1) end) b.1 = b.3 in
      let inner : List Word = said keywords.Unique t.0 ++ words_of_data_type t.1 in (
        list b.0 t.0 t.1,
        (d, b.2, t.2),
        ap (λ l. keyword keywords.List ∷ l) (b.4 ∙ ap (λ l. words_of_some_bounds b.0 ++ keyword keywords.Of ∷ l) t.3
            ∙ sym (append_assoc (words_of_some_bounds b.0) (keyword keywords.Of ∷ inner) (mark (ending_mark end)
            ∷ []))),
      ),
)

collection_held : (levels n : ℕ) (end : Ending) (w : Word) (make : Option Bounds → DataType → DataType)
    → ((b : Option Bounds) (k : DataType) → n < levels → Maybe (FitsBounds levels n) b → FitsDataType levels (n + 1) k
    → FitsDataType levels n (make b k))
    → ((b : Option Bounds) (k : DataType) → words_of_data_type (make b k) ≡ w
    ∷ (words_of_some_bounds b ++ keyword keywords.Of ∷ words_of_data_type k))
    → n < levels → Held levels (DataTypeThen n end) w (BoundsOrOf n ∷ DataTypeThen (n + 1) end ∷ [])
collection_held levels n end w make fits spelled d = (
  (tt, (tt, tt)),
  λ ws h.
      let b = behind_bounds levels n (DataTypeThen (n + 1) end) ws h in
      let t : Takes levels (DataTypeThen (n + 1) end) b.1 = b.3 in (
        make b.0 t.0,
        fits b.0 t.0 d b.2 t.1,
        ap (λ l. w ∷ l) (b.4 ∙ ap (λ l. words_of_some_bounds b.0 ++ keyword keywords.Of ∷ l) t.2
            ∙ sym (append_assoc (words_of_some_bounds b.0) (keyword keywords.Of ∷ words_of_data_type t.0)
            (mark (ending_mark end) ∷ [])))
            ∙ ap (λ l. l ++ mark (ending_mark end) ∷ []) (sym (spelled b.0 t.0)),
      ),
)

pub data_type_production : (levels n : ℕ) (end : Ending) (w : Word) → Production levels (DataTypeThen n end) w
data_type_production levels n end (keyword keywords.Integer) = simple_data_type levels n end (keyword keywords.Integer)
    integer tt refl
data_type_production levels n end (keyword keywords.Number) = simple_data_type levels n end (keyword keywords.Number)
    number tt refl
data_type_production levels n end (keyword keywords.Boolean) = simple_data_type levels n end (keyword keywords.Boolean)
    boolean tt refl
data_type_production levels n end (keyword keywords.Logical) = simple_data_type levels n end (keyword keywords.Logical)
    logical tt refl
data_type_production levels n end (keyword keywords.Real) = (
  (tt, tt),
  λ ws h. let w = takes_one levels (WidthOr n end) ws h in
      (real w.0, w.1, ap (λ l. keyword keywords.Real ∷ l) w.2),
)
data_type_production levels n end (keyword keywords.String) = (
  (tt, tt),
  λ ws h. let w = takes_one levels (FixedWidthOr n end) ws h in
      (string w.0, w.1, ap (λ l. keyword keywords.String ∷ l) w.2),
)
data_type_production levels n end (keyword keywords.Binary) = (
  (tt, tt),
  λ ws h. let w = takes_one levels (FixedWidthOr n end) ws h in
      (binary w.0, w.1, ap (λ l. keyword keywords.Binary ∷ l) w.2),
)
data_type_production levels n end (name m) = simple_data_type levels n end (name m) (named m) tt refl
data_type_production levels n end (keyword keywords.Array) = shallow levels n (DataTypeThen n end)
    (keyword keywords.Array) (Just marks.OpenBracket ∷ (bounds_symbols n ++ OptionalOr (n + 1) end ∷ []))
    (λ d. array_held levels n end d)
data_type_production levels n end (keyword keywords.List) = shallow levels n (DataTypeThen n end)
    (keyword keywords.List) (BoundsOrOf n ∷ UniqueOr (n + 1) end ∷ []) (λ d. list_held levels n end d)
data_type_production levels n end (keyword keywords.Bag) = shallow levels n (DataTypeThen n end) (keyword keywords.Bag)
    (BoundsOrOf n ∷ DataTypeThen (n + 1) end ∷ []) (λ d. collection_held levels n end (keyword keywords.Bag) bag
    (λ b k d f g. (d, f, g)) (λ b k. refl) d)
data_type_production levels n end (keyword keywords.Set) = shallow levels n (DataTypeThen n end) (keyword keywords.Set)
    (BoundsOrOf n ∷ DataTypeThen (n + 1) end ∷ []) (λ d. collection_held levels n end (keyword keywords.Set) set
    (λ b k d f g. (d, f, g)) (λ b k. refl) d)
data_type_production levels n end _ = tt

unique_from : (levels n : ℕ) (end : Ending) (w : Word) (v : Next) → Answer levels (DataTypeThen n end) w v
    → Answer levels (UniqueOr n end) w v
unique_from levels n end w (Err k) f = tt
unique_from levels n end w (Ok zs) f = (f.0, λ ws h. let k = f.1 ws h in (false, k.0, k.1, k.2))

pub unique_production : (levels n : ℕ) (end : Ending) (w : Word) → Production levels (UniqueOr n end) w
unique_production levels n end (keyword keywords.Unique) = (
  (tt, tt),
  λ ws h. let k = takes_one levels (DataTypeThen n end) ws h in
      (true, k.0, k.1, ap (λ l. keyword keywords.Unique ∷ l) k.2),
)
unique_production levels n end w = unique_from levels n end w (next_data_type levels n end (token w))
    (data_type_production levels n end w)

optional_from : (levels n : ℕ) (end : Ending) (w : Word) (v : Next) → Answer levels (UniqueOr n end) w v
    → Answer levels (OptionalOr n end) w v
optional_from levels n end w (Err k) f = tt
optional_from levels n end w (Ok zs) f = (f.0, λ ws h. let k = f.1 ws h in (false, k.0, k.1, k.2, k.3))

pub optional_production : (levels n : ℕ) (end : Ending) (w : Word) → Production levels (OptionalOr n end) w
optional_production levels n end (keyword keywords.Optional) = (
  (tt, tt),
  λ ws h. let k = takes_one levels (UniqueOr n end) ws h in
      (true, k.0, k.1, k.2, ap (λ l. keyword keywords.Optional ∷ l) k.3),
)
optional_production levels n end w = optional_from levels n end w (next_unique levels n end (token w))
    (unique_production levels n end w)

optional_kind_from : (levels : ℕ) (w : Word) (v : Next) → Answer levels (DataTypeThen 0 semicolon) w v
    → Answer levels OptionalDataType w v
optional_kind_from levels w (Err k) f = tt
optional_kind_from levels w (Ok zs) f = (f.0, λ ws h. let k = f.1 ws h in (false, k.0, k.1, k.2))

pub optional_data_type_production : (levels : ℕ) (w : Word) → Production levels OptionalDataType w
optional_data_type_production levels (keyword keywords.Optional) = (
  (tt, tt),
  λ ws h. let k = takes_one levels (DataTypeThen 0 semicolon) ws h in
      (true, k.0, k.1, ap (λ l. keyword keywords.Optional ∷ l) k.2),
)
optional_data_type_production levels w = optional_kind_from levels w (next_data_type levels 0 semicolon (token w))
    (data_type_production levels 0 semicolon w)

underlying_from : (levels : ℕ) (w : Word) (v : Next) → Answer levels (DataTypeThen 0 semicolon) w v
    → Answer levels Underlying w v
underlying_from levels w (Err k) f = tt
underlying_from levels w (Ok zs) f = (f.0, λ ws h. let k = f.1 ws h in (data_type k.0, k.1, k.2))

pub underlying_production : (levels : ℕ) (w : Word) → Production levels Underlying w
underlying_production levels (keyword keywords.Enumeration) = (
  (tt, (tt, (tt, (tt, (tt, tt))))),
  λ ws h.
      let o = behind_word levels keywords.Of (names_symbols ++ Just marks.Semicolon ∷ []) ws h in
      let p = names_taken levels (Just marks.Semicolon ∷ []) o.0 o.1 in (
        enumeration p.0,
        p.2,
        ap (λ l. keyword keywords.Enumeration ∷ l) (o.2 ∙ ap (λ l. keyword keywords.Of ∷ l)
            (p.4 ∙ ap (λ l. words_of_names p.0 ++ l) (takes_one levels (Just marks.Semicolon) p.1 p.3))),
      ),
)
underlying_production levels (keyword keywords.Select) = (
  (tt, (tt, (tt, (tt, tt)))),
  λ ws h.
      let p = names_taken levels (Just marks.Semicolon ∷ []) ws h in (
        select p.0,
        p.2,
        ap (λ l. keyword keywords.Select ∷ l) (p.4 ∙ ap (λ l. words_of_names p.0 ++ l)
            (takes_one levels (Just marks.Semicolon) p.1 p.3)),
      ),
)
underlying_production levels w = underlying_from levels w (next_data_type levels 0 semicolon (token w))
    (data_type_production levels 0 semicolon w)
