-- Defined types, part by part.
use Rattle.std.proofs.Common.{◌≡◌, ℕ, true, false, List, [], ◌∷◌, ◌++◌, map, Some, Err, refl, sym, ap, append_assoc}
use Rattle.std.proofs.lemmas.Bool.{false≢true}
use Rattle.express_lexer.specs.declared.marks.Mark.TheVariants as marks
use Rattle.express_lexer.specs.Reading.{Reading}
use Rattle.express_syntax.specs.declared.keyword.Keyword.TheVariants as keywords
use Rattle.express_syntax.specs.Words.{Word, keyword, name, mark}
use Rattle.express_syntax.specs.Grammar.{depth_limit}
use Rattle.express_syntax.specs.declared.fault.SyntaxFault.{SyntaxFault}
use Rattle.express_syntax.specs.declared.fault.SyntaxFault.TheVariants as faults
use Rattle.express_syntax.specs.Texts.{Lookahead, token, LocatedToken, Shows}
use Rattle.express_syntax.specs.Schemas.{Rule, DataType, data_type, enumeration, select, TypeDeclaration}
use Rattle.express_syntax.specs.WrittenSchemas.{concatenated, words_of_names, words_of_underlying, words_of_rule, words_of_clause, words_of_type}
use Rattle.express_syntax.specs.Profile.{Maybe, FitsRules, FitsUnderlying, FitsType}
use Rattle.express_syntax.specs.steps.Predict.{Symbol, Just, Say, Id, TypeEnd, Rules, DataTypeThen, semicolon, names_symbols, next, refused, is_keyword}
use Rattle.express_syntax.specs.steps.Predict as table
use Rattle.express_parts.specs.steps.DataTypeParts.{PassesDataType}
use Rattle.express_syntax.specs.steps.Steps.{StopsIn, Passes}
use Rattle.express_syntax.proofs.Taking.{passes_as, passes_join, passes_more, passes_then, passes_token, passes_first, stops_behind, stops_first, passes_other, stops_as}
use Rattle.express_syntax.proofs.Looking.{keyword_met, stops_refused}

-- names without a semicolon behind them
pub last_names_open : (e : SyntaxFault) (names : List (List ℕ)) (old a : Reading) → Passes names_symbols [] []
    (words_of_names names) old a → StopsIn e (Just marks.Semicolon ∷ []) [] a
    → StopsIn e (names_symbols ++ Just marks.Semicolon ∷ []) [] old
last_names_open e names old a h g = stops_behind e (Just marks.Semicolon ∷ []) []
    (passes_more (Just marks.Semicolon ∷ []) h) g

-- names, and the semicolon behind them
pub last_names_done : (names : List (List ℕ)) (old a b : Reading) → Passes names_symbols [] [] (words_of_names names)
    old a → Passes (Just marks.Semicolon ∷ []) [] [] (mark marks.Semicolon ∷ []) a b
    → Passes (names_symbols ++ Just marks.Semicolon ∷ []) [] [] (words_of_names names ++ mark marks.Semicolon ∷ []) old
    b
last_names_done names old a b h g = passes_then h g

-- ENUMERATION
passes_enumeration : (s : LocatedToken) (old a : Reading) → Shows old s a → is_keyword keywords.Enumeration
    s.lookahead ≡ true → Passes (table.Underlying ∷ []) (Say keywords.Of ∷ (names_symbols ++ Just marks.Semicolon ∷ []))
    [] (keyword keywords.Enumeration ∷ []) old a
passes_enumeration s old a shows c = passes_token table.Underlying (Say keywords.Of
    ∷ (names_symbols ++ Just marks.Semicolon ∷ [])) (keyword keywords.Enumeration) s old a shows
    (keyword_met keywords.Enumeration s.lookahead c) refl

-- ENUMERATION without OF
pub enumeration_unsaid : (e : SyntaxFault) (s : LocatedToken) (old a : Reading) → Shows old s a
    → is_keyword keywords.Enumeration s.lookahead ≡ true → StopsIn e (Say keywords.Of ∷ []) [] a
    → StopsIn e (table.Underlying ∷ []) [] old
enumeration_unsaid e s old a shows c g = stops_behind e (Say keywords.Of ∷ []) (names_symbols ++ Just marks.Semicolon
    ∷ []) (passes_enumeration s old a shows c) g

-- what stops the items of an enumeration
pub enumeration_stopped : (e : SyntaxFault) (s : LocatedToken) (old a b : Reading) → Shows old s a
    → is_keyword keywords.Enumeration s.lookahead ≡ true → Passes (Say keywords.Of ∷ []) [] [] (keyword keywords.Of
    ∷ []) a b
    → StopsIn e (names_symbols ++ Just marks.Semicolon ∷ []) [] b → StopsIn e (table.Underlying ∷ []) [] old
enumeration_stopped e s old a b shows c h g = stops_behind e (names_symbols ++ Just marks.Semicolon ∷ []) []
    (passes_join (passes_enumeration s old a shows c) (passes_more (names_symbols ++ Just marks.Semicolon ∷ []) h)) g

-- an enumeration, and the semicolon behind it
pub enumeration_done : (names : List (List ℕ)) (s : LocatedToken) (old a b d : Reading) → Shows old s a
    → is_keyword keywords.Enumeration s.lookahead ≡ true → Passes (Say keywords.Of ∷ []) [] [] (keyword keywords.Of
    ∷ []) a b
    → Passes (names_symbols ++ Just marks.Semicolon ∷ []) [] [] (words_of_names names ++ mark marks.Semicolon ∷ []) b d
    → Passes (table.Underlying ∷ []) [] [] (words_of_underlying (enumeration names) ++ mark marks.Semicolon ∷ [])
    old d
enumeration_done names s old a b d shows c h g = passes_join (passes_enumeration s old a shows c) (passes_then h g)

-- SELECT
passes_select : (s : LocatedToken) (old a : Reading) → Shows old s a → is_keyword keywords.Select s.lookahead ≡ true
    → Passes (table.Underlying ∷ []) (names_symbols ++ Just marks.Semicolon ∷ []) [] (keyword keywords.Select ∷ []) old
    a
passes_select s old a shows c = passes_token table.Underlying (names_symbols ++ Just marks.Semicolon ∷ [])
    (keyword keywords.Select) s old a shows (keyword_met keywords.Select s.lookahead c) refl

-- what stops the types of a select
pub select_stopped : (e : SyntaxFault) (s : LocatedToken) (old a : Reading) → Shows old s a → is_keyword keywords.Select
    s.lookahead ≡ true → StopsIn e (names_symbols ++ Just marks.Semicolon ∷ []) [] a → StopsIn e (table.Underlying ∷ [])
    [] old
select_stopped e s old a shows c g = stops_behind e (names_symbols ++ Just marks.Semicolon ∷ []) []
    (passes_select s old a shows c) g

-- a select, and the semicolon behind it
pub select_done : (names : List (List ℕ)) (s : LocatedToken) (old a d : Reading) → Shows old s a
    → is_keyword keywords.Select s.lookahead ≡ true → Passes (names_symbols ++ Just marks.Semicolon ∷ []) [] []
    (words_of_names names ++ mark marks.Semicolon ∷ []) a d
    → Passes (table.Underlying ∷ []) [] [] (words_of_underlying (select names) ++ mark marks.Semicolon ∷ []) old d
select_done names s old a d shows c g = passes_join (passes_select s old a shows c) g

-- a data type
underlying_other : (s : Lookahead) → is_keyword keywords.Enumeration s ≡ false → is_keyword keywords.Select s ≡ false
    → next depth_limit table.Underlying s ≡ next depth_limit (DataTypeThen 0 semicolon) s
underlying_other (token (keyword keywords.Enumeration)) c d = absurd (false≢true (sym c))
underlying_other (token (keyword keywords.Select)) c d = absurd (false≢true (sym d))
underlying_other _ c d = refl

-- what stops a data type stops the type that it stands for
pub underlying_stopped : (e : SyntaxFault) (s : LocatedToken) (old a : Reading) → Shows old s a
    → is_keyword keywords.Enumeration s.lookahead ≡ false → is_keyword keywords.Select s.lookahead ≡ false
    → StopsIn e (DataTypeThen 0 semicolon ∷ []) (s ∷ []) a → StopsIn e (table.Underlying ∷ []) [] old
underlying_stopped e s old a shows c d h = stops_first e (table.Underlying ∷ []) s shows
    (stops_as e table.Underlying (DataTypeThen 0 semicolon) s a (underlying_other s.lookahead c d) h)

-- a data type, and the semicolon behind it
pub underlying_done : (k : DataType) (s : LocatedToken) (old a b : Reading) → Shows old s a
    → is_keyword keywords.Enumeration s.lookahead ≡ false → is_keyword keywords.Select s.lookahead ≡ false
    → PassesDataType (DataTypeThen 0 semicolon ∷ []) (s ∷ []) [] 0 semicolon k a b
    → FitsUnderlying depth_limit (data_type k) × Passes (table.Underlying ∷ []) [] [] (words_of_underlying (data_type k)
    ++ mark marks.Semicolon ∷ []) old b
underlying_done k s old a b shows c d h = (
  h.0,
  passes_first s old shows (passes_other table.Underlying (DataTypeThen 0 semicolon) s
      (underlying_other s.lookahead c d) h.1),
)

-- WHERE
passes_where : (s : LocatedToken) (old a : Reading) → Shows old s a → is_keyword keywords.Where s.lookahead ≡ true
    → Passes (TypeEnd ∷ []) (Rules keywords.EndType ∷ []) [] (keyword keywords.Where ∷ []) old a
passes_where s old a shows c = passes_token TypeEnd (Rules keywords.EndType ∷ []) (keyword keywords.Where) s old a shows
    (keyword_met keywords.Where s.lookahead c) refl

-- what stops the rules of a type
pub where_stopped : (e : SyntaxFault) (s : LocatedToken) (old a : Reading) → Shows old s a → is_keyword keywords.Where
    s.lookahead ≡ true → StopsIn e (Rules keywords.EndType ∷ []) [] a → StopsIn e (TypeEnd ∷ []) [] old
where_stopped e s old a shows c g = stops_behind e (Rules keywords.EndType ∷ []) [] (passes_where s old a shows c) g

-- WHERE, rules and the end of the type
pub where_done : (rs : List Rule) (s : LocatedToken) (old a b : Reading) → Shows old s a → is_keyword keywords.Where
    s.lookahead ≡ true → Passes (Rules keywords.EndType ∷ []) [] [] (concatenated (map words_of_rule rs)
    ++ keyword keywords.EndType ∷ mark marks.Semicolon ∷ []) a b
    → Passes (TypeEnd ∷ []) [] [] (words_of_clause keywords.Where words_of_rule (Some rs) ++ keyword keywords.EndType
    ∷ mark marks.Semicolon ∷ []) old b
where_done rs s old a b shows c g = passes_join (passes_where s old a shows c) g

-- END_TYPE
passes_end : (s : LocatedToken) (old a : Reading) → Shows old s a → is_keyword keywords.EndType s.lookahead ≡ true
    → Passes (TypeEnd ∷ []) (Just marks.Semicolon ∷ []) [] (keyword keywords.EndType ∷ []) old a
passes_end s old a shows c = passes_token TypeEnd (Just marks.Semicolon ∷ []) (keyword keywords.EndType) s old a shows
    (keyword_met keywords.EndType s.lookahead c) refl

type_end_other : (s : Lookahead) → is_keyword keywords.Where s ≡ false → is_keyword keywords.EndType s ≡ false
    → next depth_limit TypeEnd s ≡ Err (refused s)
type_end_other (token (keyword keywords.Where)) c d = absurd (false≢true (sym c))
type_end_other (token (keyword keywords.EndType)) c d = absurd (false≢true (sym d))
type_end_other _ c d = refl

-- neither WHERE nor END_TYPE
pub type_end_refused : (e : SyntaxFault) (s : LocatedToken) (old a : Reading) → Shows old s a
    → is_keyword keywords.Where s.lookahead ≡ false → is_keyword keywords.EndType s.lookahead ≡ false
    → e ≡ faults.Fault (refused s.lookahead) s.place → StopsIn e (TypeEnd ∷ []) [] old
type_end_refused e s old a shows c d q = stops_refused e TypeEnd s old a shows (type_end_other s.lookahead c d) q

-- END_TYPE without its semicolon
pub type_end_stopped : (e : SyntaxFault) (s : LocatedToken) (old a : Reading) → Shows old s a
    → is_keyword keywords.EndType s.lookahead ≡ true → StopsIn e (Just marks.Semicolon ∷ []) [] a
    → StopsIn e (TypeEnd ∷ []) [] old
type_end_stopped e s old a shows c g = stops_behind e (Just marks.Semicolon ∷ []) [] (passes_end s old a shows c) g

-- END_TYPE, and its semicolon
pub type_end_done : (s : LocatedToken) (old a b : Reading) → Shows old s a → is_keyword keywords.EndType
    s.lookahead ≡ true → Passes (Just marks.Semicolon ∷ []) [] [] (mark marks.Semicolon ∷ []) a b
    → Passes (TypeEnd ∷ []) [] [] (keyword keywords.EndType ∷ mark marks.Semicolon ∷ []) old b
type_end_done s old a b shows c g = passes_join (passes_end s old a shows c) g

-- a defined type behind TYPE
abbrev pub type_symbols : List Symbol
type_symbols = Id ∷ Just marks.Equal ∷ table.Underlying ∷ TypeEnd ∷ []

passes_name : (n : List ℕ) (old a : Reading) → Passes (Id ∷ []) [] [] (name n ∷ []) old a
    → Passes type_symbols (Just marks.Equal ∷ table.Underlying ∷ TypeEnd ∷ []) [] (name n ∷ []) old a
passes_name n old a h = passes_more (Just marks.Equal ∷ table.Underlying ∷ TypeEnd ∷ []) h

passes_equal : (n : List ℕ) (old a b : Reading) → Passes (Id ∷ []) [] [] (name n ∷ []) old a
    → Passes (Just marks.Equal ∷ []) [] [] (mark marks.Equal ∷ []) a b → Passes type_symbols (table.Underlying ∷ TypeEnd
    ∷ []) [] (name n ∷ mark marks.Equal ∷ []) old b
passes_equal n old a b h g = passes_join (passes_name n old a h) (passes_more (table.Underlying ∷ TypeEnd ∷ []) g)

-- a name without an equals sign behind it
pub type_unequal : (e : SyntaxFault) (n : List ℕ) (old a : Reading) → Passes (Id ∷ []) [] [] (name n ∷ []) old a
    → StopsIn e (Just marks.Equal ∷ []) [] a → StopsIn e type_symbols [] old
type_unequal e n old a h g = stops_behind e (Just marks.Equal ∷ []) (table.Underlying ∷ TypeEnd ∷ [])
    (passes_name n old a h) g

-- what stops the type that a type stands for
pub type_underlying : (e : SyntaxFault) (n : List ℕ) (old a b : Reading) → Passes (Id ∷ []) [] [] (name n ∷ []) old a
    → Passes (Just marks.Equal ∷ []) [] [] (mark marks.Equal ∷ []) a b → StopsIn e (table.Underlying ∷ []) [] b
    → StopsIn e type_symbols [] old
type_underlying e n old a b h g stop = stops_behind e (table.Underlying ∷ []) (TypeEnd ∷ [])
    (passes_equal n old a b h g) stop

passes_underlying : (n : List ℕ) (us : List Word) (old a b d : Reading) → Passes (Id ∷ []) [] [] (name n ∷ []) old a
    → Passes (Just marks.Equal ∷ []) [] [] (mark marks.Equal ∷ []) a b → Passes (table.Underlying ∷ []) [] [] us b d
    → Passes type_symbols (TypeEnd ∷ []) [] (name n ∷ mark marks.Equal ∷ us) old d
passes_underlying n us old a b d h g x = passes_join (passes_equal n old a b h g) (passes_more (TypeEnd ∷ []) x)

-- what stops the end of a type
pub type_unended : (e : SyntaxFault) (n : List ℕ) (us : List Word) (old a b d : Reading)
    → Passes (Id ∷ []) [] [] (name n ∷ []) old a → Passes (Just marks.Equal ∷ []) [] [] (mark marks.Equal ∷ []) a b
    → Passes (table.Underlying ∷ []) [] [] us b d
    → StopsIn e (TypeEnd ∷ []) [] d → StopsIn e type_symbols [] old
type_unended e n us old a b d h g x stop = stops_behind e (TypeEnd ∷ []) [] (passes_underlying n us old a b d h g x)
    stop

-- a whole type
pub type_done : (t : TypeDeclaration) (old a b c d : Reading) → Passes (Id ∷ []) [] [] (name t.name ∷ []) old a
    → Passes (Just marks.Equal ∷ []) [] [] (mark marks.Equal ∷ []) a b
    → FitsUnderlying depth_limit t.underlying × Passes (table.Underlying ∷ []) [] [] (words_of_underlying t.underlying
    ++ mark marks.Semicolon ∷ []) b c
    → Maybe (FitsRules depth_limit keywords.EndType) t.rules × Passes (TypeEnd ∷ []) [] []
    (words_of_clause keywords.Where words_of_rule t.rules ++ keyword keywords.EndType ∷ mark marks.Semicolon ∷ []) c
    d
    → FitsType depth_limit t × (ws : List Word) × (words_of_type t ≡ keyword keywords.Type ∷ ws)
    × Passes type_symbols [] [] ws old d
type_done t old a b c d h g x y =
    let us = words_of_underlying t.underlying in
    let rest = words_of_clause keywords.Where words_of_rule t.rules ++ keyword keywords.EndType ∷ mark marks.Semicolon
    ∷ [] in
    let whole = name t.name ∷ mark marks.Equal ∷ (us ++ mark marks.Semicolon ∷ rest) in (
      (x.0, y.0),
      whole,
      refl,
      passes_as whole (ap (λ l. name t.name ∷ mark marks.Equal ∷ l)
          (append_assoc us (mark marks.Semicolon ∷ []) rest))
          (passes_join (passes_underlying t.name (us ++ mark marks.Semicolon ∷ []) old a b c h g x.1) y.1),
    )
