-- What the words are that each symbol of the table takes, in terms of trees that fit.
use Rattle.std.proofs.Common.{◌≡◌, ℕ, ◌+◌, zero, suc, Bool, true, false, List, [], ◌∷◌, ◌++◌, length, Option, map, Ok, refl, sym, ap, ◌∙◌, subst, append_assoc, append-nil, ◌⊎◌, MatchResult}
use Rattle.parsing.specs.Languages.{AllAre}
use Rattle.parsing.proofs.Lists.{all_append}
use Rattle.parsing.proofs.Leading.{Leads}
use Rattle.express_lexer.specs.declared.marks.Mark.{Mark}
use Rattle.express_lexer.specs.declared.marks.Mark.TheVariants as marks
use Rattle.express_syntax.specs.declared.keyword.Keyword.{Keyword}
use Rattle.express_syntax.specs.declared.keyword.Keyword.TheVariants as keywords
use Rattle.express_syntax.specs.Words.{Word, keyword, name, mark}
use Rattle.express_syntax.specs.Runs as runs
use Rattle.express_syntax.specs.Runs.{Bracket, closing, Run, words_of_run, inside, FitsRun, IsSome, in_brackets, words_of_routine, FitsRoutine}
use Rattle.express_syntax.specs.Schemas.{Rule, Bounds, Width, DataType, Underlying, Supertype, Attribute, Explicit, Derived, Collection, Inverse, Unique, Declaration}
use Rattle.express_syntax.specs.WrittenSchemas.{concatenated, said, words_of_clause, words_of_rule, words_of_some_bounds, words_of_some_width, words_of_fixed, words_of_data_type, words_of_underlying, words_of_supertype, words_of_subtype, words_of_attribute, words_of_explicit, words_of_derived, words_of_collection, words_of_inverse, words_of_unique, words_of_declaration, words_of_version}
use Rattle.express_syntax.specs.Profile.{Every, Maybe, IsFilled, FitsRules, FitsBounds, FitsWidth, FitsDataType, FitsUnderlying, FitsSupertype, FitsCollection, FitsExplicit, FitsDerived, FitsInverse, FitsUnique, IsWithout, FitsDeclaration, IsVersion}
use Rattle.express_syntax.specs.Texts.{Lookahead, token, flawed, end_of_text}
use Rattle.express_syntax.specs.steps.Predict.{RunEnd, in_rule, in_lower, in_upper, in_parentheses, ending_mark, Clause, explicits, derived, inverses, uniques, Symbol, Just, Say, Id, Names, Version, Declarations, EndOfText, SkippedName, SkippedEnd, Routine, Until, Underlying as UnderlyingDataType, DataTypeThen, WidthOr, FixedWidthOr, FixedOr, BoundsOrOf, OptionalOr, UniqueOr, Running, TypeEnd, Rules, Labelled, Head, Super, SuperOf, Sub, Body, AnAttribute, Explicits, OptionalDataType, Inverted, Holder, Uniques, UniqueNamed, Next, next}
use Rattle.express_syntax.proofs.Decide.{words_of_more_names}

-- what may stand in a run where none of its brackets is open
abbrev pub may_stand : RunEnd → Word → Bool
may_stand in_rule = runs.in_rule
may_stand in_lower = runs.in_lower
may_stand in_upper = in_brackets
may_stand in_parentheses = in_brackets

-- the mark that ends it
abbrev pub end_mark : RunEnd → Mark
end_mark in_rule = marks.Semicolon
end_mark in_lower = marks.Colon
end_mark in_upper = marks.CloseBracket
end_mark in_parentheses = marks.Close

-- the rest of a run, with these of its brackets open
abbrev pub OfRun : ℕ → RunEnd → ℕ → List Bracket → Bool → List Word → Type 0
OfRun levels part n [] some ws = (r : Run) × FitsRun levels (may_stand part) n r × (some ≡ false → IsSome r)
    × (ws ≡ words_of_run r ++ mark (end_mark part) ∷ [])
OfRun levels part n (b ∷ inner) some ws = (r : Run) × (v : List Word) × FitsRun levels inside (n + suc (length inner)) r
    × (ws ≡ words_of_run r ++ closing b ∷ v) × OfRun levels part n inner true v

-- the rest of a function, with so many others open around it
abbrev pub OfRoutine : ℕ → List Word → Type 0
OfRoutine zero ws = (r : runs.Routine) × FitsRoutine r × (ws ≡ words_of_routine r)
OfRoutine (suc n) ws = (r : runs.Routine) × (v : List Word) × FitsRoutine r × (ws ≡ words_of_routine r ++ v)
    × OfRoutine n v

abbrev pub OfRules : ℕ → Keyword → List Word → Type 0
OfRules levels end ws = (rs : List Rule) × FitsRules levels end rs × (ws ≡ concatenated (map words_of_rule rs) ++ keyword end
    ∷ mark marks.Semicolon ∷ [])

-- the rest of an entity, behind each of its clauses
abbrev pub BehindUniques : ℕ → List Word → Type 0
BehindUniques levels ws = (rs : Option (List Rule)) × Maybe (FitsRules levels keywords.EndEntity) rs
    × (ws ≡ words_of_clause keywords.Where words_of_rule rs ++ keyword keywords.EndEntity ∷ mark marks.Semicolon ∷ [])

abbrev pub BehindInverses : ℕ → List Word → Type 0
BehindInverses levels ws = (us : Option (List Unique)) × (v : List Word) × Maybe (Every FitsUnique) us
    × BehindUniques levels v × (ws ≡ words_of_clause keywords.Unique words_of_unique us ++ v)

abbrev pub BehindDerived : ℕ → List Word → Type 0
BehindDerived levels ws = (is : Option (List Inverse)) × (v : List Word) × Maybe (Every (FitsInverse levels)) is
    × BehindInverses levels v × (ws ≡ words_of_clause keywords.Inverse words_of_inverse is ++ v)

abbrev pub BehindExplicits : ℕ → List Word → Type 0
BehindExplicits levels ws = (ds : Option (List Derived)) × (v : List Word) × Maybe (Every (FitsDerived levels)) ds
    × BehindDerived levels v × (ws ≡ words_of_clause keywords.Derive words_of_derived ds ++ v)

-- the rest of an entity, from this clause on
abbrev pub OfBody : ℕ → Clause → List Word → Type 0
OfBody levels explicits ws = (es : List Explicit) × (v : List Word) × Every (FitsExplicit levels) es
    × BehindExplicits levels v × (ws ≡ concatenated (map words_of_explicit es) ++ v)
OfBody levels derived ws = (ds : List Derived) × (v : List Word) × Every (FitsDerived levels) ds
    × BehindDerived levels v × (ws ≡ concatenated (map words_of_derived ds) ++ v)
OfBody levels inverses ws = (is : List Inverse) × (v : List Word) × Every (FitsInverse levels) is
    × BehindInverses levels v × (ws ≡ concatenated (map words_of_inverse is) ++ v)
OfBody levels uniques ws = (us : List Unique) × (v : List Word) × Every FitsUnique us × BehindUniques levels v
    × (ws ≡ concatenated (map words_of_unique us) ++ v)

-- attributes with a comma before each
abbrev pub words_of_more_attributes : List Attribute → List Word
words_of_more_attributes xs = concatenated (map (λ us. mark marks.Comma ∷ us) (map words_of_attribute xs))

abbrev pub OfSub : List Word → Type 0
OfSub ws = (t : Option (List (List ℕ))) × Maybe IsFilled t × (ws ≡ words_of_subtype t ++ mark marks.Semicolon ∷ [])

abbrev pub OfSuper : ℕ → List Word → Type 0
OfSuper levels ws = (s : Supertype) × (v : List Word) × FitsSupertype levels s × OfSub v
    × (ws ≡ words_of_supertype s ++ v)

abbrev pub OfOptionalDataType : ℕ → List Word → Type 0
OfOptionalDataType levels ws = (o : Bool) × (k : DataType) × FitsDataType levels 0 k
    × (ws ≡ said keywords.Optional o ++ words_of_data_type k ++ mark marks.Semicolon ∷ [])

-- the words that a symbol takes
abbrev pub Takes : ℕ → Symbol → List Word → Type 0
Takes levels (Just m) ws = ws ≡ mark m ∷ []
Takes levels (Say k) ws = ws ≡ keyword k ∷ []
Takes levels Id ws = (n : List ℕ) × (ws ≡ name n ∷ [])
Takes levels Names ws = (ns : List (List ℕ)) × (ws ≡ words_of_more_names ns ++ mark marks.Close ∷ [])
Takes levels Version ws = (v : Option Word) × Maybe IsVersion v × (ws ≡ words_of_version v ++ mark marks.Semicolon ∷ [])
Takes levels Declarations ws = (ds : List Declaration) × Every (FitsDeclaration levels) ds
    × (ws ≡ concatenated (map words_of_declaration ds) ++ keyword keywords.EndSchema ∷ mark marks.Semicolon ∷ [])
Takes levels EndOfText ws = ⊥
Takes levels SkippedName ws = (n : List ℕ) × (ws ≡ name n ∷ [])
Takes levels SkippedEnd ws = ws ≡ mark marks.Semicolon ∷ []
Takes levels (Routine n) ws = OfRoutine n ws
Takes levels (Until end) ws = (vs : List Word) × IsWithout end vs × (ws ≡ vs ++ name end ∷ [])
Takes levels UnderlyingDataType ws = (u : Underlying) × FitsUnderlying levels u
    × (ws ≡ words_of_underlying u ++ mark marks.Semicolon ∷ [])
Takes levels (DataTypeThen n end) ws = (k : DataType) × FitsDataType levels n k
    × (ws ≡ words_of_data_type k ++ mark (ending_mark end) ∷ [])
Takes levels (WidthOr n end) ws = (w : Option Width) × Maybe (FitsWidth levels n) w
    × (ws ≡ words_of_some_width w ++ mark (ending_mark end) ∷ [])
Takes levels (FixedWidthOr n end) ws = (w : Option (Width × Bool)) × Maybe (λ p. FitsWidth levels n p.0) w
    × (ws ≡ words_of_fixed w ++ mark (ending_mark end) ∷ [])
Takes levels (FixedOr end) ws = (b : Bool) × (ws ≡ said keywords.Fixed b ++ mark (ending_mark end) ∷ [])
Takes levels (BoundsOrOf n) ws = (b : Option Bounds) × Maybe (FitsBounds levels n) b
    × (ws ≡ words_of_some_bounds b ++ keyword keywords.Of ∷ [])
Takes levels (OptionalOr n end) ws = (o : Bool) × (u : Bool) × (k : DataType) × FitsDataType levels n k
    × (ws ≡ said keywords.Optional o ++ said keywords.Unique u ++ words_of_data_type k ++ mark (ending_mark end) ∷ [])
Takes levels (UniqueOr n end) ws = (u : Bool) × (k : DataType) × FitsDataType levels n k
    × (ws ≡ said keywords.Unique u ++ words_of_data_type k ++ mark (ending_mark end) ∷ [])
Takes levels (Running part n inner some) ws = OfRun levels part n inner some ws
Takes levels TypeEnd ws = (rs : Option (List Rule)) × Maybe (FitsRules levels keywords.EndType) rs
    × (ws ≡ words_of_clause keywords.Where words_of_rule rs ++ keyword keywords.EndType ∷ mark marks.Semicolon ∷ [])
Takes levels (Rules end) ws = OfRules levels end ws
Takes levels (Labelled end) ws = (n : List ℕ) → OfRules levels end (name n ∷ ws)
Takes levels Head ws = (a : Bool) × (v : List Word) × OfSuper levels v × (ws ≡ said keywords.Abstract a ++ v)
Takes levels Super ws = OfSuper levels ws
Takes levels SuperOf ws = OfSuper levels (keyword keywords.Supertype ∷ ws)
Takes levels Sub ws = OfSub ws
Takes levels (Body c) ws = OfBody levels c ws
Takes levels AnAttribute ws = (a : Attribute) × (ws ≡ words_of_attribute a)
Takes levels Explicits ws = (xs : List Attribute) × (v : List Word) × OfOptionalDataType levels v
    × (ws ≡ words_of_more_attributes xs ++ mark marks.Colon ∷ v)
Takes levels OptionalDataType ws = OfOptionalDataType levels ws
Takes levels Inverted ws = (c : Collection) × (e : List ℕ) × FitsCollection levels c
    × (ws ≡ words_of_collection c ++ name e ∷ [])
Takes levels Holder ws = (ws ≡ mark marks.Semicolon ∷ [])
    ⊎ ((n : List ℕ) × (ws ≡ mark marks.Dot ∷ name n ∷ mark marks.Semicolon ∷ []))
Takes levels Uniques ws = (xs : List Attribute) × (ws ≡ words_of_more_attributes xs ++ mark marks.Semicolon ∷ [])
Takes levels UniqueNamed ws = (n : List ℕ) → (u : Unique) × FitsUnique u × (name n ∷ ws ≡ words_of_unique u)

-- the words that symbols take, one after another
abbrev pub AllTake : ℕ → List Symbol → List Word → Type 0
AllTake levels [] ws = ws ≡ []
AllTake levels (y ∷ ys) ws = (u : List Word) × (v : List Word) × Takes levels y u × AllTake levels ys v × (ws ≡ u ++ v)

-- all but the end of the text
abbrev pub IsInner : Symbol → Type 0
IsInner EndOfText = ⊥
IsInner _ = Unit {0}

-- what a token does to a symbol, backwards
abbrev pub Held : ℕ → Symbol → Word → List Symbol → Type 0
Held levels y w zs = AllAre IsInner zs × ((ws : List Word) → AllTake levels zs ws → Takes levels y (w ∷ ws))

abbrev pub Answer : ℕ → Symbol → Word → Next → Type 0
Answer levels y w v = MatchResult v (Held levels y w) (λ _. Unit {0})

abbrev pub Production : ℕ → Symbol → Word → Type 0
Production levels y w = Answer levels y w (next levels y (token w))

pub takes_one : (levels : ℕ) (y : Symbol) (ws : List Word) → AllTake levels (y ∷ []) ws → Takes levels y ws
takes_one levels y ws h = let P : List Word → Type 0 = λ l. Takes levels y l in
    subst P (sym (h.4 ∙ ap (λ l. h.0 ++ l) h.3 ∙ append-nil h.0)) h.2

-- words behind a mark
pub behind_mark : (levels : ℕ) (m : Mark) (ys : List Symbol) (ws : List Word) → AllTake levels (Just m ∷ ys) ws
    → (v : List Word) × AllTake levels ys v × (ws ≡ mark m ∷ v)
behind_mark levels m ys ws h = (h.1, h.3, h.4 ∙ ap (λ l. l ++ h.1) h.2)

pub behind_word : (levels : ℕ) (k : Keyword) (ys : List Symbol) (ws : List Word) → AllTake levels (Say k ∷ ys) ws
    → (v : List Word) × AllTake levels ys v × (ws ≡ keyword k ∷ v)
behind_word levels k ys ws h = (h.1, h.3, h.4 ∙ ap (λ l. l ++ h.1) h.2)

pub behind_name : (levels : ℕ) (ys : List Symbol) (ws : List Word) → AllTake levels (Id ∷ ys) ws → (n : List ℕ)
    × (v : List Word) × AllTake levels ys v × (ws ≡ name n ∷ v)
behind_name levels ys ws h = (h.2.0, h.1, h.3, h.4 ∙ ap (λ l. l ++ h.1) h.2.1)

pub take_apart : (levels : ℕ) (zs ys : List Symbol) (ws : List Word) → AllTake levels (zs ++ ys) ws → (u : List Word)
    × (v : List Word) × AllTake levels zs u × AllTake levels ys v × (ws ≡ u ++ v)
take_apart levels [] ys ws h = ([], ws, refl, h, refl)
take_apart levels (z ∷ zs) ys ws h =
    let p = take_apart levels zs ys h.1 h.3 in
    (h.0 ++ p.0, p.1, (h.0, p.0, h.2, p.2, refl), p.3, h.4 ∙ ap (λ l. h.0 ++ l) p.4 ∙ sym (append_assoc h.0 p.0 p.1))

-- nothing but a token stands where a symbol is inner
flawed_out : (levels : ℕ) (y : Symbol) → IsInner y → (zs : List Symbol) → next levels y flawed ≡ Ok zs → ⊥
flawed_out levels EndOfText i zs e = i
flawed_out levels _ i zs e = cc

over_out : (levels : ℕ) (y : Symbol) → IsInner y → (zs : List Symbol) → next levels y end_of_text ≡ Ok zs → ⊥
over_out levels EndOfText i zs e = i
over_out levels _ i zs e = cc

-- what leads to nothing more is taken
pub taken : (levels : ℕ) → ((y : Symbol) (w : Word) → Production levels y w) → (s : List Lookahead) (ys : List Symbol)
    → AllAre IsInner ys → Leads (next levels) ys s [] → (ws : List Word) × AllTake levels ys ws × (s ≡ map token ws)
taken levels p [] ys a h = let P : List Symbol → Type 0 = λ l. AllTake levels l [] in ([], subst P (sym h) refl, refl)
taken levels p (x ∷ s) [] a h = absurd h
taken levels p (flawed ∷ s) (y ∷ ys) a h = absurd (flawed_out levels y a.0 h.0 h.1)
taken levels p (end_of_text ∷ s) (y ∷ ys) a h = absurd (over_out levels y a.0 h.0 h.1)
taken levels p (token w ∷ s) (y ∷ ys) a h =
    let held : Held levels y w h.0 = subst (Answer levels y w) h.1 (p y w) in
    let q = taken levels p s (h.0 ++ ys) (all_append IsInner h.0 ys held.0 a.1) h.2 in
    let c = take_apart levels h.0 ys q.0 q.1 in
    (w ∷ q.0, (w ∷ c.0, c.1, held.1 c.0 c.2, c.3, ap (λ l. w ∷ l) c.4), ap (λ l. token w ∷ l) q.2)
