-- The words of an entity's head lead to its semicolon.
use Rattle.std.proofs.Common.{◌≡◌, ℕ, ◌+◌, ◌<◌, Bool, true, false, List, [], ◌∷◌, ◌++◌, length, Option, None, Some, Ok, refl, codes, map, arith}
use Rattle.express_lexer.specs.declared.marks.Mark.TheVariants as marks
use Rattle.express_syntax.specs.declared.keyword.Keyword.TheVariants as keywords
use Rattle.express_syntax.specs.Words.{Word, keyword, name, mark}
use Rattle.express_syntax.specs.Texts.{Lookahead, token}
use Rattle.express_syntax.specs.Runs.{Bracket, parenthesis, words_of_run}
use Rattle.express_syntax.specs.Schemas.{Supertype, unsaid, bare, of_one, of_one_of, of_other, Entity}
use Rattle.express_syntax.specs.WrittenSchemas.{concatenated, said, with_commas, words_of_name, words_of_names, words_of_supertype, words_of_subtype}
use Rattle.express_syntax.specs.Profile.{Maybe, IsFilled, FitsSupertype}
use Rattle.express_syntax.specs.steps.Predict.{Symbol, Just, Say, Running, Head, Super, SuperOf, Sub, names_symbols, next}
use Rattle.express_syntax.specs.steps.Predict as predict
use Rattle.express_syntax.proofs.Passing.{Goal, Led, step, regroup, wider, pass_mark, pass_say, pass_names}
use Rattle.express_syntax.proofs.PassingRuns.{next_opening, pass_some, pass_end}

-- what an entity is a subtype of, and the semicolon
pass_sub : (g : Goal) (t : Option (List (List ℕ))) (ys : List Symbol) (ws : List Word) → Maybe IsFilled t → Led g ys ws
    → Led g (Sub ∷ ys) (words_of_subtype t ++ mark marks.Semicolon ∷ ws)
pass_sub g None ys ws f h = step g Sub [] ys (mark marks.Semicolon) ws refl h
pass_sub g (Some names) ys ws f h =
    let last = mark marks.Semicolon ∷ ws in
    let stack = Say keywords.Of ∷ (names_symbols ++ Just marks.Semicolon ∷ []) in
    step g Sub stack ys (keyword keywords.Subtype) (keyword keywords.Of ∷ words_of_names names ++ last) refl
    (pass_say g keywords.Of (names_symbols ++ Just marks.Semicolon ∷ ys) (words_of_names names ++ last)
    (pass_names g names (Just marks.Semicolon ∷ ys) last f (pass_mark g marks.Semicolon ys ws h)))

-- a supertype expression with these of its brackets open, and whether some of it has stood
abbrev Expressed : List Bracket → Bool → Symbol
Expressed inner some = Running predict.in_parentheses 1 inner some

-- names behind another, in a bracket of a supertype expression
more_inside : (g : Goal) (names : List (List ℕ)) (ys : List Symbol) (ws : List Word)
    → Led g (Expressed (parenthesis ∷ []) true ∷ ys) ws
    → Led g (Expressed (parenthesis ∷ []) true ∷ ys)
    (concatenated (map (λ us. mark marks.Comma ∷ us) (map words_of_name names)) ++ ws)
more_inside g [] ys ws h = h
more_inside g (n ∷ names) ys ws h =
    let here = Expressed (parenthesis ∷ []) true in
    let more = concatenated (map (λ us. mark marks.Comma ∷ us) (map words_of_name names)) ++ ws in
    step g here (here ∷ []) ys (mark marks.Comma) (name n ∷ more) refl (step g here (here ∷ []) ys (name n) more refl
    (more_inside g names ys ws h))

pub names_inside : (g : Goal) (names : List (List ℕ)) (ys : List Symbol) (ws : List Word)
    → Led g (Expressed (parenthesis ∷ []) true ∷ ys) ws
    → Led g (Expressed (parenthesis ∷ []) true ∷ ys) (with_commas (map words_of_name names) ++ ws)
names_inside g [] ys ws h = h
names_inside g (n ∷ names) ys ws h =
    let here = Expressed (parenthesis ∷ []) true in
    let more = concatenated (map (λ us. mark marks.Comma ∷ us) (map words_of_name names)) ++ ws in
    step g here (here ∷ []) ys (name n) more refl (more_inside g names ys ws h)

-- a supertype expression up to the parenthesis that closes it
in_expression : (g : Goal) (us : List Word) (ys : List Symbol) (ws : List Word)
    → ((more : List Word) → Led g (Expressed [] true ∷ Sub ∷ ys) more → Led g (Expressed [] false ∷ Sub ∷ ys)
    (us ++ more))
    → Led g (Sub ∷ ys) ws → Led g (Super ∷ ys) (keyword keywords.Supertype ∷ keyword keywords.Of ∷ mark marks.Open
    ∷ (us ++ mark marks.Close ∷ []) ++ ws)
in_expression g us ys ws pass h =
    let all = (us ++ mark marks.Close ∷ []) ++ ws in
    step g Super (SuperOf ∷ []) ys (keyword keywords.Supertype) (keyword keywords.Of ∷ mark marks.Open ∷ all) refl
    (step g SuperOf (Just marks.Open ∷ Expressed [] false ∷ Sub ∷ []) ys (keyword keywords.Of) (mark marks.Open ∷ all)
    refl
    (pass_mark g marks.Open (Expressed [] false ∷ Sub ∷ ys) all
    (regroup g (Expressed [] false ∷ Sub ∷ ys) us (mark marks.Close ∷ []) ws
    (pass (mark marks.Close ∷ ws) (pass_end g predict.in_parentheses 1 (Sub ∷ ys) ws h)))))

super_wider : (levels : ℕ) (w : Lookahead) (us : List Symbol) → next levels Sub w ≡ Ok us → next levels Super w ≡ Ok us
super_wider levels (token (keyword keywords.Supertype)) us e = absurd cc
super_wider levels w us e = e

super_of_wider : (levels : ℕ) (w : Lookahead) (us : List Symbol) → next levels Sub w ≡ Ok us
    → next levels SuperOf w ≡ Ok us
super_of_wider levels (token (keyword keywords.Of)) us e = absurd cc
super_of_wider levels w us e = e

head_wider : (levels : ℕ) (w : Lookahead) (us : List Symbol) → next levels Super w ≡ Ok us → next levels Head w ≡ Ok us
head_wider levels (token (keyword keywords.Abstract)) us e = absurd cc
head_wider levels w us e = e

one_open : (g : Goal) → 1 < g.levels
one_open g = omega (arith, g.deep)

none_open : 1 + length {A = Bracket} [] ≡ 1
none_open = refl

-- what SUPERTYPE says
pass_super : (g : Goal) (s : Supertype) (ys : List Symbol) (ws : List Word) → FitsSupertype g.levels s
    → Led g (Sub ∷ ys) ws → Led g (Super ∷ ys) (words_of_supertype s ++ ws)
pass_super g unsaid ys ws f h = wider g Sub Super ys ws (super_wider g.levels) h
pass_super g bare ys ws f h = step g Super (SuperOf ∷ []) ys (keyword keywords.Supertype) ws refl
    (wider g Sub SuperOf ys ws (super_of_wider g.levels) h)
pass_super g (of_one n) ys ws f h =
    in_expression g (name n ∷ []) ys ws (λ more k. step g (Expressed [] false) (Expressed [] true ∷ []) (Sub ∷ ys)
    (name n) more refl k) h
pass_super g (of_one_of names) ys ws f h =
    let inner = Expressed (parenthesis ∷ []) true in
    let all = Sub ∷ ys in
    in_expression g (name (codes "ONEOF") ∷ words_of_names names) ys ws (λ more k.
    step g (Expressed [] false) (Expressed [] true ∷ []) all (name (codes "ONEOF")) (words_of_names names ++ more) refl
    (step g (Expressed [] true) (inner ∷ []) all (mark marks.Open)
    ((with_commas (map words_of_name names) ++ mark marks.Close ∷ []) ++ more)
    (next_opening g.levels predict.in_parentheses 1 1 [] true parenthesis none_open (one_open g))
    (regroup g (inner ∷ all) (with_commas (map words_of_name names)) (mark marks.Close ∷ []) more
    (names_inside g names all (mark marks.Close ∷ more)
    (step g inner (Expressed [] true ∷ []) all (mark marks.Close) more refl k))))) h
pass_super g (of_other r) ys ws f h = in_expression g (words_of_run r) ys ws
    (λ more k. pass_some g r predict.in_parentheses 1 (Sub ∷ ys) more f.0 f.1 k) h

pass_abstract : (g : Goal) (a : Bool) (ys : List Symbol) (ws : List Word) → Led g (Super ∷ ys) ws
    → Led g (Head ∷ ys) (said keywords.Abstract a ++ ws)
pass_abstract g true ys ws h = step g Head (Super ∷ []) ys (keyword keywords.Abstract) ws refl h
pass_abstract g false ys ws h = wider g Super Head ys ws (head_wider g.levels) h

-- a head behind the name of its entity
pub pass_head : (g : Goal) (e : Entity) (ys : List Symbol) (ws : List Word) → FitsSupertype g.levels e.supertype
    → Maybe IsFilled e.subtype_of → Led g ys ws
    → Led g (Head ∷ ys) ((said keywords.Abstract e.is_abstract ++ words_of_supertype e.supertype
    ++ words_of_subtype e.subtype_of ++ mark marks.Semicolon ∷ []) ++ ws)
pass_head g e ys ws f k h =
    let all = Head ∷ ys in
    let a = said keywords.Abstract e.is_abstract in
    let s = words_of_supertype e.supertype in
    let t = words_of_subtype e.subtype_of in
    let last = mark marks.Semicolon ∷ ws in
    regroup g all (a ++ s ++ t) (mark marks.Semicolon ∷ []) ws
    (regroup g all (a ++ s) t last
    (regroup g all a s (t ++ last)
    (pass_abstract g e.is_abstract ys (s ++ (t ++ last))
    (pass_super g e.supertype ys (t ++ last) f
    (pass_sub g e.subtype_of ys ws k h)))))
