-- The words of a schema that fits lead to nothing more.
use Rattle.std.proofs.Common.{◌≡◌, ℕ, ◌≤◌, List, [], ◌∷◌, ◌++◌, Option, None, Some, Ok, refl, sym, subst, map}
use Rattle.parsing.proofs.Leading.{Leads}
use Rattle.express_lexer.specs.declared.marks.Mark.TheVariants as marks
use Rattle.express_syntax.specs.declared.keyword.Keyword.TheVariants as keywords
use Rattle.express_syntax.specs.Words.{Word, keyword, name, mark}
use Rattle.express_syntax.specs.Words as words
use Rattle.express_syntax.specs.Grammar.{depth_limit}
use Rattle.express_syntax.specs.Texts.{Lookahead, token, end_of_text, lookaheads_of}
use Rattle.express_syntax.specs.Schemas.{Underlying, enumeration, select, data_type, TypeDeclaration, Rule, Declaration, type, entity, skipped, Schema}
use Rattle.express_syntax.specs.WrittenSchemas.{concatenated, words_of_names, words_of_rule, words_of_clause, words_of_underlying, words_of_type, words_of_declaration, words_of_version, words_of_opening}
use Rattle.express_syntax.specs.Profile.{Maybe, FitsRules, FitsUnderlying, FitsType, FitsDeclaration, IsVersion, FitsSchema}
use Rattle.express_syntax.specs.steps.Predict.{Symbol, Just, Say, Id, Version, Declarations, EndOfText, semicolon, DataTypeThen, TypeEnd, Rules, names_symbols, schema_symbols, next}
use Rattle.express_syntax.specs.steps.Predict as predict
use Rattle.express_syntax.specs.steps.Steps.{IsSchema}
use Rattle.express_syntax.proofs.Passing.{Goal, Led, step, regroup, wider, pass_mark, pass_say, pass_id, pass_names}
use Rattle.express_syntax.proofs.PassingRules.{pass_rules, pass_rules_end}
use Rattle.express_syntax.proofs.PassingDataTypes.{pass_data_type}
use Rattle.express_syntax.proofs.PassingEntities.{pass_each, pass_entity}
use Rattle.express_syntax.proofs.PassingSkipped.{pass_skipped}

underlying_wider : (levels : ℕ) (w : Lookahead) (us : List Symbol) → next levels (DataTypeThen 0 semicolon) w ≡ Ok us
    → next levels predict.Underlying w ≡ Ok us
underlying_wider levels (token (keyword keywords.Enumeration)) us e = absurd cc
underlying_wider levels (token (keyword keywords.Select)) us e = absurd cc
underlying_wider levels w us e = e

-- what a type is, and the semicolon
pass_underlying : (g : Goal) (u : Underlying) (ys : List Symbol) (ws : List Word) → FitsUnderlying g.levels u
    → Led g ys ws → Led g (predict.Underlying ∷ ys) (words_of_underlying u ++ mark marks.Semicolon ∷ ws)
pass_underlying g (enumeration names) ys ws f h =
    let last = mark marks.Semicolon ∷ ws in
    step g predict.Underlying (Say keywords.Of ∷ (names_symbols ++ Just marks.Semicolon ∷ [])) ys
    (keyword keywords.Enumeration) (keyword keywords.Of ∷ words_of_names names ++ last) refl
    (pass_say g keywords.Of (names_symbols ++ Just marks.Semicolon ∷ ys) (words_of_names names ++ last)
    (pass_names g names (Just marks.Semicolon ∷ ys) last f (pass_mark g marks.Semicolon ys ws h)))
pass_underlying g (select names) ys ws f h =
    let last = mark marks.Semicolon ∷ ws in
    step g predict.Underlying (names_symbols ++ Just marks.Semicolon ∷ []) ys (keyword keywords.Select)
    (words_of_names names ++ last) refl
    (pass_names g names (Just marks.Semicolon ∷ ys) last f (pass_mark g marks.Semicolon ys ws h))
pass_underlying g (data_type k) ys ws f h =
    wider g (DataTypeThen 0 semicolon) predict.Underlying ys (words_of_underlying (data_type k) ++ mark marks.Semicolon
    ∷ ws) (underlying_wider g.levels) (pass_data_type g k 0 semicolon ys ws f h)

-- its rules and its end
pass_type_end : (g : Goal) (rules : Option (List Rule)) (ys : List Symbol) (ws : List Word)
    → Maybe (FitsRules g.levels keywords.EndType) rules → Led g ys ws
    → Led g (TypeEnd ∷ ys) (words_of_clause keywords.Where words_of_rule rules ++ keyword keywords.EndType
    ∷ mark marks.Semicolon ∷ ws)
pass_type_end g None ys ws f h = step g TypeEnd (Just marks.Semicolon ∷ []) ys (keyword keywords.EndType)
    (mark marks.Semicolon ∷ ws) refl (pass_mark g marks.Semicolon ys ws h)
pass_type_end g (Some rules) ys ws f h =
    let last = keyword keywords.EndType ∷ mark marks.Semicolon ∷ ws in
    step g TypeEnd (Rules keywords.EndType ∷ []) ys (keyword keywords.Where) (concatenated (map words_of_rule rules) ++ last)
    refl
    (pass_rules g keywords.EndType rules ys last f (pass_rules_end g keywords.EndType ys ws h))

-- a type
pub pass_type : (g : Goal) (t : TypeDeclaration) (ys : List Symbol) (ws : List Word) → FitsType g.levels t
    → Led g (Declarations ∷ ys) ws → Led g (Declarations ∷ ys) (words_of_type t ++ ws)
pass_type g t ys ws f h =
    let all = Declarations ∷ ys in
    let rules = words_of_clause keywords.Where words_of_rule t.rules in
    let end = keyword keywords.EndType ∷ mark marks.Semicolon ∷ [] in
    let underlying = words_of_underlying t.underlying in
    let behind = (underlying ++ mark marks.Semicolon ∷ (rules ++ end)) ++ ws in
    step g Declarations (Id ∷ Just marks.Equal ∷ predict.Underlying ∷ TypeEnd ∷ Declarations ∷ []) ys
    (keyword keywords.Type) (name t.name ∷ mark marks.Equal ∷ behind) refl
    (pass_id g t.name (Just marks.Equal ∷ predict.Underlying ∷ TypeEnd ∷ all) (mark marks.Equal ∷ behind)
    (pass_mark g marks.Equal (predict.Underlying ∷ TypeEnd ∷ all) behind
    (regroup g (predict.Underlying ∷ TypeEnd ∷ all) underlying (mark marks.Semicolon ∷ (rules ++ end)) ws
    (pass_underlying g t.underlying (TypeEnd ∷ all) ((rules ++ end) ++ ws) f.0
    (regroup g (TypeEnd ∷ all) rules end ws (pass_type_end g t.rules all ws f.1 h))))))

-- a declaration
pub pass_declaration : (g : Goal) (ys : List Symbol) (d : Declaration) (ws : List Word) → FitsDeclaration g.levels d
    → Led g (Declarations ∷ ys) ws → Led g (Declarations ∷ ys) (words_of_declaration d ++ ws)
pass_declaration g ys (type t) ws f h = pass_type g t ys ws f h
pass_declaration g ys (entity e) ws f h = pass_entity g e ys ws f h
pass_declaration g ys (skipped s) ws f h = pass_skipped g s ys ws f h

pass_version : (g : Goal) (version : Option Word) (ys : List Symbol) (ws : List Word) → Maybe IsVersion version
    → Led g ys ws → Led g (Version ∷ ys) (words_of_version version ++ mark marks.Semicolon ∷ ws)
pass_version g None ys ws f h = step g Version [] ys (mark marks.Semicolon) ws refl h
pass_version g (Some (words.string t)) ys ws f h = step g Version (Just marks.Semicolon ∷ []) ys (words.string t)
    (mark marks.Semicolon ∷ ws) refl (pass_mark g marks.Semicolon ys ws h)
pass_version g (Some (words.encoded t)) ys ws f h = step g Version (Just marks.Semicolon ∷ []) ys (words.encoded t)
    (mark marks.Semicolon ∷ ws) refl (pass_mark g marks.Semicolon ys ws h)
pass_version g (Some w) ys ws f h = absurd f

-- what a schema begins with
pub pass_opening : (g : Goal) (x : Schema) (ys : List Symbol) (ws : List Word) → Maybe IsVersion x.version → Led g ys ws
    → Led g (Say keywords.Schema ∷ Id ∷ Version ∷ ys) (words_of_opening x ++ ws)
pass_opening g x ys ws f h =
    let version = words_of_version x.version in
    let behind = (version ++ mark marks.Semicolon ∷ []) ++ ws in
    pass_say g keywords.Schema (Id ∷ Version ∷ ys) (name x.name ∷ behind)
    (pass_id g x.name (Version ∷ ys) behind
    (regroup g (Version ∷ ys) version (mark marks.Semicolon ∷ []) ws (pass_version g x.version ys ws f h)))

-- a schema, where the end of the text is behind it
pub pass_schema : (levels : ℕ) → depth_limit ≤ levels → (x : Schema) → FitsSchema levels x
    → Leads (next levels) schema_symbols (lookaheads_of x) []
pass_schema levels deep x f =
    let g : Goal = record { levels = levels; deep = deep; behind = end_of_text ∷ []; left = []; ends = λ e. refl } in
    let declarations = concatenated (map words_of_declaration x.declarations) in
    let end = keyword keywords.EndSchema ∷ mark marks.Semicolon ∷ [] in
    let rest = Declarations ∷ EndOfText ∷ [] in
    regroup g schema_symbols (words_of_opening x) declarations end
    (pass_opening g x rest (declarations ++ end) f.0
    (pass_each g Declarations (EndOfText ∷ []) Declaration words_of_declaration (FitsDeclaration levels)
    (pass_declaration g (EndOfText ∷ [])) x.declarations end f.1
    (step g Declarations (Just marks.Semicolon ∷ []) (EndOfText ∷ []) (keyword keywords.EndSchema) (mark marks.Semicolon
    ∷ []) refl
    (pass_mark g marks.Semicolon (EndOfText ∷ []) [] ([], refl, refl)))))

-- a schema and the end of the text, as lookaheads
pub pass_language : (levels : ℕ) → depth_limit ≤ levels → (s : List Lookahead) → IsSchema levels s
    → Leads (next levels) schema_symbols s []
pass_language levels deep s h =
    let P : List Lookahead → Type 0 = λ l. Leads (next levels) schema_symbols l [] in
    subst P (sym h.2) (pass_schema levels deep h.0 h.1)
