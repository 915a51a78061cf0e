-- The words of a schema's spelling (ISO 10303-11, annex A).
use Rattle.std.specs.Prelude.{ℕ, Bool, true, false, List, [], ◌∷◌, ◌++◌, Option, None, Some, map, codes}
use Rattle.express_lexer.specs.declared.marks.Mark.TheVariants as marks
use Rattle.express_syntax.specs.declared.keyword.Keyword.{Keyword}
use Rattle.express_syntax.specs.declared.keyword.Keyword.TheVariants as keywords
use Rattle.express_syntax.specs.declared.expression.Sign.{Sign}
use Rattle.express_syntax.specs.Words.{Word, keyword, name, mark}
use Rattle.express_syntax.specs.Words as words
use Rattle.express_syntax.specs.Trees.{words as words_of_tree, word_of_sign}
use Rattle.express_syntax.specs.Runs.{words_of_run, words_of_routine}
use Rattle.express_syntax.specs.Schemas.{Body, parsed, set_aside, Rule, Bound, value, unlimited, other_bound, Bounds, Width, width, other_width, DataType, integer, number, boolean, logical, real, string, binary, named, array, list, bag, set, Underlying, enumeration, select, data_type, TypeDeclaration, Supertype, unsaid, bare, of_one, of_one_of, of_other, Attribute, own, redeclared, Explicit, Derived, Collection, alone, in_set, in_bag, Inverse, Unique, Entity, Skipped, function, procedure, rule, constants, subtype_constraint, Declaration, type, entity, skipped, Schema}

abbrev pub concatenated : List (List Word) → List Word
concatenated [] = []
concatenated (ws ∷ more) = ws ++ concatenated more

-- the keyword, if the flag is set
abbrev pub said : Keyword → Bool → List Word
said k true = keyword k ∷ []
said k false = []

abbrev pub with_commas : List (List Word) → List Word
with_commas [] = []
with_commas (ws ∷ more) = ws ++ concatenated (map (λ us. mark marks.Comma ∷ us) more)

abbrev pub words_of_name : List ℕ → List Word
words_of_name n = name n ∷ []

-- names in parentheses
abbrev pub words_of_names : List (List ℕ) → List Word
words_of_names names = mark marks.Open ∷ (with_commas (map words_of_name names) ++ mark marks.Close ∷ [])

abbrev pub words_of_body : Body → List Word
words_of_body (parsed x) = words_of_tree x
words_of_body (set_aside r) = words_of_run r

abbrev pub words_of_label : Option (List ℕ) → List Word
words_of_label None = []
words_of_label (Some n) = name n ∷ mark marks.Colon ∷ []

abbrev pub words_of_rule : Rule → List Word
words_of_rule r = words_of_label r.label ++ words_of_body r.body ++ mark marks.Semicolon ∷ []

-- a clause, if any, with the word that begins it
abbrev pub words_of_clause : {A : Type 0} → Keyword → (A → List Word) → Option (List A) → List Word
words_of_clause k write None = []
words_of_clause k write (Some xs) = keyword k ∷ concatenated (map write xs)

abbrev pub words_of_sign : Option Sign → List Word
words_of_sign None = []
words_of_sign (Some s) = word_of_sign s ∷ []

abbrev pub words_of_bound : Bound → List Word
words_of_bound (value s n) = words_of_sign s ++ words.integer n ∷ []
words_of_bound unlimited = mark marks.Unknown ∷ []
words_of_bound (other_bound r) = words_of_run r

abbrev pub words_of_bounds : Bounds → List Word
words_of_bounds b = mark marks.OpenBracket ∷ (words_of_bound b.lower ++ mark marks.Colon
    ∷ (words_of_bound b.upper ++ mark marks.CloseBracket ∷ []))

abbrev pub words_of_some_bounds : Option Bounds → List Word
words_of_some_bounds None = []
words_of_some_bounds (Some b) = words_of_bounds b

abbrev pub words_of_width : Width → List Word
words_of_width (width n) = mark marks.Open ∷ words.integer n ∷ mark marks.Close ∷ []
words_of_width (other_width r) = mark marks.Open ∷ (words_of_run r ++ mark marks.Close ∷ [])

abbrev pub words_of_some_width : Option Width → List Word
words_of_some_width None = []
words_of_some_width (Some w) = words_of_width w

abbrev pub words_of_fixed : Option (Width × Bool) → List Word
words_of_fixed None = []
words_of_fixed (Some w) = words_of_width w.0 ++ said keywords.Fixed w.1

abbrev pub words_of_data_type : DataType → List Word
words_of_data_type integer = keyword keywords.Integer ∷ []
words_of_data_type number = keyword keywords.Number ∷ []
words_of_data_type boolean = keyword keywords.Boolean ∷ []
words_of_data_type logical = keyword keywords.Logical ∷ []
words_of_data_type (real w) = keyword keywords.Real ∷ words_of_some_width w
words_of_data_type (string w) = keyword keywords.String ∷ words_of_fixed w
words_of_data_type (binary w) = keyword keywords.Binary ∷ words_of_fixed w
words_of_data_type (named n) = name n ∷ []
words_of_data_type (array b o u k) = keyword keywords.Array ∷ (words_of_bounds b ++ keyword keywords.Of
    ∷ (said keywords.Optional o ++ said keywords.Unique u ++ words_of_data_type k))
words_of_data_type (list b u k) = keyword keywords.List ∷ (words_of_some_bounds b ++ keyword keywords.Of
    ∷ (said keywords.Unique u ++ words_of_data_type k))
words_of_data_type (bag b k) = keyword keywords.Bag ∷ (words_of_some_bounds b ++ keyword keywords.Of
    ∷ words_of_data_type k)
words_of_data_type (set b k) = keyword keywords.Set ∷ (words_of_some_bounds b ++ keyword keywords.Of
    ∷ words_of_data_type k)

abbrev pub words_of_underlying : Underlying → List Word
words_of_underlying (enumeration names) = keyword keywords.Enumeration ∷ keyword keywords.Of ∷ words_of_names names
words_of_underlying (select names) = keyword keywords.Select ∷ words_of_names names
words_of_underlying (data_type k) = words_of_data_type k

-- TYPE name = underlying ; [WHERE rules] END_TYPE ;
abbrev pub words_of_type : TypeDeclaration → List Word
words_of_type t =
    keyword keywords.Type ∷ name t.name ∷ mark marks.Equal ∷ (words_of_underlying t.underlying ++ mark marks.Semicolon
    ∷ (words_of_clause keywords.Where words_of_rule t.rules ++ keyword keywords.EndType ∷ mark marks.Semicolon
    ∷ []))

-- a supertype expression in its parentheses
abbrev pub words_of_expression : List Word → List Word
words_of_expression ws = keyword keywords.Supertype ∷ keyword keywords.Of ∷ mark marks.Open
    ∷ (ws ++ mark marks.Close ∷ [])

abbrev pub words_of_supertype : Supertype → List Word
words_of_supertype unsaid = []
words_of_supertype bare = keyword keywords.Supertype ∷ []
words_of_supertype (of_one n) = words_of_expression (name n ∷ [])
words_of_supertype (of_one_of names) = words_of_expression (name (codes "ONEOF") ∷ words_of_names names)
words_of_supertype (of_other r) = words_of_expression (words_of_run r)

abbrev pub words_of_subtype : Option (List (List ℕ)) → List Word
words_of_subtype None = []
words_of_subtype (Some names) = keyword keywords.Subtype ∷ keyword keywords.Of ∷ words_of_names names

abbrev pub words_of_attribute : Attribute → List Word
words_of_attribute (own n) = name n ∷ []
words_of_attribute (redeclared e n) = keyword keywords.SelfWord ∷ mark marks.Backslash ∷ name e ∷ mark marks.Dot
    ∷ name n ∷ []

abbrev pub words_of_explicit : Explicit → List Word
words_of_explicit a = with_commas (map words_of_attribute a.attributes) ++ mark marks.Colon
    ∷ (said keywords.Optional a.optional ++ words_of_data_type a.data_type ++ mark marks.Semicolon ∷ [])

abbrev pub words_of_derived : Derived → List Word
words_of_derived a = words_of_attribute a.attribute ++ mark marks.Colon
    ∷ (words_of_data_type a.data_type ++ mark marks.Assign ∷ (words_of_body a.body ++ mark marks.Semicolon ∷ []))

abbrev pub words_of_collection : Collection → List Word
words_of_collection alone = []
words_of_collection (in_set b) = keyword keywords.Set ∷ (words_of_some_bounds b ++ keyword keywords.Of ∷ [])
words_of_collection (in_bag b) = keyword keywords.Bag ∷ (words_of_some_bounds b ++ keyword keywords.Of ∷ [])

abbrev pub words_of_holder : Option (List ℕ) → List Word
words_of_holder None = []
words_of_holder (Some n) = name n ∷ mark marks.Dot ∷ []

abbrev pub words_of_inverse : Inverse → List Word
words_of_inverse a = words_of_attribute a.attribute ++ mark marks.Colon
    ∷ (words_of_collection a.collection ++ name a.entity ∷ keyword keywords.For
    ∷ (words_of_holder a.holder ++ name a.inverted ∷ mark marks.Semicolon ∷ []))

abbrev pub words_of_unique : Unique → List Word
words_of_unique u = words_of_label u.label ++ with_commas (map words_of_attribute u.attributes) ++ mark marks.Semicolon
    ∷ []

-- ENTITY name, its supertype and subtype clauses ;
abbrev pub words_of_head : Entity → List Word
words_of_head e = keyword keywords.Entity ∷ name e.name
    ∷ (said keywords.Abstract e.is_abstract ++ words_of_supertype e.supertype ++ words_of_subtype e.subtype_of
    ++ mark marks.Semicolon ∷ [])

abbrev pub words_of_entity : Entity → List Word
words_of_entity e =
    words_of_head e ++ concatenated (map words_of_explicit e.explicits) ++ words_of_clause keywords.Derive words_of_derived
    e.derived ++ words_of_clause keywords.Inverse words_of_inverse e.inverses
    ++ words_of_clause keywords.Unique words_of_unique e.uniques ++ words_of_clause keywords.Where words_of_rule e.rules
    ++ keyword keywords.EndEntity ∷ mark marks.Semicolon ∷ []

abbrev pub words_of_skipped : Skipped → List Word
words_of_skipped (function n r) = name (codes "FUNCTION") ∷ name n ∷ (words_of_routine r ++ mark marks.Semicolon ∷ [])
words_of_skipped (procedure n r) = name (codes "PROCEDURE") ∷ name n ∷ (words_of_routine r ++ mark marks.Semicolon ∷ [])
words_of_skipped (rule n ws) = name (codes "RULE") ∷ name n ∷ (ws ++ name (codes "END_RULE") ∷ mark marks.Semicolon
    ∷ [])
words_of_skipped (constants ws) = name (codes "CONSTANT") ∷ (ws ++ name (codes "END_CONSTANT") ∷ mark marks.Semicolon
    ∷ [])
words_of_skipped (subtype_constraint n ws) = name (codes "SUBTYPE_CONSTRAINT") ∷ name n
    ∷ (ws ++ name (codes "END_SUBTYPE_CONSTRAINT") ∷ mark marks.Semicolon ∷ [])

abbrev pub words_of_declaration : Declaration → List Word
words_of_declaration (type t) = words_of_type t
words_of_declaration (entity e) = words_of_entity e
words_of_declaration (skipped s) = words_of_skipped s

abbrev pub words_of_version : Option Word → List Word
words_of_version None = []
words_of_version (Some w) = w ∷ []

-- SCHEMA name [version] ;
abbrev pub words_of_opening : Schema → List Word
words_of_opening x = keyword keywords.Schema ∷ name x.name ∷ (words_of_version x.version ++ mark marks.Semicolon ∷ [])

-- opening, declarations, END_SCHEMA ;
abbrev pub words_of_schema : Schema → List Word
words_of_schema x = words_of_opening x ++ concatenated (map words_of_declaration x.declarations) ++ keyword keywords.EndSchema
    ∷ mark marks.Semicolon ∷ []
