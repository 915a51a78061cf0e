-- The predictive table: a stack of what is still expected, in which each symbol takes one token. No
-- promise rests on this table: it connects the definitions, which speak of trees and prefixes, with
-- the reader.
use Rattle.std.specs.Prelude.{ℕ, zero, suc, ◌+◌, nat_lt, Bool, true, false, if◌then◌else◌, List, [], ◌∷◌, ◌++◌, length, Result, Ok, Err, codes}
use Rattle.std.specs.Str.{bytes_eq}
use Rattle.parsing.specs.Tables as tables
use Rattle.express_lexer.specs.declared.marks.Mark.{Mark}
use Rattle.express_lexer.specs.declared.marks.Mark.TheVariants as marks
use Rattle.express_lexer.specs.Marks.{mark_text}
use Rattle.express_syntax.specs.declared.keyword.Keyword.{Keyword}
use Rattle.express_syntax.specs.declared.keyword.Keyword.TheVariants as keywords
use Rattle.express_syntax.specs.Keywords.{keyword_text}
use Rattle.express_syntax.specs.Words.{keyword, name, mark, string, encoded}
use Rattle.express_syntax.specs.declared.fault.FaultKind.{FaultKind}
use Rattle.express_syntax.specs.declared.fault.FaultKind.TheVariants as fault_kinds
use Rattle.express_syntax.specs.declared.fault.LeftOut.TheVariants as left_out
use Rattle.express_syntax.specs.Runs.{Bracket, parenthesis, square, brace}
use Rattle.express_syntax.specs.Texts.{Lookahead, token, flawed, end_of_text, LocatedToken}

-- the purpose of a run of tokens, which decides what ends it
pub data RunEnd : Type 0 where
  in_rule : RunEnd
  in_lower : RunEnd
  in_upper : RunEnd
  in_parentheses : RunEnd

-- what follows a data type
pub data Ending : Type 0 where
  semicolon : Ending
  assignment : Ending

abbrev pub ending_mark : Ending → Mark
ending_mark semicolon = marks.Semicolon
ending_mark assignment = marks.Assign

-- the clauses of an entity
pub data Clause : Type 0 where
  explicits : Clause
  derived : Clause
  inverses : Clause
  uniques : Clause

pub data Symbol : Type 0 where
  Just : Mark → Symbol
  Say : Keyword → Symbol
  Id : Symbol
  -- after a name in parentheses: further names, and the closing parenthesis
  Names : Symbol
  -- after the name of the schema: its version, and the semicolon
  Version : Symbol
  Declarations : Symbol
  EndOfText : Symbol
  -- the name of a skipped declaration, and the semicolon that ends it
  SkippedName : Symbol
  SkippedEnd : Symbol
  -- after the name of a function, with this number of others open
  Routine : ℕ → Symbol
  -- words up to and including this one
  Until : List ℕ → Symbol
  Underlying : Symbol
  -- a data type with this number of aggregate types around it, and the mark after it
  DataTypeThen : ℕ → Ending → Symbol
  -- after REAL, STRING and BINARY
  WidthOr : ℕ → Ending → Symbol
  FixedWidthOr : ℕ → Ending → Symbol
  FixedOr : Ending → Symbol
  -- after LIST, BAG and SET: optional bounds, and OF
  BoundsOrOf : ℕ → Symbol
  -- after OF of an ARRAY, of a LIST
  OptionalOr : ℕ → Ending → Symbol
  UniqueOr : ℕ → Ending → Symbol
  -- a run of tokens: the number of brackets and aggregate types open around it, the brackets that
  -- it has open itself, whether it has a token already, and what ends it
  Running : RunEnd → ℕ → List Bracket → Bool → Symbol
  -- after a TYPE's semicolon
  TypeEnd : Symbol
  -- rules, and the word that ends them
  Rules : Keyword → Symbol
  -- a rule after the name that begins it, and the other rules
  Labelled : Keyword → Symbol
  -- after the name of an entity
  Head : Symbol
  -- after ABSTRACT
  Super : Symbol
  -- after SUPERTYPE
  SuperOf : Symbol
  -- after a supertype expression
  Sub : Symbol
  -- the rest of an entity, from this clause on
  Body : Clause → Symbol
  -- an attribute, perhaps redeclared
  AnAttribute : Symbol
  -- after an explicit attribute: further ones, and their data type
  Explicits : Symbol
  OptionalDataType : Symbol
  -- after the colon of an inverse attribute
  Inverted : Symbol
  -- after the inverted attribute, or its entity
  Holder : Symbol
  -- after an attribute of UNIQUE: further ones
  Uniques : Symbol
  -- after the name that begins a uniqueness rule
  UniqueNamed : Symbol

-- the fault if something else was expected
abbrev pub refused : Lookahead → FaultKind
refused flawed = fault_kinds.BadToken
refused (token (keyword keywords.Use)) = fault_kinds.LeftOut left_out.Use
refused (token (keyword keywords.Reference)) = fault_kinds.LeftOut left_out.Reference
refused (token (keyword keywords.Renamed)) = fault_kinds.LeftOut left_out.Renamed
refused (token (keyword keywords.Extensible)) = fault_kinds.LeftOut left_out.Extensible
refused (token (keyword keywords.BasedOn)) = fault_kinds.LeftOut left_out.BasedOn
refused (token (keyword keywords.GenericEntity)) = fault_kinds.LeftOut left_out.GenericEntity
refused (token (keyword keywords.Schema)) = fault_kinds.LeftOut left_out.SecondSchema
refused _ = fault_kinds.Expected

abbrev pub Next : Type 0
Next = Result (List Symbol) FaultKind

abbrev pub same_mark : Mark → Mark → Bool
same_mark m k = bytes_eq (mark_text m) (mark_text k)

abbrev pub same_keyword : Keyword → Keyword → Bool
same_keyword m k = bytes_eq (keyword_text m) (keyword_text k)

abbrev pub is_mark : Mark → Lookahead → Bool
is_mark m (token (mark k)) = same_mark m k
is_mark m _ = false

abbrev pub is_keyword : Keyword → Lookahead → Bool
is_keyword m (token (keyword k)) = same_keyword m k
is_keyword m _ = false

abbrev pub next_id : Lookahead → Next
next_id (token (name n)) = Ok []
next_id s = Err (refused s)

abbrev pub next_names : Lookahead → Next
next_names (token (mark marks.Comma)) = Ok (Id ∷ Names ∷ [])
next_names (token (mark marks.Close)) = Ok []
next_names s = Err (refused s)

-- names in parentheses
abbrev pub names_symbols : List Symbol
names_symbols = Just marks.Open ∷ Id ∷ Names ∷ []

abbrev pub next_version : Lookahead → Next
next_version (token (string t)) = Ok (Just marks.Semicolon ∷ [])
next_version (token (encoded t)) = Ok (Just marks.Semicolon ∷ [])
next_version (token (mark marks.Semicolon)) = Ok []
next_version s = Err (refused s)

-- the fault inside a skipped declaration, where no token begins a part that isn't read
abbrev pub refused_inside : Lookahead → FaultKind
refused_inside flawed = fault_kinds.BadToken
refused_inside _ = fault_kinds.Expected

abbrev pub next_skipped_name : Lookahead → Next
next_skipped_name (token (name n)) = Ok []
next_skipped_name s = Err (refused_inside s)

abbrev pub next_skipped_end : Lookahead → Next
next_skipped_end (token (mark marks.Semicolon)) = Ok []
next_skipped_end s = Err (refused_inside s)

-- a skipped declaration after this name
abbrev pub skipped_symbols : List ℕ → Next
skipped_symbols n =
    if bytes_eq n (codes "FUNCTION") then Ok (SkippedName ∷ Routine 0 ∷ SkippedEnd ∷ Declarations ∷ [])
    else (if bytes_eq n (codes "PROCEDURE") then Ok (SkippedName ∷ Routine 0 ∷ SkippedEnd ∷ Declarations ∷ [])
    else (if bytes_eq n (codes "RULE") then Ok (SkippedName ∷ Until (codes "END_RULE") ∷ SkippedEnd ∷ Declarations ∷ [])
    else (if bytes_eq n (codes "CONSTANT") then Ok (Until (codes "END_CONSTANT") ∷ SkippedEnd ∷ Declarations ∷ [])
    else (if bytes_eq n (codes "SUBTYPE_CONSTRAINT") then Ok (SkippedName ∷ Until (codes "END_SUBTYPE_CONSTRAINT")
    ∷ SkippedEnd ∷ Declarations ∷ [])
    else Err fault_kinds.Expected))))

abbrev pub next_declaration : Lookahead → Next
next_declaration (token (keyword keywords.Type)) = Ok (Id ∷ Just marks.Equal ∷ Underlying ∷ TypeEnd ∷ Declarations ∷ [])
next_declaration (token (keyword keywords.Entity)) = Ok (Id ∷ Head ∷ Body explicits ∷ Declarations ∷ [])
next_declaration (token (keyword keywords.EndSchema)) = Ok (Just marks.Semicolon ∷ [])
next_declaration (token (name n)) = skipped_symbols n
next_declaration s = Err (refused s)

abbrev pub next_end_of_text : Lookahead → Next
next_end_of_text end_of_text = Ok []
next_end_of_text s = Err (refused s)

abbrev pub opens_routine : List ℕ → Bool
opens_routine n = if bytes_eq n (codes "FUNCTION") then true else bytes_eq n (codes "PROCEDURE")

abbrev pub closes_routine : List ℕ → Bool
closes_routine n = if bytes_eq n (codes "END_FUNCTION") then true else bytes_eq n (codes "END_PROCEDURE")

abbrev pub left_routine : ℕ → List Symbol
left_routine zero = []
left_routine (suc n) = Routine n ∷ []

-- any token may occur in a skipped declaration
abbrev pub next_routine : ℕ → Lookahead → Next
next_routine n (token (name m)) = if opens_routine m then Ok (Routine (n + 1) ∷ []) else
    (if closes_routine m then Ok (left_routine n) else Ok (Routine n ∷ []))
next_routine n (token w) = Ok (Routine n ∷ [])
next_routine n s = Err (refused s)

abbrev pub next_until : List ℕ → Lookahead → Next
next_until end (token (name n)) = if bytes_eq n end then Ok [] else Ok (Until end ∷ [])
next_until end (token w) = Ok (Until end ∷ [])
next_until end s = Err (refused s)

-- after an opening bracket with this number of brackets open around it: the bounds, and OF
abbrev pub bounds_symbols : ℕ → List Symbol
bounds_symbols n = Running in_lower (n + 1) [] false ∷ Running in_upper (n + 1) [] false ∷ Say keywords.Of ∷ []

abbrev pub if_shallow : ℕ → ℕ → List Symbol → Next
if_shallow levels n ys = if nat_lt n levels then Ok ys else Err fault_kinds.TooDeep

abbrev pub next_data_type : ℕ → ℕ → Ending → Lookahead → Next
next_data_type levels n end (token (keyword keywords.Integer)) = Ok (Just (ending_mark end) ∷ [])
next_data_type levels n end (token (keyword keywords.Number)) = Ok (Just (ending_mark end) ∷ [])
next_data_type levels n end (token (keyword keywords.Boolean)) = Ok (Just (ending_mark end) ∷ [])
next_data_type levels n end (token (keyword keywords.Logical)) = Ok (Just (ending_mark end) ∷ [])
next_data_type levels n end (token (keyword keywords.Real)) = Ok (WidthOr n end ∷ [])
next_data_type levels n end (token (keyword keywords.String)) = Ok (FixedWidthOr n end ∷ [])
next_data_type levels n end (token (keyword keywords.Binary)) = Ok (FixedWidthOr n end ∷ [])
next_data_type levels n end (token (name m)) = Ok (Just (ending_mark end) ∷ [])
next_data_type levels n end (token (keyword keywords.Array)) = if_shallow levels n (Just marks.OpenBracket
    ∷ (bounds_symbols n ++ OptionalOr (n + 1) end ∷ []))
next_data_type levels n end (token (keyword keywords.List)) = if_shallow levels n (BoundsOrOf n ∷ UniqueOr (n + 1) end
    ∷ [])
next_data_type levels n end (token (keyword keywords.Bag)) =
    if_shallow levels n (BoundsOrOf n ∷ DataTypeThen (n + 1) end ∷ [])
next_data_type levels n end (token (keyword keywords.Set)) =
    if_shallow levels n (BoundsOrOf n ∷ DataTypeThen (n + 1) end ∷ [])
next_data_type levels n end s = Err (refused s)

abbrev pub next_underlying : ℕ → Lookahead → Next
next_underlying levels (token (keyword keywords.Enumeration)) =
    Ok (Say keywords.Of ∷ (names_symbols ++ Just marks.Semicolon ∷ []))
next_underlying levels (token (keyword keywords.Select)) = Ok (names_symbols ++ Just marks.Semicolon ∷ [])
next_underlying levels s = next_data_type levels 0 semicolon s

-- the mark, or an opening parenthesis with this number open around it and these symbols after it
abbrev pub next_mark_or : ℕ → ℕ → Ending → List Symbol → Lookahead → Next
next_mark_or levels n end ys (token (mark marks.Open)) = if_shallow levels n (Running in_parentheses (n + 1) [] false
    ∷ ys)
next_mark_or levels n end ys s = if is_mark (ending_mark end) s then Ok [] else Err (refused s)

abbrev pub next_fixed : Ending → Lookahead → Next
next_fixed end (token (keyword keywords.Fixed)) = Ok (Just (ending_mark end) ∷ [])
next_fixed end s = if is_mark (ending_mark end) s then Ok [] else Err (refused s)

abbrev pub next_bounds : ℕ → ℕ → Lookahead → Next
next_bounds levels n (token (mark marks.OpenBracket)) = if_shallow levels n (bounds_symbols n)
next_bounds levels n (token (keyword keywords.Of)) = Ok []
next_bounds levels n s = Err (refused s)

abbrev pub next_unique : ℕ → ℕ → Ending → Lookahead → Next
next_unique levels n end (token (keyword keywords.Unique)) = Ok (DataTypeThen n end ∷ [])
next_unique levels n end s = next_data_type levels n end s

abbrev pub next_optional : ℕ → ℕ → Ending → Lookahead → Next
next_optional levels n end (token (keyword keywords.Optional)) = Ok (UniqueOr n end ∷ [])
next_optional levels n end s = next_unique levels n end s

abbrev pub same_bracket : Bracket → Bracket → Bool
same_bracket parenthesis parenthesis = true
same_bracket square square = true
same_bracket brace brace = true
same_bracket _ _ = false

-- whether the mark ends such a run while none of its brackets is open
abbrev pub ends_part : RunEnd → Mark → Bool
ends_part in_rule marks.Semicolon = true
ends_part in_lower marks.Colon = true
ends_part in_upper marks.CloseBracket = true
ends_part in_parentheses marks.Close = true
ends_part _ _ = false

abbrev pub opened : ℕ → RunEnd → ℕ → List Bracket → Bracket → Next
opened levels part n inner b = if_shallow levels (n + length inner) (Running part n (b ∷ inner) true ∷ [])

-- a mark while none of a run's brackets is open: the run's end, or a mark other than a closing
-- bracket
abbrev pub next_outside : RunEnd → ℕ → Bool → Bool → Mark → Next
next_outside part n some closes m = if ends_part part m then (if some then Ok [] else Err fault_kinds.Expected) else
    (if closes then Err fault_kinds.Expected else Ok (Running part n [] true ∷ []))

abbrev pub closed : RunEnd → ℕ → List Bracket → Bool → Bracket → Mark → Next
closed part n [] some b m = next_outside part n some true m
closed part n (c ∷ inner) some b m = if same_bracket b c then Ok (Running part n inner true ∷ []) else Err
    fault_kinds.Expected

abbrev pub next_mark : RunEnd → ℕ → List Bracket → Bool → Mark → Next
next_mark part n [] some m = next_outside part n some false m
next_mark part n (c ∷ inner) some m = Ok (Running part n (c ∷ inner) true ∷ [])

abbrev pub next_running : ℕ → RunEnd → ℕ → List Bracket → Bool → Lookahead → Next
next_running levels part n inner some (token (mark marks.Open)) = opened levels part n inner parenthesis
next_running levels part n inner some (token (mark marks.OpenBracket)) = opened levels part n inner square
next_running levels part n inner some (token (mark marks.OpenBrace)) = opened levels part n inner brace
next_running levels part n inner some (token (mark marks.Close)) = closed part n inner some parenthesis marks.Close
next_running levels part n inner some (token (mark marks.CloseBracket)) = closed part n inner some square
    marks.CloseBracket
next_running levels part n inner some (token (mark marks.CloseBrace)) = closed part n inner some brace marks.CloseBrace
next_running levels part n inner some (token (mark m)) = next_mark part n inner some m
next_running levels part n inner some (token w) = Ok (Running part n inner true ∷ [])
next_running levels part n inner some s = Err (refused s)

abbrev pub then_rules : Keyword → Next → Next
then_rules end (Ok ys) = Ok (ys ++ Rules end ∷ [])
then_rules end (Err k) = Err k

abbrev pub next_rules : ℕ → Keyword → Lookahead → Next
next_rules levels end (token (keyword k)) = if same_keyword k end then Ok (Just marks.Semicolon ∷ []) else Ok
    (Running in_rule 0 [] true ∷ Rules end ∷ [])
next_rules levels end (token (name n)) = Ok (Labelled end ∷ [])
next_rules levels end s = then_rules end (next_running levels in_rule 0 [] false s)

abbrev pub next_labelled : ℕ → Keyword → Lookahead → Next
next_labelled levels end (token (mark marks.Colon)) = Ok (Running in_rule 0 [] false ∷ Rules end ∷ [])
next_labelled levels end s = then_rules end (next_running levels in_rule 0 [] true s)

abbrev pub next_type_end : Lookahead → Next
next_type_end (token (keyword keywords.Where)) = Ok (Rules keywords.EndType ∷ [])
next_type_end (token (keyword keywords.EndType)) = Ok (Just marks.Semicolon ∷ [])
next_type_end s = Err (refused s)

abbrev pub next_sub : Lookahead → Next
next_sub (token (keyword keywords.Subtype)) = Ok (Say keywords.Of ∷ (names_symbols ++ Just marks.Semicolon ∷ []))
next_sub (token (mark marks.Semicolon)) = Ok []
next_sub s = Err (refused s)

abbrev pub next_super_of : Lookahead → Next
next_super_of (token (keyword keywords.Of)) = Ok (Just marks.Open ∷ Running in_parentheses 1 [] false ∷ Sub ∷ [])
next_super_of s = next_sub s

abbrev pub next_super : Lookahead → Next
next_super (token (keyword keywords.Supertype)) = Ok (SuperOf ∷ [])
next_super s = next_sub s

abbrev pub next_head : Lookahead → Next
next_head (token (keyword keywords.Abstract)) = Ok (Super ∷ [])
next_head s = next_super s

-- after SELF where an attribute's name is expected
abbrev pub redeclared_symbols : List Symbol
redeclared_symbols = Just marks.Backslash ∷ Id ∷ Just marks.Dot ∷ Id ∷ []

abbrev pub next_attribute : Lookahead → Next
next_attribute (token (name n)) = Ok []
next_attribute (token (keyword keywords.SelfWord)) = Ok redeclared_symbols
next_attribute s = Err (refused s)

-- what follows the first attribute of this clause
abbrev pub behind_attribute : Clause → List Symbol
behind_attribute explicits = Explicits ∷ []
behind_attribute derived = Just marks.Colon ∷ DataTypeThen 0 assignment ∷ Running in_rule 0 [] false ∷ []
behind_attribute inverses = Just marks.Colon ∷ Inverted ∷ Say keywords.For ∷ Id ∷ Holder ∷ []
behind_attribute uniques = Uniques ∷ []

-- what follows the first attribute of this clause, if that is a name
abbrev pub behind_name : Clause → List Symbol
behind_name uniques = UniqueNamed ∷ []
behind_name c = behind_attribute c

-- whether a clause may follow another
abbrev pub follows : Clause → Clause → Bool
follows explicits explicits = false
follows explicits _ = true
follows derived inverses = true
follows derived uniques = true
follows inverses uniques = true
follows _ _ = false

abbrev pub next_clause : Clause → Clause → Next
next_clause c d = if follows c d then Ok (Body d ∷ []) else Err fault_kinds.Expected

abbrev pub next_body : Clause → Lookahead → Next
next_body c (token (name n)) = Ok (behind_name c ++ Body c ∷ [])
next_body c (token (keyword keywords.SelfWord)) = Ok (redeclared_symbols ++ behind_attribute c ++ Body c ∷ [])
next_body c (token (keyword keywords.Derive)) = next_clause c derived
next_body c (token (keyword keywords.Inverse)) = next_clause c inverses
next_body c (token (keyword keywords.Unique)) = next_clause c uniques
next_body c (token (keyword keywords.Where)) = Ok (Rules keywords.EndEntity ∷ [])
next_body c (token (keyword keywords.EndEntity)) = Ok (Just marks.Semicolon ∷ [])
next_body c s = Err (refused s)

abbrev pub next_explicits : Lookahead → Next
next_explicits (token (mark marks.Comma)) = Ok (AnAttribute ∷ Explicits ∷ [])
next_explicits (token (mark marks.Colon)) = Ok (OptionalDataType ∷ [])
next_explicits s = Err (refused s)

abbrev pub next_optional_data_type : ℕ → Lookahead → Next
next_optional_data_type levels (token (keyword keywords.Optional)) = Ok (DataTypeThen 0 semicolon ∷ [])
next_optional_data_type levels s = next_data_type levels 0 semicolon s

abbrev pub next_inverted : Lookahead → Next
next_inverted (token (keyword keywords.Set)) = Ok (BoundsOrOf 0 ∷ Id ∷ [])
next_inverted (token (keyword keywords.Bag)) = Ok (BoundsOrOf 0 ∷ Id ∷ [])
next_inverted s = next_id s

abbrev pub next_holder : Lookahead → Next
next_holder (token (mark marks.Dot)) = Ok (Id ∷ Just marks.Semicolon ∷ [])
next_holder (token (mark marks.Semicolon)) = Ok []
next_holder s = Err (refused s)

abbrev pub next_uniques : Lookahead → Next
next_uniques (token (mark marks.Comma)) = Ok (AnAttribute ∷ Uniques ∷ [])
next_uniques (token (mark marks.Semicolon)) = Ok []
next_uniques s = Err (refused s)

abbrev pub next_unique_named : Lookahead → Next
next_unique_named (token (mark marks.Colon)) = Ok (AnAttribute ∷ Uniques ∷ [])
next_unique_named s = next_uniques s

-- what replaces this symbol before this token, if at most this number of brackets may be open
abbrev pub next : ℕ → Symbol → Lookahead → Next
next levels (Just m) s = if is_mark m s then Ok [] else Err (refused s)
next levels (Say k) s = if is_keyword k s then Ok [] else Err (refused s)
next levels Id s = next_id s
next levels Names s = next_names s
next levels Version s = next_version s
next levels Declarations s = next_declaration s
next levels EndOfText s = next_end_of_text s
next levels SkippedName s = next_skipped_name s
next levels SkippedEnd s = next_skipped_end s
next levels (Routine n) s = next_routine n s
next levels (Until end) s = next_until end s
next levels Underlying s = next_underlying levels s
next levels (DataTypeThen n end) s = next_data_type levels n end s
next levels (WidthOr n end) s = next_mark_or levels n end (Just (ending_mark end) ∷ []) s
next levels (FixedWidthOr n end) s = next_mark_or levels n end (FixedOr end ∷ []) s
next levels (FixedOr end) s = next_fixed end s
next levels (BoundsOrOf n) s = next_bounds levels n s
next levels (OptionalOr n end) s = next_optional levels n end s
next levels (UniqueOr n end) s = next_unique levels n end s
next levels (Running part n inner some) s = next_running levels part n inner some s
next levels TypeEnd s = next_type_end s
next levels (Rules end) s = next_rules levels end s
next levels (Labelled end) s = next_labelled levels end s
next levels Head s = next_head s
next levels Super s = next_super s
next levels SuperOf s = next_super_of s
next levels Sub s = next_sub s
next levels (Body c) s = next_body c s
next levels AnAttribute s = next_attribute s
next levels Explicits s = next_explicits s
next levels OptionalDataType s = next_optional_data_type levels s
next levels Inverted s = next_inverted s
next levels Holder s = next_holder s
next levels Uniques s = next_uniques s
next levels UniqueNamed s = next_unique_named s

abbrev pub schema_symbols : List Symbol
schema_symbols = Say keywords.Schema ∷ Id ∷ Version ∷ Declarations ∷ EndOfText ∷ []

abbrev pub Outcome : Type 0
Outcome = tables.Outcome Lookahead FaultKind

abbrev pub run : ℕ → List Symbol → List LocatedToken → Outcome
run levels = tables.run (next levels)
