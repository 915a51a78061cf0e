-- A predictive table: what may come next, token by token, given a stack of expected symbols. No contract
-- depends on this table: it connects the definitions, which use trees and viable prefixes, with the reader.
use Rattle.std.specs.Prelude.{ℕ, zero, suc, ◌+◌, nat_lt, Bool, false, not, ◌&&◌, ◌==◌, if◌then◌else◌, List, [], ◌∷◌, ◌++◌, length, Result, Ok, Err, codes}
use Rattle.parsing.specs.Tables.{Table}
use Rattle.step_lexer.specs.declared.token.Mark.{Mark}
use Rattle.step_lexer.specs.declared.token.Mark.TheVariants.{Open, Close, Comma, Semicolon, Equals, Dollar, Asterisk}
use Rattle.step_structures.specs.declared.fault.FaultKind.{FaultKind}
use Rattle.step_structures.specs.declared.fault.FaultKind.TheVariants as kinds
use Rattle.step_structures.specs.declared.fault.LeftOut.TheVariants as left_out
use Rattle.step_structures.specs.Words.{begins, ends, keyword, user_defined, scope, name, number, element, string, binary, mark, Lookahead, token, flawed, end_of_text}
use Rattle.step_structures.specs.Trees.{File, MeetAll, is_said, items_of_file}
use Rattle.step_structures.specs.Fits.{StructureRules, the_rules, FitsFile, has_name, has_keyword}

pub data Symbol : Type 0 where
  Just : Mark → Symbol
  Start : Symbol
  Say : List ℕ → Symbol
  -- a record of the header with this keyword, without its semicolon
  Head : List ℕ → Symbol
  -- the other records of the header, and its end
  Records : Symbol
  -- what follows ENDSEC in the header
  Ended : Symbol
  -- after this many data sections, whose instances have these names: another section, or the end of the file
  Sections : ℕ → List ℕ → Symbol
  -- what follows the keyword DATA
  Behind : Symbol
  Quoted : Symbol
  -- in the section of this number, after instances with these names: more instances, the end of the section,
  -- and the rest of the file
  Rows : ℕ → List ℕ → Symbol
  -- a record, or partial records in parentheses
  Body : Symbol
  -- more partial records after those with these keywords, and the closing parenthesis
  PartialRecords : List (List ℕ) → Symbol
  -- a parameter, with this many parentheses open
  Value : ℕ → Symbol
  -- after an opening parenthesis: the parameters, and the closing one
  Items : ℕ → Symbol
  -- after a parameter: the others, and the closing parenthesis
  More : ℕ → Symbol
  EndOfText : Symbol

-- the fault if this lookahead isn't what was expected
abbrev pub refused : Lookahead → FaultKind
refused (flawed f) = kinds.Token f
refused (token (user_defined text)) = kinds.LeftOut left_out.UserDefined
refused (token scope) = kinds.LeftOut left_out.Scope
refused _ = kinds.Expected

abbrev pub Next : Type 0
Next = Result (List Symbol) FaultKind

abbrev pub mark_code : Mark → ℕ
mark_code Open = 0
mark_code Close = 1
mark_code Comma = 2
mark_code Semicolon = 3
mark_code Equals = 4
mark_code Dollar = 5
mark_code Asterisk = 6

abbrev pub is_mark : Mark → Lookahead → Bool
is_mark m (token (mark k)) = mark_code m == mark_code k
is_mark m _ = false

abbrev pub is_word : List ℕ → Lookahead → Bool
is_word word (token (keyword text)) = is_said word text
is_word word _ = false

abbrev pub next_start : Lookahead → Next
next_start (token begins) = Ok []
next_start s = Err (refused s)

abbrev pub next_say : List ℕ → Lookahead → Next
next_say word (token (keyword text)) = if is_said word text then Ok [] else Err kinds.Expected
next_say word s = Err (refused s)

-- a record of the header or of an instance, after its keyword
abbrev pub record_symbols : List Symbol
record_symbols = Just Open ∷ Items 1 ∷ []

abbrev pub next_head : StructureRules → List ℕ → Lookahead → Next
next_head rules word (token (keyword text)) = if rules.headed && not (is_said word text) then Err kinds.HeaderFault else
    Ok record_symbols
next_head rules word s = Err (refused s)

abbrev pub next_records : Lookahead → Next
next_records (token (keyword text)) = if is_said (codes "ENDSEC") text then Ok (Ended ∷ []) else Ok (Just Open ∷ Items 1
    ∷ Just Semicolon ∷ Records ∷ [])
next_records s = Err (refused s)

abbrev pub next_ended : Lookahead → Next
next_ended (token (mark Semicolon)) = Ok []
next_ended (token (mark Open)) = Ok (Items 1 ∷ Just Semicolon ∷ Records ∷ [])
next_ended s = Err (refused s)

-- the fault of a keyword if a section or the end of the file is expected
abbrev pub section_kind : List ℕ → FaultKind
section_kind text =
    if is_said (codes "ANCHOR") text then kinds.LeftOut left_out.Anchor
    else (if is_said (codes "REFERENCE") text then kinds.LeftOut left_out.Reference
    else (if is_said (codes "SIGNATURE") text then kinds.LeftOut left_out.Signature
    else kinds.Expected))

-- the end of the file comes after at least one section
abbrev pub next_end : ℕ → Next
next_end zero = Err kinds.Expected
next_end (suc n) = Ok (Just Semicolon ∷ EndOfText ∷ [])

abbrev pub next_section : StructureRules → ℕ → List ℕ → Next
next_section rules n names =
    if nat_lt n rules.sections then Ok (Behind ∷ Rows (suc n) names ∷ [])
    else Err (kinds.LeftOut left_out.TooMany)

abbrev pub next_sections : StructureRules → ℕ → List ℕ → Lookahead → Next
next_sections rules n names (token ends) = next_end n
next_sections rules n names (token (keyword text)) = if is_said (codes "DATA") text then next_section rules n names
    else Err (section_kind text)
next_sections rules n names s = Err (refused s)

-- after the parenthesis of a heading
abbrev pub heading_symbols : List Symbol
heading_symbols = Quoted ∷ Just Comma ∷ Just Open ∷ Quoted ∷ Just Close ∷ Just Close ∷ Just Semicolon ∷ []

abbrev pub next_behind : Lookahead → Next
next_behind (token (mark Semicolon)) = Ok []
next_behind (token (mark Open)) = Ok heading_symbols
next_behind s = Err (refused s)

abbrev pub next_quoted : Lookahead → Next
next_quoted (token (string text)) = Ok []
next_quoted s = Err (refused s)

-- an instance, after its name
abbrev pub row_symbols : List Symbol
row_symbols = Just Equals ∷ Body ∷ Just Semicolon ∷ []

abbrev pub next_name : StructureRules → ℕ → List ℕ → ℕ → Next
next_name rules k names n =
    if rules.distinct && has_name n names then Err kinds.DuplicateName
    else (if nat_lt (length names) rules.instances then Ok (row_symbols ++ Rows k (names ++ n ∷ []) ∷ [])
    else Err (kinds.LeftOut left_out.TooMany))

abbrev pub next_rows : StructureRules → ℕ → List ℕ → Lookahead → Next
next_rows rules k names (token (name n text)) = next_name rules k names n
next_rows rules k names (token (keyword text)) = if is_said (codes "ENDSEC") text then Ok (Just Semicolon
    ∷ Sections k names ∷ []) else Err kinds.Expected
next_rows rules k names s = Err (refused s)

abbrev pub next_body : Lookahead → Next
next_body (token (keyword text)) = Ok record_symbols
next_body (token (mark Open)) = Ok (PartialRecords [] ∷ [])
next_body s = Err (refused s)

abbrev pub next_partial_record : StructureRules → List (List ℕ) → List ℕ → Next
next_partial_record rules before text =
    if rules.distinct && has_keyword text before then Err kinds.DuplicateName
    else Ok (Just Open ∷ Items 2 ∷ PartialRecords (before ++ text ∷ []) ∷ [])

abbrev pub next_close : List (List ℕ) → Next
next_close [] = Err kinds.Expected
next_close (w ∷ ws) = Ok []

abbrev pub next_partial_records : StructureRules → List (List ℕ) → Lookahead → Next
next_partial_records rules before (token (keyword text)) = next_partial_record rules before text
next_partial_records rules before (token (mark Close)) = next_close before
next_partial_records rules before s = Err (refused s)

abbrev pub next_value : StructureRules → ℕ → Lookahead → Next
next_value rules n (token (mark Dollar)) = Ok []
next_value rules n (token (mark Asterisk)) = Ok []
next_value rules n (token (name m text)) = Ok []
next_value rules n (token (number text)) = Ok []
next_value rules n (token (element text)) = Ok []
next_value rules n (token (string text)) = Ok []
next_value rules n (token (binary text)) = Ok []
next_value rules n (token (keyword text)) = if nat_lt n rules.levels then Ok (Just Open ∷ Value (n + 1) ∷ Just Close
    ∷ []) else Err kinds.TooDeep
next_value rules n (token (mark Open)) = if nat_lt n rules.levels then Ok (Items (n + 1) ∷ []) else Err kinds.TooDeep
next_value rules n s = Err (refused s)

abbrev pub then_more : ℕ → Next → Next
then_more n (Ok ys) = Ok (ys ++ More n ∷ [])
then_more n (Err k) = Err k

abbrev pub next_items : StructureRules → ℕ → Lookahead → Next
next_items rules n (token (mark Close)) = Ok []
next_items rules n s = then_more n (next_value rules n s)

abbrev pub next_more : ℕ → Lookahead → Next
next_more n (token (mark Comma)) = Ok (Value n ∷ More n ∷ [])
next_more n (token (mark Close)) = Ok []
next_more n s = Err (refused s)

abbrev pub next_end_of_text : Lookahead → Next
next_end_of_text end_of_text = Ok []
next_end_of_text (token (keyword text)) = if is_said (codes "SIGNATURE") text then Err
    (kinds.LeftOut left_out.Signature) else Err kinds.Expected
next_end_of_text s = Err (refused s)

-- the symbols that replace a symbol once this lookahead is read, or a fault
abbrev pub next : StructureRules → Symbol → Lookahead → Next
next rules (Just m) s = if is_mark m s then Ok [] else Err (refused s)
next rules Start s = next_start s
next rules (Say word) s = next_say word s
next rules (Head word) s = next_head rules word s
next rules Records s = next_records s
next rules Ended s = next_ended s
next rules (Sections n names) s = next_sections rules n names s
next rules Behind s = next_behind s
next rules Quoted s = next_quoted s
next rules (Rows n names) s = next_rows rules n names s
next rules Body s = next_body s
next rules (PartialRecords before) s = next_partial_records rules before s
next rules (Value n) s = next_value rules n s
next rules (Items n) s = next_items rules n s
next rules (More n) s = next_more n s
next rules EndOfText s = next_end_of_text s

-- the header up to its third record, without the semicolon of that
abbrev pub opening_symbols : List Symbol
opening_symbols = Start ∷ Just Semicolon ∷ Say (codes "HEADER") ∷ Just Semicolon ∷ Head (codes "FILE_DESCRIPTION")
    ∷ Just Semicolon ∷ Head (codes "FILE_NAME") ∷ Just Semicolon ∷ Head (codes "FILE_SCHEMA") ∷ []

-- the whole header
abbrev pub header_symbols : List Symbol
header_symbols = opening_symbols ++ Just Semicolon ∷ Records ∷ []

-- the data sections and the end of the file
abbrev pub data_symbols : List Symbol
data_symbols = Sections 0 [] ∷ []

abbrev pub file_symbols : List Symbol
file_symbols = header_symbols ++ data_symbols

abbrev pub start_symbols : List Symbol
start_symbols = Start ∷ Just Semicolon ∷ Say (codes "HEADER") ∷ Just Semicolon ∷ []

-- what follows the keyword of a record
abbrev pub params_symbols : ℕ → List Symbol
params_symbols n = Just Open ∷ Items (n + 1) ∷ []

-- the table for the rules of a structure
abbrev pub table : Table Symbol Lookahead FaultKind
table = next the_rules

-- these are the tokens of a structure that fits the rules, and the end of the text
abbrev pub IsFile : StructureRules → List Lookahead → Type 0
IsFile rules s = (x : File) × FitsFile rules x × MeetAll s (items_of_file x)
