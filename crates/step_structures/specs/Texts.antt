-- Which exchange structure a text reads as, and the first fault of a text that reads as none (ISO 10303-21, 5
-- to 11).
use Rattle.std.specs.Prelude.{◌≡◌, ℕ, ◌+◌, ◌-◌, true, false, List, [], ◌∷◌, ◌++◌, take, drop, codes, ◌⊎◌}
use Rattle.parsing.specs.Tables.{lookaheads}
use Rattle.step_lexer.specs.declared.token.Mark.TheVariants.{Semicolon}
use Rattle.step_lexer.specs.Reading.{Reading, Reaches, start}
use Rattle.step_structures.specs.declared.fault.FaultKind.{FaultKind}
use Rattle.step_structures.specs.declared.fault.FaultKind.TheVariants as kinds
use Rattle.step_structures.specs.declared.fault.LeftOut.{LeftOut}
use Rattle.step_structures.specs.declared.fault.TextFault.{TextFault}
use Rattle.step_structures.specs.declared.fault.TextFault.TheVariants as faults
use Rattle.step_structures.specs.declared.fault.LeftOut.TheVariants.{UserDefined, Scope, Anchor, Reference, Signature, TooMany}
use Rattle.step_structures.specs.Words.{keyword, user_defined, scope, mark, Lookahead, token, flawed, LocatedToken, Shows, ShowsAll}
use Rattle.step_structures.specs.Trees.{Record, File, Item, this, MeetAll, is_said, items_of_record, items_of_records, items_of_start, items_of_header, items_of_sections, items_of_end, items_of_file}
use Rattle.step_structures.specs.Fits.{StructureRules, the_rules, FitsFile, FitsHeader, FitsRecords, IsHeader, HasSchema, NamesSchema, Where}

-- the text between one reading and another has the tokens that the items require
abbrev pub Reads : Reading → List Item → Reading → Type 0
Reads old items new = (s : List LocatedToken) × ShowsAll old s new × MeetAll (lookaheads s) items

-- The text reads as this structure. Its header bytes are those from the first token to the semicolon that ends
-- the header.
pub record ReadsAs (text header_bytes : List ℕ) (x : File) : Type 0 where
  pub fits : FitsFile the_rules x
  pub schema : HasSchema x.header
  pub headed : Reading
  pub end : Reading
  pub header : Reads (start text) (items_of_header x.header) headed
  pub sections : Reads headed (items_of_sections x.sections ++ items_of_end) end
  pub first : ℕ
  pub begins : Reaches (start text) first
  pub header_bytes_are : header_bytes ≡ take (headed.place - first) (drop first text)

-- some text reads as this structure, with these header bytes
abbrev pub IsRead : List ℕ → File → Type 0
IsRead header_bytes x = (text : List ℕ) × ReadsAs text header_bytes x

-- the header up to its third record, without the semicolon of that
abbrev pub items_of_opening : Record → Record → Record → List Item
items_of_opening p q r = items_of_start ++ items_of_records (p ∷ q ∷ []) ++ items_of_record r

-- if the tokens include the semicolon of the third record, the third record names exactly one schema
abbrev pub HoldsSchema : StructureRules → List Lookahead → Type 0
HoldsSchema rules s = (p q r : Record) (first rest : List Lookahead) → s ≡ first ++ rest
    → FitsRecords rules (p ∷ q ∷ r ∷ []) → IsHeader (p ∷ q ∷ r ∷ [])
    → MeetAll first (items_of_opening p q r ++ this (mark Semicolon) ∷ []) → NamesSchema r.values

-- the tokens so far are a viable prefix: the tokens of some structure begin with them
pub record IsViablePrefix (rules : StructureRules) (s : List Lookahead) : Type 0 where
  pub rest : List Lookahead
  pub file : File
  pub fits : FitsFile rules file
  pub tokens : MeetAll (s ++ rest) (items_of_file file)
  pub schema : Where rules.headed (HoldsSchema rules s)

-- the tokens so far are a header; a header and data sections; or a structure without the end of the text
abbrev pub EndsHeader : List Lookahead → Type 0
EndsHeader s = (header : List Record) × FitsHeader the_rules header × MeetAll s (items_of_header header)

abbrev pub EndsData : List Lookahead → Type 0
EndsData s = (file : File) × FitsFile the_rules file
    × MeetAll s (items_of_header file.header ++ items_of_sections file.sections)

abbrev pub EndsFile : List Lookahead → Type 0
EndsFile s = (last : Lookahead) × (file : File) × FitsFile the_rules file × MeetAll (s ++ last ∷ [])
    (items_of_file file)

abbrev pub IsWord : List ℕ → Lookahead → Type 0
IsWord word (token (keyword text)) = is_said word text ≡ true
IsWord word _ = ⊥

-- DATA or the end of the file is expected: after the header, or after a data section
abbrev pub IsBetween : List Lookahead → Type 0
IsBetween s = EndsHeader s ⊎ EndsData s

-- this token begins a part of the standard that isn't supported
abbrev pub IsLeftOut : List Lookahead → Lookahead → LeftOut → Type 0
IsLeftOut before (token (user_defined text)) UserDefined = Unit {0}
IsLeftOut before (token scope) Scope = Unit {0}
IsLeftOut before at Anchor = IsWord (codes "ANCHOR") at × IsBetween before
IsLeftOut before at Reference = IsWord (codes "REFERENCE") at × IsBetween before
IsLeftOut before at Signature = IsWord (codes "SIGNATURE") at × (IsBetween before ⊎ EndsFile before)
IsLeftOut before at _ = ⊥

abbrev pub more_levels : StructureRules
more_levels = record the_rules { levels = the_rules.levels + 1 }

-- the rules that allow one more instance and one more data section; a token begins at most one of them
abbrev pub more_parts : StructureRules
more_parts = record the_rules { instances = the_rules.instances + 1; sections = the_rules.sections + 1 }

-- The rules that also allow repeated names. So a repeated name is reported as such even if there are too many
-- instances.
abbrev pub repeated : StructureRules
repeated = record more_parts { distinct = false }

abbrev pub unheaded : StructureRules
unheaded = record the_rules { headed = false }

-- This kind of fault applies to a token that can't follow those before it. A kind that a rule causes applies if
-- the token could follow without the rule.
abbrev pub FaultApplies : List Lookahead → Lookahead → FaultKind → Type 0
FaultApplies before at (kinds.Token flaw) = at ≡ flawed flaw
FaultApplies before at kinds.DuplicateName = IsViablePrefix repeated (before ++ at ∷ [])
    × (IsViablePrefix more_parts (before ++ at ∷ []) → ⊥)
FaultApplies before at (kinds.LeftOut TooMany) = IsViablePrefix more_parts (before ++ at ∷ [])
FaultApplies before at (kinds.LeftOut part) = IsLeftOut before at part
FaultApplies before at kinds.TooDeep = IsViablePrefix more_levels (before ++ at ∷ [])
FaultApplies before at kinds.HeaderFault = IsViablePrefix unheaded (before ++ at ∷ [])
FaultApplies before at kinds.Expected = Unit {0}

-- the kind of the fault at a token: Expected only if no other kind applies
abbrev pub IsKind : List Lookahead → Lookahead → FaultKind → Type 0
IsKind before at kinds.Expected = (kind : FaultKind) → (kind ≡ kinds.Expected → ⊥) → FaultApplies before at kind → ⊥
IsKind before at kind = FaultApplies before at kind

-- The byte offset of a fault: that of the token, or that of the keyword of FILE_SCHEMA if the fault is in its
-- parameters.
pub data IsPlace (before : List LocatedToken) (at : LocatedToken) (kind : FaultKind) (place : ℕ) : Type 0 where
  own_place : (kind ≡ kinds.HeaderFault → at.lookahead ≡ token (mark Semicolon) → ⊥) → place ≡ at.place
      → IsPlace before at kind place
  place_of_schema : (kind ≡ kinds.HeaderFault) → at.lookahead ≡ token (mark Semicolon)
      → (earlier inner : List LocatedToken) (key : LocatedToken) (p q : Record)
      → before ≡ earlier ++ key ∷ inner → FitsRecords the_rules (p ∷ q ∷ [])
      → MeetAll (lookaheads earlier) (items_of_start ++ items_of_records (p ∷ q ∷ [])) → place ≡ key.place
      → IsPlace before at kind place

-- The first fault: its token is the first one with which the tokens so far are no viable prefix.
pub record IsFirstFault (text : List ℕ) (kind : FaultKind) (place : ℕ) : Type 0 where
  pub before : List LocatedToken
  pub at : LocatedToken
  pub here : Reading
  pub next : Reading
  pub read : ShowsAll (start text) before here
  pub shown : Shows here at next
  pub viable : IsViablePrefix the_rules (lookaheads before)
  -- the tokens before aren't those of a whole structure
  pub unended : (x : File) → FitsFile the_rules x → MeetAll (lookaheads before) (items_of_file x) → ⊥
  pub refused : IsViablePrefix the_rules (lookaheads (before ++ at ∷ [])) → ⊥
  pub kind_is : IsKind (lookaheads before) at.lookahead kind
  pub place_is : IsPlace before at kind place

-- A fault of a text is its first fault. Memory may always run out.
abbrev pub IsFaultOf : List ℕ → TextFault → Type 0
IsFaultOf text faults.Memory = Unit {0}
IsFaultOf text (faults.Fault kind place) = IsFirstFault text kind place

abbrev pub IsMemory : TextFault → Type 0
IsMemory faults.Memory = Unit {0}
IsMemory (faults.Fault kind place) = ⊥

-- A text reads as at most one structure.
abbrev pub ReadsOnce : Type 0
ReadsOnce = (text header_bytes other : List ℕ) (x y : File) → ReadsAs text header_bytes x → ReadsAs text other y
    → (header_bytes ≡ other) × (x ≡ y)

-- A text that reads as a structure has no fault.
abbrev pub ReadsWithoutFault : Type 0
ReadsWithoutFault = (text header_bytes : List ℕ) (x : File) (kind : FaultKind) (place : ℕ) → ReadsAs text header_bytes x
    → IsFirstFault text kind place → ⊥

-- A text has at most one first fault: one kind, at one byte offset.
abbrev pub FaultsOnce : Type 0
FaultsOnce = (text : List ℕ) (kind other : FaultKind) (place elsewhere : ℕ) → IsFirstFault text kind place
    → IsFirstFault text other elsewhere → (kind ≡ other) × (place ≡ elsewhere)

-- A text reads as a structure, or has a first fault.
abbrev pub ReadsOrFails : Type 0
ReadsOrFails = (text : List ℕ) → ((header_bytes : List ℕ) × (x : File) × ReadsAs text header_bytes x)
    ⊎ ((kind : FaultKind) × (place : ℕ) × IsFirstFault text kind place)
