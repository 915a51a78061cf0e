-- Reading an exchange structure by the table, from one reading to another.
use Rattle.std.specs.Prelude.{◌≡◌, ℕ, suc, ◌<◌, true, if◌then◌else◌, List, [], ◌∷◌, ◌++◌, Option, codes}
use Rattle.step_lexer.specs.declared.token.Mark.TheVariants.{Open, Semicolon}
use Rattle.step_lexer.specs.declared.token.Token.{Token}
use Rattle.step_lexer.specs.Reading.{Reading, Reaches, Takes}
use Rattle.step_records.specs.steps.Steps.{StopsIn, Passes}
use Rattle.step_structures.specs.declared.fault.FaultKind.{FaultKind}
use Rattle.step_structures.specs.declared.fault.FaultKind.TheVariants as kinds
use Rattle.step_structures.specs.declared.fault.TextFault.{TextFault}
use Rattle.step_structures.specs.declared.fault.TextFault.TheVariants as faults
use Rattle.step_structures.specs.Words.{keyword, mark, Lookahead, token, LocatedToken, located}
use Rattle.step_structures.specs.Trees.{Record, Section, this, says, is_said, items_of_list, items_of_records, items_of_start, items_of_header, items_of_heading, items_of_sections, items_of_end}
use Rattle.step_structures.specs.Fits.{the_rules, FitsRecord, FitsSections, FitsRecords, FitsHeader, IsHeader, HasSchema, NamesSchema}
use Rattle.step_structures.specs.Texts.{Reads, items_of_opening}
use Rattle.step_structures.specs.steps.Predict.{Symbol, Just, Head, Records, Ended, Sections, Rows, Items, refused, section_kind, opening_symbols, header_symbols, data_symbols, start_symbols, params_symbols}

-- After n sections with instances of these names, the heading of one more. Its first token is already read.
abbrev pub BeginsSection : LocatedToken → ℕ → List ℕ → Option (List ℕ × List ℕ) → Reading → Reading → Type 0
BeginsSection first n names heading old new = (n < the_rules.sections) × Passes (Sections n names ∷ [])
    (Rows (suc n) names ∷ []) (first ∷ []) (says (codes "DATA") ∷ (items_of_heading heading ++ this (mark Semicolon)
    ∷ [])) old new

-- the data sections and the end of the file
pub record TakesData (sections : List Section) (old new : Reading) : Type 0 where
  pub fits : FitsSections the_rules sections
  pub passes : Passes data_symbols [] [] (items_of_sections sections ++ items_of_end) old new

-- the text begins at this byte offset with what comes before the header's records
pub record Starts (old : Reading) (place : ℕ) (new : Reading) : Type 0 where
  pub first : Reaches old place
  pub passes : Passes start_symbols [] [] items_of_start old new

-- a record of the header with this keyword
abbrev pub IsHead : List ℕ → Record → Type 0
IsHead word p = (is_said word p.keyword ≡ true) × FitsRecord the_rules 0 p

-- a record of the header with this keyword, at this byte offset, without its semicolon
pub record TakesHead (word : List ℕ) (old : Reading) (p : Record) (place : ℕ) (new : Reading) : Type 0 where
  pub head : IsHead word p
  pub key : Token
  pub inside : Reading
  pub taken : Takes old key inside
  pub key_is : (located key).lookahead ≡ token (keyword p.keyword)
  pub place_is : place ≡ key.place
  pub passes : Passes (params_symbols 0) [] [] (this (mark Open) ∷ items_of_list p.values) inside new

-- why FILE_SCHEMA isn't read: a token that can't come there, or parameters that don't name one schema
pub data StopsAtSchema (e : TextFault) (old : Reading) : Type 0 where
  stops_before : StopsIn e (Head (codes "FILE_SCHEMA") ∷ Just Semicolon ∷ []) [] old → StopsAtSchema e old
  stops_unnamed : (p : Record) (place : ℕ) (mid new : Reading) (t : Token) → TakesHead (codes "FILE_SCHEMA") old p place
      mid → Takes mid t new → (located t).lookahead ≡ token (mark Semicolon) → (NamesSchema p.values → ⊥)
      → e ≡ faults.Fault kinds.HeaderFault place → StopsAtSchema e old

-- the symbols expected after a keyword in the header, which is that of one more record, or ENDSEC
abbrev pub after_keyword : List ℕ → List Symbol
after_keyword text = if is_said (codes "ENDSEC") text then Ended ∷ [] else Just Open ∷ Items 1 ∷ Just Semicolon
    ∷ Records ∷ []

-- the fault of what can't come where a section or the end of the file is expected
abbrev pub section_refused : Lookahead → FaultKind
section_refused (token (keyword text)) = section_kind text
section_refused s = refused s

-- the first three records of the header
pub record IsOpening (header : List Record) (p q r : Record) (more : List Record) : Type 0 where
  pub are : header ≡ p ∷ q ∷ r ∷ more
  pub fits : FitsRecords the_rules (p ∷ q ∷ r ∷ [])
  pub named : IsHeader (p ∷ q ∷ r ∷ [])
  pub schema : NamesSchema r.values

-- the first three records of the header, with what comes before them and their semicolons
abbrev pub Opens : Record → Record → Record → Reading → Reading → Type 0
Opens p q r old new = Passes (opening_symbols ++ Just Semicolon ∷ []) [] [] (items_of_opening p q r
    ++ this (mark Semicolon) ∷ []) old new

-- the header so far: the first three records, and more
pub record HeaderSoFar (old : Reading) (place : ℕ) (header : List Record) (here : Reading) : Type 0 where
  pub p : Record
  pub q : Record
  pub r : Record
  pub more : List Record
  pub opening : IsOpening header p q r more
  pub first : Reaches old place
  pub mid : Reading
  pub opens : Opens p q r old mid
  pub fits : FitsRecords the_rules more
  pub passes : Passes (Records ∷ []) (Records ∷ []) [] (items_of_records more) mid here

-- a header
pub record TakesHeader (old : Reading) (place : ℕ) (header : List Record) (new : Reading) : Type 0 where
  pub first : Reaches old place
  pub fits : FitsHeader the_rules header
  pub schema : HasSchema header
  pub passes : Passes header_symbols [] [] (items_of_header header) old new

-- Why no header is read: a token that can't come in its opening, a third record that doesn't name one schema,
-- or a later token that can't follow.
pub data StopsInHeader (e : TextFault) (old : Reading) : Type 0 where
  in_opening : StopsIn e (opening_symbols ++ Just Semicolon ∷ []) [] old → StopsInHeader e old
  unnamed : (p q r : Record) (place : ℕ) (a mid new : Reading) (t : Token) → FitsRecords the_rules (p ∷ q ∷ [])
      → (is_said (codes "FILE_DESCRIPTION") p.keyword ≡ true) → (is_said (codes "FILE_NAME") q.keyword ≡ true)
      → Reads old (items_of_start ++ items_of_records (p ∷ q ∷ [])) a → TakesHead (codes "FILE_SCHEMA") a r place mid
      → Takes mid t new → (located t).lookahead ≡ token (mark Semicolon) → (NamesSchema r.values → ⊥)
      → e ≡ faults.Fault kinds.HeaderFault place → StopsInHeader e old
  in_records : (p q r : Record) (header more : List Record) (mid : Reading) → IsOpening header p q r more
      → Opens p q r old mid → StopsIn e (Records ∷ []) [] mid → StopsInHeader e old
