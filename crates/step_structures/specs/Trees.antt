-- Exchange structures as trees, and the tokens of a tree (ISO 10303-21, 5.3, 8 and 11).
use Rattle.std.specs.Prelude.{◌≡◌, ℕ, Bool, true, List, [], ◌∷◌, ◌++◌, Option, Some, None, codes}
use Rattle.std.specs.Str.{str_eq_ignore_ascii_case}
use Rattle.step_lexer.specs.declared.token.Mark.TheVariants.{Open, Close, Comma, Semicolon, Equals}
use Rattle.step_structures.specs.Words.{Word, keyword, name, string, mark, begins, ends, Lookahead, token, end_of_text}

-- a parameter: one token, a typed parameter, or a list
mutual
  pub data Tree : Type 0 where
    leaf : Word → Tree
    typed : List ℕ → Tree → Tree
    group : Trees → Tree

  pub data Trees : Type 0 where
    none : Trees
    one : Tree → Trees → Trees

-- a record of the header, an internally mapped instance, or a partial record of an external one
pub record Record : Type 0 where
  pub keyword : List ℕ
  pub values : Trees

pub data Form : Type 0 where
  internal : Record → Form
  external : List Record → Form

-- an instance
pub record ExchangeRow : Type 0 where
  pub name : ℕ
  pub form : Form

-- a data section: its instances, and its name and the name of its schema as they are spelt, if it has them
pub record Section : Type 0 where
  pub heading : Option (List ℕ × List ℕ)
  pub rows : List ExchangeRow

-- an exchange structure: the records of the header, and the data sections
pub record File : Type 0 where
  pub header : List Record
  pub sections : List Section

-- the instances of sections, in order
abbrev pub rows_of : List Section → List ExchangeRow
rows_of [] = []
rows_of (x ∷ xs) = x.rows ++ rows_of xs

-- what a tree requires of a token of a text
pub data Item : Type 0 where
  -- exactly this token
  this : Word → Item
  -- this keyword, whatever the case of its letters
  says : List ℕ → Item
  -- a name with this number, however it is spelt
  named : ℕ → Item
  -- the end of the text
  finish : Item

-- a keyword is this word
abbrev pub is_said : List ℕ → List ℕ → Bool
is_said word text = str_eq_ignore_ascii_case word text

abbrev pub Meets : Lookahead → Item → Type 0
Meets (token w) (this v) = w ≡ v
Meets (token (keyword text)) (says word) = is_said word text ≡ true
Meets (token (name n text)) (named m) = n ≡ m
Meets end_of_text finish = Unit {0}
Meets _ _ = ⊥

-- the lookaheads are what the items require, one after another
abbrev pub MeetAll : List Lookahead → List Item → Type 0
MeetAll [] [] = Unit {0}
MeetAll (s ∷ rest) (i ∷ items) = Meets s i × MeetAll rest items
MeetAll _ _ = ⊥

abbrev mutual
  pub items_of_tree : Tree → List Item
  items_of_tree (leaf w) = this w ∷ []
  items_of_tree (typed text x) = this (keyword text) ∷ this (mark Open) ∷ (items_of_tree x ++ this (mark Close) ∷ [])
  items_of_tree (group xs) = this (mark Open) ∷ (items_of_trees xs ++ this (mark Close) ∷ [])

  -- with commas between
  pub items_of_trees : Trees → List Item
  items_of_trees none = []
  items_of_trees (one x xs) = items_of_tree x ++ items_of_more xs

  -- with a comma before each
  pub items_of_more : Trees → List Item
  items_of_more none = []
  items_of_more (one x xs) = this (mark Comma) ∷ (items_of_tree x ++ items_of_more xs)

-- the parameters and the closing parenthesis
abbrev pub items_of_list : Trees → List Item
items_of_list xs = items_of_trees xs ++ this (mark Close) ∷ []

abbrev pub items_of_record : Record → List Item
items_of_record p = this (keyword p.keyword) ∷ this (mark Open) ∷ items_of_list p.values

abbrev pub items_of_partial_records : List Record → List Item
items_of_partial_records [] = []
items_of_partial_records (p ∷ ps) = items_of_record p ++ items_of_partial_records ps

abbrev pub items_of_form : Form → List Item
items_of_form (internal p) = items_of_record p
items_of_form (external ps) = this (mark Open) ∷ (items_of_partial_records ps ++ this (mark Close) ∷ [])

abbrev pub items_of_row : ExchangeRow → List Item
items_of_row r = named r.name ∷ this (mark Equals) ∷ (items_of_form r.form ++ this (mark Semicolon) ∷ [])

abbrev pub items_of_rows : List ExchangeRow → List Item
items_of_rows [] = []
items_of_rows (r ∷ rs) = items_of_row r ++ items_of_rows rs

-- each record of the header, followed by a semicolon
abbrev pub items_of_records : List Record → List Item
items_of_records [] = []
items_of_records (p ∷ ps) = items_of_record p ++ this (mark Semicolon) ∷ items_of_records ps

-- a keyword and a semicolon: the beginning of the header, or the end of the header or of a data section
abbrev pub section : List ℕ → List Item
section word = says word ∷ this (mark Semicolon) ∷ []

-- the tokens before the first record of the header
abbrev pub items_of_start : List Item
items_of_start = this begins ∷ this (mark Semicolon) ∷ section (codes "HEADER")

-- the header, including the beginning of the file
abbrev pub items_of_header : List Record → List Item
items_of_header ps = items_of_start ++ items_of_records ps ++ section (codes "ENDSEC")

-- the name of a section and the name of its schema
abbrev pub items_of_heading : Option (List ℕ × List ℕ) → List Item
items_of_heading None = []
items_of_heading (Some h) = this (mark Open) ∷ this (string h.0) ∷ this (mark Comma) ∷ this (mark Open)
    ∷ this (string h.1) ∷ this (mark Close) ∷ this (mark Close) ∷ []

-- a data section
abbrev pub items_of_section : Section → List Item
items_of_section x = says (codes "DATA") ∷ (items_of_heading x.heading ++ this (mark Semicolon)
    ∷ (items_of_rows x.rows ++ section (codes "ENDSEC")))

abbrev pub items_of_sections : List Section → List Item
items_of_sections [] = []
items_of_sections (x ∷ xs) = items_of_section x ++ items_of_sections xs

-- the end of the file
abbrev pub items_of_end : List Item
items_of_end = this ends ∷ this (mark Semicolon) ∷ finish ∷ []

abbrev pub items_of_file : File → List Item
items_of_file x = items_of_header x.header ++ items_of_sections x.sections ++ items_of_end
