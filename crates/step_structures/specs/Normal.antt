-- The normal text of an exchange structure, and its laws.
use Rattle.std.specs.Prelude.{◌≡◌, ℕ, List, [], ◌∷◌, ◌++◌, Option, Some, None, map, codes, decimal}
use Rattle.step_literals.specs.Words.{upper}
use Rattle.step_lexer.specs.Front.{mark_byte}
use Rattle.step_structures.specs.Words.{Word, begins, ends, keyword, user_defined, scope, name, number, element, string, binary, mark}
use Rattle.step_structures.specs.Trees.{Tree, leaf, typed, group, Trees, none, one, Record, Form, internal, external, ExchangeRow, Section, File}
use Rattle.step_structures.specs.Texts.{ReadsAs}

-- an instance name or a reference
abbrev pub plain_name : ℕ → List ℕ
plain_name n = codes "#" ++ decimal n

-- one token; a literal keeps its spelling
abbrev pub plain_word : Word → List ℕ
plain_word begins = codes "ISO-10303-21"
plain_word ends = codes "END-ISO-10303-21"
plain_word (keyword text) = upper text
plain_word (user_defined text) = codes "!" ++ upper text
plain_word scope = codes "&SCOPE"
plain_word (name n text) = plain_name n
plain_word (number text) = text
plain_word (element text) = codes "." ++ upper text ++ codes "."
plain_word (string text) = text
plain_word (binary text) = text
plain_word (mark m) = mark_byte m ∷ []

abbrev mutual
  pub plain_tree : Tree → List ℕ
  plain_tree (leaf w) = plain_word w
  plain_tree (typed text x) = upper text ++ codes "(" ++ plain_tree x ++ codes ")"
  plain_tree (group xs) = codes "(" ++ plain_trees xs ++ codes ")"

  -- with commas between
  pub plain_trees : Trees → List ℕ
  plain_trees none = []
  plain_trees (one x xs) = plain_tree x ++ plain_more xs

  -- with a comma before each
  pub plain_more : Trees → List ℕ
  plain_more none = []
  plain_more (one x xs) = codes "," ++ plain_tree x ++ plain_more xs

abbrev pub plain_record : Record → List ℕ
plain_record p = upper p.keyword ++ codes "(" ++ plain_trees p.values ++ codes ")"

abbrev pub plain_partial_records : List Record → List ℕ
plain_partial_records [] = []
plain_partial_records (p ∷ ps) = plain_record p ++ plain_partial_records ps

abbrev pub plain_form : Form → List ℕ
plain_form (internal p) = plain_record p
plain_form (external ps) = codes "(" ++ plain_partial_records ps ++ codes ")"

-- the line of text of an instance
abbrev pub plain_row : ExchangeRow → List ℕ
plain_row r = plain_name r.name ++ codes "=" ++ plain_form r.form ++ codes ";\n"

abbrev pub plain_rows : List ExchangeRow → List ℕ
plain_rows [] = []
plain_rows (r ∷ rs) = plain_row r ++ plain_rows rs

-- a section's name and that of its schema
abbrev pub plain_heading : Option (List ℕ × List ℕ) → List ℕ
plain_heading None = []
plain_heading (Some h) = codes "(" ++ h.0 ++ codes ",(" ++ h.1 ++ codes "))"

-- a data section: its keyword, a line for each instance, and its end
abbrev pub plain_section : Section → List ℕ
plain_section x = codes "DATA" ++ plain_heading x.heading ++ codes ";\n" ++ plain_rows x.rows ++ codes "ENDSEC;\n"

abbrev pub plain_sections : List Section → List ℕ
plain_sections [] = []
plain_sections (x ∷ xs) = plain_section x ++ plain_sections xs

-- the normal text: the header bytes unchanged, then the data sections
abbrev pub plain_text : List ℕ → List Section → List ℕ
plain_text header_bytes sections = header_bytes ++ codes "\n" ++ plain_sections sections
    ++ codes "END-ISO-10303-21;\n"

-- a token in the spelling of the normal text
abbrev pub normal_word : Word → Word
normal_word (keyword text) = keyword (upper text)
normal_word (user_defined text) = user_defined (upper text)
normal_word (name n text) = name n (plain_name n)
normal_word (element text) = element (upper text)
normal_word w = w

abbrev mutual
  pub normal_tree : Tree → Tree
  normal_tree (leaf w) = leaf (normal_word w)
  normal_tree (typed text x) = typed (upper text) (normal_tree x)
  normal_tree (group xs) = group (normal_trees xs)

  pub normal_trees : Trees → Trees
  normal_trees none = none
  normal_trees (one x xs) = one (normal_tree x) (normal_trees xs)

abbrev pub normal_record : Record → Record
normal_record p = record { keyword = upper p.keyword; values = normal_trees p.values }

abbrev pub normal_form : Form → Form
normal_form (internal p) = internal (normal_record p)
normal_form (external ps) = external (map normal_record ps)

abbrev pub normal_row : ExchangeRow → ExchangeRow
normal_row r = record { name = r.name; form = normal_form r.form }

-- the instances in the spelling of the normal text
abbrev pub normal_rows : List ExchangeRow → List ExchangeRow
normal_rows rows = map normal_row rows

-- a section in the spelling of the normal text; headings don't change
abbrev pub normal_section : Section → Section
normal_section x = record { heading = x.heading; rows = normal_rows x.rows }

abbrev pub normal_sections : List Section → List Section
normal_sections xs = map normal_section xs

-- a structure in the spelling of the normal text; the header doesn't change
abbrev pub normal_file : File → File
normal_file x = record { header = x.header; sections = normal_sections x.sections }

-- If a text reads as a structure, so does the structure's normal text. It has the same header bytes, the same
-- sections and headings, and the same instances in them. Only the case of words and the spelling of names
-- changes.
abbrev pub NormalReadsAgain : Type 0
NormalReadsAgain = (text header_bytes : List ℕ) (x : File) → ReadsAs text header_bytes x
    → ReadsAs (plain_text header_bytes x.sections) header_bytes (normal_file x)

-- A normal text is its own normal text.
abbrev pub NormalStays : Type 0
NormalStays = (header_bytes : List ℕ) (sections : List Section) → plain_text header_bytes (normal_sections sections)
    ≡ plain_text header_bytes sections
