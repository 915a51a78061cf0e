-- Exchange structures whose instances are merged according to a map of names. An instance stays if its name is
-- mapped to itself. The names in references are mapped. Literals keep their spelling.
use Rattle.std.specs.Prelude.{ℕ, ◌==◌, List, map, filter}
use Rattle.step_structures.specs.Words.{Word, name}
use Rattle.step_structures.specs.Trees.{Tree, leaf, typed, group, Trees, none, one, Record, Form, internal, external, ExchangeRow, Section, File}
use Rattle.step_structures.specs.Normal.{plain_text}

module _ (h : ℕ → ℕ) where
  abbrev pub led_word : Word → Word
  led_word (name y text) = name (h y) text
  led_word w = w

  abbrev mutual
    pub led_tree : Tree → Tree
    led_tree (leaf w) = leaf (led_word w)
    led_tree (typed text x) = typed text (led_tree x)
    led_tree (group xs) = group (led_trees xs)

    pub led_trees : Trees → Trees
    led_trees none = none
    led_trees (one x xs) = one (led_tree x) (led_trees xs)

  abbrev pub led_record : Record → Record
  led_record p = record { keyword = p.keyword; values = led_trees p.values }

  abbrev pub led_form : Form → Form
  led_form (internal p) = internal (led_record p)
  led_form (external ps) = external (map led_record ps)

  abbrev pub led_row : ExchangeRow → ExchangeRow
  led_row r = record { name = r.name; form = led_form r.form }

  -- the instances that stay, with their references replaced
  abbrev pub merged_rows : List ExchangeRow → List ExchangeRow
  merged_rows rows = map led_row (filter (λ (r : ExchangeRow). h r.name == r.name) rows)

  -- headings don't change
  abbrev pub merged_section : Section → Section
  merged_section x = record { heading = x.heading; rows = merged_rows x.rows }

  abbrev pub merged_sections : List Section → List Section
  merged_sections xs = map merged_section xs

  abbrev pub merged_file : File → File
  merged_file x = record { header = x.header; sections = merged_sections x.sections }

  -- the normal text of the merged structure, after these header bytes
  abbrev pub merged_text : List ℕ → List Section → List ℕ
  merged_text header_bytes sections = plain_text header_bytes (merged_sections sections)
