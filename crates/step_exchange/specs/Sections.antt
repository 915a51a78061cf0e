-- The data sections of a program's values.
use Rattle.std.specs.Prelude.{◌≡◌, ℕ, ◌-◌, ◌≤◌, List, [], ◌∷◌, Option, Some, None, take, drop, map}
use Rattle.step_literals.specs.declared.literal.Text.{Text}
use Rattle.step_exchange.specs.declared.section.Section.{Section}
use Rattle.step_structures.specs.Trees.{Tree, ExchangeRow, File}
use Rattle.step_structures.specs.Trees as trees
use Rattle.step_exchange.specs.Views.{record_in, rows_with}

-- the name of a section and the name of its schema, as they are spelt
abbrev pub heading_of : Option (Text × Text) → Option (List ℕ × List ℕ)
heading_of None = None
heading_of (Some h) = Some (h.0.text.now, h.1.text.now)

-- The instances `rows`, divided into sections. The sections before them have `from` instances.
abbrev pub sections_of : ℕ → List Section → List ExchangeRow → List trees.Section
sections_of from [] rows = []
sections_of from (s ∷ ss) rows = record { heading = heading_of s.heading; rows = take (s.past - from) rows }
    ∷ sections_of s.past ss (drop (s.past - from) rows)

-- the counts don't fall from section to section, and the last one is the number of all instances
abbrev pub CountsTo : ℕ → List Section → ℕ → Type 0
CountsTo from [] n = from ≡ n
CountsTo from (s ∷ ss) n = (from ≤ s.past) × CountsTo s.past ss n

-- the structure of these trees: `header_len` records of the header, then an instance for each name
abbrev pub file_of : ℕ → List Tree → List ℕ → List Section → File
file_of header_len xs names sections = record {
  header = map record_in (take header_len xs);
  sections = sections_of 0 sections (rows_with names (drop header_len xs));
}
