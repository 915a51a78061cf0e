-- What is read of a text's parameters so far.
use Rattle.std.specs.Prelude.{ℕ, List, length, refl}
use Rattle.std.specs.Coded.{Coded, code_by, coded×}
use Rattle.parsing.specs.Nodes.{said_at, said_by, IsColumn, AreBefore}
use Rattle.step_structures.specs.Trees.{Tree, group}
use Rattle.step_records.specs.declared.cell.Cell.{Cell}
use Rattle.step_records.specs.Cells.{all_of, parameters, AreInText}
use Rattle.step_records.specs.steps.ComputedCodes.{bytes, coded_trees}

-- trees over a text: those that are whole and kept, and those that are pending
pub record Building : Type 0 where
  pub text : List ℕ
  pub kept : List Tree
  pub pending : List Tree

abbrev pub coded_building : Coded Building
coded_building = code_by (List ℕ × (List Tree × List Tree)) (coded× bytes (coded× coded_trees coded_trees))
    (λ b. (b.text, (b.kept, b.pending))) (λ p. record { text = p.0; kept = p.1.0; pending = p.1.1 }) (λ _. refl)

-- the tree of a cell over a column
abbrev pub tree_of : List ℕ → List Cell → Cell → Tree
tree_of text column c = (parameters text).says (said_at (parameters text) column) c

-- the trees of cells over a column
abbrev pub kept_by : List ℕ → List Cell → List Cell → List Tree
kept_by text column kept = said_by (parameters text) column kept

-- what the kept and the pending cells mean, over a column
abbrev pub built : List ℕ → List Cell → List Cell → List Cell → Building
built text column kept pending = record {
  text = text;
  kept = said_by (parameters text) column kept;
  pending = said_by (parameters text) column pending;
}

-- the children of each cell are in the column, and all leaves are in the text
pub record Builds (text : List ℕ) (column kept pending : List Cell) : Type 0 where
  pub column_is : IsColumn (parameters text) column
  pub kept_before : AreBefore (parameters text) (length column) kept
  pub pending_before : AreBefore (parameters text) (length column) pending
  pub column_in_text : AreInText text column
  pub kept_in_text : AreInText text kept
  pub pending_in_text : AreInText text pending

-- the list of these trees, as one tree
abbrev pub list_of : List Tree → Tree
list_of ts = group (all_of ts)
