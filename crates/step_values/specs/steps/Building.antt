-- Rows of values in one column, and rows that are being built.
use Rattle.std.specs.Prelude.{◌≡◌, ⊤, ℕ, ◌+◌, ◌<◌, ◌≤◌, ◌++◌, ◌⊎◌, List, [], ◌∷◌, Some, length, map, slice_get, refl}
use Rattle.std.specs.Coded.{Coded, code_by, coded×, coded_ℕ, coded_list}
use Rattle.std.specs.List.{All, AllPairs, Contains, sum_by}
use Rattle.parsing.specs.Nodes.{said_by, IsColumn, AreBefore}
use Rattle.parsing.specs.declared.column.Run.{Run}
use Rattle.step_values.specs.declared.cell.Cell.{Cell}
use Rattle.step_values.specs.Cells.{reach_of, IsIn, IsInside, value_nodes, values_of_run}
use Rattle.step_values.specs.steps.ComputedCodes.{coded_value, coded_values}
use Rattle.step_values.specs.steps.NodeCounts.{nodes_of, nodes_in}
use Rattle.step_values.specs.steps.Targets.{targets_of, LeadTo}
use Rattle.step_values.specs.Values.{Value, Values}

-- rows of values, and the targets of their references
pub record Kept : Type 0 where
  pub rows : List Values
  -- the name and the row's number of each reference, in the order of the cells
  pub targets : List (ℕ × ℕ)

abbrev pub coded_kept : Coded Kept
coded_kept = code_by (List Values × List (ℕ × ℕ))
    (coded× (coded_list coded_values) (coded_list (coded× coded_ℕ coded_ℕ)))
    (λ k. (k.rows, k.targets)) (λ p. record { rows = p.0; targets = p.1 }) (λ _. refl)

-- complete rows, the names of all rows, and the values that are still pending
pub record Building : Type 0 where
  pub names : List ℕ
  pub rows : List Values
  pub pending : List Value

abbrev pub coded_building : Coded Building
coded_building = code_by (List ℕ × (List Values × List Value))
    (coded× (coded_list coded_ℕ) (coded× (coded_list coded_values) (coded_list coded_value)))
    (λ b. (b.names, (b.rows, b.pending))) (λ p. record { names = p.0; rows = p.1.0; pending = p.1.1 }) (λ _. refl)

-- the rows that runs of a column represent
abbrev pub rows_by : List Cell → List Run → List Values
rows_by column runs = map (values_of_run column) runs

-- every run ends at or before index n
abbrev pub AreWithin : ℕ → List Run → Type 0
AreWithin n [] = ⊤
AreWithin n (r ∷ rs) = (r.first + r.count ≤ n) × AreWithin n rs

-- one run ends before another begins
abbrev pub EndsBefore : Run → Run → Type 0
EndsBefore q r = q.first + q.count ≤ r.first

-- nothing directly inside the cell lies in one of these runs
abbrev pub IsOutside : List Run → Cell → Type 0
IsOutside runs c = (k : ℕ) → IsInside c k → All (λ r. IsIn r k → ⊥) runs

-- Rows follow one another. What is directly inside the values of a row comes before that row, and
-- no value of a row is directly inside another value.
pub record StandApart (column : List Cell) (runs : List Run) : Type 0 where
  pub turn : AllPairs EndsBefore runs
  pub before : (i : ℕ) (r : Run) → slice_get runs i ≡ Some r → (k : ℕ) (c : Cell) → IsIn r k
      → slice_get column k ≡ Some c → reach_of c ≤ r.first
  pub outside : All (IsOutside runs) column

-- each index below n lies in one of these runs, or is directly inside one of these cells
abbrev pub AreReached : ℕ → List Run → List Cell → Type 0
AreReached n runs cs = (k : ℕ) → k < n
    → ((r : Run) × Contains runs r × IsIn r k) ⊎ ((c : Cell) × Contains cs c × IsInside c k)

-- A column holds rows: each index belongs to a value of a row or is directly inside another value,
-- and the number of cells is the number of nodes of the rows. So there is exactly one cell for each
-- node.
pub record Holds (column : List Cell) (runs : List Run) : Type 0 where
  pub column_is : IsColumn value_nodes column
  pub within : AreWithin (length column) runs
  pub apart : StandApart column runs
  pub reached : AreReached (length column) runs column
  pub count : length column ≡ sum_by nodes_in (rows_by column runs)

-- The rows are runs of the column, one after another, none inside the values of another, and the
-- column has no other cells.
abbrev pub AreRunsOf : List Cell → List Values → Type 0
AreRunsOf column rows = ∥ ((runs : List Run) × Holds column runs × (rows ≡ rows_by column runs)) ∥₁

-- the rows of a column and its pending cells, over the names of rows
abbrev pub built : List ℕ → List Cell → List Run → List Cell → Building
built names column runs pending = record {
  names = names;
  rows = rows_by column runs;
  pending = said_by value_nodes column pending;
}

-- The column and its pending cells have one cell for each node. Whatever is inside a cell comes
-- before it in the column. Each reference has the number of its row.
pub record Builds (names : List ℕ) (column : List Cell) (runs : List Run) (pending : List Cell) : Type 0 where
  pub column_is : IsColumn value_nodes column
  pub within : AreWithin (length column) runs
  pub apart : StandApart column runs
  pub before : AreBefore value_nodes (length column) pending
  pub outside : All (IsOutside runs) pending
  pub reached : AreReached (length column) runs (column ++ pending)
  pub count : length column + length pending
      ≡ sum_by nodes_in (rows_by column runs) + sum_by nodes_of (said_by value_nodes column pending)
  pub column_leads : LeadTo names (targets_of column)
  pub pending_leads : LeadTo names (targets_of pending)
