-- The references of what a column says are the names that its cells lead to.
use Rattle.std.proofs.Common.{◌≡◌, ℕ, zero, suc, List, [], ◌∷◌, Option, Some, None, slice_get, refl}
use Rattle.parsing.specs.Nodes.{run, said_or, said_within}
use Rattle.parsing.specs.declared.column.Run.{Run}
use Rattle.step_values.specs.declared.cell.Cell.{Cell}
use Rattle.step_values.specs.declared.cell.Cell.TheVariants as cells
use Rattle.step_values.specs.steps.Building.{rows_by}
use Rattle.step_values.specs.Cells.{inner_of, value_nodes, value_at, value_by}
use Rattle.step_values.specs.References.{EachReference, EachReferenceOf}
use Rattle.step_values.specs.steps.Targets.{target_of, targets_of, LeadTo, ReferTo}
use Rattle.step_values.specs.Values.{Value}
use Rattle.step_values.specs.Views.{all_of}
use Rattle.step_values.proofs.Leading.{cell_leads}

module _ (names : List ℕ) where
  abbrev IsIn : ℕ → Type 0
  IsIn y = (i : ℕ) × (slice_get names i ≡ Some y)

  run_refers : (f : ℕ → Value) → ((k : ℕ) → EachReference IsIn (f k)) → (first n : ℕ)
      → EachReferenceOf IsIn (all_of (run f first n))
  run_refers f each first zero = tt
  run_refers f each first (suc n) = (each first, run_refers f each (suc first) n)

  cell_refers : (f : ℕ → Value) → ((k : ℕ) → EachReference IsIn (f k)) → (c : Cell) → LeadTo names (target_of c)
      → EachReference IsIn (value_by f c)
  cell_refers f each cells.Unset leads = tt
  cell_refers f each cells.Derived leads = tt
  cell_refers f each (cells.Number d) leads = tt
  cell_refers f each (cells.Text t) leads = tt
  cell_refers f each (cells.Bits b) leads = tt
  cell_refers f each (cells.Element w) leads = tt
  cell_refers f each (cells.Reference y row) leads = (row, leads.0)
  cell_refers f each (cells.Typed high low w) leads = each (inner_of high low)
  cell_refers f each (cells.Sequence r) leads = run_refers f each r.first r.count
  cell_refers f each (cells.Bag r) leads = run_refers f each r.first r.count

  module _ (column : List Cell) (leads : LeadTo names (targets_of column)) where
    within_refers : (depth i : ℕ) → EachReference IsIn (said_within value_nodes depth column i)
    within_refers zero i = tt
    within_refers (suc depth) i = go (within_refers depth) (slice_get column i) refl
      where
        go : ((k : ℕ) → EachReference IsIn (said_within value_nodes depth column k)) → (o : Option Cell)
            → slice_get column i ≡ o → EachReference IsIn (said_or value_nodes (said_within value_nodes depth column) o)
        go each None e = tt
        go each (Some c) e =
            cell_refers (said_within value_nodes depth column) each c (cell_leads names column leads i c e)

    pub rows_refer : (runs : List Run) → ReferTo names (rows_by column runs)
    rows_refer [] = tt
    rows_refer (r ∷ runs) =
        (run_refers (value_at column) (λ i. within_refers (suc i) i) r.first r.count, rows_refer runs)
