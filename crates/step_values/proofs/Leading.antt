-- A reference among cells leads to the row that has its name.
use Rattle.std.proofs.Common.{◌≡◌, ◌<◌, ℕ, zero, suc, List, [], ◌∷◌, Some, slice_get, subst}
use Rattle.step_values.specs.declared.cell.Cell.{Cell}
use Rattle.step_values.specs.steps.Targets.{target_of, targets_of, LeadTo}
use Rattle.step_values.proofs.Counting.{split}

module _ (names : List ℕ) where
  pub cell_leads : (column : List Cell) → LeadTo names (targets_of column) → (i : ℕ) (c : Cell)
      → slice_get column i ≡ Some c → LeadTo names (target_of c)
  cell_leads [] h i c e = absurd (cc)
  cell_leads (d ∷ column) h zero c e =
      let same : d ≡ c = cc in
      subst (λ (x : Cell). LeadTo names (target_of x)) same (split names (target_of d) (targets_of column) h).0
  cell_leads (d ∷ column) h (suc i) c e =
      cell_leads column (split names (target_of d) (targets_of column) h).1 i c e
