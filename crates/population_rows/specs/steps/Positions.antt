-- The positions of attributes in a form.
use Rattle.std.specs.Prelude.{◌≡◌, ℕ, List, map}
use Rattle.population_rows.specs.declared.form.SlotForm.{SlotForm}
use Rattle.population_rows.specs.declared.index.RowIndex.{RowIndex}
use Rattle.population_rows.specs.Index.{found, place_of}

-- the index maps the number of each explicit attribute to its first position among these
abbrev pub ArePositions : List SlotForm → RowIndex → Type 0
ArePositions xs t = (q : ℕ) → found t q ≡ place_of (map (λ (x : SlotForm). x.place) xs) q
