-- Lists of names, side by side in one list. What the code computes; no promise stands here.
use Rattle.std.specs.Prelude.{ℕ, ◌≤◌, ◌-◌, List, length, map, take, drop}
use Rattle.express_syntax.specs.Profile.{Every}
use Rattle.population_pins.specs.declared.lists.Run.{Run}

-- The names of one list.
abbrev pub list_at : List ℕ → Run → List ℕ
list_at names r = take (r.end - r.first) (drop r.first names)

abbrev pub lists_at : List ℕ → List Run → List (List ℕ)
lists_at names runs = map (list_at names) runs

-- No list ends after the last of the names.
abbrev pub AreWithin : List ℕ → List Run → Type 0
AreWithin names runs = Every (λ (r : Run). (r.first ≤ r.end) × (r.end ≤ length names)) runs
