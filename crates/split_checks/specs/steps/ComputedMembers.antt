-- What the code computes: the places of each class.
use Rattle.std.specs.Prelude.{◌≡◌, ◌≢◌, ◌<◌, ◌↔◌, ℕ, List, [], ◌∷◌, ◌++◌, length, map, get_or}
use Rattle.std.specs.List.{Contains}
use Rattle.std.specs.Global.{Vec}

-- the list of class d
abbrev pub row : List (Vec ℕ) → ℕ → List ℕ
row lists d = get_or (map (λ v. v.items) lists) d []

-- a place is added to one list
pub record AddsTo (class place : ℕ) (old new : List (Vec ℕ)) : Type 0 where
  pub each : length new ≡ length old
  pub there : row new class ≡ row old class ++ place ∷ []
  pub others : (d : ℕ) → d ≢ class → row new d ≡ row old d

-- Each of n places is in the list of its class, and in no other.
abbrev pub Hold : List (Vec ℕ) → ℕ → (ℕ → ℕ) → Type 0
Hold lists n class = (d x : ℕ) → Contains (row lists d) x ↔ ((x < n) × (class x ≡ d))
