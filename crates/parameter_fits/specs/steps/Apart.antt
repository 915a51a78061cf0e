-- Lists without two equal elements.
use Rattle.std.specs.Prelude.{Bool, true, not, ◌&&◌, List, [], ◌∷◌}

module _ {K : Type 0} (same : K → K → Bool) where
  abbrev pub differs : K → List K → Bool
  differs x [] = true
  differs x (y ∷ ys) = not (same x y) && differs x ys

  -- no two elements are the same
  abbrev pub all_apart : List K → Bool
  all_apart [] = true
  all_apart (x ∷ xs) = differs x xs && all_apart xs

  abbrev pub differs_first : K → List K → Bool
  differs_first x [] = true
  differs_first x (y ∷ ys) = not (same x y)

  -- no element is the same as the next one
  abbrev pub neighbours_apart : List K → Bool
  neighbours_apart [] = true
  neighbours_apart (x ∷ xs) = differs_first x xs && neighbours_apart xs
