-- The class of a name is that of the member at its first place.
use Rattle.std.specs.Prelude.{◌≡◌, ℕ, suc, ◌==◌, Bool, true, false, cond, List, [], ◌∷◌, map, Option, None, Some}
use Rattle.std.specs.Option.{option_map}
use Rattle.std.proofs.Common.{refl, ◌∙◌}
use Rattle.population_rows.specs.Index.{place_of}
use Rattle.value_equality.specs.TableViews.{member_of}
use Rattle.value_equality.specs.Tables.{last_class}
use Rattle.population_pins.specs.steps.Classes.{class_there}

pub class_by_place : (ms : List (ℕ × ℕ)) (y : ℕ)
    → class_there (map member_of ms) (place_of (map (λ m. m.0) ms) y) ≡ last_class (map member_of ms) y
class_by_place [] y = refl
class_by_place (m ∷ ms) y = by (m.0 == y) (place_of (map (λ n. n.0) ms) y) (class_by_place ms y)
  where
    by : (b : Bool) (o : Option ℕ) → class_there (map member_of ms) o ≡ last_class (map member_of ms) y
        → class_there (m ∷ map member_of ms) (cond b (Some 0) (option_map suc o))
        ≡ cond b (Some m.1) (last_class (map member_of ms) y)
    by true o e = refl
    by false None e = e
    by false (Some i) e = e
