-- Lists of which each number is taken once.
use Rattle.std.specs.Prelude.{◌≡◌, ℕ, Bool, true, false, cond, ◌||◌, List, [], ◌∷◌, ◌++◌}
use Rattle.std.proofs.Common.{refl, ap, sym, ◌∙◌}
use Rattle.graphs.specs.Graphs.{has}
use Rattle.graphs.specs.Rounds.{added}
use Rattle.graphs.proofs.Found.{has-added}
use Rattle.graphs.proofs.Gathered.{added-append}

or-right : (p q : Bool) → q ≡ true → (p || q) ≡ true
or-right true q e = refl
or-right false q e = e

-- what was taken once already is taken as it stands
once-joined : (xs zs ys : List ℕ) → added xs (added zs ys) ≡ added (added xs zs) ys
once-joined xs zs [] = refl
once-joined xs zs (y ∷ ys) =
    once-joined xs (cond (has zs y) zs (zs ++ y ∷ [])) ys
    ∙ ap (λ (r : List ℕ). added r ys) (by (has zs y) refl)
  where
    by : (b : Bool) → has zs y ≡ b → added xs (cond b zs (zs ++ y ∷ []))
        ≡ cond (has (added xs zs) y) (added xs zs) (added xs zs ++ y ∷ [])
    by true e =
        ap (λ c. cond c (added xs zs) (added xs zs ++ y ∷ []))
        (sym (has-added xs zs y ∙ or-right (has xs y) (has zs y) e))
    by false e = sym (added-append xs zs (y ∷ []))

pub once-again : (xs ys : List ℕ) → added xs (added [] ys) ≡ added xs ys
once-again xs ys = once-joined xs [] ys
