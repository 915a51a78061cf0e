-- Lines one after another.
use Rattle.std.specs.Prelude.{◌≡◌, ℕ, zero, suc, ◌<◌, List, [], ◌∷◌, ◌++◌, length, take, flat_map, get_or}
use Rattle.std.proofs.Common.{sym, ap, ◌∙◌, append-nil, append_assoc, arith}

pub lines-next : {A : Type 0} (f : A → List ℕ) (xs : List A) (i : ℕ) (d x : A) → i < length xs → get_or xs i d ≡ x
    → flat_map f (take (suc i) xs) ≡ flat_map f (take i xs) ++ f x
lines-next f [] i d x lt e = absurd (omega (arith, lt))
lines-next f (y ∷ ys) zero d x lt e = append-nil (f y) ∙ ap f e
lines-next f (y ∷ ys) (suc i) d x lt e =
    ap (λ t. f y ++ t) (lines-next f ys i d x (omega (arith, lt)) e) ∙ sym (append_assoc (f y) (flat_map f (take i ys)) (f x))

pub lines-all : {A : Type 0} (f : A → List ℕ) (xs : List A) (i : ℕ) → length xs ≡ i
    → flat_map f (take i xs) ≡ flat_map f xs
lines-all f [] i e = grind (arith, e)
lines-all f (y ∷ ys) zero e = absurd (omega (arith, e))
lines-all f (y ∷ ys) (suc i) e = ap (λ t. f y ++ t) (lines-all f ys i (omega (arith, e)))
