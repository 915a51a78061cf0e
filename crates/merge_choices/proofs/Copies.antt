-- Copies of texts.
use Rattle.std.specs.Prelude.{◌≡◌, List, [], ◌∷◌, map, Result, Ok, Err, IfOk, MatchResult, String, string_bytes}
use Rattle.std.specs.List.{AllZip}
use Rattle.std.proofs.Common.{refl}

-- the bytes of copies are those of what is copied
pub same-bytes : {Z : Type 0} (xs ys : List (String Z)) → AllZip (λ s t. string_bytes t ≡ string_bytes s) xs ys
    → map string_bytes ys ≡ map string_bytes xs
same-bytes [] [] h = refl
same-bytes [] (y ∷ ys) h = absurd h
same-bytes (x ∷ xs) [] h = absurd h
same-bytes (x ∷ xs) (y ∷ ys) h = λ i. h.0 i ∷ same-bytes xs ys h.1 i

-- what holds of each value holds of the value, if any
pub if-ok : {A E : Type 0} (P R : A → Type 0) (Q : E → Type 0) (r : Result A E) → ((x : A) → P x → R x)
    → MatchResult r P Q → IfOk r R
if-ok P R Q (Ok x) f h = f x h
if-ok P R Q (Err e) f h = tt
