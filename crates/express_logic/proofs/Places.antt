-- Bits of a binary of an exchange structure beside the digits of one of a schema, place by place.
use Rattle.std.proofs.Common.{◌≡◌, ℕ, zero, suc, Bool, true, false, ◌&&◌, ◌==◌, not, List, [], ◌∷◌, length, drop, Option, Some, None, slice_get, is_some, refl, sym, ap, ◌∙◌, drop_of_length-le, le_refl}
use Rattle.std.specs.Bool.{beq}
use Rattle.express_lexer.specs.Meanings.{written_bits}
use Rattle.express_logic.specs.Comparison.{same_bits}

-- what is left at a place decides
abbrev pub Left : List Bool → List ℕ → ℕ → Bool
Left bs ds i = same_bits (drop i bs) (written_bits (drop i ds))

drop_next : {X : Type 0} (xs : List X) (i : ℕ) (x : X) → slice_get xs i ≡ Some x → drop i xs ≡ x ∷ drop (suc i) xs
drop_next [] i x h = absurd (cc)
drop_next (y ∷ ys) zero x h = let q : y ≡ x = cc in λ k. q k ∷ ys
drop_next (y ∷ ys) (suc i) x h = drop_next ys i x h

compared : (bs : List Bool) (ds : List ℕ) (i d : ℕ) (b : Bool) → slice_get bs i ≡ Some b → slice_get ds i ≡ Some d
    → Left bs ds i ≡ (beq b (d == 49) && Left bs ds (suc i))
compared bs ds i d b h g = λ k. same_bits (drop_next bs i b h k) (written_bits (drop_next ds i d g k))

told_false : (b : Bool) → not b ≡ true → b ≡ false
told_false true h = sym h
told_false false h = refl

told_true : (b : Bool) → not b ≡ false → b ≡ true
told_true true h = refl
told_true false h = sym h

-- the same bit
pub goes_on : (bs : List Bool) (ds : List ℕ) (i d : ℕ) (b : Bool) → slice_get bs i ≡ Some b → slice_get ds i ≡ Some d
    → not (beq b (d == 49)) ≡ false → Left bs ds (suc i) ≡ Left bs ds i
goes_on bs ds i d b h g e =
    sym (compared bs ds i d b h g ∙ ap (λ c. c && Left bs ds (suc i)) (told_true (beq b (d == 49)) e))

-- another bit
pub differs : (bs : List Bool) (ds : List ℕ) (i d : ℕ) (b : Bool) → slice_get bs i ≡ Some b → slice_get ds i ≡ Some d
    → not (beq b (d == 49)) ≡ true → false ≡ Left bs ds i
differs bs ds i d b h g e =
    sym (compared bs ds i d b h g ∙ ap (λ c. c && Left bs ds (suc i)) (told_false (beq b (d == 49)) e))

-- no bit any more
no_bits : (bs : List Bool) (i : ℕ) → slice_get bs i ≡ None → drop i bs ≡ []
no_bits [] zero h = refl
no_bits [] (suc i) h = refl
no_bits (b ∷ bs) zero h = absurd (cc)
no_bits (b ∷ bs) (suc i) h = no_bits bs i h

pub ends_early : (bs : List Bool) (ds : List ℕ) (i d : ℕ) → slice_get bs i ≡ None → slice_get ds i ≡ Some d
    → false ≡ Left bs ds i
ends_early bs ds i d h g = λ k. same_bits (sym (no_bits bs i h) k) (written_bits (sym (drop_next ds i d g) k))

-- no digit any more
no_more : (bs : List Bool) (i : ℕ) → not (is_some (slice_get bs i)) ≡ same_bits (drop i bs) []
no_more [] zero = refl
no_more [] (suc i) = refl
no_more (b ∷ bs) zero = refl
no_more (b ∷ bs) (suc i) = no_more bs i

not_not : (b : Bool) → not (not b) ≡ b
not_not true = refl
not_not false = refl

pub ends : (bs : List Bool) (ds : List ℕ) (i : ℕ) (o : Option Bool) (r : Bool) → i ≡ length ds → o ≡ slice_get bs i
    → is_some o ≡ not r → r ≡ Left bs ds i
ends bs ds i o r e h k =
    let end : drop i ds ≡ [] = ap (λ n. drop n ds) e ∙ drop_of_length-le ds (le_refl _) in
    sym (not_not r) ∙ ap not (sym k ∙ ap is_some h) ∙ no_more bs i ∙ ap (λ l. same_bits (drop i bs) (written_bits l)) (sym end)

-- either binary first
pub either_first : (b c : List Bool) → same_bits b c ≡ same_bits c b
either_first [] [] = refl
either_first [] (y ∷ ys) = refl
either_first (x ∷ xs) [] = refl
either_first (x ∷ xs) (y ∷ ys) = λ i. beq_sym x y i && either_first xs ys i
  where
    beq_sym : (x y : Bool) → beq x y ≡ beq y x
    beq_sym true true = refl
    beq_sym true false = refl
    beq_sym false true = refl
    beq_sym false false = refl
