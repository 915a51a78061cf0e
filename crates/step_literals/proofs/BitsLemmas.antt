-- The bits of digits, one after another.
use Rattle.std.proofs.Common.{◌≡◌, ℕ, zero, suc, ◌+◌, ◌*◌, ◌-◌, ◌/◌, ◌%◌, ◌<◌, ◌≤◌, Bool, true, List, [], ◌∷◌, ◌++◌, length, drop, refl, sym, ap, ◌∙◌, arith, add-one, length-drop, length-append, take, get_or, Some, None}
use Rattle.std.proofs.lemmas.Option.{slice_get_past, slice_get_read}
use native.Mathlib.Nat.{ℕ_set}
use mathlib.Core.Bool.{Bool-set}
use Rattle.std.proofs.Math.Logic.{∥∥₁_elim}
use Rattle.std.proofs.Math.Seq.{take-append_seam}
use Rattle.std.specs.List.{flat_map, list_all, slice_get, slice_index}
use Rattle.std.specs.Option.{option_map}
use Rattle.step_literals.specs.Bytes.{is_hex, Each}
use Rattle.step_literals.specs.Tokens.{Spells, binary}
use Rattle.step_literals.specs.Bits.{digit_bit, digit_bits, hex_digits, bits_of}
use Rattle.std.specs.Char.{digit_value}
use Rattle.std.proofs.lemmas.Bool.Decides.{nat_tests}

abbrev bits : List ℕ → List Bool
bits ds = flat_map digit_bits ds

-- at the last bit of a digit
pub last_bit : (p d : ℕ) (ds all : List ℕ) → p ≡ 3 → all ≡ d ∷ ds → drop p (flat_map digit_bits all) ≡ digit_bit d p
    ∷ flat_map digit_bits ds
unfolding digit_bits
last_bit p d ds all e h = rw (e, h) refl

within : (p d : ℕ) (ds : List ℕ) → p < 3 → drop p (bits (d ∷ ds)) ≡ digit_bit d p ∷ drop (suc p) (bits (d ∷ ds))
unfolding digit_bits
within zero d ds h = refl
within (suc zero) d ds h = refl
within (suc (suc zero)) d ds h = refl
within (suc (suc (suc p))) d ds h = absurd (omega arith)

-- at another bit
pub other_bit : (p d : ℕ) (ds all : List ℕ) → p < 4 → (p ≡ 3 → ⊥) → all ≡ d ∷ ds
    → drop p (flat_map digit_bits all) ≡ digit_bit d p ∷ drop (p + 1) (flat_map digit_bits all)
other_bit p d ds all low h e = rw (e, add-one) (within p d ds (omega arith))

bits_len : (ds : List ℕ) → length (bits ds) ≡ 4 * length ds
unfolding digit_bits
bits_len [] = refl
bits_len (d ∷ ds) = omega (arith, bits_len ds)

pub left_len : (n : ℕ) (ds : List ℕ) → length (drop n (flat_map digit_bits ds)) ≡ 4 * length ds - n
left_len n ds = omega (arith, length-drop n (bits ds), bits_len ds)

get_drop : {A : Type 0} (n i : ℕ) (xs : List A) → slice_get (drop n xs) i ≡ slice_get xs (n + i)
get_drop zero i xs = ap (slice_get xs) (omega arith)
get_drop (suc n) i [] = refl
get_drop (suc n) i (x ∷ xs) = let e : suc n + i ≡ suc (n + i) = omega arith in get_drop n i xs ∙ ap (slice_get (x ∷ xs))
    (sym e)

-- the bit at an index is one of the digit at a fourth of it
get_bit : (j : ℕ) (ds : List ℕ) → slice_get (bits ds) j ≡ option_map (λ d. digit_bit d (j % 4)) (slice_get ds (j / 4))
unfolding digit_bits
get_bit j [] = refl
get_bit zero (d ∷ ds) = refl
get_bit (suc zero) (d ∷ ds) = refl
get_bit (suc (suc zero)) (d ∷ ds) = refl
get_bit (suc (suc (suc zero))) (d ∷ ds) = refl
get_bit (suc (suc (suc (suc j)))) (d ∷ ds) =
    let place : j % 4 ≡ suc (suc (suc (suc j))) % 4 = omega arith in
    let digit : suc (j / 4) ≡ suc (suc (suc (suc j))) / 4 = omega arith in
    get_bit j ds ∙ (λ i. option_map (λ d'. digit_bit d' (place i)) (slice_get (d ∷ ds) (digit i)))

bit_at : (n index : ℕ) (ds : List ℕ)
    → slice_get (drop n (flat_map digit_bits ds)) index ≡ option_map (λ d. digit_bit d ((index % 4 + n) % 4))
    (slice_get ds (index / 4 + (index % 4 + n) / 4))
bit_at n index ds =
    let place : (n + index) % 4 ≡ (index % 4 + n) % 4 = omega arith in
    let digit : (n + index) / 4 ≡ index / 4 + (index % 4 + n) / 4 = omega arith in
    get_drop n index (bits ds) ∙ get_bit (n + index) ds
    ∙ (λ i. option_map (λ d. digit_bit d (place i)) (slice_get ds (digit i)))

-- there is none where the digit is behind the last
pub bit_behind : (n index : ℕ) (ds : List ℕ) → length ds ≤ index / 4 + (index % 4 + n) / 4
    → None ≡ slice_get (drop n (flat_map digit_bits ds)) index
bit_behind n index ds h =
    sym (bit_at n index ds ∙ ap (option_map (λ d. digit_bit d ((index % 4 + n) % 4)))
    (slice_get_past ds (index / 4 + (index % 4 + n) / 4) h))

pub bit_there : (n index digit : ℕ) (ds : List ℕ) → index / 4 + (index % 4 + n) / 4 < length ds
    → digit ≡ get_or ds (index / 4 + (index % 4 + n) / 4) digit
    → Some (digit_bit digit ((index % 4 + n) % 4)) ≡ slice_get (drop n (flat_map digit_bits ds)) index
bit_there n index digit ds h e =
    sym (bit_at n index ds ∙ ap (option_map (λ d. digit_bit d ((index % 4 + n) % 4)))
    (slice_get_read ds (length ds) (index / 4 + (index % 4 + n) / 4) digit refl h e))

-- what stands between the first two bytes of a binary and its last
pub digits_between : (q u : ℕ) (ds : List ℕ) (l : ℕ) → hex_digits (q ∷ u ∷ ds ++ l ∷ []) ≡ ds
digits_between q u ds l =
    let n : length (q ∷ u ∷ ds ++ l ∷ []) - 1 - 2 ≡ length ds = omega (arith, length-append ds (l ∷ [])) in
    ap (λ k. take k (ds ++ l ∷ [])) n ∙ take-append_seam ds (l ∷ [])

all_pass : (ds : List ℕ) → Each is_hex ds → list_all is_hex ds ≡ true
all_pass [] h = refl
all_pass (d ∷ ds) h = rw (h.0) (all_pass ds h.1)

spelled_hex : (t : List ℕ) → Spells binary t → list_all is_hex (hex_digits t) ≡ true
spelled_hex t s = ap (λ ds. list_all is_hex ds) (ap hex_digits s.6 ∙ digits_between 34 s.0 s.1 34) ∙ all_pass s.1 s.4

none_left : (ds : List ℕ) → length ds ≡ 0 → ds ≡ []
none_left [] h = refl
none_left (d ∷ ds) h = absurd (omega (arith, h))

spelled_bare : (t : List ℕ) → Spells binary t → length (hex_digits t) ≡ 0 → slice_index t 1 ≡ 48
spelled_bare t s h =
    let ds : hex_digits t ≡ s.1 = ap hex_digits s.6 ∙ digits_between 34 s.0 s.1 34 in
    ap (λ l. slice_index l 1) s.6 ∙ s.5 (none_left s.1 (ap length (sym ds) ∙ h))

pub binary_hex : (t : List ℕ) → ∥ Spells binary t ∥₁ → list_all is_hex (hex_digits t) ≡ true
binary_hex t s = ∥∥₁_elim s (Bool-set _ _) (spelled_hex t)

pub binary_bare : (t : List ℕ) → ∥ Spells binary t ∥₁ → length (hex_digits t) ≡ 0 → slice_index t 1 ≡ 48
binary_bare t s h = ∥∥₁_elim s (ℕ_set _ _) (λ p. spelled_bare t p h)

digit_of_unused : (unused : ℕ) → 48 ≤ unused → unused ≤ 51 → digit_value unused ≡ unused - 48
digit_of_unused unused low high = grind (arith, nat_tests)

pub bits_of_digits : (unused : ℕ) (digits : List ℕ) → 48 ≤ unused → unused ≤ 51
    → bits_of (34 ∷ unused ∷ digits ++ 34 ∷ []) ≡ drop (unused - 48) (flat_map digit_bits digits)
bits_of_digits unused digits low high = λ i. drop (digit_of_unused unused low high i)
    (flat_map digit_bits (digits_between 34 unused digits 34 i))

pub len_of_digits : (unused : ℕ) (digits : List ℕ) → 48 ≤ unused → unused ≤ 51
    → length (bits_of (34 ∷ unused ∷ digits ++ 34 ∷ [])) ≡ 4 * length digits - (unused - 48)
len_of_digits unused digits low high = ap length (bits_of_digits unused digits low high) ∙ left_len (unused - 48) digits
