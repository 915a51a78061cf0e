-- The first place of a byte, and what stands before it.
use Rattle.std.proofs.Common.{◌≡◌, ℕ, suc, ◌+◌, ◌<◌, Bool, true, not, List, [], ◌∷◌, ◌++◌, length, get_or, take, drop, sym, ap, ◌∙◌, arith, add-one, take-append-drop}
use Rattle.std.specs.Prelude.{◌==◌}
use Rattle.std.proofs.lemmas.Bool.Decides.{nat_tests}
use Rattle.std.proofs.lemmas.List.{get_or-take}
use Rattle.std.proofs.Math.Seq.{drop-cons}
use Rattle.std.proofs.Math.ListN.{length-take}
use Rattle.memchr.specs.Find.{NoneBefore, Nowhere, Passes, is_byte}
use Rattle.step_literals.specs.Bytes.{Each}

abbrev pub is_not : ℕ → ℕ → Bool
is_not a b = not (b == a)

-- what `memchr` says of the place of a
abbrev pub Found : ℕ → List ℕ → ℕ → Type 0
Found a rest at = NoneBefore (Passes (is_byte a) rest) 0 (length rest) at × Passes (is_byte a) rest at

pub each_from : (p : ℕ → Bool) (l : List ℕ) → ((k : ℕ) → k < length l → p (get_or l k 0) ≡ true) → Each p l
each_from p [] h = tt
each_from p (x ∷ xs) h = (h 0 (omega arith), each_from p xs (λ k lt. h (suc k) (omega arith)))

byte_is : (a b : ℕ) → is_byte a b ≡ true → b ≡ a
byte_is a b h = grind (arith, nat_tests)

not_byte : (a b : ℕ) → (is_byte a b ≡ true → ⊥) → is_not a b ≡ true
not_byte a b h = grind (arith, nat_tests)

pub before_found : (a : ℕ) (rest : List ℕ) (at : ℕ) → Found a rest at → Each (is_not a) (take at rest)
before_found a rest at h =
    each_from (is_not a) (take at rest) (λ k lt. let below : k < at = omega (arith, lt, length-take at rest, h.0.high)
    in rw (get_or-take at rest k 0 below)
    (not_byte a (get_or rest k 0) (h.0.before k (omega arith) (omega (arith, below, h.0.high)))))

pub drop_found : (a : ℕ) (rest : List ℕ) (at : ℕ) → Found a rest at → drop at rest ≡ a ∷ drop (at + 1) rest
drop_found a rest at h =
    let head : drop at rest ≡ get_or rest at 0 ∷ drop (suc at) rest = drop-cons rest at 0 h.0.high in
    head ∙ (λ i. byte_is a (get_or rest at 0) h.1 i ∷ drop (sym (add-one at) i) rest)

-- the rest, cut at the byte that is found
pub at_found : (a : ℕ) (rest : List ℕ) (at : ℕ) → Found a rest at → rest ≡ take at rest ++ a ∷ drop (at + 1) rest
at_found a rest at h = sym (take-append-drop at rest) ∙ ap (λ l. take at rest ++ l) (drop_found a rest at h)

pub none_found : (a : ℕ) (rest : List ℕ) → Nowhere (Passes (is_byte a) rest) 0 (length rest) → Each (is_not a) rest
none_found a rest h = each_from (is_not a) rest (λ k lt. not_byte a (get_or rest k 0) (h k (omega arith) lt))
