-- Runs of bytes of a class, and where they end.
use Rattle.std.proofs.Common.{◌≡◌, ℕ, zero, suc, ◌+◌, ◌≤◌, ◌<◌, Bool, true, false, cond, List, [], ◌∷◌, ◌++◌, length, get_or, take, drop, refl, sym, ap, ◌∙◌, arith, one-add, length-append, take-append-drop}
use Rattle.std.proofs.Math.Seq.{take-append_seam, drop-append_seam}
use Rattle.std.specs.List.{prefix_len}
use Rattle.std.proofs.lemmas.Bool.{false≢true}
use Rattle.step_literals.specs.Bytes.{Each, Stops}

-- front is the longest run of elements that pass, and back is what follows it
pub record IsRun (p : ℕ → Bool) (front back : List ℕ) : Type 0 where
  pub passes : Each p front
  pub stops : Stops p back

-- two splits of a list after a run are one
pub cut_unique : (p : ℕ → Bool) (xs ys r s : List ℕ) → Each p xs → Each p ys → Stops p r → Stops p s → xs ++ r ≡ ys ++ s
    → (xs ≡ ys) × (r ≡ s)
cut_unique p [] [] r s hx hy hr hs e = (refl, e)
cut_unique p [] (y ∷ ys) [] s hx hy hr hs e = absurd (cc)
cut_unique p [] (y ∷ ys) (b ∷ r) s hx hy hr hs e = let h : b ≡ y = cc in absurd (false≢true (sym hr ∙ ap p h ∙ hy.0))
cut_unique p (x ∷ xs) [] r [] hx hy hr hs e = absurd (cc)
cut_unique p (x ∷ xs) [] r (b ∷ s) hx hy hr hs e = let h : b ≡ x = cc in absurd (false≢true (sym hs ∙ ap p h ∙ hx.0))
cut_unique p (x ∷ xs) (y ∷ ys) r s hx hy hr hs e =
    let t : xs ++ r ≡ ys ++ s = cc in let h = cut_unique p xs ys r s hx.1 hy.1 hr hs t in (cc, h.1)

-- no run is longer than the one that stops
pub run_fits : (p : ℕ → Bool) (xs ys r s : List ℕ) → Each p xs → Stops p s → xs ++ r ≡ ys ++ s → length xs ≤ length ys
run_fits p [] ys r s hx hs e = omega arith
run_fits p (x ∷ xs) [] r [] hx hs e = absurd (cc)
run_fits p (x ∷ xs) [] r (b ∷ s) hx hs e = let h : b ≡ x = cc in absurd (false≢true (sym hs ∙ ap p h ∙ hx.0))
run_fits p (x ∷ xs) (y ∷ ys) r s hx hs e =
    let t : xs ++ r ≡ ys ++ s = cc in omega (arith, run_fits p xs ys r s hx.1 hs t)

run_cons : (p : ℕ → Bool) (x : ℕ) (xs : List ℕ) (b : Bool) → p x ≡ b → IsRun p (take (prefix_len p xs) xs)
    (drop (prefix_len p xs) xs)
    → IsRun p (take (cond b (1 + prefix_len p xs) 0) (x ∷ xs)) (drop (cond b (1 + prefix_len p xs) 0) (x ∷ xs))
run_cons p x xs true e h = rw one-add (record { passes = (e, h.passes); stops = h.stops })
run_cons p x xs false e h = record { passes = tt; stops = e }

-- the first `prefix_len` elements are the longest run
pub run_at_prefix : (p : ℕ → Bool) (xs : List ℕ) → IsRun p (take (prefix_len p xs) xs) (drop (prefix_len p xs) xs)
run_at_prefix p [] = record { passes = tt; stops = tt }
run_at_prefix p (x ∷ xs) = run_cons p x xs (p x) refl (run_at_prefix p xs)

pub stops_at : (l : List ℕ) (p : ℕ → Bool) → (0 < length l → p (get_or l 0 0) ≡ false) → Stops p l
stops_at [] p h = tt
stops_at (x ∷ xs) p h = h (omega arith)

-- a list with a front of n elements
pub front_back : (l t after : List ℕ) (n : ℕ) → l ≡ t ++ after → n ≡ length t → (n ≤ length l) × (take n l ≡ t)
    × (drop n l ≡ after)
front_back l t after n e len = (
  omega (arith, ap length e, length-append t after, len),
  (λ i. take (len i) (e i)) ∙ take-append_seam t after,
  (λ i. drop (len i) (e i)) ∙ drop-append_seam t after,
)

pub each_at : (p : ℕ → Bool) (l : List ℕ) (k : ℕ) → Each p l → k < length l → p (get_or l k 0) ≡ true
each_at p [] k h lt = absurd (omega arith)
each_at p (x ∷ xs) zero h lt = h.0
each_at p (x ∷ xs) (suc k) h lt = each_at p xs k h.1 (omega arith)

-- a list that begins with a byte
pub begins_with : (b : ℕ) (l rest : List ℕ) → take 1 l ≡ b ∷ [] → rest ≡ drop 1 l → l ≡ b ∷ rest
begins_with b l rest h e = sym (take-append-drop 1 l) ∙ (λ i. h i ++ sym e i)
