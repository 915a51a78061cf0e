-- Whether the string at the front of a text ends.
use Rattle.std.proofs.Common.{◌≡◌, ℕ, zero, suc, ◌≤◌, true, false, List, [], ◌∷◌, ◌++◌, length, refl, ap, arith, ◌⊎◌, inl, inr}
use Rattle.std.specs.Prelude.{◌==◌}
use Rattle.std.proofs.lemmas.Bool.{cases_Bool, eqb-true}
use Rattle.step_literals.specs.Bytes.{Each, Stops}
use Rattle.step_literals.specs.Tokens.{doubled}
use Rattle.step_literals.proofs.StringLemmas.{is_quote, no_quote}

-- bytes in which apostrophes stand in pairs, up to one that ends them
abbrev pub Ended : List ℕ → Type 0
Ended l = (content : List ℕ) × (after : List ℕ) × (l ≡ doubled content ++ 39 ∷ after) × Stops is_quote after

-- bytes in which apostrophes are in pairs, up to bytes with no apostrophe
abbrev pub Unended : List ℕ → Type 0
Unended l = (content : List ℕ) × (left : List ℕ) × (l ≡ doubled content ++ left) × Each no_quote left

behind_byte : (b : ℕ) (bs : List ℕ) → (b == 39) ≡ false → Ended bs ⊎ Unended bs → Ended (b ∷ bs) ⊎ Unended (b ∷ bs)
behind_byte b bs h (inl e) = inl (b ∷ e.0, e.1, rw h (ap (λ l. b ∷ l) e.2), e.3)
behind_byte b bs h (inr e) = inr (b ∷ e.0, e.1, rw h (ap (λ l. b ∷ l) e.2), e.3)

behind_pair : (b c : ℕ) (bs : List ℕ) → b ≡ 39 → c ≡ 39 → Ended bs ⊎ Unended bs → Ended (b ∷ c ∷ bs)
    ⊎ Unended (b ∷ c ∷ bs)
behind_pair b c bs h g (inl e) = inl (39 ∷ e.0, e.1, (λ i. h i ∷ g i ∷ e.2 i), e.3)
behind_pair b c bs h g (inr e) = inr (39 ∷ e.0, e.1, (λ i. h i ∷ g i ∷ e.2 i), e.3)

at_apostrophe : (b : ℕ) (bs : List ℕ) → b ≡ 39 → ((l : List ℕ) → length l ≤ length bs → Ended l ⊎ Unended l)
    → Ended (b ∷ bs) ⊎ Unended (b ∷ bs)
at_apostrophe b [] h more = inl ([], [], (λ i. h i ∷ []), tt)
at_apostrophe b (c ∷ cs) h more = by (cases_Bool (c == 39))
  where
    by : ((c == 39) ≡ true) ⊎ ((c == 39) ≡ false) → Ended (b ∷ c ∷ cs) ⊎ Unended (b ∷ c ∷ cs)
    by (inl q) = behind_pair b c cs h (eqb-true c 39 q) (more cs (omega arith))
    by (inr q) = inl ([], c ∷ cs, (λ i. h i ∷ c ∷ cs), q)

at_byte : (b : ℕ) (bs : List ℕ) → ((b == 39) ≡ true) ⊎ ((b == 39) ≡ false)
    → ((l : List ℕ) → length l ≤ length bs → Ended l ⊎ Unended l) → Ended (b ∷ bs) ⊎ Unended (b ∷ bs)
at_byte b bs (inl q) more = at_apostrophe b bs (eqb-true b 39 q) more
at_byte b bs (inr q) more = behind_byte b bs q (more bs (omega arith))

ends_within : (n : ℕ) (l : List ℕ) → length l ≤ n → Ended l ⊎ Unended l
ends_within n [] h = inr ([], [], refl, tt)
ends_within zero (b ∷ bs) h = absurd (omega (arith, h))
ends_within (suc n) (b ∷ bs) h = at_byte b bs (cases_Bool (b == 39)) (λ l le. ends_within n l (omega (arith, h, le)))

-- a string ends, or it doesn't
pub ends_or_not : (l : List ℕ) → Ended l ⊎ Unended l
ends_or_not l = ends_within (length l) l (omega arith)
