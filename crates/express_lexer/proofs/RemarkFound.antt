-- The embedded remark at the front of a text is found, or none stands there.
use Rattle.std.proofs.Common.{◌≡◌, ℕ, zero, suc, ◌+◌, ◌-◌, ◌≤◌, ◌<◌, true, false, List, [], ◌∷◌, ◌++◌, length, take, drop, refl, sym, ap, ◌∙◌, subst, arith, codes, ◌⊎◌, inl, inr}
use Rattle.std.proofs.lemmas.Bool.{false≢true, cases_Bool}
use Rattle.step_literals.specs.Strings.{begins_with}
use Rattle.step_literals.proofs.CleanLemmas.{begins_yes, begins_split}
use Rattle.express_lexer.specs.Layout.{IsRemark, written, turns}
use Rattle.express_lexer.proofs.Remarks.{Counts, counts_start, counts_open, counts_close, counts_byte, not_closed, remark_at}

-- the remark at the front, and its length
abbrev pub RemarkAt : List ℕ → Type 0
RemarkAt l = (n : ℕ) × (2 ≤ n) × (n ≤ length l) × IsRemark (take n l)

abbrev pub NoRemark : List ℕ → Type 0
NoRemark l = (t after : List ℕ) → l ≡ t ++ after → IsRemark t → ⊥

plain : (l : List ℕ) → begins_with (codes "(*") l ≡ false → begins_with (codes "*)") l ≡ false → turns l ≡ false
plain l h g = rw (h, g) refl

module _ (bytes : List ℕ) where
  -- behind a byte, or behind what opens or closes a remark
  turn : (n : ℕ) → 0 < n → (b : ℕ) (r : List ℕ) → Counts bytes n (b ∷ r)
      → ((m : ℕ) (rest : List ℕ) → length rest ≤ length r → Counts bytes m rest → RemarkAt bytes ⊎ NoRemark bytes)
      → (begins_with (codes "(*") (b ∷ r) ≡ true) ⊎ (begins_with (codes "(*") (b ∷ r) ≡ false)
      → (begins_with (codes "*)") (b ∷ r) ≡ true) ⊎ (begins_with (codes "*)") (b ∷ r) ≡ false) → RemarkAt bytes
      ⊎ NoRemark bytes
  turn n some b r c on (inl opens) closes =
      let rest = drop 2 (b ∷ r) in
      let split : b ∷ r ≡ 40 ∷ 42 ∷ rest = begins_split (codes "(*") (b ∷ r) opens in
      on (n + 1) rest (omega (arith, ap length split)) (counts_open bytes n some rest (subst (Counts bytes n) split c))
  turn n some b r c on (inr stays) (inl closes) =
      let rest = drop 2 (b ∷ r) in
      let split : b ∷ r ≡ 42 ∷ 41 ∷ rest = begins_split (codes "*)") (b ∷ r) closes in
      on (n - 1) rest (omega (arith, ap length split)) (counts_close bytes n some rest (subst (Counts bytes n) split c))
  turn n some b r c on (inr stays) (inr still) = on n r (omega arith)
      (counts_byte bytes n some r b (plain (b ∷ r) stays still) c)

  count_within : (fuel n : ℕ) (rest : List ℕ) → length rest ≤ fuel → Counts bytes n rest → RemarkAt bytes
      ⊎ NoRemark bytes
  count_within fuel zero rest le c = let r = remark_at bytes (length bytes - length rest) rest refl c in
      inl (length bytes - length rest, r.0, r.1, r.2)
  count_within fuel (suc n) [] le c = inr (not_closed bytes (suc n) (omega arith) c)
  count_within zero (suc n) (b ∷ r) le c = absurd (omega (arith, le))
  count_within (suc fuel) (suc n) (b ∷ r) le c =
      turn (suc n) (omega arith) b r c (λ m rest less d. count_within fuel m rest (omega (arith, le, less)) d)
      (cases_Bool (begins_with (codes "(*") (b ∷ r))) (cases_Bool (begins_with (codes "*)") (b ∷ r)))

  remark_of : (begins_with (codes "(*") bytes ≡ true) ⊎ (begins_with (codes "(*") bytes ≡ false) → RemarkAt bytes
      ⊎ NoRemark bytes
  remark_of (inl opens) = let rest = drop 2 bytes in count_within (length rest) 1 rest (omega arith)
      (counts_start bytes rest (begins_split (codes "(*") bytes opens))
  remark_of (inr stays) = inr (λ t after e is. false≢true (sym stays ∙ begins_yes (codes "(*") bytes
      (written is.0 ++ after) (e ∙ ap (λ x. x ++ after) is.2)))

  -- a remark stands at the front, or none does
  pub remark_or_none : RemarkAt bytes ⊎ NoRemark bytes
  remark_or_none = remark_of (cases_Bool (begins_with (codes "(*") bytes))
