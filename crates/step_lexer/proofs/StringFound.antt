-- Whether the content of a string can be read to its end.
use Rattle.std.proofs.Common.{◌≡◌, ℕ, zero, suc, ◌-◌, ◌≤◌, ◌<◌, Bool, true, false, cond, List, [], ◌∷◌, ◌++◌, length, take, refl, sym, ap, ◌∙◌, arith, append_assoc, length-drop, subst, Option, Some, None, codes, ◌⊎◌, inl, inr}
use Rattle.std.specs.List.{prefix_len}
use Rattle.std.proofs.lemmas.Bool.{cases_Bool, cases_lt}
use Rattle.std.proofs.lemmas.Bool.Decides.{nat_tests}
use Rattle.step_literals.specs.Strings.{Piece, apostrophe, run, byte, clean, piece_at, piece_len, is_high, begins_with, AreRead, IsReadable, IsBrokenAt}
use Rattle.step_literals.specs.steps.Directives.{Skips}
use Rattle.step_literals.proofs.CleanLemmas.{skips_on, skips_as, skips_kept, skips_low, kept}
use Rattle.step_literals.proofs.DirectiveLemmas.{IsReadUpTo, read_piece, broken_here, piece_pos, plain_row, no_slash}

skips_none : (l : List ℕ) → Skips 0 l l
skips_none l = record { passed = []; split = refl; left = refl }

-- the first byte from 32 up
abbrev FirstKept : List ℕ → Type 0
FirstKept l = (b : ℕ) × (more : List ℕ) × (32 ≤ b) × Skips 0 l (b ∷ more)

first_kept : (l : List ℕ) → FirstKept l ⊎ (clean l ≡ [])
first_kept [] = inr refl
first_kept (b ∷ bs) = by (cases_lt b 32) (first_kept bs)
  where
    by : (b < 32) ⊎ (32 ≤ b) → FirstKept bs ⊎ (clean bs ≡ []) → FirstKept (b ∷ bs) ⊎ (clean (b ∷ bs) ≡ [])
    by (inl small) (inl f) = inl (f.0, f.1, f.2, skips_on (skips_low (skips_none (b ∷ bs)) refl small) f.3)
    by (inl small) (inr none) = inr (sym (skips_low (skips_none (b ∷ bs)) refl small).left ∙ none)
    by (inr large) f = inl (b, bs, large, skips_none (b ∷ bs))

-- what follows so many bytes from 32 up
skip_found : (l : List ℕ) (n : ℕ) → (after : List ℕ) × Skips n l after
skip_found l zero = (l, skips_none l)
skip_found [] (suc n) = ([], record { passed = []; split = refl; left = refl })
skip_found (b ∷ bs) (suc n) = by (cases_lt b 32) (skip_found bs (suc n)) (skip_found bs n)
  where
    by : (b < 32) ⊎ (32 ≤ b) → (after : List ℕ) × Skips (suc n) bs after → (after : List ℕ) × Skips n bs after
        → (after : List ℕ) × Skips (suc n) (b ∷ bs) after
    by (inl small) f g = (f.0, skips_as (omega arith) (skips_on (skips_low (skips_none (b ∷ bs)) refl small) f.1))
    by (inr large) f g = (g.0, skips_as (omega arith) (skips_on (skips_kept (skips_none (b ∷ bs)) refl large) g.1))

some_row : (t u : Bool) (p q r : Piece) → cond t (Some p) (cond u (Some q) (Some r)) ≡ None → ⊥
some_row true u p q r e = cc
some_row false true p q r e = cc
some_row false false p q r e = cc

-- a piece that isn't completed begins with a backslash
slash_there : (b : ℕ) (zs : List ℕ) → piece_at (b ∷ zs) ≡ None → (no_slash b ≡ true) ⊎ (no_slash b ≡ false) → b ≡ 92
slash_there b zs e (inl h) =
    let t = begins_with (codes "''") (b ∷ zs) in
    absurd (some_row t (is_high b) apostrophe (run (take (prefix_len is_high (b ∷ zs)) (b ∷ zs))) (byte b)
    (sym (plain_row b zs t (is_high b) h refl refl) ∙ e))
slash_there b zs e (inr h) = grind (arith, nat_tests)

-- a content can be read, or a directive in it is begun and not completed
abbrev pub ReadOrBroken : List ℕ → Type 0
ReadOrBroken content = IsReadable content ⊎ ((index : ℕ) × IsBrokenAt content index)

-- up to bytes that stand behind some below 32
read_over : (content left after : List ℕ) → IsReadUpTo content left → Skips 0 left after → IsReadUpTo content after
read_over content left after h s = record {
  passed = h.passed ++ s.passed;
  split = h.split ∙ ap (λ l. h.passed ++ l) s.split ∙ sym (append_assoc h.passed s.passed after);
  pieces = h.pieces;
  read = subst (AreRead (clean content) h.pieces) (sym s.left) h.read;
}

module _ (content : List ℕ) (b : ℕ) (more : List ℕ) (large : 32 ≤ b) (h : IsReadUpTo content (b ∷ more)) where
  broken_at : piece_at (clean (b ∷ more)) ≡ None → ReadOrBroken content
  broken_at none =
      let slash : b ≡ 92 = slash_there b (clean more) (sym (ap piece_at (kept b more large)) ∙ none)
      (cases_Bool (no_slash b)) in
      inr (
        length content - length (b ∷ more),
        broken_here content (b ∷ more) (length content - length (b ∷ more)) h
            (ap (λ c. c ∷ []) slash) none refl,
      )

  piece_or_broken : (o : Option Piece) → piece_at (clean (b ∷ more)) ≡ o → ((after : List ℕ) → IsReadUpTo content after
      → length (clean after) < length (clean (b ∷ more)) → ReadOrBroken content) → ReadOrBroken content
  piece_or_broken None e on = broken_at e
  piece_or_broken (Some p) e on =
      let f = skip_found (b ∷ more) (piece_len p) in
      on f.0 (read_piece content (b ∷ more) f.0 h (record {
        piece = p;
        stands = e;
        more = piece_len p;
        len = omega arith;
        skips = f.1;
      }))
      (omega (
        arith,
        ap length f.1.left,
        length-drop (piece_len p) (clean (b ∷ more)),
        piece_pos (clean (b ∷ more)) p e,
        ap length (kept b more large),
      ))

read_step : (content left : List ℕ) → IsReadUpTo content left → FirstKept left ⊎ (clean left ≡ [])
    → ((after : List ℕ) → IsReadUpTo content after → length (clean after) < length (clean left) → ReadOrBroken content)
    → ReadOrBroken content
read_step content left h (inr none) on = inl (h.pieces, subst (AreRead (clean content) h.pieces) none h.read)
read_step content left h (inl f) on =
    piece_or_broken content f.0 f.1 f.2 (read_over content left (f.0 ∷ f.1) h f.3) (piece_at (clean (f.0 ∷ f.1))) refl
    (λ after r less. on after r (omega (arith, less, ap length f.3.left)))

read_within : (n : ℕ) (content left : List ℕ) → length (clean left) ≤ n → IsReadUpTo content left → ReadOrBroken content
read_within zero content left le h = read_step content left h (first_kept left)
    (λ after r less. absurd (omega (arith, less, le)))
read_within (suc n) content left le h = read_step content left h (first_kept left)
    (λ after r less. read_within n content after (omega (arith, less, le)) r)

pub read_or_broken : (content : List ℕ) → ReadOrBroken content
read_or_broken content = read_within (length (clean content)) content content (omega arith) (record {
  passed = [];
  split = refl;
  pieces = [];
  read = refl;
})
