-- The rows of the table of pieces, each from what its function passes over.
use Rattle.std.proofs.Common.{◌≡◌, ℕ, ◌+◌, ◌-◌, ◌%◌, ◌≤◌, Bool, true, false, List, [], ◌∷◌, ◌++◌, get_or, take, drop, refl, sym, ap, ◌∙◌, arith, nat_le, cond, Some, None, Option, MatchOption, codes, take-append-drop, Bor}
use Rattle.std.specs.Prelude.{◌==◌}
use Rattle.std.specs.List.{prefix_len}
use Rattle.std.proofs.lemmas.Bool.Decides.{nat_tests}
use Rattle.std.proofs.lemmas.List.Folds.{length-prefix_len}
use Rattle.step_literals.specs.Bytes.{is_hex}
use Rattle.step_literals.specs.Strings.{Piece, backslash, shift, page, groups, clean, begins_with, shift_at, code_at, groups_at, names_page, piece_at}
use Rattle.step_literals.specs.steps.Directives.{Skips, Completes}
use Rattle.step_literals.proofs.CleanLemmas.{skips_on, begins_split}

pub option_weaker : {A : Type 0} {P P' : Type 0} {Q Q' : A → Type 0} (o : Option A) → MatchOption o P Q → (P → P')
    → ((x : A) → Q x → Q' x) → MatchOption o P' Q'
option_weaker None h f g = f h
option_weaker (Some x) h f g = g x h

-- an apostrophe behind `\S\` needs another
quote_row : (l : List ℕ) (t : Bool) → begins_with (39 ∷ []) l ≡ t → shift_at (39 ∷ l) ≡ cond t (Some (shift 39)) None
quote_row l true h = rw h refl
quote_row l false h = rw h refl

pub shift_quote : {bytes mid after : List ℕ} → clean bytes ≡ 39 ∷ clean mid → Skips 1 bytes mid
    → (begins_with (39 ∷ []) (clean mid) ≡ true) × Skips 1 mid after → Completes (shift_at (clean bytes)) 3 bytes after
shift_quote {bytes} {mid} {after} e h g = record {
  piece = shift 39;
  stands = ap shift_at e ∙ quote_row (clean mid) true g.0;
  more = 2;
  len = refl;
  skips = skips_on h g.1;
}

pub shift_single : (bytes mid : List ℕ) → clean bytes ≡ 39 ∷ clean mid → begins_with (39 ∷ []) (clean mid) ≡ false
    → shift_at (clean bytes) ≡ None
shift_single bytes mid e h = ap shift_at e ∙ quote_row (clean mid) false h

-- digits in groups, and `\X0\` behind them
pub groups_row : (w : ℕ) (l : List ℕ) (t : Bool) → prefix_len is_hex l % w ≡ 0 → begins_with (codes "\\X0\\")
    (drop (prefix_len is_hex l) l) ≡ t
    → groups_at w l ≡ cond t (Some (groups w (take (prefix_len is_hex l) l))) None
groups_row w l true h e = let q : (prefix_len is_hex l % w == 0) ≡ true = grind (arith, nat_tests) in rw (q, e) refl
groups_row w l false h e = let q : (prefix_len is_hex l % w == 0) ≡ true = grind (arith, nat_tests) in rw (q, e) refl

pub groups_end : (w : ℕ) {n : ℕ} {bytes mid after : List ℕ} → n ≡ prefix_len is_hex (clean bytes) → n % w ≡ 0
    → Skips n bytes mid → (begins_with (codes "\\X0\\") (clean mid) ≡ true) × Skips 4 mid after
    → Completes (groups_at w (clean bytes)) 4 bytes after
groups_end w {n} {bytes} {mid} {after} len whole h g = record {
  piece = groups w (take (prefix_len is_hex (clean bytes)) (clean bytes));
  stands = groups_row w (clean bytes) true (rw len at whole)
      (ap (λ k. begins_with (codes "\\X0\\") (drop k (clean bytes))) (sym len) ∙ ap (begins_with (codes "\\X0\\"))
      (sym h.left) ∙ g.0);
  more = n + 4;
  len = omega (arith, length-prefix_len is_hex (clean bytes), len);
  skips = skips_on h g.1;
}

pub groups_unended : (w : ℕ) {n : ℕ} {bytes mid : List ℕ} → n ≡ prefix_len is_hex (clean bytes) → n % w ≡ 0
    → Skips n bytes mid → begins_with (codes "\\X0\\") (clean mid) ≡ false → groups_at w (clean bytes) ≡ None
groups_unended w {n} {bytes} {mid} len whole h e =
    groups_row w (clean bytes) false (rw len at whole) (ap (λ k. begins_with (codes "\\X0\\") (drop k (clean bytes)))
    (sym len) ∙ ap (begins_with (codes "\\X0\\")) (sym h.left) ∙ e)

last_row : (l : List ℕ) (t : Bool) → begins_with (92 ∷ []) l ≡ t → (get_or l 0 0 == 92) ≡ t
last_row [] t h = h
last_row (x ∷ xs) true h = grind (arith, nat_tests)
last_row (x ∷ xs) false h = grind (arith, nat_tests)

page_row : (l : List ℕ) (p : ℕ) (t : Bool) → 65 ≤ p → p ≤ 73 → begins_with (92 ∷ []) l ≡ t
    → names_page (92 ∷ 80 ∷ p ∷ l) ≡ t
page_row l p t low high h =
    let a : nat_le 65 p ≡ true = grind (arith, nat_tests) in let b : nat_le p 73 ≡ true = grind (arith, nat_tests) in
    rw (a, b) (last_row l t h)

page_begins : {bytes mid : List ℕ} {p : ℕ} (more : List ℕ) → begins_with (codes "\\P") (clean bytes) ≡ true
    → Skips 2 bytes mid → clean mid ≡ p ∷ clean more → clean bytes ≡ 92 ∷ 80 ∷ p ∷ clean more
page_begins {bytes} more begins h e = begins_split (codes "\\P") (clean bytes) begins
    ∙ ap (λ l. 92 ∷ 80 ∷ l) (sym h.left ∙ e)

pub page_letter : {bytes mid : List ℕ} {p : ℕ} (more : List ℕ) → begins_with (codes "\\P") (clean bytes) ≡ true
    → Skips 2 bytes mid → clean mid ≡ p ∷ clean more → p - 64 ≡ get_or (clean bytes) 2 0 - 64
page_letter more begins h e = ap (λ l. get_or l 2 0 - 64) (sym (page_begins more begins h e))

pub page_is : {bytes mid : List ℕ} {p : ℕ} (more : List ℕ) (t : Bool) → begins_with (codes "\\P") (clean bytes) ≡ true
    → Skips 2 bytes mid → clean mid ≡ p ∷ clean more → 65 ≤ p → p ≤ 73
    → begins_with (92 ∷ []) (clean more) ≡ t → names_page (clean bytes) ≡ t
page_is {bytes} {mid} {p} more t begins h e low high back =
    ap names_page (page_begins more begins h e) ∙ page_row (clean more) p t low high back

-- what begins with a backslash
pub slash_head : (bs : List ℕ) → take 1 bs ≡ 92 ∷ [] → bs ≡ 92 ∷ drop 1 bs
slash_head bs h = sym (take-append-drop 1 bs) ∙ ap (λ l. l ++ drop 1 bs) h

pub slash_first : (bytes : List ℕ) → take 1 bytes ≡ 92 ∷ [] → clean bytes ≡ 92 ∷ clean (drop 1 bytes)
slash_first bytes h = ap clean (slash_head bytes h)

-- a piece whose first bytes are passed
pub deeper : {row whole : Option Piece} {begun : ℕ} {bytes mid after : List ℕ} → whole ≡ row → Skips begun bytes mid
    → Completes row begun mid after → Completes whole 0 bytes after
deeper {row} {whole} {begun} e h g = record {
  piece = g.piece;
  stands = e ∙ g.stands;
  more = begun + g.more;
  len = omega (arith, g.len);
  skips = skips_on h g.skips;
}

-- a row of the table that another function reads on
pub deeper_row : (row : List ℕ → Option Piece) {begun : ℕ} {bytes mid : List ℕ} (o : Option (Bor (List ℕ)))
    → piece_at (clean bytes) ≡ row (drop begun (clean bytes)) → Skips begun bytes mid
    → MatchOption o (row (clean mid) ≡ None) (λ after. Completes (row (clean mid)) begun mid after.now)
    → MatchOption o (piece_at (clean bytes) ≡ None) (λ after. Completes (piece_at (clean bytes)) 0 bytes after.now)
deeper_row row {begun} {bytes} {mid} o e h m =
    let same : piece_at (clean bytes) ≡ row (clean mid) = e ∙ ap row (sym h.left) in
    option_weaker o m (λ none. same ∙ none) (λ after g. deeper same h g)

pub backslash_row : (l bs : List ℕ) → bs ≡ 92 ∷ l → begins_with (codes "\\\\") bs ≡ true → piece_at bs ≡ Some backslash
backslash_row l bs e s = let h = rw e at s in rw e (rw h refl)

module _ (l bs : List ℕ) (e : bs ≡ 92 ∷ l) (doubled : begins_with (codes "\\\\") bs ≡ false) where
  pub shift_row : begins_with (codes "\\S\\") bs ≡ true → piece_at bs ≡ shift_at (drop 3 bs)
  shift_row s = let h = rw e at doubled in let g = rw e at s in rw e (rw (h, g) refl)

  pub page_found : begins_with (codes "\\S\\") bs ≡ false → names_page bs ≡ true
      → piece_at bs ≡ Some (page (get_or bs 2 0))
  page_found s t = let h = rw e at doubled in let i = rw e at s in let g = rw e at t in rw e (rw (h, i, g) refl)

  module _ (shifts : begins_with (codes "\\S\\") bs ≡ false) (names : names_page bs ≡ false) where
    pub code_row : begins_with (codes "\\X\\") bs ≡ true → piece_at bs ≡ code_at (drop 3 bs)
    code_row s = let h = rw e at doubled in let i = rw e at shifts in let j = rw e at names in let g = rw e at s in
        rw e (rw (h, i, j, g) refl)

    module _ (codes_one : begins_with (codes "\\X\\") bs ≡ false) where
      pub two_row : begins_with (codes "\\X2\\") bs ≡ true → piece_at bs ≡ groups_at 4 (drop 4 bs)
      two_row s = let h = rw e at doubled in let i = rw e at shifts in let j = rw e at names in let k =
          rw e at codes_one in let g = rw e at s in rw e (rw (h, i, j, k, g) refl)

      pub four_row : begins_with (codes "\\X2\\") bs ≡ false → begins_with (codes "\\X4\\") bs ≡ true
          → piece_at bs ≡ groups_at 8 (drop 4 bs)
      four_row t s =
          let h = rw e at doubled in let i = rw e at shifts in let j = rw e at names in let k = rw e at codes_one in
          let m = rw e at t in let g = rw e at s in
          rw e (rw (h, i, j, k, m, g) refl)
