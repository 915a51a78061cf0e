-- What the table of pieces finds at the front is spelled there, and has its length.
use Rattle.std.proofs.Common.{◌≡◌, ℕ, zero, suc, ◌%◌, ◌≤◌, ◌<◌, Bool, true, false, not, cond, List, [], ◌∷◌, ◌++◌, length, get_or, take, drop, refl, sym, ap, ◌∙◌, arith, append_assoc, length-append, take-append-drop, codes, Option, Some, None, MatchOption, ◌⊎◌, inl, inr, subst}
use Rattle.std.specs.Prelude.{◌==◌, ◌&&◌, ◌||◌, nat_le, nat_lt, slice_index}
use Rattle.std.specs.List.{prefix_len}
use Rattle.std.proofs.Math.ListN.{length-take}
use Rattle.std.proofs.lemmas.List.Sums.{prefix_len-le-length}
use Rattle.std.proofs.lemmas.Bool.Decides.{nat_tests}
use Rattle.step_literals.specs.Bytes.{is_hex, Each}
use Rattle.step_literals.specs.Strings.{Piece, apostrophe, backslash, shift, page, code, groups, run, byte, begins_with, is_high, shift_at, code_at, groups_at, names_page, piece_at, BeginsPiece, BeginsDirective}
use Rattle.step_literals.proofs.Runs.{run_at_prefix}
use Rattle.step_literals.proofs.CleanLemmas.{begins_split}

-- what a row of the table says of the bytes
abbrev Says : List ℕ → Option Piece → Type 0
Says bs o = MatchOption o (BeginsDirective bs) (λ p. BeginsPiece bs p)

by_test : (bs : List ℕ) (t : Bool) (o r : Option Piece) → (t ≡ true → Says bs o) → (t ≡ false → Says bs r)
    → Says bs (cond t o r)
by_test bs true o r f g = f refl
by_test bs false o r f g = g refl

pub both : (a b : Bool) → (a && b) ≡ true → (a ≡ true) × (b ≡ true)
both true b h = (refl, h)
both false b h = absurd (cc)

not_true : (a : Bool) → not a ≡ false → a ≡ true
not_true true h = refl
not_true false h = absurd (cc)

quoted : (c : ℕ) (q b : Bool) (l : List ℕ) → (c == 39) ≡ q → b ≡ begins_with (39 ∷ []) l → (q && not b) ≡ false
    → (rest : List ℕ) × (c ∷ l ≡ cond q (39 ∷ 39 ∷ []) (c ∷ []) ++ rest)
quoted c true b l hc hb h =
    let yes : begins_with (39 ∷ []) l ≡ true = sym hb ∙ not_true b h in
    let same : c ≡ 39 = grind (arith, nat_tests) in
    (drop 1 l, λ i. same i ∷ begins_split (39 ∷ []) l yes i)
quoted c false b l hc hb h = (l, refl)

shift_says : (bs l : List ℕ) → bs ≡ codes "\\S\\" ++ l → Says bs (shift_at l)
shift_says bs [] e = record { text = codes "\\S\\"; rest = []; split = e; directive = inl refl }
shift_says bs (c ∷ l) e =
    by_test bs (nat_lt c 32 || nat_lt 126 c) None _ (λ h. record {
      text = codes "\\S\\";
      rest = c ∷ l;
      split = e;
      directive = inl refl;
    })
    (λ range. by_test bs (c == 39 && not (begins_with (39 ∷ []) l)) None (Some (shift c)) (λ h. record {
      text = codes "\\S\\";
      rest = c ∷ l;
      split = e;
      directive = inl refl;
    })
    (λ h.
    let q = quoted c (c == 39) (begins_with (39 ∷ []) l) l refl refl h in
    record {
      text = codes "\\S\\" ++ cond (c == 39) (39 ∷ 39 ∷ []) (c ∷ []);
      rest = q.0;
      split = e ∙ ap (λ x. codes "\\S\\" ++ x) q.1
          ∙ sym (append_assoc (codes "\\S\\") (cond (c == 39) (39 ∷ 39 ∷ []) (c ∷ [])) q.0);
      spells = (low c range, high c range, refl);
      len = five (c == 39);
    }))
  where
    low : (c : ℕ) → (nat_lt c 32 || nat_lt 126 c) ≡ false → 32 ≤ c
    low c h = grind (arith, nat_tests)

    high : (c : ℕ) → (nat_lt c 32 || nat_lt 126 c) ≡ false → c ≤ 126
    high c h = grind (arith, nat_tests)

    five : (t : Bool) → cond t 5 4 ≡ length (codes "\\S\\" ++ cond t (39 ∷ 39 ∷ []) (c ∷ []))
    five true = refl
    five false = refl

page_says : (bs : List ℕ) → names_page bs ≡ true → BeginsPiece bs (page (slice_index bs 2))
page_says bs h =
    let a = both (begins_with (codes "\\P") bs && nat_le 65 (slice_index bs 2) && nat_le (slice_index bs 2) 73)
    (slice_index bs 3 == 92) h in
    let b = both (begins_with (codes "\\P") bs && nat_le 65 (slice_index bs 2)) (nat_le (slice_index bs 2) 73) a.0 in
    let c = both (begins_with (codes "\\P") bs) (nat_le 65 (slice_index bs 2)) b.0 in
    let e = begins_split (codes "\\P") bs c.0 in
    page_of (drop 2 bs) e (subst (λ l. nat_le 65 (slice_index l 2) ≡ true) e c.1)
    (subst (λ l. nat_le (slice_index l 2) 73 ≡ true) e b.1) (subst (λ l. (slice_index l 3 == 92) ≡ true) e a.1)
  where
    page_of : (l : List ℕ) → bs ≡ codes "\\P" ++ l → nat_le 65 (get_or l 0 0) ≡ true → nat_le (get_or l 0 0) 73 ≡ true
        → (get_or l 1 0 == 92) ≡ true → BeginsPiece bs (page (slice_index bs 2))
    page_of [] e low high last = absurd (grind (arith, nat_tests))
    page_of (p ∷ []) e low high last = absurd (grind (arith, nat_tests))
    page_of (p ∷ q ∷ l) e low high last =
        let slash : q ≡ 92 = grind (arith, nat_tests) in
        let letter : slice_index bs 2 ≡ p = ap (λ x. slice_index x 2) e in
        record {
          text = codes "\\P" ++ slice_index bs 2 ∷ 92 ∷ [];
          rest = l;
          split = e ∙ (λ i. codes "\\P" ++ sym letter i ∷ slash i ∷ l);
          spells = (
            (let k : 65 ≤ p = grind (arith, nat_tests) in omega (arith, k, letter)),
            (let k : p ≤ 73 = grind (arith, nat_tests) in omega (arith, k, letter)),
            refl,
          );
          len = refl;
        }

each_take : (n : ℕ) (xs : List ℕ) → Each is_hex xs → Each is_hex (take n xs)
each_take zero xs h = tt
each_take (suc n) [] h = tt
each_take (suc n) (x ∷ xs) h = (h.0, each_take n xs h.1)

take_of_take : (n m : ℕ) (l : List ℕ) → n ≤ m → take n (take m l) ≡ take n l
take_of_take zero m l h = refl
take_of_take (suc n) zero l h = absurd (omega (arith, h))
take_of_take (suc n) (suc m) [] h = refl
take_of_take (suc n) (suc m) (x ∷ l) h = ap (λ r. x ∷ r) (take_of_take n m l (omega (arith, h)))

pub each_first : (n : ℕ) (l : List ℕ) → n ≤ prefix_len is_hex l → Each is_hex (take n l)
each_first n l h = subst (Each is_hex) (take_of_take n (prefix_len is_hex l) l h)
    (each_take n (take (prefix_len is_hex l) l) (run_at_prefix is_hex l).passes)

code_says : (bs l : List ℕ) → bs ≡ codes "\\X\\" ++ l → Says bs (code_at l)
code_says bs l e =
    by_test bs (nat_le 2 (prefix_len is_hex l)) (Some (code (take 2 l))) None
    (λ h.
    let two : 2 ≤ prefix_len is_hex l = grind (arith, nat_tests) in
    let ds : length (take 2 l) ≡ 2 = omega (arith, length-take 2 l, prefix_len-le-length is_hex l, two) in
    record {
      text = codes "\\X\\" ++ take 2 l;
      rest = drop 2 l;
      split = e ∙ ap (λ x. codes "\\X\\" ++ x) (sym (take-append-drop 2 l))
          ∙ sym (append_assoc (codes "\\X\\") (take 2 l) (drop 2 l));
      spells = (each_first 2 l two, ds, refl);
      len = omega (arith, ds, length-append (codes "\\X\\") (take 2 l));
    })
    (λ h. record { text = codes "\\X\\"; rest = l; split = e; directive = inr (inl refl) })

groups_says : (bs l opening : List ℕ) (w : ℕ) → bs ≡ opening ++ l → length opening ≡ 4
    → ((w ≡ 4) × (opening ≡ codes "\\X2\\")) ⊎ ((w ≡ 8) × (opening ≡ codes "\\X4\\")) → Says bs (groups_at w l)
groups_says bs l opening w e four width =
    by_test bs ((prefix_len is_hex l % w == 0) && begins_with (codes "\\X0\\") (drop (prefix_len is_hex l) l))
    (Some (groups w (take (prefix_len is_hex l) l))) None
    (λ h.
    let n = prefix_len is_hex l in
    let ds = take n l in
    let a = both (n % w == 0) (begins_with (codes "\\X0\\") (drop n l)) h in
    let len : length ds ≡ n = omega (arith, length-take n l, prefix_len-le-length is_hex l) in
    let end = begins_split (codes "\\X0\\") (drop n l) a.1 in
    let modulo : n % w ≡ 0 = zero_is (n % w) a.0 in
    let back = drop 4 (drop n l) in
    record {
      text = opening ++ ds ++ codes "\\X0\\";
      rest = back;
      split =
          e ∙ ap (λ x. opening ++ x) (sym (take-append-drop n l) ∙ ap (λ x. ds ++ x) end)
          ∙ sym (append_assoc opening ds (codes "\\X0\\" ++ back))
          ∙ sym (append_assoc (opening ++ ds) (codes "\\X0\\") back);
      spells = ((run_at_prefix is_hex l).passes, ap (λ k. k % w) len ∙ modulo, spelled width ds);
      len = omega (arith, four, length-append (opening ++ ds) (codes "\\X0\\"), length-append opening ds);
    })
    (λ h. record { text = opening; rest = l; split = e; directive = opens width })
  where
    zero_is : (k : ℕ) → (k == 0) ≡ true → k ≡ 0
    zero_is k h = grind (arith, nat_tests)

    spelled : ((w ≡ 4) × (opening ≡ codes "\\X2\\")) ⊎ ((w ≡ 8) × (opening ≡ codes "\\X4\\")) → (ds : List ℕ)
        → ((w ≡ 4) × (opening ++ ds ++ codes "\\X0\\" ≡ codes "\\X2\\" ++ ds ++ codes "\\X0\\"))
        ⊎ ((w ≡ 8) × (opening ++ ds ++ codes "\\X0\\" ≡ codes "\\X4\\" ++ ds ++ codes "\\X0\\"))
    spelled (inl h) ds = inl (h.0, ap (λ x. x ++ ds ++ codes "\\X0\\") h.1)
    spelled (inr h) ds = inr (h.0, ap (λ x. x ++ ds ++ codes "\\X0\\") h.1)

    opens : ((w ≡ 4) × (opening ≡ codes "\\X2\\")) ⊎ ((w ≡ 8) × (opening ≡ codes "\\X4\\")) → (opening ≡ codes "\\S\\")
        ⊎ (opening ≡ codes "\\X\\") ⊎ (opening ≡ codes "\\X2\\") ⊎ (opening ≡ codes "\\X4\\")
    opens (inl h) = inr (inr (inl h.1))
    opens (inr h) = inr (inr (inr h.1))

other_says : (b : ℕ) (bs : List ℕ) → Says (b ∷ bs)
    (cond (is_high b) (Some (run (take (prefix_len is_high (b ∷ bs)) (b ∷ bs)))) (Some (byte b)))
other_says b bs =
    let all = b ∷ bs in let n = prefix_len is_high all in
    by_test all (is_high b) (Some (run (take n all))) (Some (byte b))
    (λ h. record {
      text = take n all;
      rest = drop n all;
      split = sym (take-append-drop n all);
      spells = ((run_at_prefix is_high all).passes, refl);
      len = refl;
    })
    (λ h. record {
      text = b ∷ [];
      rest = bs;
      split = refl;
      spells = ((let k : b < 128 = grind (arith, nat_tests) in k), refl);
      len = refl;
    })

piece_says : (b : ℕ) (bs : List ℕ) → Says (b ∷ bs) (piece_at (b ∷ bs))
piece_says b bs =
    let all = b ∷ bs in
    by_test all (begins_with (codes "''") all) (Some apostrophe) _ (λ h. record {
      text = codes "''";
      rest = drop 2 all;
      split = begins_split (codes "''") all h;
      spells = refl;
      len = refl;
    })
    (λ _.
    by_test all (begins_with (codes "\\\\") all) (Some backslash) _ (λ h. record {
      text = codes "\\\\";
      rest = drop 2 all;
      split = begins_split (codes "\\\\") all h;
      spells = refl;
      len = refl;
    })
    (λ _.
    by_test all (begins_with (codes "\\S\\") all) (shift_at (drop 3 all)) _
    (λ h. shift_says all (drop 3 all) (begins_split (codes "\\S\\") all h)) (λ _.
    by_test all (names_page all) (Some (page (slice_index all 2))) _ (λ h. page_says all h) (λ _.
    by_test all (begins_with (codes "\\X\\") all) (code_at (drop 3 all)) _
    (λ h. code_says all (drop 3 all) (begins_split (codes "\\X\\") all h)) (λ _.
    by_test all (begins_with (codes "\\X2\\") all) (groups_at 4 (drop 4 all)) _
    (λ h. groups_says all (drop 4 all) (codes "\\X2\\") 4 (begins_split (codes "\\X2\\") all h) refl
    (inl (refl, refl))) (λ _.
    by_test all (begins_with (codes "\\X4\\") all) (groups_at 8 (drop 4 all)) _
    (λ h. groups_says all (drop 4 all) (codes "\\X4\\") 8 (begins_split (codes "\\X4\\") all h) refl
    (inr (refl, refl))) (λ _.
    other_says b bs)))))))

found : (bs : List ℕ) (p : Piece) (o : Option Piece) → o ≡ Some p → Says bs o → BeginsPiece bs p
found bs p (Some q) e h = let same : q ≡ p = cc in subst (BeginsPiece bs) same h
found bs p None e h = absurd (cc)

missed : (bs : List ℕ) (o : Option Piece) → o ≡ None → Says bs o → BeginsDirective bs
missed bs (Some q) e h = absurd (cc)
missed bs None e h = h

-- the piece that is found stands at the front
pub piece_stands : (bs : List ℕ) (p : Piece) → piece_at bs ≡ Some p → BeginsPiece bs p
piece_stands [] p e = absurd (cc)
piece_stands (b ∷ bs) p e = found (b ∷ bs) p (piece_at (b ∷ bs)) e (piece_says b bs)

-- where none is found a directive is begun
pub directive_stands : (b : ℕ) (bs : List ℕ) → piece_at (b ∷ bs) ≡ None → BeginsDirective (b ∷ bs)
directive_stands b bs e = missed (b ∷ bs) (piece_at (b ∷ bs)) e (piece_says b bs)
