-- Reading a string from the left, and where that stops.
use Rattle.std.proofs.Common.{◌≡◌, ℕ, zero, suc, ◌+◌, ◌-◌, ◌≤◌, ◌<◌, Bool, true, false, not, cond, List, [], ◌∷◌, ◌++◌, length, get_or, take, drop, refl, sym, ap, ◌∙◌, arith, nat_le, nat_lt, Some, None, Option, MatchOption, codes, append_assoc, append-nil, length-append, length-drop, take-append-drop, drop-drop}
use Rattle.std.proofs.Math.Seq.{drop-cons}
use Rattle.std.specs.Prelude.{◌%◌, ◌==◌, ◌&&◌, ◌||◌, slice_index}
use Rattle.std.proofs.lemmas.Option.{MatchOption-at_some}
use Rattle.std.specs.List.{prefix_len}
use Rattle.std.proofs.lemmas.Bool.Decides.{nat_tests}
use Rattle.std.proofs.lemmas.Bool.{false≢true}
use Rattle.std.proofs.lemmas.List.Elements.{filter-append}
use Rattle.std.proofs.lemmas.List.{get_or-drop}
use Rattle.std.proofs.lemmas.List.Folds.{length-prefix_len}
use Rattle.std.proofs.lemmas.List.Sums.{prefix_len-le-length}
use Rattle.step_literals.specs.Bytes.{Each, Stops, is_hex}
use Rattle.step_literals.specs.Strings.{Piece, apostrophe, backslash, shift, page, code, groups, run, byte, clean, is_high, begins_with, shift_at, code_at, groups_at, names_page, piece_at, piece_len, AreRead, IsReadable, IsBrokenAt}
use Rattle.step_literals.specs.steps.Directives.{Completes}
use Rattle.step_literals.proofs.Runs.{front_back}
use Rattle.step_literals.proofs.CleanLemmas.{begins_split}
use Rattle.step_literals.proofs.Found.{Found, is_not, before_found, drop_found}

-- pieces, and then further pieces
pub read_on : (ps qs : List Piece) (bs mid left : List ℕ) → AreRead bs ps mid → AreRead mid qs left
    → AreRead bs (ps ++ qs) left
read_on [] qs bs mid left h g = rw (sym h) at g
read_on (p ∷ ps) qs bs mid left h g = (h.0, read_on ps qs (drop (piece_len p) bs) mid left h.1 g)

stuck_here : (bs left : List ℕ) (p : Piece) → bs ≡ left → piece_at left ≡ None → piece_at bs ≡ Some p → ⊥
stuck_here bs left p e none some = let h = ap piece_at e in cc

-- reading stops at one place
pub one_end : (ps qs : List Piece) (bs l m : List ℕ) → AreRead bs ps l → AreRead bs qs m → piece_at l ≡ None
    → piece_at m ≡ None → l ≡ m
one_end [] [] bs l m h g hl hm = sym h ∙ g
one_end [] (q ∷ qs) bs l m h g hl hm = absurd (stuck_here bs l q h hl g.0)
one_end (p ∷ ps) [] bs l m h g hl hm = absurd (stuck_here bs m p g hm h.0)
one_end (p ∷ ps) (q ∷ qs) bs l m h g hl hm =
    let same : p ≡ q = let s = h.0 in let t = g.0 in cc in
    let rest : AreRead (drop (piece_len p) bs) qs m = rw (sym same) at g.1 in
    one_end ps qs (drop (piece_len p) bs) l m h.1 rest hl hm

-- bytes that begin no directive, and what follows them

each_drop : (p : ℕ → Bool) (k : ℕ) (xs : List ℕ) → Each p xs → Each p (drop k xs)
each_drop p zero xs h = h
each_drop p (suc k) [] h = tt
each_drop p (suc k) (x ∷ xs) h = each_drop p k xs h.1

abbrev pub no_slash : ℕ → Bool
no_slash b = is_not 92 b

-- what stands at a byte that isn't a backslash
pub plain_row : (x : ℕ) (zs : List ℕ) (t u : Bool) → no_slash x ≡ true → begins_with (codes "''") (x ∷ zs) ≡ t
    → is_high x ≡ u
    → piece_at (x ∷ zs) ≡ cond t (Some apostrophe) (cond u (Some (run (take (prefix_len is_high (x ∷ zs)) (x ∷ zs))))
    (Some (byte x)))
plain_row x zs t u h g k = let q : (92 == x) ≡ false = grind (arith, nat_tests) in rw (q, g, k) refl

low_slash : (b : ℕ) → no_slash b ≡ false → is_high b ≡ false
low_slash b h = grind (arith, nat_tests)

high_stops : (ys : List ℕ) → Stops no_slash ys → Stops is_high ys
high_stops [] h = tt
high_stops (y ∷ ys) h = low_slash y h

prefix_step : (p : ℕ → Bool) (m n : ℕ) (t : Bool) → m ≡ n → cond t (1 + m) 0 ≡ cond t (1 + n) 0
prefix_step p m n t e = ap (λ k. cond t (1 + k) 0) e

pub prefix_none : (p : ℕ → Bool) (ys : List ℕ) → Stops p ys → prefix_len p ys ≡ 0
prefix_none p [] h = refl
prefix_none p (y ∷ ys) h = rw h refl

prefix_stops : (p : ℕ → Bool) (xs ys : List ℕ) → Stops p ys → prefix_len p (xs ++ ys) ≡ prefix_len p xs
prefix_stops p [] ys h = prefix_none p ys h
prefix_stops p (x ∷ xs) ys h = prefix_step p (prefix_len p (xs ++ ys)) (prefix_len p xs) (p x) (prefix_stops p xs ys h)

prefix_le : (p : ℕ → Bool) (xs : List ℕ) → prefix_len p xs ≤ length xs
prefix_le p xs = prefix_len-le-length p xs

drop_in : (k : ℕ) (xs ys : List ℕ) → k ≤ length xs → drop k (xs ++ ys) ≡ drop k xs ++ ys
drop_in zero xs ys h = refl
drop_in (suc k) [] ys h = absurd (omega arith)
drop_in (suc k) (x ∷ xs) ys h = drop_in k xs ys (omega arith)

-- some pieces are read before what follows
abbrev Reads : List ℕ → List ℕ → Type 0
Reads bs left = (ps : List Piece) × AreRead bs ps left

no_quote_after : (x : ℕ) (ys : List ℕ) → begins_with (codes "''") (x ∷ ys) ≡ true → Stops no_slash ys → ⊥
no_quote_after x [] h stop = let e = begins_split (codes "''") (x ∷ []) h in cc
no_quote_after x (y ∷ ys) h stop =
    let e = begins_split (codes "''") (x ∷ y ∷ ys) h in
    let q : y ≡ 39 = cc in false≢true (sym stop ∙ ap no_slash q)

read_quotes : (n x : ℕ) (xs ys : List ℕ) → length (x ∷ xs) ≤ suc n → Each no_slash (x ∷ xs) → Stops no_slash ys
    → ((zs : List ℕ) → length zs ≤ n → Each no_slash zs → Reads (zs ++ ys) ys) → begins_with (codes "''")
    (x ∷ (xs ++ ys)) ≡ true → Reads (x ∷ (xs ++ ys)) ys
read_quotes n x [] ys le h stop ih t = absurd (no_quote_after x ys t stop)
read_quotes n x (z ∷ zs) ys le h stop ih t =
    let further = ih zs (omega (arith, le)) h.1.1 in
    (apostrophe ∷ further.0, (plain_row x (z ∷ (zs ++ ys)) true (is_high x) h.0 t refl, further.1))

read_run : (n x : ℕ) (xs ys : List ℕ) → length (x ∷ xs) ≤ suc n → Each no_slash (x ∷ xs) → Stops no_slash ys
    → ((zs : List ℕ) → length zs ≤ n → Each no_slash zs → Reads (zs ++ ys) ys) → begins_with (codes "''")
    (x ∷ (xs ++ ys)) ≡ false → is_high x ≡ true → Reads (x ∷ (xs ++ ys)) ys
read_run n x xs ys le h stop ih t u =
    let k = prefix_len is_high xs in
    let whole : prefix_len is_high (x ∷ (xs ++ ys)) ≡ suc k =
    rw u (omega (arith, prefix_stops is_high xs ys (high_stops ys stop))) in
    let further = ih (drop k xs) (omega (arith, length-drop k xs, le)) (each_drop no_slash k xs h.1) in
    let len : length (take (prefix_len is_high (x ∷ (xs ++ ys))) (x ∷ (xs ++ ys))) ≡ suc k = length-prefix_len is_high
    (x ∷ (xs ++ ys)) ∙ whole in
    let left : drop (length (take (prefix_len is_high (x ∷ (xs ++ ys))) (x ∷ (xs ++ ys)))) (x ∷ (xs ++ ys)) ≡ drop k xs
    ++ ys = ap (λ m. drop m (x ∷ (xs ++ ys))) len ∙ drop_in k xs ys (prefix_le is_high xs) in (
      run (take (prefix_len is_high (x ∷ (xs ++ ys))) (x ∷ (xs ++ ys))) ∷ further.0,
      (plain_row x (xs ++ ys) false true h.0 t u, rw left further.1),
    )

read_next : (n x : ℕ) (xs ys : List ℕ) → length (x ∷ xs) ≤ suc n → Each no_slash (x ∷ xs) → Stops no_slash ys
    → ((zs : List ℕ) → length zs ≤ n → Each no_slash zs → Reads (zs ++ ys) ys) → (t u : Bool) → begins_with (codes "''")
    (x ∷ (xs ++ ys)) ≡ t → is_high x ≡ u → Reads (x ∷ (xs ++ ys)) ys
read_next n x xs ys le h stop ih true u ht hu = read_quotes n x xs ys le h stop ih ht
read_next n x xs ys le h stop ih false true ht hu = read_run n x xs ys le h stop ih ht hu
read_next n x xs ys le h stop ih false false ht hu =
    let further = ih xs (omega (arith, le)) h.1 in
    (byte x ∷ further.0, (plain_row x (xs ++ ys) false false h.0 ht hu, further.1))

read_up_to : (n : ℕ) (xs ys : List ℕ) → length xs ≤ n → Each no_slash xs → Stops no_slash ys → Reads (xs ++ ys) ys
read_up_to n [] ys le h stop = ([], refl)
read_up_to zero (x ∷ xs) ys le h stop = absurd (omega (arith, le))
read_up_to (suc n) (x ∷ xs) ys le h stop =
    read_next n x xs ys le h stop (λ zs less each. read_up_to n zs ys less each stop)
    (begins_with (codes "''") (x ∷ (xs ++ ys))) (is_high x) refl refl

-- bytes with no backslash are read whole before a backslash, and at the end
pub read_plain : (xs ys : List ℕ) → Each no_slash xs → Stops no_slash ys → Reads (xs ++ ys) ys
read_plain xs ys h stop = read_up_to (length xs) xs ys (omega arith) h stop

each_kept : (b : ℕ) (bs : List ℕ) (t : Bool) → nat_le 32 b ≡ t → no_slash b ≡ true → Each no_slash bs
    → Each no_slash (cond t (b ∷ bs) bs)
each_kept b bs true e h g = (h, g)
each_kept b bs false e h g = g

each_clean : (bs : List ℕ) → Each no_slash bs → Each no_slash (clean bs)
each_clean [] h = tt
each_clean (b ∷ bs) h = each_kept b (clean bs) (nat_le 32 b) refl h.0 (each_clean bs h.1)

-- a content is read up to what is left of it
pub record IsReadUpTo (content left : List ℕ) : Type 0 where
  pub passed : List ℕ
  pub split : content ≡ passed ++ left
  pub pieces : List Piece
  pub read : AreRead (clean content) pieces (clean left)

clean_parts : (xs ys : List ℕ) → clean (xs ++ ys) ≡ clean xs ++ clean ys
clean_parts xs ys = filter-append (λ b. nat_le 32 b) xs ys

-- up to the backslash that is found
pub read_found : (content rest directive : List ℕ) (at : ℕ) → directive ≡ drop at rest → IsReadUpTo content rest
    → Found 92 rest at → IsReadUpTo content directive
read_found content rest directive at e h found =
    let cut : clean rest ≡ clean (take at rest) ++ clean (drop at rest) = ap clean (sym (take-append-drop at rest))
    ∙ clean_parts (take at rest) (drop at rest) in
    let head : clean (drop at rest) ≡ 92 ∷ clean (drop (at + 1) rest) = ap clean (drop_found 92 rest at found) in
    let stop : Stops no_slash (clean (drop at rest)) = rw head refl in
    let plain = read_plain (clean (take at rest)) (clean (drop at rest))
    (each_clean (take at rest) (before_found 92 rest at found)) stop in
    let more : AreRead (clean rest) plain.0 (clean (drop at rest)) = rw cut plain.1 in
    let all : IsReadUpTo content (drop at rest) = record {
      passed = h.passed ++ take at rest;
      split = h.split ∙ ap (λ l. h.passed ++ l) (sym (take-append-drop at rest))
          ∙ sym (append_assoc h.passed (take at rest) (drop at rest));
      pieces = h.pieces ++ plain.0;
      read = read_on h.pieces plain.0 (clean content) (clean rest) (clean (drop at rest)) h.read more;
    } in
    rw e all

-- over the piece at the backslash
pub read_piece : (content directive after : List ℕ) → IsReadUpTo content directive
    → Completes (piece_at (clean directive)) 0 directive after → IsReadUpTo content after
read_piece content directive after h g =
    let left : clean after ≡ drop (piece_len g.piece) (clean directive) = g.skips.left
    ∙ ap (λ n. drop n (clean directive)) (omega (arith, g.len)) in
    record {
      passed = h.passed ++ g.skips.passed;
      split = h.split ∙ ap (λ l. h.passed ++ l) g.skips.split ∙ sym (append_assoc h.passed g.skips.passed after);
      pieces = h.pieces ++ g.piece ∷ [];
      read = read_on h.pieces (g.piece ∷ []) (clean content) (clean directive) (clean after) h.read
          (g.stands, sym left);
    }

pub read_end : (content rest : List ℕ) → IsReadUpTo content rest → Each no_slash rest → IsReadable content
read_end content rest h plain =
    let more = read_plain (clean rest) [] (each_clean rest plain) tt in
    let last : AreRead (clean rest) more.0 [] = rw append-nil at more.1 in
    (h.pieces ++ more.0, read_on h.pieces more.0 (clean content) (clean rest) [] h.read last)

-- the directive that is not completed
pub broken_here : (content directive : List ℕ) (index : ℕ) → IsReadUpTo content directive → take 1 directive ≡ 92 ∷ []
    → piece_at (clean directive) ≡ None → index ≡ length content - length directive → IsBrokenAt content index
broken_here content directive index h head none count =
    let whole : directive ≡ 92 ∷ drop 1 directive = sym (take-append-drop 1 directive) ∙ ap (λ l. l ++ drop 1 directive)
    head in
    let cut = front_back content h.passed directive index h.split
    (omega (arith, ap length h.split, length-append h.passed directive, count)) in
    record {
      within = omega (arith, ap length whole, ap length h.split, length-append h.passed directive, count);
      backslash_there = ap (λ k. get_or content k 0) {x = index} {y = index + 0} (omega arith)
          ∙ sym (get_or-drop index content 0 0) ∙ ap (λ l. get_or l 0 0) (cut.2 ∙ whole);
      pieces = h.pieces;
      read = rw cut.2 h.read;
      broken = rw cut.2 none;
    }

-- a piece isn't empty

abbrev Fine : Option Piece → Type 0
Fine o = MatchOption o (Unit {0}) (λ p. 0 < piece_len p)

fine_cond : (t : Bool) (o r : Option Piece) → Fine o → Fine r → Fine (cond t o r)
fine_cond true o r h g = h
fine_cond false o r h g = g

shift_pos : (t : Bool) → 0 < cond t 5 4
shift_pos true = omega arith
shift_pos false = omega arith

fine_shift : (bs : List ℕ) → Fine (shift_at bs)
fine_shift [] = tt
fine_shift (c ∷ bs) = fine_cond (nat_lt c 32 || nat_lt 126 c) None _ tt
    (fine_cond (c == 39 && not (begins_with (39 ∷ []) bs)) None (Some (shift c)) tt (shift_pos (c == 39)))

fine_code : (bs : List ℕ) → Fine (code_at bs)
fine_code bs = fine_cond (nat_le 2 (prefix_len is_hex bs)) (Some (code (take 2 bs))) None (omega arith) tt

fine_groups : (w : ℕ) (bs : List ℕ) → Fine (groups_at w bs)
fine_groups w bs =
    let n = prefix_len is_hex bs in
    fine_cond ((n % w == 0) && begins_with (codes "\\X0\\") (drop n bs)) (Some (groups w (take n bs))) None
    (omega arith) tt

fine_run : (b : ℕ) (bs : List ℕ) (t : Bool) → is_high b ≡ t
    → Fine (cond t (Some (run (take (prefix_len is_high (b ∷ bs)) (b ∷ bs)))) (Some (byte b)))
fine_run b bs true h = let e : prefix_len is_high (b ∷ bs) ≡ suc (prefix_len is_high bs) = rw h (omega arith) in
    omega (arith, e, length-prefix_len is_high (b ∷ bs))
fine_run b bs false h = omega arith

fine_piece : (bs : List ℕ) → Fine (piece_at bs)
fine_piece [] = tt
fine_piece (b ∷ bs) =
    let all = b ∷ bs in
    fine_cond (begins_with (codes "''") all) (Some apostrophe) _ (omega arith)
    (fine_cond (begins_with (codes "\\\\") all) (Some backslash) _ (omega arith)
    (fine_cond (begins_with (codes "\\S\\") all) (shift_at (drop 3 all)) _ (fine_shift (drop 3 all))
    (fine_cond (names_page all) (Some (page (slice_index all 2))) _ (omega arith)
    (fine_cond (begins_with (codes "\\X\\") all) (code_at (drop 3 all)) _ (fine_code (drop 3 all))
    (fine_cond (begins_with (codes "\\X2\\") all) (groups_at 4 (drop 4 all)) _ (fine_groups 4 (drop 4 all))
    (fine_cond (begins_with (codes "\\X4\\") all) (groups_at 8 (drop 4 all)) _ (fine_groups 8 (drop 4 all))
    (fine_run b bs (is_high b) refl)))))))

pub piece_pos : (bs : List ℕ) (p : Piece) → piece_at bs ≡ Some p → 0 < piece_len p
piece_pos bs p e = MatchOption-at_some (Unit {0}) (λ q. 0 < piece_len q) p e (fine_piece bs)

-- less is left behind a piece
pub shorter : (rest directive after : List ℕ) (at : ℕ) → directive ≡ drop at rest → Found 92 rest at
    → Completes (piece_at (clean directive)) 0 directive after → length (clean after) < length (clean rest)
shorter rest directive after at e found h =
    let head : clean directive ≡ 92 ∷ clean (drop (at + 1) rest) = ap clean (e ∙ drop_found 92 rest at found) in
    let some : 0 < piece_len h.piece = piece_pos (clean directive) h.piece h.stands in
    let whole : length (clean rest) ≡ length (clean (take at rest)) + length (clean (drop at rest)) =
    ap (λ l. length (clean l)) (sym (take-append-drop at rest))
    ∙ ap length (clean_parts (take at rest) (drop at rest)) ∙ length-append (clean (take at rest))
    (clean (drop at rest)) in
    omega (
      arith,
      ap length h.skips.left,
      length-drop h.more (clean directive),
      h.len,
      some,
      whole,
      ap (λ l. length (clean l)) e,
      ap length head,
    )

-- the answer is determined

broken_head : {content : List ℕ} {index : ℕ} → IsBrokenAt content index → clean (drop index content) ≡ 92
    ∷ clean (drop (suc index) content)
broken_head {content} {index} h = ap clean (drop-cons content index 0 h.within ∙ ap (λ b. b ∷ drop (suc index) content)
    h.backslash_there)

clean_shorter : (n : ℕ) (bs : List ℕ) → length (clean (drop n bs)) ≤ length (clean bs)
clean_shorter n bs = omega (
  arith,
  ap (λ l. length (clean l)) (sym (take-append-drop n bs)),
  ap length (clean_parts (take n bs) (drop n bs)),
  length-append (clean (take n bs)) (clean (drop n bs)),
)

not_before : (content : List ℕ) (i j : ℕ) → IsBrokenAt content i → clean (drop i content) ≡ clean (drop j content)
    → i < j → ⊥
not_before content i j h e less =
    let later : drop (j - suc i) (drop (suc i) content) ≡ drop j content = drop-drop (j - suc i) (suc i) content
    ∙ ap (λ n. drop n content) (omega (arith, less)) in
    omega (
      arith,
      ap length (sym (broken_head h) ∙ e),
      ap (λ l. length (clean l)) later,
      clean_shorter (j - suc i)
          (drop (suc i) content),
    )

-- at most one directive is the first that is begun and not completed
pub broken_once : (content : List ℕ) (i j : ℕ) → IsBrokenAt content i → IsBrokenAt content j → i ≡ j
broken_once content i j h g =
    let e = one_end h.pieces g.pieces (clean content) (clean (drop i content)) (clean (drop j content)) h.read g.read
    h.broken g.broken in
    omega (arith, not_before content i j h e, not_before content j i g (sym e))

-- and none where the content is read to its end
pub readable_not_broken : (content : List ℕ) (i : ℕ) → IsReadable content → IsBrokenAt content i → ⊥
readable_not_broken content i h g =
    let e = one_end h.0 g.pieces (clean content) [] (clean (drop i content)) h.1 g.read refl g.broken ∙ broken_head g in
    cc
