-- What pieces say, a step at a time.
use Rattle.std.proofs.Common.{◌≡◌, ℕ, zero, suc, ◌+◌, ◌≤◌, ◌<◌, Bool, true, false, cond, List, [], ◌∷◌, ◌++◌, length, map, take, drop, refl, sym, ap, ◌∙◌, arith, Some, None, Option, nat_le, length-drop, length-take, drop-drop, codes}
use Rattle.std.proofs.lemmas.List.{drop-take}
use Rattle.std.specs.List.{prefix_len}
use Rattle.std.specs.Str.Parse.{digits_value}
use Rattle.step_literals.specs.Bytes.{Stops, is_hex}
use Rattle.step_literals.specs.Strings.{Piece, apostrophe, code, run, code_at, clean, begins_with, is_high, piece_at, piece_len, AreRead}
use Rattle.step_literals.specs.steps.Directives.{Completes}
use Rattle.step_literals.specs.steps.Characters.{hex_run, high_run, BeginsHigh, BeginsNoHigh}
use Rattle.step_literals.specs.Items.{items_of, pieces_within, pieces_of, group_items, group_items_within, run_items}
use Rattle.step_literals.specs.steps.Rests.{clean_items, rest_items, left_items, behind, IsOver, GoesOn, shown, Goes, Steps, Shows, RowSteps}
use Rattle.step_literals.specs.declared.literal.rest.Rest.{Rest}
use Rattle.step_literals.proofs.PieceLemmas.{option_weaker}
use Rattle.step_literals.proofs.CharacterLemmas.{digits_full, run_first, high_run_behind, behind_high_run, shorter_behind, utf8_behind, utf8_refused}
use Rattle.step_literals.specs.declared.literal.rest.Inside.{Inside}
use Rattle.step_literals.specs.declared.literal.rest.Inside.TheVariants.{Nothing, Groups, Characters, Bytes}
use Rattle.step_literals.specs.steps.Inside.{is_sound, run_inside}
use Rattle.std.proofs.lemmas.Bool.{false≢true}
use Rattle.std.proofs.lemmas.List.Folds.{length-prefix_len}
use Rattle.std.proofs.lemmas.List.Sums.{prefix_len-le-length}
use Rattle.std.proofs.lemmas.Str.{chars_past_char, chars-nil, IsUtf8-from_is_utf8}
use Rattle.std.specs.Str.{is_utf8, chars}
use Rattle.std.proofs.lemmas.Bool.Decides.{nat_tests}
use Rattle.step_literals.specs.declared.literal.items.Item.{Item}
use Rattle.step_literals.specs.declared.literal.items.Item.TheVariants.{Code, Raw}
use Rattle.step_literals.proofs.DirectiveLemmas.{piece_pos, plain_row, no_slash, prefix_none}
use Rattle.std.specs.Prelude.{◌==◌}

-- pieces one after another

none_within : (n : ℕ) (bs : List ℕ) → piece_at bs ≡ None → pieces_within n bs ≡ []
none_within zero bs e = refl
none_within (suc n) bs e = rw e refl

some_within : (n : ℕ) (bs : List ℕ) (p : Piece) → piece_at bs ≡ Some p → pieces_within (suc n) bs ≡ p
    ∷ pieces_within n (drop (piece_len p) bs)
some_within n bs p e = rw e refl

enough_at : (n m : ℕ) (bs : List ℕ) (o : Option Piece) → piece_at bs ≡ o → length bs ≤ suc n → length bs ≤ suc m
    → ((l : List ℕ) → length l ≤ n → length l ≤ m → pieces_within n l ≡ pieces_within m l)
    → pieces_within (suc n) bs ≡ pieces_within (suc m) bs
enough_at n m bs None e hn hm ih = none_within (suc n) bs e ∙ sym (none_within (suc m) bs e)
enough_at n m bs (Some p) e hn hm ih =
    let k = piece_len p in
    let less = length-drop k bs in
    let pos = piece_pos bs p e in
    some_within n bs p e ∙ ap (λ l. p ∷ l) (ih (drop k bs) (omega (arith, less, pos, hn))
    (omega (arith, less, pos, hm))) ∙ sym (some_within m bs p e)

-- a greater limit changes nothing
enough : (n m : ℕ) (bs : List ℕ) → length bs ≤ n → length bs ≤ m → pieces_within n bs ≡ pieces_within m bs
enough n m [] hn hm = none_within n [] refl ∙ sym (none_within m [] refl)
enough zero m (b ∷ bs) hn hm = absurd (omega (arith, hn))
enough (suc n) zero (b ∷ bs) hn hm = absurd (omega (arith, hm))
enough (suc n) (suc m) (b ∷ bs) hn hm = enough_at n m (b ∷ bs) (piece_at (b ∷ bs)) refl hn hm
    (λ l h g. enough n m l h g)

pub pieces_none : (bs : List ℕ) → piece_at bs ≡ None → pieces_of bs ≡ []
pieces_none bs e = none_within (length bs) bs e

-- the first piece, and those of what follows it
pub pieces_step : (bs : List ℕ) (p : Piece) → piece_at bs ≡ Some p → pieces_of bs ≡ p
    ∷ pieces_of (drop (piece_len p) bs)
pieces_step [] p e = absurd (cc)
pieces_step (b ∷ bs) p e =
    let left = drop (piece_len p) (b ∷ bs) in
    let less : length left ≤ length bs = omega (arith, length-drop (piece_len p) (b ∷ bs), piece_pos (b ∷ bs) p e) in
    some_within (length bs) (b ∷ bs) p e ∙ ap (λ l. p ∷ l) (enough (length bs) (length left) left less (omega arith))

-- what is read to its end is read as these pieces alone
pub pieces_read : (ps : List Piece) (bs : List ℕ) → AreRead bs ps [] → pieces_of bs ≡ ps
pieces_read [] bs h = ap pieces_of h
pieces_read (p ∷ ps) bs h = pieces_step bs p h.0 ∙ ap (λ l. p ∷ l) (pieces_read ps (drop (piece_len p) bs) h.1)

-- steps

-- over one piece
pub goes_piece : (bs after : List ℕ) (p : Piece) (old new : ℕ) {item : Option Item} {rest : Rest} → piece_at bs ≡ Some p
    → rest.bytes.now ≡ after → clean after ≡ drop (piece_len p) bs → rest_items rest ≡ clean_items new (clean after)
    → ((ps : List Piece) → items_of old (p ∷ ps) ≡ shown item ++ items_of new ps) → Goes (clean_items old bs) bs item
    rest
goes_piece bs after p old new {item} {rest} e bytes left same says = record {
  same = ap (items_of old) (pieces_step bs p e) ∙ says (pieces_of (drop (piece_len p) bs)) ∙ ap (λ l. shown item ++ l)
      (sym (same ∙ ap (clean_items new) left));
  shorter = omega (
    arith,
    ap (λ l. length (clean l)) bytes,
    ap length left,
    length-drop (piece_len p) bs,
    piece_pos bs p e,
    some_left bs p e,
  );
}
  where
    some_left : (bs : List ℕ) (p : Piece) → piece_at bs ≡ Some p → 0 < length bs
    some_left [] p e = absurd (cc)
    some_left (b ∷ bs) p e = omega arith

-- over a row of the table that another function reads on
pub row_steps : (row : List ℕ → Option Piece) (begun page : ℕ) (bs mid : List ℕ) (o : Option (Option Item × Rest))
    → piece_at bs ≡ row (drop begun bs) → mid ≡ drop begun bs → 0 < begun → 0 < length bs
    → RowSteps (row mid) begun page mid o → Steps (clean_items page bs) bs o
row_steps row begun page bs mid o e left pos some m =
    let same : piece_at bs ≡ row mid = e ∙ ap row (sym left) in
    option_weaker o m (λ none. ap (items_of page) (pieces_none bs (same ∙ none))) (λ step h. goes_row h)
  where
    goes_row : {item : Option Item} {rest : Rest} → Shows (row mid) begun page mid item rest
        → Goes (clean_items page bs) bs item rest
    goes_row {item} {rest} h =
        let behind : drop (piece_len h.piece) bs ≡ drop h.more mid = ap (λ n. drop n bs) {x = piece_len h.piece}
        {y = begun + h.more} (omega (arith, h.len)) ∙ sym (drop-drop h.more begun bs) ∙ ap (λ l. drop h.more l)
        (sym left) in
        record {
          same = ap (items_of page) (pieces_step bs h.piece (e ∙ ap row (sym left) ∙ h.stands)
              ∙ ap (λ l. h.piece ∷ pieces_of l) behind) ∙ h.same;
          shorter = omega (arith, h.shorter, ap length left, length-drop begun bs, pos, some);
        }

-- a row that one character stands for
pub shows_single : {row : Option Piece} {begun page : ℕ} {before after : List ℕ} {item : Option Item} {rest : Rest}
    (h : Completes row begun before after) → rest.bytes.now ≡ after → rest_items rest ≡ clean_items page (clean after)
    → ((ps : List Piece) → items_of page (h.piece ∷ ps) ≡ shown item ++ items_of page ps)
    → Shows row begun page (clean before) item rest
shows_single {row} {begun} {page} {before} {after} {item} {rest} h bytes same says = record {
  piece = h.piece;
  stands = h.stands;
  more = h.more;
  len = h.len;
  same = says (pieces_of (drop h.more (clean before))) ∙ ap (λ l. shown item ++ l)
      (sym (same ∙ ap (clean_items page) h.skips.left));
  shorter = omega (arith, ap (λ l. length (clean l)) bytes, ap length h.skips.left, length-drop h.more (clean before));
}

code_tests : (bs : List ℕ) (p : Piece) (t : Bool) → nat_le 2 (prefix_len is_hex bs) ≡ t
    → cond t (Some (code (take 2 bs))) None ≡ Some p → (2 ≤ prefix_len is_hex bs) × (p ≡ code (take 2 bs))
code_tests bs p true h e = (grind (arith, nat_tests), cc)
code_tests bs p false h e = absurd (cc)

-- `\X\` and two digits
pub code_says : (bs : List ℕ) (p : Piece) (n page : ℕ) → code_at bs ≡ Some p → n ≡ digits_value 16 (take 2 (hex_run bs))
    → (ps : List Piece) → items_of page (p ∷ ps) ≡ Code n ∷ items_of page ps
code_says bs p n page e value ps =
    let found = code_tests bs p (nat_le 2 (prefix_len is_hex bs)) refl e in
    ap (λ q. items_of page (q ∷ ps)) found.1 ∙ ap (λ k. Code k ∷ items_of page ps)
    (sym (value ∙ ap (digits_value 16) (digits_full 2 bs found.0).0))

-- groups

group_enough : (n m w : ℕ) (ds : List ℕ) → 1 ≤ w → length ds ≤ n → length ds ≤ m
    → group_items_within n w ds ≡ group_items_within m w ds
group_enough n m w [] pos hn hm = none_left n ∙ sym (none_left m)
  where
    none_left : (k : ℕ) → group_items_within k w [] ≡ []
    none_left zero = refl
    none_left (suc k) = refl
group_enough zero m w (d ∷ ds) pos hn hm = absurd (omega (arith, hn))
group_enough (suc n) zero w (d ∷ ds) pos hn hm = absurd (omega (arith, hm))
group_enough (suc n) (suc m) w (d ∷ ds) pos hn hm =
    let less = length-drop w (d ∷ ds) in
    ap (λ l. Code (digits_value 16 (take w (d ∷ ds))) ∷ l) (group_enough n m w (drop w (d ∷ ds)) pos
    (omega (arith, less, pos, hn)) (omega (arith, less, pos, hm)))

pub group_step : (w : ℕ) (ds : List ℕ) → 1 ≤ w → 0 < length ds → group_items w ds ≡ Code (digits_value 16 (take w ds))
    ∷ group_items w (drop w ds)
group_step w [] pos some = absurd (omega (arith, some))
group_step w (d ∷ ds) pos some =
    let left = drop w (d ∷ ds) in
    ap (λ l. Code (digits_value 16 (take w (d ∷ ds))) ∷ l) (group_enough (length ds) (length left) w left pos
    (omega (arith, length-drop w (d ∷ ds), pos)) (omega arith))

-- inside of a piece

in_order : (t : Bool) (j n k : ℕ) → suc j ≤ cond t (1 + n) 0 → (j ≤ n → k + j ≡ n) → k + suc j ≡ cond t (1 + n) 0
in_order true j n k le f = omega (arith, le, f)
in_order false j n k le f = absurd (omega (arith, le))

-- a run behind some of it
prefix_behind : (p : ℕ → Bool) (j : ℕ) (bs : List ℕ) → j ≤ prefix_len p bs → prefix_len p (drop j bs) + j ≡ prefix_len p
    bs
prefix_behind p zero bs h = omega arith
prefix_behind p (suc j) [] h = absurd (omega (arith, h))
prefix_behind p (suc j) (b ∷ bs) h = in_order (p b) j (prefix_len p bs) (prefix_len p (drop j bs)) h
    (λ le. prefix_behind p j bs le)

run_behind : (p : ℕ → Bool) (j : ℕ) (bs : List ℕ) → j ≤ prefix_len p bs → take (prefix_len p (drop j bs))
    (drop j bs) ≡ drop j (take (prefix_len p bs) bs)
run_behind p j bs h = sym (drop-take j (prefix_len p (drop j bs)) bs) ∙ ap (λ n. drop j (take n bs))
    {x = j + prefix_len p (drop j bs)} {y = prefix_len p bs} (omega (arith, prefix_behind p j bs h))

drop_behind : (p : ℕ → Bool) (j k : ℕ) (bs : List ℕ) → j ≤ prefix_len p bs → drop (prefix_len p (drop j bs) + k)
    (drop j bs) ≡ drop (prefix_len p bs + k) bs
drop_behind p j k bs h = drop-drop (prefix_len p (drop j bs) + k) j bs
    ∙ ap (λ n. drop n bs) (omega (arith, prefix_behind p j bs h))

drop_taken : (w : ℕ) (ds : List ℕ) → drop (length (take w ds)) ds ≡ drop w ds
drop_taken zero ds = refl
drop_taken (suc w) [] = refl
drop_taken (suc w) (d ∷ ds) = drop_taken w ds

some_width : (w : ℕ) (bs : List ℕ) → is_sound (Groups w) bs ≡ true → 1 ≤ w
some_width w bs h = grind (arith, nat_tests)

pub group_goes : (w page n : ℕ) (bs after : List ℕ) → 0 < prefix_len is_hex bs
    → n ≡ digits_value 16 (take w (hex_run bs)) → after ≡ drop (length (take w (hex_run bs))) bs
    → is_sound (Groups w) bs ≡ true → GoesOn (Groups w) page bs (Code n) after
group_goes w page n bs after some value left sound =
    let pos = some_width w bs sound in
    let ds = hex_run bs in
    let j = length (take w ds) in
    let len : length ds ≡ prefix_len is_hex bs = length-prefix_len is_hex bs in
    let fits : j ≤ prefix_len is_hex bs = omega (arith, length-take w ds, len) in
    let run : hex_run after ≡ drop w ds = ap hex_run left ∙ run_behind is_hex j bs fits ∙ drop_taken w ds in
    let back : behind (Groups w) after ≡ behind (Groups w) bs = ap (behind (Groups w)) left ∙ drop_behind is_hex j 4 bs
    fits in
    let first : group_items w ds ≡ Code n ∷ group_items w (hex_run after) =
    group_step w ds pos (omega (arith, len, some)) ∙ (λ i. Code (sym value i) ∷ group_items w (sym run i)) in
    record {
      same = λ i. first i ++ clean_items page (sym back i);
      shorter = omega (
        arith,
        ap length left,
        length-drop j bs,
        length-take w ds,
        len,
        some,
        pos,
        prefix_len-le-length
            is_hex bs,
      );
      sound = sound;
    }

pub character_goes : (page c : ℕ) (bs after : List ℕ) → is_utf8 (high_run bs) ≡ true → BeginsHigh bs c after
    → GoesOn Characters page bs (Code c) after
character_goes page c bs after sound h =
    let e = high_run_behind h in
    let first : chars (high_run bs) ≡ c ∷ chars (high_run after) = chars_past_char (high_run bs) (high_run after) c
    (IsUtf8-from_is_utf8 (high_run bs) sound) e in
    record {
      same = λ i. map (λ x. Code x) (first i) ++ clean_items page (behind_high_run h i);
      shorter = shorter_behind h.0;
      sound = sym (utf8_behind h) ∙ sound;
    }

pub byte_goes : (page b : ℕ) (bs after : List ℕ) → bs ≡ b ∷ after → 128 ≤ b → GoesOn Bytes page bs (Raw b) after
byte_goes page b bs after e large =
    let high : is_high b ≡ true = grind (arith, nat_tests) in
    let one : 1 ≤ prefix_len is_high (b ∷ after) = rw high (omega arith) in
    let run : high_run bs ≡ b ∷ high_run after = ap high_run e ∙ run_first b after high in
    let back : behind Bytes bs ≡ behind Bytes after = ap (behind Bytes) e ∙ ap (λ n. drop n (b ∷ after))
    {x = prefix_len is_high (b ∷ after)} {y = prefix_len is_high (b ∷ after) + 0} (omega arith)
    ∙ sym (drop_behind is_high 1 0 (b ∷ after) one) ∙ ap (λ n. drop n after) {x = prefix_len is_high after + 0}
    {y = prefix_len is_high after} (omega arith) in
    record {
      same = λ i. map (λ x. Raw x) (run i) ++ clean_items page (back i);
      shorter = omega (arith, ap length e);
      sound = refl;
    }

-- where a run that is UTF-8 shows no character it has ended
pub over_characters : (bs : List ℕ) → is_utf8 (high_run bs) ≡ true → BeginsNoHigh bs → Stops is_high bs
over_characters [] sound none = tt
over_characters (b ∷ bs) sound none = low (is_high b) refl
  where
    low : (t : Bool) → is_high b ≡ t → is_high b ≡ false
    low false h = h
    low true h = absurd (false≢true (sym (utf8_refused (b ∷ bs) bs b refl h none) ∙ sound))

pub over_group : (w page : ℕ) (bs : List ℕ) → Stops is_hex bs → left_items (Groups w) page bs ≡ clean_items page
    (drop 4 bs)
over_group w page bs h = let e = prefix_none is_hex bs h in (λ i. group_items w (take (e i) bs)
    ++ clean_items page (drop (e i + 4) bs))

pub over_other : (i : Inside) (page : ℕ) (bs : List ℕ) → IsOver i bs → ((w : ℕ) → i ≡ Groups w → ⊥)
    → left_items i page bs ≡ clean_items page bs
over_other Nothing page bs h other = refl
over_other (Groups w) page bs h other = absurd (other w refl)
over_other Characters page bs h other = let e = prefix_none is_high bs h in
    (λ i. map (λ c. Code c) (chars (take (e i) bs)) ++ clean_items page (drop (e i) bs))
    ∙ ap (λ l. map (λ c. Code c) l ++ clean_items page bs) chars-nil
over_other Bytes page bs h other = let e = prefix_none is_high bs h in (λ i. map (λ b. Raw b) (take (e i) bs)
    ++ clean_items page (drop (e i) bs))

high_other : (b : ℕ) (bs : List ℕ) → is_high b ≡ true → (no_slash b ≡ true)
    × (begins_with (codes "''") (b ∷ bs) ≡ false)
high_other b bs h = (grind (arith, nat_tests), (let q : (39 == b) ≡ false = grind (arith, nat_tests) in rw q refl))

run_row : (b : ℕ) (bs : List ℕ) → is_high b ≡ true → piece_at (b ∷ bs) ≡ Some (run (high_run (b ∷ bs)))
run_row b bs h = let other = high_other b bs h in plain_row b bs false true other.0 other.1 h

-- a run from its first byte
pub run_begins : (page : ℕ) (bs : List ℕ) → (Stops is_high bs → ⊥) → left_items (run_inside bs) page bs ≡ clean_items
    page bs
run_begins page [] begins = absurd (begins tt)
run_begins page (b ∷ bs) begins = here (is_high b) refl
  where
    both : (t : Bool) → is_utf8 (high_run (b ∷ bs)) ≡ t → left_items (cond t Characters Bytes) page (b ∷ bs) ≡ run_items
        (high_run (b ∷ bs)) ++ clean_items page (drop (prefix_len is_high (b ∷ bs)) (b ∷ bs))
    both true e = rw e refl
    both false e = rw e refl

    here : (t : Bool) → is_high b ≡ t → left_items (run_inside (b ∷ bs)) page (b ∷ bs) ≡ clean_items page (b ∷ bs)
    here false h = absurd (begins h)
    here true h =
        let n = length-prefix_len is_high (b ∷ bs) in
        both (is_utf8 (high_run (b ∷ bs))) refl ∙ ap (λ k. run_items (high_run (b ∷ bs))
        ++ clean_items page (drop k (b ∷ bs))) (sym n)
        ∙ sym (ap (items_of page) (pieces_step (b ∷ bs) (run (high_run (b ∷ bs))) (run_row b bs h)))

-- two apostrophes
pub two_apostrophes : {bs : List ℕ} {l : List ℕ} → bs ≡ 39 ∷ l → begins_with (39 ∷ []) l ≡ true
    → piece_at bs ≡ Some apostrophe
two_apostrophes e h = rw e (rw h refl)
