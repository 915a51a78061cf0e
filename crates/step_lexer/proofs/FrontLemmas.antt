-- Names, elements and marks.
use Rattle.std.proofs.Common.{◌≡◌, ℕ, ◌+◌, ◌-◌, ◌≤◌, ◌<◌, Bool, true, false, List, [], ◌∷◌, ◌++◌, length, get_or, take, drop, refl, sym, ap, ◌∙◌, subst, arith, append_assoc, length-append, take-append-drop, None, ◌||◌}
use Rattle.std.specs.Prelude.{◌==◌}
use Rattle.std.specs.List.{prefix_len}
use Rattle.std.proofs.lemmas.Bool.{false≢true}
use Rattle.std.proofs.lemmas.Bool.Decides.{nat_tests}
use Rattle.std.proofs.Math.ListN.{length-take}
use Rattle.std.proofs.lemmas.List.Sums.{prefix_len-le-length}
use Rattle.step_literals.specs.Bytes.{is_letter, is_digit, is_word_byte, Each, Stops}
use Rattle.step_literals.specs.Tokens.{TokenKind, name, element, string, mark, IsKeyword, IsDigits, is_mark, is_sign, Allows, IsNext, NoneAt, doubled, Spells}
use Rattle.step_literals.specs.Numbers.{StartsNumber}
use Rattle.step_lexer.specs.declared.token.Mark.{Mark}
use Rattle.step_lexer.specs.declared.token.Mark.TheVariants.{Open, Close, Comma, Semicolon, Equals, Dollar, Asterisk}
use Rattle.step_lexer.specs.declared.token.Sort.TheVariants as sorts
use Rattle.step_literals.specs.declared.fault.Flaw.TheVariants.{BadToken}
use Rattle.step_literals.specs.declared.literal.Text.{Text}
use Rattle.step_literals.specs.Strings.{content_of, IsReadable, IsBrokenAt}
use Rattle.step_literals.specs.Literals.{IsText}
use Rattle.step_lexer.specs.Front.{mark_byte, IsFront, IsFlawed, HasBadEscape}
use Rattle.step_literals.proofs.Runs.{begins_with, cut_unique, run_fits, run_at_prefix, front_back, stops_at}
use Rattle.step_literals.proofs.Longest.{hash, dot, marks, group, group_at, group_of, first_group, same_group}
use Rattle.step_literals.proofs.NumberLemmas.{dot_stops}
use Rattle.step_literals.proofs.NumberCuts.{digits_counted, digits_are, take_one}
use Rattle.step_literals.proofs.KeywordLemmas.{keyword_each, keyword_run}

longest_mark : (b : ℕ) (k : TokenKind) (other rest : List ℕ) → group k ≡ marks → Allows k other rest → length other ≤ 1
longest_mark b mark other rest g a = omega (arith, ap length a.2)
longest_mark b _ other rest g a = absurd (cc)

pub next_mark : (b : ℕ) (after : List ℕ) → is_mark b ≡ true → IsNext mark (b ∷ []) after
next_mark b after h =
    let own : Allows mark (b ∷ []) after = (b, h, refl) in
    record {
      allowed = own;
      longest = λ k other rest e a. longest_mark b k other rest
          (same_group mark k (b ∷ []) after other rest own a e) a;
    }

longest_name : (ds after : List ℕ) → Stops is_digit after → (k : TokenKind) (other rest : List ℕ) → group k ≡ hash
    → Allows k other rest → other ++ rest ≡ 35 ∷ (ds ++ after) → length other ≤ 1 + length ds
longest_name ds after stop name other rest g a e =
    let q : 35 ∷ (a.0 ++ rest) ≡ 35 ∷ (ds ++ after) = ap (λ l. l ++ rest) (sym a.2) ∙ e in
    let t : a.0 ++ rest ≡ ds ++ after = cc in
    omega (arith, ap length a.2, run_fits is_digit a.0 ds rest after a.1.1 stop t)
longest_name ds after stop _ other rest g a e = absurd (cc)

pub next_name : (ds after : List ℕ) → IsDigits ds → Stops is_digit after → IsNext name (35 ∷ ds) after
next_name ds after h stop =
    let own : Allows name (35 ∷ ds) after = (ds, h, refl) in
    record {
      allowed = own;
      longest = λ k other rest e a. omega (
        arith,
        longest_name ds after stop k other rest
            (same_group name k (35 ∷ ds) after other rest own a e) a e,
      );
    }

name_none_of : (l : List ℕ) → prefix_len is_digit l ≡ 0 → (k : TokenKind) (other rest : List ℕ) → group k ≡ hash
    → Allows k other rest → 35 ∷ l ≡ other ++ rest → ⊥
name_none_of l zero name other rest g a e =
    let q : 35 ∷ (a.0 ++ rest) ≡ 35 ∷ l = ap (λ x. x ++ rest) (sym a.2) ∙ sym e in
    let t : a.0 ++ rest ≡ l = cc in
    omega (arith, digits_counted a.0 rest a.1, ap (prefix_len is_digit) t, zero)
name_none_of l zero _ other rest g a e = cc

pub name_none : (l : List ℕ) → prefix_len is_digit l ≡ 0 → NoneAt (35 ∷ l)
name_none l zero k other rest e a =
    name_none_of l zero k other rest (let p = first_group k other rest (35 ∷ l) a (sym e) in cc) a e

longest_element : (w after : List ℕ) → IsKeyword w → (k : TokenKind) (other rest : List ℕ) → group k ≡ dot
    → Allows k other rest → other ++ rest ≡ (46 ∷ w ++ 46 ∷ []) ++ after → length other ≤ 2 + length w
longest_element w after h element other rest g a e =
    let q : 46 ∷ (a.0 ++ 46 ∷ rest) ≡ 46 ∷ (w ++ 46 ∷ after) = ap (λ l. 46 ∷ l) (sym (append_assoc a.0 (46 ∷ []) rest))
    ∙ ap (λ l. l ++ rest) (sym a.2) ∙ e ∙ ap (λ l. 46 ∷ l) (append_assoc w (46 ∷ []) after) in
    let t : a.0 ++ 46 ∷ rest ≡ w ++ 46 ∷ after = cc in
    let same = cut_unique is_word_byte a.0 w (46 ∷ rest) (46 ∷ after) (keyword_each a.0 a.1) (keyword_each w h) refl
    refl t in
    omega (arith, ap length a.2, ap length same.0, length-append a.0 (46 ∷ []))
longest_element w after h _ other rest g a e = absurd (cc)

pub next_element : (w after : List ℕ) → IsKeyword w → IsNext element (46 ∷ w ++ 46 ∷ []) after
next_element w after h =
    let t = 46 ∷ w ++ 46 ∷ [] in
    let own : Allows element t after = (w, h, refl) in
    record {
      allowed = own;
      longest = λ k other rest e a. omega (
        arith,
        longest_element w after h k other rest
            (same_group element k t after other rest own a e) a e,
        length-append w (46 ∷ []),
      );
    }

element_none_of : (l : List ℕ) → ((w rest : List ℕ) → IsKeyword w → w ++ 46 ∷ rest ≡ l → ⊥)
    → (k : TokenKind) (other rest : List ℕ) → group k ≡ dot → Allows k other rest → 46 ∷ l ≡ other ++ rest → ⊥
element_none_of l none element other rest g a e =
    let q : 46 ∷ (a.0 ++ 46 ∷ rest) ≡ 46 ∷ l = ap (λ x. 46 ∷ x) (sym (append_assoc a.0 (46 ∷ []) rest))
    ∙ ap (λ x. x ++ rest) (sym a.2) ∙ sym e in
    none a.0 rest a.1 (let t : a.0 ++ 46 ∷ rest ≡ l = cc in t)
element_none_of l none _ other rest g a e = cc

element_none : (l : List ℕ) → ((w rest : List ℕ) → IsKeyword w → w ++ 46 ∷ rest ≡ l → ⊥) → NoneAt (46 ∷ l)
element_none l none k other rest e a =
    element_none_of l none k other rest (let p = first_group k other rest (46 ∷ l) a (sym e) in cc) a e

no_letter : (l w rest : List ℕ) → (0 < length l → is_letter (get_or l 0 0) ≡ false) → IsKeyword w → w ++ 46 ∷ rest ≡ l
    → ⊥
no_letter l [] rest h k e = k
no_letter [] (x ∷ xs) rest h k e = cc
no_letter (y ∷ ys) (x ∷ xs) rest h k e = let q : x ≡ y = cc in false≢true (sym (h (omega arith)) ∙ ap is_letter (sym q)
    ∙ k.0)

pub element_no_letter : (l : List ℕ) → (0 < length l → is_letter (get_or l 0 0) ≡ false) → NoneAt (46 ∷ l)
element_no_letter l h = element_none l (λ w rest k e. no_letter l w rest h k e)

pub element_no_dot : (l after : List ℕ) → after ≡ drop (prefix_len is_word_byte l) l → Stops (λ b. b == 46) after
    → NoneAt (46 ∷ l)
element_no_dot l after ha stop =
    let run = run_at_prefix is_word_byte l in
    element_none l (λ w rest k e.
    let cut = cut_unique is_word_byte w (take (prefix_len is_word_byte l) l) (46 ∷ rest)
    (drop (prefix_len is_word_byte l) l) (keyword_each w k) run.passes refl run.stops
    (e ∙ sym (take-append-drop (prefix_len is_word_byte l) l)) in
    dot_stops after rest stop (cut.1 ∙ sym ha))

pub take_first : (b : ℕ) (l : List ℕ) → 0 < length l → get_or l 0 0 ≡ b → take 1 l ≡ b ∷ []
take_first b l some h = take_one l some ∙ ap (λ x. x ∷ []) h

pub starts_number : (l : List ℕ) → 0 < length l → (is_digit (get_or l 0 0) || is_sign (get_or l 0 0)) ≡ true
    → StartsNumber l
starts_number [] some h = absurd (omega (arith, some))
starts_number (b ∷ bs) some h = h

-- a byte that begins no token
none_group : (l : List ℕ) → group_at l ≡ None → NoneAt l
none_group l h k other rest e a = let p = first_group k other rest l a (sym e) in cc

no_group : (b : ℕ) → is_letter b ≡ false → (is_digit b || is_sign b) ≡ false → is_mark b ≡ false → (b ≡ 35 → ⊥)
    → (b ≡ 46 → ⊥) → (b ≡ 39 → ⊥) → (b ≡ 34 → ⊥) → (b ≡ 33 → ⊥) → (b ≡ 38 → ⊥) → group_of b ≡ None
no_group b h1 h2 h3 h4 h5 h6 h7 h8 h9 = rw (h1, h2, h3) (grind (arith, nat_tests))

pub no_token : (l : List ℕ) → 0 < length l → is_letter (get_or l 0 0) ≡ false
    → (is_digit (get_or l 0 0) || is_sign (get_or l 0 0)) ≡ false → is_mark (get_or l 0 0) ≡ false
    → (get_or l 0 0 ≡ 35 → ⊥) → (get_or l 0 0 ≡ 46 → ⊥) → (get_or l 0 0 ≡ 39 → ⊥) → (get_or l 0 0 ≡ 34 → ⊥)
    → (get_or l 0 0 ≡ 33 → ⊥) → (get_or l 0 0 ≡ 38 → ⊥) → IsFlawed l BadToken 0
no_token [] some h1 h2 h4 h5 h6 h7 h8 h9 h10 = absurd (omega (arith, some))
no_token (b ∷ bs) some h1 h2 h4 h5 h6 h7 h8 h9 h10 = (
  none_group (b ∷ bs) (no_group b h1 h2 h4 h5 h6 h7 h8 h9 h10),
  (λ e. h7 (cc)),
  refl,
)

mark_is : (m : Mark) → is_mark (mark_byte m) ≡ true
mark_is Open = refl
mark_is Close = refl
mark_is Comma = refl
mark_is Semicolon = refl
mark_is Equals = refl
mark_is Dollar = refl
mark_is Asterisk = refl

-- the mark that the code finds
pub mark_front : (l : List ℕ) (m : Mark) → 0 < length l → mark_byte m ≡ get_or l 0 0 → IsFront l (sorts.Mark m) 1
mark_front l m some e =
    let one : take 1 l ≡ mark_byte m ∷ [] = take_one l some ∙ ap (λ b. b ∷ []) (sym e) in
    record {
      within = omega (arith, some);
      next = rw one (next_mark (mark_byte m) (drop 1 l) (mark_is m));
      value = sym one;
    }

-- a byte is one
pub one_only : (a b : ℕ) (l : List ℕ) → take 1 l ≡ a ∷ [] → take 1 l ≡ b ∷ [] → a ≡ b
one_only a b l h g = let q : a ∷ [] ≡ b ∷ [] = sym h ∙ g in cc

dot_head : (l : List ℕ) → 0 < length l → get_or l 0 0 ≡ 46 → l ≡ 46 ∷ drop 1 l
dot_head [] h e = absurd (omega (arith, h))
dot_head (x ∷ xs) h e = ap (λ b. b ∷ xs) e

-- the element that the code finds
pub element_at : (l r w after : List ℕ) (n : ℕ) → take 1 l ≡ 46 ∷ [] → r ≡ drop 1 l → n ≡ prefix_len is_word_byte r
    → w ≡ take n r → after ≡ drop n r → is_letter (get_or r 0 0) ≡ true → 0 < length after → get_or after 0 0 ≡ 46
    → (length w + 2 ≤ length l) × IsNext element (take (length w + 2) l) (drop (length w + 2) l)
    × (46 ∷ w ++ 46 ∷ [] ≡ take (length w + 2) l)
element_at l r w after n h hr hn hw ha letter some dotted =
    let word : IsKeyword w = rw (hw, hn) (keyword_run r letter) in
    let tail : after ≡ 46 ∷ drop 1 after = dot_head after some dotted in
    let whole : l ≡ (46 ∷ w ++ 46 ∷ []) ++ drop 1 after = begins_with 46 l r h hr
    ∙ ap (λ x. 46 ∷ x) (sym (take-append-drop n r) ∙ (λ i. sym hw i ++ sym ha i) ∙ ap (λ x. w ++ x) tail
    ∙ sym (append_assoc w (46 ∷ []) (drop 1 after))) in
    let cut = front_back l (46 ∷ w ++ 46 ∷ []) (drop 1 after) (length w + 2) whole
    (omega (arith, length-append w (46 ∷ []))) in
    (cut.0, rw (cut.1, cut.2) (next_element w (drop 1 after) word), sym cut.1)

-- the name that the code finds
pub name_at : (l r : List ℕ) (n : ℕ) → take 1 l ≡ 35 ∷ [] → r ≡ drop 1 l → n ≡ prefix_len is_digit r → (n ≡ 0 → ⊥)
    → (1 + n ≤ length l) × IsNext name (take (1 + n) l) (drop (1 + n) l) × (drop 1 (take (1 + n) l) ≡ take n r)
name_at l r n h hr hn pos =
    let run = run_at_prefix is_digit r in
    let ds : IsDigits (take n r) = rw hn (digits_are r (omega (arith, hn, pos))) in
    let stop : Stops is_digit (drop n r) = rw hn run.stops in
    let whole : l ≡ (35 ∷ take n r) ++ drop n r = begins_with 35 l r h hr
    ∙ ap (λ x. 35 ∷ x) (sym (take-append-drop n r)) in
    let cut = front_back l (35 ∷ take n r) (drop n r) (1 + n) whole
    (omega (arith, length-take n r, prefix_len-le-length is_digit r, hn)) in
    (cut.0, rw (cut.1, cut.2) (next_name (take n r) (drop n r) ds stop), ap (drop 1) cut.1)

pub name_none_at : (l r : List ℕ) (n : ℕ) → take 1 l ≡ 35 ∷ [] → r ≡ drop 1 l → n ≡ prefix_len is_digit r → n ≡ 0
    → IsFlawed l BadToken 0
name_none_at l r n h hr hn zero = (
  λ k other rest e. name_none r (sym hn ∙ zero) k other rest (sym (begins_with 35 l r h hr) ∙ e),
  (λ g. omega (arith, one_only 35 39 l h g)),
  refl,
)

pub element_none_at : (l r : List ℕ) → take 1 l ≡ 46 ∷ [] → r ≡ drop 1 l
    → (0 < length r → is_letter (get_or r 0 0) ≡ false) → IsFlawed l BadToken 0
element_none_at l r h hr bare = (
  λ k other rest e. element_no_letter r bare k other rest (sym (begins_with 46 l r h hr) ∙ e),
  (λ g. omega (arith, one_only 46 39 l h g)),
  refl,
)

pub element_open_at : (l r after : List ℕ) (n : ℕ) → take 1 l ≡ 46 ∷ [] → r ≡ drop 1 l → n ≡ prefix_len is_word_byte r
    → after ≡ drop n r → (0 < length after → (get_or after 0 0 == 46) ≡ false) → IsFlawed l BadToken 0
element_open_at l r after n h hr hn ha bare = (
  λ k other rest e. element_no_dot r after (ha ∙ ap (λ m. drop m r) hn) (stops_at after (λ b. b == 46) bare) k other
      rest (sym (begins_with 46 l r h hr) ∙ e),
  (λ g. omega (arith, one_only 46 39 l h g)),
  refl,
)

pub run_taken : (p : ℕ → Bool) (l front : List ℕ) (n : ℕ) → n ≡ prefix_len p l → front ≡ take n l → Each p front
run_taken p l front n hn hf = rw (hf, hn) (run_at_prefix p l).passes

-- the string that the code finds
module _ (l t content : List ℕ) (n : ℕ) (within : n ≤ length l) (next : IsNext string (take n l) (drop n l))
    (ht : t ≡ take n l) where
  pub string_long : 2 ≤ length t
  string_long = omega (
    arith,
    ap length ht,
    ap length next.allowed.0.1,
    length-append (doubled next.allowed.0.0)
        (39 ∷ []),
  )

  pub text_read : content ≡ content_of t → IsReadable content → IsText t
  text_read hc h = record {
    string_is = subst (Spells string) (sym ht) next.allowed.0;
    readable = subst IsReadable hc h;
  }

  pub text_broken : (index : ℕ) → content ≡ content_of t → IsBrokenAt content index → HasBadEscape l (1 + index)
  text_broken index hc h =
      let e : index ≡ 1 + index - 1 = omega arith in
      let c : content ≡ content_of (take n l) = hc ∙ ap content_of ht in
      record {
        len = n;
        within = within;
        next = next;
        inside = omega arith;
        broken = subst (λ (p : List ℕ × ℕ). IsBrokenAt p.0 p.1) (λ i. (c i, e i)) h;
      }

  pub text_front : (s : Text) → content ≡ content_of t → IsReadable content → s.text.now ≡ t
      → IsFront l (sorts.String s) n
  text_front s hc h hs = record {
    within = within;
    next = next;
    value = (hs ∙ ht, subst IsReadable (hc ∙ ap content_of ht) h);
  }
