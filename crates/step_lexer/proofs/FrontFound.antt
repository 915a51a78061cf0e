-- The token at the front of a text is found, or what is wrong there.
use Rattle.std.proofs.Common.{◌≡◌, ℕ, ◌+◌, ◌≤◌, ◌<◌, ◌^◌, true, false, ◌||◌, List, [], ◌∷◌, ◌++◌, length, get_or, take, drop, refl, sym, ap, ◌∙◌, arith, append_assoc, take-append-drop, codes, subst, Bor, ◌⊎◌, inl, inr}
use Rattle.std.specs.List.{prefix_len}
use Rattle.std.specs.Str.Parse.{digits_value}
use Rattle.std.proofs.lemmas.Bool.{false≢true, cases_Bool, cases_eq, cases_lt, ne_eqb}
use Rattle.std.proofs.lemmas.Bool.Decides.{nat_tests}
use Rattle.std.proofs.lemmas.List.Sums.{prefix_len-le-length}
use Rattle.step_literals.specs.declared.fault.Flaw.{Flaw}
use Rattle.step_literals.specs.declared.fault.Flaw.TheVariants.{BadToken, UnendedString, BadEscape, NumberTooLong, NameTooLarge}
use Rattle.step_literals.specs.declared.literal.Word.{Word}
use Rattle.step_literals.specs.declared.literal.Decimal.{Decimal}
use Rattle.step_literals.specs.declared.literal.Text.{Text}
use Rattle.step_literals.specs.declared.literal.Bits.{Bits}
use Rattle.step_literals.specs.Bytes.{is_letter, is_digit, is_word_byte, is_hex}
use Rattle.step_literals.specs.Tokens.{integer, real, binary, string, is_sign, is_mark, IsKeyword, IsNext, NoneAt, Says, Spells, doubled}
use Rattle.step_literals.specs.Numbers.{IsShortNumber, StartsNumber}
use Rattle.step_literals.specs.Literals.{IsDecimal, IsText}
use Rattle.step_literals.specs.Strings.{content_of}
use Rattle.step_lexer.specs.declared.token.Sort.{Sort}
use Rattle.step_lexer.specs.declared.token.Sort.TheVariants as sorts
use Rattle.step_lexer.specs.declared.token.Mark.{Mark}
use Rattle.step_lexer.specs.declared.token.Mark.TheVariants.{Open, Close, Comma, Semicolon, Equals, Dollar, Asterisk}
use Rattle.step_lexer.specs.Front.{IsFront, IsFlawed, mark_byte}
use Rattle.step_literals.proofs.Runs.{begins_with, run_at_prefix, front_back}
use Rattle.step_literals.proofs.KeywordLemmas.{keyword_run}
use Rattle.step_literals.proofs.StringLemmas.{next_string, string_none}
use Rattle.step_literals.proofs.BinaryLemmas.{none_empty, none_low, none_high, none_bits, none_open, binary_at}
use Rattle.step_lexer.proofs.WordLemmas.{next_begins, next_ends, next_keyword, said_len}
use Rattle.step_lexer.proofs.FrontLemmas.{mark_front, no_token, name_at, name_none_at, element_at, element_none_at, element_open_at, take_first, one_only, starts_number, text_read, text_broken, text_front}
use Rattle.step_lexer.proofs.LeftOutLemmas.{user_none_at, user_at, scope_none_at, scope_front, word_run}
use Rattle.step_literals.proofs.Choices.{Decided, says_or_not}
use Rattle.step_literals.proofs.NumberFound.{NumberAt, number_or_none, short_or_not, some_there}
use Rattle.step_literals.proofs.StringEnds.{Ended, Unended, ends_or_not}
use Rattle.step_lexer.proofs.StringFound.{ReadOrBroken, read_or_broken}

-- a token stands at the front, or something is wrong there
abbrev pub FrontAt : List ℕ → Type 0
FrontAt l = ((sort : Sort) × (n : ℕ) × IsFront l sort n) ⊎ ((flaw : Flaw) × (index : ℕ) × IsFlawed l flaw index)

-- values that these bytes spell
abbrev lent : List ℕ → Bor (List ℕ)
lent t = record { ref_ptr = (0, 0); now = t }

abbrev word : (t : List ℕ) → IsKeyword t → Word
word t h = record { text = lent t; spelled = ∣ h ∣₁ }

abbrev decimal : (t : List ℕ) → IsDecimal t → Decimal
decimal t h = record { text = lent t; spelled = ∣ h ∣₁ }

abbrev text : (t : List ℕ) → IsText t → Text
text t h = record { text = lent t; spelled = ∣ h ∣₁ }

abbrev bits : (t : List ℕ) → Spells binary t → Bits
bits t h = record { text = lent t; spelled = ∣ h ∣₁ }

bad : (l : List ℕ) → NoneAt l → (take 1 l ≡ 39 ∷ [] → ⊥) → FrontAt l
bad l none other = inr (BadToken, 0, (none, other, refl))

module _ (l : List ℕ) (h : take 1 l ≡ 35 ∷ []) (n : ℕ) where
  name_number : ℕ
  name_number = digits_value 10 (drop 1 (take (1 + n) l))

  name_of : n ≡ prefix_len is_digit (drop 1 l) → Decided (n ≡ 0) → (name_number < 2 ^ 64) ⊎ (2 ^ 64 ≤ name_number)
      → FrontAt l
  unfolding name_number
  name_of e (inl zero) v = inr (BadToken, 0, name_none_at l (drop 1 l) n h refl e zero)
  name_of e (inr pos) (inl small) = let c = name_at l (drop 1 l) n h refl e pos in
      inl (sorts.Name name_number, 1 + n, record { within = c.0; next = c.1; value = (refl, small) })
  name_of e (inr pos) (inr large) = let c = name_at l (drop 1 l) n h refl e pos in inr (
    NameTooLarge,
    0,
    (
      record {
        len = 1 + n;
        within = c.0;
        next = c.1;
        large = large;
      },
      refl,
    ),
  )

name_found : (l : List ℕ) → take 1 l ≡ 35 ∷ [] → FrontAt l
name_found l h = let n = prefix_len is_digit (drop 1 l) in name_of l h n refl (cases_eq n 0)
    (cases_lt (name_number l h n) (2 ^ 64))

module _ (l : List ℕ) (h : take 1 l ≡ 46 ∷ []) (r w after : List ℕ) (n : ℕ) (hr : r ≡ drop 1 l)
    (hn : n ≡ prefix_len is_word_byte r) (hw : w ≡ take n r) (ha : after ≡ drop n r) where
  element_of : (is_letter (get_or r 0 0) ≡ true) ⊎ (is_letter (get_or r 0 0) ≡ false) → Decided (get_or after 0 0 ≡ 46)
      → FrontAt l
  element_of (inr other) d = inr (BadToken, 0, element_none_at l r h hr (λ some. other))
  element_of (inl letter) (inr open_) = inr (
    BadToken,
    0,
    element_open_at l r after n h hr hn ha
        (λ some. ne_eqb (get_or after 0 0) 46 open_),
  )
  element_of (inl letter) (inl dot) =
      let e = element_at l r w after n h hr hn hw ha letter (some_there after 46 dot (omega arith)) dot in
      inl (
        sorts.Element (word w (word_run r w n hn hw letter)),
        length w + 2,
        record {
          within = e.0;
          next = e.1;
          value = e.2;
        },
      )

element_found : (l : List ℕ) → take 1 l ≡ 46 ∷ [] → FrontAt l
element_found l h =
    let r = drop 1 l in
    let n = prefix_len is_word_byte r in
    element_of l h r (take n r) (drop n r) n refl refl refl refl (cases_Bool (is_letter (get_or r 0 0)))
    (cases_eq (get_or (drop n r) 0 0) 46)

module _ (l : List ℕ) (h : take 1 l ≡ 33 ∷ []) (r w : List ℕ) (n : ℕ) (hr : r ≡ drop 1 l)
    (hn : n ≡ prefix_len is_word_byte r) (hw : w ≡ take n r) where
  user_of : (is_letter (get_or r 0 0) ≡ true) ⊎ (is_letter (get_or r 0 0) ≡ false) → FrontAt l
  user_of (inr other) = inr (BadToken, 0, user_none_at l r h hr (λ some. other))
  user_of (inl letter) =
      let u = user_at l r w n h hr hn hw letter in
      inl (
        sorts.UserDefined (word w (word_run r w n hn hw letter)),
        1 + n,
        record {
          within = u.0;
          next = u.1;
          value = u.2;
        },
      )

user_found : (l : List ℕ) → take 1 l ≡ 33 ∷ [] → FrontAt l
user_found l h =
    let r = drop 1 l in
    let n = prefix_len is_word_byte r in
    user_of l h r (take n r) n refl refl refl (cases_Bool (is_letter (get_or r 0 0)))

scope_found : (l : List ℕ) → take 1 l ≡ 38 ∷ [] → FrontAt l
scope_found l h = by (says_or_not (codes "&SCOPE") (take 6 l))
  where
    by : Decided (Says (codes "&SCOPE") (take 6 l)) → FrontAt l
    by (inl said) = inl (sorts.Scope, 6, scope_front l said)
    by (inr unsaid) = inr (BadToken, 0, scope_none_at l h unsaid)

word_found : (l : List ℕ) → is_letter (get_or l 0 0) ≡ true → FrontAt l
word_found l letter = by (says_or_not (codes "ISO-10303-21") (take 12 l))
    (says_or_not (codes "END-ISO-10303-21") (take 16 l))
  where
    by : Decided (Says (codes "ISO-10303-21") (take 12 l)) → Decided (Says (codes "END-ISO-10303-21") (take 16 l))
        → FrontAt l
    by (inl said) e = inl (
      sorts.Begin,
      12,
      record {
        within = said_len 12 (codes "ISO-10303-21") l refl said;
        next = next_begins (take 12 l) (drop 12 l) said;
        value = tt;
      },
    )
    by (inr b) (inl said) = inl (
      sorts.End,
      16,
      record {
        within = said_len 16 (codes "END-ISO-10303-21") l refl said;
        next = next_ends (take 16 l) (drop 16 l) said;
        value = tt;
      },
    )
    by (inr b) (inr e) =
        let n = prefix_len is_word_byte l in
        let k = keyword_run l letter in
        inl (
          sorts.Keyword (word (take n l) k),
          n,
          record {
            within = prefix_len-le-length is_word_byte l;
            next = next_keyword l (take n l) (drop n l) (sym (take-append-drop n l)) k
                (run_at_prefix is_word_byte l).stops b e;
            value = refl;
          },
        )

quote_other : (l : List ℕ) → take 1 l ≡ 34 ∷ [] → take 1 l ≡ 39 ∷ [] → ⊥
quote_other l h g = omega (arith, one_only 34 39 l h g)

module _ (l : List ℕ) (h : take 1 l ≡ 34 ∷ []) (r digits after : List ℕ) (n : ℕ) (hr : r ≡ drop 1 l)
    (some : 0 < length r) (hd : digits ≡ drop 1 r) (hn : n ≡ prefix_len is_hex digits) (ha : after ≡ drop n digits)
    (low : 48 ≤ get_or r 0 0) (high : get_or r 0 0 ≤ 51) where
  open_bits : (get_or after 0 0 ≡ 34 → ⊥) → FrontAt l
  open_bits unquoted = bad l (λ k other rest e. none_open l r h hr digits some hd n after hn ha (λ some_after. unquoted)
      k other rest e) (quote_other l h)

  closed_bits : (n ≡ 0 → get_or r 0 0 ≡ 48) → get_or after 0 0 ≡ 34 → FrontAt l
  closed_bits whole quoted =
      let b = binary_at l r h hr digits some hd n after hn ha (some_there after 34 quoted (omega arith)) quoted low high
      whole in
      inl (sorts.Binary (bits (take (n + 3) l) b.1.allowed), n + 3, record { within = b.0; next = b.1; value = refl })

  bits_of : Decided (n ≡ 0) → Decided (get_or r 0 0 ≡ 48) → Decided (get_or after 0 0 ≡ 34) → FrontAt l
  bits_of (inl zero) (inr unused) d = bad l (λ k other rest e. none_bits l r h hr digits some hd n hn zero unused k
      other rest e) (quote_other l h)
  bits_of (inr pos) u (inr unquoted) = open_bits unquoted
  bits_of (inl zero) (inl whole) (inr unquoted) = open_bits unquoted
  bits_of (inr pos) u (inl quoted) = closed_bits (λ zero. absurd (pos zero)) quoted
  bits_of (inl zero) (inl whole) (inl quoted) = closed_bits (λ zero. whole) quoted

module _ (l : List ℕ) (h : take 1 l ≡ 34 ∷ []) (r : List ℕ) (hr : r ≡ drop 1 l) where
  binary_of : (0 < length r) ⊎ (length r ≤ 0) → (get_or r 0 0 < 48) ⊎ (48 ≤ get_or r 0 0) → (51 < get_or r 0 0)
      ⊎ (get_or r 0 0 ≤ 51) → FrontAt l
  binary_of (inr none) a b = bad l (λ k other rest e. none_empty l r h hr (omega (arith, none)) k other rest e)
      (quote_other l h)
  binary_of (inl some) (inl low) b = bad l (λ k other rest e. none_low l r h hr low k other rest e) (quote_other l h)
  binary_of (inl some) (inr low) (inl high) = bad l (λ k other rest e. none_high l r h hr high k other rest e)
      (quote_other l h)
  binary_of (inl some) (inr low) (inr high) =
      let digits = drop 1 r in
      let n = prefix_len is_hex digits in
      bits_of l h r digits (drop n digits) n hr some refl refl refl low high (cases_eq n 0) (cases_eq (get_or r 0 0) 48)
      (cases_eq (get_or (drop n digits) 0 0) 34)

binary_found : (l : List ℕ) → take 1 l ≡ 34 ∷ [] → FrontAt l
binary_found l h = let r = drop 1 l in binary_of l h r refl (cases_lt 0 (length r)) (cases_lt (get_or r 0 0) 48)
    (cases_lt 51 (get_or r 0 0))

module _ (l : List ℕ) (n : ℕ) (within : n ≤ length l) (next : IsNext string (take n l) (drop n l)) where
  ended_found : ReadOrBroken (content_of (take n l)) → FrontAt l
  ended_found (inl read) =
      let t = take n l in
      let c = content_of t in
      let s = text t (text_read l t c n within next refl refl read) in
      inl (sorts.String s, n, text_front l t c n within next refl s refl read refl)
  ended_found (inr broken) = inr (
    BadEscape,
    1 + broken.0,
    text_broken l (take n l) (content_of (take n l)) n within
        next refl broken.0 refl broken.1,
  )

string_of : (l : List ℕ) → take 1 l ≡ 39 ∷ [] → Ended (drop 1 l) ⊎ Unended (drop 1 l) → FrontAt l
string_of l h (inl e) =
    let t = 39 ∷ doubled e.0 ++ 39 ∷ [] in
    let n = length t in
    let whole : l ≡ t ++ e.1 = begins_with 39 l (drop 1 l) h refl
    ∙ ap (λ x. 39 ∷ x) (e.2 ∙ sym (append_assoc (doubled e.0) (39 ∷ []) e.1)) in
    let cut = front_back l t e.1 n whole refl in
    let next : IsNext string (take n l) (drop n l) = subst (λ (p : List ℕ × List ℕ). IsNext string p.0 p.1)
    (λ i. (sym cut.1 i, sym cut.2 i)) (next_string e.0 e.1 e.3) in
    ended_found l n cut.0 next (read_or_broken (content_of (take n l)))
string_of l h (inr u) =
    let whole : l ≡ 39 ∷ (doubled u.0 ++ u.1) = begins_with 39 l (drop 1 l) h refl ∙ ap (λ x. 39 ∷ x) u.2 in
    inr (UnendedString, 0, ((λ k other rest e. string_none u.0 u.1 u.3 k other rest (sym whole ∙ e)), h, refl))

string_found : (l : List ℕ) → take 1 l ≡ 39 ∷ [] → FrontAt l
string_found l h = string_of l h (ends_or_not (drop 1 l))

-- the value of a number, where it is within the limits
module _ (l : List ℕ) (n : ℕ) (within : n ≤ length l) where
  number_value : IsNext integer (take n l) (drop n l) ⊎ IsNext real (take n l) (drop n l)
      → Decided (IsShortNumber (take n l)) → FrontAt l
  number_value next (inr long) = inr (
    NumberTooLong,
    0,
    (
      record {
        len = n;
        within = within;
        next = next;
        long = long;
      },
      refl,
    ),
  )
  number_value (inl next) (inl short) = inl (
    sorts.Integer (decimal (take n l) (record {
      number = inl next.allowed;
      short = short;
    })),
    n,
    record { within = within; next = next; value = (refl, short) },
  )
  number_value (inr next) (inl short) = inl (
    sorts.Real (decimal (take n l) (record {
      number = inr next.allowed;
      short = short;
    })),
    n,
    record { within = within; next = next; value = (refl, short) },
  )

number_other : (l : List ℕ) → StartsNumber l → take 1 l ≡ 39 ∷ [] → ⊥
number_other [] start h = start
number_other (b ∷ bs) start h = let q : b ≡ 39 = cc in false≢true (rw q at start)

number_found : (l : List ℕ) → StartsNumber l → FrontAt l
number_found l start = by (number_or_none l start)
  where
    by : NumberAt l ⊎ NoneAt l → FrontAt l
    by (inl found) = number_value l found.0 found.1 found.2 (short_or_not (take found.0 l))
    by (inr none) = bad l none (number_other l start)

mark_or_none : (b : ℕ) → ((m : Mark) × (mark_byte m ≡ b)) ⊎ (is_mark b ≡ false)
mark_or_none b = by (cases_eq b 40) (cases_eq b 41) (cases_eq b 44) (cases_eq b 59) (cases_eq b 61) (cases_eq b 36)
    (cases_eq b 42)
  where
    by : Decided (b ≡ 40) → Decided (b ≡ 41) → Decided (b ≡ 44) → Decided (b ≡ 59) → Decided (b ≡ 61) → Decided (b ≡ 36)
        → Decided (b ≡ 42) → ((m : Mark) × (mark_byte m ≡ b)) ⊎ (is_mark b ≡ false)
    by (inl e) h2 h3 h4 h5 h6 h7 = inl (Open, sym e)
    by (inr h1) (inl e) h3 h4 h5 h6 h7 = inl (Close, sym e)
    by (inr h1) (inr h2) (inl e) h4 h5 h6 h7 = inl (Comma, sym e)
    by (inr h1) (inr h2) (inr h3) (inl e) h5 h6 h7 = inl (Semicolon, sym e)
    by (inr h1) (inr h2) (inr h3) (inr h4) (inl e) h6 h7 = inl (Equals, sym e)
    by (inr h1) (inr h2) (inr h3) (inr h4) (inr h5) (inl e) h7 = inl (Dollar, sym e)
    by (inr h1) (inr h2) (inr h3) (inr h4) (inr h5) (inr h6) (inl e) = inl (Asterisk, sym e)
    by (inr h1) (inr h2) (inr h3) (inr h4) (inr h5) (inr h6) (inr h7) = inr (grind (arith, nat_tests))

module _ (l : List ℕ) (some : 0 < length l) where
  at_byte : (b : ℕ) → get_or l 0 0 ≡ b → take 1 l ≡ b ∷ []
  at_byte b e = take_first b l some e

  other_found : is_letter (get_or l 0 0) ≡ false → (is_digit (get_or l 0 0) || is_sign (get_or l 0 0)) ≡ false
      → is_mark (get_or l 0 0) ≡ false → FrontAt l
  other_found no_letter no_number no_mark = by (cases_eq (get_or l 0 0) 35) (cases_eq (get_or l 0 0) 46)
      (cases_eq (get_or l 0 0) 39) (cases_eq (get_or l 0 0) 34) (cases_eq (get_or l 0 0) 33)
      (cases_eq (get_or l 0 0) 38)
    where
      by : Decided (get_or l 0 0 ≡ 35) → Decided (get_or l 0 0 ≡ 46) → Decided (get_or l 0 0 ≡ 39)
          → Decided (get_or l 0 0 ≡ 34) → Decided (get_or l 0 0 ≡ 33) → Decided (get_or l 0 0 ≡ 38) → FrontAt l
      by (inl e) h2 h3 h4 h5 h6 = name_found l (at_byte 35 e)
      by (inr h1) (inl e) h3 h4 h5 h6 = element_found l (at_byte 46 e)
      by (inr h1) (inr h2) (inl e) h4 h5 h6 = string_found l (at_byte 39 e)
      by (inr h1) (inr h2) (inr h3) (inl e) h5 h6 = binary_found l (at_byte 34 e)
      by (inr h1) (inr h2) (inr h3) (inr h4) (inl e) h6 = user_found l (at_byte 33 e)
      by (inr h1) (inr h2) (inr h3) (inr h4) (inr h5) (inl e) = scope_found l (at_byte 38 e)
      by (inr h1) (inr h2) (inr h3) (inr h4) (inr h5) (inr h6) =
          inr (BadToken, 0, no_token l some no_letter no_number no_mark h1 h2 h3 h4 h5 h6)

  by_group : ((m : Mark) × (mark_byte m ≡ get_or l 0 0)) ⊎ (is_mark (get_or l 0 0) ≡ false)
      → (is_letter (get_or l 0 0) ≡ true) ⊎ (is_letter (get_or l 0 0) ≡ false)
      → ((is_digit (get_or l 0 0) || is_sign (get_or l 0 0)) ≡ true)
      ⊎ ((is_digit (get_or l 0 0) || is_sign (get_or l 0 0)) ≡ false) → FrontAt l
  by_group (inl m) w n = inl (sorts.Mark m.0, 1, mark_front l m.0 some m.1)
  by_group (inr no_mark) (inl letter) n = word_found l letter
  by_group (inr no_mark) (inr no_letter) (inl number) = number_found l (starts_number l some number)
  by_group (inr no_mark) (inr no_letter) (inr no_number) = other_found no_letter no_number no_mark

  -- each text that isn't empty begins with a token, or with a flaw
  pub front_found : FrontAt l
  front_found = by_group (mark_or_none (get_or l 0 0)) (cases_Bool (is_letter (get_or l 0 0)))
      (cases_Bool (is_digit (get_or l 0 0) || is_sign (get_or l 0 0)))
