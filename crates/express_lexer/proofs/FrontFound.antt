-- The token at the front of a text is found, or none within the limits stands there.
use Rattle.std.proofs.Common.{◌≡◌, ℕ, zero, suc, ◌+◌, ◌%◌, ◌≤◌, ◌<◌, true, false, List, [], ◌∷◌, ◌++◌, length, get_or, take, drop, refl, sym, ap, ◌∙◌, arith, append_assoc, codes, subst, Bor, ◌⊎◌, inl, inr}
use Rattle.std.specs.List.{prefix_len}
use Rattle.std.proofs.lemmas.Bool.{false≢true, cases_Bool, cases_eq}
use Rattle.std.proofs.lemmas.List.Sums.{prefix_len-le-length}
use Rattle.step_literals.specs.declared.literal.Decimal.{Decimal}
use Rattle.step_literals.specs.Bytes.{is_digit, is_word_byte, is_hex}
use Rattle.step_literals.specs.Tokens.{doubled}
use Rattle.step_literals.specs.Tokens as literals
use Rattle.step_literals.specs.Strings.{begins_with}
use Rattle.step_literals.specs.Numbers.{IsShortNumber, StartsNumber}
use Rattle.step_literals.specs.Literals.{IsDecimal}
use Rattle.step_literals.proofs.Runs.{front_back}
use Rattle.step_literals.proofs.Runs as runs
use Rattle.step_literals.proofs.StringLemmas as strings
use Rattle.step_literals.proofs.NumberCuts.{take_one}
use Rattle.step_literals.proofs.Choices.{Decided}
use Rattle.step_literals.proofs.NumberFound.{NumberAt, number_or_none, short_or_not}
use Rattle.step_literals.proofs.StringEnds.{Ended, Unended, ends_or_not}
use Rattle.express_lexer.specs.declared.marks.Mark.{Mark}
use Rattle.express_lexer.specs.declared.marks.TheConstants.{MARKS}
use Rattle.step_literals.specs.declared.literal.Word.{Word}
use Rattle.express_lexer.specs.declared.literal.SimpleString.{SimpleString}
use Rattle.express_lexer.specs.declared.literal.EncodedString.{EncodedString}
use Rattle.express_lexer.specs.declared.literal.Binary.{Binary}
use Rattle.express_lexer.specs.declared.token.Sort.{Sort}
use Rattle.express_lexer.specs.declared.token.Sort.TheVariants as sorts
use Rattle.express_lexer.specs.Marks.{mark_text, IsLongestMark, NoMark}
use Rattle.express_lexer.specs.Tokens.{word, string, encoded, binary, is_letter, is_bit, Spells, NoneAt}
use Rattle.express_lexer.specs.Front.{IsFront, IsFlawed}
use Rattle.express_lexer.proofs.MarkLemmas.{NoneBefore, mark_in, longest_mark, no_mark, none_more}
use Rattle.express_lexer.proofs.Groups.{group_first, others, others_left}
use Rattle.express_lexer.proofs.FrontLemmas.{word_is_keyword, next_word, none_number, next_integer, next_real, none_string, next_string, none_encoded, next_encoded, none_binary, next_binary, none_mark, none_open, next_mark}

-- a token stands at the front, or none within the limits does
abbrev pub FrontAt : List ℕ → Type 0
FrontAt l = ((sort : Sort) × (n : ℕ) × IsFront l sort n) ⊎ IsFlawed l

-- values that these bytes spell
abbrev lent : List ℕ → Bor (List ℕ)
lent t = record { ref_ptr = (0, 0); now = t }

abbrev the_word : (t : List ℕ) → Spells word t → Word
the_word t h = record { text = lent t; spelled = ∣ word_is_keyword t h ∣₁ }

abbrev the_decimal : (t : List ℕ) → IsDecimal t → Decimal
the_decimal t h = record { text = lent t; spelled = ∣ h ∣₁ }

abbrev the_string : (t : List ℕ) → Spells string t → SimpleString
the_string t h = record { text = lent t; spelled = ∣ h ∣₁ }

abbrev the_encoded : (t : List ℕ) → Spells encoded t → EncodedString
the_encoded t h = record { text = lent t; spelled = ∣ h ∣₁ }

abbrev the_binary : (t : List ℕ) → Spells binary t → Binary
the_binary t h = record { text = lent t; spelled = ∣ h ∣₁ }

none : (l : List ℕ) → NoneAt l → FrontAt l
none l h = inr (inl h)

word_found : (l : List ℕ) → is_letter (get_or l 0 0) ≡ true → FrontAt l
word_found l letter =
    let n = prefix_len is_word_byte l in
    let next = next_word l letter in
    inl (
      sorts.Word (the_word (take n l) next.allowed),
      n,
      record {
        within = prefix_len-le-length is_word_byte l;
        next = next;
        value = refl;
      },
    )

starts_number : (l : List ℕ) → is_digit (get_or l 0 0) ≡ true → StartsNumber l
starts_number [] h = absurd (false≢true h)
starts_number (b ∷ bs) h = rw h refl

module _ (l : List ℕ) (first : is_digit (get_or l 0 0) ≡ true) where
  number_value : (n : ℕ) → n ≤ length l → literals.IsNext literals.integer (take n l) (drop n l)
      ⊎ literals.IsNext literals.real (take n l) (drop n l) → Decided (IsShortNumber (take n l)) → FrontAt l
  number_value n within (inl h) (inr long) = inr (inr (record {
    len = n;
    within = within;
    next = inl (next_integer l first n h);
    long = long;
  }))
  number_value n within (inr h) (inr long) = inr (inr (record {
    len = n;
    within = within;
    next = inr (next_real l first n h);
    long = long;
  }))
  number_value n within (inl h) (inl short) =
      inl (
        sorts.Integer (the_decimal (take n l) (record { number = inl h.allowed; short = short })),
        n,
        record {
          within = within;
          next = next_integer l first n h;
          value = (refl, short);
        },
      )
  number_value n within (inr h) (inl short) =
      inl (
        sorts.Real (the_decimal (take n l) (record { number = inr h.allowed; short = short })),
        n,
        record {
          within = within;
          next = next_real l first n h;
          value = (refl, short);
        },
      )

  number_of : NumberAt l ⊎ literals.NoneAt l → FrontAt l
  number_of (inl found) = number_value found.0 found.1 found.2 (short_or_not (take found.0 l))
  number_of (inr h) = none l (none_number l first h)

  number_found : FrontAt l
  number_found = number_of (number_or_none l (starts_number l first))

string_of : (l : List ℕ) → take 1 l ≡ 39 ∷ [] → Ended (drop 1 l) ⊎ Unended (drop 1 l) → FrontAt l
string_of l h (inl e) =
    let t = 39 ∷ doubled e.0 ++ 39 ∷ [] in
    let n = length t in
    let whole : l ≡ t ++ e.1 = runs.begins_with 39 l (drop 1 l) h refl
    ∙ ap (λ x. 39 ∷ x) (e.2 ∙ sym (append_assoc (doubled e.0) (39 ∷ []) e.1)) in
    let cut = front_back l t e.1 n whole refl in
    let there : literals.IsNext literals.string (take n l) (drop n l) =
    subst (λ (p : List ℕ × List ℕ). literals.IsNext literals.string p.0 p.1) (λ i. (sym cut.1 i, sym cut.2 i))
    (strings.next_string e.0 e.1 e.3) in
    inl (
      sorts.String (the_string (take n l) there.allowed.0),
      n,
      record {
        within = cut.0;
        next = next_string (take n l) (drop n l) there;
        value = refl;
      },
    )
string_of l h (inr u) =
    let whole : l ≡ 39 ∷ (doubled u.0 ++ u.1) = runs.begins_with 39 l (drop 1 l) h refl ∙ ap (λ x. 39 ∷ x) u.2 in
    none l (none_string l h (λ k other rest e. strings.string_none u.0 u.1 u.3 k other rest (sym whole ∙ e)))

string_found : (l : List ℕ) → take 1 l ≡ 39 ∷ [] → FrontAt l
string_found l h = string_of l h (ends_or_not (drop 1 l))

module _ (l : List ℕ) (h : take 1 l ≡ 34 ∷ []) where
  hex : ℕ
  hex = prefix_len is_hex (drop 1 l)

  encoded_of : Decided (hex % 8 ≡ 0) → (begins_with (34 ∷ []) (drop hex (drop 1 l)) ≡ true)
      ⊎ (begins_with (34 ∷ []) (drop hex (drop 1 l)) ≡ false) → FrontAt l
  unfolding hex
  encoded_of (inr odd) c = none l (none_encoded l (drop 1 l) h refl (λ groups closed. odd groups))
  encoded_of (inl groups) (inr unclosed) =
      none l (none_encoded l (drop 1 l) h refl (λ groups closed. false≢true (sym unclosed ∙ closed)))
  encoded_of (inl groups) (inl closed) =
      let found = next_encoded l (drop 1 l) h refl groups closed in
      inl (
        sorts.Encoded (the_encoded (take (hex + 2) l) found.1.allowed),
        hex + 2,
        record {
          within = found.0;
          next = found.1;
          value = refl;
        },
      )

  encoded_found : FrontAt l
  encoded_found = encoded_of (cases_eq (hex % 8) 0) (cases_Bool (begins_with (34 ∷ []) (drop hex (drop 1 l))))

module _ (l : List ℕ) (h : take 1 l ≡ 37 ∷ []) where
  bits : ℕ
  bits = prefix_len is_bit (drop 1 l)

  binary_of : Decided (bits ≡ 0) → FrontAt l
  unfolding bits
  binary_of (inl no_bit) = none l (none_binary l (drop 1 l) h refl no_bit)
  binary_of (inr some) =
      let found = next_binary l (drop 1 l) h refl some in
      inl (
        sorts.Binary (the_binary (take (bits + 1) l) found.1.allowed),
        bits + 1,
        record {
          within = found.0;
          next = found.1;
          value = refl;
        },
      )

  binary_found : FrontAt l
  binary_found = binary_of (cases_eq bits 0)

-- the longest mark at the front of a text
abbrev MarkAt : List ℕ → Type 0
MarkAt l = (mark : Mark) × IsLongestMark l mark

mark_from : (l : List ℕ) (fuel i : ℕ) → i + fuel ≡ length MARKS → NoneBefore l i → MarkAt l ⊎ NoMark l
mark_from l zero i e before = inr (no_mark l (λ k lt. before k (omega (arith, lt, e))))
mark_from l (suc fuel) i e before = by (cases_Bool (begins_with (mark_text (mark_in MARKS i)) l))
    (λ more. mark_from l fuel (i + 1) (omega (arith, e)) more)
  where
    by : (begins_with (mark_text (mark_in MARKS i)) l ≡ true) ⊎ (begins_with (mark_text (mark_in MARKS i)) l ≡ false)
        → (NoneBefore l (i + 1) → MarkAt l ⊎ NoMark l) → MarkAt l ⊎ NoMark l
    by (inl stands) on = inl (mark_in MARKS i, longest_mark l i (omega (arith, e)) before stands)
    by (inr stays) on = on (none_more l i before stays)

mark_or_none : (l : List ℕ) → MarkAt l ⊎ NoMark l
mark_or_none l = mark_from l (length MARKS) 0 (omega arith) (λ k lt. absurd (omega (arith, lt)))

module _ (l : List ℕ) (some : 0 < length l) where
  mark_of : is_letter (get_or l 0 0) ≡ false → is_digit (get_or l 0 0) ≡ false → (get_or l 0 0 ≡ 39 → ⊥)
      → (get_or l 0 0 ≡ 34 → ⊥) → (get_or l 0 0 ≡ 37 → ⊥)
      → (begins_with (codes "(*") l ≡ true) ⊎ (begins_with (codes "(*") l ≡ false) → MarkAt l ⊎ NoMark l → FrontAt l
  mark_of letter digit h1 h2 h3 (inl opens) m =
      none l (none_open l (group_first l others some (others_left (get_or l 0 0) letter digit h1 h2 h3)) opens)
  mark_of letter digit h1 h2 h3 (inr bare) (inr unmarked) =
      none l (none_mark l (group_first l others some (others_left (get_or l 0 0) letter digit h1 h2 h3)) unmarked)
  mark_of letter digit h1 h2 h3 (inr bare) (inl m) =
      let found = next_mark l (group_first l others some (others_left (get_or l 0 0) letter digit h1 h2 h3)) m.0 bare
      m.1 in
      inl (sorts.Mark m.0, length (mark_text m.0), record { within = found.0; next = found.1; value = found.2 })

  at_byte : (b : ℕ) → get_or l 0 0 ≡ b → take 1 l ≡ b ∷ []
  at_byte b e = take_one l some ∙ ap (λ c. c ∷ []) e

  by_byte : (is_letter (get_or l 0 0) ≡ true) ⊎ (is_letter (get_or l 0 0) ≡ false) → (is_digit (get_or l 0 0) ≡ true)
      ⊎ (is_digit (get_or l 0 0) ≡ false)
      → Decided (get_or l 0 0 ≡ 39) → Decided (get_or l 0 0 ≡ 34) → Decided (get_or l 0 0 ≡ 37) → FrontAt l
  by_byte (inl letter) d h1 h2 h3 = word_found l letter
  by_byte (inr letter) (inl digit) h1 h2 h3 = number_found l digit
  by_byte (inr letter) (inr digit) (inl e) h2 h3 = string_found l (at_byte 39 e)
  by_byte (inr letter) (inr digit) (inr h1) (inl e) h3 = encoded_found l (at_byte 34 e)
  by_byte (inr letter) (inr digit) (inr h1) (inr h2) (inl e) = binary_found l (at_byte 37 e)
  by_byte (inr letter) (inr digit) (inr h1) (inr h2) (inr h3) = mark_of letter digit h1 h2 h3
      (cases_Bool (begins_with (codes "(*") l)) (mark_or_none l)

  -- each text that isn't empty begins with a token within the limits, or with none
  pub front_found : FrontAt l
  front_found = by_byte (cases_Bool (is_letter (get_or l 0 0))) (cases_Bool (is_digit (get_or l 0 0)))
      (cases_eq (get_or l 0 0) 39) (cases_eq (get_or l 0 0) 34) (cases_eq (get_or l 0 0) 37)
