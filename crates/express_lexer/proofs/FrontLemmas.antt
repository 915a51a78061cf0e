-- The longest token at the front of a text, by its first byte.
use Rattle.std.proofs.Common.{◌≡◌, ℕ, ◌+◌, ◌%◌, ◌≤◌, ◌<◌, Bool, true, false, List, [], ◌∷◌, ◌++◌, length, get_or, take, drop, refl, sym, ap, ◌∙◌, subst, arith, append_assoc, length-append, take-append-drop, codes, one-add, ◌⊎◌, inl, inr}
use Rattle.std.specs.Prelude.{◌==◌, ◌||◌, not, Some, if◌then◌else◌}
use Rattle.std.specs.List.{prefix_len}
use Rattle.std.proofs.lemmas.Bool.{false≢true}
use Rattle.std.proofs.lemmas.Bool.Decides.{nat_tests}
use Rattle.std.proofs.Math.ListN.{length-take}
use Rattle.std.proofs.lemmas.List.Sums.{prefix_len-le-length}
use Rattle.step_literals.specs.Bytes.{is_digit, is_word_byte, is_hex, Each, Stops}
use Rattle.step_literals.specs.Bytes as bytes
use Rattle.step_literals.specs.Tokens as literals
use Rattle.step_literals.specs.Tokens.{IsKeyword, IsDigits, is_sign, IsSign}
use Rattle.step_literals.specs.Strings.{begins_with}
use Rattle.step_literals.proofs.Runs.{run_fits, run_at_prefix, front_back, cut_unique}
use Rattle.step_literals.proofs.Runs as runs
use Rattle.step_literals.proofs.Longest.{sign_no_digit}
use Rattle.step_literals.proofs.CleanLemmas.{begins_yes, begins_split}
use Rattle.express_lexer.specs.declared.marks.Mark.{Mark}
use Rattle.express_lexer.specs.Marks.{mark_text, IsLongestMark, NoMark}
use Rattle.express_lexer.specs.Tokens.{TokenKind, word, integer, real, string, encoded, binary, mark, is_letter, is_bit, IsWord, Spells, Allows, IsNext, NoneAt}
use Rattle.express_lexer.proofs.MarkLemmas.{each_mark}
use Rattle.express_lexer.proofs.Groups.{words, numbers, apostrophe, quote, percent, others, group, group_of, group_at, next_of, none_of, group_first, digit_numbers, mark_some}

letter_in_word : (b : ℕ) → is_letter b ≡ true → is_word_byte b ≡ true
letter_in_word b h = grind (arith, nat_tests)

word_each : (t : List ℕ) → IsWord t → Each is_word_byte t
word_each [] h = absurd h
word_each (b ∷ bs) h = (letter_in_word b h.0, h.1)

letter_of_both : (b : ℕ) → is_letter b ≡ true → bytes.is_letter b ≡ true
letter_of_both b h = grind (arith, nat_tests)

-- a word is a keyword of the exchange structure
pub word_is_keyword : (t : List ℕ) → IsWord t → IsKeyword t
word_is_keyword [] h = absurd h
word_is_keyword (b ∷ bs) h = (letter_of_both b h.0, h.1)

-- a run that begins with a letter is a word
pub word_run : (l : List ℕ) → is_letter (get_or l 0 0) ≡ true → IsWord (take (prefix_len is_word_byte l) l)
word_run [] h = absurd (false≢true h)
word_run (b ∷ bs) h = rw (letter_in_word b h, one-add) (h, (run_at_prefix is_word_byte bs).passes)

longest_word : (t after : List ℕ) → Stops is_word_byte after → (j : TokenKind) (other rest : List ℕ) → group j ≡ words
    → Allows j other rest → other ++ rest ≡ t ++ after → length other ≤ length t
longest_word t after stop word other rest g a e = run_fits is_word_byte other t rest after (word_each other a) stop e
longest_word t after stop _ other rest g a e = absurd (cc)

pub next_word : (l : List ℕ) → is_letter (get_or l 0 0) ≡ true → IsNext word (take (prefix_len is_word_byte l) l)
    (drop (prefix_len is_word_byte l) l)
next_word l h = let n = prefix_len is_word_byte l in next_of word (take n l) (drop n l) (word_run l h)
    (longest_word (take n l) (drop n l) (run_at_prefix is_word_byte l).stops)

-- numbers are those of the exchange structure that have no sign
integer_literal : (t : List ℕ) → IsDigits t → literals.Spells literals.integer t
integer_literal t h = ([], t, tt, h, refl)

real_literal : (t : List ℕ) → Spells real t → literals.Spells literals.real t
real_literal t h = ([], h.0, h.1, h.2, tt, h.3, h.4, h.5, h.6)

no_sign : (sign tail : List ℕ) → IsSign sign → is_digit (get_or (sign ++ tail) 0 0) ≡ true → sign ≡ []
no_sign [] tail h d = refl
no_sign (x ∷ []) tail h d = absurd (false≢true (sym (sign_no_digit x h) ∙ d))
no_sign (x ∷ y ∷ ys) tail h d = absurd h

unsigned_integer : (l t after : List ℕ) → l ≡ t ++ after → is_digit (get_or l 0 0) ≡ true
    → literals.Spells literals.integer t → IsDigits t
unsigned_integer l t after e d h =
    let tail = h.1 ++ after in
    let split : l ≡ h.0 ++ tail = e ∙ ap (λ x. x ++ after) h.4 ∙ append_assoc h.0 h.1 after in
    let bare : h.0 ≡ [] = no_sign h.0 tail h.2 (rw split at d) in
    subst IsDigits (sym (h.4 ∙ ap (λ s. s ++ h.1) bare)) h.3

unsigned_real : (l t after : List ℕ) → l ≡ t ++ after → is_digit (get_or l 0 0) ≡ true → literals.Spells literals.real t
    → Spells real t
unsigned_real l t after e d h =
    let tail = h.1 ++ (46 ∷ (h.2 ++ (h.3 ++ after))) in
    let split : l ≡ h.0 ++ tail = e ∙ (simp append_assoc at (ap (λ x. x ++ after) h.8)) in
    let bare : h.0 ≡ [] = no_sign h.0 tail h.4 (rw split at d) in
    (h.1, h.2, h.3, h.5, h.6, h.7, h.8 ∙ ap (λ s. s ++ h.1 ++ 46 ∷ h.2 ++ h.3) bare)

some_first : (l : List ℕ) → is_digit (get_or l 0 0) ≡ true → 0 < length l
some_first [] h = absurd (false≢true h)
some_first (b ∷ bs) h = omega arith

module _ (l : List ℕ) (first : is_digit (get_or l 0 0) ≡ true) where
  numbers_first : group_at l ≡ Some numbers
  numbers_first = group_first l numbers (some_first l first) (digit_numbers (get_or l 0 0) first)

  none_number_of : literals.NoneAt l → (j : TokenKind) (other rest : List ℕ) → group j ≡ numbers → Allows j other rest
      → other ++ rest ≡ l → ⊥
  none_number_of none integer other rest g a e = none literals.integer other rest (sym e) (integer_literal other a)
  none_number_of none real other rest g a e = none literals.real other rest (sym e) (real_literal other a)
  none_number_of none _ other rest g a e = cc

  pub none_number : literals.NoneAt l → NoneAt l
  none_number none = none_of l numbers numbers_first (none_number_of none)

  module _ (n : ℕ) where
    whole : l ≡ take n l ++ drop n l
    whole = sym (take-append-drop n l)

    longest_number : (k : literals.TokenKind) → literals.IsNext k (take n l) (drop n l)
        → (j : TokenKind) (other rest : List ℕ) → group j ≡ numbers → Allows j other rest → other ++ rest ≡ take n l
        ++ drop n l → length other ≤ length (take n l)
    longest_number k h integer other rest g a e = h.longest literals.integer other rest e (integer_literal other a)
    longest_number k h real other rest g a e = h.longest literals.real other rest e (real_literal other a)
    longest_number k h _ other rest g a e = absurd (cc)

    pub next_integer : literals.IsNext literals.integer (take n l) (drop n l) → IsNext integer (take n l) (drop n l)
    next_integer h = next_of integer (take n l) (drop n l) (unsigned_integer l (take n l) (drop n l) whole first
        h.allowed) (longest_number literals.integer h)

    pub next_real : literals.IsNext literals.real (take n l) (drop n l) → IsNext real (take n l) (drop n l)
    next_real h = next_of real (take n l) (drop n l) (unsigned_real l (take n l) (drop n l) whole first h.allowed)
        (longest_number literals.real h)

pub next_number : (l : List ℕ) (n : ℕ) (is_real : Bool) → is_digit (get_or l 0 0) ≡ true
    → literals.IsNext (if is_real then literals.real else literals.integer) (take n l) (drop n l)
    → IsNext integer (take n l) (drop n l) ⊎ IsNext real (take n l) (drop n l)
next_number l n true first h = inr (next_real l first n h)
next_number l n false first h = inl (next_integer l first n h)

pub first_at : (b : ℕ) (l : List ℕ) → take 1 l ≡ b ∷ [] → group_at l ≡ Some (group_of b)
first_at b l h = ap group_at (runs.begins_with b l (drop 1 l) h refl)

-- a string is one of the exchange structure
none_string_of : (l : List ℕ) → literals.NoneAt l → (j : TokenKind) (other rest : List ℕ) → group j ≡ apostrophe
    → Allows j other rest → other ++ rest ≡ l → ⊥
none_string_of l none string other rest g a e = none literals.string other rest (sym e) a
none_string_of l none _ other rest g a e = cc

pub none_string : (l : List ℕ) → take 1 l ≡ 39 ∷ [] → literals.NoneAt l → NoneAt l
none_string l first none = none_of l apostrophe (first_at 39 l first) (none_string_of l none)

longest_string : (t after : List ℕ) → literals.IsNext literals.string t after → (j : TokenKind) (other rest : List ℕ)
    → group j ≡ apostrophe → Allows j other rest → other ++ rest ≡ t ++ after → length other ≤ length t
longest_string t after h string other rest g a e = h.longest literals.string other rest e a
longest_string t after h _ other rest g a e = absurd (cc)

pub next_string : (t after : List ℕ) → literals.IsNext literals.string t after → IsNext string t after
next_string t after h = next_of string t after h.allowed (longest_string t after h)

module _ (l r : List ℕ) (first : take 1 l ≡ 34 ∷ []) (hr : r ≡ drop 1 l) where
  digits_of : List ℕ
  digits_of = take (prefix_len is_hex r) r

  behind : List ℕ
  behind = drop (prefix_len is_hex r) r

  -- the parts of an encoded string are what stands there
  parts : (digits rest : List ℕ) → Each is_hex digits → (34 ∷ digits ++ 34 ∷ []) ++ rest ≡ l → (digits ≡ digits_of)
      × (34 ∷ rest ≡ behind)
  unfolding digits_of behind
  parts digits rest h e =
      let run = run_at_prefix is_hex r in
      let q : 34 ∷ (digits ++ 34 ∷ rest) ≡ 34 ∷ r = ap (λ x. 34 ∷ x) (sym (append_assoc digits (34 ∷ []) rest)) ∙ e
      ∙ runs.begins_with 34 l r first hr in
      let t : digits ++ 34 ∷ rest ≡ r = cc in
      let cut = cut_unique is_hex digits (take (prefix_len is_hex r) r) (34 ∷ rest) (drop (prefix_len is_hex r) r) h
      run.passes refl run.stops (t ∙ sym (take-append-drop (prefix_len is_hex r) r)) in
      (cut.0, cut.1)

  counted : length digits_of ≡ prefix_len is_hex r
  unfolding digits_of
  counted = omega (arith, length-take (prefix_len is_hex r) r, prefix_len-le-length is_hex r)

  none_encoded_of : (prefix_len is_hex r % 8 ≡ 0 → begins_with (34 ∷ []) (drop (prefix_len is_hex r) r) ≡ true → ⊥)
      → (j : TokenKind) (other rest : List ℕ) → group j ≡ quote → Allows j other rest → other ++ rest ≡ l → ⊥
  unfolding behind
  none_encoded_of none encoded other rest g a e =
      let p = parts a.0 rest a.1 (ap (λ x. x ++ rest) (sym a.3) ∙ e) in
      none (ap (λ n. n % 8) (sym counted ∙ ap length (sym p.0)) ∙ a.2) (begins_yes (34 ∷ []) behind rest (sym p.1))
  none_encoded_of none _ other rest g a e = cc

  pub none_encoded : (prefix_len is_hex r % 8 ≡ 0 → begins_with (34 ∷ []) (drop (prefix_len is_hex r) r) ≡ true → ⊥)
      → NoneAt l
  none_encoded none = none_of l quote (first_at 34 l first) (none_encoded_of none)

  -- the encoded string that the code finds
  module _ (groups : prefix_len is_hex r % 8 ≡ 0) (closed : begins_with (34 ∷ []) (drop (prefix_len is_hex r) r) ≡ true)
    where
      token : List ℕ
      token = 34 ∷ digits_of ++ 34 ∷ []

      after : List ℕ
      after = drop 1 behind

      token_len : prefix_len is_hex r + 2 ≡ length token
      unfolding token
      token_len = omega (arith, counted, length-append digits_of (34 ∷ []))

      all : l ≡ token ++ after
      unfolding token after behind digits_of
      all =
          runs.begins_with 34 l r first hr ∙ ap (λ x. 34 ∷ x) (sym (take-append-drop (prefix_len is_hex r) r)
          ∙ ap (λ x. digits_of ++ x) (begins_split (34 ∷ []) behind closed)
          ∙ sym (append_assoc digits_of (34 ∷ []) (drop 1 behind)))

      longest_encoded : (j : TokenKind) (other rest : List ℕ) → group j ≡ quote → Allows j other rest → other
          ++ rest ≡ token ++ after → length other ≤ length token
      unfolding token
      longest_encoded encoded other rest g a e =
          let p = parts a.0 rest a.1 (ap (λ x. x ++ rest) (sym a.3) ∙ e ∙ sym all) in
          omega (arith, ap length a.3, ap length p.0, length-append a.0 (34 ∷ []), length-append digits_of (34 ∷ []))
      longest_encoded _ other rest g a e = absurd (cc)

      pub next_encoded : (prefix_len is_hex r + 2 ≤ length l) × IsNext encoded (take (prefix_len is_hex r + 2) l)
          (drop (prefix_len is_hex r + 2) l)
      unfolding token digits_of
      next_encoded =
          let own : Allows encoded token after = (
            digits_of,
            (run_at_prefix is_hex r).passes,
            ap (λ n. n % 8) counted
                ∙ groups,
            refl,
          ) in
          let cut = front_back l token after (prefix_len is_hex r + 2) all token_len in
          (cut.0, rw (cut.1, cut.2) (next_of encoded token after own longest_encoded))

module _ (l r : List ℕ) (first : take 1 l ≡ 37 ∷ []) (hr : r ≡ drop 1 l) where
  bits_first : (bits rest : List ℕ) → (37 ∷ bits) ++ rest ≡ l → bits ++ rest ≡ r
  bits_first bits rest e = let q : 37 ∷ (bits ++ rest) ≡ 37 ∷ r = e ∙ runs.begins_with 37 l r first hr in cc

  bits_fit : (bits rest : List ℕ) → Each is_bit bits → (37 ∷ bits) ++ rest ≡ l → length bits ≤ prefix_len is_bit r
  bits_fit bits rest h e =
      omega (
        arith,
        run_fits is_bit bits (take (prefix_len is_bit r) r) rest (drop (prefix_len is_bit r) r) h
            (run_at_prefix is_bit r).stops (bits_first bits rest e ∙ sym (take-append-drop (prefix_len is_bit r) r)),
        length-take (prefix_len is_bit r) r,
      )

  none_binary_of : prefix_len is_bit r ≡ 0 → (j : TokenKind) (other rest : List ℕ) → group j ≡ percent
      → Allows j other rest → other ++ rest ≡ l → ⊥
  none_binary_of zero binary other rest g a e = omega (
    arith,
    bits_fit a.0 rest a.2 (ap (λ x. x ++ rest) (sym a.3) ∙ e),
    a.1,
    zero,
  )
  none_binary_of zero _ other rest g a e = cc

  pub none_binary : prefix_len is_bit r ≡ 0 → NoneAt l
  none_binary zero = none_of l percent (first_at 37 l first) (none_binary_of zero)

  longest_binary : (t after : List ℕ) → l ≡ t ++ after → length t ≡ prefix_len is_bit r + 1
      → (j : TokenKind) (other rest : List ℕ) → group j ≡ percent → Allows j other rest → other ++ rest ≡ t ++ after
      → length other ≤ length t
  longest_binary t after whole len binary other rest g a e =
      omega (arith, bits_fit a.0 rest a.2 (ap (λ x. x ++ rest) (sym a.3) ∙ e ∙ sym whole), ap length a.3, len)
  longest_binary t after whole len _ other rest g a e = absurd (cc)

  -- the binary that the code finds
  pub next_binary : (prefix_len is_bit r ≡ 0 → ⊥) → (prefix_len is_bit r + 1 ≤ length l)
      × IsNext binary (take (prefix_len is_bit r + 1) l) (drop (prefix_len is_bit r + 1) l)
  next_binary some =
      let n = prefix_len is_bit r in
      let t = 37 ∷ take n r in
      let after = drop n r in
      let len : length (take n r) ≡ n = omega (arith, length-take n r, prefix_len-le-length is_bit r) in
      let whole : l ≡ t ++ after = runs.begins_with 37 l r first hr ∙ ap (λ x. 37 ∷ x) (sym (take-append-drop n r)) in
      let own : Allows binary t after = (take n r, omega (arith, len, some), (run_at_prefix is_bit r).passes, refl) in
      let cut = front_back l t after (n + 1) whole (omega (arith, len)) in
      (cut.0, rw (cut.1, cut.2) (next_of binary t after own (longest_binary t after whole (omega (arith, len)))))

one_byte : (b : ℕ) (t : List ℕ) → get_or t 0 0 ≡ b → length t ≡ 1 → t ≡ b ∷ []
one_byte b [] h len = absurd (omega (arith, len))
one_byte b (x ∷ []) h len = ap (λ c. c ∷ []) h
one_byte b (x ∷ y ∷ ys) h len = absurd (omega (arith, len))

-- the mark that begins with `(` is `(`
abbrev opens_alone : Mark → Bool
opens_alone m = not (get_or (mark_text m) 0 0 == 40) || length (mark_text m) == 1

alone : (b n : ℕ) → (not (b == 40) || n == 1) ≡ true → b ≡ 40 → n ≡ 1
alone b n h e = grind (arith, nat_tests)

opening : (m : Mark) → get_or (mark_text m) 0 0 ≡ 40 → mark_text m ≡ codes "("
opening m h = one_byte 40 (mark_text m) h (alone (get_or (mark_text m) 0 0) (length (mark_text m))
    (each_mark opens_alone refl m) h)

mark_head : (m : Mark) (t rest more : List ℕ) (b : ℕ) → t ≡ mark_text m → t ++ rest ≡ b ∷ more
    → get_or (mark_text m) 0 0 ≡ b
mark_head m [] rest more b h e = absurd (omega (arith, ap length h, mark_some m))
mark_head m (x ∷ xs) rest more b h e = let q : x ≡ b = cc in ap (λ l. get_or l 0 0) (sym h) ∙ q

not_star : (x : ℕ) (xs : List ℕ) (t : Bool) → (x == 42) ≡ t → begins_with (codes "(*") (40 ∷ x ∷ xs) ≡ false → t ≡ false
not_star x xs false e h = refl
not_star x xs true e h =
    let q : x ≡ 42 = grind (arith, nat_tests) in
    absurd (false≢true (sym h ∙ begins_yes (codes "(*") (40 ∷ x ∷ xs) xs (ap (λ b. 40 ∷ b ∷ xs) q)))

no_star : (l after : List ℕ) → l ≡ 40 ∷ after → begins_with (codes "(*") l ≡ false → Stops (λ b. b == 42) after
no_star l [] e h = tt
no_star l (x ∷ xs) e h = not_star x xs (x == 42) refl (rw e at h)

star_behind : (other rest more : List ℕ) → other ≡ codes "(" → other ++ rest ≡ 40 ∷ 42 ∷ more
    → Stops (λ b. b == 42) rest → ⊥
star_behind other rest more h e stop =
    let q : 40 ∷ rest ≡ 40 ∷ 42 ∷ more = ap (λ x. x ++ rest) (sym h) ∙ e in
    let r : rest ≡ 42 ∷ more = cc in
    false≢true (sym (subst (Stops (λ b. b == 42)) r stop))

module _ (l : List ℕ) (first : group_at l ≡ Some others) where
  none_mark_of : NoMark l → (j : TokenKind) (other rest : List ℕ) → group j ≡ others → Allows j other rest → other
      ++ rest ≡ l → ⊥
  none_mark_of none mark other rest g a e = false≢true (sym (none a.0.0) ∙ begins_yes (mark_text a.0.0) l rest
      (sym e ∙ ap (λ x. x ++ rest) a.0.1))
  none_mark_of none _ other rest g a e = cc

  pub none_mark : NoMark l → NoneAt l
  none_mark none = none_of l others first (none_mark_of none)

  none_open_of : (more : List ℕ) → l ≡ 40 ∷ 42 ∷ more → (j : TokenKind) (other rest : List ℕ) → group j ≡ others
      → Allows j other rest → other ++ rest ≡ l → ⊥
  none_open_of more h mark other rest g a e =
      let bracket : other ≡ codes "(" = a.0.1 ∙ opening a.0.0 (mark_head a.0.0 other rest (42 ∷ more) 40 a.0.1 (e ∙ h))
      in
      star_behind other rest more bracket (e ∙ h) (a.1 bracket)
  none_open_of more h _ other rest g a e = cc

  -- where a remark isn't ended, no token stands
  pub none_open : begins_with (codes "(*") l ≡ true → NoneAt l
  none_open h = none_of l others first (none_open_of (drop 2 l) (begins_split (codes "(*") l h))

  longest_of : (m : Mark) → IsLongestMark l m → (t after : List ℕ) → t ≡ mark_text m → l ≡ t ++ after
      → (j : TokenKind) (other rest : List ℕ) → group j ≡ others → Allows j other rest → other ++ rest ≡ t ++ after
      → length other ≤ length t
  longest_of m h t after ht whole mark other rest g a e =
      let fits = h.longest a.0.0 (begins_yes (mark_text a.0.0) l rest (whole ∙ sym e ∙ ap (λ x. x ++ rest) a.0.1)) in
      omega (arith, fits, ap length a.0.1, ap length ht)
  longest_of m h t after ht whole _ other rest g a e = absurd (cc)

  -- the mark that the code finds
  pub next_mark : (m : Mark) → begins_with (codes "(*") l ≡ false → IsLongestMark l m
      → (length (mark_text m) ≤ length l) × IsNext mark (take (length (mark_text m)) l) (drop (length (mark_text m)) l)
      × (mark_text m ≡ take (length (mark_text m)) l)
  next_mark m bare h =
      let n = length (mark_text m) in
      let whole : l ≡ mark_text m ++ drop n l = begins_split (mark_text m) l h.stands in
      let own : Allows mark (mark_text m) (drop n l) =
      ((m, refl), λ e. no_star l (drop n l) (whole ∙ ap (λ x. x ++ drop n l) e) bare) in
      let cut = front_back l (mark_text m) (drop n l) n whole refl in (
        cut.0,
        rw cut.1 (next_of mark (mark_text m) (drop n l) own (longest_of m h (mark_text m) (drop n l) refl whole)),
        sym cut.1,
      )
