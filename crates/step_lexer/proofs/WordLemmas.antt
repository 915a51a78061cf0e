-- The longest token that begins with a letter.
use Rattle.std.proofs.Common.{◌≡◌, ℕ, ◌≤◌, List, [], ◌∷◌, ◌++◌, length, take, map, refl, sym, ap, ◌∙◌, arith, codes}
use Rattle.std.specs.Char.{to_ascii_lowercase}
use Rattle.std.proofs.lemmas.List.{length-map}
use Rattle.std.proofs.lemmas.Bool.{false≢true}
use Rattle.std.proofs.Math.ListN.{length-take}
use Rattle.step_literals.specs.Bytes.{is_word_byte, Each, Stops}
use Rattle.step_literals.specs.Tokens.{TokenKind, begins, ends, keyword, IsKeyword, Says, Allows, IsNext}
use Rattle.step_literals.proofs.Runs.{run_fits, front_back}
use Rattle.step_literals.proofs.Longest.{words, group, same_group, lower_dash, says_first}
use Rattle.step_literals.proofs.KeywordLemmas.{keyword_each}

-- no word goes past a dash
pub keyword_stops : (w tail t : List ℕ) (xs rest after : List ℕ) → map to_ascii_lowercase t ≡ w ++ 45 ∷ tail
    → Each is_word_byte xs → xs ++ rest ≡ t ++ after → length xs ≤ length w
keyword_stops [] tail [] xs rest after h each e = absurd (cc)
keyword_stops [] tail (y ∷ ys) [] rest after h each e = omega arith
keyword_stops [] tail (y ∷ ys) (x ∷ xs) rest after h each e =
    let dash : to_ascii_lowercase y ≡ 45 = cc in
    let q : x ≡ y = cc in
    absurd (false≢true (ap is_word_byte (sym (lower_dash y dash) ∙ sym q) ∙ each.0))
keyword_stops (c ∷ w) tail [] xs rest after h each e = absurd (cc)
keyword_stops (c ∷ w) tail (y ∷ ys) [] rest after h each e = omega arith
keyword_stops (c ∷ w) tail (y ∷ ys) (x ∷ xs) rest after h each e =
    let more : map to_ascii_lowercase ys ≡ w ++ 45 ∷ tail = cc in
    let q : xs ++ rest ≡ ys ++ after = cc in
    omega (arith, keyword_stops w tail ys xs rest after more each.1 q)

-- two texts at one place begin alike
heads : (c d : ℕ) (cs ds t u after rest : List ℕ) → map to_ascii_lowercase t ≡ c ∷ cs → map to_ascii_lowercase u ≡ d
    ∷ ds → u ++ rest ≡ t ++ after → c ≡ d
heads c d cs ds [] u after rest h g e = absurd (cc)
heads c d cs ds (x ∷ xs) u after rest h g e = sym (says_first c cs (x ∷ xs) after x (xs ++ after) h refl)
    ∙ says_first d ds u rest x (xs ++ after) g e

longest_begins : (t after : List ℕ) → Says (codes "ISO-10303-21") t → (k : TokenKind) (other rest : List ℕ)
    → group k ≡ words → Allows k other rest → other ++ rest ≡ t ++ after → length other ≤ length t
longest_begins t after h begins other rest g a e =
    omega (arith, ap length h, ap length a, length-map t to_ascii_lowercase, length-map other to_ascii_lowercase)
longest_begins t after h ends other rest g a e = let q = heads _ _ _ _ t other after rest h a e in
    absurd (omega (arith, q))
longest_begins t after h keyword other rest g a e =
    omega (
      arith,
      keyword_stops (105 ∷ 115 ∷ 111 ∷ []) _ t other rest after h (keyword_each other a) e,
      ap length h,
      length-map t to_ascii_lowercase,
    )
longest_begins t after h _ other rest g a e = absurd (cc)

pub next_begins : (t after : List ℕ) → Says (codes "ISO-10303-21") t → IsNext begins t after
next_begins t after h = record {
  allowed = h;
  longest = λ k other rest e a. longest_begins t after h k other rest
      (same_group begins k t after other rest h a e) a e;
}

longest_ends : (t after : List ℕ) → Says (codes "END-ISO-10303-21") t → (k : TokenKind) (other rest : List ℕ)
    → group k ≡ words → Allows k other rest → other ++ rest ≡ t ++ after → length other ≤ length t
longest_ends t after h ends other rest g a e = omega (
  arith,
  ap length h,
  ap length a,
  length-map t to_ascii_lowercase,
  length-map other to_ascii_lowercase,
)
longest_ends t after h begins other rest g a e = let q = heads _ _ _ _ t other after rest h a e in
    absurd (omega (arith, q))
longest_ends t after h keyword other rest g a e =
    omega (
      arith,
      keyword_stops (101 ∷ 110 ∷ 100 ∷ []) _ t other rest after h (keyword_each other a) e,
      ap length h,
      length-map t to_ascii_lowercase,
    )
longest_ends t after h _ other rest g a e = absurd (cc)

pub next_ends : (t after : List ℕ) → Says (codes "END-ISO-10303-21") t → IsNext ends t after
next_ends t after h = record {
  allowed = h;
  longest = λ k other rest e a. longest_ends t after h k other rest
      (same_group ends k t after other rest h a e) a e;
}

-- a text at the front is what stands there
pub taken : (n : ℕ) (word l other rest : List ℕ) → length word ≡ n → Says word other → other ++ rest ≡ l
    → Says word (take n l)
taken n word l other rest len h e =
    let same : length other ≡ n = omega (
      arith,
      ap length h,
      length-map other to_ascii_lowercase,
      length-map word to_ascii_lowercase,
      len,
    ) in
    let said : map to_ascii_lowercase other ≡ map to_ascii_lowercase word = h in
    let cut = front_back l other rest n (sym e) (sym same) in
    ap (map to_ascii_lowercase) cut.1 ∙ said

module _ (l t after : List ℕ) (split : l ≡ t ++ after) (word : IsKeyword t) (stops : Stops is_word_byte after)
    (no_begin : Says (codes "ISO-10303-21") (take 12 l) → ⊥) (no_end : Says (codes "END-ISO-10303-21") (take 16 l) → ⊥)
  where
    longest_keyword : (k : TokenKind) (other rest : List ℕ) → group k ≡ words → Allows k other rest → other ++ rest ≡ t
        ++ after → length other ≤ length t
    longest_keyword begins other rest g a e =
        absurd (no_begin (taken 12 (codes "ISO-10303-21") l other rest refl a (e ∙ sym split)))
    longest_keyword ends other rest g a e =
        absurd (no_end (taken 16 (codes "END-ISO-10303-21") l other rest refl a (e ∙ sym split)))
    longest_keyword keyword other rest g a e = run_fits is_word_byte other t rest after (keyword_each other a) stops e
    longest_keyword _ other rest g a e = absurd (cc)

    pub next_keyword : IsNext keyword t after
    next_keyword = record {
      allowed = word;
      longest = λ k other rest e a. longest_keyword k other rest
          (same_group keyword k t after other rest word a e) a e;
    }

pub said_len : (n : ℕ) (word l : List ℕ) → length word ≡ n → Says word (take n l) → n ≤ length l
said_len n word l len h = omega (
  arith,
  ap length h,
  length-map (take n l) to_ascii_lowercase,
  length-map word to_ascii_lowercase,
  length-take n l,
  len,
)
