-- Keywords.
use Rattle.std.proofs.Common.{◌≡◌, ℕ, true, List, [], ◌∷◌, length, get_or, take, drop, sym, ◌∙◌, subst, arith, one-add, append-nil, length-take, take-append-drop}
use Rattle.std.specs.List.{prefix_len}
use Rattle.std.proofs.lemmas.Bool.{false≢true}
use Rattle.std.proofs.lemmas.Bool.Decides.{nat_tests}
use Rattle.std.proofs.lemmas.List.{take_all}
use Rattle.std.proofs.lemmas.List.Sums.{prefix_len-le-length}
use Rattle.step_literals.specs.Bytes.{is_letter, is_word_byte, Each}
use Rattle.step_literals.specs.Tokens.{IsKeyword}
use Rattle.step_literals.proofs.Runs.{run_fits, run_at_prefix}

letter_in_word : (b : ℕ) → is_letter b ≡ true → is_word_byte b ≡ true
letter_in_word b h = grind (arith, nat_tests)

pub keyword_each : (t : List ℕ) → IsKeyword t → Each is_word_byte t
keyword_each [] h = absurd h
keyword_each (b ∷ bs) h = (letter_in_word b h.0, h.1)

-- a run that begins with a letter is a keyword
pub keyword_run : (l : List ℕ) → is_letter (get_or l 0 0) ≡ true → IsKeyword (take (prefix_len is_word_byte l) l)
keyword_run [] h = absurd (false≢true h)
keyword_run (b ∷ bs) h = rw (letter_in_word b h, one-add) (h, (run_at_prefix is_word_byte bs).passes)

-- all of a text is such a run
pub keyword_whole : (l : List ℕ) → is_letter (get_or l 0 0) ≡ true → prefix_len is_word_byte l ≡ length l → IsKeyword l
keyword_whole l h all = subst IsKeyword (take_all (prefix_len is_word_byte l) l (omega (arith, all))) (keyword_run l h)

-- a keyword is one run
pub keyword_len : (l : List ℕ) → IsKeyword l → prefix_len is_word_byte l ≡ length l
keyword_len l h =
    let n = prefix_len is_word_byte l in
    omega (
      arith,
      prefix_len-le-length is_word_byte l,
      length-take n l,
      run_fits is_word_byte l (take n l) [] (drop n l)
          (keyword_each l h) (run_at_prefix is_word_byte l).stops (append-nil l ∙ sym (take-append-drop n l)),
    )
