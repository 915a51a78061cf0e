-- User-defined keywords, and the mark of a scope.
use Rattle.std.proofs.Common.{◌≡◌, ℕ, ◌+◌, ◌≤◌, ◌<◌, true, false, List, [], ◌∷◌, ◌++◌, length, get_or, take, drop, sym, ap, refl, ◌∙◌, arith, take-append-drop, codes}
use Rattle.std.specs.List.{prefix_len}
use Rattle.std.specs.Char.{to_ascii_lowercase}
use Rattle.std.proofs.lemmas.Bool.{false≢true}
use Rattle.std.proofs.lemmas.List.{length-map}
use Rattle.std.proofs.Math.ListN.{length-take}
use Rattle.std.proofs.lemmas.List.Sums.{prefix_len-le-length}
use Rattle.step_literals.specs.Bytes.{is_letter, is_word_byte, Stops}
use Rattle.step_literals.specs.Tokens.{TokenKind, user_defined, scope, IsKeyword, Says, Allows, IsNext}
use Rattle.step_lexer.specs.declared.token.Sort.TheVariants as sorts
use Rattle.step_literals.specs.declared.fault.Flaw.TheVariants.{BadToken}
use Rattle.step_lexer.specs.Front.{IsFront, IsFlawed}
use Rattle.step_literals.proofs.Runs.{begins_with, run_fits, run_at_prefix, front_back}
use Rattle.step_literals.proofs.Longest.{exclaim, ampersand, group, first_group, same_group}
use Rattle.step_literals.proofs.KeywordLemmas.{keyword_each, keyword_run}
use Rattle.step_lexer.proofs.WordLemmas.{taken, said_len}
use Rattle.step_lexer.proofs.FrontLemmas.{one_only}

longest_user : (w after : List ℕ) → Stops is_word_byte after → (k : TokenKind) (other rest : List ℕ) → group k ≡ exclaim
    → Allows k other rest → other ++ rest ≡ 33 ∷ (w ++ after) → length other ≤ 1 + length w
longest_user w after stop user_defined other rest g a e =
    let q : 33 ∷ (a.0 ++ rest) ≡ 33 ∷ (w ++ after) = ap (λ l. l ++ rest) (sym a.2) ∙ e in
    let t : a.0 ++ rest ≡ w ++ after = cc in
    omega (arith, ap length a.2, run_fits is_word_byte a.0 w rest after (keyword_each a.0 a.1) stop t)
longest_user w after stop _ other rest g a e = absurd (cc)

pub next_user_defined : (w after : List ℕ) → IsKeyword w → Stops is_word_byte after → IsNext user_defined (33 ∷ w) after
next_user_defined w after h stop =
    let own : Allows user_defined (33 ∷ w) after = (w, h, refl) in
    record {
      allowed = own;
      longest = λ k other rest e a. omega (
        arith,
        longest_user w after stop k other rest
            (same_group user_defined k (33 ∷ w) after other rest own a e) a e,
      );
    }

no_letter_at : (l w rest : List ℕ) → (0 < length l → is_letter (get_or l 0 0) ≡ false) → IsKeyword w → w ++ rest ≡ l → ⊥
no_letter_at l [] rest h k e = k
no_letter_at [] (x ∷ xs) rest h k e = cc
no_letter_at (y ∷ ys) (x ∷ xs) rest h k e = let q : x ≡ y = cc in
    false≢true (sym (h (omega arith)) ∙ ap is_letter (sym q) ∙ k.0)

user_none_of : (l : List ℕ) → (0 < length l → is_letter (get_or l 0 0) ≡ false) → (k : TokenKind) (other rest : List ℕ)
    → group k ≡ exclaim → Allows k other rest → 33 ∷ l ≡ other ++ rest → ⊥
user_none_of l bare user_defined other rest g a e =
    let q : 33 ∷ (a.0 ++ rest) ≡ 33 ∷ l = ap (λ x. x ++ rest) (sym a.2) ∙ sym e in
    let t : a.0 ++ rest ≡ l = cc in
    no_letter_at l a.0 rest bare a.1 t
user_none_of l bare _ other rest g a e = cc

-- where no letter follows, no user-defined keyword stands
pub user_none_at : (l r : List ℕ) → take 1 l ≡ 33 ∷ [] → r ≡ drop 1 l
    → (0 < length r → is_letter (get_or r 0 0) ≡ false) → IsFlawed l BadToken 0
user_none_at l r h hr bare = (
  (λ k other rest e a.
      let whole : 33 ∷ r ≡ other ++ rest = sym (begins_with 33 l r h hr) ∙ e in
      user_none_of r bare k other rest (let p = first_group k other rest (33 ∷ r) a (sym whole) in cc) a whole),
  (λ g. omega (arith, one_only 33 39 l h g)),
  refl,
)

-- the user-defined keyword that the code finds
pub user_at : (l r w : List ℕ) (n : ℕ) → take 1 l ≡ 33 ∷ [] → r ≡ drop 1 l → n ≡ prefix_len is_word_byte r
    → w ≡ take n r → is_letter (get_or r 0 0) ≡ true
    → (1 + n ≤ length l) × IsNext user_defined (take (1 + n) l) (drop (1 + n) l) × (33 ∷ w ≡ take (1 + n) l)
user_at l r w n h hr hn hw letter =
    let run = run_at_prefix is_word_byte r in
    let word : IsKeyword (take n r) = rw hn (keyword_run r letter) in
    let stop : Stops is_word_byte (drop n r) = rw hn run.stops in
    let whole : l ≡ (33 ∷ take n r) ++ drop n r = begins_with 33 l r h hr
    ∙ ap (λ x. 33 ∷ x) (sym (take-append-drop n r)) in
    let cut = front_back l (33 ∷ take n r) (drop n r) (1 + n) whole
    (omega (arith, length-take n r, prefix_len-le-length is_word_byte r, hn)) in
    (cut.0, rw (cut.1, cut.2) (next_user_defined (take n r) (drop n r) word stop), ap (λ x. 33 ∷ x) hw ∙ sym cut.1)

longest_scope : (t after : List ℕ) → Says (codes "&SCOPE") t → (k : TokenKind) (other rest : List ℕ)
    → group k ≡ ampersand → Allows k other rest → length other ≤ length t
longest_scope t after h scope other rest g a = omega (
  arith,
  ap length h,
  ap length a,
  length-map t to_ascii_lowercase,
  length-map other to_ascii_lowercase,
)
longest_scope t after h _ other rest g a = absurd (cc)

pub next_scope : (t after : List ℕ) → Says (codes "&SCOPE") t → IsNext scope t after
next_scope t after h = record {
  allowed = h;
  longest = λ k other rest e a. longest_scope t after h k other rest
      (same_group scope k t after other rest h a e) a;
}

scope_none_of : (l : List ℕ) → (Says (codes "&SCOPE") (take 6 l) → ⊥) → (k : TokenKind) (other rest : List ℕ)
    → group k ≡ ampersand → Allows k other rest → l ≡ other ++ rest → ⊥
scope_none_of l unsaid scope other rest g a e = unsaid (taken 6 (codes "&SCOPE") l other rest refl a (sym e))
scope_none_of l unsaid _ other rest g a e = cc

pub scope_none_at : (l : List ℕ) → take 1 l ≡ 38 ∷ [] → (Says (codes "&SCOPE") (take 6 l) → ⊥) → IsFlawed l BadToken 0
scope_none_at l h unsaid = (
  (λ k other rest e a.
      let whole : l ≡ 38 ∷ drop 1 l = begins_with 38 l (drop 1 l) h refl in
      scope_none_of l unsaid k other rest (let p = first_group k other rest (38 ∷ drop 1 l) a (sym e ∙ whole) in cc) a
      e),
  (λ g. omega (arith, one_only 38 39 l h g)),
  refl,
)

pub scope_front : (l : List ℕ) → Says (codes "&SCOPE") (take 6 l) → IsFront l sorts.Scope 6
scope_front l h = record {
  within = said_len 6 (codes "&SCOPE") l refl h;
  next = next_scope (take 6 l) (drop 6 l) h;
  value = tt;
}

-- the word that the code finds
pub word_run : (r w : List ℕ) (n : ℕ) → n ≡ prefix_len is_word_byte r → w ≡ take n r → is_letter (get_or r 0 0) ≡ true
    → IsKeyword w
word_run r w n hn hw letter = rw (hw, hn) (keyword_run r letter)
