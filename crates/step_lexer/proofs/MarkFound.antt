-- A mark before which no layout stands.
use Rattle.std.proofs.Common.{◌≡◌, ℕ, zero, suc, ◌+◌, ◌≤◌, ◌<◌, List, [], ◌∷◌, length, get_or, take, drop, refl, sym, ap, ◌∙◌, subst, arith}
use Rattle.std.specs.Char.{to_ascii_lowercase}
use Rattle.step_lexer.specs.declared.token.Mark.{Mark}
use Rattle.step_lexer.specs.declared.token.Mark.TheVariants.{Open, Close, Comma, Semicolon, Equals, Dollar, Asterisk}
use Rattle.step_lexer.specs.declared.token.Sort.{Sort}
use Rattle.step_lexer.specs.declared.token.Sort.TheVariants as sorts
use Rattle.step_lexer.specs.declared.token.Token.{Token}
use Rattle.step_lexer.specs.Front.{mark_byte, IsFront}
use Rattle.step_lexer.specs.Layout.{NoBlank}
use Rattle.step_lexer.specs.Reading.{Reading, Takes}
use Rattle.step_lexer.proofs.FrontLemmas.{mark_front}
use Rattle.step_lexer.proofs.LayoutLemmas.{no_blank}

mark_high : (m : Mark) → 32 < mark_byte m
mark_high Open = omega arith
mark_high Close = omega arith
mark_high Comma = omega arith
mark_high Semicolon = omega arith
mark_high Equals = omega arith
mark_high Dollar = omega arith
mark_high Asterisk = omega arith

no_slash : (m : Mark) → mark_byte m ≡ 47 → ⊥
no_slash Open e = omega (arith, e)
no_slash Close e = omega (arith, e)
no_slash Comma e = omega (arith, e)
no_slash Semicolon e = omega (arith, e)
no_slash Equals e = omega (arith, e)
no_slash Dollar e = omega (arith, e)
no_slash Asterisk e = omega (arith, e)

no_backslash : (m : Mark) → to_ascii_lowercase (mark_byte m) ≡ 92 → ⊥
no_backslash Open e = omega (arith, e)
no_backslash Close e = omega (arith, e)
no_backslash Comma e = omega (arith, e)
no_backslash Semicolon e = omega (arith, e)
no_backslash Equals e = omega (arith, e)
no_backslash Dollar e = omega (arith, e)
no_backslash Asterisk e = omega (arith, e)

-- no blank begins with a mark
mark_no_blank : (l : List ℕ) (m : Mark) → 0 < length l → mark_byte m ≡ get_or l 0 0 → NoBlank l
mark_no_blank [] m some e = absurd (omega (arith, some))
mark_no_blank (b ∷ bs) m some e = no_blank (b ∷ bs) (subst (λ x. 32 < x) e (mark_high m))
    (λ h. no_backslash m (ap to_ascii_lowercase e ∙ (let q : to_ascii_lowercase b ≡ 92 = cc in q)))
    (λ h. no_backslash m (ap to_ascii_lowercase e ∙ (let q : to_ascii_lowercase b ≡ 92 = cc in q)))
    (λ r more k q found. no_slash m (e ∙ ap (λ x. get_or x 0 0) q))

-- the first byte that is left
pub first_left : (text : List ℕ) (n : ℕ) → get_or text n 0 ≡ get_or (drop n text) 0 0
first_left text zero = refl
first_left [] (suc n) = refl
first_left (b ∷ bs) (suc n) = first_left bs n

one_byte : (l : List ℕ) → 0 < length l → length (take 1 l) ≡ 1
one_byte [] some = absurd (omega (arith, some))
one_byte (b ∷ bs) some = refl

pub mark_taken : (old : Reading) (left : List ℕ) (t : Token) (m : Mark) (new : Reading) → old.place ≤ length old.text
    → left ≡ drop old.place old.text → 0 < length left → mark_byte m ≡ get_or left 0 0 → t.sort ≡ sorts.Mark m
    → t.place ≡ old.place → t.text.now ≡ take 1 left → new.text ≡ old.text → new.place ≡ old.place + 1 → Takes old t new
mark_taken old left t m new within l some e s p text nt np =
    let size : length t.text.now ≡ 1 = ap length text ∙ one_byte left some in
    let here : drop t.place old.text ≡ left = ap (λ k. drop k old.text) p ∙ sym l in
    record {
      reaches = record {
        within = subst (λ k. k ≤ length old.text) (sym p) within;
        layout = record {
          gap = [];
          layout = ([], tt, refl);
          split = sym l ∙ sym here;
          whole = subst NoBlank (sym here) (mark_no_blank left m some e);
        };
      };
      front = let P : List ℕ → Sort → ℕ → Type 0 = λ k x n. IsFront k x n in subst (λ k. P k t.sort (length t.text.now))
          (sym here) (subst (λ x. P left x (length t.text.now)) (sym s) (subst (λ n. P left (sorts.Mark m) n) (sym size)
          (mark_front left m some e)));
      text = text ∙ (λ i. take (sym size i) (sym here i));
      new_text = nt;
      new_place = np ∙ (λ i. sym p i + sym size i);
    }
