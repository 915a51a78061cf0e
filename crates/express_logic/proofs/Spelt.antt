-- What literals of a schema say, by their spelling.
use Rattle.std.proofs.Common.{◌≡◌, ◌≤◌, ℕ, ◌-◌, ◌==◌, Bool, true, false, cond, List, [], ◌∷◌, ◌++◌, length, take, drop, refl, sym, ap, ◌∙◌, arith, length-append}
use Rattle.std.proofs.lemmas.Bool.Decides.{nat_tests}
use mathlib.Core.List.{is_set}
use Rattle.std.proofs.Math.Nat.{ℕ_set}
use Rattle.std.proofs.Math.Logic.{∥∥₁_elim}
use Rattle.std.proofs.Math.Seq.{take-append_seam}
use Rattle.step_literals.specs.Tokens.{doubled}
use Rattle.step_literals.specs.Strings.{content_of}
use Rattle.express_lexer.specs.Tokens.{Spells, string, encoded, binary}
use Rattle.express_lexer.specs.DoubledApostrophes.{undoubled}
use Rattle.express_lexer.specs.Meanings.{simple_text, characters_of, encoded_text, codes_of}
use Rattle.express_logic.specs.Laws.{LiteralsSayTheirContent}

-- what stands between the first byte and the last
content_is : (first last : ℕ) (t content : List ℕ) → t ≡ first ∷ content ++ last ∷ [] → content_of t ≡ content
content_is first last t content e =
    let l : length (first ∷ content ++ last ∷ []) - 2 ≡ length content = omega (
      arith,
      length-append content (last ∷ []),
    ) in
    ap content_of e ∙ ap (λ n. take n (content ++ last ∷ [])) l ∙ take-append_seam content (last ∷ [])

-- doubled apostrophes, one by one
undoubled_other : (b : ℕ) (bs : List ℕ) → (b == 39) ≡ false → undoubled (b ∷ bs) ≡ b ∷ undoubled bs
undoubled_other b [] h = refl
undoubled_other b (c ∷ bs) h = rw h refl

undoubled_one : (b : ℕ) (bs : List ℕ) (t : Bool) → (b == 39) ≡ t → undoubled (doubled bs) ≡ bs
    → undoubled (cond t (39 ∷ 39 ∷ doubled bs) (b ∷ doubled bs)) ≡ b ∷ bs
undoubled_one b bs true h rest = let e : b ≡ 39 = grind (arith, nat_tests) in rw e (ap (λ l. 39 ∷ l) rest)
undoubled_one b bs false h rest = undoubled_other b (doubled bs) h ∙ ap (λ l. b ∷ l) rest

undoubled_doubled : (bs : List ℕ) → undoubled (doubled bs) ≡ bs
undoubled_doubled [] = refl
undoubled_doubled (b ∷ bs) = undoubled_one b bs (b == 39) refl (undoubled_doubled bs)

simple_content : (content : List ℕ) → undoubled (content_of (simple_text content)) ≡ content
simple_content content = ap undoubled (content_is 39 39 (simple_text content) (doubled content) refl)
    ∙ undoubled_doubled content

pub literals_say_content : LiteralsSayTheirContent
literals_say_content content = (
  ap characters_of (simple_content content),
  ap codes_of (content_is 34 34 (encoded_text content) content refl),
  refl,
)

-- a literal by its content
pub simple_is : (t : List ℕ) → ∥ Spells string t ∥₁ → t ≡ simple_text (undoubled (content_of t))
simple_is t s = ∥∥₁_elim s (is_set ℕ_set _ _) by
  where
    by : Spells string t → t ≡ simple_text (undoubled (content_of t))
    by (content, e) =
        e ∙ ap simple_text (sym (ap (λ l. undoubled (content_of l)) e ∙ simple_content content))

pub encoded_is : (t : List ℕ) → ∥ Spells encoded t ∥₁ → t ≡ encoded_text (content_of t)
encoded_is t s = ∥∥₁_elim s (is_set ℕ_set _ _) by
  where
    by : Spells encoded t → t ≡ encoded_text (content_of t)
    by (digits, hex, whole, e) = e ∙ ap encoded_text (sym (content_is 34 34 t digits e))

pub binary_is : (t : List ℕ) → ∥ Spells binary t ∥₁ → t ≡ 37 ∷ drop 1 t
binary_is t s = ∥∥₁_elim s (is_set ℕ_set _ _) by
  where
    by : Spells binary t → t ≡ 37 ∷ drop 1 t
    by (bits, some, are, e) = e ∙ ap (λ l. 37 ∷ drop 1 l) (sym e)
