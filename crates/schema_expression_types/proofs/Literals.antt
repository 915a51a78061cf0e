-- Strings by their characters, and characters by their codes.
use Rattle.std.specs.Prelude.{◌≡◌, ◌<◌, ◌==◌, ◌∷◌, ◌++◌, [], ℕ, zero, suc, Bool, true, false, cond, List, length, get_or, take, drop, map}
use Rattle.std.proofs.Common.{refl, ap, sym, ◌∙◌, ◌-◌, arith}
use Rattle.std.proofs.lemmas.Bool.Decides.{nat_tests}
use Rattle.std.proofs.lemmas.List.{length-append}
use Rattle.std.proofs.Math.Seq.{take-append_seam}
use Rattle.std.proofs.Math.Nat.{ℕ_set}
use mathlib.Core.List.{is_set}
use Rattle.std.proofs.Math.Logic.{∥∥₁_elim}
use Rattle.step_literals.specs.Tokens.{doubled}
use Rattle.step_literals.specs.declared.literal.items.Item.{Item}
use Rattle.step_literals.specs.declared.literal.items.Item.TheVariants.{Code}
use Rattle.express_lexer.specs.Tokens.{Spells, string, encoded}
use Rattle.express_lexer.specs.DoubledApostrophes.{undoubled}
use Rattle.express_lexer.specs.Meanings.{simple_text, characters_of, encoded_text, codes_of}
use Rattle.express_syntax.specs.Trees.{text, codes_of_text}
use Rattle.schema_semantics.specs.Reasons.{IsString}
use Rattle.schema_expression_types.specs.steps.Characters.{AreBytes, AreCharacters}

-- what stands between the first byte and the last
abbrev middle : List ℕ → List ℕ
middle t = take (length (drop 1 t) - 1) (drop 1 t)

middle-is : (first last : ℕ) (t content : List ℕ) → t ≡ first ∷ content ++ last ∷ [] → middle t ≡ content
middle-is first last t content e =
    let l : length (content ++ last ∷ []) - 1 ≡ length content = omega (arith, length-append content (last ∷ [])) in
    ap middle e ∙ ap (λ n. take n (content ++ last ∷ [])) l ∙ take-append_seam content (last ∷ [])

undoubled-other : (b : ℕ) (bs : List ℕ) → (b == 39) ≡ false → undoubled (b ∷ bs) ≡ b ∷ undoubled bs
undoubled-other b [] h = refl
undoubled-other b (c ∷ bs) h = rw h refl

undoubled-one : (b : ℕ) (bs : List ℕ) (t : Bool) → (b == 39) ≡ t → undoubled (doubled bs) ≡ bs
    → undoubled (cond t (39 ∷ 39 ∷ doubled bs) (b ∷ doubled bs)) ≡ b ∷ bs
undoubled-one b bs true h rest = let e : b ≡ 39 = grind (arith, nat_tests) in rw e (ap (λ l. 39 ∷ l) rest)
undoubled-one b bs false h rest = undoubled-other b (doubled bs) h ∙ ap (λ l. b ∷ l) rest

undoubled-doubled : (bs : List ℕ) → undoubled (doubled bs) ≡ bs
undoubled-doubled [] = refl
undoubled-doubled (b ∷ bs) = undoubled-one b bs (b == 39) refl (undoubled-doubled bs)

-- the content of a string
plain-is : (t : List ℕ) → ∥ Spells string t ∥₁ → t ≡ simple_text (undoubled (middle t))
plain-is t s = ∥∥₁_elim s (is_set ℕ_set _ _) by
  where
    by : Spells string t → t ≡ simple_text (undoubled (middle t))
    by (content, e) =
        e ∙ ap simple_text (sym (ap undoubled (middle-is 39 39 t (doubled content) e) ∙ undoubled-doubled content))

encoded-is : (t : List ℕ) → ∥ Spells encoded t ∥₁ → t ≡ encoded_text (middle t)
encoded-is t s = ∥∥₁_elim s (is_set ℕ_set _ _) by
  where
    by : Spells encoded t → t ≡ encoded_text (middle t)
    by (digits, hex, whole, e) = e ∙ ap encoded_text (sym (middle-is 34 34 t digits e))

pub plain-characters : (t : List ℕ) (items : List Item) → ∥ Spells string t ∥₁
    → ((content : List ℕ) → t ≡ simple_text content → items ≡ characters_of content) → AreCharacters (text t) items
plain-characters t items s h cs = (forth, back)
  where
    forth : IsString (text t) cs → items ≡ map Code cs
    forth (content, e, q) = h content e ∙ q

    back : items ≡ map Code cs → IsString (text t) cs
    back q = let e = plain-is t s in (undoubled (middle t), e, sym (h (undoubled (middle t)) e) ∙ q)

pub encoded-characters : (t : List ℕ) (items : List Item) → ∥ Spells encoded t ∥₁
    → ((digits : List ℕ) → t ≡ encoded_text digits → items ≡ codes_of digits) → AreCharacters (codes_of_text t) items
encoded-characters t items s h cs = (forth, back)
  where
    forth : IsString (codes_of_text t) cs → items ≡ map Code cs
    forth (digits, e, q) = h digits e ∙ q

    back : items ≡ map Code cs → IsString (codes_of_text t) cs
    back q = let e = encoded-is t s in (middle t, e, sym (h (middle t) e) ∙ q)

-- a character without a code of 8 bits
pub no-bytes : (items : List Item) (i : ℕ) (d : Item) → i < length items
    → ((c : ℕ) → get_or items i d ≡ Code c → c < 256 → ⊥) → (cs : List ℕ) → AreBytes cs → items ≡ map Code cs → ⊥
no-bytes [] i d lt none cs h e = absurd (omega (arith, lt))
no-bytes (y ∷ ys) i d lt none [] h e = absurd (cc)
no-bytes (y ∷ ys) zero d lt none (c ∷ cs) h e = none c (cc) h.0
no-bytes (y ∷ ys) (suc i) d lt none (c ∷ cs) h e =
    let rest : ys ≡ map Code cs = cc in
    let less : i < length ys = omega (arith, lt) in no-bytes ys i d less none cs h.1 rest

-- codes determine
pub one-spelling : (cs ds : List ℕ) → map Code cs ≡ map Code ds → cs ≡ ds
one-spelling [] [] e = refl
one-spelling [] (d ∷ ds) e = absurd (cc)
one-spelling (c ∷ cs) [] e = absurd (cc)
one-spelling (c ∷ cs) (d ∷ ds) e =
    let first : c ≡ d = cc in
    let rest : map Code cs ≡ map Code ds = cc in λ i. first i ∷ one-spelling cs ds rest i
