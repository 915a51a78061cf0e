-- One token at most stands at a place.
use Rattle.std.proofs.Common.{◌≡◌, ℕ, List, [], ◌∷◌, ◌++◌, length, refl, sym, ap, ◌∙◌, arith, append_assoc, codes, subst}
use Rattle.std.specs.Char.{to_ascii_lowercase}
use Rattle.std.proofs.lemmas.List.{length-map}
use Rattle.step_literals.specs.Bytes.{is_digit}
use Rattle.step_literals.specs.Tokens.{TokenKind, begins, ends, keyword, user_defined, scope, name, integer, real, element, string, binary, mark, Says, IsKeyword, Allows, IsNext}
use Rattle.step_literals.proofs.Runs.{cut_unique, front_back}
use Rattle.step_literals.proofs.Longest.{group, same_group}
use Rattle.step_literals.proofs.NumberLemmas.{sign_unique}
use Rattle.step_literals.proofs.KeywordLemmas.{keyword_each}
use Rattle.step_lexer.proofs.WordLemmas.{keyword_stops}

said_length : (word t : List ℕ) → Says word t → length t ≡ length word
said_length word t h = omega (arith, ap length h, length-map t to_ascii_lowercase, length-map word to_ascii_lowercase)

begin_keyword : (t : List ℕ) → Says (codes "ISO-10303-21") t → IsKeyword t → ⊥
begin_keyword t h k = omega (
  arith,
  keyword_stops (105 ∷ 115 ∷ 111 ∷ []) _ t t [] [] h (keyword_each t k) refl,
  said_length (codes "ISO-10303-21") t h,
)

end_keyword : (t : List ℕ) → Says (codes "END-ISO-10303-21") t → IsKeyword t → ⊥
end_keyword t h k = omega (
  arith,
  keyword_stops (101 ∷ 110 ∷ 100 ∷ []) _ t t [] [] h (keyword_each t k) refl,
  said_length (codes "END-ISO-10303-21") t h,
)

begin_end : (t : List ℕ) → Says (codes "ISO-10303-21") t → Says (codes "END-ISO-10303-21") t → ⊥
begin_end t h g = omega (arith, said_length (codes "ISO-10303-21") t h, said_length (codes "END-ISO-10303-21") t g)

whole_no_real : (t a : List ℕ) → Allows integer t a → Allows real t a → ⊥
whole_no_real t a i r =
    let tail = 46 ∷ (r.2 ++ (r.3 ++ [])) in
    let e : r.0 ++ (r.1 ++ tail) ≡ i.0 ++ (i.1 ++ []) = (simp append_assoc at (ap (λ l. l ++ []) (sym r.8)))
    ∙ ap (λ l. l ++ []) i.4 ∙ append_assoc i.0 i.1 [] in
    let u = sign_unique i.0 i.1 [] r.0 r.1 tail i.2 i.3 r.4 r.5 e in
    let c = cut_unique is_digit r.1 i.1 tail [] r.5.1 i.3.1 refl tt u.1 in
    let q : tail ≡ [] = c.1 in cc

kind_of_group : (k j : TokenKind) (t a : List ℕ) → Allows k t a → Allows j t a → group k ≡ group j → k ≡ j
kind_of_group begins begins t a h g e = refl
kind_of_group begins ends t a h g e = absurd (begin_end t h g)
kind_of_group begins keyword t a h g e = absurd (begin_keyword t h g)
kind_of_group begins _ t a h g e = absurd (cc)
kind_of_group ends ends t a h g e = refl
kind_of_group ends begins t a h g e = absurd (begin_end t g h)
kind_of_group ends keyword t a h g e = absurd (end_keyword t h g)
kind_of_group ends _ t a h g e = absurd (cc)
kind_of_group keyword keyword t a h g e = refl
kind_of_group keyword begins t a h g e = absurd (begin_keyword t g h)
kind_of_group keyword ends t a h g e = absurd (end_keyword t g h)
kind_of_group keyword _ t a h g e = absurd (cc)
kind_of_group user_defined user_defined t a h g e = refl
kind_of_group user_defined _ t a h g e = absurd (cc)
kind_of_group scope scope t a h g e = refl
kind_of_group scope _ t a h g e = absurd (cc)
kind_of_group name name t a h g e = refl
kind_of_group name _ t a h g e = absurd (cc)
kind_of_group integer integer t a h g e = refl
kind_of_group integer real t a h g e = absurd (whole_no_real t a h g)
kind_of_group integer _ t a h g e = absurd (cc)
kind_of_group real real t a h g e = refl
kind_of_group real integer t a h g e = absurd (whole_no_real t a g h)
kind_of_group real _ t a h g e = absurd (cc)
kind_of_group element element t a h g e = refl
kind_of_group element _ t a h g e = absurd (cc)
kind_of_group string string t a h g e = refl
kind_of_group string _ t a h g e = absurd (cc)
kind_of_group binary binary t a h g e = refl
kind_of_group binary _ t a h g e = absurd (cc)
kind_of_group mark mark t a h g e = refl
kind_of_group mark _ t a h g e = absurd (cc)

-- the longest token at a place is one
pub one_next : (k j : TokenKind) (t a u b : List ℕ) → IsNext k t a → IsNext j u b → t ++ a ≡ u ++ b → (k ≡ j) × (t ≡ u)
    × (a ≡ b)
one_next k j t a u b h g e =
    let len : length t ≡ length u = omega (arith, h.longest j u b (sym e) g.allowed, g.longest k t a e h.allowed) in
    let ft = front_back (t ++ a) t a (length u) refl (sym len) in
    let fu = front_back (t ++ a) u b (length u) e refl in
    let same : t ≡ u = sym ft.1 ∙ fu.1 in
    let rest : a ≡ b = sym ft.2 ∙ fu.2 in
    let other : Allows j t a = subst (λ (p : List ℕ × List ℕ). Allows j p.0 p.1) (λ i. (sym same i, sym rest i))
    g.allowed in
    (kind_of_group k j t a h.allowed other (same_group j k t a t a other h.allowed refl), same, rest)
