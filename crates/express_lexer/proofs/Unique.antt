-- One token at most stands at a place.
use Rattle.std.proofs.Common.{◌≡◌, ℕ, List, [], ◌∷◌, ◌++◌, length, refl, sym, ◌∙◌, arith, append_assoc, append-nil, subst}
use Rattle.step_literals.specs.Bytes.{is_digit}
use Rattle.step_literals.specs.Tokens.{IsDigits}
use Rattle.step_literals.proofs.Runs.{cut_unique, front_back}
use Rattle.express_lexer.specs.Tokens.{TokenKind, word, integer, real, string, encoded, binary, mark, Spells, Allows, IsNext}
use Rattle.express_lexer.proofs.Groups.{group, same_group}

whole_no_real : (t : List ℕ) → IsDigits t → Spells real t → ⊥
whole_no_real t h r =
    let tail = 46 ∷ (r.1 ++ r.2) in
    let e : t ++ [] ≡ r.0 ++ tail = append-nil t ∙ r.6 ∙ append_assoc r.0 (46 ∷ r.1) r.2 in
    let cut = cut_unique is_digit t r.0 [] tail h.1 r.3.1 tt refl e in
    let q : [] ≡ tail = cut.1 in cc

kind_of_group : (k j : TokenKind) (t a : List ℕ) → Allows k t a → Allows j t a → group k ≡ group j → k ≡ j
kind_of_group word word t a h g e = refl
kind_of_group word _ t a h g e = absurd (cc)
kind_of_group integer integer t a h g e = refl
kind_of_group integer real t a h g e = absurd (whole_no_real t h g)
kind_of_group integer _ t a h g e = absurd (cc)
kind_of_group real real t a h g e = refl
kind_of_group real integer t a h g e = absurd (whole_no_real t g h)
kind_of_group real _ t a h g e = absurd (cc)
kind_of_group string string t a h g e = refl
kind_of_group string _ t a h g e = absurd (cc)
kind_of_group encoded encoded t a h g e = refl
kind_of_group encoded _ t a h g e = absurd (cc)
kind_of_group binary binary t a h g e = refl
kind_of_group binary _ t a h g e = absurd (cc)
kind_of_group mark mark t a h g e = refl
kind_of_group mark _ t a h g e = absurd (cc)

-- the longest token at a place is one
pub one_next : (k j : TokenKind) (t a u b : List ℕ) → IsNext k t a → IsNext j u b → t ++ a ≡ u ++ b → (k ≡ j) × (t ≡ u)
    × (a ≡ b)
one_next k j t a u b h g e =
    let len : length t ≡ length u = omega (arith, h.longest j u b (sym e) g.allowed, g.longest k t a e h.allowed) in
    let ft = front_back (t ++ a) t a (length u) refl (sym len) in
    let fu = front_back (t ++ a) u b (length u) e refl in
    let same : t ≡ u = sym ft.1 ∙ fu.1 in
    let rest : a ≡ b = sym ft.2 ∙ fu.2 in
    let other : Allows j t a = subst (λ (p : List ℕ × List ℕ). Allows j p.0 p.1) (λ i. (sym same i, sym rest i))
    g.allowed in
    (kind_of_group k j t a h.allowed other (same_group j k t a t a other h.allowed refl), same, rest)
