-- Layout.
use Rattle.std.proofs.Common.{◌≡◌, ℕ, ◌+◌, ◌-◌, ◌≤◌, ◌<◌, List, [], ◌∷◌, ◌++◌, length, get_or, take, drop, refl, sym, ap, ◌∙◌, subst, arith, append_assoc, length-append, take-append-drop}
use Rattle.std.specs.List.{prefix_len}
use Rattle.std.proofs.Math.ListN.{length-take}
use Rattle.std.proofs.lemmas.List.Sums.{prefix_len-le-length}
use Rattle.step_literals.proofs.Runs.{front_back, run_at_prefix, cut_unique}
use Rattle.express_lexer.specs.Layout.{Blank, space, tail_remark, embedded_remark, AllowsBlank, IsBlank, NoBlank, AreBlanks, SkipsLayout, joined, in_line}
use Rattle.express_lexer.proofs.Remarks.{one_remark}

-- the tail remark that the code finds
pub tail_at : (l line : List ℕ) (n : ℕ) → l ≡ 45 ∷ 45 ∷ line → n ≡ prefix_len in_line line → (0 < 2 + n)
    × (2 + n ≤ length l) × IsBlank (take (2 + n) l) (drop (2 + n) l)
tail_at l line n e hn =
    let front = take n line in
    let back = drop n line in
    let run = run_at_prefix in_line line in
    let len : length front ≡ n = omega (arith, length-take n line, prefix_len-le-length in_line line, hn) in
    let cut = front_back l (45 ∷ 45 ∷ front) back (2 + n) (e ∙ ap (λ x. 45 ∷ 45 ∷ x) (sym (take-append-drop n line)))
    (omega (arith, len)) in
    let blank : IsBlank (45 ∷ 45 ∷ front) back = (tail_remark, (front, rw hn run.passes, rw hn run.stops, refl)) in
    (omega arith, cut.0, rw (cut.1, cut.2) blank)

-- layout of the rest is layout of all
abbrev pub Continues : List ℕ → List ℕ → Type 0
Continues bytes rest = (after : List ℕ) → SkipsLayout rest after → SkipsLayout bytes after

blank_first : (u next after : List ℕ) → IsBlank u next → SkipsLayout next after → SkipsLayout (u ++ next) after
blank_first u next after is h = record {
  blanks = u ∷ h.blanks;
  layout = (subst (IsBlank u) h.split is, h.layout);
  split = ap (λ l. u ++ l) h.split ∙ sym (append_assoc u (joined h.blanks) after);
  whole = h.whole;
}

pub one_more : (bytes rest next : List ℕ) (n : ℕ) → Continues bytes rest → IsBlank (take n rest) (drop n rest)
    → next ≡ drop n rest → Continues bytes next
one_more bytes rest next n go is hn after h =
    go after (subst (λ l. SkipsLayout l after) (take-append-drop n rest) (blank_first (take n rest) (drop n rest) after
    is (subst (λ l. SkipsLayout l after) hn h)))

pub skips_to : (bytes rest : List ℕ) (n : ℕ) → n ≡ length bytes - length rest → Continues bytes rest → NoBlank rest
    → SkipsLayout bytes (drop n bytes)
skips_to bytes rest n len go none =
    let h = go rest (record { blanks = []; layout = tt; split = refl; whole = none }) in
    let cut = front_back bytes (joined h.blanks) rest n h.split
    (omega (arith, len, ap length h.split, length-append (joined h.blanks) rest)) in
    rw cut.2 h

-- the first byte of a blank
pub blank_head : (k : Blank) (t r : List ℕ) → AllowsBlank k t r → elim k as (λ _. Type 0) [
  | space ↦ get_or (t ++ r) 0 0 ≤ 32
  | tail_remark ↦ get_or (t ++ r) 0 0 ≡ 45
  | embedded_remark ↦ get_or (t ++ r) 0
      0 ≡ 40
]
blank_head space t r h = omega (arith, ap (λ l. get_or (l ++ r) 0 0) h.2, h.1)
blank_head tail_remark t r h = ap (λ l. get_or (l ++ r) 0 0) h.3
blank_head embedded_remark t r h = ap (λ l. get_or (l ++ r) 0 0) h.2

-- two blanks that begin at one place are one
blank_unique : (k j : Blank) (t u r s : List ℕ) → AllowsBlank k t r → AllowsBlank j u s → t ++ r ≡ u ++ s → t ≡ u
blank_unique space space t u r s h g e =
    let a : h.0 ∷ r ≡ g.0 ∷ s = ap (λ l. l ++ r) (sym h.2) ∙ e ∙ ap (λ l. l ++ s) g.2 in
    let q : h.0 ≡ g.0 = cc in h.2 ∙ ap (λ b. b ∷ []) q ∙ sym g.2
blank_unique tail_remark tail_remark t u r s h g e =
    let a : 45 ∷ 45 ∷ (h.0 ++ r) ≡ 45 ∷ 45 ∷ (g.0 ++ s) = ap (λ l. l ++ r) (sym h.3) ∙ e ∙ ap (λ l. l ++ s) g.3 in
    let q : h.0 ++ r ≡ g.0 ++ s = cc in
    h.3 ∙ ap (λ l. 45 ∷ 45 ∷ l) (cut_unique in_line h.0 g.0 r s h.1 g.1 h.2 g.2 q).0 ∙ sym g.3
blank_unique embedded_remark embedded_remark t u r s h g e = one_remark t u r s h g e
blank_unique space tail_remark t u r s h g e =
    absurd (omega (arith, blank_head space t r h, blank_head tail_remark u s g, ap (λ l. get_or l 0 0) e))
blank_unique space embedded_remark t u r s h g e =
    absurd (omega (arith, blank_head space t r h, blank_head embedded_remark u s g, ap (λ l. get_or l 0 0) e))
blank_unique tail_remark space t u r s h g e =
    absurd (omega (arith, blank_head tail_remark t r h, blank_head space u s g, ap (λ l. get_or l 0 0) e))
blank_unique tail_remark embedded_remark t u r s h g e =
    absurd (omega (arith, blank_head tail_remark t r h, blank_head embedded_remark u s g, ap (λ l. get_or l 0 0) e))
blank_unique embedded_remark space t u r s h g e =
    absurd (omega (arith, blank_head embedded_remark t r h, blank_head space u s g, ap (λ l. get_or l 0 0) e))
blank_unique embedded_remark tail_remark t u r s h g e =
    absurd (omega (arith, blank_head embedded_remark t r h, blank_head tail_remark u s g, ap (λ l. get_or l 0 0) e))

-- layout that is taken whole leaves one rest
pub one_rest : (us vs : List (List ℕ)) (a b : List ℕ) → AreBlanks us a → AreBlanks vs b → joined us ++ a ≡ joined vs
    ++ b → NoBlank a → NoBlank b → a ≡ b
one_rest [] [] a b hu hv e na nb = e
one_rest [] (v ∷ vs) a b hu hv e na nb = absurd (na v (joined vs ++ b) (e ∙ append_assoc v (joined vs) b) hv.0)
one_rest (u ∷ us) [] a b hu hv e na nb = absurd (nb u (joined us ++ a) (sym e ∙ append_assoc u (joined us) a) hu.0)
one_rest (u ∷ us) (v ∷ vs) a b hu hv e na nb =
    let split : u ++ (joined us ++ a) ≡ v ++ (joined vs ++ b) = sym (append_assoc u (joined us) a) ∙ e
    ∙ append_assoc v (joined vs) b in
    let same : u ≡ v = blank_unique hu.0.0 hv.0.0 u v (joined us ++ a) (joined vs ++ b) hu.0.1 hv.0.1 split in
    let fu = front_back (u ++ (joined us ++ a)) u (joined us ++ a) (length u) refl refl in
    let fv = front_back (u ++ (joined us ++ a)) v (joined vs ++ b) (length u) split (ap length same) in
    one_rest us vs a b hu.1 hv.1 (sym fu.2 ∙ fv.2) na nb
