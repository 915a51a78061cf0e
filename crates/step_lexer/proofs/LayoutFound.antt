-- The layout at the front of a text is found.
use Rattle.std.proofs.Common.{◌≡◌, ℕ, zero, suc, ◌+◌, ◌≤◌, ◌<◌, List, [], ◌∷◌, ◌++◌, length, get_or, take, drop, refl, sym, ap, ◌∙◌, arith, append_assoc, take-append-drop, length-drop, codes, subst, ◌⊎◌, inl, inr}
use Rattle.std.proofs.lemmas.Bool.{cases_eq, cases_lt}
use Rattle.memchr.specs.Find.{OccursAt, Nowhere, NoneBefore}
use Rattle.step_literals.specs.Tokens.{Says}
use Rattle.step_lexer.specs.Layout.{space, new_line, form_feed, IsBlank, NoBlank, SkipsLayout}
use Rattle.step_literals.proofs.Runs.{front_back}
use Rattle.step_lexer.proofs.WordLemmas.{said_len}
use Rattle.step_lexer.proofs.LayoutLemmas.{star_slash, no_blank, not_opened, not_closed, comment_at, opens}
use Rattle.step_lexer.proofs.Closers.{no_blank_at_end}
use Rattle.step_literals.proofs.Choices.{Decided, says_or_not, first_below}

-- an asterisk and a slash stand here, or they don't
closes_or_not : (l : List ℕ) (k : ℕ) → Decided (OccursAt l star_slash k)
closes_or_not l k = by (cases_lt (length l) (k + 2)) (cases_eq (get_or l k 0) 42) (cases_eq (get_or l (k + 1) 0) 47)
  where
    by : (length l < k + 2) ⊎ (k + 2 ≤ length l) → Decided (get_or l k 0 ≡ 42) → Decided (get_or l (k + 1) 0 ≡ 47)
        → Decided (OccursAt l star_slash k)
    by (inl short) a b = inr (λ h. omega (arith, short, h.fits))
    by (inr fits) (inr a) b = inr (λ h. a (ap (λ n. get_or l n 0) {x = k} {y = k + 0} (omega arith)
        ∙ h.reads 0 (omega arith)))
    by (inr fits) (inl a) (inr b) = inr (λ h. b (h.reads 1 (omega arith)))
    by (inr fits) (inl a) (inl b) = inl (record { fits = fits; reads = reads })
      where
        reads : (j : ℕ) → j < 2 → get_or l (k + j) 0 ≡ get_or star_slash j 0
        reads zero h = ap (λ n. get_or l n 0) {x = k + 0} {y = k} (omega arith) ∙ a
        reads (suc zero) h = b
        reads (suc (suc j)) h = absurd (omega (arith, h))

-- the blank at the front, and its length
abbrev pub BlankAt : List ℕ → Type 0
BlankAt l = (n : ℕ) × (0 < n) × (n ≤ length l) × IsBlank (take n l)

-- a comment opens at the front
abbrev Opens : List ℕ → Type 0
Opens l = (2 ≤ length l) × (get_or l 0 0 ≡ 47) × (get_or l 1 0 ≡ 42)

opens_or_not : (l : List ℕ) → Decided (Opens l)
opens_or_not l = by (cases_lt (length l) 2) (cases_eq (get_or l 0 0) 47) (cases_eq (get_or l 1 0) 42)
  where
    by : (length l < 2) ⊎ (2 ≤ length l) → Decided (get_or l 0 0 ≡ 47) → Decided (get_or l 1 0 ≡ 42) → Decided (Opens l)
    by (inl short) a b = inr (λ h. omega (arith, short, h.0))
    by (inr fits) (inr a) b = inr (λ h. a h.1)
    by (inr fits) (inl a) (inr b) = inr (λ h. b h.2)
    by (inr fits) (inl a) (inl b) = inl (fits, a, b)

-- behind bytes that begin no space and no directive
module _ (l rest : List ℕ) (high : 32 < get_or l 0 0) (n : Says (codes "\\N\\") (take 3 l) → ⊥)
    (f : Says (codes "\\F\\") (take 3 l) → ⊥) where
  closed_or_not : l ≡ 47 ∷ 42 ∷ rest → ((k : ℕ) × NoneBefore (OccursAt rest star_slash) 0 (length rest + 1) k
      × OccursAt rest star_slash k) ⊎ Nowhere (OccursAt rest star_slash) 0 (length rest + 1) → BlankAt l ⊎ NoBlank l
  closed_or_not opened (inl k) = inl (let e = comment_at l rest k.0 opened (k.1, k.2) in (k.0 + 4, e.0, e.1, e.2))
  closed_or_not opened (inr none) = inr (no_blank l high n f (λ r more k e found. not_closed l rest r more k opened none
      e found))

  comment_or_none : rest ≡ drop 2 l → Decided (Opens l) → BlankAt l ⊎ NoBlank l
  comment_or_none e (inl c) = closed_or_not (opens l rest c.0 c.1 c.2 e)
      (first_below (OccursAt rest star_slash) (closes_or_not rest) (length rest + 1))
  comment_or_none e (inr c) = inr (no_blank l high n f (λ r more k e found. not_opened l r more k c e found))

blank_or_none : (l : List ℕ) → BlankAt l ⊎ NoBlank l
blank_or_none [] = inr no_blank_at_end
blank_or_none (b ∷ bs) = by (cases_lt 32 b) (says_or_not (codes "\\N\\") (take 3 (b ∷ bs)))
    (says_or_not (codes "\\F\\") (take 3 (b ∷ bs)))
  where
    by : (32 < b) ⊎ (b ≤ 32) → Decided (Says (codes "\\N\\") (take 3 (b ∷ bs)))
        → Decided (Says (codes "\\F\\") (take 3 (b ∷ bs))) → BlankAt (b ∷ bs) ⊎ NoBlank (b ∷ bs)
    by (inr low) n f = inl (1, omega arith, omega arith, (space, (b, low, refl)))
    by (inl high) (inl n) f = inl (3, omega arith, said_len 3 (codes "\\N\\") (b ∷ bs) refl n, (new_line, n))
    by (inl high) (inr n) (inl f) = inl (3, omega arith, said_len 3 (codes "\\F\\") (b ∷ bs) refl f, (form_feed, f))
    by (inl high) (inr n) (inr f) = comment_or_none (b ∷ bs) (drop 2 (b ∷ bs)) high n f refl (opens_or_not (b ∷ bs))

-- the layout at the front, and its length
abbrev pub LayoutAt : List ℕ → Type 0
LayoutAt l = (n : ℕ) × (n ≤ length l) × SkipsLayout l (drop n l)

-- a blank, and the layout behind it
behind_blank : (l : List ℕ) → (b : BlankAt l) → LayoutAt (drop b.0 l) → LayoutAt l
behind_blank l b m =
    let s = m.2 in
    let whole : l ≡ take b.0 l ++ drop b.0 l = sym (take-append-drop b.0 l) in
    let after = drop m.0 (drop b.0 l) in
    let split : l ≡ (take b.0 l ++ s.gap) ++ after = whole ∙ ap (λ x. take b.0 l ++ x) s.split
    ∙ sym (append_assoc (take b.0 l) s.gap after) in
    let cut = front_back l (take b.0 l ++ s.gap) after (length (take b.0 l ++ s.gap)) split refl in (
      length (take b.0 l ++ s.gap),
      cut.0,
      record {
        gap = take b.0 l ++ s.gap;
        layout = (take b.0 l ∷ s.layout.0, (b.3, s.layout.1), ap (λ x. take b.0 l ++ x) s.layout.2);
        split = split ∙ ap (λ x. (take b.0 l ++ s.gap) ++ x) (sym cut.2);
        whole = subst NoBlank (sym cut.2) s.whole;
      },
    )

layout_step : (l : List ℕ) → BlankAt l ⊎ NoBlank l → ((b : BlankAt l) → LayoutAt (drop b.0 l)) → LayoutAt l
layout_step l (inl b) behind = behind_blank l b (behind b)
layout_step l (inr none) behind = (
  0,
  omega arith,
  record {
    gap = [];
    layout = ([], tt, refl);
    split = refl;
    whole = none;
  },
)

layout_within : (n : ℕ) (l : List ℕ) → length l ≤ n → LayoutAt l
layout_within zero l h = layout_step l (blank_or_none l) (λ b. absurd (omega (arith, b.1, b.2, h)))
layout_within (suc n) l h = layout_step l (blank_or_none l)
    (λ b. layout_within n (drop b.0 l) (omega (arith, h, b.1, b.2, length-drop b.0 l)))

-- each text has its layout
pub layout_found : (l : List ℕ) → LayoutAt l
layout_found l = layout_within (length l) l (omega arith)
