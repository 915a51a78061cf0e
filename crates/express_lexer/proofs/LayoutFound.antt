-- The layout at the front of a text is found.
use Rattle.std.proofs.Common.{◌≡◌, ℕ, zero, suc, ◌+◌, ◌≤◌, ◌<◌, true, false, List, [], ◌∷◌, ◌++◌, length, get_or, take, drop, refl, sym, ap, ◌∙◌, subst, arith, length-append, length-drop, codes, ◌⊎◌, inl, inr}
use Rattle.std.specs.List.{prefix_len}
use Rattle.std.proofs.lemmas.Bool.{false≢true, cases_Bool, cases_lt}
use Rattle.std.proofs.lemmas.List.{drop-drop}
use Rattle.step_literals.specs.Strings.{begins_with}
use Rattle.step_literals.proofs.CleanLemmas.{begins_yes, begins_split}
use Rattle.express_lexer.specs.Layout.{Blank, space, tail_remark, embedded_remark, AllowsBlank, IsBlank, NoBlank, SkipsLayout, in_line}
use Rattle.express_lexer.proofs.LayoutLemmas.{tail_at, one_more, blank_head}
use Rattle.express_lexer.proofs.RemarkFound.{RemarkAt, NoRemark, remark_or_none}

-- the blank at the front, and its length
abbrev pub BlankAt : List ℕ → Type 0
BlankAt l = (n : ℕ) × (0 < n) × (n ≤ length l) × IsBlank (take n l) (drop n l)

no_empty_blank : (k : Blank) (t after : List ℕ) → [] ≡ t ++ after → AllowsBlank k t after → ⊥
no_empty_blank space t after e h = omega (arith, ap length e, ap length h.2, length-append t after)
no_empty_blank tail_remark t after e h = omega (arith, ap length e, ap length h.3, length-append t after)
no_empty_blank embedded_remark t after e h = omega (arith, ap length e, ap length h.2, length-append t after)

module _ (l : List ℕ) (high : 32 < get_or l 0 0) where
  no_blank_of : begins_with (codes "--") l ≡ false → NoRemark l → (k : Blank) (t after : List ℕ) → l ≡ t ++ after
      → AllowsBlank k t after → ⊥
  no_blank_of dashes none space t after e h = omega (arith, high, blank_head space t after h, ap (λ x. get_or x 0 0) e)
  no_blank_of dashes none tail_remark t after e h = false≢true (sym dashes ∙ begins_yes (codes "--") l (h.0 ++ after)
      (e ∙ ap (λ x. x ++ after) h.3))
  no_blank_of dashes none embedded_remark t after e h = none t after e h

  -- behind a byte that is no space
  remark_or_no_blank : (begins_with (codes "--") l ≡ true) ⊎ (begins_with (codes "--") l ≡ false) → RemarkAt l
      ⊎ NoRemark l → BlankAt l ⊎ NoBlank l
  remark_or_no_blank (inl dashes) r =
      let line = drop 2 l in
      let n = prefix_len in_line line in
      let tail = tail_at l line n (begins_split (codes "--") l dashes) refl in
      inl (2 + n, tail.0, tail.1, tail.2)
  remark_or_no_blank (inr dashes) (inl r) = inl (r.0, omega (arith, r.1), r.2, (embedded_remark, r.3))
  remark_or_no_blank (inr dashes) (inr none) = inr (λ t after e h. no_blank_of dashes none h.0 t after e h.1)

blank_or_none : (l : List ℕ) → BlankAt l ⊎ NoBlank l
blank_or_none [] = inr (λ t after e h. no_empty_blank h.0 t after e h.1)
blank_or_none (b ∷ bs) = by (cases_lt 32 b)
  where
    by : (32 < b) ⊎ (b ≤ 32) → BlankAt (b ∷ bs) ⊎ NoBlank (b ∷ bs)
    by (inr low) = inl (1, omega arith, omega arith, (space, (b, low, refl)))
    by (inl high) = remark_or_no_blank (b ∷ bs) high (cases_Bool (begins_with (codes "--") (b ∷ bs)))
        (remark_or_none (b ∷ bs))

-- the layout at the front, and its length
abbrev pub LayoutAt : List ℕ → Type 0
LayoutAt l = (n : ℕ) × (n ≤ length l) × SkipsLayout l (drop n l)

-- a blank, and the layout behind it
behind_blank : (l : List ℕ) → (b : BlankAt l) → LayoutAt (drop b.0 l) → LayoutAt l
behind_blank l b m =
    let whole : SkipsLayout l (drop m.0 (drop b.0 l)) = one_more l l (drop b.0 l) b.0 (λ after h. h) b.3 refl
    (drop m.0 (drop b.0 l)) m.2 in
    (b.0 + m.0, omega (arith, b.2, m.1, length-drop b.0 l), subst (SkipsLayout l) (drop-drop m.0 b.0 l) whole)

layout_step : (l : List ℕ) → BlankAt l ⊎ NoBlank l → ((b : BlankAt l) → LayoutAt (drop b.0 l)) → LayoutAt l
layout_step l (inl b) behind = behind_blank l b (behind b)
layout_step l (inr none) behind = (0, omega arith, record { blanks = []; layout = tt; split = refl; whole = none })

layout_within : (n : ℕ) (l : List ℕ) → length l ≤ n → LayoutAt l
layout_within zero l h = layout_step l (blank_or_none l) (λ b. absurd (omega (arith, b.1, b.2, h)))
layout_within (suc n) l h = layout_step l (blank_or_none l)
    (λ b. layout_within n (drop b.0 l) (omega (arith, h, b.1, b.2, length-drop b.0 l)))

-- each text has its layout
pub layout_found : (l : List ℕ) → LayoutAt l
layout_found l = layout_within (length l) l (omega arith)
