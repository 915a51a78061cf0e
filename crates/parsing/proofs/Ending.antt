-- A text that a lexer shows up to a last token is read, or the table stops in it.
use Rattle.std.proofs.Common.{◌≡◌, ℕ, zero, suc, ◌≤◌, ◌<◌, List, [], ◌∷◌, ◌++◌, refl, sym, ap, ◌∙◌, arith, append-nil, ◌⊎◌, inl, inr}
use Rattle.parsing.specs.Tables.{LocatedToken, lookaheads, Table, stops, run}
use Rattle.parsing.specs.Lexers.{ShowsAll}
use Rattle.parsing.specs.Languages.{IsViablePrefix, IsExact}
use Rattle.parsing.proofs.Lists.{passes_or_short}
use Rattle.parsing.proofs.Running.{reaches_run, passed, wants, Ends, ends}
use Rattle.parsing.proofs.Faults.{front_from}

-- what a lexer shows from here on, up to a last one
abbrev pub ShownTo : {R W : Type 0} → (R → LocatedToken W → R → Type 0) → (W → Type 0) → R → Type 0
ShownTo {R} {W} shows last old = (before : List (LocatedToken W)) × (at : LocatedToken W) × (new : R)
    × ShowsAll shows old (before ++ at ∷ []) new × last at.lookahead

-- what it shows next is a last one, or leaves less to be read
abbrev pub ShowsOne : {R W : Type 0} → (R → LocatedToken W → R → Type 0) → (W → Type 0) → (R → Type 0) → (R → ℕ) → R
    → Type 0
ShowsOne {R} {W} shows last fine size old = (t : LocatedToken W) × (new : R) × shows old t new
    × (last t.lookahead ⊎ (fine new × (size new < size old)))

module _ {R W : Type 0} (shows : R → LocatedToken W → R → Type 0) (last : W → Type 0) (fine : R → Type 0) (size : R → ℕ)
    (step : (old : R) → fine old → ShowsOne shows last fine size old) where
  shown_behind : (old : R) (t : LocatedToken W) (new : R) → shows old t new → last t.lookahead
      ⊎ (fine new × (size new < size old)) → (fine new → size new < size old → ShownTo shows last new)
      → ShownTo shows last old
  shown_behind old t new h (inl l) on = ([], t, new, (new, h, refl), l)
  shown_behind old t new h (inr g) on = let r = on g.0 g.1 in (t ∷ r.0, r.1, r.2, (new, h, r.3), r.4)

  shown_within : (n : ℕ) (old : R) → fine old → size old ≤ n → ShownTo shows last old
  shown_within zero old f le = let s = step old f in shown_behind old s.0 s.1 s.2 s.3
      (λ g less. absurd (omega (arith, less, le)))
  shown_within (suc n) old f le = let s = step old f in shown_behind old s.0 s.1 s.2 s.3
      (λ g less. shown_within n s.1 g (omega (arith, less, le)))

  -- so it comes to a last one
  pub shown_to_last : (old : R) → fine old → ShownTo shows last old
  shown_to_last old f = shown_within (size old) old f (omega arith)

-- the first of these tokens are a whole text
abbrev pub BeginsWhole : {W : Type 0} → (List W → Type 0) → List (LocatedToken W) → Type 0
BeginsWhole {W} L s = (taken rest : List (LocatedToken W)) × (s ≡ taken ++ rest) × L (lookaheads taken)

-- Tokens that are the front of a whole text only where they are one begin with a whole text, or the table stops in
-- them.
pub whole_or_stops : {S W K : Type 0} (table : Table S W K) (sort : S → Type 0) (start : List S) (L : List W → Type 0)
    → IsExact table sort start L → (s : List (LocatedToken W)) → (IsViablePrefix L (lookaheads s) → L (lookaheads s))
    → BeginsWhole L s ⊎ ((k : K) × (place : ℕ) × (run table start s ≡ stops k place))
whole_or_stops {S} {W} {K} table sort start L x s alone = by (ends (run table start s))
  where
    by : Ends (run table start s) → BeginsWhole L s ⊎ ((k : K) × (place : ℕ) × (run table start s ≡ stops k place))
    by (inl h) =
        let p = passed table s start h.0 h.1 in
        inl (
          p.taken,
          h.0,
          p.text,
          x.sound p.taken (ap (run table start) (sym (append-nil p.taken))
              ∙ reaches_run table p.taken start [] [] p.reached),
        )
    by (inr (inl h)) = inr h
    by (inr (inr e)) =
        let w = wants table s start e in
        absurd (passes_or_short (run table start s) []
        (x.passing s (alone (front_from table sort start L x s (w.0 ∷ w.1) w.2))) e)
