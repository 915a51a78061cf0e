-- Runs of tokens, word by word: what the table lets pass is a run.
use Rattle.std.proofs.Common.{◌≡◌, ℕ, ◌+◌, ◌<◌, Bool, true, false, List, [], ◌∷◌, ◌++◌, length, nat_lt, Ok, refl, sym, ap, ◌∙◌, append_assoc, arith}
use Rattle.std.proofs.lemmas.Bool.{false≢true}
use Rattle.std.proofs.lemmas.Bool.Decides.{nat_tests}
use Rattle.express_lexer.specs.declared.marks.Mark.{Mark}
use Rattle.express_lexer.specs.declared.marks.Mark.TheVariants as marks
use Rattle.express_syntax.specs.Words.{Word, mark}
use Rattle.express_syntax.specs.Grammar.{depth_limit}
use Rattle.express_syntax.specs.Runs.{Bracket, parenthesis, square, brace, opening, closing, Run, ended, word, bracketed, words_of_run, inside, FitsRun}
use Rattle.express_syntax.specs.Texts.{token}
use Rattle.express_syntax.specs.steps.Predict.{RunEnd, in_rule, in_lower, in_upper, in_parentheses, Running, Next, ends_part, next_outside, next_mark, next_running, if_shallow}
use Rattle.express_token_runs.specs.steps.OpenRuns.{may_of, end_of, level, IsOpenRun}

-- one run behind another
abbrev pub behind : Run → Run → Run
behind ended s = s
behind (word w r) s = word w (behind r s)
behind (bracketed b inner r) s = bracketed b inner (behind r s)

spread : (b : Bracket) (u v x : List Word) → (u ++ closing b ∷ v) ++ x ≡ u ++ closing b ∷ (v ++ x)
spread b [] v x = refl
spread b (w ∷ u) v x = ap (λ l. w ∷ l) (spread b u v x)

pub words_behind : (r s : Run) → words_of_run (behind r s) ≡ words_of_run r ++ words_of_run s
words_behind ended s = refl
words_behind (word w r) s = ap (λ l. w ∷ l) (words_behind r s)
words_behind (bracketed b inner r) s =
    ap (λ l. opening b ∷ (words_of_run inner ++ closing b ∷ l)) (words_behind r s)
    ∙ sym (ap (λ l. opening b ∷ l) (spread b (words_of_run inner) (words_of_run r) (words_of_run s)))

pub fits_behind : (levels : ℕ) (may : Word → Bool) (n : ℕ) (r s : Run) → FitsRun levels may n r → FitsRun levels may n s
    → FitsRun levels may n (behind r s)
fits_behind levels may n ended s f g = g
fits_behind levels may n (word w r) s f g = (f.0, f.1, fits_behind levels may n r s f.2 g)
fits_behind levels may n (bracketed b inner r) s f g = (f.0, f.1, fits_behind levels may n r s f.2 g)

pub level_is : (n : ℕ) (inner : List Bracket) → level n inner ≡ n + length inner
level_is n [] = omega arith
level_is n (b ∷ inner) = omega (arith, level_is n inner)

-- a word in the innermost bracket, or in none
pub stays : (part : RunEnd) (n : ℕ) (inner : List Bracket) (u : List Word) (w : Word) → inside w ≡ true
    → (inner ≡ [] → may_of part w ≡ true) → IsOpenRun part n inner u → IsOpenRun part n inner (u ++ w ∷ [])
stays part n [] u w i m h = (
  behind h.0 (word w ended),
  fits_behind depth_limit (may_of part) n h.0 (word w ended) h.1 (i, m refl, tt),
  ap (λ l. l ++ w ∷ []) h.2 ∙ sym (words_behind h.0 (word w ended)),
)
stays part n (b ∷ inner) u w i m h = (
  h.0,
  behind h.1 (word w ended),
  h.2,
  h.3,
  fits_behind depth_limit inside (level n inner + 1) h.1 (word w ended) h.4 (i, i, tt),
  ap (λ l. l ++ w ∷ []) h.5 ∙ append_assoc h.0 (opening b ∷ words_of_run h.1) (w ∷ []) ∙ ap (λ l. h.0 ++ opening b ∷ l)
      (sym (words_behind h.1 (word w ended))),
)

pub opens : (part : RunEnd) (n : ℕ) (inner : List Bracket) (u : List Word) (b : Bracket) → level n inner < depth_limit
    → IsOpenRun part n inner u → IsOpenRun part n (b ∷ inner) (u ++ opening b ∷ [])
opens part n inner u b lt h = (u, ended, h, lt, tt, refl)

closed_words : (b : Bracket) (u v : List Word) (r : Run) → u ≡ v ++ opening b ∷ words_of_run r → u ++ closing b ∷ [] ≡ v
    ++ words_of_run (bracketed b r ended)
closed_words b u v r e = ap (λ l. l ++ closing b ∷ []) e ∙ append_assoc v (opening b ∷ words_of_run r) (closing b ∷ [])

pub closes : (part : RunEnd) (n : ℕ) (b : Bracket) (inner : List Bracket) (u : List Word) → IsOpenRun part n (b ∷ inner)
    u → IsOpenRun part n inner (u ++ closing b ∷ [])
closes part n b [] u h =
    let s : Run = bracketed b h.1 ended in (
      behind h.2.0 s,
      fits_behind depth_limit (may_of part) n h.2.0 s h.2.1 (h.3, h.4, tt),
      closed_words b u h.0 h.1 h.5
          ∙ ap (λ l. l ++ words_of_run s) h.2.2 ∙ sym (words_behind h.2.0 s),
    )
closes part n b (c ∷ inner) u h =
    let s : Run = bracketed b h.1 ended in
    let g = h.2 in (
      g.0,
      behind g.1 s,
      g.2,
      g.3,
      fits_behind depth_limit inside (level n inner + 1) g.1 s g.4 (h.3, h.4, tt),
      closed_words b u h.0 h.1 h.5 ∙ ap (λ l. l ++ words_of_run s) g.5 ∙ append_assoc g.0 (opening c ∷ words_of_run g.1)
          (words_of_run s) ∙ ap (λ l. g.0 ++ opening c ∷ l) (sym (words_behind g.1 s)),
    )

-- what a token is to a run, by the table's answer to it
abbrev pub Grown : RunEnd → ℕ → List Bracket → Bool → List Word → Word → Next → Type 0
Grown part n inner some u w (Ok []) = (inner ≡ []) × (w ≡ mark (end_of part)) × (some ≡ true)
Grown part n inner some u w (Ok (Running p m left s ∷ ys)) = IsOpenRun part n left (u ++ w ∷ [])
Grown part n inner some u w _ = Unit {0}

ends_is : (part : RunEnd) (m : Mark) → ends_part part m ≡ true → m ≡ end_of part
ends_is in_rule marks.Semicolon e = refl
ends_is in_lower marks.Colon e = refl
ends_is in_upper marks.CloseBracket e = refl
ends_is in_parentheses marks.Close e = refl
ends_is _ _ e = absurd (false≢true e)

may_stand : (part : RunEnd) (m : Mark) → ends_part part m ≡ false → may_of part (mark m) ≡ true
may_stand in_rule marks.Semicolon e = absurd (false≢true (sym e))
may_stand in_lower marks.Colon e = absurd (false≢true (sym e))
may_stand _ _ e = refl

grown_outside : (part : RunEnd) (n : ℕ) (u : List Word) (m : Mark) (ends some closes : Bool) → ends_part part m ≡ ends
    → (closes ≡ false → inside (mark m) ≡ true) → IsOpenRun part n [] u → Grown part n [] some u (mark m)
    (next_outside part n some closes m)
grown_outside part n u m true true closes e i h = rw e (refl, ap mark (ends_is part m e), refl)
grown_outside part n u m true false closes e i h = rw e tt
grown_outside part n u m false some true e i h = rw e tt
grown_outside part n u m false some false e i h = rw e (stays part n [] u (mark m) (i refl) (λ _. may_stand part m e) h)

grown_beside : (part : RunEnd) (n : ℕ) (inner : List Bracket) (some : Bool) (u : List Word) (m : Mark)
    → inside (mark m) ≡ true → IsOpenRun part n inner u → Grown part n inner some u (mark m)
    (next_mark part n inner some m)
grown_beside part n [] some u m i h = grown_outside part n u m (ends_part part m) some false refl (λ _. i) h
grown_beside part n (c ∷ inner) some u m i h = stays part n (c ∷ inner) u (mark m) i (λ e. absurd cc) h

grown_opened : (part : RunEnd) (n : ℕ) (inner : List Bracket) (some : Bool) (u : List Word) (b : Bracket) (t : Bool)
    → nat_lt (n + length inner) depth_limit ≡ t → IsOpenRun part n inner u
    → Grown part n inner some u (opening b) (if_shallow depth_limit (n + length inner) (Running part n (b ∷ inner) true
    ∷ []))
grown_opened part n inner some u b true e h = let lt : n + length inner < depth_limit = grind (arith, nat_tests) in
    rw e (opens part n inner u b (omega (arith, lt, level_is n inner)) h)
grown_opened part n inner some u b false e h = rw e tt

-- a token of a run goes on with it, or ends it
pub grown : (part : RunEnd) (n : ℕ) (inner : List Bracket) (some : Bool) (u : List Word) (w : Word)
    → IsOpenRun part n inner u → Grown part n inner some u w (next_running depth_limit part n inner some (token w))
grown part n inner some u (mark marks.Open) h = grown_opened part n inner some u parenthesis
    (nat_lt (n + length inner) depth_limit) refl h
grown part n inner some u (mark marks.OpenBracket) h = grown_opened part n inner some u square
    (nat_lt (n + length inner) depth_limit) refl h
grown part n inner some u (mark marks.OpenBrace) h = grown_opened part n inner some u brace
    (nat_lt (n + length inner) depth_limit) refl h
grown part n [] some u (mark marks.Close) h = grown_outside part n u marks.Close (ends_part part marks.Close) some true
    refl (λ e. absurd (false≢true (sym e))) h
grown part n (parenthesis ∷ inner) some u (mark marks.Close) h = closes part n parenthesis inner u h
grown part n (c ∷ inner) some u (mark marks.Close) h = tt
grown part n [] some u (mark marks.CloseBracket) h = grown_outside part n u marks.CloseBracket
    (ends_part part marks.CloseBracket) some true refl (λ e. absurd (false≢true (sym e))) h
grown part n (square ∷ inner) some u (mark marks.CloseBracket) h = closes part n square inner u h
grown part n (c ∷ inner) some u (mark marks.CloseBracket) h = tt
grown part n [] some u (mark marks.CloseBrace) h = grown_outside part n u marks.CloseBrace
    (ends_part part marks.CloseBrace) some true refl (λ e. absurd (false≢true (sym e))) h
grown part n (brace ∷ inner) some u (mark marks.CloseBrace) h = closes part n brace inner u h
grown part n (c ∷ inner) some u (mark marks.CloseBrace) h = tt
grown part n inner some u (mark m) h = grown_beside part n inner some u m refl h
grown in_rule n inner some u w h = stays in_rule n inner u w refl (λ _. refl) h
grown in_lower n inner some u w h = stays in_lower n inner u w refl (λ _. refl) h
grown part n inner some u w h = stays part n inner u w refl (λ _. refl) h
