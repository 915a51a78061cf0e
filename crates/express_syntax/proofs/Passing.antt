-- What the words of a part leave to come, step by step: each lemma says that the part's symbols take its words, and
-- that what stands behind them takes the rest.
use Rattle.std.proofs.Common.{◌≡◌, ℕ, ◌≤◌, List, [], ◌∷◌, ◌++◌, Ok, refl, sym, ◌∙◌, subst, append_assoc, append-nil, map}
use Rattle.std.specs.Prelude.{true}
use Rattle.std.specs.Str.{bytes_eq}
use Rattle.std.proofs.lemmas.Slice.Eq.{bytes_eq-Decides}
use Rattle.parsing.proofs.Leading.{Leads}
use Rattle.express_lexer.specs.declared.marks.Mark.{Mark}
use Rattle.express_lexer.specs.declared.marks.Mark.TheVariants as marks
use Rattle.express_lexer.specs.Marks.{mark_text}
use Rattle.express_syntax.specs.declared.keyword.Keyword.{Keyword}
use Rattle.express_syntax.specs.Words.{Word, keyword, name, mark}
use Rattle.express_syntax.specs.Grammar.{depth_limit}
use Rattle.express_syntax.specs.Keywords.{keyword_text}
use Rattle.express_syntax.specs.Texts.{Lookahead, token}
use Rattle.express_syntax.specs.WrittenSchemas.{concatenated, words_of_name, words_of_names}
use Rattle.express_syntax.specs.Profile.{IsFilled}
use Rattle.express_syntax.specs.steps.Predict.{Symbol, Just, Say, Id, Names, names_symbols, next}

-- how many brackets may be open, what stands behind the words, and what is left to come then
pub record Goal : Type 0 where
  pub levels : ℕ
  pub deep : depth_limit ≤ levels
  pub behind : List Lookahead
  pub left : List Symbol
  pub ends : behind ≡ [] → left ≡ []

-- these symbols take these words and what stands behind them
abbrev pub Led : Goal → List Symbol → List Word → Type 0
Led g ys ws = Leads (next g.levels) ys (map token ws ++ g.behind) g.left

-- one word
pub step : (g : Goal) (y : Symbol) (us ys : List Symbol) (w : Word) (ws : List Word) → next g.levels y (token w) ≡ Ok us
    → Led g (us ++ ys) ws → Led g (y ∷ ys) (w ∷ ws)
step g y us ys w ws e h = (us, e, h)

-- what is behind a word
pub behind_word : (g : Goal) (y : Symbol) (us ys : List Symbol) (w : Word) (ws : List Word)
    → next g.levels y (token w) ≡ Ok us → Led g (y ∷ ys) (w ∷ ws) → Led g (us ++ ys) ws
behind_word g y us ys w ws e h =
    let d : h.0 ≡ us = cc in
    let P : List Symbol → Type 0 = λ l. Led g (l ++ ys) ws in
    subst P d h.2

pub regroup : (g : Goal) (ys : List Symbol) (a b rest : List Word) → Led g ys (a ++ (b ++ rest))
    → Led g ys ((a ++ b) ++ rest)
regroup g ys a b rest h = let P : List Word → Type 0 = Led g ys in subst P (sym (append_assoc a b rest)) h

-- a symbol that takes at least what another takes
abbrev pub IsWider : ℕ → Symbol → Symbol → Type 0
IsWider levels y z = (w : Lookahead) (us : List Symbol) → next levels y w ≡ Ok us → next levels z w ≡ Ok us

wider_lookaheads : (levels : ℕ) (y z : Symbol) → IsWider levels y z → (ys left : List Symbol) (s : List Lookahead)
    → (s ≡ [] → left ≡ []) → Leads (next levels) (y ∷ ys) s left → Leads (next levels) (z ∷ ys) s left
wider_lookaheads levels y z i ys left [] e h = let none : y ∷ ys ≡ [] = h ∙ e refl in absurd cc
wider_lookaheads levels y z i ys left (w ∷ s) e h = (h.0, i w h.0 h.1, h.2)

words_end : (g : Goal) (ws : List Word) → map token ws ++ g.behind ≡ [] → g.left ≡ []
words_end g [] e = g.ends e
words_end g (w ∷ ws) e = absurd cc

pub wider : (g : Goal) (y z : Symbol) (ys : List Symbol) (ws : List Word) → IsWider g.levels y z → Led g (y ∷ ys) ws
    → Led g (z ∷ ys) ws
wider g y z ys ws i h = wider_lookaheads g.levels y z i ys g.left (map token ws ++ g.behind) (words_end g ws) h

pub same_bytes : (a b : List ℕ) → a ≡ b → bytes_eq a b ≡ true
same_bytes a b e = (bytes_eq-Decides a b).1 e

pub next_mark : (levels : ℕ) (m : Mark) → next levels (Just m) (token (mark m)) ≡ Ok []
next_mark levels m = rw (same_bytes (mark_text m) (mark_text m) refl) refl

pub next_keyword : (levels : ℕ) (k : Keyword) → next levels (Say k) (token (keyword k)) ≡ Ok []
next_keyword levels k = rw (same_bytes (keyword_text k) (keyword_text k) refl) refl

pub pass_mark : (g : Goal) (m : Mark) (ys : List Symbol) (ws : List Word) → Led g ys ws
    → Led g (Just m ∷ ys) (mark m ∷ ws)
pass_mark g m ys ws h = step g (Just m) [] ys (mark m) ws (next_mark g.levels m) h

pub pass_say : (g : Goal) (k : Keyword) (ys : List Symbol) (ws : List Word) → Led g ys ws
    → Led g (Say k ∷ ys) (keyword k ∷ ws)
pass_say g k ys ws h = step g (Say k) [] ys (keyword k) ws (next_keyword g.levels k) h

pub pass_id : (g : Goal) (n : List ℕ) (ys : List Symbol) (ws : List Word) → Led g ys ws → Led g (Id ∷ ys) (name n ∷ ws)
pass_id g n ys ws h = step g Id [] ys (name n) ws refl h

-- the names behind the first
pub pass_more_names : (g : Goal) (names : List (List ℕ)) (ys : List Symbol) (ws : List Word) → Led g ys ws
    → Led g (Names ∷ ys) ((concatenated (map (λ us. mark marks.Comma ∷ us) (map words_of_name names)) ++ mark marks.Close
    ∷ []) ++ ws)
pass_more_names g [] ys ws h = step g Names [] ys (mark marks.Close) ws refl h
pass_more_names g (n ∷ names) ys ws h =
    let more = (concatenated (map (λ us. mark marks.Comma ∷ us) (map words_of_name names)) ++ mark marks.Close ∷ []) ++ ws in
    step g Names (Id ∷ Names ∷ []) ys (mark marks.Comma) (name n ∷ more) refl
    (pass_id g n (Names ∷ ys) more (pass_more_names g names ys ws h))

-- names in parentheses
pub pass_names : (g : Goal) (names : List (List ℕ)) (ys : List Symbol) (ws : List Word) → IsFilled names → Led g ys ws
    → Led g (names_symbols ++ ys) (words_of_names names ++ ws)
pass_names g [] ys ws f h = absurd f
pass_names g (n ∷ names) ys ws f h =
    let more = (concatenated (map (λ us. mark marks.Comma ∷ us) (map words_of_name names)) ++ mark marks.Close ∷ []) ++ ws in
    pass_mark g marks.Open (Id ∷ Names ∷ ys) (name n ∷ more)
    (pass_id g n (Names ∷ ys) more (pass_more_names g names ys ws h))

-- with nothing behind the words
abbrev pub by_itself : (levels : ℕ) → depth_limit ≤ levels → Goal
by_itself levels deep = record { levels = levels; deep = deep; behind = []; left = []; ends = λ e. refl }

-- the words of a part lead from its symbols to nothing more
pub leads_part : (levels : ℕ) (deep : depth_limit ≤ levels) (ys : List Symbol) (ws : List Word)
    → Led (by_itself levels deep) ys ws → Leads (next levels) ys (map token ws) []
leads_part levels deep ys ws h = let P : List Lookahead → Type 0 = λ l. Leads (next levels) ys l [] in
    subst P (append-nil (map token ws)) h
