-- Names in parentheses, one by one.
use Rattle.std.proofs.Common.{◌≡◌, ℕ, ◌<◌, true, false, List, [], ◌∷◌, ◌++◌, map, length, Err, refl, sym, ap, ◌∙◌, append_assoc, arith}
use Rattle.std.proofs.lemmas.Bool.{false≢true}
use Rattle.express_lexer.specs.declared.marks.Mark.TheVariants as marks
use Rattle.express_lexer.specs.Reading.{Reading, left}
use Rattle.express_syntax.specs.Words.{name, mark}
use Rattle.express_syntax.specs.Grammar.{depth_limit}
use Rattle.express_syntax.specs.declared.fault.SyntaxFault.{SyntaxFault}
use Rattle.express_syntax.specs.declared.fault.SyntaxFault.TheVariants as faults
use Rattle.express_syntax.specs.Texts.{Lookahead, token, LocatedToken, Shows}
use Rattle.express_syntax.specs.WrittenSchemas.{concatenated, with_commas, words_of_name, words_of_names}
use Rattle.express_syntax.specs.Profile.{IsFilled}
use Rattle.express_syntax.specs.steps.Predict.{Just, Id, Names, names_symbols, next, refused, is_mark}
use Rattle.express_syntax.specs.steps.Steps.{StopsIn, Passes}
use Rattle.express_syntax.proofs.Taking.{passes_as, passes_join, passes_more, passes_then, passes_token, stops_behind}
use Rattle.express_syntax.proofs.Looking.{mark_met, stops_refused, shown_less, passes_within}
use Rattle.express_syntax.proofs.Lists.{filled_push}

-- names as far as they are read, where others or the closing parenthesis come next
pub record NamesSoFar (names : List (List ℕ)) (old here : Reading) : Type 0 where
  pub filled : IsFilled names
  pub passes : Passes names_symbols (Names ∷ []) [] (mark marks.Open ∷ with_commas (map words_of_name names)) old here

-- the first name
pub names_first : (n : List ℕ) (old a b : Reading) → Passes (Just marks.Open ∷ []) [] [] (mark marks.Open ∷ []) old a
    → Passes (Id ∷ []) [] [] (name n ∷ []) a b → NamesSoFar (n ∷ []) old b
names_first n old a b h g = record { filled = tt; passes = passes_then h (passes_more (Names ∷ []) g) }

-- no name stands behind the parenthesis
pub names_none : (e : SyntaxFault) (old a : Reading) → Passes (Just marks.Open ∷ []) [] [] (mark marks.Open ∷ []) old a
    → StopsIn e (Id ∷ []) [] a → StopsIn e names_symbols [] old
names_none e old a h g = stops_behind e (Id ∷ []) (Names ∷ []) (passes_more (Id ∷ Names ∷ []) h) g

-- what stops behind some names stops them
pub names_stopped : (e : SyntaxFault) (names : List (List ℕ)) (old here : Reading) → NamesSoFar names old here
    → StopsIn e (Names ∷ []) [] here → StopsIn e names_symbols [] old
names_stopped e names old here h g = stops_behind e (Names ∷ []) [] h.passes g

names_refused : (s : Lookahead) → is_mark marks.Close s ≡ false → is_mark marks.Comma s ≡ false
    → next depth_limit Names s ≡ Err (refused s)
names_refused (token (mark marks.Comma)) c d = absurd (false≢true (sym d))
names_refused (token (mark marks.Close)) c d = absurd (false≢true (sym c))
names_refused _ c d = refl

-- neither a comma nor the closing parenthesis stands behind some names
pub names_other : (e : SyntaxFault) (names : List (List ℕ)) (s : LocatedToken) (old here new : Reading)
    → NamesSoFar names old here → Shows here s new → is_mark marks.Close s.lookahead ≡ false
    → is_mark marks.Comma s.lookahead ≡ false → e ≡ faults.Fault (refused s.lookahead) s.place → StopsIn e names_symbols
    [] old
names_other e names s old here new h shows c d q = names_stopped e names old here h
    (stops_refused e Names s here new shows (names_refused s.lookahead c d) q)

-- the closing parenthesis
pub names_done : (names : List (List ℕ)) (s : LocatedToken) (old here new : Reading) → NamesSoFar names old here
    → Shows here s new → is_mark marks.Close s.lookahead ≡ true → IsFilled names × Passes names_symbols [] []
    (words_of_names names) old new
names_done names s old here new h shows c = (
  h.filled,
  passes_join h.passes (passes_token Names [] (mark marks.Close) s here new shows
      (mark_met marks.Close s.lookahead c) refl),
)

passes_comma : (names : List (List ℕ)) (s : LocatedToken) (old here new : Reading) → NamesSoFar names old here
    → Shows here s new → is_mark marks.Comma s.lookahead ≡ true → Passes names_symbols (Id ∷ Names ∷ []) []
    ((mark marks.Open ∷ with_commas (map words_of_name names)) ++ mark marks.Comma ∷ []) old new
passes_comma names s old here new h shows c = passes_join h.passes
    (passes_token Names (Id ∷ Names ∷ []) (mark marks.Comma) s here new shows (mark_met marks.Comma s.lookahead c) refl)

-- a comma without a name behind it
pub names_lacking : (e : SyntaxFault) (names : List (List ℕ)) (s : LocatedToken) (old here new : Reading)
    → NamesSoFar names old here → Shows here s new → is_mark marks.Comma s.lookahead ≡ true → StopsIn e (Id ∷ []) [] new
    → StopsIn e names_symbols [] old
names_lacking e names s old here new h shows c g = stops_behind e (Id ∷ []) (Names ∷ [])
    (passes_comma names s old here new h shows c) g

further_words : (names : List (List ℕ)) (n : List ℕ)
    → concatenated (map (λ us. mark marks.Comma ∷ us) (map words_of_name (names ++ n ∷ []))) ≡ concatenated
    (map (λ us. mark marks.Comma ∷ us) (map words_of_name names)) ++ mark marks.Comma ∷ name n ∷ []
further_words [] n = refl
further_words (m ∷ names) n = ap (λ l. mark marks.Comma ∷ name m ∷ l) (further_words names n)

listed_words : (names : List (List ℕ)) (n : List ℕ) → IsFilled names
    → with_commas (map words_of_name (names ++ n ∷ [])) ≡ with_commas (map words_of_name names) ++ mark marks.Comma
    ∷ name n ∷ []
listed_words [] n f = absurd f
listed_words (m ∷ names) n f = ap (λ l. name m ∷ l) (further_words names n)

-- one more name
pub names_next : (names : List (List ℕ)) (n : List ℕ) (s : LocatedToken) (old here a b : Reading)
    → NamesSoFar names old here → Shows here s a → is_mark marks.Comma s.lookahead ≡ true
    → Passes (Id ∷ []) [] [] (name n ∷ []) a b → NamesSoFar (names ++ n ∷ []) old b
names_next names n s old here a b h shows c g =
    let listed = with_commas (map words_of_name names) in
    let e : ((mark marks.Open ∷ listed) ++ mark marks.Comma ∷ []) ++ name n ∷ [] ≡ mark marks.Open
    ∷ with_commas (map words_of_name (names ++ n ∷ [])) = append_assoc (mark marks.Open ∷ listed) (mark marks.Comma
    ∷ []) (name n ∷ []) ∙ ap (λ l. mark marks.Open ∷ l) (sym (listed_words names n h.filled)) in
    record {
      filled = filled_push names n;
      passes = passes_as (mark marks.Open ∷ with_commas (map words_of_name (names ++ n ∷ []))) e
          (passes_join (passes_comma names s old here a h shows c) (passes_more (Names ∷ []) g));
    }

-- after one more name less of the text is left
pub names_smaller : (n : List ℕ) (s : LocatedToken) (here a b : Reading) → Shows here s a
    → is_mark marks.Comma s.lookahead ≡ true → Passes (Id ∷ []) [] [] (name n ∷ []) a b → length (left b) < length
    (left here)
names_smaller n s here a b shows c g = omega (
  arith,
  shown_less (mark marks.Comma) s here a shows
      (mark_met marks.Comma s.lookahead c),
  passes_within g,
)
