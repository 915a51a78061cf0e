-- Some tokens complete each symbol of the table.
use Rattle.std.proofs.Common.{◌≡◌, ℕ, zero, suc, Bool, true, if◌then◌else◌, List, [], ◌∷◌, ◌++◌, Ok, Err, refl, sym, ap, subst}
use Rattle.std.specs.Str.{bytes_eq}
use Rattle.std.proofs.lemmas.Slice.Eq.{bytes_eq-Decides}
use Rattle.parsing.specs.Tables.{LocatedToken, run}
use Rattle.parsing.specs.Languages.{AllAre, IsComplete}
use Rattle.parsing.proofs.Lists.{placed, lookaheads_placed}
use Rattle.parsing.proofs.Leading.{Leads}
use Rattle.parsing.proofs.Running.{reaches_more, reaches_run}
use Rattle.express_lexer.specs.declared.marks.Mark.{Mark}
use Rattle.express_lexer.specs.declared.marks.Mark.TheVariants as marks
use Rattle.express_lexer.specs.Marks.{mark_text}
use Rattle.express_syntax.specs.declared.keyword.Keyword.{Keyword}
use Rattle.express_syntax.specs.declared.keyword.Keyword.TheVariants as keywords
use Rattle.express_syntax.specs.Keywords.{keyword_text}
use Rattle.express_syntax.specs.Words.{keyword, name, mark}
use Rattle.std.specs.Prelude.{codes}
use Rattle.express_syntax.specs.Runs.{Bracket, parenthesis, square, brace}
use Rattle.express_syntax.specs.Texts.{Lookahead, token, end_of_text}
use Rattle.express_syntax.specs.steps.Predict.{RunEnd, in_rule, in_lower, in_upper, in_parentheses, Ending, semicolon, assignment, ending_mark, Symbol, Just, Say, Id, Names, Version, Declarations, EndOfText, SkippedName, SkippedEnd, Routine, Until, Underlying, DataTypeThen, WidthOr, FixedWidthOr, FixedOr, BoundsOrOf, OptionalOr, UniqueOr, Running, TypeEnd, Rules, Labelled, Head, Super, SuperOf, Sub, Body, AnAttribute, Explicits, OptionalDataType, Inverted, Holder, Uniques, UniqueNamed, refused, next}

-- these tokens complete the symbol
abbrev Completed : ℕ → Symbol → Type 0
Completed levels y = (u : List Lookahead) × Leads (next levels) (y ∷ []) u []

bytes_self : (t : List ℕ) → bytes_eq t t ≡ true
bytes_self t = (bytes_eq-Decides t t).1 refl

-- one that a single token ends
by_one : (levels : ℕ) (y : Symbol) (s : Lookahead) → next levels y s ≡ Ok [] → Completed levels y
by_one levels y s e = (s ∷ [], ([], e, refl))

-- one that turns into another by a token
by_first : (levels : ℕ) (y z : Symbol) (s : Lookahead) → next levels y s ≡ Ok (z ∷ []) → Completed levels z
    → Completed levels y
by_first levels y z s e h = (s ∷ h.0, (z ∷ [], e, h.1))

just_completed : (levels : ℕ) (m : Mark) → Completed levels (Just m)
just_completed levels m = by_one levels (Just m) (token (mark m))
    (ap (λ b. if b then Ok [] else Err (refused (token (mark m)))) (bytes_self (mark_text m)))

say_completed : (levels : ℕ) (k : Keyword) → Completed levels (Say k)
say_completed levels k = by_one levels (Say k) (token (keyword k))
    (ap (λ b. if b then Ok [] else Err (refused (token (keyword k)))) (bytes_self (keyword_text k)))

routine_completed : (levels n : ℕ) → Completed levels (Routine n)
routine_completed levels zero = by_one levels (Routine 0) (token (name (codes "END_FUNCTION"))) refl
routine_completed levels (suc n) = by_first levels (Routine (suc n)) (Routine n) (token (name (codes "END_FUNCTION")))
    refl (routine_completed levels n)

until_completed : (levels : ℕ) (end : List ℕ) → Completed levels (Until end)
until_completed levels end = by_one levels (Until end) (token (name end))
    (ap (λ b. if b then Ok [] else Ok (Until end ∷ [])) (bytes_self end))

-- the mark behind a kind
ended_by : (levels : ℕ) (y : Symbol) (s : Lookahead) (end : Ending) → next levels y s ≡ Ok (Just (ending_mark end) ∷ [])
    → Completed levels y
ended_by levels y s end e = by_first levels y (Just (ending_mark end)) s e (just_completed levels (ending_mark end))

fixed_or_completed : (levels : ℕ) (end : Ending) → Completed levels (FixedOr end)
fixed_or_completed levels end = ended_by levels (FixedOr end) (token (keyword keywords.Fixed)) end refl

width_completed : (levels n : ℕ) (end : Ending) → Completed levels (WidthOr n end)
width_completed levels n semicolon = by_one levels (WidthOr n semicolon) (token (mark marks.Semicolon)) refl
width_completed levels n assignment = by_one levels (WidthOr n assignment) (token (mark marks.Assign)) refl

fixed_width_completed : (levels n : ℕ) (end : Ending) → Completed levels (FixedWidthOr n end)
fixed_width_completed levels n semicolon = by_one levels (FixedWidthOr n semicolon) (token (mark marks.Semicolon)) refl
fixed_width_completed levels n assignment = by_one levels (FixedWidthOr n assignment) (token (mark marks.Assign)) refl

-- the brackets of a run, one after another, and its end
running_completed : (levels : ℕ) (part : RunEnd) (n : ℕ) (inner : List Bracket)
    → Completed levels (Running part n inner true)
running_completed levels in_rule n [] = by_one levels (Running in_rule n [] true) (token (mark marks.Semicolon)) refl
running_completed levels in_lower n [] = by_one levels (Running in_lower n [] true) (token (mark marks.Colon)) refl
running_completed levels in_upper n [] = by_one levels (Running in_upper n [] true) (token (mark marks.CloseBracket))
    refl
running_completed levels in_parentheses n [] = by_one levels (Running in_parentheses n [] true)
    (token (mark marks.Close)) refl
running_completed levels part n (parenthesis ∷ inner) = by_first levels (Running part n (parenthesis ∷ inner) true)
    (Running part n inner true) (token (mark marks.Close)) refl (running_completed levels part n inner)
running_completed levels part n (square ∷ inner) = by_first levels (Running part n (square ∷ inner) true)
    (Running part n inner true) (token (mark marks.CloseBracket)) refl (running_completed levels part n inner)
running_completed levels part n (brace ∷ inner) = by_first levels (Running part n (brace ∷ inner) true)
    (Running part n inner true) (token (mark marks.CloseBrace)) refl (running_completed levels part n inner)

-- a run that may have no word yet is completed
run_completed : (levels : ℕ) (part : RunEnd) (n : ℕ) (inner : List Bracket) (some : Bool)
    → Completed levels (Running part n inner some)
run_completed levels part n inner some = by_first levels (Running part n inner some) (Running part n inner true)
    (token (name [])) refl (running_completed levels part n inner)

rules_completed : (levels : ℕ) (end : Keyword) → Completed levels (Rules end)
rules_completed levels end =
    by_first levels (Rules end) (Just marks.Semicolon) (token (keyword end))
    (ap (λ b. if b then Ok (Just marks.Semicolon ∷ []) else Ok (Running in_rule 0 [] true ∷ Rules end ∷ []))
    (bytes_self (keyword_text end)))
    (just_completed levels marks.Semicolon)

completed : (levels : ℕ) (y : Symbol) → Completed levels y
completed levels (Just m) = just_completed levels m
completed levels (Say k) = say_completed levels k
completed levels Id = by_one levels Id (token (name [])) refl
completed levels Names = by_one levels Names (token (mark marks.Close)) refl
completed levels Version = by_one levels Version (token (mark marks.Semicolon)) refl
completed levels Declarations = by_first levels Declarations (Just marks.Semicolon) (token (keyword keywords.EndSchema))
    refl (just_completed levels marks.Semicolon)
completed levels EndOfText = by_one levels EndOfText end_of_text refl
completed levels SkippedName = by_one levels SkippedName (token (name [])) refl
completed levels SkippedEnd = by_one levels SkippedEnd (token (mark marks.Semicolon)) refl
completed levels (Routine n) = routine_completed levels n
completed levels (Until end) = until_completed levels end
completed levels Underlying = ended_by levels Underlying (token (keyword keywords.Integer)) semicolon refl
completed levels (DataTypeThen n end) = ended_by levels (DataTypeThen n end) (token (keyword keywords.Integer)) end refl
completed levels (WidthOr n end) = width_completed levels n end
completed levels (FixedWidthOr n end) = fixed_width_completed levels n end
completed levels (FixedOr end) = fixed_or_completed levels end
completed levels (BoundsOrOf n) = by_one levels (BoundsOrOf n) (token (keyword keywords.Of)) refl
completed levels (OptionalOr n end) = ended_by levels (OptionalOr n end) (token (keyword keywords.Integer)) end refl
completed levels (UniqueOr n end) = ended_by levels (UniqueOr n end) (token (keyword keywords.Integer)) end refl
completed levels (Running part n inner some) = run_completed levels part n inner some
completed levels TypeEnd = by_first levels TypeEnd (Just marks.Semicolon) (token (keyword keywords.EndType)) refl
    (just_completed levels marks.Semicolon)
completed levels (Rules end) = rules_completed levels end
completed levels (Labelled end) = by_first levels (Labelled end) (Rules end) (token (mark marks.Semicolon)) refl
    (rules_completed levels end)
completed levels Head = by_one levels Head (token (mark marks.Semicolon)) refl
completed levels Super = by_one levels Super (token (mark marks.Semicolon)) refl
completed levels SuperOf = by_one levels SuperOf (token (mark marks.Semicolon)) refl
completed levels Sub = by_one levels Sub (token (mark marks.Semicolon)) refl
completed levels (Body c) = by_first levels (Body c) (Just marks.Semicolon) (token (keyword keywords.EndEntity)) refl
    (just_completed levels marks.Semicolon)
completed levels AnAttribute = by_one levels AnAttribute (token (name [])) refl
completed levels Explicits = by_first levels Explicits OptionalDataType (token (mark marks.Colon)) refl
    (ended_by levels OptionalDataType (token (keyword keywords.Integer)) semicolon refl)
completed levels OptionalDataType = ended_by levels OptionalDataType (token (keyword keywords.Integer)) semicolon refl
completed levels Inverted = by_one levels Inverted (token (name [])) refl
completed levels Holder = by_one levels Holder (token (mark marks.Semicolon)) refl
completed levels Uniques = by_one levels Uniques (token (mark marks.Semicolon)) refl
completed levels UniqueNamed = by_one levels UniqueNamed (token (mark marks.Semicolon)) refl

-- any symbol
abbrev pub IsAny : Symbol → Type 0
IsAny y = Unit {0}

pub all_any : (zs : List Symbol) → AllAre IsAny zs
all_any [] = tt
all_any (z ∷ zs) = (tt, all_any zs)

pub complete : (levels : ℕ) → IsComplete (next levels) IsAny
complete levels = record { kept = λ y w zs a e. all_any zs; completing = λ y a. by y (completed levels y) }
  where
    by : (y : Symbol) → Completed levels y → (u : List (LocatedToken Lookahead))
        × ((b : List Symbol) (q : List (LocatedToken Lookahead)) → run (next levels) (y ∷ b) (u ++ q) ≡ run
        (next levels) b q)
    by y h =
        let P : List Lookahead → Type 0 = λ l. Leads (next levels) (y ∷ []) l [] in (
          placed h.0,
          λ b q. reaches_run (next levels) (placed h.0) (y ∷ b) b q (reaches_more (next levels) (placed h.0)
              (y ∷ []) [] b (subst P (sym (lookaheads_placed h.0)) h.1)),
        )
