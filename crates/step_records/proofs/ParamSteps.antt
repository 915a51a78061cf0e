-- Parameters, token by token.
use Rattle.std.proofs.Common.{◌≡◌, ℕ, ◌+◌, ◌<◌, Bool, true, false, List, [], ◌∷◌, ◌++◌, length, Ok, Err, refl, sym, ap, ◌∙◌, append_assoc, append-nil, arith, nat_lt}
use Rattle.std.proofs.lemmas.Bool.{false≢true}
use Rattle.std.proofs.lemmas.Bool.Decides.{nat_tests}
use Rattle.parsing.specs.Tables.{lookaheads, step_on, run}
use Rattle.step_lexer.specs.declared.token.Mark.TheVariants.{Open, Close, Comma}
use Rattle.step_lexer.specs.Reading.{Reading, Takes, left}
use Rattle.step_lexer.specs.declared.token.Token.{Token}
use Rattle.step_lexer.proofs.ReadingLemmas.{takes_less}
use Rattle.step_structures.specs.declared.fault.TextFault.{TextFault}
use Rattle.step_structures.specs.declared.fault.TextFault.TheVariants as faults
use Rattle.step_structures.specs.Words.{Word, Lookahead, token, mark, keyword, LocatedToken, located, shows_token}
use Rattle.step_structures.specs.Trees.{Tree, leaf, typed, group, Trees, none, one, this, items_of_tree, items_of_trees, items_of_more, items_of_list}
use Rattle.step_structures.specs.Fits.{the_rules, IsLeaf, FitsTree, FitsTrees}
use Rattle.step_records.specs.Cells.{all_of}
use Rattle.step_structures.specs.steps.Predict.{Symbol, Just, Value, Items, More, Next, refused, is_mark, next_value, then_more, table, params_symbols}
use Rattle.step_records.specs.steps.Steps.{StopsIn, Passes, inner_symbols}
use Rattle.step_structures.proofs.Meeting.{meet_as, meets_is}
use Rattle.step_structures.proofs.Passing.{next_leaf, items_as_value}
use Rattle.step_records.proofs.Taking.{passes_as, passes_join, passes_more, passes_then, passes_token, passes_taken, passes_first, passes_within, stops_behind}
use Rattle.step_records.proofs.Looking.{mark_met, meets_mark}

-- a parameter of which the first token is taken already
abbrev Taken : ℕ → Token → Reading → Tree → Reading → Type 0
Taken n t old x new = FitsTree the_rules n x × Passes (Value n ∷ []) [] (located t ∷ []) (items_of_tree x) old new

-- one token
pub leaf_done : (n : ℕ) (w : Word) (t : Token) (here : Reading) → IsLeaf w → (located t).lookahead ≡ token w
    → Taken n t here (leaf w) here
leaf_done n w t here f e = (
  f,
  passes_taken (Value n) [] (this w) t here (meets_is w (located t).lookahead e) (ap (table (Value n)) e
      ∙ next_leaf the_rules n w f),
)

pub inner_err_first : (e : TextFault) (n : ℕ) (old a : Reading) → Passes (Just Open ∷ []) [] [] (this (mark Open) ∷ [])
    old a → StopsIn e (Value (n + 1) ∷ []) [] a → StopsIn e (inner_symbols n) [] old
inner_err_first e n old a h g = stops_behind e (Value (n + 1) ∷ []) (Just Close ∷ [])
    (passes_more (Value (n + 1) ∷ Just Close ∷ []) h) g

inner_passes : (n : ℕ) (old a : Reading) (t : Token) (b : Reading) (x : Tree) (c : Reading)
    → Passes (Just Open ∷ []) [] [] (this (mark Open) ∷ []) old a → Takes a t b → Taken (n + 1) t b x c
    → Passes (inner_symbols n) (Just Close ∷ []) [] (this (mark Open) ∷ items_of_tree x) old c
inner_passes n old a t b x c h taken g = passes_then h (passes_more (Just Close ∷ []) (passes_first t a taken g.1))

pub inner_err_close : (e : TextFault) (n : ℕ) (old a : Reading) (t : Token) (b : Reading) (x : Tree) (c : Reading)
    → Passes (Just Open ∷ []) [] [] (this (mark Open) ∷ []) old a → Takes a t b → Taken (n + 1) t b x c
    → StopsIn e (Just Close ∷ []) [] c → StopsIn e (inner_symbols n) [] old
inner_err_close e n old a t b x c h taken g stop = stops_behind e (Just Close ∷ []) []
    (inner_passes n old a t b x c h taken g) stop

abbrev Inner : ℕ → Reading → Tree → Reading → Type 0
Inner n old x new = FitsTree the_rules (n + 1) x × Passes (inner_symbols n) [] [] (this (mark Open) ∷ (items_of_tree x
    ++ this (mark Close) ∷ [])) old new

pub inner_done : (n : ℕ) (old a : Reading) (t : Token) (b : Reading) (x : Tree) (c d : Reading)
    → Passes (Just Open ∷ []) [] [] (this (mark Open) ∷ []) old a → Takes a t b → Taken (n + 1) t b x c
    → Passes (Just Close ∷ []) [] [] (this (mark Close) ∷ []) c d → Inner n old x d
inner_done n old a t b x c d h taken g close = (g.0, passes_join (inner_passes n old a t b x c h taken g) close)

-- a keyword, and a parameter in parentheses
keyword_next : (n : ℕ) (text : List ℕ) → n < 64 → table (Value n) (token (keyword text)) ≡ Ok (inner_symbols n)
keyword_next n text h = let e : nat_lt n 64 ≡ true = grind (arith, nat_tests) in rw e refl

open_next : (n : ℕ) → n < 64 → table (Value n) (token (mark Open)) ≡ Ok (Items (n + 1) ∷ [])
open_next n h = let e : nat_lt n 64 ≡ true = grind (arith, nat_tests) in rw e refl

passes_keyword : (n : ℕ) (t : Token) (text : List ℕ) (here : Reading) → n < 64 → (located t).lookahead ≡ token
    (keyword text) → Passes (Value n ∷ []) (inner_symbols n) (located t ∷ []) (this (keyword text) ∷ []) here here
passes_keyword n t text here h is = passes_taken (Value n) (inner_symbols n) (this (keyword text)) t here
    (meets_is (keyword text) (located t).lookahead is) (ap (table (Value n)) is ∙ keyword_next n text h)

pub typed_err : (e : TextFault) (n : ℕ) (t : Token) (text : List ℕ) (old : Reading) → n < 64
    → (located t).lookahead ≡ token (keyword text) → StopsIn e (inner_symbols n) [] old → StopsIn e (Value n ∷ [])
    (located t ∷ []) old
typed_err e n t text old h is g = stops_behind e (inner_symbols n) [] (passes_keyword n t text old h is) g

pub typed_done : (n : ℕ) (t : Token) (text : List ℕ) (old : Reading) (x : Tree) (new : Reading) → n < 64
    → (located t).lookahead ≡ token (keyword text) → Inner n old x new → Taken n t old (typed text x) new
typed_done n t text old x new h is g = ((h, g.0), passes_join (passes_keyword n t text old h is) g.1)

abbrev pub Listed : ℕ → Reading → Trees → Reading → Type 0
Listed n old xs new = FitsTrees the_rules n xs × Passes (Items n ∷ []) [] [] (items_of_list xs) old new

passes_open : (n : ℕ) (t : Token) (here : Reading) → n < 64 → (located t).lookahead ≡ token (mark Open)
    → Passes (Value n ∷ []) (Items (n + 1) ∷ []) (located t ∷ []) (this (mark Open) ∷ []) here here
passes_open n t here h is = passes_taken (Value n) (Items (n + 1) ∷ []) (this (mark Open)) t here
    (meets_is (mark Open) (located t).lookahead is) (ap (table (Value n)) is ∙ open_next n h)

pub list_done : (n : ℕ) (t : Token) (old : Reading) (xs : Trees) (new : Reading) → n < 64
    → (located t).lookahead ≡ token (mark Open) → Listed (n + 1) old xs new → Taken n t old (group xs) new
list_done n t old xs new h is g = ((h, g.0), passes_join (passes_open n t old h is) g.1)

-- a list with nothing in it
close_next : (y : Symbol) (s : Lookahead) (zs : List Symbol) → is_mark Close s ≡ true
    → table y (token (mark Close)) ≡ Ok zs → table y s ≡ Ok zs
close_next y s zs e n = ap (table y) (mark_met Close s e) ∙ n

pub items_none : (n : ℕ) (t : Token) (old new : Reading) → Takes old t new → is_mark Close (located t).lookahead ≡ true
    → Listed n old none new
items_none n t old new h e =
    let s = (located t).lookahead in (
      tt,
      passes_token (Items n) [] (this (mark Close)) t old new h (meets_mark Close s e) (close_next (Items n) s [] e
          refl),
    )

-- the first parameter of a list
items_run : (n : ℕ) (ys : List Symbol) (t : LocatedToken) (q : List LocatedToken) → is_mark Close t.lookahead ≡ false
    → run table (Items n ∷ ys) (t ∷ q) ≡ run table (Value n ∷ More n ∷ ys) (t ∷ q)
items_run n ys t q c = ap (step_on t.place (λ zs. run table zs q) ys) (items_as_value the_rules n t.lookahead c)
    ∙ behind (next_value the_rules n t.lookahead)
  where
    behind : (r : Next) → step_on t.place (λ zs. run table zs q) ys (then_more n r) ≡ step_on t.place
        (λ zs. run table zs q) (More n ∷ ys) r
    behind (Ok zs) = ap (λ l. run table l q) (append_assoc zs (More n ∷ []) ys)
    behind (Err k) = refl

pub items_err_first : (e : TextFault) (n : ℕ) (t : Token) (old a : Reading) → Takes old t a
    → is_mark Close (located t).lookahead ≡ false → StopsIn e (Value n ∷ []) (located t ∷ []) a
    → StopsIn e (Items n ∷ []) [] old
items_err_first faults.Memory n t old a h c g = tt
items_err_first (faults.Fault k p) n t old a h c g = (
  located t ∷ g.0,
  g.1,
  (a, shows_token t h refl, g.2),
  λ more. items_run n more (located t) g.0 c ∙ g.3 (More n ∷ more),
)

pub has_some : Trees → Bool
has_some none = false
has_some (one x xs) = true

-- the parameters so far, of which there are some, and behind them the others and the closing parenthesis
pub record SoFar (n : ℕ) (old : Reading) (xs : Trees) (here : Reading) : Type 0 where
  pub fits : FitsTrees the_rules n xs
  pub some : has_some xs ≡ true
  pub passes : Passes (Items n ∷ []) (More n ∷ []) [] (items_of_trees xs) old here

pub items_first : (n : ℕ) (t : Token) (old a : Reading) (x : Tree) (b : Reading) → Takes old t a
    → is_mark Close (located t).lookahead ≡ false → Taken n t a x b → SoFar n old (one x none) b
unfolding has_some
items_first n t old a x b h c g = record {
  fits = (g.0, tt);
  some = refl;
  passes = record {
    shown = located t ∷ g.1.shown;
    shown_all = (a, shows_token t h refl, g.1.shown_all);
    words = meet_as (lookaheads (located t ∷ g.1.shown)) (items_of_tree x) (items_of_tree x ++ [])
        (sym (append-nil (items_of_tree x))) g.1.words;
    turned = λ more q. items_run n more (located t) (g.1.shown ++ q) c ∙ g.1.turned (More n ∷ more) q;
  };
}

-- behind a parameter
pub items_err_token : (e : TextFault) (n : ℕ) (old : Reading) (xs : Trees) (here : Reading) → SoFar n old xs here
    → StopsIn e (More n ∷ []) [] here → StopsIn e (Items n ∷ []) [] old
items_err_token e n old xs here so g = stops_behind e (More n ∷ []) [] so.passes g

passes_comma : (n : ℕ) (old : Reading) (xs : Trees) (here : Reading) (t : Token) (a : Reading) → SoFar n old xs here
    → Takes here t a → is_mark Comma (located t).lookahead ≡ true
    → Passes (Items n ∷ []) (Value n ∷ More n ∷ []) [] (items_of_trees xs ++ this (mark Comma) ∷ []) old a
passes_comma n old xs here t a so h e =
    let s = (located t).lookahead in
    passes_join so.passes (passes_token (More n) (Value n ∷ More n ∷ []) (this (mark Comma)) t here a h
    (meets_mark Comma s e) (ap (table (More n)) (mark_met Comma s e)))

pub items_err_next : (e : TextFault) (n : ℕ) (old : Reading) (xs : Trees) (here : Reading) (t : Token) (a : Reading)
    → SoFar n old xs here → Takes here t a → is_mark Comma (located t).lookahead ≡ true → StopsIn e (Value n ∷ []) [] a
    → StopsIn e (Items n ∷ []) [] old
items_err_next e n old xs here t a so h c g = stops_behind e (Value n ∷ []) (More n ∷ [])
    (passes_comma n old xs here t a so h c) g

pub more_refused : (n : ℕ) (s : Lookahead) → is_mark Close s ≡ false → is_mark Comma s ≡ false → table (More n) s ≡ Err
    (refused s)
more_refused n (token (mark Comma)) c d = absurd (false≢true (sym d))
more_refused n (token (mark Close)) c d = absurd (false≢true (sym c))
more_refused n _ c d = refl

-- one more parameter at the end
pub push_tree : Trees → Tree → Trees
push_tree none y = one y none
push_tree (one x xs) y = one x (push_tree xs y)

fits_push : (n : ℕ) (xs : Trees) (y : Tree) → FitsTrees the_rules n xs → FitsTree the_rules n y
    → FitsTrees the_rules n (push_tree xs y)
unfolding push_tree
fits_push n none y h g = (g, tt)
fits_push n (one x xs) y h g = (h.0, fits_push n xs y h.1 g)

more_push : (xs : Trees) (y : Tree) → items_of_more (push_tree xs y) ≡ items_of_more xs ++ this (mark Comma)
    ∷ items_of_tree y
unfolding push_tree
more_push none y = ap (λ l. this (mark Comma) ∷ l) (append-nil (items_of_tree y))
more_push (one x xs) y = ap (λ l. this (mark Comma) ∷ (items_of_tree x ++ l)) (more_push xs y)
    ∙ ap (λ l. this (mark Comma) ∷ l) (sym (append_assoc (items_of_tree x) (items_of_more xs) (this (mark Comma)
    ∷ items_of_tree y)))

items_push : (xs : Trees) (y : Tree) → has_some xs ≡ true → items_of_trees (push_tree xs y) ≡ items_of_trees xs
    ++ this (mark Comma) ∷ items_of_tree y
unfolding push_tree has_some
items_push none y h = absurd (false≢true h)
items_push (one x xs) y h = ap (λ l. items_of_tree x ++ l) (more_push xs y)
    ∙ sym (append_assoc (items_of_tree x) (items_of_more xs) (this (mark Comma) ∷ items_of_tree y))

some_push : (xs : Trees) (y : Tree) → has_some (push_tree xs y) ≡ true
unfolding push_tree has_some
some_push none y = refl
some_push (one x xs) y = refl

pub items_next : (n : ℕ) (old : Reading) (xs : Trees) (here : Reading) (t : Token) (a : Reading) (u : Token)
    (b : Reading) (y : Tree) (c : Reading) → SoFar n old xs here → Takes here t a
    → is_mark Comma (located t).lookahead ≡ true → Takes a u b → Taken n u b y c → SoFar n old (push_tree xs y) c
items_next n old xs here t a u b y c so h comma k g = record {
  fits = fits_push n xs y so.fits g.0;
  some = some_push xs y;
  passes = passes_as (items_of_trees (push_tree xs y)) (append_assoc (items_of_trees xs) (this (mark Comma) ∷ [])
      (items_of_tree y) ∙ sym (items_push xs y so.some)) (passes_join (passes_comma n old xs here t a so h comma)
      (passes_more (More n ∷ []) (passes_first u a k g.1)));
}

pub items_done : (n : ℕ) (old : Reading) (xs : Trees) (here : Reading) (t : Token) (a : Reading) → SoFar n old xs here
    → Takes here t a → is_mark Close (located t).lookahead ≡ true → Listed n old xs a
items_done n old xs here t a so h c =
    let s = (located t).lookahead in (
      so.fits,
      passes_join so.passes (passes_token (More n) [] (this (mark Close)) t here a h (meets_mark Close s c)
          (close_next (More n) s [] c refl)),
    )

pub items_smaller : (here : Reading) (t : Token) (a : Reading) (u : Token) (b : Reading) (n : ℕ) (y : Tree)
    (c : Reading) → Takes here t a → Takes a u b → Taken n u b y c → length (left c) < length (left here)
items_smaller here t a u b n y c h k g = omega (arith, takes_less here a t h, takes_less a b u k, passes_within g.1)

-- one more parameter at the end of some
pub all_push : (xs : List Tree) (y : Tree) → all_of (xs ++ y ∷ []) ≡ push_tree (all_of xs) y
unfolding push_tree
all_push [] y = refl
all_push (x ∷ xs) y = ap (λ l. one x l) (all_push xs y)

-- the parameters of a record
abbrev pub Params : ℕ → Reading → Trees → Reading → Type 0
Params n old xs new = FitsTrees the_rules (n + 1) xs × Passes (params_symbols n) [] [] (this (mark Open)
    ∷ items_of_list xs) old new

pub params_err_items : (e : TextFault) (n : ℕ) (old a : Reading) → Passes (Just Open ∷ []) [] [] (this (mark Open) ∷ [])
    old a → StopsIn e (Items (n + 1) ∷ []) [] a → StopsIn e (params_symbols n) [] old
params_err_items e n old a h g = stops_behind e (Items (n + 1) ∷ []) [] (passes_more (Items (n + 1) ∷ []) h) g

pub params_done : (n : ℕ) (old a : Reading) (xs : Trees) (b : Reading) → Passes (Just Open ∷ []) [] [] (this (mark Open)
    ∷ []) old a → Listed (n + 1) a xs b → Params n old xs b
params_done n old a xs b h g = (g.0, passes_then h g.1)
