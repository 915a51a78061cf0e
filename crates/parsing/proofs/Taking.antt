-- Items that turn what is to come, one behind another.
use Rattle.std.proofs.Common.{◌≡◌, ℕ, List, [], ◌∷◌, ◌++◌, Option, Some, None, Ok, refl, sym, ap, ◌∙◌, subst, append_assoc, append-nil}
use Rattle.parsing.specs.Tables.{LocatedToken, lookaheads, Table, run, step_on}
use Rattle.parsing.specs.Lexers.{Turns, StopsIn}
use Rattle.parsing.specs.steps.Steps.{Passes}
use Rattle.parsing.proofs.Lists.{lookaheads_append}
use Rattle.parsing.proofs.Running.{run_ok}
use Rattle.parsing.proofs.Shown.{shows_join}
use Rattle.parsing.proofs.Turning.{stops_via, stops_via_taken}

-- items one behind another tell lookaheads one behind another
abbrev pub Joins : {W I : Type 0} → (List W → List I → Type 0) → Type 0
Joins {W} {I} told = (u v : List W) (i j : List I) → told u i → told v j → told (u ++ v) (i ++ j)

module _ {S W K R I : Type 0} (table : Table S W K) (shows : R → LocatedToken W → R → Type 0)
    (told : List W → List I → Type 0) where
  -- what passes turns
  pub turns_of : {ys zs : List S} {before : List (LocatedToken W)} {items : List I} {old new : R}
      → Passes table shows told ys zs before items old new → Turns table shows ys zs before old new
  turns_of h = record { shown = h.shown; shown_all = h.shown_all; turned = h.turned }

  -- nothing is read
  pub passes_here : told [] [] → (ys : List S) (a : R) → Passes table shows told ys ys [] [] a a
  passes_here none ys a = record { shown = []; shown_all = refl; words = none; turned = λ more q. refl }

  -- the same items, written otherwise
  pub passes_as : {ys zs : List S} {before : List (LocatedToken W)} {items : List I} {old new : R} (others : List I)
      → items ≡ others → Passes table shows told ys zs before items old new
      → Passes table shows told ys zs before others old new
  passes_as {ys} {zs} {before} {items} {old} {new} others e h =
      subst (λ l. Passes table shows told ys zs before l old new) e h

  -- one part behind another
  pub passes_join : Joins told → {ys zs xs : List S} {before : List (LocatedToken W)} {i j : List I} {a b c : R}
      → Passes table shows told ys zs before i a b → Passes table shows told zs xs [] j b c
      → Passes table shows told ys xs before (i ++ j) a c
  passes_join joins {ys} {zs} {xs} {before} {i} {j} {a} {b} {c} h g = record {
    shown = h.shown ++ g.shown;
    shown_all = shows_join shows a h.shown b g.shown c h.shown_all g.shown_all;
    words =
        let e : lookaheads (before ++ h.shown) ++ lookaheads g.shown ≡ lookaheads (before ++ (h.shown ++ g.shown)) =
        sym (lookaheads_append (before ++ h.shown) g.shown) ∙ ap lookaheads (append_assoc before h.shown g.shown) in
        subst (λ l. told l (i ++ j)) e
        (joins (lookaheads (before ++ h.shown)) (lookaheads g.shown) i j h.words g.words);
    turned = λ more q. ap (λ l. run table (ys ++ more) (before ++ l)) (append_assoc h.shown g.shown q)
        ∙ h.turned more (g.shown ++ q) ∙ g.turned more q;
  }

  -- with more to come behind
  pub passes_more : {ys zs : List S} {before : List (LocatedToken W)} {items : List I} {a b : R} (xs : List S)
      → Passes table shows told ys zs before items a b
      → Passes table shows told (ys ++ xs) (zs ++ xs) before items a b
  passes_more {ys} {zs} {before} {items} {a} {b} xs h = record {
    shown = h.shown;
    shown_all = h.shown_all;
    words = h.words;
    turned = λ more q. ap (λ l. run table l (before ++ (h.shown ++ q))) (append_assoc ys xs more)
        ∙ h.turned (xs ++ more) q ∙ ap (λ l. run table l q) (sym (append_assoc zs xs more));
  }

  -- what was to come first passes, and then what was to come behind it
  pub passes_then : Joins told → {ys xs zs : List S} {before : List (LocatedToken W)} {i j : List I} {a b c : R}
      → Passes table shows told ys [] before i a b → Passes table shows told xs zs [] j b c
      → Passes table shows told (ys ++ xs) zs before (i ++ j) a c
  passes_then joins {ys} {xs} h g = passes_join joins (passes_more xs h) g

  -- a token
  pub passes_token : (y : S) (zs : List S) (i : I) (t : LocatedToken W) (old new : R) → shows old t new
      → told (t.lookahead ∷ []) (i ∷ []) → table y t.lookahead ≡ Ok zs
      → Passes table shows told (y ∷ []) zs [] (i ∷ []) old new
  passes_token y zs i t old new h m e = record {
    shown = t ∷ [];
    shown_all = (new, h, refl);
    words = m;
    turned = λ more q. run_ok table y zs more t q e;
  }

  -- a token that is read already
  pub passes_taken : (y : S) (zs : List S) (i : I) (t : LocatedToken W) (here : R)
      → told (t.lookahead ∷ []) (i ∷ []) → table y t.lookahead ≡ Ok zs
      → Passes table shows told (y ∷ []) zs (t ∷ []) (i ∷ []) here here
  passes_taken y zs i t here m e = record {
    shown = [];
    shown_all = refl;
    words = m;
    turned = λ more q. run_ok table y zs more t q e;
  }

  -- a token taken already may as well be read first
  pub passes_first : {ys zs : List S} {items : List I} {b c : R} (t : LocatedToken W) (a : R) → shows a t b
      → Passes table shows told ys zs (t ∷ []) items b c → Passes table shows told ys zs [] items a c
  passes_first {ys} {zs} {items} {b} {c} t a h g = record {
    shown = t ∷ g.shown;
    shown_all = (b, h, g.shown_all);
    words = g.words;
    turned = g.turned;
  }

  -- what stops behind what passes stops it all
  pub stops_behind : {ys : List S} {before : List (LocatedToken W)} {items : List I} {old mid : R}
      (f : Option (K × ℕ)) (zs xs : List S) → Passes table shows told ys (zs ++ xs) before items old mid
      → StopsIn table shows f zs [] mid → StopsIn table shows f ys before old
  stops_behind {ys} {before} {items} {old} {mid} f zs xs h g =
      stops_via table shows f ys zs xs before old mid (turns_of h) g

  -- the same where the stop has its first token taken already
  pub stops_behind_taken : {ys : List S} {before : List (LocatedToken W)} {items : List I} {old mid new : R}
      (f : Option (K × ℕ)) (zs xs : List S) (t : LocatedToken W)
      → Passes table shows told ys (zs ++ xs) before items old mid → shows mid t new
      → StopsIn table shows f zs (t ∷ []) new → StopsIn table shows f ys before old
  stops_behind_taken {ys} {before} {items} {old} {mid} {new} f zs xs t h taken g =
      stops_via_taken table shows f ys zs xs before t old mid new (turns_of h) taken g

module _ {S W K R : Type 0} (table : Table S W K) (shows : R → LocatedToken W → R → Type 0) where
  -- where nothing comes before the token that is taken
  pub stops_first : {old new : R} (f : Option (K × ℕ)) (ys : List S) (t : LocatedToken W) → shows old t new
      → StopsIn table shows f ys (t ∷ []) new → StopsIn table shows f ys [] old
  stops_first {old} {new} f ys t h g = stops_via_taken table shows f ys ys [] [] t old old new
      (record {
        shown = [];
        shown_all = refl;
        turned = λ more q. ap (λ l. run table (l ++ more) q) (sym (append-nil ys));
      })
      h g

  -- behind a token taken already this stops where another does
  pub stops_as : (f : Option (K × ℕ)) (y z : S) (t : LocatedToken W) (r : R)
      → table y t.lookahead ≡ table z t.lookahead → StopsIn table shows f (z ∷ []) (t ∷ []) r
      → StopsIn table shows f (y ∷ []) (t ∷ []) r
  stops_as None y z t r same h = tt
  stops_as (Some f) y z t r same h =
      (h.0, h.1, h.2, λ more. ap (step_on t.place (λ zs. run table zs h.0) more) same ∙ h.3 more)
