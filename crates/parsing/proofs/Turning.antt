-- How reading goes on: what is to come, step by step.
use Rattle.std.proofs.Common.{◌≡◌, ℕ, List, [], ◌∷◌, ◌++◌, Option, Some, None, Ok, Err, refl, sym, ap, ◌∙◌, append_assoc, append-nil}
use Rattle.parsing.specs.Tables.{LocatedToken, lookaheads, Table, run, stops}
use Rattle.parsing.specs.Lexers.{ShowsAll, Reads, Turns, StopsIn}
use Rattle.parsing.proofs.Running.{Reaches, run_ok, run_err, reaches_run, reaches_more}
use Rattle.parsing.proofs.Shown.{shows_join}

-- nothing is read
pub turns_here : {S W K R : Type 0} (table : Table S W K) (shows : R → LocatedToken W → R → Type 0) (ys : List S)
    (r : R) → Turns table shows ys ys [] r r
turns_here table shows ys r = record { shown = []; shown_all = refl; turned = λ more q. refl }

-- tokens that turn the stack, of which some are taken already
pub turns_reaches : {S W K R : Type 0} (table : Table S W K) (shows : R → LocatedToken W → R → Type 0) (ys zs : List S)
    (before s : List (LocatedToken W)) (old new : R) → ShowsAll shows old s new → Reaches table ys (before ++ s) zs
    → Turns table shows ys zs before old new
turns_reaches table shows ys zs before s old new h g = record {
  shown = s;
  shown_all = h;
  turned = λ more q. ap (run table (ys ++ more)) (sym (append_assoc before s q)) ∙ reaches_run table (before ++ s)
      (ys ++ more) (zs ++ more) q (reaches_more table (before ++ s) ys zs more g);
}

-- a token that may stand there
pub turns_token : {S W K R : Type 0} (table : Table S W K) (shows : R → LocatedToken W → R → Type 0) (y : S)
    (zs ys : List S) (t : LocatedToken W) (old new : R) → shows old t new → table y t.lookahead ≡ Ok zs
    → Turns table shows (y ∷ ys) (zs ++ ys) [] old new
turns_token table shows y zs ys t old new h e = record {
  shown = t ∷ [];
  shown_all = (new, h, refl);
  turned = λ more q. run_ok table y zs (ys ++ more) t q e ∙ ap (λ l. run table l q) (sym (append_assoc zs ys more));
}

-- a token that may come next, and is read already
pub turns_taken : {S W K R : Type 0} (table : Table S W K) (shows : R → LocatedToken W → R → Type 0) (y : S)
    (zs ys : List S) (t : LocatedToken W) (r : R) → table y t.lookahead ≡ Ok zs → Turns table shows (y ∷ ys) (zs ++ ys)
    (t ∷ []) r r
turns_taken table shows y zs ys t r e = record {
  shown = [];
  shown_all = refl;
  turned = λ more q. run_ok table y zs (ys ++ more) t q e ∙ ap (λ l. run table l q) (sym (append_assoc zs ys more));
}

-- one after another
pub turns_join : {S W K R : Type 0} (table : Table S W K) (shows : R → LocatedToken W → R → Type 0) (ys zs ws : List S)
    (before : List (LocatedToken W)) (a b c : R) → Turns table shows ys zs before a b → Turns table shows zs ws [] b c
    → Turns table shows ys ws before a c
turns_join table shows ys zs ws before a b c h g = record {
  shown = h.shown ++ g.shown;
  shown_all = shows_join shows a h.shown b g.shown c h.shown_all g.shown_all;
  turned = λ more q. ap (λ l. run table (ys ++ more) (before ++ l)) (append_assoc h.shown g.shown q)
      ∙ h.turned more (g.shown ++ q) ∙ g.turned more q;
}

-- with more to come behind
pub turns_more : {S W K R : Type 0} (table : Table S W K) (shows : R → LocatedToken W → R → Type 0) (ys zs ws : List S)
    (before : List (LocatedToken W)) (a b : R) → Turns table shows ys zs before a b → Turns table shows (ys ++ ws)
    (zs ++ ws) before a b
turns_more table shows ys zs ws before a b h = record {
  shown = h.shown;
  shown_all = h.shown_all;
  turned = λ more q. ap (λ l. run table l (before ++ (h.shown ++ q))) (append_assoc ys ws more)
      ∙ h.turned (ws ++ more) q ∙ ap (λ l. run table l q) (sym (append_assoc zs ws more));
}

-- a token taken already may as well be read first
pub turns_first : {S W K R : Type 0} (table : Table S W K) (shows : R → LocatedToken W → R → Type 0) (ys zs : List S)
    (t : LocatedToken W) (a b c : R) → shows a t b → Turns table shows ys zs (t ∷ []) b c → Turns table shows ys zs [] a
    c
turns_first table shows ys zs t a b c h g = record {
  shown = t ∷ g.shown;
  shown_all = (b, h, g.shown_all);
  turned = λ more q. g.turned more q;
}

-- these lookaheads pass
abbrev pub Pass : {S W K : Type 0} → Table S W K → List S → List W → Type 0
Pass {S} {W} table ys ws = (more : List S) (s rest : List (LocatedToken W)) → lookaheads s ≡ ws
    → run table (ys ++ more) (s ++ rest) ≡ run table more rest

-- what passes
pub turns_reads : {S W K R : Type 0} (table : Table S W K) (shows : R → LocatedToken W → R → Type 0) (ys : List S)
    (ws : List W) (old new : R) → Pass table ys ws → Reads shows old ws new → Turns table shows ys [] [] old new
turns_reads table shows ys ws old new pass h = record {
  shown = h.0;
  shown_all = h.1;
  turned = λ more q. pass more h.0 q h.2;
}

-- what passes, if its first token is read already
pub turns_reads_first : {S W K R : Type 0} (table : Table S W K) (shows : R → LocatedToken W → R → Type 0) (ys : List S)
    (ws : List W) (t : LocatedToken W) (old new : R) → Pass table ys ws → (s : List (LocatedToken W))
    → ShowsAll shows old s new → lookaheads (t ∷ s) ≡ ws → Turns table shows ys [] (t ∷ []) old new
turns_reads_first table shows ys ws t old new pass s h e = record {
  shown = s;
  shown_all = h;
  turned = λ more q. pass more (t ∷ s) q e;
}

-- what stops behind what was read stops it all
pub stops_via : {S W K R : Type 0} (table : Table S W K) (shows : R → LocatedToken W → R → Type 0) (f : Option (K × ℕ))
    (ys zs ws : List S) (before : List (LocatedToken W)) (old mid : R) → Turns table shows ys (zs ++ ws) before old mid
    → StopsIn table shows f zs [] mid → StopsIn table shows f ys before old
stops_via table shows None ys zs ws before old mid h g = tt
stops_via table shows (Some f) ys zs ws before old mid h g = (
  h.shown ++ g.0,
  g.1,
  shows_join shows old h.shown mid g.0 g.1 h.shown_all g.2,
  λ more. h.turned more g.0 ∙ ap (λ l. run table l g.0) (append_assoc zs ws more) ∙ g.3 (ws ++ more),
)

-- the same where the stop has its first token taken already
pub stops_via_taken : {S W K R : Type 0} (table : Table S W K) (shows : R → LocatedToken W → R → Type 0)
    (f : Option (K × ℕ)) (ys zs ws : List S) (before : List (LocatedToken W)) (t : LocatedToken W) (old mid new : R)
    → Turns table shows ys (zs ++ ws) before old mid → shows mid t new → StopsIn table shows f zs (t ∷ []) new
    → StopsIn table shows f ys before old
stops_via_taken table shows None ys zs ws before t old mid new h taken g = tt
stops_via_taken table shows (Some f) ys zs ws before t old mid new h taken g = (
  h.shown ++ (t ∷ g.0),
  g.1,
  shows_join shows old h.shown mid (t ∷ g.0) g.1 h.shown_all (new, taken, g.2),
  λ more. h.turned more (t ∷ g.0) ∙ ap (λ l. run table l (t ∷ g.0)) (append_assoc zs ws more) ∙ g.3 (ws ++ more),
)

-- a token that can't stand there
pub stops_token : {S W K R : Type 0} (table : Table S W K) (shows : R → LocatedToken W → R → Type 0) (k : K) (y : S)
    (t : LocatedToken W) (old new : R) → shows old t new → table y t.lookahead ≡ Err k
    → StopsIn table shows (Some (k, t.place)) (y ∷ []) [] old
stops_token table shows k y t old new h e = (t ∷ [], new, (new, h, refl), λ more. run_err table y k more t [] e)

-- a token that can't come next, and is read already
pub stops_taken : {S W K R : Type 0} (table : Table S W K) (shows : R → LocatedToken W → R → Type 0) (k : K) (y : S)
    (t : LocatedToken W) (r : R) → table y t.lookahead ≡ Err k → StopsIn table shows (Some (k, t.place)) (y ∷ [])
    (t ∷ []) r
stops_taken table shows k y t r e = ([], r, refl, λ more. run_err table y k more t [] e)

-- what stops what is first stops all
pub stops_more : {S W K R : Type 0} (table : Table S W K) (shows : R → LocatedToken W → R → Type 0) (f : Option (K × ℕ))
    (ys ws : List S) (before : List (LocatedToken W)) (old : R) → StopsIn table shows f ys before old
    → StopsIn table shows f (ys ++ ws) before old
stops_more table shows None ys ws before old g = tt
stops_more table shows (Some f) ys ws before old g = (
  g.0,
  g.1,
  g.2,
  λ more. ap (λ l. run table l (before ++ g.0))
      (append_assoc ys ws more) ∙ g.3 (ws ++ more),
)

-- a stop from the start
pub stops_run : {S W K R : Type 0} (table : Table S W K) (shows : R → LocatedToken W → R → Type 0) (k : K) (place : ℕ)
    (ys : List S) (old : R) → StopsIn table shows (Some (k, place)) ys [] old → (s : List (LocatedToken W)) × (new : R)
    × ShowsAll shows old s new × (run table ys s ≡ stops k place)
stops_run table shows k place ys old g = (g.0, g.1, g.2, ap (λ l. run table l g.0) (sym (append-nil ys)) ∙ g.3 [])
