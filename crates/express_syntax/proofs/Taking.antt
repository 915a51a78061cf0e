-- Words that turn what is to come, one behind another.
use Rattle.std.proofs.Common.{◌≡◌, List, [], ◌∷◌, ◌++◌, map, Ok, Err, refl, sym, ap, ◌∙◌, subst, append_assoc, append-nil}
use Rattle.parsing.specs.Tables.{lookaheads, step_on}
use Rattle.parsing.proofs.Running.{run_ok}
use Rattle.parsing.proofs.Shown as shown
use Rattle.parsing.proofs.Turning as turning
use Rattle.express_lexer.specs.Reading.{Reading}
use Rattle.express_syntax.specs.Words.{Word}
use Rattle.express_syntax.specs.Grammar.{depth_limit}
use Rattle.express_syntax.specs.declared.fault.SyntaxFault.{SyntaxFault}
use Rattle.express_syntax.specs.declared.fault.SyntaxFault.TheVariants as faults
use Rattle.express_syntax.specs.Texts.{token, LocatedToken, Shows}
use Rattle.express_syntax.specs.steps.Predict.{Symbol, next, refused, run}
use Rattle.express_syntax.specs.steps.Steps.{table, Turns, fault_at, StopsIn, Passes}

lookaheads_append : (s u : List LocatedToken) → lookaheads (s ++ u) ≡ lookaheads s ++ lookaheads u
lookaheads_append [] u = refl
lookaheads_append (t ∷ s) u = ap (λ l. t.lookahead ∷ l) (lookaheads_append s u)

map_append : (u v : List Word) → map token u ++ map token v ≡ map token (u ++ v)
map_append [] v = refl
map_append (w ∷ u) v = ap (λ l. token w ∷ l) (map_append u v)

-- what passes turns
pub turns_of : {ys zs : List Symbol} {before : List LocatedToken} {ws : List Word} {old new : Reading}
    → Passes ys zs before ws old new → Turns ys zs before old new
turns_of h = record { shown = h.shown; shown_all = h.shown_all; turned = h.turned }

-- nothing is read
pub passes_here : (ys : List Symbol) (a : Reading) → Passes ys ys [] [] a a
passes_here ys a = record { shown = []; shown_all = refl; words = refl; turned = λ more q. refl }

-- the same words, written otherwise
pub passes_as : {ys zs : List Symbol} {before : List LocatedToken} {ws : List Word} {old new : Reading} (us : List Word)
    → ws ≡ us → Passes ys zs before ws old new → Passes ys zs before us old new
passes_as {ys} {zs} {before} {ws} {old} {new} us e h = subst (λ l. Passes ys zs before l old new) e h

-- one part behind another
pub passes_join : {ys zs xs : List Symbol} {before : List LocatedToken} {u v : List Word} {a b c : Reading}
    → Passes ys zs before u a b → Passes zs xs [] v b c → Passes ys xs before (u ++ v) a c
passes_join {ys} {zs} {xs} {before} {u} {v} {a} {b} {c} h g = record {
  shown = h.shown ++ g.shown;
  shown_all = shown.shows_join Shows a h.shown b g.shown c h.shown_all g.shown_all;
  words = ap lookaheads (sym (append_assoc before h.shown g.shown)) ∙ lookaheads_append (before ++ h.shown) g.shown
      ∙ ap (λ l. l ++ lookaheads g.shown) h.words ∙ ap (λ l. map token u ++ l) g.words ∙ map_append u v;
  turned = λ more q. ap (λ l. run depth_limit (ys ++ more) (before ++ l)) (append_assoc h.shown g.shown q)
      ∙ h.turned more (g.shown ++ q) ∙ g.turned more q;
}

-- with more to come behind
pub passes_more : {ys zs : List Symbol} {before : List LocatedToken} {ws : List Word} {a b : Reading} (xs : List Symbol)
    → Passes ys zs before ws a b → Passes (ys ++ xs) (zs ++ xs) before ws a b
passes_more {ys} {zs} {before} {ws} {a} {b} xs h = record {
  shown = h.shown;
  shown_all = h.shown_all;
  words = h.words;
  turned = λ more q. ap (λ l. run depth_limit l (before ++ (h.shown ++ q))) (append_assoc ys xs more)
      ∙ h.turned (xs ++ more) q ∙ ap (λ l. run depth_limit l q) (sym (append_assoc zs xs more));
}

-- what was to come first passes, and then what was to come behind it
pub passes_then : {ys xs zs : List Symbol} {before : List LocatedToken} {u v : List Word} {a b c : Reading}
    → Passes ys [] before u a b → Passes xs zs [] v b c → Passes (ys ++ xs) zs before (u ++ v) a c
passes_then {ys} {xs} h g = passes_join (passes_more xs h) g

-- a token
pub passes_token : (y : Symbol) (zs : List Symbol) (w : Word) (s : LocatedToken) (old new : Reading) → Shows old s new
    → s.lookahead ≡ token w → next depth_limit y (token w) ≡ Ok zs → Passes (y ∷ []) zs [] (w ∷ []) old new
passes_token y zs w s old new h e n = record {
  shown = s ∷ [];
  shown_all = (new, h, refl);
  words = ap (λ l. l ∷ []) e;
  turned = λ more q. run_ok table y zs more s q (ap (next depth_limit y) e ∙ n);
}

-- a token that is taken already passes
pub passes_taken : (y : Symbol) (zs : List Symbol) (w : Word) (s : LocatedToken) (here : Reading)
    → s.lookahead ≡ token w → next depth_limit y (token w) ≡ Ok zs → Passes (y ∷ []) zs (s ∷ []) (w ∷ []) here here
passes_taken y zs w s here e n = record {
  shown = [];
  shown_all = refl;
  words = ap (λ l. l ∷ []) e;
  turned = λ more q. run_ok table y zs more s q (ap (next depth_limit y) e ∙ n);
}

-- a token taken already may as well be read first
pub passes_first : {ys zs : List Symbol} {ws : List Word} {b c : Reading} (s : LocatedToken) (a : Reading) → Shows a s b
    → Passes ys zs (s ∷ []) ws b c → Passes ys zs [] ws a c
passes_first {ys} {zs} {ws} {b} {c} s a h g = record {
  shown = s ∷ g.shown;
  shown_all = (b, h, g.shown_all);
  words = g.words;
  turned = g.turned;
}

-- what stops behind what passes stops it all
pub stops_behind : {ys : List Symbol} {before : List LocatedToken} {ws : List Word} {old mid : Reading}
    (e : SyntaxFault) (zs xs : List Symbol) → Passes ys (zs ++ xs) before ws old mid → StopsIn e zs [] mid
    → StopsIn e ys before old
stops_behind {ys} {before} {ws} {old} {mid} e zs xs h g = turning.stops_via table Shows (fault_at e) ys zs xs before old
    mid (turns_of h) g

-- the same where the stop has its first token taken already
pub stops_behind_taken : {ys : List Symbol} {before : List LocatedToken} {ws : List Word} {old mid new : Reading}
    (e : SyntaxFault) (zs xs : List Symbol) (s : LocatedToken) → Passes ys (zs ++ xs) before ws old mid
    → Shows mid s new → StopsIn e zs (s ∷ []) new → StopsIn e ys before old
stops_behind_taken {ys} {before} {ws} {old} {mid} {new} e zs xs s h shows g = turning.stops_via_taken table Shows
    (fault_at e) ys zs xs before s old mid new (turns_of h) shows g

-- a fault with the first token taken is a fault with no token taken
pub stops_first : {old new : Reading} (e : SyntaxFault) (ys : List Symbol) (s : LocatedToken) → Shows old s new
    → StopsIn e ys (s ∷ []) new → StopsIn e ys [] old
stops_first {old} {new} e ys s shows g = turning.stops_via_taken table Shows (fault_at e) ys ys [] [] s old old new
    (record {
      shown = [];
      shown_all = refl;
      turned = λ more q. ap (λ l. run depth_limit (l ++ more) q) (sym (append-nil ys));
    })
    shows g

-- what stops what is first stops all
pub stops_all : (e : SyntaxFault) (ys xs : List Symbol) (before : List LocatedToken) (old : Reading)
    → StopsIn e ys before old → StopsIn e (ys ++ xs) before old
stops_all e ys xs before old h = turning.stops_more table Shows (fault_at e) ys xs before old h

-- a fault in a further symbol, after what passes, is a fault of all
pub stops_next : {ys : List Symbol} {before : List LocatedToken} {ws : List Word} {old mid : Reading} (e : SyntaxFault)
    (zs xs : List Symbol) → Passes ys [] before ws old mid → StopsIn e zs [] mid → StopsIn e (ys ++ (zs ++ xs)) before
    old
stops_next e zs xs h g = stops_behind e zs xs (passes_more (zs ++ xs) h) g

-- a token taken already that can't stand there
pub stops_here : (e : SyntaxFault) (y : Symbol) (s : LocatedToken) (here : Reading)
    → next depth_limit y s.lookahead ≡ Err (refused s.lookahead) → e ≡ faults.Fault (refused s.lookahead) s.place
    → StopsIn e (y ∷ []) (s ∷ []) here
stops_here e y s here n is = subst (λ f. StopsIn f (y ∷ []) (s ∷ []) here) (sym is)
    (turning.stops_taken table Shows (refused s.lookahead) y s here n)

-- behind a token taken already this takes what another does
pub passes_other : {zs : List Symbol} {ws : List Word} {old new : Reading} (y z : Symbol) (s : LocatedToken)
    → next depth_limit y s.lookahead ≡ next depth_limit z s.lookahead → Passes (z ∷ []) zs (s ∷ []) ws old new
    → Passes (y ∷ []) zs (s ∷ []) ws old new
passes_other y z s same h = record {
  shown = h.shown;
  shown_all = h.shown_all;
  words = h.words;
  turned = λ more q. ap (λ r. step_on s.place (λ zs. run depth_limit zs (h.shown ++ q)) more r) same ∙ h.turned more q;
}

-- a symbol that takes what another takes after a token fails where the other fails
pub stops_as : (e : SyntaxFault) (y z : Symbol) (s : LocatedToken) (old : Reading)
    → next depth_limit y s.lookahead ≡ next depth_limit z s.lookahead → StopsIn e (z ∷ []) (s ∷ []) old
    → StopsIn e (y ∷ []) (s ∷ []) old
stops_as faults.Memory y z s old same h = tt
stops_as (faults.Fault k p) y z s old same h =
    (h.0, h.1, h.2, λ more. ap (λ r. step_on s.place (λ zs. run depth_limit zs h.0) more r) same ∙ h.3 more)
