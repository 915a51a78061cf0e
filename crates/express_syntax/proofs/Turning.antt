-- How reading goes on: what is to come, step by step.
use Rattle.std.proofs.Common.{◌≡◌, List, [], ◌∷◌, ◌++◌, map, Ok, Err, refl, ap}
use Rattle.parsing.specs.Tables.{lookaheads}
use Rattle.parsing.proofs.Running.{Reaches}
use Rattle.parsing.proofs.Turning as turning
use Rattle.parsing.proofs.Turning.{Pass}
use Rattle.parsing.proofs.Shown as shown
use Rattle.express_lexer.specs.declared.token.Token.{Token}
use Rattle.express_lexer.specs.Reading.{Reading, Takes}
use Rattle.express_syntax.specs.Words.{Word, word_of_sort}
use Rattle.express_syntax.specs.Grammar.{depth_limit}
use Rattle.express_syntax.specs.declared.fault.FaultKind.{FaultKind}
use Rattle.express_syntax.specs.declared.fault.SyntaxFault.{SyntaxFault}
use Rattle.express_syntax.specs.declared.fault.SyntaxFault.TheVariants as faults
use Rattle.express_syntax.specs.Texts.{token, LocatedToken, located, Shows, shows_token, ShowsAll}
use Rattle.express_syntax.specs.steps.Predict.{Symbol, next}
use Rattle.express_syntax.specs.steps.Steps.{table, Reads, Turns, fault_at, StopsIn}

-- nothing is read
pub turns_here : (ys : List Symbol) (r : Reading) → Turns ys ys [] r r
turns_here ys r = turning.turns_here table Shows ys r

-- tokens that turn the stack, of which some are taken already
pub turns_reaches : (ys zs : List Symbol) (before s : List LocatedToken) (old new : Reading) → ShowsAll old s new
    → Reaches table ys (before ++ s) zs → Turns ys zs before old new
turns_reaches ys zs before s old new h g = turning.turns_reaches table Shows ys zs before s old new h g

-- a token that may stand there
pub turns_token : (y : Symbol) (zs ys : List Symbol) (t : Token) (old new : Reading) → Takes old t new
    → next depth_limit y (located t).lookahead ≡ Ok zs → Turns (y ∷ ys) (zs ++ ys) [] old new
turns_token y zs ys t old new h e = turning.turns_token table Shows y zs ys (located t) old new (shows_token t h refl) e

-- a token that is allowed and taken already
pub turns_taken : (y : Symbol) (zs ys : List Symbol) (t : Token) (r : Reading)
    → next depth_limit y (located t).lookahead ≡ Ok zs → Turns (y ∷ ys) (zs ++ ys) (located t ∷ []) r r
turns_taken y zs ys t r e = turning.turns_taken table Shows y zs ys (located t) r e

-- one after another
pub turns_join : (ys zs ws : List Symbol) (before : List LocatedToken) (a b c : Reading) → Turns ys zs before a b
    → Turns zs ws [] b c → Turns ys ws before a c
turns_join ys zs ws before a b c h g = turning.turns_join table Shows ys zs ws before a b c h g

-- with more to come behind
pub turns_more : (ys zs ws : List Symbol) (before : List LocatedToken) (a b : Reading) → Turns ys zs before a b
    → Turns (ys ++ ws) (zs ++ ws) before a b
turns_more ys zs ws before a b h = turning.turns_more table Shows ys zs ws before a b h

-- a token taken already may as well be read first
pub turns_first : (ys zs : List Symbol) (t : Token) (a b c : Reading) → Takes a t b → Turns ys zs (located t ∷ []) b c
    → Turns ys zs [] a c
turns_first ys zs t a b c h g = turning.turns_first table Shows ys zs (located t) a b c (shows_token t h refl) g

-- words that pass
pub turns_reads : (ys : List Symbol) (ws : List Word) (old new : Reading) → Pass table ys (map token ws)
    → Reads old ws new → Turns ys [] [] old new
turns_reads ys ws old new pass h = turning.turns_reads table Shows ys (map token ws) old new pass h

-- words that pass, where the first of them is taken already
pub turns_reads_first : (ys : List Symbol) (ws : List Word) (t : Token) (old new : Reading)
    → Pass table ys (map token ws) → (s : List LocatedToken) → ShowsAll old s new → lookaheads (located t ∷ s) ≡ map
    token ws → Turns ys [] (located t ∷ []) old new
turns_reads_first ys ws t old new pass s h e = turning.turns_reads_first table Shows ys (map token ws) (located t) old
    new pass s h e

-- what stops behind what was read stops it all
pub stops_via : (e : SyntaxFault) (ys zs ws : List Symbol) (before : List LocatedToken) (old mid : Reading)
    → Turns ys (zs ++ ws) before old mid → StopsIn e zs [] mid → StopsIn e ys before old
stops_via e ys zs ws before old mid h g = turning.stops_via table Shows (fault_at e) ys zs ws before old mid h g

-- the same where the stop has its first token taken already
pub stops_via_taken : (e : SyntaxFault) (ys zs ws : List Symbol) (before : List LocatedToken) (t : Token)
    (old mid new : Reading) → Turns ys (zs ++ ws) before old mid → Takes mid t new → StopsIn e zs (located t ∷ []) new
    → StopsIn e ys before old
stops_via_taken e ys zs ws before t old mid new h taken g = turning.stops_via_taken table Shows (fault_at e) ys zs ws
    before (located t) old mid new h (shows_token t taken refl) g

-- a token that can't stand there
pub stops_token : (k : FaultKind) (y : Symbol) (t : Token) (old new : Reading) → Takes old t new
    → next depth_limit y (located t).lookahead ≡ Err k → StopsIn (faults.Fault k t.place) (y ∷ []) [] old
stops_token k y t old new h e = turning.stops_token table Shows k y (located t) old new (shows_token t h refl) e

-- a token that isn't allowed and is taken already
pub stops_taken : (k : FaultKind) (y : Symbol) (t : Token) (r : Reading)
    → next depth_limit y (located t).lookahead ≡ Err k → StopsIn (faults.Fault k t.place) (y ∷ []) (located t ∷ []) r
stops_taken k y t r e = turning.stops_taken table Shows k y (located t) r e

-- what a lexer shows that can't stand there
pub stops_shown : (k : FaultKind) (y : Symbol) (s : LocatedToken) (old new : Reading) → Shows old s new
    → next depth_limit y s.lookahead ≡ Err k → StopsIn (faults.Fault k s.place) (y ∷ []) [] old
stops_shown k y s old new h e = turning.stops_token table Shows k y s old new h e

-- what stops what is first stops all
pub stops_more : (e : SyntaxFault) (ys ws : List Symbol) (before : List LocatedToken) (old : Reading)
    → StopsIn e ys before old → StopsIn e (ys ++ ws) before old
stops_more e ys ws before old h = turning.stops_more table Shows (fault_at e) ys ws before old h

map_append : (u v : List Word) → map token u ++ map token v ≡ map token (u ++ v)
map_append [] v = refl
map_append (w ∷ u) v = ap (λ l. token w ∷ l) (map_append u v)

-- nothing is read
pub reads_none : (a : Reading) → Reads a [] a
reads_none a = shown.reads_none Shows a

-- one token
pub reads_token : (t : Token) (a b : Reading) → Takes a t b → Reads a (word_of_sort t.sort ∷ []) b
reads_token t a b h = shown.reads_token Shows a (located t) b (shows_token t h refl)

-- some words and others
pub reads_join : (a : Reading) (u : List Word) (b : Reading) (v : List Word) (c : Reading) → Reads a u b → Reads b v c
    → Reads a (u ++ v) c
reads_join a u b v c h g = shown.reads_as Shows a (map token u ++ map token v) (map token (u ++ v)) c (map_append u v)
    (shown.reads_join Shows a (map token u) b (map token v) c h g)

-- a token and more
pub reads_first : (t : Token) (ws : List Word) (a b c : Reading) → Takes a t b → Reads b ws c
    → Reads a (word_of_sort t.sort ∷ ws) c
reads_first t ws a b c h g = shown.reads_first Shows a (located t) b (map token ws) c (shows_token t h refl) g

-- words of which the first is taken already
pub reads_taken : (ws : List Word) (t : Token) (a b c : Reading) → Takes a t b → (s : List LocatedToken)
    → ShowsAll b s c → lookaheads (located t ∷ s) ≡ map token ws → Reads a ws c
reads_taken ws t a b c h s all e = shown.reads_taken Shows a (located t) b (map token ws) c (shows_token t h refl) s all
    e
