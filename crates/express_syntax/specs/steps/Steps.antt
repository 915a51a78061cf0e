-- Reading a schema with the predictive table, from one reading to another.
use Rattle.std.specs.Prelude.{◌≡◌, ℕ, List, [], ◌∷◌, ◌++◌, map, Option, Some, None, Result, MatchResult}
use Rattle.parsing.specs.Tables.{Table, lookaheads}
use Rattle.parsing.specs.Lexers as lexers
use Rattle.express_lexer.specs.Reading.{Reading}
use Rattle.express_syntax.specs.Words.{Word}
use Rattle.express_syntax.specs.Grammar.{depth_limit}
use Rattle.express_syntax.specs.declared.fault.FaultKind.{FaultKind}
use Rattle.express_syntax.specs.declared.fault.SyntaxFault.{SyntaxFault}
use Rattle.express_syntax.specs.declared.fault.SyntaxFault.TheVariants as faults
use Rattle.express_syntax.specs.Schemas.{Schema}
use Rattle.express_syntax.specs.Profile.{FitsSchema}
use Rattle.express_syntax.specs.Texts.{Lookahead, token, LocatedToken, Shows, ShowsAll, lookaheads_of}
use Rattle.express_syntax.specs.steps.Predict.{Symbol, next, run}

-- the table for the greatest number of open brackets
abbrev pub table : Table Symbol Lookahead FaultKind
table = next depth_limit

-- the tokens of a schema with at most this number of open brackets, and the end of the text
abbrev pub IsSchema : ℕ → List Lookahead → Type 0
IsSchema levels s = (x : Schema) × FitsSchema levels x × (s ≡ lookaheads_of x)

-- these words occur between two readings
abbrev pub Reads : Reading → List Word → Reading → Type 0
Reads old ws new = lexers.Reads Shows old (map token ws) new

-- reading from one reading to another turns what is expected, these symbols first, into something
-- else
abbrev pub Turns : List Symbol → List Symbol → List LocatedToken → Reading → Reading → Type 0
Turns ys zs before old new = lexers.Turns table Shows ys zs before old new

-- the kind and the byte offset of a fault; `None` if memory ran out
abbrev pub fault_at : SyntaxFault → Option (FaultKind × ℕ)
fault_at faults.Memory = None
fault_at (faults.Fault kind place) = Some (kind, place)

-- what is expected first, or first after these symbols, is missing: a fault, whatever follows
abbrev pub StopsIn : SyntaxFault → List Symbol → List LocatedToken → Reading → Type 0
StopsIn e ys before old = lexers.StopsIn table Shows (fault_at e) ys before old

-- these words, of which the first ones are taken already, occur between two readings, and turn what
-- is expected into something else
pub record Passes (ys zs : List Symbol) (before : List LocatedToken) (ws : List Word) (old new : Reading) : Type 0 where
  pub shown : List LocatedToken
  pub shown_all : ShowsAll old shown new
  pub words : lookaheads (before ++ shown) ≡ map token ws
  pub turned : (more : List Symbol) (q : List LocatedToken) → run depth_limit (ys ++ more)
      (before ++ (shown ++ q)) ≡ run depth_limit (zs ++ more) q

-- A parser of these symbols: on success the words of its result occur between the two readings and
-- are derived from the symbols. On failure the symbols' tokens aren't there.
abbrev pub Parses : {A : Type 0} → Result A SyntaxFault → List Symbol → (A → List Word) → Reading → Reading → Type 0
Parses result ys words old new = MatchResult result (λ x. Passes ys [] [] (words x) old new) (λ e. StopsIn e ys [] old)

-- the result satisfies this predicate
abbrev pub ParsesWhere : {A : Type 0} → Result A SyntaxFault → List Symbol → (A → List Word) → (A → Type 0) → Reading
    → Reading → Type 0
ParsesWhere result ys words Holds old new = MatchResult result (λ x. Holds x × Passes ys [] [] (words x) old new)
    (λ e. StopsIn e ys [] old)

-- a parser whose first token is taken already
abbrev pub ParsesFrom : {A : Type 0} → LocatedToken → Result A SyntaxFault → List Symbol → (A → List Word)
    → (A → Type 0) → Reading → Reading → Type 0
ParsesFrom first result ys words Holds old new = MatchResult result (λ x. Holds x × Passes ys [] (first ∷ []) (words x)
    old new) (λ e. StopsIn e ys (first ∷ []) old)

-- a parser whose first words are read already
abbrev pub ParsesBehind : {A : Type 0} → List Word → Result A SyntaxFault → List Symbol → (A → List Word) → (A → Type 0)
    → Reading → Reading → Type 0
ParsesBehind said result ys words Holds old new = MatchResult result (λ x. Holds x × (ws : List Word)
    × (words x ≡ said ++ ws) × Passes ys [] [] ws old new) (λ e. StopsIn e ys [] old)
