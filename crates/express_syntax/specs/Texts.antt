-- The schema that a text reads as, and its first fault if it reads as none (ISO 10303-11, 7 to 9).
use Rattle.std.specs.Prelude.{◌≡◌, ℕ, ◌+◌, ◌<◌, List, [], ◌∷◌, ◌++◌, length, map}
use Rattle.parsing.specs.Tables as tables
use Rattle.parsing.specs.Tables.{lookaheads}
use Rattle.parsing.specs.Lexers as lexers
use Rattle.express_lexer.specs.declared.token.Token.{Token}
use Rattle.express_lexer.specs.declared.token.TextFault.{TextFault}
use Rattle.express_lexer.specs.Reading.{Reading, start, Takes, IsAtEnd, IsFaulty}
use Rattle.express_syntax.specs.declared.keyword.Keyword.{Keyword}
use Rattle.express_syntax.specs.declared.keyword.Keyword.TheVariants as keywords
use Rattle.express_syntax.specs.Words.{Word, keyword, word_of_sort}
use Rattle.express_syntax.specs.Grammar.{depth_limit}
use Rattle.express_syntax.specs.declared.fault.FaultKind.{FaultKind}
use Rattle.express_syntax.specs.declared.fault.FaultKind.TheVariants as fault_kinds
use Rattle.express_syntax.specs.declared.fault.LeftOut.{LeftOut}
use Rattle.express_syntax.specs.declared.fault.LeftOut.TheVariants as left_out
use Rattle.express_syntax.specs.declared.fault.SchemaFault.{SchemaFault}
use Rattle.express_syntax.specs.declared.fault.SchemaFault.TheVariants as faults
use Rattle.express_syntax.specs.Schemas.{Skipped, Schema}
use Rattle.express_syntax.specs.WrittenSchemas.{concatenated, words_of_opening, words_of_declaration, words_of_skipped, words_of_schema}
use Rattle.express_syntax.specs.Profile.{FitsSkipped, FitsSchema}

-- what a lexer finds next in a text: a token, something that is no token, or the end
pub data Lookahead : Type 0 where
  token : Word → Lookahead
  flawed : Lookahead
  end_of_text : Lookahead

-- what a lexer finds, and the number of bytes before it
abbrev pub LocatedToken : Type 0
LocatedToken = tables.LocatedToken Lookahead

abbrev pub located : Token → LocatedToken
located t = record { lookahead = token (word_of_sort t.sort); place = t.place }

-- what a lexer finds next, and how far the text is read then
pub data Shows (old : Reading) (s : LocatedToken) (new : Reading) : Type 0 where
  shows_token : (t : Token) → Takes old t new → s ≡ located t → Shows old s new
  shows_fault : (f : TextFault) → IsFaulty old f new → s ≡ record {
    lookahead = flawed;
    place = f.place;
  } → Shows old s new
  shows_end : IsAtEnd old new → s ≡ record { lookahead = end_of_text; place = length old.text } → Shows old s new

-- what a lexer finds, one after another
abbrev pub ShowsAll : Reading → List LocatedToken → Reading → Type 0
ShowsAll = lexers.ShowsAll Shows

-- the tokens of a schema, and the end of the text
abbrev pub lookaheads_of : Schema → List Lookahead
lookaheads_of x = map token (words_of_schema x) ++ end_of_text ∷ []

-- the text reads as this schema
pub record ReadsAs (text : List ℕ) (x : Schema) : Type 0 where
  pub fits : FitsSchema depth_limit x
  pub shown : List LocatedToken
  pub end : Reading
  pub shows : ShowsAll (start text) shown end
  pub are : lookaheads shown ≡ lookaheads_of x

-- some text reads as this schema
abbrev pub IsRead : Schema → Type 0
IsRead x = (text : List ℕ) × ReadsAs text x

-- the tokens so far are a prefix of the tokens of some schema in which at most `levels` brackets
-- are open
pub record IsViablePrefix (levels : ℕ) (s : List Lookahead) : Type 0 where
  pub rest : List Lookahead
  pub schema : Schema
  pub fits : FitsSchema levels schema
  pub tokens : s ++ rest ≡ lookaheads_of schema

-- The tokens so far end inside a skipped declaration, after its first word. x is the schema before
-- this declaration.
pub record IsInSkipped (before : List Lookahead) : Type 0 where
  pub x : Schema
  pub fits : FitsSchema depth_limit x
  pub skipped : Skipped
  pub skipped_fits : FitsSkipped skipped
  pub part : List Word
  pub rest : List Word
  pub split : words_of_skipped skipped ≡ part ++ rest
  pub begun : 0 < length part
  pub unended : 0 < length rest
  pub tokens : before ≡ map token (words_of_opening x ++ concatenated (map words_of_declaration x.declarations) ++ part)

-- this word begins a part that isn't read, and it isn't inside a skipped declaration
abbrev pub BeginsLeftOut : List Lookahead → Lookahead → Keyword → Type 0
BeginsLeftOut before at k = (at ≡ token (keyword k)) × (IsInSkipped before → ⊥)

-- a part of EXPRESS that isn't read begins with this token
abbrev pub IsLeftOut : List Lookahead → Lookahead → LeftOut → Type 0
IsLeftOut before at left_out.Use = BeginsLeftOut before at keywords.Use
IsLeftOut before at left_out.Reference = BeginsLeftOut before at keywords.Reference
IsLeftOut before at left_out.Renamed = BeginsLeftOut before at keywords.Renamed
IsLeftOut before at left_out.Extensible = BeginsLeftOut before at keywords.Extensible
IsLeftOut before at left_out.BasedOn = BeginsLeftOut before at keywords.BasedOn
IsLeftOut before at left_out.GenericEntity = BeginsLeftOut before at keywords.GenericEntity
IsLeftOut before at left_out.SecondSchema = BeginsLeftOut before at keywords.Schema
IsLeftOut before at left_out.TooLarge = ⊥

-- Whether this kind of fault applies to a token that can't follow those before it. The token is too
-- deep if one more open bracket would allow it.
abbrev pub FaultApplies : List Lookahead → Lookahead → FaultKind → Type 0
FaultApplies before at fault_kinds.BadToken = at ≡ flawed
FaultApplies before at (fault_kinds.LeftOut part) = IsLeftOut before at part
FaultApplies before at fault_kinds.TooDeep = IsViablePrefix (depth_limit + 1) (before ++ at ∷ [])
FaultApplies before at fault_kinds.Expected = Unit {0}

-- A fault is of kind `Expected` only if no other kind applies.
abbrev pub IsKind : List Lookahead → Lookahead → FaultKind → Type 0
IsKind before at fault_kinds.Expected = (kind : FaultKind) → (kind ≡ fault_kinds.Expected → ⊥)
    → FaultApplies before at kind → ⊥
IsKind before at kind = FaultApplies before at kind

-- The first fault: with the token at this offset, the tokens so far are no longer a viable prefix.
pub record IsFirstFault (text : List ℕ) (kind : FaultKind) (place : ℕ) : Type 0 where
  pub before : List LocatedToken
  pub at : LocatedToken
  pub here : Reading
  pub next : Reading
  pub read : ShowsAll (start text) before here
  pub shown : Shows here at next
  pub viable : IsViablePrefix depth_limit (lookaheads before)
  -- the tokens before it and the end of the text aren't a whole schema
  pub unended : (x : Schema) → FitsSchema depth_limit x → lookaheads before ≡ lookaheads_of x → ⊥
  pub refused : IsViablePrefix depth_limit (lookaheads (before ++ at ∷ [])) → ⊥
  pub kind_is : IsKind (lookaheads before) at.lookahead kind
  pub place_is : place ≡ at.place

-- A fault of a text is its first fault, never one of a name. Memory may run out at any time.
abbrev pub IsFaultOf : List ℕ → SchemaFault → Type 0
IsFaultOf text faults.Memory = Unit {0}
IsFaultOf text (faults.Text kind place) = IsFirstFault text kind place
IsFaultOf text (faults.Name kind name) = ⊥

abbrev pub IsMemory : SchemaFault → Type 0
IsMemory e = e ≡ faults.Memory
