-- Tokens as contracts see them, and what a lexer shows of a text.
use Rattle.std.specs.Prelude.{◌≡◌, ℕ, List, length}
use Rattle.parsing.specs.Tables as tables
use Rattle.parsing.specs.Lexers as lexers
use Rattle.step_lexer.specs.declared.token.Mark.{Mark}
use Rattle.step_lexer.specs.declared.token.Sort.{Sort}
use Rattle.step_lexer.specs.declared.token.Sort.TheVariants as sorts
use Rattle.step_lexer.specs.declared.token.Token.{Token}
use Rattle.step_literals.specs.declared.fault.Flaw.{Flaw}
use Rattle.step_literals.specs.declared.fault.TextFault.{TextFault}
use Rattle.step_lexer.specs.Reading.{Reading, Takes, IsAtEnd, IsFaulty}

-- A token without its byte offset. Literals keep their spelling; an element is the word between its dots.
pub data Word : Type 0 where
  begins : Word
  ends : Word
  keyword : List ℕ → Word
  user_defined : List ℕ → Word
  scope : Word
  name : ℕ → List ℕ → Word
  number : List ℕ → Word
  element : List ℕ → Word
  string : List ℕ → Word
  binary : List ℕ → Word
  mark : Mark → Word

-- the word of a token of this sort with this spelling
abbrev pub word_of : Sort → List ℕ → Word
word_of sorts.Begin text = begins
word_of sorts.End text = ends
word_of (sorts.Keyword w) text = keyword w.text.now
word_of (sorts.UserDefined w) text = user_defined w.text.now
word_of sorts.Scope text = scope
word_of (sorts.Name n) text = name n text
word_of (sorts.Integer d) text = number d.text.now
word_of (sorts.Real d) text = number d.text.now
word_of (sorts.Element w) text = element w.text.now
word_of (sorts.String s) text = string s.text.now
word_of (sorts.Binary b) text = binary b.text.now
word_of (sorts.Mark m) text = mark m

-- what a text may have at a byte offset: a token, a flaw, or the end
pub data Lookahead : Type 0 where
  token : Word → Lookahead
  flawed : Flaw → Lookahead
  end_of_text : Lookahead

-- a lookahead of a text, and the number of bytes before it, or before its fault
abbrev pub LocatedToken : Type 0
LocatedToken = tables.LocatedToken Lookahead

abbrev pub located : Token → LocatedToken
located t = record { lookahead = token (word_of t.sort t.text.now); place = t.place }

abbrev pub located_fault : TextFault → LocatedToken
located_fault f = record { lookahead = flawed f.flaw; place = f.place }

abbrev pub located_end : Reading → LocatedToken
located_end r = record { lookahead = end_of_text; place = length r.text }

-- what a lexer shows next, and how far the text is read then
pub data Shows (old : Reading) (s : LocatedToken) (new : Reading) : Type 0 where
  shows_token : (t : Token) → Takes old t new → s ≡ located t → Shows old s new
  shows_fault : (f : TextFault) → IsFaulty old f new → s ≡ located_fault f → Shows old s new
  shows_end : IsAtEnd old new → s ≡ located_end old → Shows old s new

-- these are what a lexer shows in turn
abbrev pub ShowsAll : Reading → List LocatedToken → Reading → Type 0
ShowsAll = lexers.ShowsAll Shows
