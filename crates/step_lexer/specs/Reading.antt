-- How far a text is read, and what its next token is.
use Rattle.std.specs.Prelude.{◌≡◌, ℕ, ◌+◌, Bool, true, false, length, Option, Result}
use Rattle.step_lexer.specs.declared.token.Mark.{Mark}
use Rattle.step_lexer.specs.declared.token.Token.{Token}
use Rattle.step_lexer.specs.declared.token.Sort.{Sort}
use Rattle.step_lexer.specs.declared.token.Sort.TheVariants as sorts
use Rattle.step_literals.specs.declared.fault.TextFault.{TextFault}
use Rattle.step_lexer.specs.Front.{IsFront, IsFlawed}
use Rattle.step_lexer.specs.Layout.{SkipsLayout}
use Rattle.parsing.specs.Reading as lexing
-- a text and the number of its bytes that are read; the start, after a byte order mark if any; and the rest
pub use Rattle.parsing.specs.Reading.{Reading, start_of, start, left}

-- two tokens have the same kind and the same value
abbrev pub SameSort : Sort → Sort → Type 0
SameSort sorts.Begin sorts.Begin = Unit {0}
SameSort sorts.End sorts.End = Unit {0}
SameSort (sorts.Keyword v) (sorts.Keyword w) = v.text.now ≡ w.text.now
SameSort (sorts.UserDefined v) (sorts.UserDefined w) = v.text.now ≡ w.text.now
SameSort sorts.Scope sorts.Scope = Unit {0}
SameSort (sorts.Name m) (sorts.Name n) = m ≡ n
SameSort (sorts.Integer a) (sorts.Integer b) = a.text.now ≡ b.text.now
SameSort (sorts.Real a) (sorts.Real b) = a.text.now ≡ b.text.now
SameSort (sorts.Element v) (sorts.Element w) = v.text.now ≡ w.text.now
SameSort (sorts.String a) (sorts.String b) = a.text.now ≡ b.text.now
SameSort (sorts.Binary a) (sorts.Binary b) = a.text.now ≡ b.text.now
SameSort (sorts.Mark m) (sorts.Mark n) = m ≡ n
SameSort _ _ = ⊥

-- the definition of the tokens and faults of an exchange structure
abbrev pub lexis : lexing.Lexis Token TextFault
lexis = record {
  place_of = λ t. t.place;
  bytes_of = λ t. t.text.now;
  SkipsLayout = SkipsLayout;
  IsFront = λ l t. IsFront l t.sort (length t.text.now);
  -- the fault is at a byte of the flawed token
  IsFlawed = λ l place f. (index : ℕ) × IsFlawed l f.flaw index × (f.place ≡ place + index);
  SameValue = λ t u. SameSort t.sort u.sort;
}

-- Only layout is between what is read and this byte offset. A token begins there, or the text ends there: no
-- more layout follows.
abbrev pub Reaches : Reading → ℕ → Type 0
Reaches = lexing.Reaches lexis

-- after layout the text has this token, and is read up to its end
abbrev pub Takes : Reading → Token → Reading → Type 0
Takes = lexing.Takes lexis

-- this mark is read, or nothing is read
abbrev pub SkipsMark : Mark → Bool → Reading → Reading → Type 0
SkipsMark m true old new = (t : Token) × (t.sort ≡ sorts.Mark m) × Takes old t new
SkipsMark m false old new = new ≡ old

-- only layout is left of the text
abbrev pub IsAtEnd : Reading → Reading → Type 0
IsAtEnd = lexing.IsAtEnd lexis

-- after layout there is no token within the limits, and nothing is read
abbrev pub IsFaulty : Reading → TextFault → Reading → Type 0
IsFaulty = lexing.IsFaulty lexis

-- what the next call of a lexer returns, and how far the text is read then
abbrev pub Answers : Reading → Result (Option Token) TextFault → Reading → Type 0
Answers = lexing.Answers lexis

-- two results are the same: a token at one byte offset, with the same bytes and value; the end; or one fault
abbrev pub SameAnswer : Result (Option Token) TextFault → Result (Option Token) TextFault → Type 0
SameAnswer = lexing.SameAnswer lexis
