-- How far a text is read, and its next token.
use Rattle.std.specs.Prelude.{◌≡◌, ℕ, length, Option, Result}
use Rattle.express_lexer.specs.declared.token.Token.{Token}
use Rattle.express_lexer.specs.declared.token.TextFault.{TextFault}
use Rattle.express_lexer.specs.declared.token.Sort.{Sort}
use Rattle.express_lexer.specs.declared.token.Sort.TheVariants as sorts
use Rattle.express_lexer.specs.Front.{IsFront, IsFlawed}
use Rattle.express_lexer.specs.Layout.{SkipsLayout}
use Rattle.parsing.specs.Reading as lexing
-- a text and the number of its bytes that are read; the start is after a byte order mark, if any
pub use Rattle.parsing.specs.Reading.{Reading, start_of, start, left}

-- two tokens have equal kinds and values
abbrev pub SameSort : Sort → Sort → Type 0
SameSort (sorts.Word v) (sorts.Word w) = v.text.now ≡ w.text.now
SameSort (sorts.Integer a) (sorts.Integer b) = a.text.now ≡ b.text.now
SameSort (sorts.Real a) (sorts.Real b) = a.text.now ≡ b.text.now
SameSort (sorts.String a) (sorts.String b) = a.text.now ≡ b.text.now
SameSort (sorts.Encoded a) (sorts.Encoded b) = a.text.now ≡ b.text.now
SameSort (sorts.Binary a) (sorts.Binary b) = a.text.now ≡ b.text.now
SameSort (sorts.Mark m) (sorts.Mark n) = m ≡ n
SameSort _ _ = ⊥

-- the parts of a lexer that are particular to EXPRESS
abbrev pub lexis : lexing.Lexis Token TextFault
lexis = record {
  place_of = λ t. t.place;
  bytes_of = λ t. t.text.now;
  SkipsLayout = SkipsLayout;
  IsFront = λ l t. IsFront l t.sort (length t.text.now);
  -- the byte offset of the fault is the one where the token would begin
  IsFlawed = λ l place f. IsFlawed l × (f.place ≡ place);
  SameValue = λ t u. SameSort t.sort u.sort;
}

-- A token or the end of the text is at this byte offset: only layout comes before it, and no layout
-- follows the offset.
abbrev pub Reaches : Reading → ℕ → Type 0
Reaches = lexing.Reaches lexis

-- the token follows the layout, and the text is read up to the token's end
abbrev pub Takes : Reading → Token → Reading → Type 0
Takes = lexing.Takes lexis

-- only layout is left of the text
abbrev pub IsAtEnd : Reading → Reading → Type 0
IsAtEnd = lexing.IsAtEnd lexis

-- no token within the limits follows the layout, and nothing is read
abbrev pub IsFaulty : Reading → TextFault → Reading → Type 0
IsFaulty = lexing.IsFaulty lexis

-- the result of the next call of a lexer, and how far the text is read then
abbrev pub Answers : Reading → Result (Option Token) TextFault → Reading → Type 0
Answers = lexing.Answers lexis

-- equal results: tokens with equal byte offsets, bytes and values, the end twice, or equal faults
abbrev pub SameAnswer : Result (Option Token) TextFault → Result (Option Token) TextFault → Type 0
SameAnswer = lexing.SameAnswer lexis
