-- The marks of EXPRESS (ISO 10303-11, 7.3), and the longest mark that is a prefix of a text.
use Rattle.std.specs.Prelude.{◌≡◌, ◌≤◌, true, false, List, ℕ, length, codes}
use Rattle.step_literals.specs.Strings.{begins_with}
use Rattle.express_lexer.specs.declared.marks.Mark.{Mark}
use Rattle.express_lexer.specs.declared.marks.Mark.TheVariants as marks

-- the spelling of a mark
abbrev pub mark_text : Mark → List ℕ
mark_text marks.Semicolon = codes ";"
mark_text marks.Comma = codes ","
mark_text marks.Colon = codes ":"
mark_text marks.Dot = codes "."
mark_text marks.Open = codes "("
mark_text marks.Close = codes ")"
mark_text marks.OpenBracket = codes "["
mark_text marks.CloseBracket = codes "]"
mark_text marks.OpenBrace = codes "{"
mark_text marks.CloseBrace = codes "}"
mark_text marks.Equal = codes "="
mark_text marks.NotEqual = codes "<>"
mark_text marks.Less = codes "<"
mark_text marks.Greater = codes ">"
mark_text marks.LessOrEqual = codes "<="
mark_text marks.GreaterOrEqual = codes ">="
mark_text marks.Assign = codes ":="
mark_text marks.InstanceEqual = codes ":=:"
mark_text marks.InstanceNotEqual = codes ":<>:"
mark_text marks.Plus = codes "+"
mark_text marks.Minus = codes "-"
mark_text marks.Times = codes "*"
mark_text marks.Divide = codes "/"
mark_text marks.Power = codes "**"
mark_text marks.Combine = codes "||"
mark_text marks.Bar = codes "|"
mark_text marks.QuerySource = codes "<*"
mark_text marks.Unknown = codes "?"
mark_text marks.Backslash = codes "\\"

-- the mark is a prefix of the text, and no longer mark is
pub record IsLongestMark (text : List ℕ) (mark : Mark) : Type 0 where
  pub stands : begins_with (mark_text mark) text ≡ true
  pub longest : (other : Mark) → begins_with (mark_text other) text ≡ true → length (mark_text other) ≤ length
      (mark_text mark)

-- no mark is a prefix of the text
abbrev pub NoMark : List ℕ → Type 0
NoMark text = (mark : Mark) → begins_with (mark_text mark) text ≡ false
