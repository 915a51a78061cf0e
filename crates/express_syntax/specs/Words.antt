-- Tokens as the grammar sees them: case doesn't matter in words, and literals are their spelling
-- (ISO 10303-11, 7).
use Rattle.std.specs.Prelude.{ℕ, List, map, Option, None, Some}
use Rattle.express_lexer.specs.declared.marks.Mark.{Mark}
use Rattle.express_lexer.specs.declared.token.Sort.{Sort}
use Rattle.express_lexer.specs.declared.token.Sort.TheVariants as sorts
use Rattle.step_literals.specs.Words.{upper}
use Rattle.express_syntax.specs.declared.keyword.Keyword.{Keyword}
use Rattle.express_syntax.specs.declared.lexeme.Lexeme.{Lexeme}
use Rattle.express_syntax.specs.declared.lexeme.Lexeme.TheVariants as lexemes
use Rattle.express_syntax.specs.Keywords.{keyword_at}

pub data Word : Type 0 where
  keyword : Keyword → Word
  -- in capitals
  name : List ℕ → Word
  integer : List ℕ → Word
  real : List ℕ → Word
  string : List ℕ → Word
  encoded : List ℕ → Word
  binary : List ℕ → Word
  mark : Mark → Word

abbrev pub keyword_or_name : List ℕ → Option Keyword → Word
keyword_or_name w None = name w
keyword_or_name w (Some k) = keyword k

-- the word that a token of this sort represents
abbrev pub word_of_sort : Sort → Word
word_of_sort (sorts.Word w) = keyword_or_name (upper w.text.now) (keyword_at (upper w.text.now))
word_of_sort (sorts.Integer d) = integer d.text.now
word_of_sort (sorts.Real d) = real d.text.now
word_of_sort (sorts.String s) = string s.text.now
word_of_sort (sorts.Encoded s) = encoded s.text.now
word_of_sort (sorts.Binary b) = binary b.text.now
word_of_sort (sorts.Mark m) = mark m

abbrev pub word_of : Lexeme → Word
word_of (lexemes.Keyword k) = keyword k
word_of (lexemes.Name w) = name (upper w.text.now)
word_of (lexemes.Integer d) = integer d.text.now
word_of (lexemes.Real d) = real d.text.now
word_of (lexemes.String s) = string s.text.now
word_of (lexemes.Encoded s) = encoded s.text.now
word_of (lexemes.Binary b) = binary b.text.now
word_of (lexemes.Mark m) = mark m

abbrev pub words_of : List Lexeme → List Word
words_of lexemes = map word_of lexemes
