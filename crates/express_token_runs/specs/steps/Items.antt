-- The tokens of the reader, as a lexer shows them.
use Rattle.std.specs.Prelude.{ℕ}
use Rattle.step_literals.specs.declared.literal.Word as literal
use Rattle.express_syntax.specs.Words.{word_of, name}
use Rattle.express_syntax.specs.ExpressionViews.{capitals}
use Rattle.express_token_runs.specs.declared.tokens.Item.{Item}
use Rattle.express_syntax.specs.Texts.{token, LocatedToken}

abbrev pub located_of : Item → LocatedToken
located_of i = record { lookahead = token (word_of i.lexeme); place = i.place }

-- a name at a byte offset
abbrev pub named : literal.Word → ℕ → LocatedToken
named w place = record { lookahead = token (name (capitals w)); place = place }
