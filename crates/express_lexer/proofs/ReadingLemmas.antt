-- How far a text is read.
use Rattle.std.proofs.Common.{ℕ, ◌≤◌, ◌<◌, zero, suc, List, length, drop, ap, arith, length-drop}
use Rattle.express_lexer.specs.declared.token.Sort.{Sort}
use Rattle.express_lexer.specs.declared.token.Token.{Token}
use Rattle.express_lexer.specs.Front.{IsFront, kind_of}
use Rattle.express_lexer.specs.Reading.{Reading, Takes}
use Rattle.express_lexer.proofs.Groups.{no_empty}
pub use Rattle.parsing.proofs.Readings.{start_within}

pub some_bytes : (left : List ℕ) (sort : Sort) (n : ℕ) → IsFront left sort n → 0 < n
some_bytes left sort zero h = absurd (no_empty (kind_of sort) (drop 0 left) h.next.allowed)
some_bytes left sort (suc n) h = omega arith

-- a token that is taken is within the text
pub token_within : (old new : Reading) (t : Token) → Takes old t new → new.place ≤ length new.text
token_within old new t h = omega (
  arith,
  h.new_place,
  ap length h.new_text,
  h.reaches.within,
  h.front.within,
  length-drop t.place old.text,
)
