-- How far a text is read.
use Rattle.std.proofs.Common.{ℕ, List, length, drop, ap, arith, length-drop, zero, suc, ◌<◌, length-append}
use Rattle.step_lexer.specs.declared.token.Token.{Token}
use Rattle.step_lexer.specs.declared.token.Sort.{Sort}
use Rattle.step_literals.proofs.Longest.{no_empty}
use Rattle.step_lexer.specs.Front.{IsFront, kind_of}
use Rattle.step_lexer.specs.Reading.{Reading, Takes, left}

pub some_bytes : (left : List ℕ) (sort : Sort) (n : ℕ) → IsFront left sort n → 0 < n
some_bytes left sort zero h = absurd (no_empty (kind_of sort) (drop 0 left) h.next.allowed)
some_bytes left sort (suc n) h = omega arith

-- a token leaves less of the text
pub takes_less : (old new : Reading) (token : Token) → Takes old token new → length (left new) < length (left old)
takes_less old new token h =
    omega (
      arith,
      some_bytes (drop token.place old.text) token.sort (length token.text.now) h.front,
      ap length h.reaches.layout.split,
      length-append h.reaches.layout.gap (drop token.place old.text),
      length-drop token.place old.text,
      length-drop old.place old.text,
      length-drop new.place new.text,
      ap length h.new_text,
      h.new_place,
      h.front.within,
    )
