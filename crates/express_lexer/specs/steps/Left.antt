-- The items that iterators over literals still yield; no promise stands here.
use Rattle.std.specs.Prelude.{◌≡◌, Bool, List, [], ◌∷◌, Option, MatchOption}
use Rattle.step_literals.specs.declared.literal.items.Item.{Item}
use Rattle.express_lexer.specs.declared.literal.characters.Characters.{Characters}
use Rattle.express_lexer.specs.declared.literal.codes.Codes.{Codes}
use Rattle.express_lexer.specs.declared.literal.bits.Bits.{Bits}
use Rattle.express_lexer.specs.Meanings.{written_bits, codes_of}
use Rattle.express_lexer.specs.DoubledApostrophes.{left}

abbrev pub characters_left : Characters → List Item
characters_left c = left c.run.now c.raw.now c.rest.now

-- the iterator isn't inside a run
abbrev pub IsBetween : Characters → Type 0
IsBetween c = (c.run.now ≡ []) × (c.raw.now ≡ [])

-- the next character of a run, or `None` outside of runs
abbrev pub GoesInside : Characters → Option Item → Characters → Type 0
GoesInside old item new = MatchOption item (IsBetween old × IsBetween new × (new.rest.now ≡ old.rest.now))
    (λ x. characters_left old ≡ x ∷ characters_left new)

abbrev pub codes_left : Codes → List Item
codes_left c = codes_of c.digits.now

abbrev pub bits_left : Bits → List Bool
bits_left b = written_bits b.digits.now
