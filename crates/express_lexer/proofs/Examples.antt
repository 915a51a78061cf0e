-- The definitions by examples.
use Rattle.std.proofs.Common.{◌≡◌, [], ◌∷◌, true, false, length, refl, ap, arith, codes, lit<}
use Rattle.express_lexer.specs.declared.marks.Mark.TheVariants as marks
use Rattle.express_lexer.specs.Tokens.{word, integer, real, string, encoded, binary, mark, Spells, Allows}
use Rattle.express_lexer.specs.Layout.{closing, byte, remark, turns, IsRemark, tail_remark, AllowsBlank}

-- a remark in a remark
nested : IsRemark (codes "(*a(*b*)*c*)")
nested = (
  byte 97 (remark (byte 98 closing) (byte 42 (byte 99 closing))),
  (refl, ((refl, tt), (refl, (refl, tt)))),
  refl,
)

-- the shortest
bare : IsRemark (codes "(**)")
bare = (closing, tt, refl)

-- `*` may stand before the end
starred : IsRemark (codes "(***)")
starred = (byte 42 closing, (refl, tt), refl)

-- `(*)` begins a remark and doesn't end it
half : turns (codes "*)") ≡ true
half = refl

-- a tail remark ends before the end of the line
tail : AllowsBlank tail_remark (codes "-- a") (10 ∷ codes "b")
tail = (codes " a", (refl, (refl, tt)), refl, refl)

-- a tail remark ends at the end of the text
tail_at_end : AllowsBlank tail_remark (codes "--") []
tail_at_end = ([], tt, tt, refl)

a_word : Spells word (codes "a_1")
a_word = (refl, (refl, (refl, tt)))

an_integer : Spells integer (codes "01")
an_integer = (lit< tt, (refl, (refl, tt)))

-- a real without digits behind its dot, with an exponent
a_real : Spells real (codes "1.E-5")
a_real = (
  codes "1",
  [],
  codes "E-5",
  (lit< tt, (refl, tt)),
  tt,
  (refl, codes "-", codes "5", refl, (lit< tt, (refl, tt)), refl),
  refl,
)

a_string : Spells string (codes "'it''s'")
a_string = (codes "it's", refl)

an_encoded_string : Spells encoded (codes "\"000000e9\"")
an_encoded_string = (codes "000000e9", (refl, (refl, (refl, (refl, (refl, (refl, (refl, (refl, tt)))))))), refl, refl)

a_binary : Spells binary (codes "%01")
a_binary = (codes "01", lit< tt, (refl, (refl, tt)), refl)

a_mark : Allows mark (codes ":=:") (codes "a")
a_mark = ((marks.InstanceEqual, refl), λ e. absurd (omega (arith, ap length e)))

-- `(` before another byte
a_parenthesis : Allows mark (codes "(") (codes "a*")
a_parenthesis = ((marks.Open, refl), λ e. refl)

-- `(` before `*` is no mark
no_mark : Allows mark (codes "(") (codes "*)") → ⊥
no_mark h = let q : true ≡ false = h.1 refl in cc
