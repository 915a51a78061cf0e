-- How a parameter has to be spelled, beyond what its value says (ISO 10303-21, 6.4 and 11).
use Rattle.std.specs.Prelude.{◌≡◌, ⊤, true, Some}
use Rattle.step_literals.specs.Words.{upper}
use Rattle.step_lexer.specs.declared.token.Mark.TheVariants.{Dollar, Asterisk}
use Rattle.step_structures.specs.Words as words
use Rattle.step_structures.specs.Words.{Word}
use Rattle.step_structures.specs.Trees as trees
use Rattle.step_structures.specs.Trees.{Tree, Trees}
use Rattle.express_syntax.specs.Schemas.{Schema}
use Rattle.conformance.specs.Bases.{Aggregate, Base, integer, aggregate, Domain, base}
use Rattle.conformance.specs.ParameterFits.{is_integer, inner}

-- The token is one that can be a value. The token of an INTEGER has no decimal point and no
-- exponent.
abbrev pub WordSpelt : Word → Base → Type 0
WordSpelt (words.number t) integer = is_integer t ≡ true
WordSpelt (words.number t) b = ⊤
WordSpelt (words.string t) b = ⊤
WordSpelt (words.binary t) b = ⊤
WordSpelt (words.element t) b = ⊤
WordSpelt (words.name y t) b = ⊤
WordSpelt (words.mark Dollar) b = ⊤
WordSpelt (words.mark Asterisk) b = ⊤
WordSpelt w b = ⊥

module _ (s : Schema) (d : Domain) where
  abbrev mutual
    -- The parameter and its parts are spelled as the data type requires.
    pub IsSpelt : Base → Tree → Type 0
    IsSpelt b (trees.leaf w) = WordSpelt w b
    IsSpelt b (trees.typed word x) = (c : Base) → inner s d b (upper word) ≡ Some c → IsSpelt c x
    IsSpelt b (trees.group xs) = (a : Aggregate) → b ≡ aggregate a → EachSpelt (base d a.element) xs

    pub EachSpelt : Base → Trees → Type 0
    EachSpelt b trees.none = ⊤
    EachSpelt b (trees.one x xs) = IsSpelt b x × EachSpelt b xs
