-- Laws of logic, comparison and membership, over the definitions alone.
use Rattle.std.specs.Prelude.{◌≡◌, ◌↔◌, ◌⊎◌, ⊤, ℕ, ◌+◌, ◌<◌, ◌<ℤ◌, min, max, true, List, ◌∷◌}
use Rattle.express_lexer.specs.Meanings.{simple_text, characters_of, encoded_text, codes_of, written_bits}
use Rattle.express_syntax.specs.declared.expression.Logical.{Logical}
use Rattle.express_syntax.specs.declared.expression.Logical.TheVariants.{False, Unknown, True}
use Rattle.express_logic.specs.Logic.{negated, both, either, exclusive, rank}
use Rattle.express_logic.specs.Literals.{simple_characters, encoded_characters, binary_bits}
use Rattle.express_logic.specs.Data.{Datum, aggregate, Shape, Data, none, more, is_known}
use Rattle.express_logic.specs.Comparison.{Scalar, a_number, a_text, some_bits, an_element, a_logical, scalar, equal, less, member}

abbrev pub LogicHasItsOrder : Type 0
LogicHasItsOrder = (p q : Logical) → (rank (both p q) ≡ min (rank p) (rank q)) × (rank (either p q) ≡ max (rank p) (rank q))
    × (rank (negated p) + rank p ≡ 2) × (exclusive p q ≡ both (either p q) (negated (both p q)))

-- both are of one kind, and neither is `nothing`
abbrev pub IsOneKind : Scalar → Scalar → Type 0
IsOneKind (a_number y) (a_number z) = ⊤
IsOneKind (a_text s) (a_text t) = ⊤
IsOneKind (some_bits b) (some_bits c) = ⊤
IsOneKind (an_element d) (an_element e) = ⊤
IsOneKind (a_logical p) (a_logical q) = ⊤
IsOneKind _ _ = ⊥

-- both are of one kind and equal
abbrev pub IsSame : Scalar → Scalar → Type 0
IsSame s t = IsOneKind s t × (s ≡ t)

abbrev pub EqualValuesAreTheSame : Type 0
EqualValuesAreTheSame = (d e : Datum) → ((equal d e ≡ True) ↔ IsSame (scalar d) (scalar e))
    × ((equal d e ≡ Unknown) ↔ (IsOneKind (scalar d) (scalar e) → ⊥))

-- both are numbers, or both are logicals
abbrev pub HaveOrder : Scalar → Scalar → Type 0
HaveOrder (a_number y) (a_number z) = ⊤
HaveOrder (a_logical p) (a_logical q) = ⊤
HaveOrder _ _ = ⊥

abbrev pub IsLessScalar : Scalar → Scalar → Type 0
IsLessScalar (a_number y) (a_number z) = y <ℤ z
IsLessScalar (a_logical p) (a_logical q) = rank p < rank q
IsLessScalar _ _ = ⊥

abbrev pub LesserValuesAreBelow : Type 0
LesserValuesAreBelow = (d e : Datum) → ((less d e ≡ True) ↔ IsLessScalar (scalar d) (scalar e))
    × ((less d e ≡ Unknown) ↔ (HaveOrder (scalar d) (scalar e) → ⊥))

-- the value is one of these elements
abbrev pub IsOneOf : Datum → Data → Type 0
IsOneOf e none = ⊥
IsOneOf e (more d ds) = (e ≡ d) ⊎ IsOneOf e ds

abbrev pub MembersAreEqualElements : Type 0
MembersAreEqualElements = (d : Datum) (s : Shape) (es : Data) → is_known d ≡ true
    → ((member d (aggregate s es) ≡ True) ↔ ((e : Datum) × IsOneOf e es × (equal d e ≡ True)))
    × ((member d (aggregate s es) ≡ False) ↔ ((e : Datum) → IsOneOf e es → equal d e ≡ False))

abbrev pub LiteralsSayTheirContent : Type 0
LiteralsSayTheirContent = (content : List ℕ) → (simple_characters (simple_text content) ≡ characters_of content)
    × (encoded_characters (encoded_text content) ≡ codes_of content)
    × (binary_bits (37 ∷ content) ≡ written_bits content)
