-- The definitions by examples.
use Rattle.std.proofs.Common.{◌≡◌, ℕ, List, true, false, [], ◌∷◌, pos, negsuc, ◌+ℤ◌, ◌*ℤ◌, refl, ap, ap₂, ◌∙◌, codes, zero-mul, zero-add}
use Rattle.std.specs.Cmp.{signed_Decides}
use Rattle.step_literals.specs.declared.literal.items.Item.TheVariants.{Code}
use Rattle.step_literals.specs.Decimals.{units, mantissa, exponent, ten_to, finest}
use Rattle.express_syntax.specs.declared.expression.Logical.TheVariants.{False, Unknown, True}
use Rattle.express_logic.specs.Logic.{negated, both, either, exclusive, known}
use Rattle.express_logic.specs.Literals.{encoded_characters, binary_bits, whole_units}
use Rattle.express_logic.specs.Data.{indeterminate, number, text, element, logical, instance, typed, aggregate, list, bag, none, more, truth}
use Rattle.express_logic.specs.Comparison.{equal, less, member}

-- the tables where a side is UNKNOWN

unknown_and_false : both Unknown False ≡ False
unknown_and_false = refl

unknown_and_true : both Unknown True ≡ Unknown
unknown_and_true = refl

unknown_or_true : either Unknown True ≡ True
unknown_or_true = refl

unknown_or_false : either False Unknown ≡ Unknown
unknown_or_false = refl

unknown_xor_true : exclusive True Unknown ≡ Unknown
unknown_xor_true = refl

not_unknown : negated Unknown ≡ Unknown
not_unknown = refl

-- numbers in units: 3 < 5, and 5 isn't less than itself
three_and_five : less (number (pos 3)) (number (pos 5)) ≡ True
three_and_five = refl

five_and_five : less (number (pos 5)) (number (pos 5)) ≡ False
five_and_five = refl

minus_three : less (number (negsuc 2)) (number (pos 0)) ≡ True
minus_three = refl

-- `0.` and `-0.0E3` are equal
zero_units : (t : List ℕ) → mantissa t ≡ pos 0 → units t ≡ pos 0
unfolding units
zero_units t e = ap (λ m. m *ℤ ten_to (exponent t +ℤ pos finest)) e ∙ ap pos (zero-mul _)

zeros : equal (number (units (codes "0."))) (number (units (codes "-0.0E3"))) ≡ True
zeros = ap₂ (λ y z. equal (number y) (number z)) (zero_units (codes "0.") refl) (zero_units (codes "-0.0E3") refl)

-- two that are counted are equal to `2.`
two_units : units (codes "2.") ≡ whole_units (pos 2)
unfolding units
two_units = ap (λ e. pos 2 *ℤ ten_to e) (ap pos (zero-add finest))

two_counted : equal (number (whole_units (pos 2))) (number (units (codes "2."))) ≡ True
two_counted = ap (λ z. equal (number (whole_units (pos 2))) (number z)) two_units
    ∙ ap known ((signed_Decides (whole_units (pos 2)) (whole_units (pos 2))).1 refl)

-- a number and a string are of two kinds
two_kinds : equal (number (pos 5)) (text (Code 53 ∷ [])) ≡ Unknown
two_kinds = refl

-- strings are equal or not, and have no order
strings_differ : equal (text (Code 97 ∷ [])) (text (Code 97 ∷ Code 98 ∷ [])) ≡ False
strings_differ = refl

no_order_of_strings : less (text (Code 97 ∷ [])) (text (Code 98 ∷ [])) ≡ Unknown
no_order_of_strings = refl

-- elements of enumerations have no order
same_elements : equal (element (codes "ROUGH")) (element (codes "ROUGH")) ≡ True
same_elements = refl

no_order_of_elements : less (element (codes "FINE")) (element (codes "ROUGH")) ≡ Unknown
no_order_of_elements = refl

-- FALSE < UNKNOWN < TRUE, and UNKNOWN = UNKNOWN
false_below_unknown : less (logical False) (logical Unknown) ≡ True
false_below_unknown = refl

unknown_is_unknown : equal (logical Unknown) (logical Unknown) ≡ True
unknown_is_unknown = refl

-- an instance is equal to nothing that is known, not even to itself
instances : equal (instance 1) (instance 1) ≡ Unknown
instances = refl

-- a typed value is compared by what is inside
typed_value : equal (typed (codes "LEN_M") (number (pos 5))) (number (pos 5)) ≡ True
typed_value = refl

two_types : equal (typed (codes "LEN_M") (number (pos 5))) (typed (codes "ANGLE_M") (number (pos 5))) ≡ True
two_types = refl

-- membership: an equal element, an element that isn't comparable, none
five_there : member (number (pos 5)) (aggregate list (more (text []) (more (number (pos 5)) none))) ≡ True
five_there = refl

five_perhaps : member (number (pos 5)) (aggregate list (more (text []) (more (number (pos 3)) none))) ≡ Unknown
five_perhaps = refl

five_not_there : member (number (pos 5)) (aggregate bag (more (number (pos 3)) none)) ≡ False
five_not_there = refl

instance_in_none : member (instance 1) (aggregate bag none) ≡ False
instance_in_none = refl

instance_perhaps : member (instance 1) (aggregate bag (more (instance 1) none)) ≡ Unknown
instance_perhaps = refl

indeterminate_in_none : member indeterminate (aggregate list none) ≡ Unknown
indeterminate_in_none = refl

in_a_typed_value : member (number (pos 5)) (typed (codes "NUMBERS") (aggregate list none)) ≡ Unknown
in_a_typed_value = refl

-- a value that is no logical counts as UNKNOWN
number_as_operand : truth (number (pos 1)) ≡ Unknown
number_as_operand = refl

-- literals of a schema: `"000000e9"` is one character, `%101` three bits
one_character : encoded_characters (codes "\"000000e9\"") ≡ Code 233 ∷ []
one_character = refl

three_bits : binary_bits (codes "%101") ≡ true ∷ false ∷ true ∷ []
three_bits = refl
