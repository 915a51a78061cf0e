-- What strings say, each by computing.
use Rattle.std.proofs.Common.{◌≡◌, [], ◌∷◌, ◌++◌, refl, codes}
use Rattle.std.specs.Str.{is_utf8, chars}
use Rattle.std.proofs.Math.Utf8.{encode}
use Rattle.step_literals.specs.declared.literal.items.Item.TheVariants.{Code, Page, Raw}
use Rattle.step_literals.specs.Items.{string_items}

-- `'it''s'`
doubled_quote : string_items (codes "'it''s'") ≡ Code 105 ∷ Code 116 ∷ Code 39 ∷ Code 115 ∷ []
unfolding string_items
doubled_quote = refl

-- `é` in five spellings: `\X\E9`, `\X2\00E9\X0\`, `\X4\000000E9\X0\`, `\S\i` and UTF-8
by_two_digits : string_items (codes "'\\X\\E9'") ≡ Code 233 ∷ []
unfolding string_items
by_two_digits = refl

by_four_digits : string_items (codes "'\\X2\\00E9\\X0\\'") ≡ Code 233 ∷ []
unfolding string_items
by_four_digits = refl

by_eight_digits : string_items (codes "'\\X4\\000000e9\\X0\\'") ≡ Code 233 ∷ []
unfolding string_items
by_eight_digits = refl

by_shift : string_items (codes "'\\S\\i'") ≡ Code 233 ∷ []
unfolding string_items
by_shift = refl

by_utf8 : string_items (39 ∷ 195 ∷ 169 ∷ 39 ∷ []) ≡ Code 233 ∷ []
unfolding string_items is_utf8 chars encode
by_utf8 = refl

-- a page stays: `\PB\\S\i\X\E9\S\i`
later_page : string_items (codes "'\\PB\\\\S\\i\\X\\E9\\S\\i'") ≡ Page 2 233 ∷ Code 233 ∷ Page 2 233 ∷ []
unfolding string_items
later_page = refl

-- and page A comes back: `\PB\\S\i\PA\\S\i`
first_page : string_items (codes "'\\PB\\\\S\\i\\PA\\\\S\\i'") ≡ Page 2 233 ∷ Code 233 ∷ []
unfolding string_items
first_page = refl

-- `\S\\`: one byte, whatever it begins
shifted_backslash : string_items (codes "'\\S\\\\'") ≡ Code 220 ∷ []
unfolding string_items
shifted_backslash = refl

-- two groups of four digits, one of eight, and none
two_groups : string_items (codes "'\\X2\\00E900EA\\X0\\'") ≡ Code 233 ∷ Code 234 ∷ []
unfolding string_items
two_groups = refl

wide_group : string_items (codes "'\\X4\\0001F600\\X0\\'") ≡ Code 128512 ∷ []
unfolding string_items
wide_group = refl

no_groups : string_items (codes "'\\X2\\\\X0\\'") ≡ []
unfolding string_items
no_groups = refl

-- a group is any number, and no character that it begins or ends
half_pair : string_items (codes "'\\X2\\D800\\X0\\'") ≡ Code 55296 ∷ []
unfolding string_items
half_pair = refl

-- bytes from 128 up that aren't UTF-8 are as they are, all that stand in turn: C3 A9 E9
no_utf8 : string_items (39 ∷ 195 ∷ 169 ∷ 233 ∷ 39 ∷ []) ≡ Raw 195 ∷ Raw 169 ∷ Raw 233 ∷ []
unfolding string_items is_utf8 chars encode
no_utf8 = refl

-- a line break parts neither UTF-8 nor a directive
broken_utf8 : string_items (39 ∷ 195 ∷ 13 ∷ 10 ∷ 169 ∷ 39 ∷ []) ≡ Code 233 ∷ []
unfolding string_items is_utf8 chars encode
broken_utf8 = refl

broken_group : string_items (codes "'\\X2\\00" ++ 10 ∷ codes "E9\\X0\\'") ≡ Code 233 ∷ []
unfolding string_items
broken_group = refl

broken_backslash : string_items (codes "'\\" ++ 10 ∷ codes "\\'") ≡ Code 92 ∷ []
unfolding string_items
broken_backslash = refl

-- small letters begin no directive: `\x2\`
small_letters : string_items (codes "'\\x2\\'") ≡ Code 92 ∷ Code 120 ∷ Code 50 ∷ Code 92 ∷ []
unfolding string_items
small_letters = refl

-- `\S\` takes an apostrophe doubled, and byte 127 is its code
shifted_apostrophe : string_items (codes "'\\S\\'''") ≡ Code 167 ∷ []
unfolding string_items
shifted_apostrophe = refl

delete : string_items (39 ∷ 127 ∷ 39 ∷ []) ≡ Code 127 ∷ []
unfolding string_items
delete = refl

nothing : string_items (codes "''") ≡ []
unfolding string_items
nothing = refl

-- a group may be beyond all characters
beyond : string_items (codes "'\\X4\\00110000\\X0\\'") ≡ Code 1114112 ∷ []
unfolding string_items
beyond = refl

-- a longer spelling than is allowed is no UTF-8, and neither is half a pair: C0 80, ED A0 80
overlong : string_items (39 ∷ 192 ∷ 128 ∷ 39 ∷ []) ≡ Raw 192 ∷ Raw 128 ∷ []
unfolding string_items is_utf8 chars encode
overlong = refl

surrogate : string_items (39 ∷ 237 ∷ 160 ∷ 128 ∷ 39 ∷ []) ≡ Raw 237 ∷ Raw 160 ∷ Raw 128 ∷ []
unfolding string_items is_utf8 chars encode
surrogate = refl
