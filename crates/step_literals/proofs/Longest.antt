-- Which kinds of token can begin with a byte.
use Rattle.std.proofs.Common.{◌≡◌, ℕ, true, false, List, [], ◌∷◌, ◌++◌, length, map, refl, sym, ap, ◌∙◌, arith, Option, Some, None, append_assoc, length-append}
use Rattle.std.specs.Prelude.{◌==◌, ◌||◌, if◌then◌else◌}
use Rattle.std.specs.Char.{to_ascii_lowercase}
use Rattle.std.proofs.lemmas.Bool.Decides.{nat_tests}
use Rattle.step_literals.specs.Bytes.{is_letter, is_digit}
use Rattle.step_literals.specs.Tokens.{TokenKind, begins, ends, keyword, user_defined, scope, name, integer, real, element, string, binary, mark, is_sign, is_mark, IsSign, IsDigits, IsKeyword, Allows}

pub data Group : Type 0 where
  words : Group
  exclaim : Group
  ampersand : Group
  hash : Group
  numbers : Group
  dot : Group
  apostrophe : Group
  quote : Group
  marks : Group

abbrev pub group : TokenKind → Group
group begins = words
group ends = words
group keyword = words
group user_defined = exclaim
group scope = ampersand
group name = hash
group integer = numbers
group real = numbers
group element = dot
group string = apostrophe
group binary = quote
group mark = marks

abbrev pub group_of : ℕ → Option Group
group_of b =
    if is_letter b then Some words
    else (if is_digit b || is_sign b then Some numbers
    else (if is_mark b then Some marks
    else (if b == 35 then Some hash
    else (if b == 46 then Some dot
    else (if b == 39 then Some apostrophe
    else (if b == 33 then Some exclaim
    else (if b == 38 then Some ampersand
    else (if b == 34 then Some quote
    else None))))))))

pub letter_words : (b : ℕ) → is_letter b ≡ true → group_of b ≡ Some words
letter_words b h = rw h refl

digit_no_letter : (b : ℕ) → is_digit b ≡ true → is_letter b ≡ false
digit_no_letter b h = grind (arith, nat_tests)

sign_no_letter : (b : ℕ) → is_sign b ≡ true → is_letter b ≡ false
sign_no_letter b h = grind (arith, nat_tests)

pub sign_no_digit : (b : ℕ) → is_sign b ≡ true → is_digit b ≡ false
sign_no_digit b h = grind (arith, nat_tests)

lower_i : (b : ℕ) → to_ascii_lowercase b ≡ 105 → is_letter b ≡ true
lower_i b h = grind (arith, nat_tests)

lower_e : (b : ℕ) → to_ascii_lowercase b ≡ 101 → is_letter b ≡ true
lower_e b h = grind (arith, nat_tests)

pub lower_dash : (b : ℕ) → to_ascii_lowercase b ≡ 45 → b ≡ 45
lower_dash b h = grind (arith, nat_tests)

lower_ampersand : (b : ℕ) → to_ascii_lowercase b ≡ 38 → b ≡ 38
lower_ampersand b h = grind (arith, nat_tests)

mark_no_letter : (b : ℕ) → is_mark b ≡ true → is_letter b ≡ false
mark_no_letter b h = grind (arith, nat_tests)

mark_no_number : (b : ℕ) → is_mark b ≡ true → (is_digit b || is_sign b) ≡ false
mark_no_number b h = grind (arith, nat_tests)

-- the head of a list that begins with an element
keyword_first : (word rest : List ℕ) (b : ℕ) (more : List ℕ) → IsKeyword word → word ++ rest ≡ b ∷ more
    → is_letter b ≡ true
keyword_first [] rest b more h e = absurd h
keyword_first (x ∷ xs) rest b more h e = let s : x ≡ b = cc in ap is_letter (sym s) ∙ h.0

pub says_first : (c : ℕ) (cs t rest : List ℕ) (b : ℕ) (more : List ℕ) → map to_ascii_lowercase t ≡ c ∷ cs → t
    ++ rest ≡ b ∷ more → to_ascii_lowercase b ≡ c
says_first c cs [] rest b more h e = absurd (cc)
says_first c cs (x ∷ xs) rest b more h e = let s : x ≡ b = cc in ap to_ascii_lowercase (sym s)
    ∙ (let q : to_ascii_lowercase x ≡ c = cc in q)

digits_first : (ds rest : List ℕ) (b : ℕ) (more : List ℕ) → IsDigits ds → ds ++ rest ≡ b ∷ more → is_digit b ≡ true
digits_first [] rest b more h e = absurd (omega (arith, h.0))
digits_first (x ∷ xs) rest b more h e = let s : x ≡ b = cc in ap is_digit (sym s) ∙ h.1.0

pub digit_group : (b : ℕ) → is_digit b ≡ true → group_of b ≡ Some numbers
digit_group b h = rw (digit_no_letter b h, h) refl

pub sign_group : (b : ℕ) → is_sign b ≡ true → group_of b ≡ Some numbers
sign_group b h = rw (sign_no_letter b h, sign_no_digit b h, h) refl

pub mark_group : (b : ℕ) → is_mark b ≡ true → group_of b ≡ Some marks
mark_group b h = rw (mark_no_letter b h, mark_no_number b h, h) refl

number_group : (sign ds rest : List ℕ) (b : ℕ) (more : List ℕ) → IsSign sign → IsDigits ds → sign ++ (ds ++ rest) ≡ b
    ∷ more → group_of b ≡ Some numbers
number_group [] ds rest b more s h e = digit_group b (digits_first ds rest b more h e)
number_group (x ∷ []) ds rest b more s h e = let q : x ≡ b = cc in sign_group b (ap is_sign (sym q) ∙ s)
number_group (x ∷ y ∷ ys) ds rest b more s h e = absurd s

at_byte : (x b : ℕ) (xs rest more : List ℕ) → (x ∷ xs) ++ rest ≡ b ∷ more → b ≡ x
at_byte x b xs rest more e = cc

-- the first byte of a token tells its group
pub first_byte : (k : TokenKind) (t rest : List ℕ) (b : ℕ) (more : List ℕ) → Allows k t rest → t ++ rest ≡ b ∷ more
    → group_of b ≡ Some (group k)
first_byte begins t rest b more h e = letter_words b (lower_i b (says_first _ _ t rest b more h e))
first_byte ends t rest b more h e = letter_words b (lower_e b (says_first _ _ t rest b more h e))
first_byte keyword t rest b more h e = letter_words b (keyword_first t rest b more h e)
first_byte user_defined t rest b more h e = let q : b ≡ 33 = at_byte 33 b h.0 rest more (ap (λ l. l ++ rest) (sym h.2)
    ∙ e) in rw q refl
first_byte scope t rest b more h e = let q : b ≡ 38 = lower_ampersand b (says_first _ _ t rest b more h e) in rw q refl
first_byte name t rest b more h e = let q : b ≡ 35 = at_byte 35 b h.0 rest more (ap (λ l. l ++ rest) (sym h.2) ∙ e) in
    rw q refl
first_byte integer t rest b more h e =
    number_group h.0 h.1 rest b more h.2 h.3 (sym (append_assoc h.0 h.1 rest) ∙ ap (λ l. l ++ rest) (sym h.4) ∙ e)
first_byte real t rest b more h e =
    number_group h.0 h.1 (46 ∷ (h.2 ++ (h.3 ++ rest))) b more h.4 h.5
    ((simp append_assoc at (ap (λ l. l ++ rest) (sym h.8))) ∙ e)
first_byte element t rest b more h e = let q : b ≡ 46 = at_byte 46 b _ rest more (ap (λ l. l ++ rest) (sym h.2) ∙ e) in
    rw q refl
first_byte string t rest b more h e = let q : b ≡ 39 = at_byte 39 b _ rest more (ap (λ l. l ++ rest) (sym h.0.1) ∙ e) in
    rw q refl
first_byte binary t rest b more h e = let q : b ≡ 34 = at_byte 34 b ((h.0 ∷ h.1) ++ 34 ∷ []) rest more
    (ap (λ l. l ++ rest) (sym h.6) ∙ e) in rw q refl
first_byte mark t rest b more h e = let q : b ≡ h.0 = at_byte h.0 b [] rest more (ap (λ l. l ++ rest) (sym h.2) ∙ e) in
    mark_group b (ap is_mark q ∙ h.1)

-- no token is empty
pub no_empty : (k : TokenKind) (rest : List ℕ) → Allows k [] rest → ⊥
no_empty begins rest h = cc
no_empty ends rest h = cc
no_empty keyword rest h = h
no_empty user_defined rest h = let q = h.2 in cc
no_empty scope rest h = cc
no_empty name rest h = let q = h.2 in cc
no_empty integer rest h = omega (arith, h.3.0, ap length h.4, length-append {A = ℕ})
no_empty real rest h = omega (arith, h.5.0, ap length h.8, length-append {A = ℕ})
no_empty element rest h = let q = h.2 in cc
no_empty string rest h = let q = h.0.1 in cc
no_empty binary rest h = let q = h.6 in cc
no_empty mark rest h = let q = h.2 in cc

abbrev pub group_at : List ℕ → Option Group
group_at [] = None
group_at (b ∷ bs) = group_of b

pub first_group : (k : TokenKind) (t rest u : List ℕ) → Allows k t rest → t ++ rest ≡ u → group_at u ≡ Some (group k)
first_group k [] rest u h e = absurd (no_empty k rest h)
first_group k (x ∷ xs) rest [] h e = absurd (cc)
first_group k (x ∷ xs) rest (b ∷ more) h e = first_byte k (x ∷ xs) rest b more h e

-- two tokens at one place are of one group
pub same_group : (j k : TokenKind) (t after other rest : List ℕ) → Allows j t after → Allows k other rest → other
    ++ rest ≡ t ++ after → group k ≡ group j
same_group j k t after other rest h g e =
    let p = first_group j t after (t ++ after) h refl in
    let q = first_group k other rest (t ++ after) g e in cc
