-- Which kinds of token can begin with a byte.
use Rattle.std.proofs.Common.{◌≡◌, ℕ, ◌≤◌, ◌<◌, Bool, true, false, List, [], ◌∷◌, ◌++◌, length, get_or, refl, sym, ap, ◌∙◌, arith, Option, Some, None, append_assoc, length-append}
use Rattle.std.specs.Prelude.{◌==◌, nat_lt, if◌then◌else◌}
use Rattle.std.proofs.lemmas.Bool.{false≢true}
use Rattle.std.proofs.lemmas.Bool.Decides.{nat_tests}
use Rattle.step_literals.specs.Bytes.{is_digit}
use Rattle.step_literals.specs.Tokens.{IsDigits}
use Rattle.express_lexer.specs.declared.marks.Mark.{Mark}
use Rattle.express_lexer.specs.Marks.{mark_text}
use Rattle.express_lexer.specs.Tokens.{TokenKind, word, integer, real, string, encoded, binary, mark, is_letter, IsWord, Allows, IsNext, NoneAt}
use Rattle.express_lexer.proofs.MarkLemmas.{each_mark, below}

pub data Group : Type 0 where
  words : Group
  numbers : Group
  apostrophe : Group
  quote : Group
  percent : Group
  others : Group

abbrev pub group : TokenKind → Group
group word = words
group integer = numbers
group real = numbers
group string = apostrophe
group encoded = quote
group binary = percent
group mark = others

abbrev pub group_of : ℕ → Group
group_of b =
    if is_letter b then words
    else (if is_digit b then numbers
    else (if b == 39 then apostrophe
    else (if b == 34 then quote
    else (if b == 37 then percent
    else others))))

pub letter_words : (b : ℕ) → is_letter b ≡ true → group_of b ≡ words
letter_words b h = rw h refl

digit_no_letter : (b : ℕ) → is_digit b ≡ true → is_letter b ≡ false
digit_no_letter b h = grind (arith, nat_tests)

pub digit_numbers : (b : ℕ) → is_digit b ≡ true → group_of b ≡ numbers
digit_numbers b h = rw (digit_no_letter b h, h) refl

other_byte : (b n : ℕ) → (b ≡ n → ⊥) → (b == n) ≡ false
other_byte b n h = grind (arith, nat_tests)

pub others_left : (b : ℕ) → is_letter b ≡ false → is_digit b ≡ false → (b ≡ 39 → ⊥) → (b ≡ 34 → ⊥) → (b ≡ 37 → ⊥)
    → group_of b ≡ others
others_left b letter digit h1 h2 h3 = rw (letter, digit, other_byte b 39 h1, other_byte b 34 h2, other_byte b 37 h3)
    refl

abbrev is_others : Group → Bool
is_others others = true
is_others _ = false

others_is : (g : Group) → is_others g ≡ true → g ≡ others
others_is words h = absurd (false≢true h)
others_is numbers h = absurd (false≢true h)
others_is apostrophe h = absurd (false≢true h)
others_is quote h = absurd (false≢true h)
others_is percent h = absurd (false≢true h)
others_is others h = refl

mark_first : (m : Mark) (t rest more : List ℕ) (b : ℕ) → t ≡ mark_text m → t ++ rest ≡ b ∷ more → 0 < length t
    → b ≡ get_or (mark_text m) 0 0
mark_first m [] rest more b h e some = absurd (omega (arith, some))
mark_first m (x ∷ xs) rest more b h e some = let q : x ≡ b = cc in sym q ∙ ap (λ l. get_or l 0 0) h

pub mark_some : (m : Mark) → 0 < length (mark_text m)
mark_some m = below 0 (length (mark_text m)) (each_mark (λ n. nat_lt 0 (length (mark_text n))) refl m)

-- no token is empty
pub no_empty : (k : TokenKind) (rest : List ℕ) → Allows k [] rest → ⊥
no_empty word rest h = h
no_empty integer rest h = omega (arith, h.0)
no_empty real rest h = omega (arith, h.3.0, ap length h.6, length-append {A = ℕ})
no_empty string rest h = let q = h.0.1 in cc
no_empty encoded rest h = let q = h.3 in cc
no_empty binary rest h = let q = h.3 in cc
no_empty mark rest h = omega (arith, mark_some h.0.0, ap length h.0.1)

at_byte : (x b : ℕ) (xs rest more : List ℕ) → (x ∷ xs) ++ rest ≡ b ∷ more → b ≡ x
at_byte x b xs rest more e = cc

word_first : (t rest more : List ℕ) (b : ℕ) → IsWord t → t ++ rest ≡ b ∷ more → is_letter b ≡ true
word_first [] rest more b h e = absurd h
word_first (x ∷ xs) rest more b h e = let s : x ≡ b = cc in ap is_letter (sym s) ∙ h.0

digits_first : (ds rest more : List ℕ) (b : ℕ) → IsDigits ds → ds ++ rest ≡ b ∷ more → is_digit b ≡ true
digits_first [] rest more b h e = absurd (omega (arith, h.0))
digits_first (x ∷ xs) rest more b h e = let s : x ≡ b = cc in ap is_digit (sym s) ∙ h.1.0

-- the first byte of a token tells its group
first_byte : (k : TokenKind) (t rest more : List ℕ) (b : ℕ) → Allows k t rest → t ++ rest ≡ b ∷ more → 0 < length t
    → group_of b ≡ group k
first_byte word t rest more b h e some = letter_words b (word_first t rest more b h e)
first_byte integer t rest more b h e some = digit_numbers b (digits_first t rest more b h e)
first_byte real t rest more b h e some =
    digit_numbers b (digits_first h.0 (46 ∷ (h.1 ++ (h.2 ++ rest))) more b h.3
    ((simp append_assoc at (ap (λ l. l ++ rest) (sym h.6))) ∙ e))
first_byte string t rest more b h e some = let q : b ≡ 39 = at_byte 39 b _ rest more (ap (λ l. l ++ rest) (sym h.0.1)
    ∙ e) in rw q refl
first_byte encoded t rest more b h e some = let q : b ≡ 34 = at_byte 34 b _ rest more (ap (λ l. l ++ rest) (sym h.3)
    ∙ e) in rw q refl
first_byte binary t rest more b h e some = let q : b ≡ 37 = at_byte 37 b h.0 rest more (ap (λ l. l ++ rest) (sym h.3)
    ∙ e) in rw q refl
first_byte mark t rest more b h e some =
    ap group_of (mark_first h.0.0 t rest more b h.0.1 e some) ∙ others_is (group_of (get_or (mark_text h.0.0) 0 0))
    (each_mark (λ n. is_others (group_of (get_or (mark_text n) 0 0))) refl h.0.0)

abbrev pub group_at : List ℕ → Option Group
group_at [] = None
group_at (b ∷ bs) = Some (group_of b)

pub first_group : (k : TokenKind) (t rest u : List ℕ) → Allows k t rest → t ++ rest ≡ u → group_at u ≡ Some (group k)
first_group k [] rest u h e = absurd (no_empty k rest h)
first_group k (x ∷ xs) rest [] h e = absurd (cc)
first_group k (x ∷ xs) rest (b ∷ more) h e = ap Some (first_byte k (x ∷ xs) rest more b h e (omega arith))

-- two tokens at one place are of one group
pub same_group : (j k : TokenKind) (t after other rest : List ℕ) → Allows j t after → Allows k other rest → other
    ++ rest ≡ t ++ after → group k ≡ group j
same_group j k t after other rest h g e =
    let p = first_group j t after (t ++ after) h refl in
    let q = first_group k other rest (t ++ after) g e in cc

-- a token is the longest where it is the longest of its group
pub next_of : (k : TokenKind) (t after : List ℕ) → Allows k t after
    → ((j : TokenKind) (other rest : List ℕ) → group j ≡ group k → Allows j other rest → other ++ rest ≡ t ++ after
    → length other ≤ length t) → IsNext k t after
next_of k t after own longest = record {
  allowed = own;
  longest = λ j other rest e a. longest j other rest (same_group k j t after other rest own a e) a e;
}

-- no token stands where none of the group of the first byte does
pub none_of : (l : List ℕ) (g : Group) → group_at l ≡ Some g → ((j : TokenKind) (other rest : List ℕ) → group j ≡ g
    → Allows j other rest → other ++ rest ≡ l → ⊥) → NoneAt l
none_of l g at none j other rest e a = none j other rest (let p = first_group j other rest l a (sym e) in cc) a (sym e)

-- the group of the first byte
pub group_first : (l : List ℕ) (g : Group) → 0 < length l → group_of (get_or l 0 0) ≡ g → group_at l ≡ Some g
group_first [] g some h = absurd (omega (arith, some))
group_first (b ∷ bs) g some h = ap Some h
