-- Bytes that end the token before them: what stands behind such a byte doesn't change that token.
use Rattle.std.proofs.Common.{◌≡◌, ℕ, ◌≤◌, ◌<◌, Bool, true, false, not, Some, None, get_or, ◌||◌, List, [], ◌∷◌, ◌++◌, length, map, refl, sym, ap, ◌∙◌, arith, subst, length-append, append_assoc, codes}
use Rattle.std.specs.Prelude.{◌==◌, ◌&&◌, nat_le}
use Rattle.std.specs.List.{list_all}
use Rattle.std.specs.Char.{to_ascii_lowercase}
use Rattle.std.proofs.lemmas.Bool.{false≢true}
use Rattle.std.proofs.lemmas.Bool.Decides.{nat_tests}
use Rattle.step_literals.specs.Bytes.{is_digit, is_letter, is_word_byte, is_hex, Each}
use Rattle.step_literals.specs.Tokens.{TokenKind, begins, ends, keyword, user_defined, scope, name, integer, real, element, string, binary, mark, is_mark, is_sign, is_e, IsSign, IsKeyword, IsExponent, Allows, IsNext}
use Rattle.step_literals.proofs.Longest.{group, group_of, group_at, first_group, apostrophe, same_group, no_empty}
use Rattle.step_lexer.specs.Layout.{Blank, space, new_line, form_feed, comment, SpellsBlank, NoBlank}
use Rattle.step_lexer.proofs.LayoutLemmas.{blank_head}
use Rattle.step_literals.proofs.StringLemmas.{next_string}

-- layout begins with it, or it is a mark
abbrev pub is_closer : ℕ → Bool
is_closer b = nat_le b 32 || b == 92 || b == 47 || is_mark b

abbrev pub is_open : ℕ → Bool
is_open b = not (is_closer b)

word_open : (b : ℕ) → is_word_byte b ≡ true → is_open b ≡ true
word_open b h = grind (arith, nat_tests)

letter_open : (b : ℕ) → is_letter b ≡ true → is_open b ≡ true
letter_open b h = grind (arith, nat_tests)

digit_open : (b : ℕ) → is_digit b ≡ true → is_open b ≡ true
digit_open b h = grind (arith, nat_tests)

hex_open : (b : ℕ) → is_hex b ≡ true → is_open b ≡ true
hex_open b h = grind (arith, nat_tests)

sign_open : (b : ℕ) → is_sign b ≡ true → is_open b ≡ true
sign_open b h = grind (arith, nat_tests)

e_open : (b : ℕ) → is_e b ≡ true → is_open b ≡ true
e_open b h = grind (arith, nat_tests)

unused_open : (b : ℕ) → 48 ≤ b → b ≤ 51 → is_open b ≡ true
unused_open b h g = grind (arith, nat_tests)

both_true : (a b : Bool) → (a && b) ≡ true → (a ≡ true) × (b ≡ true)
both_true true b h = (refl, h)
both_true false b h = absurd (cc)

all_each : (p : ℕ → Bool) (xs : List ℕ) → list_all p xs ≡ true → Each p xs
all_each p [] h = tt
all_each p (x ∷ xs) h = let q = both_true (p x) (list_all p xs) h in (q.0, all_each p xs q.1)

each_map : (p q : ℕ → Bool) → ((b : ℕ) → p b ≡ true → q b ≡ true) → (xs : List ℕ) → Each p xs → Each q xs
each_map p q f [] h = tt
each_map p q f (x ∷ xs) h = (f x h.0, each_map p q f xs h.1)

pub each_join : (p : ℕ → Bool) (xs ys : List ℕ) → Each p xs → Each p ys → Each p (xs ++ ys)
each_join p [] ys h g = g
each_join p (x ∷ xs) ys h g = (h.0, each_join p xs ys h.1 g)

sign_each : (s : List ℕ) → IsSign s → Each is_open s
sign_each [] h = tt
sign_each (x ∷ []) h = (sign_open x h, tt)
sign_each (x ∷ y ∷ ys) h = absurd h

keyword_each_open : (w : List ℕ) → IsKeyword w → Each is_open w
keyword_each_open [] h = absurd h
keyword_each_open (b ∷ bs) h = (letter_open b h.0, each_map is_word_byte is_open word_open bs h.1)

exponent_each_open : (x : List ℕ) → IsExponent x → Each is_open x
exponent_each_open [] h = tt
exponent_each_open (e ∷ bs) h = (
  e_open e h.0,
  subst (Each is_open) (sym h.5)
      (each_join is_open h.1 h.2 (sign_each h.1 h.3) (each_map is_digit is_open digit_open h.2 h.4.1)),
)

-- a byte whose lower case is open is open
lower_open : (b c : ℕ) → to_ascii_lowercase b ≡ c → is_open c ≡ true → is_open b ≡ true
lower_open b c e h = grind (arith, nat_tests)

said_open : (word t : List ℕ) → Each is_open word → map to_ascii_lowercase t ≡ word → Each is_open t
said_open [] [] h e = tt
said_open [] (x ∷ xs) h e = absurd (cc)
said_open (c ∷ cs) [] h e = absurd (cc)
said_open (c ∷ cs) (x ∷ xs) h e =
    let a : to_ascii_lowercase x ≡ c = cc in let b : map to_ascii_lowercase xs ≡ cs = cc in
    (lower_open x c a h.0, said_open cs xs h.1 b)

-- a token that is no string and no mark has open bytes alone
open_token : (k : TokenKind) (t rest : List ℕ) → Allows k t rest → (k ≡ string → ⊥) → (k ≡ mark → ⊥) → Each is_open t
open_token begins t rest a s m = said_open (map to_ascii_lowercase (codes "ISO-10303-21")) t
    (all_each is_open (map to_ascii_lowercase (codes "ISO-10303-21")) refl) a
open_token ends t rest a s m = said_open (map to_ascii_lowercase (codes "END-ISO-10303-21")) t
    (all_each is_open (map to_ascii_lowercase (codes "END-ISO-10303-21")) refl) a
open_token keyword t rest a s m = keyword_each_open t a
open_token user_defined t rest a s m = subst (Each is_open) (sym a.2) (refl, keyword_each_open a.0 a.1)
open_token scope t rest a s m = said_open (map to_ascii_lowercase (codes "&SCOPE")) t
    (all_each is_open (map to_ascii_lowercase (codes "&SCOPE")) refl) a
open_token name t rest a s m = subst (Each is_open) (sym a.2) (refl, each_map is_digit is_open digit_open a.0 a.1.1)
open_token integer t rest a s m = subst (Each is_open) (sym a.4) (each_join is_open a.0 a.1 (sign_each a.0 a.2)
    (each_map is_digit is_open digit_open a.1 a.3.1))
open_token real t rest a s m =
    subst (Each is_open) (sym a.8) (each_join is_open (a.0 ++ a.1 ++ 46 ∷ a.2) a.3
    (each_join is_open (a.0 ++ a.1) (46 ∷ a.2) (each_join is_open a.0 a.1 (sign_each a.0 a.4)
    (each_map is_digit is_open digit_open a.1 a.5.1)) (refl, each_map is_digit is_open digit_open a.2 a.6))
    (exponent_each_open a.3 a.7))
open_token element t rest a s m = subst (Each is_open) (sym a.2)
    (refl, each_join is_open a.0 (46 ∷ []) (keyword_each_open a.0 a.1) (refl, tt))
open_token string t rest a s m = absurd (s refl)
open_token binary t rest a s m = subst (Each is_open) (sym a.6) (
  refl,
  (
    unused_open a.0 a.2 a.3,
    each_join is_open a.1 (34 ∷ []) (each_map is_hex is_open hex_open a.1 a.4)
        (refl, tt),
  ),
)
open_token mark t rest a s m = absurd (m refl)

-- what has open bytes alone ends before a closer
open_fits : (xs ys r s : List ℕ) (c : ℕ) → Each is_open xs → is_closer c ≡ true → xs ++ r ≡ ys ++ c ∷ s
    → length xs ≤ length ys
open_fits [] ys r s c h e q = omega arith
open_fits (x ∷ xs) [] r s c h e q = let same : x ≡ c = cc in let t : is_open c ≡ true = ap is_open (sym same) ∙ h.0 in
    absurd (false≢true ((let f : false ≡ is_open c = rw e refl in f) ∙ t))
open_fits (x ∷ xs) (y ∷ ys) r s c h e q = let t : xs ++ r ≡ ys ++ c ∷ s = cc in
    omega (arith, open_fits xs ys r s c h.1 e t)

mark_short : (other rest t : List ℕ) → Allows mark other rest → 0 < length t → length other ≤ length t
mark_short other rest t a h = omega (arith, ap length a.2, h)

string_group : (k : TokenKind) → group k ≡ apostrophe → k ≡ string
string_group string e = refl
string_group _ e = absurd (cc)

closer_quote : (c : ℕ) → is_closer c ≡ true → (c == 39) ≡ false
closer_quote c h = grind (arith, nat_tests)

-- a token that is allowed before a closer is the longest there
module _ (k : TokenKind) (t s : List ℕ) (c : ℕ) (closer : is_closer c ≡ true) (own : Allows k t (c ∷ s))
    (some : 0 < length t) where
  longest_other : (j : TokenKind) (other rest : List ℕ) → (k ≡ string → ⊥) → other ++ rest ≡ t ++ c ∷ s
      → Allows j other rest → length other ≤ length t
  longest_other string other rest no_string e a =
      absurd (no_string (string_group k (sym (same_group k string t (c ∷ s) other rest own a e))))
  longest_other mark other rest no_string e a = mark_short other rest t a some
  longest_other j other rest no_string e a = open_fits other t rest s c (open_token j other rest a (λ q. cc) (λ q. cc))
      closer e

  next_other : (k ≡ string → ⊥) → IsNext k t (c ∷ s)
  next_other no_string = record {
    allowed = own;
    longest = λ j other rest e a. longest_other j other rest no_string e a;
  }

some_bytes : (k : TokenKind) (t rest : List ℕ) → Allows k t rest → 0 < length t
some_bytes k [] rest a = absurd (no_empty k rest a)
some_bytes k (x ∷ xs) rest a = omega arith

pub next_before_closer : (k : TokenKind) (t s : List ℕ) (c : ℕ) → is_closer c ≡ true → Allows k t (c ∷ s)
    → IsNext k t (c ∷ s)
next_before_closer string t s c closer own = subst (λ l. IsNext string l (c ∷ s)) (sym own.0.1)
    (next_string own.0.0 (c ∷ s) own.1)
next_before_closer k t s c closer own = next_other k t s c closer own (some_bytes k t (c ∷ s) own) (λ q. cc)

allows_past : (k : TokenKind) (t v a b : List ℕ) (c : ℕ) → Allows k t (v ++ c ∷ a) → Allows k t (v ++ c ∷ b)
allows_past string t [] a b c h = h
allows_past string t (x ∷ xs) a b c h = h
allows_past _ t v a b c h = h

-- a list that is no longer than the front of another with which it begins is the front's beginning
front_of : (xs ys r s : List ℕ) → xs ++ r ≡ ys ++ s → length xs ≤ length ys → (w : List ℕ) × (ys ≡ xs ++ w)
    × (r ≡ w ++ s)
front_of [] ys r s e h = (ys, refl, e)
front_of (x ∷ xs) [] r s e h = absurd (omega (arith, h))
front_of (x ∷ xs) (y ∷ ys) r s e h =
    let t : xs ++ r ≡ ys ++ s = cc in let q : y ≡ x = cc in
    let f = front_of xs ys r s t (omega (arith, h)) in
    (f.0, (λ i. q i ∷ f.1 i), f.2)

-- a string ends where it ends, whatever follows
string_past : (t after other rest : List ℕ) → Allows string t after → other ++ rest ≡ t ++ after
    → Allows string other rest → length other ≤ length t
string_past t after other rest own e a =
    let n : IsNext string t after = subst (λ l. IsNext string l after) (sym own.0.1) (next_string own.0.0 after own.1)
    in
    n.longest string other rest e a

-- what stands behind a closer that comes later doesn't change a token
module _ (k : TokenKind) (t v a b : List ℕ) (c : ℕ) (closer : is_closer c ≡ true) (h : IsNext k t (v ++ c ∷ a)) where
  longest_past : (j : TokenKind) (other rest : List ℕ) → other ++ rest ≡ t ++ (v ++ c ∷ b) → (j ≡ mark → ⊥)
      → (j ≡ string → ⊥) → Allows j other rest → ((r : List ℕ) → Allows j other r) → length other ≤ length t
  longest_past j other rest e no_mark no_string own moved =
      let q : other ++ rest ≡ (t ++ v) ++ c ∷ b = e ∙ sym (append_assoc t v (c ∷ b)) in
      let fits = open_fits other (t ++ v) rest b c (open_token j other rest own no_string no_mark) closer q in
      let f = front_of other (t ++ v) rest (c ∷ b) q fits in
      let back : other ++ (f.0 ++ c ∷ a) ≡ t ++ (v ++ c ∷ a) = sym (append_assoc other f.0 (c ∷ a))
      ∙ ap (λ l. l ++ c ∷ a) (sym f.1) ∙ append_assoc t v (c ∷ a) in
      h.longest j other (f.0 ++ c ∷ a) back (moved (f.0 ++ c ∷ a))

  kept_longest : Allows k t (v ++ c ∷ b) → (j : TokenKind) (other rest : List ℕ) → other ++ rest ≡ t ++ (v ++ c ∷ b)
      → Allows j other rest → length other ≤ length t
  kept_longest own string other rest e own_other =
      let is : k ≡ string = string_group k (sym (same_group k string t (v ++ c ∷ b) other rest own own_other e)) in
      string_past t (v ++ c ∷ b) other rest (subst (λ j. Allows j t (v ++ c ∷ b)) is own) e own_other
  kept_longest own mark other rest e own_other = mark_short other rest t own_other
      (some_bytes k t (v ++ c ∷ a) h.allowed)
  kept_longest own j other rest e own_other = longest_past j other rest e (λ q. cc) (λ q. cc) own_other (λ r. own_other)

  pub next_kept : IsNext k t (v ++ c ∷ b)
  next_kept = let own = allows_past k t v a b c h.allowed in record {
    allowed = own;
    longest = λ j other rest e x. kept_longest own j other rest e x;
  }

space_group : (b : ℕ) → b ≤ 32 → group_of b ≡ None
space_group b h = grind (arith, nat_tests)

space_at : (l : List ℕ) → 0 < length l → get_or l 0 0 ≤ 32 → group_at l ≡ None
space_at [] some h = absurd (omega (arith, some))
space_at (b ∷ bs) some h = space_group b h

byte_at : (c : ℕ) (l : List ℕ) → group_of c ≡ None → 0 < length l → get_or l 0 0 ≡ c → group_at l ≡ None
byte_at c [] g some h = absurd (omega (arith, some))
byte_at c (b ∷ bs) g some h = ap group_of h ∙ g

front_group : (t rest : List ℕ) → 0 < length t → group_at (t ++ rest) ≡ group_at t
front_group [] rest some = absurd (omega (arith, some))
front_group (b ∷ bs) rest some = refl

blank_group : (kind : Blank) (t : List ℕ) → SpellsBlank kind t → (0 < length t) × (group_at t ≡ None)
blank_group space t h = let b = blank_head space t h in (b.0, space_at t b.0 b.1)
blank_group new_line t h = let b = blank_head new_line t h in (b.0, byte_at 92 t refl b.0 b.1)
blank_group form_feed t h = let b = blank_head form_feed t h in (b.0, byte_at 92 t refl b.0 b.1)
blank_group comment t h = let b = blank_head comment t h in (b.0, byte_at 47 t refl b.0 b.1)

-- no layout stands where a token does
pub no_blank_at_token : (k : TokenKind) (t rest : List ℕ) → Allows k t rest → NoBlank (t ++ rest)
no_blank_at_token k t rest a u more e is =
    let b = blank_group is.0 u is.1 in
    let g : group_at (t ++ rest) ≡ Some (group k) = first_group k t rest (t ++ rest) a refl in
    let n : group_at (t ++ rest) ≡ None = ap group_at e ∙ front_group u more b.0 ∙ b.1 in
    let clash : Some (group k) ≡ None = sym g ∙ n in cc

-- no layout is at the end of a text
pub no_blank_at_end : NoBlank []
no_blank_at_end u more e is =
    let b = blank_group is.0 u is.1 in
    omega (arith, b.0, ap length e, length-append u more)
