-- A lexer's answer is determined by what is read.
use Rattle.std.proofs.Common.{◌≡◌, ℕ, ◌+◌, ◌<◌, ◌^◌, List, [], ◌∷◌, ◌++◌, length, take, drop, refl, sym, ap, ◌∙◌, ◌-◌, subst, arith, length-append, take-append-drop, ◌⊎◌, inl, inr}
use Rattle.std.specs.Str.Parse.{digits_value}
use Rattle.step_literals.specs.declared.fault.TextFault.{TextFault}
use Rattle.step_lexer.specs.declared.token.Sort.{Sort}
use Rattle.step_lexer.specs.declared.token.Sort.TheVariants as sorts
use Rattle.step_literals.specs.declared.fault.Flaw.{Flaw}
use Rattle.step_literals.specs.declared.fault.Flaw.TheVariants.{BadToken, UnendedString, BadEscape, NumberTooLong, NameTooLarge}
use Rattle.step_literals.specs.Tokens.{TokenKind, name, integer, real, string, IsNext, NoneAt}
use Rattle.step_literals.specs.Numbers.{IsShortNumber}
use Rattle.step_literals.specs.Strings.{content_of, IsReadable, IsBrokenAt}
use Rattle.step_lexer.specs.Front.{kind_of, mark_byte, HasValue, IsFront, IsFlawed, HasBadEscape}
use Rattle.step_lexer.specs.Reading.{lexis, Reading, Reaches, SameSort}
use Rattle.step_lexer.specs.Laws.{AnswersAreDetermined, EndIsAnsweredAgain, FaultIsAnsweredAgain, PlacesRise}
use Rattle.parsing.proofs.Determined as lexing
use Rattle.parsing.proofs.Determined.{IsUnambiguous}
use Rattle.step_lexer.specs.declared.token.Mark.{Mark}
use Rattle.step_lexer.specs.declared.token.Mark.TheVariants.{Open, Close, Comma, Semicolon, Equals, Dollar, Asterisk}
use Rattle.std.specs.Prelude.{◌==◌, if◌then◌else◌}
use Rattle.step_lexer.specs.Layout.{SkipsLayout}
use Rattle.std.proofs.lemmas.List.{append_cancel_right}
use Rattle.step_lexer.proofs.Unique.{one_next}
use Rattle.step_literals.proofs.DirectiveLemmas.{broken_once, readable_not_broken}
use Rattle.step_lexer.proofs.LayoutLemmas.{one_rest}
use Rattle.step_lexer.proofs.ReadingLemmas.{some_bytes}

one_rest_of : (l a b : List ℕ) → SkipsLayout l a → SkipsLayout l b → a ≡ b
one_rest_of l a b h g =
    let e = sym (ap (λ t. t ++ a) h.layout.2) ∙ sym h.split ∙ g.split ∙ ap (λ t. t ++ b) g.layout.2 in
    one_rest h.layout.0 g.layout.0 a b h.layout.1 g.layout.1 e h.whole g.whole

none_next : (l t a : List ℕ) (k : TokenKind) → NoneAt l → l ≡ t ++ a → IsNext k t a → ⊥
none_next l t a k none e h = none k t a e h.allowed

module _ (l : List ℕ) where
  whole : (n : ℕ) → l ≡ take n l ++ drop n l
  whole n = sym (take-append-drop n l)

  one : (k j : TokenKind) (n m : ℕ) → IsNext k (take n l) (drop n l) → IsNext j (take m l) (drop m l) → (k ≡ j)
      × (take n l ≡ take m l)
  one k j n m h g = let u = one_next k j (take n l) (drop n l) (take m l) (drop m l) h g (sym (whole n) ∙ whole m) in
      (u.0, u.1)

short_integer : (s : Sort) (t : List ℕ) → kind_of s ≡ integer → HasValue s t → IsShortNumber t
short_integer (sorts.Integer d) t k h = h.1
short_integer (sorts.Real d) t k h = h.1
short_integer _ t k h = absurd (cc)

short_real : (s : Sort) (t : List ℕ) → kind_of s ≡ real → HasValue s t → IsShortNumber t
short_real (sorts.Real d) t k h = h.1
short_real (sorts.Integer d) t k h = h.1
short_real _ t k h = absurd (cc)

small_name : (s : Sort) (t : List ℕ) → kind_of s ≡ name → HasValue s t → digits_value 10 (drop 1 t) < 2 ^ 64
small_name (sorts.Name n) t k h = omega (arith, h.0, h.1)
small_name _ t k h = absurd (cc)

readable_string : (s : Sort) (t : List ℕ) → kind_of s ≡ string → HasValue s t → IsReadable (content_of t)
readable_string (sorts.String d) t k h = h.1
readable_string _ t k h = absurd (cc)

-- a number at the front
IsNumberAt : List ℕ → ℕ → Type 0
IsNumberAt l n = IsNext integer (take n l) (drop n l) ⊎ IsNext real (take n l) (drop n l)

number_same : (l : List ℕ) (k : TokenKind) (n m : ℕ) → IsNext k (take n l) (drop n l) → IsNumberAt l m
    → ((k ≡ integer) ⊎ (k ≡ real)) × (take n l ≡ take m l)
unfolding IsNumberAt
number_same l k n m h (inl g) = let u = one l k integer n m h g in (inl u.0, u.1)
number_same l k n m h (inr g) = let u = one l k real n m h g in (inr u.0, u.1)

short_of : (l : List ℕ) (s : Sort) (n m : ℕ) → (kind_of s ≡ integer) ⊎ (kind_of s ≡ real) → HasValue s (take n l)
    → take n l ≡ take m l → IsShortNumber (take m l)
short_of l s n m (inl k) h e = subst IsShortNumber e (short_integer s (take n l) k h)
short_of l s n m (inr k) h e = subst IsShortNumber e (short_real s (take n l) k h)

front_flawed : (l : List ℕ) (s : Sort) (n index : ℕ) (f : Flaw) → IsFront l s n → IsFlawed l f index → ⊥
unfolding IsNumberAt
front_flawed l s n index BadToken h g = none_next l (take n l) (drop n l) (kind_of s) g.0 (whole l n) h.next
front_flawed l s n index UnendedString h g = none_next l (take n l) (drop n l) (kind_of s) g.0 (whole l n) h.next
front_flawed l s n index BadEscape h g =
    let u = one l (kind_of s) string n g.len h.next g.next in
    readable_not_broken (content_of (take g.len l)) (index - 1) (subst (λ t. IsReadable (content_of t)) u.1
    (readable_string s (take n l) u.0 h.value)) g.broken
front_flawed l s n index NumberTooLong h g =
    let u = number_same l (kind_of s) n g.0.len h.next g.0.next in
    g.0.long (short_of l s n g.0.len u.0 h.value u.1)
front_flawed l s n index NameTooLarge h g =
    let u = one l (kind_of s) name n g.0.len h.next g.0.next in
    omega (arith, small_name s (take n l) u.0 h.value, ap (λ t. digits_value 10 (drop 1 t)) u.1, g.0.large)

none_stands : (l : List ℕ) (n : ℕ) (k : TokenKind) → NoneAt l → IsNext k (take n l) (drop n l) → ⊥
none_stands l n k none h = none_next l (take n l) (drop n l) k none (whole l n) h

none_number : (l : List ℕ) (n : ℕ) → NoneAt l → IsNumberAt l n → ⊥
unfolding IsNumberAt
none_number l n none (inl h) = none_stands l n integer none h
none_number l n none (inr h) = none_stands l n real none h

number_not : (l : List ℕ) (k : TokenKind) (n m : ℕ) → IsNumberAt l n → IsNext k (take m l) (drop m l)
    → (k ≡ integer → ⊥) → (k ≡ real → ⊥) → ⊥
unfolding IsNumberAt
number_not l k n m (inl h) g a b = a (one l k integer m n g h).0
number_not l k n m (inr h) g a b = b (one l k real m n g h).0

string_name : (l : List ℕ) (n m : ℕ) → IsNext string (take n l) (drop n l) → IsNext name (take m l) (drop m l) → ⊥
string_name l n m h g = let q : string ≡ name = (one l string name n m h g).0 in cc

broken_same : (l : List ℕ) (i j : ℕ) → HasBadEscape l i → HasBadEscape l j → i ≡ j
broken_same l i j h g =
    let u = one l string string h.len g.len h.next g.next in
    let b : IsBrokenAt (content_of (take g.len l)) (i - 1) = subst (λ t. IsBrokenAt (content_of t) (i - 1)) u.1 h.broken
    in
    omega (arith, broken_once (content_of (take g.len l)) (i - 1) (j - 1) b g.broken, h.inside, g.inside)

flaws_same : (l : List ℕ) (f g : Flaw) (i j : ℕ) → IsFlawed l f i → IsFlawed l g j → (f ≡ g) × (i ≡ j)
unfolding IsNumberAt
flaws_same l BadToken BadToken i j h k = (refl, h.2 ∙ sym k.2)
flaws_same l BadToken UnendedString i j h k = absurd (h.1 k.1)
flaws_same l BadToken BadEscape i j h k = absurd (none_stands l k.len string h.0 k.next)
flaws_same l BadToken NumberTooLong i j h k = absurd (none_number l k.0.len h.0 k.0.next)
flaws_same l BadToken NameTooLarge i j h k = absurd (none_stands l k.0.len name h.0 k.0.next)
flaws_same l UnendedString UnendedString i j h k = (refl, h.2 ∙ sym k.2)
flaws_same l UnendedString BadToken i j h k = absurd (k.1 h.1)
flaws_same l UnendedString BadEscape i j h k = absurd (none_stands l k.len string h.0 k.next)
flaws_same l UnendedString NumberTooLong i j h k = absurd (none_number l k.0.len h.0 k.0.next)
flaws_same l UnendedString NameTooLarge i j h k = absurd (none_stands l k.0.len name h.0 k.0.next)
flaws_same l BadEscape BadEscape i j h k = (refl, broken_same l i j h k)
flaws_same l BadEscape BadToken i j h k = absurd (none_stands l h.len string k.0 h.next)
flaws_same l BadEscape UnendedString i j h k = absurd (none_stands l h.len string k.0 h.next)
flaws_same l BadEscape NumberTooLong i j h k = absurd (number_not l string k.0.len h.len k.0.next h.next (λ e. cc)
    (λ e. cc))
flaws_same l BadEscape NameTooLarge i j h k = absurd (string_name l h.len k.0.len h.next k.0.next)
flaws_same l NumberTooLong NumberTooLong i j h k = (refl, h.1 ∙ sym k.1)
flaws_same l NumberTooLong BadToken i j h k = absurd (none_number l h.0.len k.0 h.0.next)
flaws_same l NumberTooLong UnendedString i j h k = absurd (none_number l h.0.len k.0 h.0.next)
flaws_same l NumberTooLong BadEscape i j h k = absurd (number_not l string h.0.len k.len h.0.next k.next (λ e. cc)
    (λ e. cc))
flaws_same l NumberTooLong NameTooLarge i j h k = absurd (number_not l name h.0.len k.0.len h.0.next k.0.next (λ e. cc)
    (λ e. cc))
flaws_same l NameTooLarge NameTooLarge i j h k = (refl, h.1 ∙ sym k.1)
flaws_same l NameTooLarge BadToken i j h k = absurd (none_stands l h.0.len name k.0 h.0.next)
flaws_same l NameTooLarge UnendedString i j h k = absurd (none_stands l h.0.len name k.0 h.0.next)
flaws_same l NameTooLarge BadEscape i j h k = absurd (string_name l k.len h.0.len k.next h.0.next)
flaws_same l NameTooLarge NumberTooLong i j h k = absurd (number_not l name k.0.len h.0.len k.0.next h.0.next (λ e. cc)
    (λ e. cc))

-- the mark that is this byte
mark_at : ℕ → Mark
mark_at b = if b == 40 then Open else (if b == 41 then Close else
    (if b == 44 then Comma else (if b == 59 then Semicolon else
    (if b == 61 then Equals else (if b == 36 then Dollar else Asterisk)))))

mark_back : (m : Mark) → mark_at (mark_byte m) ≡ m
unfolding mark_at
mark_back Open = refl
mark_back Close = refl
mark_back Comma = refl
mark_back Semicolon = refl
mark_back Equals = refl
mark_back Dollar = refl
mark_back Asterisk = refl

-- two words between dots
between_dots : (v w t : List ℕ) → 46 ∷ v ++ 46 ∷ [] ≡ t → 46 ∷ w ++ 46 ∷ [] ≡ t → v ≡ w
between_dots v w t h g =
    let e : 46 ∷ (v ++ 46 ∷ []) ≡ 46 ∷ (w ++ 46 ∷ []) = h ∙ sym g in
    let q : v ++ 46 ∷ [] ≡ w ++ 46 ∷ [] = cc in
    append_cancel_right v w (46 ∷ []) q

behind_mark : (v w t : List ℕ) → 33 ∷ v ≡ t → 33 ∷ w ≡ t → v ≡ w
behind_mark v w t h g = let e : 33 ∷ v ≡ 33 ∷ w = h ∙ sym g in cc

one_mark : (m n : Mark) (t : List ℕ) → mark_byte m ∷ [] ≡ t → mark_byte n ∷ [] ≡ t → m ≡ n
one_mark m n t h g =
    let e : mark_byte m ∷ [] ≡ mark_byte n ∷ [] = h ∙ sym g in
    let q : mark_byte m ≡ mark_byte n = cc in
    sym (mark_back m) ∙ ap mark_at q ∙ mark_back n

-- a token's bytes determine its value
same_sort : (s u : Sort) (t : List ℕ) → kind_of s ≡ kind_of u → HasValue s t → HasValue u t → SameSort s u
same_sort sorts.Begin sorts.Begin t k h g = tt
same_sort sorts.Begin _ t k h g = absurd (cc)
same_sort sorts.End sorts.End t k h g = tt
same_sort sorts.End _ t k h g = absurd (cc)
same_sort (sorts.Keyword v) (sorts.Keyword w) t k h g = h ∙ sym g
same_sort (sorts.Keyword v) _ t k h g = absurd (cc)
same_sort (sorts.UserDefined v) (sorts.UserDefined w) t k h g = behind_mark v.text.now w.text.now t h g
same_sort (sorts.UserDefined v) _ t k h g = absurd (cc)
same_sort sorts.Scope sorts.Scope t k h g = tt
same_sort sorts.Scope _ t k h g = absurd (cc)
same_sort (sorts.Name m) (sorts.Name n) t k h g = h.0 ∙ sym g.0
same_sort (sorts.Name m) _ t k h g = absurd (cc)
same_sort (sorts.Integer a) (sorts.Integer b) t k h g = h.0 ∙ sym g.0
same_sort (sorts.Integer a) _ t k h g = absurd (cc)
same_sort (sorts.Real a) (sorts.Real b) t k h g = h.0 ∙ sym g.0
same_sort (sorts.Real a) _ t k h g = absurd (cc)
same_sort (sorts.Element v) (sorts.Element w) t k h g = between_dots v.text.now w.text.now t h g
same_sort (sorts.Element v) _ t k h g = absurd (cc)
same_sort (sorts.String a) (sorts.String b) t k h g = h.0 ∙ sym g.0
same_sort (sorts.String a) _ t k h g = absurd (cc)
same_sort (sorts.Binary a) (sorts.Binary b) t k h g = h ∙ sym g
same_sort (sorts.Binary a) _ t k h g = absurd (cc)
same_sort (sorts.Mark m) (sorts.Mark n) t k h g = one_mark m n t h g
same_sort (sorts.Mark m) _ t k h g = absurd (cc)

one_front : (l : List ℕ) (s u : Sort) (n m : ℕ) → IsFront l s n → IsFront l u m → (take n l ≡ take m l) × SameSort s u
one_front l s u n m h g =
    let o = one l (kind_of s) (kind_of u) n m h.next g.next in
    (o.1, same_sort s u (take n l) o.0 h.value (subst (HasValue u) (sym o.1) g.value))

one_flaw : (l : List ℕ) (place i j : ℕ) (f k : TextFault) → IsFlawed l f.flaw i → IsFlawed l k.flaw j
    → f.place ≡ place + i → k.place ≡ place + j → f ≡ k
one_flaw l place i j f k h g p q =
    let same = flaws_same l f.flaw k.flaw i j h g in
    let at : f.place ≡ k.place = p ∙ ap (λ n. place + n) same.1 ∙ sym q in
    (λ x. record { flaw = same.0 x; place = at x })

pub unambiguous : IsUnambiguous lexis
unambiguous = record {
  one_rest = λ l a b h g. one_rest_of l a b h g;
  skipped = λ l a h. record { gap = []; layout = ([], tt, refl); split = refl; whole = h.whole };
  shorter = λ l a h. omega (arith, ap length h.split, length-append h.gap a);
  some_bytes = λ l t h. some_bytes l t.sort (length t.text.now) h;
  within = λ l t h. h.within;
  one_front = λ l t u h g p q.
      let o = one_front l t.sort u.sort (length t.text.now) (length u.text.now) h g in
      (p ∙ o.0 ∙ sym q, o.1);
  front_flawed = λ l t place f h g. front_flawed l t.sort (length t.text.now) g.0 f.flaw h g.1;
  one_flaw = λ l place f k h g. one_flaw l place h.0 g.0 f k h.1 g.1 h.2 g.2;
}

pub same_place : (old : Reading) (p q : ℕ) → Reaches old p → Reaches old q → p ≡ q
same_place = lexing.same_place lexis unambiguous

-- what is answered is determined, and how far the text is read then
pub determined : AnswersAreDetermined
determined = lexing.determined lexis unambiguous

-- the end is answered again
pub end_again : EndIsAnsweredAgain
end_again = lexing.end_again lexis unambiguous

-- a fault is answered again
pub fault_again : FaultIsAnsweredAgain
fault_again = lexing.fault_again lexis unambiguous

-- places rise
pub places_rise : PlacesRise
places_rise = lexing.places_rise lexis unambiguous
