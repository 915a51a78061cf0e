-- A lexer's answer is determined by what is read.
use Rattle.std.proofs.Common.{◌≡◌, ℕ, List, [], ◌++◌, length, take, drop, refl, sym, ap, ◌∙◌, subst, arith, length-append, take-append-drop, ◌⊎◌, inl, inr}
use Rattle.step_literals.specs.Numbers.{IsShortNumber}
use Rattle.express_lexer.specs.declared.token.TextFault.{TextFault}
use Rattle.express_lexer.specs.declared.token.Sort.{Sort}
use Rattle.express_lexer.specs.declared.token.Sort.TheVariants as sorts
use Rattle.express_lexer.specs.Tokens.{TokenKind, integer, real, IsNext}
use Rattle.express_lexer.specs.Front.{kind_of, HasValue, IsFront, IsFlawed}
use Rattle.express_lexer.specs.Layout.{SkipsLayout, joined}
use Rattle.express_lexer.specs.Reading.{lexis, Reading, Reaches, SameSort}
use Rattle.express_lexer.specs.Laws.{AnswersAreDetermined, EndIsAnsweredAgain, FaultIsAnsweredAgain, PlacesRise}
use Rattle.parsing.proofs.Determined as lexing
use Rattle.parsing.proofs.Determined.{IsUnambiguous}
use Rattle.express_lexer.proofs.MarkLemmas.{one_mark}
use Rattle.express_lexer.proofs.Unique.{one_next}
use Rattle.express_lexer.proofs.LayoutLemmas.{one_rest}
use Rattle.express_lexer.proofs.ReadingLemmas.{some_bytes}

one_rest_of : (l a b : List ℕ) → SkipsLayout l a → SkipsLayout l b → a ≡ b
one_rest_of l a b h g = one_rest h.blanks g.blanks a b h.layout g.layout (sym h.split ∙ g.split) h.whole g.whole

module _ (l : List ℕ) where
  whole : (n : ℕ) → l ≡ take n l ++ drop n l
  whole n = sym (take-append-drop n l)

  one : (k j : TokenKind) (n m : ℕ) → IsNext k (take n l) (drop n l) → IsNext j (take m l) (drop m l) → (k ≡ j)
      × (take n l ≡ take m l)
  one k j n m h g = let u = one_next k j (take n l) (drop n l) (take m l) (drop m l) h g (sym (whole n) ∙ whole m) in
      (u.0, u.1)

short_number : (s : Sort) (t : List ℕ) → (kind_of s ≡ integer) ⊎ (kind_of s ≡ real) → HasValue s t → IsShortNumber t
short_number (sorts.Integer d) t k h = h.1
short_number (sorts.Real d) t k h = h.1
short_number (sorts.Word w) t (inl k) h = absurd (cc)
short_number (sorts.Word w) t (inr k) h = absurd (cc)
short_number (sorts.String w) t (inl k) h = absurd (cc)
short_number (sorts.String w) t (inr k) h = absurd (cc)
short_number (sorts.Encoded w) t (inl k) h = absurd (cc)
short_number (sorts.Encoded w) t (inr k) h = absurd (cc)
short_number (sorts.Binary w) t (inl k) h = absurd (cc)
short_number (sorts.Binary w) t (inr k) h = absurd (cc)
short_number (sorts.Mark w) t (inl k) h = absurd (cc)
short_number (sorts.Mark w) t (inr k) h = absurd (cc)

number_same : (l : List ℕ) (k : TokenKind) (n m : ℕ) → IsNext k (take n l) (drop n l) → IsNext integer (take m l)
    (drop m l) ⊎ IsNext real (take m l) (drop m l) → ((k ≡ integer) ⊎ (k ≡ real)) × (take n l ≡ take m l)
number_same l k n m h (inl g) = let u = one l k integer n m h g in (inl u.0, u.1)
number_same l k n m h (inr g) = let u = one l k real n m h g in (inr u.0, u.1)

-- no token within the limits stands where there is a fault
front_flawed : (l : List ℕ) (s : Sort) (n : ℕ) → IsFront l s n → IsFlawed l → ⊥
front_flawed l s n h (inl none) = none (kind_of s) (take n l) (drop n l) (whole l n) h.next.allowed
front_flawed l s n h (inr g) =
    let u = number_same l (kind_of s) n g.len h.next g.next in
    g.long (subst IsShortNumber u.1 (short_number s (take n l) u.0 h.value))

-- a token's bytes determine its value
same_sort : (s u : Sort) (t : List ℕ) → kind_of s ≡ kind_of u → HasValue s t → HasValue u t → SameSort s u
same_sort (sorts.Word v) (sorts.Word w) t k h g = h ∙ sym g
same_sort (sorts.Word v) _ t k h g = absurd (cc)
same_sort (sorts.Integer a) (sorts.Integer b) t k h g = h.0 ∙ sym g.0
same_sort (sorts.Integer a) _ t k h g = absurd (cc)
same_sort (sorts.Real a) (sorts.Real b) t k h g = h.0 ∙ sym g.0
same_sort (sorts.Real a) _ t k h g = absurd (cc)
same_sort (sorts.String a) (sorts.String b) t k h g = h ∙ sym g
same_sort (sorts.String a) _ t k h g = absurd (cc)
same_sort (sorts.Encoded a) (sorts.Encoded b) t k h g = h ∙ sym g
same_sort (sorts.Encoded a) _ t k h g = absurd (cc)
same_sort (sorts.Binary a) (sorts.Binary b) t k h g = h ∙ sym g
same_sort (sorts.Binary a) _ t k h g = absurd (cc)
same_sort (sorts.Mark m) (sorts.Mark n) t k h g = one_mark m n (h ∙ sym g)
same_sort (sorts.Mark m) _ t k h g = absurd (cc)

one_front : (l : List ℕ) (s u : Sort) (n m : ℕ) → IsFront l s n → IsFront l u m → (take n l ≡ take m l) × SameSort s u
one_front l s u n m h g =
    let o = one l (kind_of s) (kind_of u) n m h.next g.next in
    (o.1, same_sort s u (take n l) o.0 h.value (subst (HasValue u) (sym o.1) g.value))

one_fault : (f k : TextFault) → f.place ≡ k.place → f ≡ k
one_fault f k p = λ i. record { place = p i }

pub unambiguous : IsUnambiguous lexis
unambiguous = record {
  one_rest = λ l a b h g. one_rest_of l a b h g;
  skipped = λ l a h. record { blanks = []; layout = tt; split = refl; whole = h.whole };
  shorter = λ l a h. omega (arith, ap length h.split, length-append (joined h.blanks) a);
  some_bytes = λ l t h. some_bytes l t.sort (length t.text.now) h;
  within = λ l t h. h.within;
  one_front = λ l t u h g p q.
      let o = one_front l t.sort u.sort (length t.text.now) (length u.text.now) h g in
      (p ∙ o.0 ∙ sym q, o.1);
  front_flawed = λ l t place f h g. front_flawed l t.sort (length t.text.now) h g.0;
  one_flaw = λ l place f k h g. one_fault f k (h.1 ∙ sym g.1);
}

pub same_place : (old : Reading) (p q : ℕ) → Reaches old p → Reaches old q → p ≡ q
same_place = lexing.same_place lexis unambiguous

-- what is answered is determined, and how far the text is read then
pub determined : AnswersAreDetermined
determined = lexing.determined lexis unambiguous

-- the end is answered again
pub end_again : EndIsAnsweredAgain
end_again = lexing.end_again lexis unambiguous

-- a fault is answered again
pub fault_again : FaultIsAnsweredAgain
fault_again = lexing.fault_again lexis unambiguous

-- places rise
pub places_rise : PlacesRise
places_rise = lexing.places_rise lexis unambiguous
