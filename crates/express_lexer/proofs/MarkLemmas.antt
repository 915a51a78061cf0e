-- The marks as a list, from the longest to the shortest.
use Rattle.std.proofs.Common.{◌≡◌, ℕ, zero, suc, ◌+◌, ◌≤◌, ◌<◌, Bool, true, false, List, [], ◌∷◌, length, get_or, refl, sym, ap, ◌∙◌, arith}
use Rattle.std.specs.Prelude.{◌&&◌, nat_le, nat_lt, cond}
use Rattle.std.specs.List.{list_all}
use Rattle.std.proofs.lemmas.Bool.{false≢true}
use Rattle.std.proofs.lemmas.Bool.Decides.{nat_tests}
use Rattle.step_literals.specs.Strings.{begins_with}
use Rattle.express_lexer.specs.declared.marks.Mark.{Mark}
use Rattle.express_lexer.specs.declared.marks.Mark.TheVariants as marks
use Rattle.express_lexer.specs.declared.marks.TheConstants.{MARKS}
use Rattle.express_lexer.specs.Marks.{mark_text, IsLongestMark, NoMark}

-- the first mark with this text
abbrev seek : List ℕ → List Mark → ℕ
seek t [] = 0
seek t (m ∷ ms) = cond (begins_with (mark_text m) t) 0 (suc (seek t ms))

abbrev place : Mark → ℕ
place m = seek (mark_text m) MARKS

abbrev pub mark_in : List Mark → ℕ → Mark
mark_in ms k = get_or ms k marks.Semicolon

-- each mark is in the list
listed : (m : Mark) → (nat_lt (place m) (length MARKS) ≡ true) × (mark_in MARKS (place m) ≡ m)
listed marks.Semicolon = (refl, refl)
listed marks.Comma = (refl, refl)
listed marks.Colon = (refl, refl)
listed marks.Dot = (refl, refl)
listed marks.Open = (refl, refl)
listed marks.Close = (refl, refl)
listed marks.OpenBracket = (refl, refl)
listed marks.CloseBracket = (refl, refl)
listed marks.OpenBrace = (refl, refl)
listed marks.CloseBrace = (refl, refl)
listed marks.Equal = (refl, refl)
listed marks.NotEqual = (refl, refl)
listed marks.Less = (refl, refl)
listed marks.Greater = (refl, refl)
listed marks.LessOrEqual = (refl, refl)
listed marks.GreaterOrEqual = (refl, refl)
listed marks.Assign = (refl, refl)
listed marks.InstanceEqual = (refl, refl)
listed marks.InstanceNotEqual = (refl, refl)
listed marks.Plus = (refl, refl)
listed marks.Minus = (refl, refl)
listed marks.Times = (refl, refl)
listed marks.Divide = (refl, refl)
listed marks.Power = (refl, refl)
listed marks.Combine = (refl, refl)
listed marks.Bar = (refl, refl)
listed marks.QuerySource = (refl, refl)
listed marks.Unknown = (refl, refl)
listed marks.Backslash = (refl, refl)

pub one_mark : (m n : Mark) → mark_text m ≡ mark_text n → m ≡ n
one_mark m n e = sym (listed m).1 ∙ ap (λ t. mark_in MARKS (seek t MARKS)) e ∙ (listed n).1

pub below : (k n : ℕ) → nat_lt k n ≡ true → k < n
below k n h = grind (arith, nat_tests)

not_above : (k n : ℕ) → nat_le k n ≡ true → k ≤ n
not_above k n h = grind (arith, nat_tests)

first_of : (p q : Bool) → (p && q) ≡ true → p ≡ true
first_of true q h = refl
first_of false q h = h

second_of : (p q : Bool) → (p && q) ≡ true → q ≡ true
second_of true q h = h
second_of false q h = absurd (false≢true h)

all_at : (p : Mark → Bool) (ms : List Mark) (k : ℕ) → list_all p ms ≡ true → k < length ms → p (mark_in ms k) ≡ true
all_at p [] k h lt = absurd (omega (arith, lt))
all_at p (m ∷ ms) zero h lt = first_of (p m) (list_all p ms) h
all_at p (m ∷ ms) (suc k) h lt = all_at p ms k (second_of (p m) (list_all p ms) h) (omega (arith, lt))

-- what holds in the list holds of each mark
pub each_mark : (p : Mark → Bool) → list_all p MARKS ≡ true → (m : Mark) → p m ≡ true
each_mark p h m = let l = listed m in ap p (sym l.1) ∙ all_at p MARKS (place m) h (below (place m) (length MARKS) l.0)

-- no mark behind m is longer
abbrev is_below : Mark → Mark → Bool
is_below m n = nat_le (length (mark_text n)) (length (mark_text m))

abbrev falls : List Mark → Bool
falls [] = true
falls (m ∷ ms) = list_all (is_below m) ms && falls ms

falls_to : (ms : List Mark) (i j : ℕ) → falls ms ≡ true → i ≤ j → j < length ms → length (mark_text (mark_in ms j)) ≤
    length (mark_text (mark_in ms i))
falls_to [] i j h le lt = absurd (omega (arith, lt))
falls_to (m ∷ ms) zero zero h le lt = omega arith
falls_to (m ∷ ms) zero (suc j) h le lt =
    not_above (length (mark_text (mark_in ms j))) (length (mark_text m))
    (all_at (is_below m) ms j (first_of (list_all (is_below m) ms) (falls ms) h) (omega (arith, lt)))
falls_to (m ∷ ms) (suc i) zero h le lt = absurd (omega (arith, le))
falls_to (m ∷ ms) (suc i) (suc j) h le lt = falls_to ms i j (second_of (list_all (is_below m) ms) (falls ms) h)
    (omega (arith, le)) (omega (arith, lt))

-- no mark before this place of the list stands at the front
abbrev pub NoneBefore : List ℕ → ℕ → Type 0
NoneBefore text i = (k : ℕ) → k < i → begins_with (mark_text (mark_in MARKS k)) text ≡ false

module _ (text : List ℕ) where
  stands_at : (m : Mark) → begins_with (mark_text m) text ≡ true → begins_with (mark_text (mark_in MARKS (place m)))
      text ≡ true
  stands_at m h = ap (λ n. begins_with (mark_text n) text) (listed m).1 ∙ h

  not_before : (i : ℕ) → NoneBefore text i → (m : Mark) → begins_with (mark_text m) text ≡ true → i ≤ place m
  not_before i none m h = omega (arith, λ (lt : place m < i). false≢true (sym (none (place m) lt) ∙ stands_at m h))

  -- the first that stands is the longest
  pub longest_mark : (i : ℕ) → i < length MARKS → NoneBefore text i → begins_with (mark_text (mark_in MARKS i))
      text ≡ true → IsLongestMark text (mark_in MARKS i)
  longest_mark i lt none h = record {
    stands = h;
    longest = λ m stands. (let l = listed m in let le = falls_to MARKS i (place m) refl (not_before i none m stands)
        (below (place m) (length MARKS) l.0) in rw l.1 at le);
  }

  none_stands : (m : Mark) (t : Bool) → begins_with (mark_text m) text ≡ t → NoneBefore text (length MARKS) → t ≡ false
  none_stands m false e none = refl
  none_stands m true e none = let l = listed m in
      absurd (false≢true (sym (none (place m) (below (place m) (length MARKS) l.0)) ∙ stands_at m e))

  pub no_mark : NoneBefore text (length MARKS) → NoMark text
  no_mark none m = none_stands m (begins_with (mark_text m) text) refl none

  one_more : (i k : ℕ) (t : Bool) → nat_lt k i ≡ t → k < i + 1 → NoneBefore text i
      → begins_with (mark_text (mark_in MARKS i)) text ≡ false → begins_with (mark_text (mark_in MARKS k)) text ≡ false
  one_more i k true e lt none h = none k (below k i e)
  one_more i k false e lt none h = let same : k ≡ i = grind (arith, nat_tests) in rw same h

  pub none_more : (i : ℕ) → NoneBefore text i → begins_with (mark_text (mark_in MARKS i)) text ≡ false
      → NoneBefore text (i + 1)
  none_more i none h k lt = one_more i k (nat_lt k i) refl lt none h
