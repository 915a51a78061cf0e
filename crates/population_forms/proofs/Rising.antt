-- Rows in which numbers rise.
use Rattle.std.specs.Prelude.{◌≡◌, ℕ, ◌+◌, ◌<◌, ◌≤◌, Bool, true, false, ◌||◌, nat_lt, List, [], ◌∷◌, map, length, get_or, eqb, ◌⊎◌, Result, Ok, Err, is_ok, MatchResult}
use Rattle.std.specs.List.{list_any, concat, AllPairs, Contains, dedup}
use Rattle.std.specs.List.Retain.{IsFiltered, DiffersFromLast}
use Rattle.std.specs.List.Sorted.{IsStrictlyIncreasing, IsNonDecreasing, IsSorted, IsPermutation}
use Rattle.std.specs.Ordering.{nat_cmp}
use Rattle.std.proofs.Common.{refl, inl, inr, ap, sym, subst, ◌∙◌, arith, suc}
use Rattle.std.proofs.lemmas.Bool.Decides.{nat_tests}
use Rattle.std.proofs.lemmas.List.Kept.{AllPairs-from_increasing, Contains-dedup_nat, Contains-from_dedup}
use Rattle.std.proofs.lemmas.List.Filters.{dedup_is}
use Rattle.std.proofs.lemmas.List.Sorted.{list_any-IsPermutation}
use Rattle.std.proofs.lemmas.Map.Views.{Contains-from_any}
use Rattle.std.proofs.lemmas.List.Folds.{list_any-append}
use Rattle.std.proofs.lemmas.Map.Keys.{IsStrictlyIncreasing-dedup, sorted_from_strictly_increasing, non_decreasing_from_sorted}
use Rattle.graphs.specs.Graphs.{Graph, has, next}
use Rattle.graphs.proofs.Found.{member-at, at-member}
use Rattle.schema_semantics.proofs.Bools.{or-left, or-right}
use Rattle.population_forms.specs.steps.Marked.{numbers_from, AreSorted, is_above, is_kind}
use Rattle.population_forms.proofs.Naming.{same-test, same-number, equals-itself}
use Rattle.population_forms.proofs.Kindred.{either}
use Rattle.population_forms.proofs.Listing.{none-below}

-- what rises doesn't fall
pub never-fall : (xs : List ℕ) → IsStrictlyIncreasing xs → IsNonDecreasing xs
never-fall xs h = non_decreasing_from_sorted xs (sorted_from_strictly_increasing xs h)

-- each is below all that stand behind it
abbrev Rises : List ℕ → Type 0
Rises [] = Unit {0}
Rises (x ∷ xs) = ((i : ℕ) → has xs i ≡ true → x < i) × Rises xs

rises : (xs : List ℕ) → AllPairs (λ x y. x < y) xs → Rises xs
rises [] h = tt
rises (x ∷ xs) h = (
  λ i e. (let (k, lt, at) = member-at xs i e in
      subst (λ y. x < y) at (h 0 (suc k) 0 (omega arith) (omega (arith, lt)))),
  rises xs (λ i j d l m. h (suc i) (suc j) d (omega (arith, l)) (omega (arith, m))),
)

above-first : (k i : ℕ) (marks : List Bool) → has (numbers_from (k + 1) marks) i ≡ true → k < i
above-first k i marks e = by (nat_lt i (k + 1)) refl
  where
    by : (b : Bool) → nat_lt i (k + 1) ≡ b → k < i
    by true f =
        let lt : i < k + 1 = grind (arith, nat_tests) in
        let none = none-below (k + 1) i marks lt in absurd (cc)
    by false f = grind (arith, nat_tests)

listed-rise : (k : ℕ) (marks : List Bool) → Rises (numbers_from k marks)
listed-rise k [] = tt
listed-rise k (true ∷ marks) = (λ i e. above-first k i marks e, listed-rise (k + 1) marks)
listed-rise k (false ∷ marks) = listed-rise (k + 1) marks

-- rows with the same numbers are one
same-rows : (xs ys : List ℕ) → Rises xs → Rises ys → ((i : ℕ) → has xs i ≡ has ys i) → xs ≡ ys
same-rows [] [] h k same = refl
same-rows [] (y ∷ ys) h k same =
    let e : false ≡ true = same y ∙ or-left (eqb y y) (has ys y) (equals-itself y) in absurd (cc)
same-rows (x ∷ xs) [] h k same =
    let e : false ≡ true = sym (same x) ∙ or-left (eqb x x) (has xs x) (equals-itself x) in absurd (cc)
same-rows (x ∷ xs) (y ∷ ys) h k same =
    ap (λ z. z ∷ xs) first ∙ ap (λ zs. y ∷ zs) (same-rows xs ys h.1 k.1 behind)
  where
    of-two : (eqb x y ≡ true) ⊎ (has ys x ≡ true) → (eqb y x ≡ true) ⊎ (has xs y ≡ true) → x ≡ y
    of-two (inl e) o = same-number x y e
    of-two (inr e) (inl f) = sym (same-number y x f)
    of-two (inr e) (inr f) = let lt = k.0 x e in let more = h.0 y f in absurd (omega (arith, lt, more))

    first : x ≡ y
    first =
        of-two (either (eqb x y) (has ys x) (sym (same x) ∙ or-left (eqb x x) (has xs x) (equals-itself x)))
        (either (eqb y x) (has xs y) (same y ∙ or-left (eqb y y) (has ys y) (equals-itself y)))

    forth : (i : ℕ) → has xs i ≡ true → (eqb i y ≡ true) ⊎ (has ys i ≡ true) → has ys i ≡ true
    forth i e (inl here) =
        let lt = h.0 i e in let at = same-number i y here in let one = first in absurd (omega (arith, lt, at, one))
    forth i e (inr there) = there

    back : (i : ℕ) → has ys i ≡ true → (eqb i x ≡ true) ⊎ (has xs i ≡ true) → has xs i ≡ true
    back i e (inl here) =
        let lt = k.0 i e in let at = same-number i x here in let one = first in absurd (omega (arith, lt, at, one))
    back i e (inr there) = there

    behind : (i : ℕ) → has xs i ≡ has ys i
    behind i =
        same-test (has xs i) (has ys i)
        (λ e. forth i e (either (eqb i y) (has ys i) (sym (same i) ∙ or-right (eqb i x) (has xs i) e)))
        (λ e. back i e (either (eqb i x) (has xs i) (same i ∙ or-right (eqb i y) (has ys i) e)))

-- what rises is listed by the marks on it
pub listed-as : (xs : List ℕ) (marks : List Bool) → IsStrictlyIncreasing xs
    → ((i : ℕ) → has xs i ≡ has (numbers_from 0 marks) i) → xs ≡ numbers_from 0 marks
listed-as xs marks h same =
    same-rows xs (numbers_from 0 marks) (rises xs (AllPairs-from_increasing xs h)) (listed-rise 0 marks) same

-- what a sort and a removal of what stands twice leave
dedup-has : (xs : List ℕ) (i : ℕ) → has (dedup eqb xs) i ≡ has xs i
dedup-has xs i =
    same-test (has (dedup eqb xs) i) (has xs i)
    (λ e. contained xs (Contains-from_dedup eqb xs i (Contains-from_any same-number i (dedup eqb xs) e)))
    (λ e. contained (dedup eqb xs) (Contains-dedup_nat xs i (Contains-from_any same-number i xs e)))
  where
    contained : (ys : List ℕ) → Contains ys i → has ys i ≡ true
    contained ys (k, lt, at) = subst (λ y. has ys y ≡ true) at (at-member ys k i lt)

pub sorted-is : (old up new : List ℕ) → IsPermutation old up → IsSorted nat_cmp up
    → IsFiltered (DiffersFromLast eqb) [] up new → AreSorted (has old) new
sorted-is old up new moved ordered kept =
    let is = dedup_is eqb up new kept in
    record {
      rise = subst IsStrictlyIncreasing (sym is) (IsStrictlyIncreasing-dedup up ordered);
      told = λ i. ap (λ xs. has xs i) is ∙ dedup-has up i ∙ sym (list_any-IsPermutation (eqb i) old up moved);
    }

-- what a search finds in numbers that don't fall
pub found-is : (xs : List ℕ) (x : ℕ) (r : Result ℕ ℕ)
    → MatchResult r (λ i. (i < length xs) × (get_or xs i 0 ≡ x))
    (λ i. (i ≤ length xs) × ((k : ℕ) → k < i → get_or xs k 0 < x)
    × ((k : ℕ) → i ≤ k → k < length xs → x < get_or xs k 0)) → is_ok r ≡ has xs x
found-is xs x (Ok i) (lt, at) = sym (subst (λ y. has xs y ≡ true) at (at-member xs i 0 lt))
found-is xs x (Err i) (le, low, high) = none (has xs x) refl
  where
    apart : (k : ℕ) → k < length xs → get_or xs k 0 ≡ x → (b : Bool) → nat_lt k i ≡ b → ⊥
    apart k lt at true e =
        let under : k < i = grind (arith, nat_tests) in let less = low k under in omega (arith, less, at)
    apart k lt at false e =
        let over : i ≤ k = grind (arith, nat_tests) in let more = high k over lt in omega (arith, more, at)

    none : (b : Bool) → has xs x ≡ b → false ≡ b
    none false e = refl
    none true e = let (k, lt, at) = member-at xs x e in absurd (apart k lt at (nat_lt k i) refl)

pub sorted-alike : (p q : ℕ → Bool) (row : List ℕ) → ((i : ℕ) → p i ≡ q i) → AreSorted p row → AreSorted q row
sorted-alike p q row same h = record { rise = h.rise; told = λ i. h.told i ∙ same i }

turned : (i j : ℕ) → eqb i j ≡ eqb j i
turned i j = grind (arith, nat_tests)

pub kinds-sorted : (above : Graph) (entity : ℕ) (row : List ℕ) → AreSorted (has (entity ∷ next above entity)) row
    → AreSorted (is_kind above entity) row
kinds-sorted above entity row h =
    sorted-alike (has (entity ∷ next above entity)) (is_kind above entity) row
    (λ i. ap (λ b. b || has (next above entity) i) (turned i entity)) h

joined-has : (f : ℕ → List ℕ) (xs : List ℕ) (j : ℕ) → has (concat (map f xs)) j ≡ list_any (λ i. has (f i) j) xs
joined-has f [] j = refl
joined-has f (x ∷ xs) j =
    list_any-append (eqb j) (f x) (concat (map f xs)) ∙ ap (λ b. has (f x) j || b) (joined-has f xs j)

pub above-sorted : (above : Graph) (entities row : List ℕ) → AreSorted (has (concat (map (next above) entities))) row
    → AreSorted (is_above above entities) row
above-sorted above entities row h =
    sorted-alike (has (concat (map (next above) entities))) (is_above above entities) row
    (joined-has (next above) entities) h
