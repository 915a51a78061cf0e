-- How many pass a test.
use Rattle.std.specs.Prelude.{◌≡◌, ℕ, ◌==◌, Bool, true, false, cond, ◌||◌, ◌&&◌, not, nat_lt, List, [], ◌∷◌, map, length, Option, None, Some, eqb}
use Rattle.std.specs.List.{filter, list_any, find, IsDistinct, AllByRecursion}
use Rattle.std.proofs.Common.{refl, ap, sym, subst, ◌∙◌, arith, suc}
use Rattle.std.proofs.lemmas.Bool.Decides.{nat_tests}
use Rattle.graphs.specs.Graphs.{has}
use Rattle.express_syntax.specs.Profile.{Every}
use Rattle.schema_semantics.proofs.Bools.{both-hold, or-left, or-right}
use Rattle.conformance.specs.Entities.{how_many}
use Rattle.population_forms.specs.steps.Marked.{has_another, has_two}
use Rattle.population_forms.proofs.Naming.{same-test, same-number, equals-itself}

more : Bool → ℕ → ℕ
more b n = cond b (suc n) n

length-more : {A : Type 0} (b : Bool) (x : A) (xs : List A) → length (cond b (x ∷ xs) xs) ≡ more b (length xs)
unfolding more
length-more true x xs = refl
length-more false x xs = refl

-- one of a list counts
one-counts : {A B : Type 0} (b c : Bool) (x : A) (y : B) (xs : List A) (ys : List B) → b ≡ c → length xs ≡ length ys
    → length (cond b (x ∷ xs) xs) ≡ length (cond c (y ∷ ys) ys)
one-counts b c x y xs ys e h =
    length-more b x xs ∙ ap (λ d. more d (length xs)) e ∙ ap (more c) h ∙ sym (length-more c y ys)

-- a mapped list by a test that says the same of each
pub counted : {A B : Type 0} (f : A → B) (p : B → Bool) (q : A → Bool) (xs : List A) → Every (λ x. p (f x) ≡ q x) xs
    → how_many p (map f xs) ≡ how_many q xs
counted f p q [] h = refl
counted f p q (x ∷ xs) h =
    one-counts (p (f x)) (q x) (f x) x (filter p (map f xs)) (filter q xs) h.0 (counted f p q xs h.1)

pub counted-mapped : {A B : Type 0} (f : A → B) (p : B → Bool) (xs : List A)
    → how_many p (map f xs) ≡ how_many (λ x. p (f x)) xs
counted-mapped f p [] = refl
counted-mapped f p (x ∷ xs) =
    one-counts (p (f x)) (p (f x)) (f x) x (filter p (map f xs)) (filter (λ y. p (f y)) xs) refl (counted-mapped f p xs)

pub counted-alike : {A : Type 0} (p q : A → Bool) → ((x : A) → p x ≡ q x) → (xs : List A)
    → how_many p xs ≡ how_many q xs
counted-alike p q h [] = refl
counted-alike p q h (x ∷ xs) = one-counts (p x) (q x) x x (filter p xs) (filter q xs) (h x) (counted-alike p q h xs)

-- what passes two tests in turn
pub counted-both : {A : Type 0} (p q : A → Bool) (xs : List A)
    → how_many q (filter p xs) ≡ how_many (λ x. p x && q x) xs
counted-both p q [] = refl
counted-both p q (x ∷ xs) = by (p x) (counted-both p q xs)
  where
    by : (b : Bool) → how_many q (filter p xs) ≡ how_many (λ y. p y && q y) xs
        → how_many q (cond b (x ∷ filter p xs) (filter p xs))
        ≡ length (cond (b && q x) (x ∷ filter (λ y. p y && q y) xs) (filter (λ y. p y && q y) xs))
    by true h = one-counts (q x) (q x) x x (filter q (filter p xs)) (filter (λ y. p y && q y) xs) refl h
    by false h = h

-- what is in a row passes
pub any-at : (p : ℕ → Bool) (xs : List ℕ) (x : ℕ) → has xs x ≡ true → p x ≡ true → list_any p xs ≡ true
any-at p [] x h e = absurd (cc)
any-at p (y ∷ xs) x h e = by (eqb x y) refl h (any-at p xs x)
  where
    by : (b : Bool) → eqb x y ≡ b → (b || has xs x) ≡ true → (has xs x ≡ true → p x ≡ true → list_any p xs ≡ true)
        → (p y || list_any p xs) ≡ true
    by true f k later = or-left (p y) (list_any p xs) (subst (λ z. p z ≡ true) (same-number x y f) e)
    by false f k later = or-right (p y) (list_any p xs) (later k e)

pub any-from : (p : ℕ → Bool) (xs : List ℕ) → list_any p xs ≡ true → (x : ℕ) × (has xs x ≡ true) × (p x ≡ true)
any-from p [] h = absurd (cc)
any-from p (y ∷ xs) h = by (p y) refl h (any-from p xs)
  where
    front : eqb y y ≡ true → has (y ∷ xs) y ≡ true
    front e = or-left (eqb y y) (has xs y) e

    by : (b : Bool) → p y ≡ b → (b || list_any p xs) ≡ true
        → (list_any p xs ≡ true → (x : ℕ) × (has xs x ≡ true) × (p x ≡ true))
        → (x : ℕ) × (has (y ∷ xs) x ≡ true) × (p x ≡ true)
    by true e k later = (y, front (equals-itself y), e)
    by false e k later = let (x, m, f) = later k in (x, or-right (eqb x y) (has xs x) m, f)

-- the first that passes
found-one : (p : ℕ → Bool) (xs : List ℕ) (x : ℕ) → has xs x ≡ true → p x ≡ true → (f : ℕ) × (find p xs ≡ Some f)
found-one p [] x h e = absurd (cc)
found-one p (y ∷ xs) x h e = by (eqb x y) refl (p y) refl h (found-one p xs x)
  where
    by : (b : Bool) → eqb x y ≡ b → (c : Bool) → p y ≡ c → (b || has xs x) ≡ true
        → (has xs x ≡ true → p x ≡ true → (f : ℕ) × (find p xs ≡ Some f))
        → (f : ℕ) × (cond (p y) (Some y) (find p xs) ≡ Some f)
    by b a true g k later = (y, ap (λ d. cond d (Some y) (find p xs)) g)
    by true a false g k later =
        let is : p y ≡ true = subst (λ z. p z ≡ true) (same-number x y a) e in absurd (cc)
    by false a false g k later = let (f, is) = later k e in (f, ap (λ d. cond d (Some y) (find p xs)) g ∙ is)

first-is : (p : ℕ → Bool) (xs : List ℕ) (f : ℕ) → find p xs ≡ Some f → (has xs f ≡ true) × (p f ≡ true)
first-is p [] f h = absurd (cc)
first-is p (y ∷ xs) f h = by (p y) refl h (first-is p xs f)
  where
    by : (b : Bool) → p y ≡ b → cond b (Some y) (find p xs) ≡ Some f
        → (find p xs ≡ Some f → (has xs f ≡ true) × (p f ≡ true)) → (has (y ∷ xs) f ≡ true) × (p f ≡ true)
    by true e k later =
        let same : y ≡ f = cc in (
          subst (λ z. has (y ∷ xs) z ≡ true) same (or-left (eqb y y) (has xs y) (equals-itself y)),
          subst (λ z. p z ≡ true) same e,
        )
    by false e k later = let (m, q) = later k in (or-right (eqb f y) (has xs f) m, q)

-- what stands among those that pass
pub has-filtered : (p : ℕ → Bool) (xs : List ℕ) (x : ℕ) → has (filter p xs) x ≡ (has xs x && p x)
has-filtered p [] x = refl
has-filtered p (y ∷ xs) x = by (p y) refl (eqb x y) refl (has-filtered p xs x)
  where
    by : (b : Bool) → p y ≡ b → (c : Bool) → eqb x y ≡ c → has (filter p xs) x ≡ (has xs x && p x)
        → has (cond b (y ∷ filter p xs) (filter p xs)) x ≡ ((eqb x y || has xs x) && p x)
    by true e true f h =
        let is : p x ≡ true = subst (λ z. p z ≡ true) (sym (same-number x y f)) e in
        ap (λ c. c || has (filter p xs) x) f ∙ sym (ap (λ c. (c || has xs x) && p x) f ∙ is)
    by true e false f h =
        ap (λ c. c || has (filter p xs) x) f ∙ h ∙ sym (ap (λ c. (c || has xs x) && p x) f)
    by false e true f h =
        let is : p x ≡ false = subst (λ z. p z ≡ false) (sym (same-number x y f)) e in
        h ∙ none (has xs x) (p x) is ∙ sym (ap (λ c. (c || has xs x) && p x) f ∙ is)
      where
        none : (a c : Bool) → c ≡ false → (a && c) ≡ false
        none true c g = g
        none false c g = refl
    by false e false f h = h ∙ sym (ap (λ c. (c || has xs x) && p x) f)

apart-filtered : (x : ℕ) (p : ℕ → Bool) (xs : List ℕ) → AllByRecursion (λ (y : ℕ). eqb x y ≡ false) xs
    → AllByRecursion (λ (y : ℕ). eqb x y ≡ false) (filter p xs)
apart-filtered x p [] h = tt
apart-filtered x p (y ∷ xs) h = by (p y) (apart-filtered x p xs h.1)
  where
    by : (b : Bool) → AllByRecursion (λ (z : ℕ). eqb x z ≡ false) (filter p xs)
        → AllByRecursion (λ (z : ℕ). eqb x z ≡ false) (cond b (y ∷ filter p xs) (filter p xs))
    by true k = (h.0, k)
    by false k = k

once-filtered : (p : ℕ → Bool) (xs : List ℕ) → IsDistinct eqb xs → IsDistinct eqb (filter p xs)
unfolding IsDistinct
once-filtered p [] h = tt
once-filtered p (x ∷ xs) h = by (p x) (once-filtered p xs h.1)
  where
    by : (b : Bool) → IsDistinct eqb (filter p xs) → IsDistinct eqb (cond b (x ∷ filter p xs) (filter p xs))
    by true k = (apart-filtered x p xs h.0, k)
    by false k = k

-- two different numbers of a list
abbrev Two : List ℕ → Type 0
Two xs = (a : ℕ) × (b : ℕ) × (has xs a ≡ true) × (has xs b ≡ true) × (eqb a b ≡ false)

only : (x a : ℕ) → (eqb a x || false) ≡ true → a ≡ x
only x a e = by (eqb a x) refl e
  where
    by : (b : Bool) → eqb a x ≡ b → (b || false) ≡ true → a ≡ x
    by true f k = same-number a x f
    by false f k = absurd (cc)

two-many : (xs : List ℕ) → Two xs → nat_lt 1 (length xs) ≡ true
two-many [] (a, b, m, n, e) = absurd (cc)
two-many (x ∷ []) (a, b, m, n, e) =
    let is : a ≡ b = only x a m ∙ sym (only x b n) in absurd (differ is)
  where
    differ : a ≡ b → ⊥
    differ is = grind (arith, nat_tests)
two-many (x ∷ y ∷ xs) h = grind (arith, nat_tests)

many-two : (xs : List ℕ) → IsDistinct eqb xs → nat_lt 1 (length xs) ≡ true → Two xs
unfolding IsDistinct
many-two [] h e = let no : nat_lt 1 0 ≡ false = grind (arith, nat_tests) in absurd (cc)
many-two (x ∷ []) h e = let no : nat_lt 1 1 ≡ false = grind (arith, nat_tests) in absurd (cc)
many-two (x ∷ y ∷ xs) h e = (
  x,
  y,
  or-left (eqb x x) (has (y ∷ xs) x) (equals-itself x),
  or-right (eqb y x) (has (y ∷ xs) y) (or-left (eqb y y) (has xs y) (equals-itself y)),
  h.0.0,
)

not-true : (b : Bool) → not b ≡ true → b ≡ false
not-true true e = sym e
not-true false e = refl

-- two operands are among the types
module _ (types : List ℕ) (once : IsDistinct eqb types) where
  pub two-among : (row : List ℕ) → has_two types row ≡ nat_lt 1 (how_many (has row) types)
  two-among row =
      same-test (has_two types row) (nat_lt 1 (how_many (has row) types))
      (λ e. forth (find (has types) row) refl e)
      (λ e. back (many-two (filter (has row) types) (once-filtered (has row) types once) e))
    where
      inside : (i : ℕ) → has row i ≡ true → has types i ≡ true → has (filter (has row) types) i ≡ true
      inside i m e =
          has-filtered (has row) types i ∙ ap (λ b. b && has row i) e ∙ m

      forth : (o : Option ℕ) → find (has types) row ≡ o → has_another types row o ≡ true
          → nat_lt 1 (how_many (has row) types) ≡ true
      forth None is e = absurd (cc)
      forth (Some f) is e =
          let (x, m, both) = any-from (λ i. not (i == f) && has types i) row e in
          let (other, marked) = both-hold (not (x == f)) (has types x) both in
          let (n, first) = first-is (has types) row f is in
          let differ : (x == f) ≡ false = not-true (x == f) other in
          let apart : eqb f x ≡ false = grind (arith, nat_tests) in
          two-many (filter (has row) types) (f, x, inside f n first, inside x m marked, apart)

      back : Two (filter (has row) types) → has_two types row ≡ true
      back (a, b, m, n, apart) =
          let (ta, ra) = both-hold (has types a) (has row a) (sym (has-filtered (has row) types a) ∙ m) in
          let (tb, rb) = both-hold (has types b) (has row b) (sym (has-filtered (has row) types b) ∙ n) in
          let (f, is) = found-one (has types) row a ra ta in
          ap (has_another types row) is ∙ by f (eqb a f) refl ra ta rb tb
        where
          by : (f : ℕ) (c : Bool) → eqb a f ≡ c → has row a ≡ true → has types a ≡ true → has row b ≡ true
              → has types b ≡ true → has_another types row (Some f) ≡ true
          by f true e ra ma rb mb =
              let other : not (b == f) ≡ true = grind (arith, nat_tests) in
              any-at (λ i. not (i == f) && has types i) row b rb (ap (λ c. c && has types b) other ∙ mb)
          by f false e ra ma rb mb =
              let other : not (a == f) ≡ true = grind (arith, nat_tests) in
              any-at (λ i. not (i == f) && has types i) row a ra (ap (λ c. c && has types a) other ∙ ma)
