-- Members of lists of numbers, and of what these stand for.
use Rattle.std.specs.Prelude.{◌≡◌, ◌<◌, ℕ, zero, suc, length, get_or, Bool, IsTrue, true, false, cond, ◌||◌, ◌&&◌, List, [], ◌∷◌, Option, None, Some, map, eqb, ◌⊎◌, MatchOption}
use Rattle.std.specs.List.{find, list_all, list_any}
use Rattle.std.proofs.Common.{refl, inl, inr, ap, sym, subst, ◌∙◌, arith}
use Rattle.std.proofs.lemmas.Bool.Decides.{nat_tests}
use Rattle.graphs.specs.Graphs.{has}
use Rattle.graphs.proofs.Searching.{either, left-holds, right-holds}
use Rattle.express_syntax.specs.Profile.{Every}
use Rattle.schema_semantics.specs.Names.{Among}

pub differ : (b : Bool) → b ≡ true → b ≡ false → ⊥
differ b t f = cc

pub both : (p q : Bool) → (p && q) ≡ true → (p ≡ true) × (q ≡ true)
both true q e = (refl, e)
both false q e = absurd (cc)

pub both-so : (p q : Bool) → p ≡ true → q ≡ true → (p && q) ≡ true
both-so true q e f = f
both-so false q e f = absurd (cc)

pub itself : (x : ℕ) → eqb x x ≡ true
itself x = grind (arith, nat_tests)

pub has-first : (x : ℕ) (xs : List ℕ) → has (x ∷ xs) x ≡ true
has-first x xs = left-holds (eqb x x) (has xs x) (itself x)

pub has-later : (x y : ℕ) (xs : List ℕ) → has xs y ≡ true → has (x ∷ xs) y ≡ true
has-later x y xs h = right-holds (eqb y x) (has xs y) h

-- a member is the first, or behind it
pub has-split : (x y : ℕ) (xs : List ℕ) → has (x ∷ xs) y ≡ true → (y ≡ x) ⊎ (has xs y ≡ true)
has-split x y xs h = by (either (eqb y x) (has xs y) h)
  where
    by : (eqb y x ≡ true) ⊎ (has xs y ≡ true) → (y ≡ x) ⊎ (has xs y ≡ true)
    by (inl e) = let same : y ≡ x = grind (arith, nat_tests) in inl same
    by (inr m) = inr m

-- what members stand for
pub seen-among : {B : Type 0} (f : ℕ → B) (xs : List ℕ) (i : ℕ) → has xs i ≡ true → Among (f i) (map f xs)
seen-among f [] i h = absurd (cc)
seen-among f (x ∷ xs) i h = by (has-split x i xs h) (seen-among f xs i)
  where
    by : (i ≡ x) ⊎ (has xs i ≡ true) → (has xs i ≡ true → Among (f i) (map f xs)) → Among (f i) (f x ∷ map f xs)
    by (inl e) more = inl (ap f (sym e))
    by (inr m) more = inr (more m)

pub among-seen : {B : Type 0} (f : ℕ → B) (xs : List ℕ) (b : B) → Among b (map f xs)
    → (i : ℕ) × (has xs i ≡ true) × (f i ≡ b)
among-seen f [] b m = elim m [ ]
among-seen f (x ∷ xs) b (inl e) = (x, has-first x xs, e)
among-seen f (x ∷ xs) b (inr m) = let (i, h, e) = among-seen f xs b m in (i, has-later x i xs h, e)

pub every_get : (P : ℕ → Type 0) (xs : List ℕ) (i : ℕ) → Every P xs → i < length xs → P (get_or xs i 0)
every_get P [] i h lt = absurd (omega (arith, lt))
every_get P (x ∷ xs) zero h lt = h.0
every_get P (x ∷ xs) (suc i) h lt = every_get P xs i h.1 (omega (arith, lt))

pub every-has : (P : ℕ → Type 0) (xs : List ℕ) (i : ℕ) → Every P xs → has xs i ≡ true → P i
every-has P [] i h m = absurd (cc)
every-has P (x ∷ xs) i h m = by (has-split x i xs m) (every-has P xs i h.1)
  where
    by : (i ≡ x) ⊎ (has xs i ≡ true) → (has xs i ≡ true → P i) → P i
    by (inl e) more = subst P (sym e) h.0
    by (inr k) more = more k

-- The first that passes a test does, and where there is none, none does.
pub found-so : (test : ℕ → Bool) (xs : List ℕ)
    → MatchOption (find test xs) ((q : ℕ) → has xs q ≡ true → test q ≡ false)
    (λ q. (has xs q ≡ true) × (test q ≡ true))
found-so test [] = λ q h. absurd (cc)
found-so test (x ∷ xs) = by (test x) refl (find test xs) (found-so test xs)
  where
    none : (q : ℕ) → (q ≡ x) ⊎ (has xs q ≡ true) → test x ≡ false → (has xs q ≡ true → test q ≡ false)
        → test q ≡ false
    none q (inl is) fails h = ap test is ∙ fails
    none q (inr m) fails h = h m

    by : (b : Bool) → test x ≡ b → (o : Option ℕ)
        → MatchOption o ((q : ℕ) → has xs q ≡ true → test q ≡ false) (λ q. (has xs q ≡ true) × (test q ≡ true))
        → MatchOption (cond b (Some x) o) ((q : ℕ) → has (x ∷ xs) q ≡ true → test q ≡ false)
        (λ q. (has (x ∷ xs) q ≡ true) × (test q ≡ true))
    by true e o h = (has-first x xs, e)
    by false e None h = λ q k. none q (has-split x q xs k) e (h q)
    by false e (Some y) h = (has-later x y xs h.0, h.1)

pub none-found : (test : ℕ → Bool) (xs : List ℕ) → find test xs ≡ None → (q : ℕ) → has xs q ≡ true → test q ≡ false
none-found test xs e =
    subst (λ o. MatchOption o ((q : ℕ) → has xs q ≡ true → test q ≡ false) (λ q. (has xs q ≡ true) × (test q ≡ true)))
    e (found-so test xs)

pub one-found : (test : ℕ → Bool) (xs : List ℕ) (p : ℕ) → find test xs ≡ Some p
    → (has xs p ≡ true) × (test p ≡ true)
one-found test xs p e =
    subst (λ o. MatchOption o ((q : ℕ) → has xs q ≡ true → test q ≡ false) (λ q. (has xs q ≡ true) × (test q ≡ true)))
    e (found-so test xs)

-- a test that holds of all, or not
pub all-hold : (test : ℕ → Bool) (xs : List ℕ) (q : ℕ) → list_all test xs ≡ true → has xs q ≡ true → test q ≡ true
all-hold test [] q h m = absurd (cc)
all-hold test (x ∷ xs) q h m =
    let (here, rest) = both (test x) (list_all test xs) h in
    by here (has-split x q xs m) (all-hold test xs q rest)
  where
    by : test x ≡ true → (q ≡ x) ⊎ (has xs q ≡ true) → (has xs q ≡ true → test q ≡ true) → test q ≡ true
    by here (inl e) more = ap test e ∙ here
    by here (inr k) more = more k

pub holds-all : (test : ℕ → Bool) (xs : List ℕ) → ((q : ℕ) → has xs q ≡ true → test q ≡ true)
    → list_all test xs ≡ true
holds-all test [] h = refl
holds-all test (x ∷ xs) h =
    both-so (test x) (list_all test xs) (h x (has-first x xs))
    (holds-all test xs (λ q m. h q (has-later x q xs m)))

-- a test that some pass, or none
pub any-passes : (test : ℕ → Bool) (xs : List ℕ) → list_any test xs ≡ true
    → (q : ℕ) × (has xs q ≡ true) × (test q ≡ true)
any-passes test [] h = absurd (cc)
any-passes test (x ∷ xs) h = by (either (test x) (list_any test xs) h) (any-passes test xs)
  where
    by : (test x ≡ true) ⊎ (list_any test xs ≡ true)
        → (list_any test xs ≡ true → (q : ℕ) × (has xs q ≡ true) × (test q ≡ true))
        → (q : ℕ) × (has (x ∷ xs) q ≡ true) × (test q ≡ true)
    by (inl e) more = (x, has-first x xs, e)
    by (inr e) more = let (q, m, t) = more e in (q, has-later x q xs m, t)

pub none-passes : (test : ℕ → Bool) (xs : List ℕ) (q : ℕ) → list_any test xs ≡ false → has xs q ≡ true
    → test q ≡ false
none-passes test [] q h m = absurd (cc)
none-passes test (x ∷ xs) q h m = by (test x) refl h (has-split x q xs m) (none-passes test xs q)
  where
    by : (b : Bool) → test x ≡ b → (b || list_any test xs) ≡ false → (q ≡ x) ⊎ (has xs q ≡ true)
        → (list_any test xs ≡ false → has xs q ≡ true → test q ≡ false) → test q ≡ false
    by true e k at more = absurd (cc)
    by false e k (inl is) more = ap test is ∙ e
    by false e k (inr m) more = more k m

-- a number is one
pub one-number : {A : Type 0} (f : A → Option ℕ) (x y : A) (i j : ℕ) → f x ≡ Some i → f y ≡ Some j → x ≡ y → i ≡ j
one-number f x y i j h k e = some-is i j (sym h ∙ (ap f e ∙ k))
  where
    some-is : (i j : ℕ) → Some i ≡ Some j → i ≡ j
    some-is i j e = cc

pub not-false : IsTrue false → ⊥
not-false h = cc
