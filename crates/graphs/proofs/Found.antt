-- Lists of what was found.
use Rattle.std.proofs.Common.{◌≡◌, ℕ, zero, suc, ◌+◌, ◌<◌, ◌≤◌, ◌∙◌, sym, Bool, true, false, cond, ◌||◌, List, [], ◌∷◌, ◌++◌, get_or, length, take, eqb, refl, ap, arith}
use Rattle.std.specs.List.{list_any, IsDistinct, AllByRecursion}
use Rattle.std.proofs.lemmas.List.Folds.{list_any-append}
use Rattle.std.proofs.lemmas.Bool.Decides.{nat_tests}
use Rattle.graphs.specs.Graphs.{has}
use Rattle.graphs.specs.Rounds.{added}

or-false : (b : Bool) → (b || false) ≡ b
or-false true = refl
or-false false = refl

pub has-more : (xs : List ℕ) (y b : ℕ) → has (xs ++ y ∷ []) b ≡ (has xs b || eqb b y)
has-more xs y b = list_any-append (eqb b) xs (y ∷ []) ∙ ap (λ (c : Bool). has xs b || c) (or-false (eqb b y))

-- what is added
assoc : (a b c : Bool) → ((a || b) || c) ≡ (a || (b || c))
assoc true b c = refl
assoc false b c = refl

absorbed : (xs : List ℕ) (y b : ℕ) → has xs y ≡ true → has xs b ≡ (has xs b || eqb b y)
absorbed xs y b h = grind (arith, nat_tests)

pub has-added : (xs ys : List ℕ) (b : ℕ) → has (added xs ys) b ≡ (has xs b || has ys b)
has-added xs [] b = sym (or-false (has xs b))
has-added xs (y ∷ ys) b =
    let h = has-added (cond (has xs y) xs (xs ++ y ∷ [])) ys b in
    h ∙ ap (λ (c : Bool). c || has ys b) (case (has xs y) refl) ∙ assoc (has xs b) (eqb b y) (has ys b)
  where
    case : (c : Bool) → has xs y ≡ c → has (cond c xs (xs ++ y ∷ [])) b ≡ (has xs b || eqb b y)
    case true e = absorbed xs y b e
    case false e = has-more xs y b

-- once each
apart-more : (xs : List ℕ) (x y : ℕ) → AllByRecursion (λ (z : ℕ). eqb x z ≡ false) xs → eqb x y ≡ false
    → AllByRecursion (λ (z : ℕ). eqb x z ≡ false) (xs ++ y ∷ [])
apart-more [] x y h e = (e, tt)
apart-more (z ∷ zs) x y h e = (h.0, apart-more zs x y h.1 e)

lacks-head : (x y : ℕ) (r : Bool) → (eqb y x || r) ≡ false → (eqb x y ≡ false) × (r ≡ false)
lacks-head x y r h = (grind (arith, nat_tests), grind (arith, nat_tests))

pub once-more : (xs : List ℕ) (y : ℕ) → IsDistinct eqb xs → has xs y ≡ false → IsDistinct eqb (xs ++ y ∷ [])
unfolding IsDistinct
once-more [] y h e = (tt, tt)
once-more (x ∷ xs) y h e = let both = lacks-head x y (has xs y) e in
    (apart-more xs x y h.0 both.0, once-more xs y h.1 both.1)

pub once-added : (xs ys : List ℕ) → IsDistinct eqb xs → IsDistinct eqb (added xs ys)
once-added xs [] h = h
once-added xs (y ∷ ys) h = once-added (cond (has xs y) xs (xs ++ y ∷ [])) ys (case (has xs y) refl)
  where
    case : (c : Bool) → has xs y ≡ c → IsDistinct eqb (cond c xs (xs ++ y ∷ []))
    case true e = h
    case false e = once-more xs y h e

-- what was found stays where it is
before-more : (xs : List ℕ) (y k d : ℕ) → k < length xs → get_or (xs ++ y ∷ []) k d ≡ get_or xs k d
before-more [] y k d h = absurd (omega arith)
before-more (x ∷ xs) y zero d h = refl
before-more (x ∷ xs) y (suc k) d h = before-more xs y k d (omega arith)

grows : (c : Bool) (xs : List ℕ) (y : ℕ) → length xs ≤ length (cond c xs (xs ++ y ∷ []))
grows true xs y = omega arith
grows false [] y = omega arith
grows false (x ∷ xs) y = let h = grows false xs y in omega (arith, h)

kept : (c : Bool) (xs : List ℕ) (y k d : ℕ) → k < length xs → get_or (cond c xs (xs ++ y ∷ [])) k d ≡ get_or xs k d
kept true xs y k d h = refl
kept false xs y k d h = before-more xs y k d h

pub added-kept : (xs ys : List ℕ) (k d : ℕ) → k < length xs → get_or (added xs ys) k d ≡ get_or xs k d
added-kept xs [] k d h = refl
added-kept xs (y ∷ ys) k d h = let longer = grows (has xs y) xs y in
    added-kept (cond (has xs y) xs (xs ++ y ∷ [])) ys k d (omega arith) ∙ kept (has xs y) xs y k d h

pub member-at : (xs : List ℕ) (b : ℕ) → has xs b ≡ true → (k : ℕ) × (k < length xs) × (get_or xs k 0 ≡ b)
member-at [] b h = absurd (cc)
member-at (x ∷ xs) b h = case (eqb b x) refl (member-at xs b)
  where
    case : (c : Bool) → eqb b x ≡ c → (has xs b ≡ true → (k : ℕ) × (k < length xs) × (get_or xs k 0 ≡ b)) → (k : ℕ)
        × (k < length (x ∷ xs)) × (get_or (x ∷ xs) k 0 ≡ b)
    case true e later = (0, omega arith, grind (arith, nat_tests))
    case false e later = let more = later (rw e at h) in (suc more.0, (let lt = more.1 in omega (arith, lt)), more.2)

pub at-member : (xs : List ℕ) (k d : ℕ) → k < length xs → has xs (get_or xs k d) ≡ true
at-member [] k d h = absurd (omega arith)
at-member (x ∷ xs) zero d h = grind (arith, nat_tests)
at-member (x ∷ xs) (suc k) d h = let later = at-member xs k d (omega arith) in grind (arith, nat_tests)

turned : (x y : ℕ) → eqb y x ≡ eqb x y
turned x y = grind (arith, nat_tests)

-- the test of a slice's `contains`
pub has-turned : (xs : List ℕ) (x : ℕ) → list_any (λ y. eqb y x) xs ≡ has xs x
has-turned [] x = refl
has-turned (y ∷ ys) x = let head = turned x y in let tail = has-turned ys x in cc

-- one item more
pub one-more : (xs : List ℕ) (i : ℕ) → i < length xs → take (suc i) xs ≡ take i xs ++ get_or xs i 0 ∷ []
one-more [] i lt = absurd (omega arith)
one-more (x ∷ xs) zero lt = refl
one-more (x ∷ xs) (suc i) lt = ap (λ (ys : List ℕ). x ∷ ys) (one-more xs i (omega arith))

pub taken : (xs : List ℕ) (i : ℕ) → i < length xs → take (i + 1) xs ≡ take i xs ++ get_or xs i 0 ∷ []
taken xs i lt = (let step : i + 1 ≡ suc i = omega arith in ap (λ (n : ℕ). take n xs) step) ∙ one-more xs i lt
