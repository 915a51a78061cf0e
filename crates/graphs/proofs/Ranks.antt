-- Ranks.
use Rattle.std.proofs.Common.{◌≡◌, ℕ, zero, suc, nat_lt, ◌+◌, ◌<◌, ◌≤◌, ◌∙◌, sym, Bool, true, false, ◌||◌, List, [], ◌∷◌, map, get_or, length, drop, take, set, max, eqb, refl, ap, subst, arith, ◌⊎◌, inl, inr}
use Rattle.std.proofs.lemmas.Bool.Decides.{nat_tests}
use Rattle.graphs.specs.Graphs.{Graph, has, next, Step, Chain}
use Rattle.graphs.specs.Orders.{Follows, Solves, AreRanks, above}
use Rattle.graphs.specs.Laws.{RanksFall, RanksAreLongest}
use Rattle.graphs.proofs.Searching.{either, right-holds}
use Rattle.graphs.proofs.Gathered.{drop-next, solves-next, set-here, set-elsewhere}

-- each of a list stands below what is above it, and one just below
pub below-above : (f : ℕ → ℕ) (bs : List ℕ) (b : ℕ) → has bs b ≡ true → f b < above (map f bs)
below-above f [] b m = absurd (cc)
below-above f (y ∷ ys) b m = which (either (eqb b y) (has ys b) m) (below-above f ys b)
  where
    which : (eqb b y ≡ true) ⊎ (has ys b ≡ true) → (has ys b ≡ true → f b < above (map f ys))
        → f b < above (map f (y ∷ ys))
    which (inl here) later = let at : b ≡ y = grind (arith, nat_tests) in let same : f b ≡ f y = ap f at in
        omega (arith, same)
    which (inr there) later = let lt = later there in omega (arith, lt)

pub just-below : (f : ℕ → ℕ) (bs : List ℕ) → (above (map f bs) ≡ 0)
    ⊎ ((b : ℕ) × (has bs b ≡ true) × (suc (f b) ≡ above (map f bs)))
just-below f [] = inl refl
just-below f (y ∷ ys) = which (nat_lt (f y) (above (map f ys))) refl (just-below f ys)
  where
    self : (y : ℕ) (ys : List ℕ) → has (y ∷ ys) y ≡ true
    self y ys = grind (arith, nat_tests)

    which : (c : Bool) → nat_lt (f y) (above (map f ys)) ≡ c → (above (map f ys) ≡ 0)
        ⊎ ((b : ℕ) × (has ys b ≡ true) × (suc (f b) ≡ above (map f ys))) → (above (map f (y ∷ ys)) ≡ 0)
        ⊎ ((b : ℕ) × (has (y ∷ ys) b ≡ true) × (suc (f b) ≡ above (map f (y ∷ ys))))
    which true e (inl none) = let lt : f y < above (map f ys) = grind (arith, nat_tests) in
        absurd (omega (arith, lt, none))
    which true e (inr (b, m, at)) = let lt : f y < above (map f ys) = grind (arith, nat_tests) in
        inr (b, right-holds (eqb b y) (has ys b) m, omega (arith, lt, at))
    which false e more = let le : above (map f ys) ≤ f y = grind (arith, nat_tests) in
        inr (y, self y ys, omega (arith, le))

pub above-next : (f : ℕ → ℕ) (bs : List ℕ) (i rank new : ℕ) → i < length bs → new ≡ max (f (get_or bs i 0) + 1) rank
    → max rank (above (map f (drop i bs))) ≡ above (map f bs)
    → max new (above (map f (drop (i + 1) bs))) ≡ above (map f bs)
above-next f bs i rank new lt is h =
    let split : above (map f (drop i bs)) ≡ max (suc (f (get_or bs i 0))) (above (map f (drop (i + 1) bs))) =
    ap (λ (xs : List ℕ). above (map f xs)) (drop-next bs i 0 lt) in
    omega (arith, split, is, h)

pub above-bounded : (f : ℕ → ℕ) (bs : List ℕ) (n : ℕ) → ((b : ℕ) → f b ≤ n) → above (map f bs) ≤ n + 1
above-bounded f [] n h = omega arith
above-bounded f (y ∷ ys) n h = let here = h y in let rest = above-bounded f ys n h in omega (arith, here, rest)

pub ranks-fall : RanksFall
ranks-fall g xs ranks are a b m e =
    let lt : get_or ranks b 0 < above (map (λ c. get_or ranks c 0) (next g a)) =
    below-above (λ c. get_or ranks c 0) (next g a) b e in
    let is : get_or ranks a 0 ≡ above (map (λ c. get_or ranks c 0) (next g a)) = are a m in
    omega (arith, lt, is)

-- longest chains
no-longer : (g : Graph) (xs ranks : List ℕ) → AreRanks g xs ranks
    → ((a b : ℕ) → has xs a ≡ true → Step g a b → has xs b ≡ true) → (ms : List ℕ) (a b : ℕ) → has xs a ≡ true
    → Chain (Step g) a ms b → length ms < get_or ranks a 0
no-longer g xs ranks are closed [] a b m e = let lt = ranks-fall g xs ranks are a b m e in omega (arith, lt)
no-longer g xs ranks are closed (c ∷ ms) a b m e = let lt = ranks-fall g xs ranks are a c m e.0 in
    let rest = no-longer g xs ranks are closed ms c b (closed a c m e.0) e.1 in omega (arith, lt, rest)

-- a chain of n steps from a
abbrev HasChain : Graph → ℕ → ℕ → Type 0
HasChain g a n = (ms : List ℕ) × (b : ℕ) × Chain (Step g) a ms b × (suc (length ms) ≡ n)

one-longer : (g : Graph) (a b r : ℕ) → Step g a b → (r ≡ 0) ⊎ HasChain g b r → HasChain g a (suc r)
one-longer g a b r e (inl none) = ([], b, e, ap suc (sym none))
one-longer g a b r e (inr more) = (b ∷ more.0, more.1, (e, more.2), ap suc more.3)

as-long : (g : Graph) (xs ranks : List ℕ) → AreRanks g xs ranks
    → ((a b : ℕ) → has xs a ≡ true → Step g a b → has xs b ≡ true) → (r a : ℕ) → has xs a ≡ true → get_or ranks a 0 ≡ r
    → (r ≡ 0) ⊎ HasChain g a r
as-long g xs ranks are closed zero a m is = inl refl
as-long g xs ranks are closed (suc r) a m is =
    inr (which (just-below (λ c. get_or ranks c 0) (next g a)) (λ b. as-long g xs ranks are closed r b))
  where
    made : get_or ranks a 0 ≡ above (map (λ c. get_or ranks c 0) (next g a))
    made = are a m

    which : (above (map (λ c. get_or ranks c 0) (next g a)) ≡ 0)
        ⊎ ((b : ℕ) × Step g a b × (suc (get_or ranks b 0) ≡ above (map (λ c. get_or ranks c 0) (next g a))))
        → ((b : ℕ) → has xs b ≡ true → get_or ranks b 0 ≡ r → (r ≡ 0) ⊎ HasChain g b r) → HasChain g a (suc r)
    which (inl none) again = let top = made in absurd (omega (arith, none, top, is))
    which (inr below) again = let top = made in let at = below.2 in
        one-longer g a below.0 r below.1 (again below.0 (closed a below.0 m below.1) (omega (arith, at, top, is)))

-- what stands in an order leads to what stands there
pub order-closed : (g : Graph) (seen xs : List ℕ) → Follows g seen xs → (a b : ℕ) → has xs a ≡ true → Step g a b
    → (has seen b || has xs b) ≡ true
order-closed g seen [] f a b m e = absurd (cc)
order-closed g seen (x ∷ xs) f a b m e = which (either (eqb a x) (has xs a) m) (order-closed g (x ∷ seen) xs f.1 a b)
  where
    first : (p q : Bool) → p ≡ true → (p || q) ≡ true
    first true q h = refl
    first false q h = absurd (cc)

    turn : (p q r : Bool) → ((q || p) || r) ≡ true → (p || (q || r)) ≡ true
    turn true q r e = refl
    turn false true r e = refl
    turn false false r e = e

    which : (eqb a x ≡ true)
        ⊎ (has xs a ≡ true) → (has xs a ≡ true → Step g a b → ((eqb b x || has seen b) || has xs b) ≡ true)
        → (has seen b || (eqb b x || has xs b)) ≡ true
    which (inl here) later = let at : a ≡ x = grind (arith, nat_tests) in
        first (has seen b) (eqb b x || has xs b) (f.0 b (subst (λ (y : ℕ). Step g y b) at e))
    which (inr there) later = turn (has seen b) (eqb b x) (has xs b) (later there e)

pub ranks-are-longest : RanksAreLongest
ranks-are-longest g xs ranks order are a m = record {
  most = λ ms b e. no-longer g xs ranks are closed ms a b m e;
  some = as-long g xs ranks are closed (get_or ranks a 0) a m refl;
}
  where
    closed : (a b : ℕ) → has xs a ≡ true → Step g a b → has xs b ≡ true
    closed a b m e = order-closed g [] xs order.follows a b m e

-- one vertex more has its rank
pub low-next : (xs : List ℕ) (a x n : ℕ) → ((b : ℕ) → get_or xs b 0 ≤ n) → x ≤ n + 1 → (b : ℕ)
    → get_or (set xs a x) b 0 ≤ n + 1
low-next [] a x n h le b = let low = h b in omega (arith, low)
low-next (y ∷ ys) zero x n h le zero = le
low-next (y ∷ ys) zero x n h le (suc b) = let low : get_or (y ∷ ys) (suc b) 0 ≤ n = h (suc b) in omega (arith, low)
low-next (y ∷ ys) (suc a) x n h le zero = let low : get_or (y ∷ ys) 0 0 ≤ n = h 0 in omega (arith, low)
low-next (y ∷ ys) (suc a) x n h le (suc b) = low-next ys a x n (λ c. h (suc c)) le b

pub ranks-next : (g : Graph) (order ranks lent row : List ℕ) (i x rank : ℕ) → Follows g [] order → i < length order
    → x ≡ get_or order i 0 → x < length ranks → Solves g (take i order) (λ a rs. above rs) (λ b. get_or ranks b 0)
    → rank ≡ above (map (λ b. get_or lent b 0) row) → lent ≡ ranks → row ≡ next g x
    → Solves g (take (i + 1) order) (λ a rs. above rs) (λ b. get_or (set ranks x rank) b 0)
ranks-next g order ranks lent row i x rank f lt at within done is same edge =
    let made : get_or (set ranks x rank) x 0 ≡ above (map (λ b. get_or ranks b 0) (next g x)) =
    set-here ranks x rank 0 within ∙ is ∙ ap (λ (ls : List ℕ). above (map (λ b. get_or ls b 0) row)) same
    ∙ ap (λ (r : List ℕ). above (map (λ b. get_or ranks b 0) r)) edge in
    solves-next g (λ a rs. above rs) (λ b. get_or ranks b 0) (λ b. get_or (set ranks x rank) b 0) order i x f lt at done
    made (λ b ne. set-elsewhere ranks x rank b 0 ne)
