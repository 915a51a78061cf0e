-- Topological orders: along them there is one table at most, and no cycle; what isn't placed leads to one.
use Rattle.std.proofs.Common.{◌≡◌, ℕ, zero, suc, ◌+◌, ◌<◌, ◌∙◌, sym, Bool, true, false, ◌||◌, List, [], ◌∷◌, ◌++◌, length, map, eqb, refl, ap, subst, arith, ◌⊎◌, inl, inr}
use Rattle.std.specs.List.{IsDistinct, AllByRecursion}
use Rattle.std.proofs.lemmas.Bool.Decides.{nat_tests}
use Rattle.std.proofs.lemmas.Map.Steps.{length-le_from_distinct_below}
use Rattle.graphs.specs.Graphs.{Graph, IsGraph, has, next, Step, Reaches, LeadsToCycle}
use Rattle.graphs.specs.Orders.{Follows}
use Rattle.graphs.specs.Laws.{TablesAreOne, OrderedLeadToNoCycle}
use Rattle.graphs.proofs.Searching.{either, left-holds, right-holds, leads-more, nothing}

-- Follows
pub follows-append : (g : Graph) (seen xs ys : List ℕ) → Follows g seen xs
    → ((a : ℕ) → has ys a ≡ true → (b : ℕ) → Step g a b → (has seen b || has xs b) ≡ true) → Follows g seen (xs ++ ys)
follows-append g seen [] [] h k = tt
follows-append g seen [] (y ∷ ys) h k = (
  (λ b e. none (has seen b) (k y (first y ys) b e)),
  follows-append g (y ∷ seen) [] ys tt
      (λ a m b e. left-holds (has (y ∷ seen) b) false
      (right-holds (eqb b y) (has seen b) (none (has seen b) (k a (right-holds (eqb a y) (has ys a) m) b e)))),
)
  where
    none : (c : Bool) → (c || false) ≡ true → c ≡ true
    none true e = refl
    none false e = e

    first : (y : ℕ) (ys : List ℕ) → has (y ∷ ys) y ≡ true
    first y ys = grind (arith, nat_tests)
follows-append g seen (x ∷ xs) ys h k =
    (h.0, follows-append g (x ∷ seen) xs ys h.1 (λ a m b e. turn (has seen b) (eqb b x) (has xs b) (k a m b e)))
  where
    turn : (p q r : Bool) → (p || (q || r)) ≡ true → ((q || p) || r) ≡ true
    turn p true r e = refl
    turn p false r e = e

apart : (xs : List ℕ) (b : ℕ) → has xs b ≡ false → AllByRecursion (λ (y : ℕ). eqb b y ≡ false) xs
apart [] b h = tt
apart (x ∷ xs) b h = let here : eqb b x ≡ false = grind (arith, nat_tests) in
    let rest : has xs b ≡ false = grind (arith, nat_tests) in (here, apart xs b rest)

pub once-before : (xs : List ℕ) (b : ℕ) → IsDistinct eqb xs → has xs b ≡ false → IsDistinct eqb (b ∷ xs)
unfolding IsDistinct
once-before xs b h e = (apart xs b e, h)

pub is-false : (c : Bool) → (c ≡ true → ⊥) → c ≡ false
is-false true h = absurd (h refl)
is-false false h = refl

-- one table at most
pub same-values : {X : Type 0} (t u : ℕ → X) (bs : List ℕ) → ((b : ℕ) → has bs b ≡ true → t b ≡ u b)
    → map t bs ≡ map u bs
same-values t u [] h = refl
same-values t u (b ∷ bs) h =
    let head : t b ≡ u b = h b (grind (arith, nat_tests)) in
    let tail : map t bs ≡ map u bs = same-values t u bs (λ c m. h c (right-holds (eqb c b) (has bs c) m)) in
    cc

along : {X : Type 0} (g : Graph) (F : ℕ → List X → X) (t u : ℕ → X) (seen xs : List ℕ)
    → ((a : ℕ) → has xs a ≡ true → t a ≡ F a (map t (next g a)))
    → ((a : ℕ) → has xs a ≡ true → u a ≡ F a (map u (next g a))) → ((a : ℕ) → has seen a ≡ true → t a ≡ u a)
    → Follows g seen xs → (a : ℕ) → has xs a ≡ true → t a ≡ u a
along g F t u seen [] ht hu known f a m = absurd (cc)
along {X} g F t u seen (x ∷ xs) ht hu known f a m =
    which (either (eqb a x) (has xs a) m)
    (along g F t u (x ∷ seen) xs (λ b n. ht b (later b n)) (λ b n. hu b (later b n)) next-known f.1 a)
  where
    at-head : (x : ℕ) (xs : List ℕ) → has (x ∷ xs) x ≡ true
    at-head x xs = grind (arith, nat_tests)

    later : (b : ℕ) → has xs b ≡ true → has (x ∷ xs) b ≡ true
    later b n = right-holds (eqb b x) (has xs b) n

    here : t x ≡ u x
    here = ht x (at-head x xs) ∙ ap (F x) (same-values t u (next g x) (λ b e. known b (f.0 b e)))
        ∙ sym (hu x (at-head x xs))

    next-known : (b : ℕ) → has (x ∷ seen) b ≡ true → t b ≡ u b
    next-known b n = by b (either (eqb b x) (has seen b) n)
      where
        by : (b : ℕ) → (eqb b x ≡ true) ⊎ (has seen b ≡ true) → t b ≡ u b
        by b (inl same) = let at : b ≡ x = grind (arith, nat_tests) in subst (λ (k : ℕ). t k ≡ u k) (sym at) here
        by b (inr old) = known b old

    which : (eqb a x ≡ true) ⊎ (has xs a ≡ true) → (has xs a ≡ true → t a ≡ u a) → t a ≡ u a
    which (inl same) later = let at : a ≡ x = grind (arith, nat_tests) in subst (λ (k : ℕ). t k ≡ u k) (sym at) here
    which (inr there) later = later there

pub tables-are-one : {X : Type 0} → TablesAreOne X
tables-are-one g xs F t u order ht hu a m = along g F t u [] xs ht hu (λ b n. absurd (cc)) order.follows a m

-- no cycle
onward : (g : Graph) (a : ℕ) → LeadsToCycle g a → (b : ℕ) × Step g a b × LeadsToCycle g b
onward g a (inl ([], e)) = (a, e, inl ([], e))
onward g a (inl (m ∷ ms, e)) = (m, e.0, inr (a, (ms, e.1), (m ∷ ms, e)))
onward g a (inr (b, ([], e), c)) = (b, e, inl c)
onward g a (inr (b, (m ∷ ms, e), c)) = (m, e.0, inr (b, (ms, e.1), c))

no-cycle : (g : Graph) (seen xs : List ℕ) → ((a : ℕ) → has seen a ≡ true → LeadsToCycle g a → ⊥) → Follows g seen xs
    → (a : ℕ) → has xs a ≡ true → LeadsToCycle g a → ⊥
no-cycle g seen [] known f a m c = absurd (cc)
no-cycle g seen (x ∷ xs) known f a m c =
    which (either (eqb a x) (has xs a) m) (no-cycle g (x ∷ seen) xs next-known f.1 a)
  where
    here : LeadsToCycle g x → ⊥
    here d = let o = onward g x d in known o.0 (f.0 o.0 o.1) o.2

    by : (b : ℕ) → (eqb b x ≡ true) ⊎ (has seen b ≡ true) → LeadsToCycle g b → ⊥
    by b (inl same) d = let at : b ≡ x = grind (arith, nat_tests) in here (subst (LeadsToCycle g) at d)
    by b (inr old) d = known b old d

    next-known : (b : ℕ) → has (x ∷ seen) b ≡ true → LeadsToCycle g b → ⊥
    next-known b n d = by b (either (eqb b x) (has seen b) n) d

    which : (eqb a x ≡ true) ⊎ (has xs a ≡ true) → (has xs a ≡ true → LeadsToCycle g a → ⊥) → ⊥
    which (inl same) later = let at : a ≡ x = grind (arith, nat_tests) in here (subst (LeadsToCycle g) at c)
    which (inr there) later = later there c

pub ordered-lead-to-no-cycle : OrderedLeadToNoCycle
ordered-lead-to-no-cycle g xs order a m c = no-cycle g [] xs (λ b n d. absurd (cc)) order.follows a m c

-- a step before
pub leads-before : (g : Graph) (a b : ℕ) → Step g a b → LeadsToCycle g b → LeadsToCycle g a
leads-before g a b e (inl c) = inr (b, ([], e), c)
leads-before g a b e (inr (d, (ms, r), c)) = inr (d, (b ∷ ms, (e, r)), c)

-- A walk that is at a has come through what was seen; it goes on to a cycle.
abbrev WalksOn : Graph → List ℕ → ℕ → List ℕ → ℕ → Type 0
WalksOn g order n seen a =
    IsDistinct eqb seen → ((b : ℕ) → has seen b ≡ true → b < length g) → ((b : ℕ) → has seen b ≡ true → Reaches g b a)
    → length g < n + length seen → a < length g → has order a ≡ false → LeadsToCycle g a

-- Where each vertex that isn't placed leads to one that isn't, a walk comes back to where it was.
walk : (g : Graph) (order : List ℕ) → IsGraph g
    → ((a : ℕ) → a < length g → (has order a ≡ true) ⊎ ((b : ℕ) × Step g a b × (has order b ≡ false)))
    → (n a : ℕ) (seen : List ℕ) → WalksOn g order n seen a
walk g order graph on zero a seen once within back many lt out = let few =
    length-le_from_distinct_below seen (length g) once within in absurd (omega (arith, few, many))
walk g order graph on (suc n) a seen once within back many lt out =
    case (λ b. walk g order graph on n b (a ∷ seen)) (has seen a) refl
  where
    below : (b : ℕ) → (eqb b a ≡ true) ⊎ (has seen b ≡ true) → b < length g
    below b (inl same) = let at : b ≡ a = grind (arith, nat_tests) in omega (arith, at, lt)
    below b (inr old) = within b old

    reach : (c b : ℕ) → Step g a c → (eqb b a ≡ true) ⊎ (has seen b ≡ true) → Reaches g b c
    reach c b e (inl same) = let at : b ≡ a = grind (arith, nat_tests) in ([], subst (λ (x : ℕ). Step g x c) (sym at) e)
    reach c b e (inr old) = leads-more (Step g) b a c (back b old) e

    which : ((b : ℕ) → WalksOn g order n (a ∷ seen) b) → has seen a ≡ false → (has order a ≡ true)
        ⊎ ((b : ℕ) × Step g a b × (has order b ≡ false)) → LeadsToCycle g a
    which again new (inl here) = absurd (cc)
    which again new (inr next) =
        leads-before g a next.0 next.1
        (again next.0 (once-before seen a once new) (λ c m. below c (either (eqb c a) (has seen c) m))
        (λ c m. reach next.0 c next.1 (either (eqb c a) (has seen c) m)) (omega (arith, many)) (graph a next.0 next.1)
        next.2)

    case : ((b : ℕ) → WalksOn g order n (a ∷ seen) b) → (c : Bool) → has seen a ≡ c → LeadsToCycle g a
    case again true e = inl (back a e)
    case again false e = which again e (on a lt)

pub stuck : (g : Graph) (order : List ℕ) → IsGraph g
    → ((a : ℕ) → a < length g → (has order a ≡ true) ⊎ ((b : ℕ) × Step g a b × (has order b ≡ false))) → (a : ℕ)
    → a < length g → has order a ≡ false → LeadsToCycle g a
stuck g order graph on a lt out =
    walk g order graph on (length g + 1) a [] nothing (λ b m. absurd (cc)) (λ b m. absurd (cc)) (omega arith) lt out
