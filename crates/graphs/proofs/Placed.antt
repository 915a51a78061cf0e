-- An order that grows by vertices all of whose edges lead into it.
use Rattle.std.proofs.Common.{◌≡◌, ℕ, zero, suc, ◌+◌, ◌<◌, ◌≤◌, ◌∙◌, sym, Bool, true, false, ◌||◌, List, [], ◌∷◌, ◌++◌, get_or, length, take, set, map, All, ◌≢◌, MatchBool, ◌↔◌, eqb, refl, ap, subst, arith, ◌⊎◌, inl, inr, append_assoc}
use Rattle.std.proofs.lemmas.Bool.Decides.{nat_tests}
use Rattle.std.proofs.lemmas.List.{length-set, length-append, length-map, take_all, get_or_default}
use Rattle.std.proofs.lemmas.List.Folds.{list_any-append}
use Rattle.std.proofs.lemmas.Map.Steps.{length-le_from_distinct_below}
use Rattle.graphs.specs.Graphs.{Graph, IsGraph, IsCyclic, has, next, Step}
use Rattle.graphs.specs.Closures.{IsReversal}
use Rattle.graphs.specs.Orders.{IsOrder, IsTopologicalOrder}
use Rattle.graphs.specs.Rounds.{AreMarks, AreMarkedUpTo, Awaits}
use Rattle.graphs.specs.steps.Placings.{IsPlacing, Extends}
use Rattle.graphs.proofs.Found.{has-more, once-more, member-at, at-member}
use Rattle.graphs.proofs.Searching.{reached-within, either, left-holds, right-holds, nothing}
use Rattle.graphs.proofs.Ordering.{follows-append, stuck, ordered-lead-to-no-cycle}
use Rattle.graphs.proofs.RowLists.{row-is}
use Rattle.graphs.proofs.Gathered.{set-here, set-elsewhere}
use Rattle.graphs.proofs.Found.{taken}

-- marks stay where one more is set
marked-more : (marks : List Bool) (a b : ℕ) → get_or marks b false ≡ true → get_or (set marks a true) b false ≡ true
marked-more [] a b h = h
marked-more (m ∷ ms) zero zero h = refl
marked-more (m ∷ ms) zero (suc b) h = h
marked-more (m ∷ ms) (suc a) zero h = h
marked-more (m ∷ ms) (suc a) (suc b) h = marked-more ms a b h

-- what a row leads to up to its end is marked
all-marked : (marks : List Bool) (row : List ℕ) (n b : ℕ) → AreMarkedUpTo marks row n → length row ≤ n
    → has row b ≡ true → get_or marks b false ≡ true
all-marked marks row n b h le m =
    let at = member-at row b m in
    let lt = at.1 in
    subst (λ (x : ℕ). get_or marks x false ≡ true) at.2 (h at.0 (omega (arith, lt, le)) lt)

passed-at : (g : Graph) (marks : List Bool) (passed : List ℕ) (v at : ℕ) → v < length passed
    → ((a : ℕ) → AreMarkedUpTo marks (next g a) (get_or passed a 0)) → AreMarkedUpTo marks (next g v) at → (a : ℕ)
    → AreMarkedUpTo marks (next g a) (get_or (set passed v at) a 0)
passed-at g marks passed v at lt old now a = case (eqb a v) refl
  where
    case : (c : Bool) → eqb a v ≡ c → AreMarkedUpTo marks (next g a) (get_or (set passed v at) a 0)
    case true e =
        let same : a ≡ v = grind (arith, nat_tests) in
        subst (λ (x : ℕ). AreMarkedUpTo marks (next g x) (get_or (set passed v at) x 0)) (sym same)
        (subst (AreMarkedUpTo marks (next g v)) (sym (set-here passed v at 0 lt)) now)
    case false e = subst (AreMarkedUpTo marks (next g a))
        (sym (set-elsewhere passed v at a 0
        (λ (same : a ≡ v). (let is : eqb a v ≡ true = grind (arith, nat_tests) in absurd (cc))))) (old a)

marks-more : (order : List ℕ) (marks : List Bool) (v : ℕ) → v < length marks → AreMarks marks order
    → AreMarks (set marks v true) (order ++ v ∷ [])
marks-more order marks v lt h b below = case (eqb b v) refl
  where
    long : length (set marks v true) ≡ length marks
    long = length-set marks v true

    case : (c : Bool) → eqb b v ≡ c → get_or (set marks v true) b false ≡ has (order ++ v ∷ []) b
    case true e =
        let same : b ≡ v = grind (arith, nat_tests) in
        subst (λ (x : ℕ). get_or (set marks v true) x false ≡ true) (sym same) (set-here marks v true false lt)
        ∙ sym (has-more order v b ∙ right-holds (has order b) (eqb b v) e)
    case false e =
        let under : b < length marks = omega (arith, below, long) in
        let one : (has order b || eqb b v) ≡ has order b = falls (has order b) (eqb b v) e in
        set-elsewhere marks v true b false
        (λ (same : b ≡ v). (let is : eqb b v ≡ true = grind (arith, nat_tests) in absurd (cc))) ∙ h b under
        ∙ sym (has-more order v b ∙ one)
      where
        falls : (p q : Bool) → q ≡ false → (p || q) ≡ p
        falls true q e = refl
        falls false q e = e

-- one that leads to marked ones alone is placed
pub placing-grows : (g : Graph) (order : List ℕ) (marks : List Bool) (passed : List ℕ) (v at : ℕ) → IsGraph g
    → length marks ≡ length g → length passed ≡ length g → IsPlacing g order marks passed → v < length g
    → has order v ≡ false → AreMarkedUpTo marks (next g v) at → length (next g v) ≤ at
    → IsPlacing g (order ++ v ∷ []) (set marks v true) (set passed v at)
placing-grows g order marks passed v at graph each counts p lt new now le = record {
  ordered = record {
    follows = follows-append g [] order (v ∷ []) p.ordered.follows (λ a m b e. leads a b (either (eqb a v) false m) e);
    once = once-more order v p.ordered.once new;
    within = λ a m. inside a (either (has order a) (eqb a v) (sym (has-more order v a) ∙ m));
  };
  marked = marks-more order marks v (omega (arith, lt, each)) p.marked;
  passes = passed-at g (set marks v true) passed v at (omega (arith, lt, counts))
      (λ a k below within. marked-more marks v (get_or (next g a) k 0) (p.passes a k below within))
      (λ k below within. marked-more marks v (get_or (next g v) k 0) (now k below within));
}
  where
    inside : (a : ℕ) → (has order a ≡ true) ⊎ (eqb a v ≡ true) → a < length g
    inside a (inl old) = p.ordered.within a old
    inside a (inr same) = let is : a ≡ v = grind (arith, nat_tests) in omega (arith, is, lt)

    leads : (a b : ℕ) → (eqb a v ≡ true) ⊎ (false ≡ true) → Step g a b → (has [] b || has order b) ≡ true
    leads a b (inl same) e =
        let is : a ≡ v = grind (arith, nat_tests) in
        let here : Step g v b = subst (λ (x : ℕ). Step g x b) is e in
        let below = graph v b here in
        sym (p.marked b (omega (arith, below, each))) ∙ all-marked marks (next g v) at b now le here
    leads a b (inr no-way) e = absurd (cc)

has-take : (xs : List ℕ) (n b : ℕ) → has xs b ≡ false → has (take n xs) b ≡ false
has-take [] zero b h = refl
has-take [] (suc n) b h = refl
has-take (x ∷ xs) zero b h = refl
has-take (x ∷ xs) (suc n) b h =
    let rest : has xs b ≡ false = grind (arith, nat_tests) in
    let here : eqb b x ≡ false = grind (arith, nat_tests) in
    let later = has-take xs n b rest in
    both (eqb b x) (has (take n xs) b) here later
  where
    both : (p q : Bool) → p ≡ false → q ≡ false → (p || q) ≡ false
    both true q e f = absurd (cc)
    both false q e f = f

pub awaits-open : (g : Graph) (order : List ℕ) (a b n : ℕ) → Step g a b → has order b ≡ false → Awaits g order n a
awaits-open g order a b n e free = inr (b, e, has-take order n b free)

-- longer orders
take-more : (xs more : List ℕ) (n : ℕ) → n ≤ length xs → take n (xs ++ more) ≡ take n xs
take-more xs more zero le = zero-taken (xs ++ more) ∙ sym (zero-taken xs)
  where
    zero-taken : (ys : List ℕ) → take 0 ys ≡ []
    zero-taken [] = refl
    zero-taken (y ∷ ys) = refl
take-more [] more (suc n) le = absurd (omega arith)
take-more (x ∷ xs) more (suc n) le = ap (λ (ys : List ℕ). x ∷ ys) (take-more xs more n (omega arith))

pub awaits-longer : (g : Graph) (old new : List ℕ) (n a : ℕ) → Extends old new → n ≤ length old → Awaits g old n a
    → Awaits g new n a
awaits-longer g old new n a x le (inl m) =
    inl (subst (λ (ys : List ℕ). has ys a ≡ true) (sym x.1)
    (list_any-append (eqb a) old x.0 ∙ left-holds (has old a) (has x.0 a) m))
awaits-longer g old new n a x le (inr (b, e, free)) =
    inr (b, e, ap (λ (ys : List ℕ). has ys b) (ap (take n) x.1 ∙ take-more old x.0 n le) ∙ free)

pub extends-on : (xs ys zs : List ℕ) → Extends xs ys → Extends ys zs → Extends xs zs
extends-on xs ys zs a b = (a.0 ++ b.0, b.1 ∙ ap (λ (l : List ℕ). l ++ b.0) a.1 ∙ append_assoc xs a.0 b.0)

pub extends-length : (xs ys : List ℕ) → Extends xs ys → length xs ≤ length ys
extends-length xs ys x = let same : length ys ≡ length xs + length x.0 = ap length x.1 ∙ length-append xs x.0 in
    omega (arith, same)

-- all that lead to the next vertex were looked at again
pub awaits-next : (g t : Graph) (order new : List ℕ) (at x a : ℕ) → IsReversal g t → at < length order
    → x ≡ get_or order at 0 → Extends order new
    → ((b : ℕ) → has (next t x) b ≡ true → (n : ℕ) → n ≤ length order → Awaits g new n b) → Awaits g order at a
    → Awaits g new (at + 1) a
awaits-next g t order new at x a r lt is longer looked (inl m) =
    awaits-longer g order new (at + 1) a longer (omega (arith, lt)) (inl m)
awaits-next g t order new at x a r lt is longer looked (inr (b, e, free)) = case (eqb b x) refl
  where
    case : (c : Bool) → eqb b x ≡ c → Awaits g new (at + 1) a
    case true same =
        let here : b ≡ x = grind (arith, nat_tests) in
        looked a (r.turned a x ∙ subst (λ (y : ℕ). Step g a y) here e) (at + 1) (omega (arith, lt))
    case false other =
        let more : has (take (at + 1) order) b ≡ (has (take at order) b || eqb b x) =
        ap (λ (ys : List ℕ). has ys b) (taken order at lt ∙ ap (λ (y : ℕ). take at order ++ y ∷ []) (sym is))
        ∙ has-more (take at order) x b in
        awaits-longer g order new (at + 1) a longer (omega (arith, lt))
        (inr (b, e, more ∙ none (has (take at order) b) (eqb b x) free other))
      where
        none : (p q : Bool) → p ≡ false → q ≡ false → (p || q) ≡ false
        none true q e f = absurd (cc)
        none false q e f = f

pub order-few : (g : Graph) (order : List ℕ) → IsOrder g order → length order ≤ length g
order-few g order o = length-le_from_distinct_below order (length g) o.once o.within

-- at the end
pub topological : (g : Graph) (order : List ℕ) (at : ℕ) → IsGraph g → IsOrder g order → at ≡ length order
    → ((a : ℕ) → a < length g → Awaits g order at a) → IsTopologicalOrder g order
topological g order at graph o end on = record {
  order = o;
  rest = λ a lt free. stuck g order graph (λ b below. whole b (on b below)) a lt free;
}
  where
    whole : (b : ℕ) → Awaits g order at b → (has order b ≡ true) ⊎ ((c : ℕ) × Step g b c × (has order c ≡ false))
    whole b (inl m) = inl m
    whole b (inr (c, e, free)) =
        inr (c, e, sym (ap (λ (ys : List ℕ). has ys c) (take_all at order (omega (arith, end)))) ∙ free)

-- an edge leads from a vertex
pub step-within : (g : Graph) (a b : ℕ) → Step g a b → a < length g
step-within [] a b e = absurd (cc)
step-within (row ∷ rows) zero b e = omega arith
step-within (row ∷ rows) (suc a) b e = let rest = step-within rows a b e in omega (arith, rest)

-- the same steps for rows that are kept in vectors
module _ {X : Type 0} (f : X → List ℕ) where
  pub marked-is : (edges : List X) (order : List ℕ) (marks : List Bool) (passed : List ℕ) (v : ℕ) (d c : Bool)
      → IsPlacing (map f edges) order marks passed → v < length marks → get_or marks v d ≡ c → has order v ≡ c
  marked-is edges order marks passed v d c p lt is = sym (p.marked v lt) ∙ get_or_default marks v false d lt ∙ is

  pub grows-row : (edges : List X) (order : List ℕ) (marks : List Bool) (passed row : List ℕ) (v at : ℕ)
      → IsGraph (map f edges) → length marks ≡ length edges → length passed ≡ length edges
      → IsPlacing (map f edges) order marks passed → v < length edges → has order v ≡ false → row ≡ next (map f edges) v
      → AreMarkedUpTo marks row at → length row ≤ at
      → IsPlacing (map f edges) (order ++ v ∷ []) (set marks v true) (set passed v at)
  grows-row edges order marks passed row v at graph each counts p lt new same now le =
      let long : length (map f edges) ≡ length edges = length-map edges f in
      placing-grows (map f edges) order marks passed v at graph (omega (arith, each, long))
      (omega (arith, counts, long)) p (omega (arith, lt, long)) new
      (subst (λ (r : List ℕ). AreMarkedUpTo marks r at) same now) (subst (λ (r : List ℕ). length r ≤ at) same le)

  pub waits-row : (edges : List X) (order : List ℕ) (marks : List Bool) (passed row : List ℕ) (v at n : ℕ)
      → IsGraph (map f edges) → length marks ≡ length edges → IsPlacing (map f edges) order marks passed
      → row ≡ next (map f edges) v → at < length row → get_or marks (get_or row at 0) false ≡ false
      → Awaits (map f edges) order n v
  waits-row edges order marks passed row v at n graph each p same lt free =
      let long : length (map f edges) ≡ length edges = length-map edges f in
      let step : Step (map f edges) v (get_or row at 0) =
      subst (λ (r : List ℕ). has r (get_or row at 0) ≡ true) same (at-member row at 0 lt) in
      let below = graph v (get_or row at 0) step in
      awaits-open (map f edges) order v (get_or row at 0) n step
      (sym (p.marked (get_or row at 0) (omega (arith, below, long, each))) ∙ free)

  -- what stands in the order is a vertex
  pub placed-within : (edges : List X) (order : List ℕ) (marks : List Bool) (passed : List ℕ) (k x : ℕ)
      → IsPlacing (map f edges) order marks passed → k < length order → x ≡ get_or order k x → x < length edges
  placed-within edges order marks passed k x p lt is =
      let long : length (map f edges) ≡ length edges = length-map edges f in
      let member : has order x ≡ true = subst (λ (y : ℕ). has order y ≡ true) (sym is) (at-member order k x lt) in
      let bound = p.ordered.within x member in
      omega (arith, bound, long)

  pub placed-few : (edges : List X) (order : List ℕ) (marks : List Bool) (passed : List ℕ)
      → IsPlacing (map f edges) order marks passed → length order ≤ length edges
  placed-few edges order marks passed p =
      let long : length (map f edges) ≡ length edges = length-map edges f in
      let few = order-few (map f edges) order p.ordered in
      omega (arith, few, long)

  pub reversal-long : (edges before : List X) → IsReversal (map f edges) (map f before) → length before ≡ length edges
  reversal-long edges before r = sym (length-map before f) ∙ r.same ∙ length-map edges f

  pub reversal-within : (edges before : List X) (x : ℕ) (v : X) (row : List ℕ) → IsReversal (map f edges) (map f before)
      → x < length before → v ≡ get_or before x v → row ≡ f v → All (λ b. b < length edges) row
  reversal-within edges before x v row r lt at is k d within =
      let same = row-is f before x v row lt at is in
      let member : has (next (map f before) x) (get_or row k d) ≡ true =
      subst (λ (ys : List ℕ). has ys (get_or row k d) ≡ true) same (at-member row k d within) in
      let bound : get_or row k d < length (map f edges) =
      step-within (map f edges) (get_or row k d) x (sym (r.turned (get_or row k d) x) ∙ member) in
      let long : length (map f edges) ≡ length edges = length-map edges f in
      omega (arith, bound, long)

  pub looked-on : (edges before : List X) (order new : List ℕ) (at x : ℕ) (v : X) (row : List ℕ)
      → IsReversal (map f edges) (map f before) → x < length before → v ≡ get_or before x v → row ≡ f v
      → at < length order → x ≡ get_or order at x → Extends order new
      → ((b : ℕ) → has row b ≡ true → (n : ℕ) → n ≤ length order → Awaits (map f edges) new n b)
      → ((a : ℕ) → a < length edges → Awaits (map f edges) order at a) → (a : ℕ) → a < length edges
      → Awaits (map f edges) new (at + 1) a
  looked-on edges before order new at x v row r below read is lt here longer looked on a within =
      let same = row-is f before x v row below read is in
      awaits-next (map f edges) (map f before) order new at x a r lt (here ∙ get_or_default order at x 0 lt) longer
      (λ b m n le. looked b (ap (λ (ys : List ℕ). has ys b) same ∙ m) n le) (on a within)

  pub whole-order : (edges : List X) (order : List ℕ) (at : ℕ) → IsGraph (map f edges) → IsOrder (map f edges) order
      → at ≡ length order → ((a : ℕ) → a < length edges → Awaits (map f edges) order at a)
      → IsTopologicalOrder (map f edges) order
  whole-order edges order at graph o end on =
      let long : length (map f edges) ≡ length edges = length-map edges f in
      topological (map f edges) order at graph o end (λ a lt. on a (omega (arith, lt, long)))

-- up to a bound, and at it
pub up-to : (P : ℕ → Type 0) (n : ℕ) → ((b : ℕ) → b < n → P b) → P n → (b : ℕ) → b < n + 1 → P b
up-to P n h last b lt = case (eqb b n) refl
  where
    case : (c : Bool) → eqb b n ≡ c → P b
    case true e = let same : b ≡ n = grind (arith, nat_tests) in subst P (sym same) last
    case false e = h b (let apart : b ≢ n =
        (λ (same : b ≡ n). (let is : eqb b n ≡ true = grind (arith, nat_tests) in absurd (cc))) in
        grind (arith, nat_tests))

-- one vertex more was looked at
pub awaits-each : (g : Graph) (vertices start old new : List ℕ) (i v : ℕ) → i < length vertices
    → v ≡ get_or vertices i 0 → Extends start old → Extends old new
    → ((a : ℕ) → has (take i vertices) a ≡ true → (n : ℕ) → n ≤ length start → Awaits g old n a)
    → ((n : ℕ) → Awaits g new n v) → (a : ℕ) → has (take (i + 1) vertices) a ≡ true → (n : ℕ) → n ≤ length start
    → Awaits g new n a
awaits-each g vertices start old new i v lt is before longer on here a m n le =
    which (either (has (take i vertices) a) (eqb a v) (sym more ∙ m))
  where
    more : has (take (i + 1) vertices) a ≡ (has (take i vertices) a || eqb a v)
    more = ap (λ (ys : List ℕ). has ys a) (taken vertices i lt ∙ ap (λ (y : ℕ). take i vertices ++ y ∷ []) (sym is))
        ∙ has-more (take i vertices) v a

    which : (has (take i vertices) a ≡ true) ⊎ (eqb a v ≡ true) → Awaits g new n a
    which (inl old-one) = awaits-longer g old new n a longer (let long = extends-length start old before in
        omega (arith, le, long)) (on a old-one n le)
    which (inr same) = let at : a ≡ v = grind (arith, nat_tests) in subst (Awaits g new n) (sym at) (here n)

-- at the beginning
pub placing-begins : (g : Graph) (marks : List Bool) (passed : List ℕ) → AreMarks marks []
    → ((a : ℕ) → get_or passed a 0 ≡ 0) → IsPlacing g [] marks passed
placing-begins g marks passed clean none = record {
  ordered = record { follows = tt; once = nothing; within = λ a m. absurd (cc) };
  marked = clean;
  passes = λ a k lt within. (let zero-passed = none a in absurd (omega (arith, lt, zero-passed)));
}

-- what a test tells
pub told : (c m : Bool) (P : Type 0) → c ≡ m → (m ≡ true ↔ P) → MatchBool c P (P → ⊥)
told true m P is h = h.0 (sym is)
told false m P is h = λ p. absurd (let yes = h.1 p in cc)

pub not-so : (c : Bool) (P : Type 0) → MatchBool c P (P → ⊥) → c ≡ false → P → ⊥
not-so true P h is = absurd (cc)
not-so false P h is = h

pub cyclic-within : (g : Graph) → IsGraph g → (a : ℕ) → IsCyclic g a → a < length g
cyclic-within g graph a c = reached-within g graph a a c

pub ordered-acyclic : (g : Graph) (order : List ℕ) (marks : List Bool) (a : ℕ) → IsOrder g order → AreMarks marks order
    → get_or marks a false ≡ true → IsCyclic g a → ⊥
ordered-acyclic g order marks a o h is c =
    ordered-lead-to-no-cycle g order o a (sym (h a (inside marks a is)) ∙ is) (inl c)
  where
    inside : (ms : List Bool) (b : ℕ) → get_or ms b false ≡ true → b < length ms
    inside [] b e = absurd (cc)
    inside (m ∷ ms) zero e = omega arith
    inside (m ∷ ms) (suc b) e = let rest = inside ms b e in omega (arith, rest)

pub zero-everywhere : (xs : List ℕ) → ((a : ℕ) → a < length xs → get_or xs a 0 ≡ 0) → (a : ℕ) → get_or xs a 0 ≡ 0
zero-everywhere [] h a = refl
zero-everywhere (x ∷ xs) h zero = h 0 (omega arith)
zero-everywhere (x ∷ xs) h (suc a) = zero-everywhere xs (λ b lt. h (suc b) (omega (arith, lt))) a
