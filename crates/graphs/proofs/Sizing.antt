-- Vertices are put under their parents, one behind the other.
use Rattle.std.proofs.Common.{◌≡◌, ℕ, zero, suc, ◌+◌, ◌<◌, ◌≤◌, ◌∙◌, sym, Bool, true, false, ◌||◌, ◌⊎◌, inl, inr, List, [], ◌∷◌, ◌++◌, length, take, get_or, set, eqb, refl, ap, subst, arith, length-set}
use Rattle.std.specs.Prelude.{replicate}
use Rattle.std.specs.List.{sum_by}
use Rattle.std.proofs.lemmas.Bool.Decides.{nat_tests}
use Rattle.std.proofs.lemmas.List.{length-replicate, get_or-replicate}
use Rattle.std.proofs.lemmas.List.Sums.{sum_by-cons, sum_by-set, get_or-le-sum_by}
use Rattle.graphs.specs.Graphs.{Graph, has}
use Rattle.graphs.specs.Orders.{IsOrder}
use Rattle.graphs.proofs.Found.{taken, has-more}
use Rattle.graphs.proofs.Gathered.{set-here, set-elsewhere}
use Rattle.graphs.specs.steps.Forests.{parent, IsForest}
use Rattle.graphs.specs.steps.Spans.{Sized}
use Rattle.graphs.proofs.ForestOrders.{never, fresh, parent-within, within-at, above-at}

same-number : (a b : ℕ) → eqb a b ≡ true → a ≡ b
same-number a b e = grind (arith, nat_tests)

equal-number : (a b : ℕ) → a ≡ b → eqb a b ≡ true
equal-number a b e = grind (arith, nat_tests)

other-number : (a b : ℕ) → eqb a b ≡ false → a ≡ b → ⊥
other-number a b e is = never (eqb a b) (equal-number a b is) e

ones-sum : (n : ℕ) → sum_by (λ k. k) (replicate n 1) ≤ n
ones-sum zero = omega arith
ones-sum (suc n) =
    let first : sum_by (λ k. k) (1 ∷ replicate n 1) ≡ 1 + sum_by (λ k. k) (replicate n 1) =
    sum_by-cons (λ k. k) 1 (replicate n 1) in
    let rest = ones-sum n in
    omega (arith, first, rest)

pub sized-first : (g : Graph) (ahead starts sizes : List ℕ) → ((a : ℕ) → a < length g → has ahead a ≡ true)
    → length starts ≡ length g → sizes ≡ replicate (length g + 1) 1 → Sized g ahead starts sizes
sized-first g ahead starts sizes all long is = record {
  starts_long = long;
  sizes_long = many;
  some = λ a lt. let one = one-each a lt in omega (arith, one);
  begins = λ a lt m. absurd (none a lt m);
  inside = λ a lt m. absurd (none a lt m);
  apart = λ a b lt less m k e differ. absurd (none a lt m);
  pending = (sizes, many, small, (λ a lt at. refl));
}
  where
    none : (a : ℕ) → a < length g → has ahead a ≡ false → ⊥
    none a lt m = never (has ahead a) (all a lt) m

    many : length sizes ≡ length g + 1
    many = ap length is ∙ length-replicate (length g + 1) 1

    one-each : (a : ℕ) → a < length g + 1 → get_or sizes a 0 ≡ 1
    one-each a lt = ap (λ l. get_or l a 0) is ∙ get_or-replicate (length g + 1) a 1 0 lt

    small : sum_by (λ k. k) sizes ≤ length g + 1
    small = subst (λ l. sum_by (λ k. k) l ≤ length g + 1) (sym is) (ones-sum (length g + 1))

-- a vertex is put under its parent
module _ (g : Graph) (h : IsForest g) (ahead rest : List ℕ) (x : ℕ) (starts sizes : List ℕ)
    (s : Sized g ahead starts sizes) (more : ahead ≡ rest ++ x ∷ []) (low : x < length g) (new : has rest x ≡ false)
    (up : (parent g x ≡ length g) ⊎ (has rest (parent g x) ≡ true)) where
  abbrev q : ℕ
  q = parent g x

  abbrev z : ℕ → ℕ
  z a = get_or sizes a 0

  abbrev larger : List ℕ
  larger = set sizes q (z q + z x)

  abbrev begun : List ℕ
  begun = set starts x (z q)

  q-low : q < length g + 1
  q-low = parent-within g h x

  ahead-is : (a : ℕ) → has ahead a ≡ (has rest a || eqb a x)
  ahead-is a = ap (λ l. has l a) more ∙ has-more rest x a

  still : (a : ℕ) → has rest a ≡ true → has ahead a ≡ true
  still a m = ahead-is a ∙ ap (λ b. b || eqb a x) m

  x-ahead : has ahead x ≡ true
  x-ahead = ahead-is x ∙ last (has rest x) (eqb x x) (equal-number x x refl)
    where
      last : (a b : Bool) → b ≡ true → (a || b) ≡ true
      last true b e = refl
      last false b e = e

  passed : (a : ℕ) → has rest a ≡ false → (a ≡ x → ⊥) → has ahead a ≡ false
  passed a m differ = by (eqb a x) refl
    where
      by : (b : Bool) → eqb a x ≡ b → has ahead a ≡ false
      by true e = absurd (differ (same-number a x e))
      by false e = ahead-is a ∙ ap (λ b. b || eqb a x) m ∙ e

  waits : (a : ℕ) → (a ≡ length g) ⊎ (has rest a ≡ true) → a ≡ x → ⊥
  waits a (inl e) is = absurd (omega (arith, e, is, low))
  waits a (inr m) is = never (has rest x) (subst (λ b. has rest b ≡ true) is m) new

  q-waits : (q ≡ length g) ⊎ (has rest q ≡ true)
  q-waits = up

  q-not-x : q ≡ x → ⊥
  q-not-x = waits q q-waits

  -- what is done isn't the parent
  done-not-q : (a : ℕ) → a < length g → has ahead a ≡ false → a ≡ q → ⊥
  done-not-q a lt m is = by q-waits
    where
      by : (q ≡ length g) ⊎ (has rest q ≡ true) → ⊥
      by (inl e) = absurd (omega (arith, e, is, lt))
      by (inr k) = never (has ahead a) (still a (subst (λ b. has rest b ≡ true) (sym is) k)) m

  z-q : get_or larger q 0 ≡ z q + z x
  z-q =
      let long = s.sizes_long in
      let lt = q-low in
      set-here sizes q (z q + z x) 0 (omega (arith, long, lt))

  z-other : (a : ℕ) → (a ≡ q → ⊥) → get_or larger a 0 ≡ z a
  z-other a differ = set-elsewhere sizes q (z q + z x) a 0 differ

  z-grows : (a : ℕ) → z a ≤ get_or larger a 0
  z-grows a = by (eqb a q) refl
    where
      here : a ≡ q → z a ≤ get_or larger a 0
      here is =
          let old : z a ≡ z q = ap z is in
          let now : get_or larger a 0 ≡ z q + z x = ap (λ b. get_or larger b 0) is ∙ z-q in
          omega (arith, old, now)

      by : (b : Bool) → eqb a q ≡ b → z a ≤ get_or larger a 0
      by true e = here (same-number a q e)
      by false e =
          let same = z-other a (other-number a q e) in
          omega (arith, same)

  begun-x : get_or begun x 0 ≡ z q
  begun-x = let long = s.starts_long in set-here starts x (z q) 0 (omega (arith, long, low))

  begun-other : (a : ℕ) → (a ≡ x → ⊥) → get_or begun a 0 ≡ get_or starts a 0
  begun-other a differ = set-elsewhere starts x (z q) a 0 differ

  z-x : get_or larger x 0 ≡ z x
  z-x = z-other x (λ is. q-not-x (sym is))

  -- what is pending stays as much
  abbrev Pending : List ℕ → Type 0
  Pending left =
      (length left ≡ length g + 1) × (sum_by (λ k. k) left ≤ length g + 1)
      × ((a : ℕ) → a < length g + 1 → (has ahead a ≡ true) ⊎ (a ≡ length g) → get_or left a 0 ≡ z a)

  q-ahead : (has ahead q ≡ true) ⊎ (q ≡ length g)
  q-ahead = by q-waits
    where
      by : (q ≡ length g) ⊎ (has rest q ≡ true) → (has ahead q ≡ true) ⊎ (q ≡ length g)
      by (inl e) = inr e
      by (inr m) = inl (still q m)

  room-by : (left : List ℕ) → Pending left → z q + z x ≤ length g + 1
  room-by left (long, sum, are) =
      let at-q : get_or left q 0 ≡ z q = are q q-low q-ahead in
      let at-x : get_or left x 0 ≡ z x = are x (omega (arith, low)) (inl x-ahead) in
      let less : sum_by (λ k. k) (set left x 0) + get_or left x 0 ≡ sum_by (λ k. k) left + 0 =
      sum_by-set (λ k. k) left x 0 0 (omega (arith, long, low)) in
      let size = length-set left x 0 in
      let lt = q-low in
      let one : get_or (set left x 0) q 0 ≤ sum_by (λ k. k) (set left x 0) =
      get_or-le-sum_by (λ k. k) (set left x 0) q 0 (omega (arith, long, size, lt)) in
      let same : get_or (set left x 0) q 0 ≡ get_or left q 0 = set-elsewhere left x 0 q 0 q-not-x in
      omega (arith, sum, at-q, at-x, less, one, same)

  pub room : z (parent g x) + z x ≤ length g + 1
  room = let (left, long, sum, are) = s.pending in room-by left (long, sum, are)

  abbrev moved : List ℕ → List ℕ
  moved left = set (set left q (get_or left q 0 + get_or left x 0)) x 0

  moved-sum : (left : List ℕ) → Pending left → sum_by (λ k. k) (moved left) ≤ length g + 1
  moved-sum left (long, sum, are) =
      let y : ℕ = get_or left q 0 + get_or left x 0 in
      let size = length-set left q y in
      let lt = q-low in
      let added : sum_by (λ k. k) (set left q y) + get_or left q 0 ≡ sum_by (λ k. k) left + y =
      sum_by-set (λ k. k) left q y 0 (omega (arith, long, lt)) in
      let moved-on : sum_by (λ k. k) (set (set left q y) x 0) + get_or (set left q y) x 0
      ≡ sum_by (λ k. k) (set left q y) + 0 =
      sum_by-set (λ k. k) (set left q y) x 0 0 (omega (arith, long, size, low)) in
      let same : get_or (set left q y) x 0 ≡ get_or left x 0 =
      set-elsewhere left q y x 0 (λ is. q-not-x (sym is)) in
      omega (arith, sum, added, moved-on, same)

  moved-are : (left : List ℕ) → Pending left → (a : ℕ) → a < length g + 1 → (has rest a ≡ true) ⊎ (a ≡ length g)
      → get_or (moved left) a 0 ≡ get_or larger a 0
  moved-are left (long, sum, are) a lt at =
      set-elsewhere (set left q y) x 0 a 0 (waits a (turned at)) ∙ by (eqb a q) refl
    where
      y : ℕ
      y = get_or left q 0 + get_or left x 0

      turned : (has rest a ≡ true) ⊎ (a ≡ length g) → (a ≡ length g) ⊎ (has rest a ≡ true)
      turned (inl m) = inr m
      turned (inr e) = inl e

      before : (has rest a ≡ true) ⊎ (a ≡ length g) → (has ahead a ≡ true) ⊎ (a ≡ length g)
      before (inl m) = inl (still a m)
      before (inr e) = inr e

      here : get_or (set left q y) q 0 ≡ get_or larger q 0
      here =
          let less = q-low in
          let at-q : get_or left q 0 ≡ z q = are q q-low q-ahead in
          let at-x : get_or left x 0 ≡ z x = are x (omega (arith, low)) (inl x-ahead) in
          set-here left q y 0 (omega (arith, long, less)) ∙ ap (λ n. n + get_or left x 0) at-q ∙ ap (λ n. z q + n) at-x
          ∙ sym z-q

      by : (b : Bool) → eqb a q ≡ b → get_or (set left q y) a 0 ≡ get_or larger a 0
      by true e =
          let is = same-number a q e in
          subst (λ b. get_or (set left q y) b 0 ≡ get_or larger b 0) (sym is) here
      by false e =
          let differ = other-number a q e in
          set-elsewhere left q y a 0 differ ∙ are a lt (before at) ∙ sym (z-other a differ)

  pending-more : (left : List ℕ) × (length left ≡ length g + 1) × (sum_by (λ k. k) left ≤ length g + 1)
      × ((a : ℕ) → a < length g + 1 → (has rest a ≡ true) ⊎ (a ≡ length g) → get_or left a 0 ≡ get_or larger a 0)
  pending-more =
      let (left, long, sum, are) = s.pending in
      let y : ℕ = get_or left q 0 + get_or left x 0 in (
        moved left,
        length-set (set left q y) x 0 ∙ length-set left q y ∙ long,
        moved-sum left (long, sum, are),
        moved-are left (long, sum, are),
      )

  -- by cases: the vertex itself, or one that was put under its parent before
  which : (a : ℕ) → (a ≡ x) ⊎ (a ≡ x → ⊥)
  which a = by (eqb a x) refl
    where
      by : (b : Bool) → eqb a x ≡ b → (a ≡ x) ⊎ (a ≡ x → ⊥)
      by true e = inl (same-number a x e)
      by false e = inr (other-number a x e)

  begins-more : (a : ℕ) → a < length g → has rest a ≡ false → 0 < get_or begun a 0
  begins-more a lt m = by (which a)
    where
      by : (a ≡ x) ⊎ (a ≡ x → ⊥) → 0 < get_or begun a 0
      by (inl is) =
          let some = s.some q q-low in
          let now : get_or begun a 0 ≡ z q = ap (λ b. get_or begun b 0) is ∙ begun-x in
          omega (arith, some, now)
      by (inr differ) =
          let old = s.begins a lt (passed a m differ) in
          let same = begun-other a differ in
          omega (arith, old, same)

  inside-more : (a : ℕ) → a < length g → has rest a ≡ false
      → get_or begun a 0 + get_or larger a 0 ≤ get_or larger (parent g a) 0
  inside-more a lt m = by (which a)
    where
      itself : get_or begun x 0 + get_or larger x 0 ≤ get_or larger q 0
      itself = let b = begun-x in let c = z-x in let d = z-q in omega (arith, b, c, d)

      of-x : get_or begun x 0 + get_or larger x 0 ≤ get_or larger (parent g x) 0
      of-x = itself

      by : (a ≡ x) ⊎ (a ≡ x → ⊥) → get_or begun a 0 + get_or larger a 0 ≤ get_or larger (parent g a) 0
      by (inl is) = subst (λ b. get_or begun b 0 + get_or larger b 0 ≤ get_or larger (parent g b) 0) (sym is) of-x
      by (inr differ) =
          let done = passed a m differ in
          let old = s.inside a lt done in
          let same = begun-other a differ in
          let size = z-other a (done-not-q a lt done) in
          let grown = z-grows (parent g a) in
          omega (arith, old, same, size, grown)

  abbrev Apart : ℕ → ℕ → Type 0
  Apart a b =
      (get_or begun a 0 + get_or larger a 0 ≤ get_or begun b 0) ⊎ (get_or begun b 0 + get_or larger b 0 ≤ get_or begun a 0)

  -- it stands behind those that are there
  behind : (a : ℕ) → a < length g → has ahead a ≡ false → (a ≡ x → ⊥) → parent g a ≡ parent g x
      → get_or begun a 0 + get_or larger a 0 ≤ get_or begun x 0
  behind a lt done differ e =
      let old = s.inside a lt done in
      let same = begun-other a differ in
      let size = z-other a (done-not-q a lt done) in
      let there : z (parent g a) ≡ z (parent g x) = ap z e in
      let here = begun-x in
      omega (arith, old, same, size, there, here)

  apart-more : (a b : ℕ) → a < length g → b < length g → has rest a ≡ false → has rest b ≡ false
      → parent g a ≡ parent g b → (a ≡ b → ⊥) → Apart a b
  apart-more a b lt less m k e differ = by (which a) (which b)
    where
      by : (a ≡ x) ⊎ (a ≡ x → ⊥) → (b ≡ x) ⊎ (b ≡ x → ⊥) → Apart a b
      by (inl is) (inl same) = absurd (differ (is ∙ sym same))
      by (inl is) (inr other) =
          inr (subst (λ c. get_or begun b 0 + get_or larger b 0 ≤ get_or begun c 0) (sym is)
          (behind b less (passed b k other) other (sym e ∙ ap (parent g) is)))
      by (inr other) (inl is) =
          inl (subst (λ c. get_or begun a 0 + get_or larger a 0 ≤ get_or begun c 0) (sym is)
          (behind a lt (passed a m other) other (e ∙ ap (parent g) is)))
      by (inr first) (inr second) = both (s.apart a b lt less done also e differ)
        where
          done : has ahead a ≡ false
          done = passed a m first

          also : has ahead b ≡ false
          also = passed b k second

          both : (get_or starts a 0 + z a ≤ get_or starts b 0) ⊎ (get_or starts b 0 + z b ≤ get_or starts a 0) → Apart a b
          both (inl le) =
              let p = begun-other a first in
              let r = begun-other b second in
              let size = z-other a (done-not-q a lt done) in
              inl (omega (arith, le, p, r, size))
          both (inr le) =
              let p = begun-other a first in
              let r = begun-other b second in
              let size = z-other b (done-not-q b less also) in
              inr (omega (arith, le, p, r, size))

  pub sized-next : Sized g rest (set starts x (z (parent g x))) (set sizes (parent g x) (z (parent g x) + z x))
  sized-next = record {
    starts_long = length-set starts x (z q) ∙ s.starts_long;
    sizes_long = length-set sizes q (z q + z x) ∙ s.sizes_long;
    some = λ a lt. let old = s.some a lt in let grown = z-grows a in omega (arith, old, grown);
    begins = begins-more;
    inside = inside-more;
    apart = apart-more;
    pending = pending-more;
  }

-- the last vertex that is ahead in an order
module _ (g : Graph) (h : IsForest g) (order : List ℕ) (o : IsOrder g order) (k left : ℕ) (more : left ≡ k + 1)
    (within : left ≤ length order) (starts sizes : List ℕ) (s : Sized g (take left order) starts sizes) where
  abbrev v : ℕ
  v = get_or order k 0

  there : k < length order
  there = omega (arith, more, within)

  before : Sized g (take (k + 1) order) starts sizes
  before = subst (λ n. Sized g (take n order) starts sizes) more s

  pub vertex-low : v < length g
  vertex-low = within-at g h order o k there

  pub room-down : (q : ℕ) → q ≡ parent g v → get_or sizes q 0 + get_or sizes v 0 ≤ length g + 1
  room-down q is =
      subst (λ p. get_or sizes p 0 + get_or sizes v 0 ≤ length g + 1) (sym is)
      (room g h (take (k + 1) order) (take k order) v starts sizes before (taken order k there) vertex-low
      (fresh order k o.once there) (above-at g h order o k there))

  pub sized-down : (starts2 sizes2 : List ℕ) (q : ℕ) → q ≡ parent g v → starts2 ≡ set starts v (get_or sizes q 0)
      → sizes2 ≡ set sizes q (get_or sizes q 0 + get_or sizes v 0) → Sized g (take k order) starts2 sizes2
  sized-down starts2 sizes2 q is begun grown =
      subst (λ l. Sized g (take k order) l sizes2) (sym begun)
      (subst (λ l. Sized g (take k order) (set starts v (get_or sizes q 0)) l) (sym grown)
      (subst (λ p. Sized g (take k order) (set starts v (get_or sizes p 0)) (set sizes p (get_or sizes p 0 + get_or sizes v 0)))
      (sym is)
      (sized-next g h (take (k + 1) order) (take k order) v starts sizes before (taken order k there) vertex-low
      (fresh order k o.once there) (above-at g h order o k there))))
