-- A vertex is under another one where it stands in its span.
use Rattle.std.proofs.Common.{◌≡◌, ℕ, zero, suc, ◌+◌, ◌-◌, ◌<◌, ◌≤◌, ◌∙◌, sym, Bool, true, false, ◌&&◌, not, ◌⊎◌, inl, inr, List, [], ◌∷◌, length, get_or, refl, ap, subst, arith}
use Rattle.std.specs.Prelude.{Some, slice_get, ltb, ◌↔◌, IsTrue}
use Rattle.std.proofs.lemmas.Bool.Decides.{nat_tests}
use Rattle.std.proofs.lemmas.Bool.{cases_eq}
use Rattle.std.proofs.lemmas.Option.{slice_get-get_or}
use Rattle.graphs.specs.Graphs.{Graph, has, Step, Chain, Reaches}
use Rattle.graphs.specs.Orders.{IsOrder}
use Rattle.graphs.proofs.Placed.{step-within}
use Rattle.graphs.specs.declared.forest.Forest.{Forest}
use Rattle.graphs.specs.steps.Forests.{parent, IsForest, IsUnder, IsComplete}
use Rattle.graphs.specs.steps.Spans.{Sized, ArePlaced}
use Rattle.graphs.specs.steps.Telling.{is_within, is_under, Tells}
use Rattle.graphs.proofs.ForestOrders.{climb, parent-is}

-- the last step to a vertex
pub leads-from : (g : Graph) (a m c : ℕ) → Step g a m → IsUnder g m c → Reaches g a c
leads-from g a m c step (inl e) = ([], subst (Step g a) e step)
leads-from g a m c step (inr (ms, rest)) = (m ∷ ms, (step, rest))

last-child : (g : Graph) (ms : List ℕ) (a b : ℕ) → Chain (Step g) a ms b → (c : ℕ) × Step g c b × IsUnder g a c
last-child g [] a b step = (a, step, inl refl)
last-child g (m ∷ ms) a b (step, rest) =
    let (c, last, under) = last-child g ms m b rest in (c, last, inr (leads-from g a m c step under))

-- places in a span
in-span : (k i n : ℕ) → IsTrue (is_within (Some k) (Some i) (Some n)) ↔ ((i ≤ k) × (k < i + n))
in-span k i n = by (ltb k i) refl (ltb (k - i) n) refl
  where
    by : (p : Bool) → ltb k i ≡ p → (q : Bool) → ltb (k - i) n ≡ q → IsTrue (not p && q) ↔ ((i ≤ k) × (k < i + n))
    by true e q f = (
      (λ t. absurd (let no : false ≡ true = t in cc)),
      (λ both. absurd (let le = both.0 in let lt : k < i = grind (arith, nat_tests) in omega (arith, le, lt))),
    )
    by false e true f =
        let le : i ≤ k = grind (arith, nat_tests) in
        let lt : k - i < n = grind (arith, nat_tests) in
        ((λ t. (le, omega (arith, le, lt))), (λ both. refl))
    by false e false f =
        let le : i ≤ k = grind (arith, nat_tests) in
        let past : n ≤ k - i = grind (arith, nat_tests) in (
          (λ t. absurd (let no : false ≡ true = t in cc)),
          (λ both. absurd (let lt = both.1 in omega (arith, le, past, lt))),
        )

module _ (g : Graph) (h : IsForest g) (order : List ℕ) (o : IsOrder g order) (all : IsComplete g order)
    (starts sizes firsts : List ℕ) (s : Sized g [] starts sizes) (p : ArePlaced g order starts sizes firsts) where
  abbrev f : ℕ → ℕ
  f a = get_or firsts a 0

  abbrev z : ℕ → ℕ
  z a = get_or sizes a 0

  placed-at : (a : ℕ) → a < length g → f a ≡ f (parent g a) + get_or starts a 0
  placed-at a lt = p.each a (all a lt)

  -- a stands in the span of b, behind it
  record Inside (a b : ℕ) : Type 0 where
    pub behind : f b < f a
    pub within : f a + z a ≤ f b + z b

  in-parent : (a : ℕ) → a < length g → Inside a (parent g a)
  in-parent a lt =
      let at = placed-at a lt in
      let begins = s.begins a lt refl in
      let inside = s.inside a lt refl in
      record { behind = omega (arith, at, begins); within = omega (arith, at, inside) }

  step-inside : (a b : ℕ) → Step g a b → Inside a b
  step-inside a b step = subst (Inside a) (h.single a b step) (in-parent a (step-within g a b step))

  chain-inside : (ms : List ℕ) (a b : ℕ) → Chain (Step g) a ms b → Inside a b
  chain-inside [] a b step = step-inside a b step
  chain-inside (m ∷ ms) a b (step, rest) =
      let one = step-inside a m step in
      let more = chain-inside ms m b rest in
      let x = one.behind in
      let y = more.behind in
      let v = one.within in
      let w = more.within in
      record { behind = omega (arith, x, y); within = omega (arith, v, w) }

  -- what is under a vertex stands in its span
  under-span : (a b : ℕ) → a < length g → IsUnder g a b → (f b ≤ f a) × (f a < f b + z b)
  under-span a b lt (inl e) =
      let some = s.some a (omega (arith, lt)) in
      subst (λ c. (f c ≤ f a) × (f a < f c + z c)) e (omega arith, omega (arith, some))
  under-span a b lt (inr (ms, chain)) =
      let in-b = chain-inside ms a b chain in
      let some = s.some a (omega (arith, lt)) in
      let x = in-b.behind in
      let y = in-b.within in
      (omega (arith, x), omega (arith, some, y))

  -- each vertex is under one that has no parent
  abbrev HasTop : ℕ → Type 0
  HasTop a = (c : ℕ) × (c < length g) × (parent g c ≡ length g) × IsUnder g a c

  top : (a : ℕ) → has order a ≡ true → HasTop a
  top = climb g HasTop [] order (λ b m. absurd (cc)) o.follows up
    where
      up : (a : ℕ) → has order a ≡ true → ((b : ℕ) → Step g a b → HasTop b) → HasTop a
      up a m above = by (parent-is g h a)
        where
          by : (parent g a ≡ length g) ⊎ Step g a (parent g a) → HasTop a
          by (inl e) = (a, o.within a m, e, inl refl)
          by (inr step) =
              let (c, lt, e, under) = above (parent g a) step in
              (c, lt, e, inr (leads-from g a (parent g a) c step under))

  -- and what stands in its span is under it
  abbrev HasAll : ℕ → Type 0
  HasAll b = (a : ℕ) → a < length g → f b ≤ f a → f a < f b + z b → IsUnder g a b

  -- a vertex with the same parent that it is under
  abbrev Beside : ℕ → ℕ → Type 0
  Beside a b = (c : ℕ) × (c < length g) × (parent g c ≡ parent g b) × IsUnder g a c

  module _ (b : ℕ) (low : b < length g) (above : (c : ℕ) → Step g b c → HasAll c) (a : ℕ) (lt : a < length g)
      (from : f b ≤ f a) (to : f a < f b + z b) where
    beside : Beside a b
    beside = by (parent-is g h b)
      where
        of : IsUnder g a (parent g b) → Beside a b
        of (inl e) =
            let inside = in-parent b low in
            let behind = inside.behind in
            let same : f a ≡ f (parent g b) = ap f e in
            absurd (omega (arith, behind, same, from))
        of (inr (ms, chain)) =
            let (c, step, under) = last-child g ms a (parent g b) chain in
            (c, step-within g c (parent g b) step, h.single c (parent g b) step, under)

        by : (parent g b ≡ length g) ⊎ Step g b (parent g b) → Beside a b
        by (inl e) = let (c, less, top-is, under) = top a (all a lt) in (c, less, top-is ∙ sym e, under)
        by (inr step) =
            let inside = in-parent b low in
            let behind = inside.behind in
            let within = inside.within in
            of (above (parent g b) step a lt (omega (arith, behind, from)) (omega (arith, within, to)))

    -- no other one has its place
    is-it : Beside a b → IsUnder g a b
    is-it (c, less, same, under) = by (cases_eq c b)
      where
        by : (c ≡ b) ⊎ (c ≡ b → ⊥) → IsUnder g a b
        by (inl e) = subst (IsUnder g a) e under
        by (inr differ) = absurd (cut (s.apart c b less low refl refl same differ))
          where
            cut : (get_or starts c 0 + z c ≤ get_or starts b 0) ⊎ (get_or starts b 0 + z b ≤ get_or starts c 0) → ⊥
            cut side =
                let (over, within) = under-span a c lt under in
                let at-b = placed-at b low in
                let at-c = placed-at c less in
                let one : f (parent g c) ≡ f (parent g b) = ap f same in
                clash side over within at-b at-c one
              where
                clash : (get_or starts c 0 + z c ≤ get_or starts b 0) ⊎ (get_or starts b 0 + z b ≤ get_or starts c 0)
                    → f c ≤ f a → f a < f c + z c → f b ≡ f (parent g b) + get_or starts b 0
                    → f c ≡ f (parent g c) + get_or starts c 0 → f (parent g c) ≡ f (parent g b) → ⊥
                clash (inl le) over within at-b at-c one = absurd (omega (arith, le, within, at-b, at-c, one, from))
                clash (inr le) over within at-b at-c one = absurd (omega (arith, le, over, at-b, at-c, one, to))

    has-it : IsUnder g a b
    has-it = is-it beside

  has-all : (b : ℕ) → has order b ≡ true → HasAll b
  has-all =
      climb g HasAll [] order (λ b m. absurd (cc)) o.follows
      (λ b m above a lt from to. has-it b (o.within b m) above a lt from to)

  pub tells : (forest : Forest) → forest.firsts.items ≡ firsts → forest.sizes.items ≡ sizes → Tells g forest
  tells forest are many a b lt less =
      subst (λ t. IsTrue t ↔ IsUnder g a b) (sym found) (
        (λ t. let (from, to) = (in-span (f a) (f b) (z b)).0 t in has-all b (all b less) a lt from to),
        (λ under. (in-span (f a) (f b) (z b)).1 (under-span a b lt under)),
      )
    where
      long : length firsts ≡ length g + 1
      long = p.long

      first-at : (c : ℕ) → c < length g → slice_get forest.firsts.items c ≡ Some (f c)
      first-at c low =
          let many = long in
          ap (λ l. slice_get l c) are ∙ slice_get-get_or firsts c 0 (omega (arith, low, many))

      size-at : (c : ℕ) → c < length g → slice_get forest.sizes.items c ≡ Some (z c)
      size-at c low =
          let longer = s.sizes_long in
          ap (λ l. slice_get l c) many ∙ slice_get-get_or sizes c 0 (omega (arith, low, longer))

      found : is_under forest a b ≡ is_within (Some (f a)) (Some (f b)) (Some (z b))
      found =
          ap (λ k. is_within k (slice_get forest.firsts.items b) (slice_get forest.sizes.items b)) (first-at a lt)
          ∙ ap (λ i. is_within (Some (f a)) i (slice_get forest.sizes.items b)) (first-at b less)
          ∙ ap (λ n. is_within (Some (f a)) (Some (f b)) n) (size-at b less)
