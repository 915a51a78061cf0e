-- Spans are placed in those of the parents, parents first.
use Rattle.std.proofs.Common.{◌≡◌, ℕ, ◌+◌, ◌<◌, ◌≤◌, ◌∙◌, sym, Bool, true, false, ◌⊎◌, inl, inr, List, [], length, take, get_or, set, refl, ap, subst, arith, length-set}
use Rattle.std.proofs.lemmas.List.Sums.{get_or-le-sum_by}
use Rattle.graphs.specs.Graphs.{Graph, has}
use Rattle.graphs.specs.Orders.{IsOrder}
use Rattle.graphs.proofs.Gathered.{set-here, set-elsewhere}
use Rattle.graphs.specs.steps.Forests.{parent, IsForest}
use Rattle.graphs.specs.steps.Spans.{Sized, ArePlaced}
use Rattle.graphs.proofs.ForestOrders.{within-at, above-at, not-here}
use Rattle.graphs.proofs.Along.{one-more, along-next}

module _ (g : Graph) (h : IsForest g) (order : List ℕ) (o : IsOrder g order) (starts sizes : List ℕ)
    (s : Sized g [] starts sizes) (i : ℕ) (lt : i < length order) (firsts : List ℕ)
    (p : ArePlaced g (take i order) starts sizes firsts) where
  abbrev x : ℕ
  x = get_or order i 0

  low : x < length g
  low = within-at g h order o i lt

  -- there is no more than there is in all
  all-sizes : get_or sizes (length g) 0 ≤ length g + 1
  all-sizes =
      let (left, long, sum, are) = s.pending in
      let same = are (length g) (omega arith) (inr refl) in
      let one = get_or-le-sum_by (λ k. k) left (length g) 0 (omega (arith, long)) in
      omega (arith, same, one, sum)

  top : (a : ℕ) → (a ≡ length g) ⊎ (has (take i order) a ≡ true) → get_or firsts a 0 + get_or sizes a 0 ≤ length g + 1
  top a (inl e) =
      let all = all-sizes in
      let root = p.root in
      subst (λ b. get_or firsts b 0 + get_or sizes b 0 ≤ length g + 1) (sym e) (omega (arith, all, root))
  top a (inr m) = p.within a m

  above : (parent g x ≡ length g) ⊎ (has (take i order) (parent g x) ≡ true)
  above = above-at g h order o i lt

  fits-all : get_or firsts (parent g x) 0 + get_or starts x 0 + get_or sizes x 0 ≤ length g + 1
  fits-all =
      let inside = s.inside x low refl in
      let up = top (parent g x) above in
      omega (arith, inside, up)

  pub fits : get_or firsts (parent g (get_or order i 0)) 0 + get_or starts (get_or order i 0) 0 ≤ length g + 1
  fits = let all = fits-all in omega (arith, all)

  module _ (y : ℕ) (is : y ≡ get_or firsts (parent g (get_or order i 0)) 0 + get_or starts (get_or order i 0) 0) where
    abbrev placed : List ℕ
    placed = set firsts (get_or order i 0) y

    new-first : get_or placed (get_or order i 0) 0 ≡ y
    new-first =
        let long = p.long in
        let less = low in
        set-here firsts x y 0 (omega (arith, long, less))

    within-more : (a : ℕ) → has (take (i + 1) order) a ≡ true → get_or placed a 0 + get_or sizes a 0 ≤ length g + 1
    within-more a m = by (one-more order i a lt m)
      where
        by : (has (take i order) a ≡ true) ⊎ (a ≡ get_or order i 0) → get_or placed a 0 + get_or sizes a 0 ≤ length g + 1
        by (inl old) =
            let same : get_or placed a 0 ≡ get_or firsts a 0 =
            set-elsewhere firsts x y a 0 (not-here g h order o i a lt (inr old)) in
            let le = p.within a old in
            omega (arith, same, le)
        by (inr e) =
            let all = fits-all in
            let now = new-first in
            subst (λ b. get_or placed b 0 + get_or sizes b 0 ≤ length g + 1) (sym e) (omega (arith, all, now, is))

    pub placed-next : ArePlaced g (take (i + 1) order) starts sizes (set firsts (get_or order i 0) y)
    placed-next = record {
      long = length-set firsts x y ∙ p.long;
      root = set-elsewhere firsts x y (length g) 0 (not-here g h order o i (length g) lt (inl refl)) ∙ p.root;
      each = along-next g h order o 0 (λ a v. v + get_or starts a 0) firsts i y lt p.long p.each is;
      within = within-more;
    }
