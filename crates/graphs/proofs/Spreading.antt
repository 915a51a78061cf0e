-- Marks go down to all that is under a vertex.
use Rattle.std.proofs.Common.{◌≡◌, ℕ, ◌+◌, ◌<◌, ◌∙◌, sym, Bool, true, false, ◌||◌, ◌⊎◌, inl, inr, List, [], ◌∷◌, length, take, get_or, set, refl, ap, subst, arith, length-set}
use Rattle.graphs.specs.Graphs.{Graph, has, Step, Chain}
use Rattle.graphs.specs.Orders.{IsOrder}
use Rattle.graphs.proofs.Placed.{step-within}
use Rattle.graphs.proofs.Searching.{either}
use Rattle.graphs.proofs.Gathered.{set-elsewhere}
use Rattle.graphs.specs.steps.Forests.{parent, IsForest, IsUnder, IsComplete}
use Rattle.graphs.specs.steps.Marking.{AreSpread, GoDown}
use Rattle.graphs.proofs.ForestOrders.{never, climb, parent-is, not-here}
use Rattle.graphs.proofs.Along.{along-next}
use Rattle.graphs.proofs.Laying.{leads-from}

module _ (g : Graph) (h : IsForest g) (order : List ℕ) (o : IsOrder g order) (marked : List Bool) where
  pub down-next : (marks : List Bool) (i : ℕ) (y : Bool) → i < length order → GoDown g (take i order) marked marks
      → y ≡ (get_or marked (get_or order i 0) false || get_or marks (parent g (get_or order i 0)) false)
      → GoDown g (take (i + 1) order) marked (set marks (get_or order i 0) y)
  down-next marks i y lt d is = record {
    long = length-set marks (get_or order i 0) y ∙ d.long;
    root = set-elsewhere marks (get_or order i 0) y (length g) false (not-here g h order o i (length g) lt (inl refl)) ∙ d.root;
    each = along-next g h order o false (λ a v. get_or marked a false || v) marks i y lt d.long d.each is;
  }

  module _ (all : IsComplete g order) (marks : List Bool) (d : GoDown g order marked marks) where
    abbrev IsMarked : ℕ → Type 0
    IsMarked a = get_or marks a false ≡ true

    abbrev HasMarked : ℕ → Type 0
    HasMarked a = (b : ℕ) × (get_or marked b false ≡ true) × IsUnder g a b

    at : (a : ℕ) → a < length g → get_or marks a false ≡ (get_or marked a false || get_or marks (parent g a) false)
    at a lt = d.each a (all a lt)

    or-right : (a b : Bool) → b ≡ true → (a || b) ≡ true
    or-right true b e = refl
    or-right false b e = e

    own : (a : ℕ) → a < length g → get_or marked a false ≡ true → IsMarked a
    own a lt m = at a lt ∙ ap (λ b. b || get_or marks (parent g a) false) m

    down : (a b : ℕ) → Step g a b → IsMarked b → IsMarked a
    down a b step m =
        at a (step-within g a b step)
        ∙ or-right (get_or marked a false) (get_or marks (parent g a) false)
        (subst (λ c. get_or marks c false ≡ true) (sym (h.single a b step)) m)

    along-chain : (ms : List ℕ) (a b : ℕ) → Chain (Step g) a ms b → get_or marked b false ≡ true → IsMarked a
    along-chain [] a b step m = down a b step (own b (h.graph a b step) m)
    along-chain (c ∷ ms) a b (step, rest) m = down a c step (along-chain ms c b rest m)

    forth : (a : ℕ) → has order a ≡ true → IsMarked a → HasMarked a
    forth = climb g (λ a. IsMarked a → HasMarked a) [] order (λ b m. absurd (cc)) o.follows up
      where
        up : (a : ℕ) → has order a ≡ true → ((b : ℕ) → Step g a b → IsMarked b → HasMarked b) → IsMarked a → HasMarked a
        up a m above is =
            by (either (get_or marked a false) (get_or marks (parent g a) false) (sym (at a (o.within a m)) ∙ is))
          where
            over : get_or marks (parent g a) false ≡ true → (parent g a ≡ length g) ⊎ Step g a (parent g a) → HasMarked a
            over k (inl e) =
                absurd (never (get_or marks (length g) false) (subst (λ c. get_or marks c false ≡ true) e k) d.root)
            over k (inr step) =
                let (b, there, under) = above (parent g a) step k in
                (b, there, inr (leads-from g a (parent g a) b step under))

            by : (get_or marked a false ≡ true) ⊎ (get_or marks (parent g a) false ≡ true) → HasMarked a
            by (inl here) = (a, here, inl refl)
            by (inr k) = over k (parent-is g h a)

    pub spreads : AreSpread g marked marks
    spreads a lt = (forth a (all a lt), back)
      where
        back : HasMarked a → IsMarked a
        back (b, m, inl e) = own a lt (subst (λ c. get_or marked c false ≡ true) (sym e) m)
        back (b, m, inr (ms, chain)) = along-chain ms a b chain m
