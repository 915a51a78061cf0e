-- What has no rank along a topological order: what is faulty, or leads to what is faulty or to itself.
use Rattle.std.specs.Prelude.{◌≡◌, ℕ, suc, ◌<◌, Bool, true, false, cond, ◌||◌, List, [], ◌∷◌, map, Option, None, Some, get_or, length, eqb, ◌⊎◌}
use Rattle.std.proofs.Common.{refl, inl, inr, sym, subst, ◌∙◌, arith}
use Rattle.std.proofs.lemmas.Bool.Decides.{nat_tests}
use Rattle.graphs.specs.Graphs.{Graph, has, next, Step, Chain, Reaches, LeadsToCycle}
use Rattle.graphs.specs.Orders.{Follows, IsTopologicalOrder, Solves, IsElsewhere}
use Rattle.graphs.proofs.Ordering.{ordered-lead-to-no-cycle}
use Rattle.graphs.proofs.Searching.{either}
use Rattle.schema_semantics.specs.Names.{IsOrLeads}
use Rattle.schema_semantics.proofs.Lists.{leads-joined}
use Rattle.schema_derived_attributes.specs.steps.Tables.{rank_from, above_all}
use Rattle.schema_derived_attributes.proofs.Above.{none-above, none-so, each-below, one-below}

module _ (g : Graph) (faulty : List Bool) where
  abbrev pub IsBad : ℕ → Type 0
  IsBad b = (get_or faulty b false ≡ true) ⊎ Reaches g b b

  -- it, or one that it leads to, is faulty or leads to itself
  abbrev pub IsAside : ℕ → Type 0
  IsAside a = (b : ℕ) × IsOrLeads (Step g) a b × IsBad b

  aside-before : (a b : ℕ) → Step g a b → IsAside b → IsAside a
  aside-before a b e (c, inl same, bad) = (c, inr ([], subst (Step g a) same e), bad)
  aside-before a b e (c, inr more, bad) = (c, inr (leads-joined (Step g) a b c ([], e) more), bad)

  module _ (order : List ℕ) (o : IsTopologicalOrder g order) (t : ℕ → Option ℕ)
      (solved : Solves g order (rank_from faulty) t) (bare : IsElsewhere order None t) where
    -- none where it is set aside
    none-of : (b : Bool) (os : List (Option ℕ)) → b ≡ true → cond b None (above_all os) ≡ None
    none-of true os e = refl
    none-of false os e = absurd (cc)

    none-with : (b : Bool) (os : List (Option ℕ)) → above_all os ≡ None → cond b None (above_all os) ≡ None
    none-with true os e = refl
    none-with false os e = e

    bad-none : (b : ℕ) → IsBad b → t b ≡ None
    bad-none b bad = by (has order b) refl bad
      where
        by : (c : Bool) → has order b ≡ c → IsBad b → t b ≡ None
        by false out k = bare b out
        by true m (inl is) = solved b m ∙ none-of (get_or faulty b false) (map t (next g b)) is
        by true m (inr cycle) = absurd (ordered-lead-to-no-cycle g order o.order b m (inl cycle))

    none-before : (a b : ℕ) → Step g a b → t b ≡ None → t a ≡ None
    none-before a b e none = by (has order a) refl
      where
        by : (c : Bool) → has order a ≡ c → t a ≡ None
        by false out = bare a out
        by true m =
            solved a m ∙ none-with (get_or faulty a false) (map t (next g a)) (none-so t (next g a) b e none)

    none-along : (a : ℕ) (ms : List ℕ) (b : ℕ) → Chain (Step g) a ms b → t b ≡ None → t a ≡ None
    none-along a [] b e none = none-before a b e none
    none-along a (m ∷ ms) b e none = none-before a m e.0 (none-along m ms b e.1 none)

    pub aside-none : (a : ℕ) → IsAside a → t a ≡ None
    aside-none a (b, inl same, bad) = subst (λ x. t x ≡ None) (sym same) (bad-none b bad)
    aside-none a (b, inr (ms, chain), bad) = none-along a ms b chain (bad-none b bad)

    -- set aside where there is none
    split : (b : Bool) (os : List (Option ℕ)) → cond b None (above_all os) ≡ None → (b ≡ true)
        ⊎ (above_all os ≡ None)
    split true os e = inl refl
    split false os e = inr e

    along : (seen xs : List ℕ) → Follows g seen xs → ((b : ℕ) → has seen b ≡ true → t b ≡ None → IsAside b)
        → ((b : ℕ) → has xs b ≡ true → has order b ≡ true) → (a : ℕ) → has xs a ≡ true → t a ≡ None → IsAside a
    along seen [] f known within a m none = absurd (cc)
    along seen (x ∷ xs) f known within a m none =
        which (either (eqb a x) (has xs a) m) (along (x ∷ seen) xs f.1 next-known (λ b k. within b (behind b k)) a)
      where
        at-head : has (x ∷ xs) x ≡ true
        at-head = front x xs
          where
            front : (y : ℕ) (ys : List ℕ) → has (y ∷ ys) y ≡ true
            front y ys = grind (arith, nat_tests)

        behind : (b : ℕ) → has xs b ≡ true → has (x ∷ xs) b ≡ true
        behind b k = by (eqb b x)
          where
            by : (c : Bool) → (c || has xs b) ≡ true
            by true = refl
            by false = k

        here : t x ≡ None → IsAside x
        here is = by (split (get_or faulty x false) (map t (next g x)) (sym (solved x (within x at-head)) ∙ is))
          where
            by : (get_or faulty x false ≡ true) ⊎ (above_all (map t (next g x)) ≡ None) → IsAside x
            by (inl bad) = (x, inl refl, inl bad)
            by (inr none-there) =
                let (b, e, at) = none-above t (next g x) none-there in
                aside-before x b e (known b (f.0 b e) at)

        next-known : (b : ℕ) → has (x ∷ seen) b ≡ true → t b ≡ None → IsAside b
        next-known b n is = by (either (eqb b x) (has seen b) n)
          where
            by : (eqb b x ≡ true) ⊎ (has seen b ≡ true) → IsAside b
            by (inl same) =
                let at : x ≡ b = grind (arith, nat_tests) in
                subst IsAside at (here (subst (λ y. t y ≡ None) (sym at) is))
            by (inr old) = known b old is

        which : (eqb a x ≡ true) ⊎ (has xs a ≡ true) → (has xs a ≡ true → t a ≡ None → IsAside a) → IsAside a
        which (inl same) later =
            let at : x ≡ a = grind (arith, nat_tests) in
            subst IsAside at (here (subst (λ y. t y ≡ None) (sym at) none))
        which (inr there) later = later there none

    pub none-aside : (a : ℕ) → a < length g → t a ≡ None → IsAside a
    none-aside a lt none = by (has order a) refl
      where
        looped : LeadsToCycle g a → IsAside a
        looped (inl c) = (a, inl refl, inr c)
        looped (inr (b, leads, c)) = (b, inr leads, inr c)

        by : (c : Bool) → has order a ≡ c → IsAside a
        by true m = along [] order o.order.follows (λ b k is. absurd (cc)) (λ b k. k) a m none
        by false out = looped (o.rest a lt out)

    -- a rank is one more than the greatest of those that it leads to
    made : (a r : ℕ) → t a ≡ Some r → above_all (map t (next g a)) ≡ Some r
    made a r is = by (has order a) refl
      where
        whole : (b : Bool) (os : List (Option ℕ)) → cond b None (above_all os) ≡ Some r → above_all os ≡ Some r
        whole true os e = absurd (cc)
        whole false os e = e

        by : (c : Bool) → has order a ≡ c → above_all (map t (next g a)) ≡ Some r
        by true m = whole (get_or faulty a false) (map t (next g a)) (sym (solved a m) ∙ is)
        by false out = let no-rank : None ≡ Some r = sym (bare a out) ∙ is in absurd (cc)

    pub ranks-above : (a r : ℕ) → t a ≡ Some r → (b : ℕ) → Step g a b → (q : ℕ) × (t b ≡ Some q) × (q < r)
    ranks-above a r is b e = each-below t (next g a) r (made a r is) b e

    pub ranks-least : (a r : ℕ) → t a ≡ Some r → (r ≡ 0)
        ⊎ ((b : ℕ) × Step g a b × ((q : ℕ) × (t b ≡ Some q) × (r ≡ suc q)))
    ranks-least a r is = one-below t (next g a) r (made a r is)
