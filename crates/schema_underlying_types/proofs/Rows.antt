-- Rows that are gathered one by one.
use Rattle.std.specs.Prelude.{◌≡◌, ℕ, ◌<◌, ◌≤◌, Bool, true, false, cond, nat_lt, List, [], ◌∷◌, length, eqb, ◌⊎◌, ◌↔◌}
use Rattle.std.specs.List.Sorted.{IsNonDecreasing}
use Rattle.schema_semantics.proofs.Lists.{leads-kept}
use Rattle.std.proofs.Common.{refl, inl, inr, ap, sym, subst, ◌∙◌, arith}
use Rattle.std.proofs.lemmas.Bool.Decides.{nat_tests}
use Rattle.graphs.specs.Graphs.{Graph, has, next, Step, Leads, Reaches, IsGraph, StaysBelow, IsAcyclic}
use Rattle.graphs.proofs.Searching.{either, left-holds, reached-within}
use Rattle.schema_data_types.specs.steps.Gathering.{Gathers, IsGathered}
use Rattle.schema_data_types.proofs.Gathered.{nothing-beyond}
use Rattle.schema_underlying_types.specs.declared.base.Base.{Base}
use Rattle.schema_underlying_types.specs.BaseEntries.{is_select_at, opened, item_of, OpenStep, AreItems}

module _ (declared : List Base) where
  -- steps from what stands for a SELECT
  step-forth : (g o : Graph) (i j : ℕ) → next o i ≡ opened declared i (next g i) → Step o i j
      → OpenStep declared g i j
  step-forth g o i j is h = by (is_select_at declared i) refl (ap (λ r. has r j) (sym is) ∙ h)
    where
      by : (b : Bool) → is_select_at declared i ≡ b → has (cond b (next g i) []) j ≡ true → OpenStep declared g i j
      by true e k = (e, k)
      by false e k = absurd (cc)

  step-back : (g o : Graph) (i j : ℕ) → next o i ≡ opened declared i (next g i) → OpenStep declared g i j
      → Step o i j
  step-back g o i j is (e, k) =
      ap (λ r. has r j) is ∙ ap (λ b. has (cond b (next g i) []) j) e ∙ k

  -- what a row of one's own has
  item-has : (i j : ℕ) → has (item_of declared i) j ≡ true → (j ≡ i) × (is_select_at declared i ≡ false)
  item-has i j h = by (is_select_at declared i) refl h
    where
      same : (eqb j i ≡ true) ⊎ (false ≡ true) → j ≡ i
      same (inl e) = grind (arith, nat_tests)
      same (inr e) = absurd (cc)

      by : (b : Bool) → is_select_at declared i ≡ b → has (cond b [] (i ∷ [])) j ≡ true
          → (j ≡ i) × (is_select_at declared i ≡ false)
      by true e k = absurd (cc)
      by false e k = (same (either (eqb j i) false k), e)

  has-item : (i : ℕ) → is_select_at declared i ≡ false → has (item_of declared i) i ≡ true
  has-item i e =
      let first : eqb i i ≡ true = grind (arith, nat_tests) in
      ap (λ b. has (cond b [] (i ∷ [])) i) e ∙ left-holds (eqb i i) false first

  pub own-stay : (own : Graph) (n : ℕ) → length own ≡ n → ((i : ℕ) → i < n → next own i ≡ item_of declared i)
      → StaysBelow n own
  own-stay own n all is a b step = by (nat_lt a n) refl
    where
      by : (c : Bool) → nat_lt a n ≡ c → b < n
      by true e =
          let lt : a < n = grind (arith, nat_tests) in
          let (same, other) = item-has a b (ap (λ r. has r b) (sym (is a lt)) ∙ step) in omega (arith, same, lt)
      by false e =
          let far : n ≤ a = grind (arith, nat_tests) in
          let q = ap (λ r. has r b) (sym (nothing-beyond own a (omega (arith, far, all)))) ∙ step in absurd (cc)

  module _ (g o : Graph) (is : (i : ℕ) → next o i ≡ opened declared i (next g i)) where
    forward : (i j : ℕ) → Reaches o i j → Leads (OpenStep declared g) i j
    forward i j = leads-kept (Step o) (OpenStep declared g) (λ a b. step-forth g o a b (is a)) i j

    backward : (i j : ℕ) → Leads (OpenStep declared g) i j → Reaches o i j
    backward i j = leads-kept (OpenStep declared g) (Step o) (λ a b. step-back g o a b (is a)) i j

    pub opened-graph : length o ≡ length g → IsGraph g → IsGraph o
    opened-graph same graph a b step =
        let lt = graph a b (step-forth g o a b (is a) step).1 in omega (arith, lt, same)

    pub opened-acyclic : IsAcyclic g → IsAcyclic o
    opened-acyclic acyclic a c =
        acyclic a (leads-kept (Step o) (Step g) (λ x y step. (step-forth g o x y (is x) step).1) a a c)

    begins : (i j : ℕ) → Leads (OpenStep declared g) i j → is_select_at declared i ≡ true
    begins i j ([], step) = step.0
    begins i j (m ∷ ms, (step, chain)) = step.0

    abbrev IsReached : ℕ → ℕ → Type 0
    IsReached i j = Leads (OpenStep declared g) i j × (is_select_at declared j ≡ false)

    pub are-items : (own found rows : Graph) → IsGraph o
        → ((i : ℕ) → i < length o → next own i ≡ item_of declared i) → IsGathered o (next own) found
        → length rows ≡ length o
        → ((i : ℕ) → i < length rows → (j : ℕ) → has (next rows i) j ≡ has (opened declared i (next found i)) j)
        → ((i : ℕ) → i < length rows → IsNonDecreasing (next rows i)) → AreItems declared g rows
    are-items own found rows graph mine all long items sorted = record {
      reached = λ i j. reached i j (nat_lt i (length rows)) refl;
      sorted = λ i. in-order i (nat_lt i (length rows)) refl;
    }
      where
        from : (i j : ℕ) → i < length o → is_select_at declared i ≡ true → Gathers o (next own) i j → IsReached i j
        from i j lt e (inl h) =
            let (same, other) = item-has i j (ap (λ r. has r j) (sym (mine i lt)) ∙ h) in absurd (cc)
        from i j lt e (inr (b, way, h)) =
            let there = reached-within o graph i b way in
            let (same, other) = item-has b j (ap (λ r. has r j) (sym (mine b there)) ∙ h) in
            subst (IsReached i) (sym same) (forward i b way, other)

        to : (i j : ℕ) → IsReached i j → Gathers o (next own) i j
        to i j (way, other) =
            let reach = backward i j way in
            inr (j, reach, ap (λ r. has r j) (mine j (reached-within o graph i j reach)) ∙ has-item j other)

        inside : (i j : ℕ) → i < length rows → (b : Bool) → is_select_at declared i ≡ b
            → has (cond b (next found i) []) j ≡ true ↔ IsReached i j
        inside i j lt true e = (
          (λ h. from i j (omega (arith, lt, long)) e ((all.each i j).0 h)),
          (λ h. (all.each i j).1 (to i j h)),
        )
        inside i j lt false e =
            ((λ h. absurd (cc)), (λ h. let q = sym e ∙ begins i j h.0 in absurd (cc)))

        outside : (i j : ℕ) → length o ≤ i → Leads (OpenStep declared g) i j → ⊥
        outside i j far way = start (backward i j way)
          where
            empty : (m : ℕ) → Step o i m → ⊥
            empty m step = let q = ap (λ r. has r m) (sym (nothing-beyond o i far)) ∙ step in absurd (cc)

            start : Reaches o i j → ⊥
            start ([], step) = empty j step
            start (m ∷ ms, (step, chain)) = empty m step

        reached : (i j : ℕ) (b : Bool) → nat_lt i (length rows) ≡ b → Step rows i j ↔ IsReached i j
        reached i j true e =
            let lt : i < length rows = grind (arith, nat_tests) in
            subst (λ x. (x ≡ true) ↔ IsReached i j) (sym (items i lt j)) (inside i j lt (is_select_at declared i) refl)
        reached i j false e =
            let far : length rows ≤ i = grind (arith, nat_tests) in (
              (λ h. let q = ap (λ r. has r j) (sym (nothing-beyond rows i far)) ∙ h in absurd (cc)),
              (λ h. absurd (outside i j (omega (arith, far, long)) h.0)),
            )

        none-sorted : IsNonDecreasing []
        none-sorted i j d le lt = absurd (omega (arith, lt))

        in-order : (i : ℕ) (b : Bool) → nat_lt i (length rows) ≡ b → IsNonDecreasing (next rows i)
        in-order i true e = sorted i (grind (arith, nat_tests))
        in-order i false e =
            let far : length rows ≤ i = grind (arith, nat_tests) in
            subst IsNonDecreasing (sym (nothing-beyond rows i far)) none-sorted
