-- Steps over the values of an instance.
use Rattle.std.specs.Prelude.{◌≡◌, ◌≢◌, ℕ, zero, suc, ◌+◌, ◌≤◌, ◌==◌, true, cond, List, [], ◌∷◌, ◌++◌, length, drop, Option, None, Some, slice_get}
use Rattle.std.proofs.Common.{refl, sym, ap, ◌∙◌, append-nil, arith}
use Rattle.std.proofs.lemmas.Bool.Decides.{nat_tests}
use Rattle.std.proofs.lemmas.List.Elements.{filter-append}
use Rattle.std.proofs.lemmas.Grind.{flat_map-append}
use Rattle.step_values.specs.AgreementTests.{value_count}
use Rattle.step_values.specs.steps.Slots.{nth}
use Rattle.step_values.specs.Values as values
use Rattle.step_values.specs.Values.{Value, leaf, reference, Values, none, more}
use Rattle.step_values.proofs.Crowds.{not_equal}
use Rattle.step_values.proofs.Walks.{after, after_at, after_all}
use Rattle.schema_underlying_types.specs.declared.base.Base.{Base}
use Rattle.schema_underlying_types.specs.BaseEntries.{entry}
use Rattle.schema_redeclarations.specs.declared.uses.AttributeUse.{AttributeUse}
use Rattle.schema_redeclarations.specs.declared.uses.Uses.{Uses}
use Rattle.schema_redeclarations.specs.Uses.{of_place, uses_at}
use Rattle.population_rows.specs.declared.form.SlotForm.{SlotForm}
use Rattle.population_forms.specs.steps.Slots.{uses_by}
use Rattle.typed_populations.proofs.Turns.{drop-item}
use Rattle.rule_plans.specs.declared.value_search.Sought.{Sought}
use Rattle.rule_plans.specs.declared.value_search.Seeker.{Seeker}
use Rattle.rule_plans.specs.declared.values.Asked.{Asked}
use Rattle.rule_plans.specs.steps.Coded.{by_number, coded_itself, coded_values, coded_each, coded_inside, coded_at, coded_uses, coded_place, coded_slots}

past : (vs : Values) (i : ℕ) → nth vs i ≡ None → value_count vs ≤ i
past none i e = omega arith
past (more v vs) zero e = absurd (cc)
past (more v vs) (suc i) e = let h = past vs i e in omega (arith, h)

drop-all : {A : Type 0} (xs : List A) (i : ℕ) → length xs ≤ i → drop i xs ≡ []
drop-all [] zero h = refl
drop-all [] (suc i) h = refl
drop-all (x ∷ xs) zero h = absurd (omega (arith, h))
drop-all (x ∷ xs) (suc i) h = drop-all xs i (omega (arith, h))

is-same : (i j : ℕ) → i ≡ j → (i == j) ≡ true
is-same i j e = grind (arith, nat_tests)

module _ (x : Seeker) where
  -- a value, and what is inside it
  pub whole-value : (q : Sought) (b : Base) (v : Value)
      → coded_itself x q.declared b v ++ coded_inside x q b v ≡ coded_values x q b v
  whole-value q b (leaf a) = append-nil (coded_itself x q.declared b (leaf a))
  whole-value q b (reference y) = append-nil (coded_itself x q.declared b (reference y))
  whole-value q b (values.typed n v) = refl
  whole-value q b (values.sequence vs) = refl
  whole-value q b (values.bag vs) = refl

  -- values in turn
  pub each-next : (q : Sought) (b : Base) (vs : Values) (i : ℕ) (v : Value) → nth vs i ≡ Some v
      → coded_each x q b (after i vs) ≡ coded_values x q b v ++ coded_each x q b (after (i + 1) vs)
  each-next q b vs i v at = ap (coded_each x q b) (after_at vs i v at)

  pub each-ends : (q : Sought) (b : Base) (vs : Values) (i : ℕ) → value_count vs ≤ i
      → coded_each x q b (after i vs) ≡ []
  each-ends q b vs i h = ap (coded_each x q b) (after_all vs i h)

  -- declarations in turn
  module _ (b : Base) (o : Option Value) where
    -- one of the place, and one of another
    pub use-there : (u : AttributeUse) (q : ℕ) → u.place ≡ q
        → coded_uses x b o (of_place q (u ∷ [])) ≡ coded_at x (by_number x u.data_type) b o
    use-there u q e =
        ap (λ c. coded_uses x b o (cond c (u ∷ []) [])) (is-same u.place q e)
        ∙ append-nil (coded_at x (by_number x u.data_type) b o)

    pub use-elsewhere : (u : AttributeUse) (q : ℕ) → u.place ≢ q → coded_uses x b o (of_place q (u ∷ [])) ≡ []
    use-elsewhere u q n = ap (λ c. coded_uses x b o (cond c (u ∷ []) [])) (not_equal u.place q n)

    pub use-next : (q : ℕ) (us : List AttributeUse) (u : AttributeUse) (longer : List AttributeUse)
        → longer ≡ us ++ u ∷ []
        → coded_uses x b o (of_place q longer)
        ≡ coded_uses x b o (of_place q us) ++ coded_uses x b o (of_place q (u ∷ []))
    use-next q us u longer is =
        ap (λ l. coded_uses x b o (of_place q l)) is
        ∙ ap (coded_uses x b o) (filter-append (λ (v : AttributeUse). v.place == q) us (u ∷ []))
        ∙ flat_map-append (λ (v : AttributeUse). coded_at x (by_number x v.data_type) b o) (of_place q us)
        (of_place q (u ∷ []))

    pub type-next : (t : Uses) (q : ℕ) (types : List ℕ) (j : ℕ) (longer : List ℕ) (us : List AttributeUse)
        → longer ≡ types ++ j ∷ [] → us ≡ uses_at t j
        → coded_uses x b o (uses_by t longer q)
        ≡ coded_uses x b o (uses_by t types q) ++ coded_uses x b o (of_place q us)
    type-next t q types j longer us is at =
        ap (λ l. coded_uses x b o (uses_by t l q)) is
        ∙ ap (coded_uses x b o) (flat_map-append (λ k. of_place q (uses_at t k)) types (j ∷ []))
        ∙ flat_map-append (λ (v : AttributeUse). coded_at x (by_number x v.data_type) b o) (uses_by t types q)
        (uses_by t (j ∷ []) q)
        ∙ ap (λ l. coded_uses x b o (uses_by t types q) ++ coded_uses x b o l)
        (append-nil (of_place q (uses_at t j)) ∙ ap (of_place q) (sym at))

  -- attributes in turn
  pub nothing-there : (b : Base) (us : List AttributeUse) → coded_uses x b None us ≡ []
  nothing-there b [] = refl
  nothing-there b (u ∷ us) = nothing-there b us

  no-values : (k : Asked) (ys : List SlotForm) → coded_slots x k ys none ≡ []
  no-values k [] = refl
  no-values k (y ∷ ys) = refl

  pub slot-next : (k : Asked) (ys : List SlotForm) (vs : Values) (i : ℕ) (y : SlotForm) → slice_get ys i ≡ Some y
      → coded_slots x k (drop i ys) (after i vs)
      ≡ coded_place x k y.place (nth vs i) ++ coded_slots x k (drop (i + 1) ys) (after (i + 1) vs)
  slot-next k ys vs i y at =
      ap (λ l. coded_slots x k l (after i vs)) (drop-item ys i y at) ∙ by (nth vs i) refl
    where
      rest : List SlotForm
      rest = drop (i + 1) ys

      by : (o : Option Value) → nth vs i ≡ o
          → coded_slots x k (y ∷ rest) (after i vs)
          ≡ coded_place x k y.place o ++ coded_slots x k rest (after (i + 1) vs)
      by (Some v) e = ap (coded_slots x k (y ∷ rest)) (after_at vs i v e)
      by None e =
          let far = past vs i e in
          ap (coded_slots x k (y ∷ rest)) (after_all vs i far)
          ∙ sym (no-values k rest) ∙ ap (coded_slots x k rest) (sym (after_all vs (i + 1) (omega (arith, far))))
          ∙ ap (λ l. l ++ coded_slots x k rest (after (i + 1) vs))
          (sym (nothing-there (entry k.declared.now y.place) (uses_by k.uses.now k.types.now y.place)))

  pub slots-end : (k : Asked) (ys : List SlotForm) (vs : Values) (i : ℕ) → length ys ≤ i
      → coded_slots x k (drop i ys) (after i vs) ≡ []
  slots-end k ys vs i h = ap (λ l. coded_slots x k l (after i vs)) (drop-all ys i h)
