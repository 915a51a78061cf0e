-- Whether classes have their parents, one by one.
use Rattle.std.proofs.Common.{List, map, ◌≡◌, ◌<◌, ◌≤◌, ◌+◌, ℕ, Bool, true, false, Some, refl, sym, ◌∙◌, subst, arith, ◌⊎◌, inl, inr, length, slice_get}
use Rattle.std.specs.Prelude.{◌↔◌, All, nat_lt}
use Rattle.std.proofs.lemmas.Bool.{false≢true, ltb-true, lt-ltb}
use Rattle.std.proofs.lemmas.Bool.Decides.{nat_tests}
use Rattle.std.proofs.lemmas.Option.{slice_get_within}
use Rattle.std.proofs.lemmas.List.{length-map}
use Rattle.certificate_checks.proofs.FirstMembers.{map_members}
use Rattle.value_equality.specs.declared.table.Origin.{Origin as ProgramOrigin}
use Rattle.value_equality.specs.TableViews.{origin_of, member_of}
use Rattle.value_equality.specs.Standard.{IsParent, IsWellFormed}
use Rattle.value_equality.specs.Tables.{Origin, start, split, Table, began}
use Rattle.certificate_checks.specs.steps.ComputedParents.{HasParent}

module _ (t : Table) (c p r : ℕ) (at : slice_get t.classes c ≡ Some (split p r)) where
  pub none_before : c ≤ p → (false ≡ true) ↔ HasParent t c
  none_before le = (λ e. absurd (false≢true e), λ h. absurd (let b = (h p r at).before in omega (arith, b, le)))

  pub none_in_time : t.rounds < r → (false ≡ true) ↔ HasParent t c
  none_in_time lt = (λ e. absurd (false≢true e), λ h. absurd (let b = (h p r at).in_time in omega (arith, b, lt)))

  module _ (o : Origin) (there : slice_get t.classes p ≡ Some o) where
    only : IsParent t c p r → HasParent t c
    only h q s e =
        let both : Some (split p r) ≡ Some (split q s) = sym at ∙ e in
        let one : p ≡ q = cc in
        let other : r ≡ s = cc in
        subst (λ x. IsParent t c x s) one (subst (λ x. IsParent t c p x) other h)

    pub parent_where : p < c → r ≤ t.rounds → (b : Bool) → b ≡ nat_lt (began o) r → (b ≡ true) ↔ HasParent t c
    parent_where before in_time b test = (
      λ e. only record {
        before = before;
        origin = o;
        origin_is = there;
        earlier = ltb-true (began o) r (sym test ∙ e);
        in_time = in_time;
      },
      λ h. test ∙ lt-ltb (began o) r (earlier (h p r at)),
    )
      where
        earlier : IsParent t c p r → began o < r
        earlier h =
            let both : Some h.origin ≡ Some o = sym h.origin_is ∙ there in
            let same : h.origin ≡ o = cc in
            subst (λ x. began x < r) same h.earlier

-- one more
pub one_more_below : (Q : ℕ → Type 0) (k : ℕ) → ((i : ℕ) → i < k → Q i) → Q k → (i : ℕ) → i < k + 1 → Q i
one_more_below Q k all h i lt = elim (cases i k lt) [ inl same ↦ subst Q (sym same) h | inr less ↦ all i less ]
  where
    cases : (i k : ℕ) → i < k + 1 → (i ≡ k) ⊎ (i < k)
    cases i k lt = by (nat_lt i k) refl
      where
        by : (b : Bool) → nat_lt i k ≡ b → (i ≡ k) ⊎ (i < k)
        by true e = inr (ltb-true i k e)
        by false e = inl (omega (arith, lt, past i k e))
          where
            past : (i k : ℕ) → nat_lt i k ≡ false → k ≤ i
            past i k e = grind (arith, nat_tests)

-- The parents of its classes decide whether a table is well-formed.
module _ (t : Table) where
  -- the number of a class that was split off is below the number of classes
  pub split_within : (c p r : ℕ) → slice_get t.classes c ≡ Some (split p r) → c < length t.classes
  split_within c p r at = slice_get_within t.classes c (split p r) at

  pub no_parents : (((c : ℕ) → HasParent t c) → false ≡ true) → (false ≡ true) ↔ IsWellFormed t
  no_parents refuted = (λ e. absurd (false≢true e), λ w. refuted w.parents)

  pub well_formed_where : ((c : ℕ) → HasParent t c) → (b : Bool)
      → (b ≡ true) ↔ All (λ (m : ℕ × ℕ). m.1 < length t.classes) t.members → (b ≡ true) ↔ IsWellFormed t
  well_formed_where parents b declared = (
    λ e. record { parents = parents; declared = declared.0 e },
    λ w. declared.1 w.declared,
  )

-- the classes and the members of the program's table
pub as_declared : (b : Bool) (os : List ProgramOrigin) (ms : List (ℕ × ℕ)) → (b ≡ true)
    ↔ All (λ (m : ℕ × ℕ). m.1 < length os) ms → (b ≡ true)
    ↔ All (λ (m : ℕ × ℕ). m.1 < length (map origin_of os)) (map member_of ms)
as_declared b os ms h = subst (λ n. (b ≡ true) ↔ All (λ (m : ℕ × ℕ). m.1 < n) (map member_of ms))
    (sym (length-map os origin_of)) (subst (λ xs. (b ≡ true) ↔ All (λ (m : ℕ × ℕ). m.1 < length os) xs)
    (sym (map_members ms)) h)
