-- Who is a kind of whom, by rows of numbers.
use Rattle.std.specs.Prelude.{◌≡◌, ℕ, Bool, true, false, ◌&&◌, ◌||◌, not, eqb, bytes_eq, ◌⊎◌}
use Rattle.std.proofs.Common.{refl, inl, inr, sym, subst}
use Rattle.std.proofs.lemmas.Slice.Eq.{bytes_eq-Decides}
use Rattle.graphs.specs.Graphs.{Graph, has, next}
use Rattle.express_syntax.specs.Schemas.{Schema}
use Rattle.schema_semantics.specs.Names.{Name, IsEntity, IsBelow, IsKindOf, IsSubtypeOf}
use Rattle.schema_semantics.specs.Faults.{IsResolved}
use Rattle.schema_semantics.proofs.Lists.{last-step}
use Rattle.schema_semantics.proofs.Bools.{is-false, or-left, or-right, both-hold}
use Rattle.schema_semantics.proofs.Recursion.{supertype-is-entity}
use Rattle.schema_names.specs.Numbers.{HasNumber}
use Rattle.schema_names.proofs.Numbers.{one-name}
use Rattle.schema_names.proofs.Edges.{below-forth, below-back}
use Rattle.schema_explicit_attributes.specs.Supertypes.{AreAbove}
use Rattle.conformance.specs.Entities.{Entities, AreEntities}
use Rattle.population_forms.proofs.Naming.{same-test, same-number, equals-itself, one-number-of}

pub either : (a b : Bool) → (a || b) ≡ true → (a ≡ true) ⊎ (b ≡ true)
either true b e = inl refl
either false b e = inr e

both-true : (a b : Bool) → a ≡ true → b ≡ false → (a && not b) ≡ true
both-true true true e f = absurd (cc)
both-true true false e f = refl
both-true false b e f = absurd (cc)

no-false : (b : Bool) → not b ≡ true → b ≡ true → ⊥
no-false true e f = cc
no-false false e f = cc

module _ (s : Schema) (r : IsResolved s) where
  pub below-entity : (n m : Name) → IsBelow s n m → IsEntity s m
  below-entity n m b =
      let (x, step) = last-step (IsSubtypeOf s) n m b in supertype-is-entity s r x m step

  module _ (rows : Graph) (h : AreAbove s rows) where
    -- what a row leads to is above
    pub above-forth : (n m : Name) (i j : ℕ) → HasNumber s n i → HasNumber s m j → has (next rows i) j ≡ true
        → IsBelow s n m
    above-forth n m i j k l e =
        let (x, a, b) = below-forth s h.graph h.drawn n i j k ((h.closed.reached i j).0 e) in
        subst (IsBelow s n) (one-name s x m j a l) b

    pub above-back : (n m : Name) (i j : ℕ) → HasNumber s n i → HasNumber s m j → IsBelow s n m
        → has (next rows i) j ≡ true
    above-back n m i j k l b = (h.closed.reached i j).1 (below-back s h.graph h.drawn n m i j k l b)

    -- what a row has is an entity
    pub above-entity : (n : Name) (i j : ℕ) → HasNumber s n i → has (next rows i) j ≡ true
        → (m : Name) × IsEntity s m × HasNumber s m j
    above-entity n i j k e =
        let (m, l, b) = below-forth s h.graph h.drawn n i j k ((h.closed.reached i j).0 e) in
        (m, below-entity n m b, l)

    module _ (en : Entities) (g : AreEntities s en) where
      pub kind-is : (n m : Name) (i j : ℕ) → HasNumber s n i → HasNumber s m j
          → en.is_kind_of n m ≡ (eqb i j || has (next rows i) j)
      kind-is n m i j k l =
          same-test (en.is_kind_of n m) (eqb i j || has (next rows i) j) (λ e. forth ((g.kinds n m).0 e))
          (λ e. back (either (eqb i j) (has (next rows i) j) e))
        where
          forth : IsKindOf s n m → (eqb i j || has (next rows i) j) ≡ true
          forth (inl e) =
              let is : i ≡ j = one-number-of s m i j (subst (λ x. HasNumber s x i) e k) l in
              or-left (eqb i j) (has (next rows i) j) (subst (λ x. eqb i x ≡ true) is (equals-itself i))
          forth (inr b) = or-right (eqb i j) (has (next rows i) j) (above-back n m i j k l b)

          back : (eqb i j ≡ true) ⊎ (has (next rows i) j ≡ true) → en.is_kind_of n m ≡ true
          back (inl e) =
              let is : i ≡ j = same-number i j e in
              (g.kinds n m).1 (inl (one-name s n m j (subst (HasNumber s n) is k) l))
          back (inr e) = (g.kinds n m).1 (inr (above-forth n m i j k l e))

      -- no entity is above itself
      pub below-is : (n m : Name) (i j : ℕ) → HasNumber s n i → HasNumber s m j
          → (en.is_kind_of n m && not (bytes_eq n m)) ≡ has (next rows i) j
      below-is n m i j k l =
          same-test (en.is_kind_of n m && not (bytes_eq n m)) (has (next rows i) j) forth back
        where
          forth : (en.is_kind_of n m && not (bytes_eq n m)) ≡ true → has (next rows i) j ≡ true
          forth e =
              let (kind, other) = both-hold (en.is_kind_of n m) (not (bytes_eq n m)) e in
              by ((g.kinds n m).0 kind) (no-false (bytes_eq n m) other)
            where
              by : IsKindOf s n m → (bytes_eq n m ≡ true → ⊥) → has (next rows i) j ≡ true
              by (inl same) differ = absurd (differ ((bytes_eq-Decides n m).1 same))
              by (inr b) differ = above-back n m i j k l b

          back : has (next rows i) j ≡ true → (en.is_kind_of n m && not (bytes_eq n m)) ≡ true
          back e =
              let b = above-forth n m i j k l e in
              both-true (en.is_kind_of n m) (bytes_eq n m) ((g.kinds n m).1 (inr b))
              (is-false (bytes_eq n m) (λ f. r.no_supertype_cycle n
              (subst (IsBelow s n) (sym ((bytes_eq-Decides n m).0 f)) b)))
