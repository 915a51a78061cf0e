-- Who is a kind of whom, by the rows of all that stands above.
use Rattle.std.specs.Prelude.{◌≡◌, ℕ, true, eqb, ◌⊎◌}
use Rattle.std.proofs.Common.{inl, inr, subst, arith}
use Rattle.std.proofs.lemmas.Bool.Decides.{nat_tests}
use Rattle.graphs.specs.Graphs.{Graph, has, next, Step}
use Rattle.graphs.proofs.Searching.{either, left-holds, right-holds}
use Rattle.express_syntax.specs.Schemas.{Schema}
use Rattle.schema_semantics.specs.Names.{Name, IsBelow, IsKindOf}
use Rattle.schema_semantics.specs.Faults.{IsResolved}
use Rattle.schema_semantics.proofs.Lists.{leads-joined}
use Rattle.schema_names.specs.Numbers.{number_of, HasNumber}
use Rattle.schema_names.proofs.Numbers.{one-name}
use Rattle.schema_names.proofs.Edges.{below-forth, below-back}
use Rattle.schema_explicit_attributes.proofs.Along.{no-cycle}
use Rattle.schema_explicit_attributes.specs.Supertypes.{AreAbove}
use Rattle.schema_attribute_sources.specs.steps.Lowest.{leads}
use Rattle.schema_attribute_sources.proofs.Members.{one-number}

module _ (s : Schema) (above : Graph) (h : AreAbove s above) where
  pub kind-forth : (m n : Name) (i j : ℕ) → HasNumber s m i → HasNumber s n j → leads above i j ≡ true
      → IsKindOf s m n
  kind-forth m n i j k l t = by (either (eqb i j) (has (next above i) j) t)
    where
      by : (eqb i j ≡ true) ⊎ (has (next above i) j ≡ true) → IsKindOf s m n
      by (inl e) =
          let same : i ≡ j = grind (arith, nat_tests) in inl (one-name s m n j (subst (HasNumber s m) same k) l)
      by (inr step) =
          let (x, there, below) = below-forth s h.graph h.drawn m i j k ((h.closed.reached i j).0 step) in
          inr (subst (IsBelow s m) (one-name s x n j there l) below)

  pub kind-back : (m n : Name) (i j : ℕ) → HasNumber s m i → HasNumber s n j → IsKindOf s m n
      → leads above i j ≡ true
  kind-back m n i j k l (inl e) =
      let same : i ≡ j = one-number (number_of s) m n i j k l e in
      let test : eqb i j ≡ true = grind (arith, nat_tests) in left-holds (eqb i j) (has (next above i) j) test
  kind-back m n i j k l (inr below) =
      right-holds (eqb i j) (has (next above i) j)
      ((h.closed.reached i j).1 (below-back s h.graph h.drawn m n i j k l below))

  -- what leads both ways is one
  pub leads-apart : IsResolved s → (i j : ℕ) → leads above i j ≡ true → leads above j i ≡ true → i ≡ j
  leads-apart r i j t u = by (either (eqb i j) (has (next above i) j) t) (either (eqb j i) (has (next above j) i) u)
    where
      by : (eqb i j ≡ true) ⊎ (has (next above i) j ≡ true) → (eqb j i ≡ true) ⊎ (has (next above j) i ≡ true)
          → i ≡ j
      by (inl e) f = grind (arith, nat_tests)
      by (inr e) (inl f) = grind (arith, nat_tests)
      by (inr e) (inr f) =
          absurd (no-cycle s r h.graph h.drawn i
          (leads-joined (Step h.graph) i j i ((h.closed.reached i j).0 e) ((h.closed.reached j i).0 f)))
