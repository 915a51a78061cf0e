-- Who is a kind of whom by number, and the entities of a set.
use Rattle.std.specs.Prelude.{◌≡◌, ℕ, true, eqb, List, [], ◌∷◌, Some, ◌⊎◌}
use Rattle.std.proofs.Common.{refl, inl, inr, sym, subst, ◌∙◌, arith}
use Rattle.std.proofs.lemmas.Bool.Decides.{nat_tests}
use Rattle.graphs.specs.Graphs.{Graph, has, next, Step}
use Rattle.graphs.specs.Closures.{IsReversal}
use Rattle.graphs.proofs.Searching.{either, left-holds}
use Rattle.express_syntax.specs.Schemas.{Schema, Declaration, type, entity, skipped}
use Rattle.schema_semantics.specs.Names.{Name, OneOf, Among, IsSubtypeOf, IsBelow, IsKindOf}
use Rattle.schema_semantics.specs.Faults.{IsResolved}
use Rattle.schema_semantics.specs.Shapes.{instance}
use Rattle.schema_semantics.proofs.Lists.{first-step}
use Rattle.schema_names.specs.Numbers.{HasNumber, IsAt}
use Rattle.schema_names.specs.Edges.{supertypes_in}
use Rattle.schema_names.proofs.Numbers.{one-name, each-number}
use Rattle.schema_names.proofs.Edges.{below-forth, below-back}
use Rattle.schema_explicit_attributes.proofs.OwnNumbers.{own-number-of}
use Rattle.schema_explicit_attributes.specs.Supertypes.{AreAbove}
use Rattle.schema_explicit_attributes.specs.Supertypes.{is_or_leads}
use Rattle.schema_explicit_attributes.proofs.Having.{right-holds}
use Rattle.schema_data_types.specs.declared.values.Atom.{Atom as Numbered}
use Rattle.schema_data_types.specs.declared.values.Atom.TheVariants as atoms
use Rattle.schema_data_types.specs.steps.Values.{Holds}
use Rattle.schema_attribute_references.specs.steps.Entities.{entity_numbers, with_subtypes}
use Rattle.schema_attribute_references.proofs.Filtering.{some-is, one-found, found-one, one-left, one-right, one-either, any-found, found-any}

module _ (s : Schema) where
  is-name : (m n : Name) → instance n ≡ instance m → m ≡ n
  is-name m n e = cc

  -- the entities that stand in a list of atoms
  pub entities-forth : (xs : List Numbered) (n : Name) → Holds s xs (instance n)
      → OneOf (HasNumber s n) (entity_numbers xs)
  entities-forth [] n h = elim h [ ]
  entities-forth (atoms.Value t w ∷ xs) n (inl e) = absurd (cc)
  entities-forth (atoms.Value t w ∷ xs) n (inr h) = entities-forth xs n h
  entities-forth (atoms.Aggregate i w ∷ xs) n (inl (k, at, e)) = absurd (cc)
  entities-forth (atoms.Aggregate i w ∷ xs) n (inr h) = entities-forth xs n h
  entities-forth (atoms.Instance i ∷ xs) n (inl (m, k, e)) =
      inl (subst (λ o. HasNumber s o i) (is-name m n e) k)
  entities-forth (atoms.Instance i ∷ xs) n (inr h) = inr (entities-forth xs n h)

  pub entities-back : (xs : List Numbered) (n : Name) → OneOf (HasNumber s n) (entity_numbers xs)
      → Holds s xs (instance n)
  entities-back [] n h = elim h [ ]
  entities-back (atoms.Value t w ∷ xs) n h = inr (entities-back xs n h)
  entities-back (atoms.Aggregate i w ∷ xs) n h = inr (entities-back xs n h)
  entities-back (atoms.Instance i ∷ xs) n (inl k) = inl (n, k, refl)
  entities-back (atoms.Instance i ∷ xs) n (inr h) = inr (entities-back xs n h)

  module _ (above : Graph) (h : AreAbove s above) where
    pub kind-forth : (e p : Name) (i j : ℕ) → HasNumber s e i → HasNumber s p j
        → is_or_leads above (Some i) j ≡ true → IsKindOf s e p
    kind-forth e p i j k l t = by (either (eqb i j) (has (next above i) j) t)
      where
        by : (eqb i j ≡ true) ⊎ (has (next above i) j ≡ true) → IsKindOf s e p
        by (inl same) =
            let is : i ≡ j = grind (arith, nat_tests) in
            inl (one-name s e p j (subst (HasNumber s e) is k) l)
        by (inr step) =
            let (m, there, below) = below-forth s h.graph h.drawn e i j k ((h.closed.reached i j).0 step) in
            inr (subst (IsBelow s e) (one-name s m p j there l) below)

    pub kind-back : (e p : Name) (i j : ℕ) → HasNumber s e i → HasNumber s p j → IsKindOf s e p
        → is_or_leads above (Some i) j ≡ true
    kind-back e p i j k l (inl same) =
        let is : i ≡ j = some-is i j (sym (subst (λ n. HasNumber s n i) same k) ∙ l) in
        let passes : eqb i j ≡ true = grind (arith, nat_tests) in
        left-holds (eqb i j) (has (next above i) j) passes
    kind-back e p i j k l (inr below) =
        right-holds (eqb i j) (has (next above i) j)
        ((h.closed.reached i j).1 (below-back s h.graph h.drawn e p i j k l below))

    -- what is a kind of something is a kind of itself
    pub kind-named : IsResolved s → (p : Name) (i j : ℕ) → HasNumber s p j → is_or_leads above (Some i) j ≡ true
        → (e : Name) × HasNumber s e i
    kind-named r p i j l t = by (either (eqb i j) (has (next above i) j) t)
      where
        declares : (m : Name) (d : Declaration) → IsAt s i d → Among m (supertypes_in d)
            → (e : Name) × HasNumber s e i
        declares m (type t) at a = elim a [ ]
        declares m (entity e) at a = (e.name, own-number-of s i (entity e) e.name r.once at refl)
        declares m (skipped x) at a = elim a [ ]

        by : (eqb i j ≡ true) ⊎ (has (next above i) j ≡ true) → (e : Name) × HasNumber s e i
        by (inl same) = let is : j ≡ i = grind (arith, nat_tests) in (p, subst (HasNumber s p) is l)
        by (inr step) =
            let (k, first) = first-step (Step h.graph) i j ((h.closed.reached i j).0 step) in
            let (d, at, m, a, there) = (h.drawn.edges i k).0 first in declares m d at a

    -- some entities and their subtypes
    module _ (below : Graph) (turned : IsReversal above below) where
      pub subtypes-forth : (is : List ℕ) (n : Name) → OneOf (HasNumber s n) (with_subtypes below is) → (e : Name)
          × OneOf (HasNumber s e) is × IsKindOf s n e
      subtypes-forth [] n m = elim m [ ]
      subtypes-forth (i ∷ is) n m =
          by (one-either (HasNumber s n) (i ∷ next below i) (with_subtypes below is) m) (subtypes-forth is n)
        where
          from-row : (j : ℕ) → Among j (next below i) → HasNumber s n j → (e : Name)
              × OneOf (HasNumber s e) (i ∷ is) × IsKindOf s n e
          from-row j a k =
              let itself : eqb j j ≡ true = grind (arith, nat_tests) in
              let step = sym (turned.turned j i) ∙ found-any (eqb j) (next below i) j a itself in
              let (e, there, way) = below-forth s h.graph h.drawn n j i k ((h.closed.reached j i).0 step) in
              (e, inl there, inr way)

          by : OneOf (HasNumber s n) (i ∷ next below i) ⊎ OneOf (HasNumber s n) (with_subtypes below is)
              → (OneOf (HasNumber s n) (with_subtypes below is) → (e : Name) × OneOf (HasNumber s e) is
              × IsKindOf s n e)
              → (e : Name) × OneOf (HasNumber s e) (i ∷ is) × IsKindOf s n e
          by (inl (inl k)) more = (n, inl k, inl refl)
          by (inl (inr a)) more = let (j, among, k) = one-found (HasNumber s n) (next below i) a in from-row j among k
          by (inr a) more = let (e, there, way) = more a in (e, inr there, way)

      pub subtypes-back : (is : List ℕ) (n e : Name) → OneOf (HasNumber s e) is → IsKindOf s n e
          → OneOf (HasNumber s n) (with_subtypes below is)
      subtypes-back [] n e m kind = elim m [ ]
      subtypes-back (i ∷ is) n e (inl k) (inl same) =
          one-left (HasNumber s n) (i ∷ next below i) (with_subtypes below is)
          (inl (subst (λ o. HasNumber s o i) (sym same) k))
      subtypes-back (i ∷ is) n e (inl k) (inr way) =
          let (m, (x, at, a)) = first-step (IsSubtypeOf s) n e way in
          let (j, l) = each-number 0 s.declarations n (entity x) at in
          let step = (h.closed.reached j i).1 (below-back s h.graph h.drawn n e j i l k way) in
          let (o, among, passes) = any-found (eqb j) (next below i) (turned.turned j i ∙ step) in
          let is-it : j ≡ o = grind (arith, nat_tests) in
          one-left (HasNumber s n) (i ∷ next below i) (with_subtypes below is)
          (inr (found-one (HasNumber s n) (next below i) o among (subst (HasNumber s n) is-it l)))
      subtypes-back (i ∷ is) n e (inr m) kind =
          one-right (HasNumber s n) (i ∷ next below i) (with_subtypes below is) (subtypes-back is n e m kind)
