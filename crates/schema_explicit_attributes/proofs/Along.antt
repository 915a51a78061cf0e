-- Along a topological order of the graph of SUBTYPE OF each entity gets the numbers of its places.
use Rattle.std.specs.Prelude.{◌≡◌, ℕ, ◌<◌, Bool, true, false, ◌||◌, List, [], ◌∷◌, ◌++◌, Some, map, flat_map, filter_map, length, slice_get, get_or, eqb}
use Rattle.std.specs.List.{concat, cons_option}
use Rattle.std.proofs.Common.{refl, inl, inr, ap, sym, subst, ◌∙◌, arith, zero, suc}
use Rattle.std.proofs.lemmas.Bool.Decides.{nat_tests}
use Rattle.graphs.specs.Graphs.{Graph, has, next, Step, IsCyclic, LeadsToCycle}
use Rattle.graphs.specs.Orders.{Follows, IsTopologicalOrder, AreJoined}
use Rattle.graphs.specs.Rounds.{added}
use Rattle.express_syntax.specs.Schemas.{Schema, Declaration, type, entity, skipped, Entity}
use Rattle.schema_semantics.specs.Names.{Name, Among, supertypes_of, IsEntityAt, IsBelow}
use Rattle.schema_semantics.specs.Faults.{declared, IsResolved}
use Rattle.schema_semantics.specs.Attributes.{Place, own_places}
use Rattle.schema_semantics.proofs.Lists.{first-step, are-fresh}
use Rattle.schema_semantics.proofs.Supertypes.{entity-name, stands}
use Rattle.schema_semantics.proofs.Recursion.{supertype-is-entity, Solves, make_places, equation, solution}
use Rattle.schema_names.specs.Numbers.{number_of, HasNumber, IsAt, AreAt}
use Rattle.schema_names.specs.Edges.{IsGraphOf, supertypes_in}
use Rattle.schema_names.proofs.Numbers.{stands-at, each-number, one-name}
use Rattle.schema_names.proofs.Edges.{below-forth, number-within}
use Rattle.schema_explicit_attributes.specs.Places.{ArePlaceRows, places_in, all_places, HavePlaces}
use Rattle.schema_names.proofs.Items.{joined-at, row-at}
use Rattle.schema_explicit_attributes.proofs.Repeats.{once-at}
use Rattle.schema_explicit_attributes.proofs.Distinct.{at-among, places-are-one}
use Rattle.schema_explicit_attributes.proofs.OwnNumbers.{own-number-of}

-- what goes up along the edges holds of all that stands in an order
climb : (g : Graph) (Holds : ℕ → Type 0) (seen xs : List ℕ) → ((b : ℕ) → has seen b ≡ true → Holds b)
    → Follows g seen xs → ((a : ℕ) → has xs a ≡ true → ((b : ℕ) → Step g a b → Holds b) → Holds a)
    → (a : ℕ) → has xs a ≡ true → Holds a
climb g Holds seen [] before f up a h = absurd (cc)
climb g Holds seen (x ∷ xs) before f up a h =
    by (eqb a x) refl h (climb g Holds (x ∷ seen) xs also f.1 (λ b m rest. up b (behind b m) rest) a)
  where
    here : Holds x
    here = up x (first (eqb-itself x)) (λ b step. before b (f.0 b step))
      where
        eqb-itself : (n : ℕ) → eqb n n ≡ true
        eqb-itself n = grind (arith, nat_tests)

        first : eqb x x ≡ true → has (x ∷ xs) x ≡ true
        first e = ap (λ c. c || has xs x) e

    also : (b : ℕ) → has (x ∷ seen) b ≡ true → Holds b
    also b k = split (eqb b x) refl k
      where
        split : (c : Bool) → eqb b x ≡ c → (c || has seen b) ≡ true → Holds b
        split true e k =
            let is : b ≡ x = grind (arith, nat_tests) in subst Holds (sym is) here
        split false e k = before b k

    behind : (b : ℕ) → has xs b ≡ true → has (x ∷ xs) b ≡ true
    behind b k = split (eqb b x)
      where
        split : (c : Bool) → (c || has xs b) ≡ true
        split true = refl
        split false = k

    by : (c : Bool) → eqb a x ≡ c → (c || has xs a) ≡ true → (has xs a ≡ true → Holds a) → Holds a
    by true e k more = let is : a ≡ x = grind (arith, nat_tests) in subst Holds (sym is) here
    by false e k more = more k

module _ (s : Schema) (r : IsResolved s) (g : Graph) (h : IsGraphOf s supertypes_in g) where
  pub no-cycle : (i : ℕ) → IsCyclic g i → ⊥
  no-cycle i c = which (first-step (Step g) i i c)
    where
      of : (d : Declaration) (n : Name) → IsAt s i d → Among n (supertypes_in d) → ⊥
      of (type x) n at m = elim m [ ]
      of (entity e) n at m =
          let k = own-number-of s i (entity e) e.name r.once at refl in
          let (x, l, b) = below-forth s g h e.name i i k c in
          r.no_supertype_cycle e.name (subst (IsBelow s e.name) (one-name s x e.name i l k) b)
      of (skipped p) n at m = elim m [ ]

      which : ((j : ℕ) × Step g i j) → ⊥
      which (j, step) = let (d, at, n, m, k) = (h.edges i j).0 step in of d n at m

  no-lead : (i : ℕ) → LeadsToCycle g i → ⊥
  no-lead i (inl c) = no-cycle i c
  no-lead i (inr (j, reached, c)) = no-cycle j c

  all-ordered : (order : List ℕ) → IsTopologicalOrder g order → (i : ℕ) → i < length g → has order i ≡ true
  all-ordered order o i lt = by (has order i) refl
    where
      by : (b : Bool) → has order i ≡ b → b ≡ true
      by true e = refl
      by false e = absurd (no-lead i (o.rest i lt e))

  module _ (all : List Place) (is : all ≡ all_places s) (own rows : Graph) (order : List ℕ)
      (o : IsTopologicalOrder g order) (each : ArePlaceRows all s.declarations own)
      (joined : AreJoined g order own rows) where
    places : Name → List Place
    places = (solution s r make_places).0

    solved : Solves s make_places places
    unfolding places
    solved = (solution s r make_places).1

    -- the row of an entity has the numbers of its places
    abbrev Holds : ℕ → Type 0
    Holds i = (e : Entity) → IsAt s i (entity e) → AreAt all (next rows i) (places e.name)

    -- the rows of supertypes in turn
    abbrev IsDone : Name → Type 0
    IsDone m = (j : ℕ) × HasNumber s m j × AreAt all (next rows j) (places m)

    rows-at : (ms : List Name) → ((m : Name) → Among m ms → IsDone m)
        → AreAt all (concat (map (next rows) (filter_map (number_of s) ms))) (flat_map places ms)
    rows-at [] done = refl
    rows-at (m ∷ ms) done = by (done m (inl refl)) (rows-at ms (λ n k. done n (inr k)))
      where
        by : IsDone m → AreAt all (concat (map (next rows) (filter_map (number_of s) ms))) (flat_map places ms)
            → AreAt all (concat (map (next rows) (filter_map (number_of s) (m ∷ ms)))) (places m ++ flat_map places ms)
        by (j, k, at) rest =
            subst (λ x. AreAt all (concat (map (next rows) (cons_option x (filter_map (number_of s) ms))))
            (places m ++ flat_map places ms)) (sym k)
            (joined-at all (next rows j) (concat (map (next rows) (filter_map (number_of s) ms))) (places m)
            (flat_map places ms) at rest)

    up : (i : ℕ) → has order i ≡ true → ((j : ℕ) → Step g i j → Holds j) → Holds i
    up i ordered below e at =
        subst (λ row. AreAt all row (places e.name)) (sym row-is)
        (subst (AreAt all (added [] (taken ++ next own i)))
        (sym (equation s make_places places e.name e solved stands-so))
        (once-at all (subst AreOneOf (sym is) (places-are-one s r.once)) (taken ++ next own i)
        (flat_map places (supertypes_of e) ++ own_places e)
        (joined-at all taken (next own i) (flat_map places (supertypes_of e)) (own_places e)
        (rows-at (supertypes_of e) done) (row-at places_in all s.declarations own i (entity e) each at))))
      where
        AreOneOf : List Place → Type 0
        AreOneOf xs = (a b : ℕ) (p : Place) → slice_get xs a ≡ Some p → slice_get xs b ≡ Some p → a ≡ b

        taken : List ℕ
        taken = concat (map (next rows) (filter_map (number_of s) (supertypes_of e)))

        stands-so : IsEntityAt s e.name e
        stands-so =
            stands 1 s.declarations (entity e) e.name (are-fresh (declared s) r.once)
            (at-among s.declarations i (entity e) at) refl

        row-is : next rows i ≡ added [] (taken ++ next own i)
        row-is =
            joined i ordered
            ∙ ap (λ row. added [] (concat (map (next rows) row) ++ next own i)) (h.rows i (entity e) at)

        done : (m : Name) → Among m (supertypes_of e) → IsDone m
        done m among =
            let (x, here) = supertype-is-entity s r e.name m (e, stands-so, among) in
            let (j, k) = each-number 0 s.declarations m (entity x) here in
            let step = (h.edges i j).1 (entity e, at, m, among, k) in
            let there = below j step x (sym (stands-at s m j k) ∙ here) in
            (j, k, subst (λ n. AreAt all (next rows j) (places n)) (entity-name s m x here).1 there)

    pub have-places : HavePlaces s rows
    have-places n i (e, here) k =
        let at : IsAt s i (entity e) = sym (stands-at s n i k) ∙ here in
        let bound = number-within s n i k in
        let same = h.same in
        let lt : i < length g = omega (arith, bound, same) in
        let holds = climb g Holds [] order (λ b f. absurd (cc)) o.order.follows up i (all-ordered order o i lt) e at in
        let named = subst (λ m. AreAt all (next rows i) (places m)) (entity-name s n e here).1 holds in
        (places n, ((e, here), places, solved, refl), subst (λ ps. AreAt ps (next rows i) (places n)) is named)
