-- Along a topological order of the graph of SUBTYPE OF each entity gets the numbers of its line.
use Rattle.std.specs.Prelude.{◌≡◌, ℕ, ◌<◌, Bool, true, false, List, [], ◌∷◌, ◌++◌, Option, None, Some, map, flat_map, filter_map, length, slice_get}
use Rattle.std.specs.List.{concat, cons_option}
use Rattle.std.proofs.Common.{refl, inl, inr, ap, sym, ◌∙◌, arith, zero, suc}
use Rattle.graphs.specs.Graphs.{Graph, has, next, LeadsToCycle}
use Rattle.graphs.specs.Orders.{IsTopologicalOrder, Solves}
use Rattle.graphs.specs.Rounds.{added}
use Rattle.graphs.proofs.Gathered.{added-append}
use Rattle.graphs.proofs.Ordering.{tables-are-one}
use Rattle.express_syntax.specs.Schemas.{Schema, Declaration, type, entity, skipped, Entity}
use Rattle.schema_semantics.specs.Names.{Name, Among, supertypes_of, IsEntity, IsEntityAt}
use Rattle.schema_semantics.specs.Faults.{declared, IsResolved}
use Rattle.schema_semantics.specs.Attributes.{AreLines}
use Rattle.schema_semantics.proofs.Lists.{are-fresh}
use Rattle.schema_semantics.proofs.Supertypes.{entity-name, stands}
use Rattle.schema_semantics.proofs.Recursion.{supertype-is-entity, make_line, equation, solution}
use Rattle.schema_names.specs.Numbers.{number_of, HasNumber, IsAt}
use Rattle.schema_names.specs.Edges.{IsGraphOf, supertypes_in}
use Rattle.schema_names.proofs.Numbers.{stands-at, each-number}
use Rattle.schema_names.proofs.Rows.{filter-joined}
use Rattle.schema_names.proofs.Edges.{number-within}
use Rattle.schema_explicit_attributes.proofs.Distinct.{at-among}
use Rattle.schema_explicit_attributes.proofs.OwnNumbers.{own-number-of}
use Rattle.schema_explicit_attributes.proofs.Along.{no-cycle}
use Rattle.schema_explicit_attributes.specs.SupertypeLines.{line_from, HaveLines}
use Rattle.schema_explicit_attributes.proofs.Once.{once-again}

stands-within : {A : Type 0} (xs : List A) (i : ℕ) → i < length xs → slice_get xs i ≡ None → ⊥
stands-within [] i lt e = absurd (omega arith)
stands-within (x ∷ xs) zero lt e = absurd (cc)
stands-within (x ∷ xs) (suc i) lt e = stands-within xs i (omega arith) e

module _ (s : Schema) (r : IsResolved s) (g : Graph) (h : IsGraphOf s supertypes_in g) (order : List ℕ)
    (o : IsTopologicalOrder g order) where
  ordered : (i : ℕ) → i < length g → has order i ≡ true
  ordered i lt = by (has order i) refl
    where
      none : LeadsToCycle g i → ⊥
      none (inl c) = no-cycle s r g h i c
      none (inr (j, reached, c)) = no-cycle s r g h j c

      by : (b : Bool) → has order i ≡ b → b ≡ true
      by true e = refl
      by false e = absurd (none (o.rest i lt e))

  module _ (line : Name → List Name) (k : AreLines s line) where
    -- the row that is meant
    row-of : ℕ → Option Declaration → List ℕ
    row-of i (Some (entity e)) = added [] (filter_map (number_of s) (line e.name))
    row-of i (Some (type t)) = i ∷ []
    row-of i (Some (skipped p)) = i ∷ []
    row-of i None = i ∷ []

    row : ℕ → List ℕ
    row i = row-of i (slice_get s.declarations i)

    row-is : (i : ℕ) (e : Entity) → IsAt s i (entity e) → row i ≡ added [] (filter_map (number_of s) (line e.name))
    unfolding row row-of
    row-is i e at = ap (row-of i) at

    rows-of : (ms : List Name) → ((m : Name) → Among m ms → IsEntity s m) → (xs : List ℕ)
        → added xs (concat (map row (filter_map (number_of s) ms)))
        ≡ added xs (filter_map (number_of s) (flat_map line ms))
    rows-of [] known xs = refl
    rows-of (m ∷ ms) known xs = by (known m (inl refl)) (rows-of ms (λ n a. known n (inr a)))
      where
        by : IsEntity s m → ((ys : List ℕ) → added ys (concat (map row (filter_map (number_of s) ms)))
            ≡ added ys (filter_map (number_of s) (flat_map line ms)))
            → added xs (concat (map row (cons_option (number_of s m) (filter_map (number_of s) ms))))
            ≡ added xs (filter_map (number_of s) (line m ++ flat_map line ms))
        by (e, here) more =
            let (j, l) = each-number 0 s.declarations m (entity e) here in
            let rest = concat (map row (filter_map (number_of s) ms)) in
            let numbers = filter_map (number_of s) (line m) in
            let at : IsAt s j (entity e) = sym (stands-at s m j l) ∙ here in
            let is : row j ≡ added [] numbers =
            row-is j e at
            ∙ ap (λ n. added [] (filter_map (number_of s) (line n))) (entity-name s m e here).1 in
            ap (λ c. added xs (concat (map row (cons_option c (filter_map (number_of s) ms))))) l
            ∙ sym (added-append xs (row j) rest)
            ∙ ap (λ (ys : List ℕ). added ys rest) (ap (added xs) is ∙ once-again xs numbers)
            ∙ more (added xs numbers)
            ∙ added-append xs numbers (filter_map (number_of s) (flat_map line ms))
            ∙ ap (added xs) (sym (filter-joined (number_of s) (line m) (flat_map line ms)))

    made : (i : ℕ) → has order i ≡ true → row i ≡ line_from i (map row (next g i))
    unfolding row row-of
    made i m = by (slice_get s.declarations i) refl
      where
        alone : (d : Declaration) → IsAt s i d → supertypes_in d ≡ []
            → (i ∷ []) ≡ line_from i (map row (next g i))
        alone d at none =
            ap (λ (bs : List ℕ). line_from i (map row bs))
            (sym (h.rows i d at ∙ ap (filter_map (number_of s)) none))

        by : (x : Option Declaration) → slice_get s.declarations i ≡ x → row-of i x
            ≡ line_from i (map row (next g i))
        by (Some (entity e)) at =
            let stands-so : IsEntityAt s e.name e =
            stands 1 s.declarations (entity e) e.name (are-fresh (declared s) r.once)
            (at-among s.declarations i (entity e) at) refl in
            let own = own-number-of s i (entity e) e.name r.once at refl in
            ap (λ ns. added [] (filter_map (number_of s) ns)) (equation s make_line line e.name e k stands-so)
            ∙ ap (λ c. added [] (cons_option c (filter_map (number_of s) (flat_map line (supertypes_of e))))) own
            ∙ sym (rows-of (supertypes_of e) (λ n a. supertype-is-entity s r e.name n (e, stands-so, a)) (i ∷ []))
            ∙ ap (λ (bs : List ℕ). line_from i (map row bs)) (sym (h.rows i (entity e) at))
        by (Some (type t)) at = alone (type t) at refl
        by (Some (skipped p)) at = alone (skipped p) at refl
        by None at =
            let lt = o.order.within i m in
            let same = h.same in
            absurd (stands-within s.declarations i (omega (arith, lt, same)) at)

    each-row : (rows : Graph) → Solves g order line_from (next rows) → (n : Name) (i : ℕ) → IsEntity s n
        → HasNumber s n i → next rows i ≡ added [] (filter_map (number_of s) (line n))
    each-row rows solved n i (e, here) l =
        let at : IsAt s i (entity e) = sym (stands-at s n i l) ∙ here in
        let bound = number-within s n i l in
        let same = h.same in
        let lt : i < length g = omega (arith, bound, same) in
        tables-are-one g order line_from (next rows) row o.order solved made i (ordered i lt)
        ∙ row-is i e at
        ∙ ap (λ m. added [] (filter_map (number_of s) (line m))) (entity-name s n e here).1

  pub have-lines : (rows : Graph) → Solves g order line_from (next rows) → HaveLines s rows
  have-lines rows solved = record {
    some = solution s r make_line;
    each = λ line k. each-row line k rows solved;
  }
