-- The ranks of derived attributes, by those of their numbers.
use Rattle.std.specs.Prelude.{◌≡◌, ℕ, suc, ◌<◌, Bool, true, false, List, [], ◌∷◌, Option, None, Some, length, get_or, slice_get, bytes_eq, eqb, ◌⊎◌, Result, Ok, Err, IfOk}
use Rattle.std.proofs.Common.{refl, inl, inr, ap, sym, subst, ◌∙◌, arith, zero}
use Rattle.std.proofs.lemmas.Bool.Decides.{nat_tests}
use Rattle.std.proofs.lemmas.Slice.Eq.{bytes_eq-Decides}
use Rattle.graphs.specs.Graphs.{Graph, IsGraph, has, next, Step, Chain, Leads, Reaches}
use Rattle.graphs.specs.Orders.{IsTopologicalOrder, Solves, IsElsewhere}
use Rattle.graphs.proofs.Searching.{right-holds, reached-within}
use Rattle.express_syntax.specs.Schemas.{Schema}
use Rattle.schema_semantics.specs.Names.{OneOf}
use Rattle.schema_semantics.specs.Faults.{IsResolved}
use Rattle.schema_semantics.specs.Attributes.{Derivation}
use Rattle.schema_semantics.specs.Ranks.{Uses, HasOwnReason, IsSetAside, IsRank, AreAttributeRanks}
use Rattle.schema_attributes.specs.Derivations.{all_derivations, HasDerivation}
use Rattle.schema_derived_attributes.specs.steps.Tables.{rank_from}
use Rattle.schema_derived_attributes.specs.AttributeRanks.{AreUses, AreFaulty, AreRanksOf}
use Rattle.schema_derived_attributes.proofs.Aside.{IsAside, IsBad, aside-none, none-aside, ranks-above, ranks-least}
use Rattle.schema_derived_attributes.proofs.Numbering.{one-number, has-number}

-- two facts of one result
pub both-ok : {T E : Type 0} (r : Result T E) (P Q : T → Type 0) → IfOk r P → IfOk r Q → IfOk r (λ x. P x × Q x)
both-ok (Ok x) P Q h k = (h, k)
both-ok (Err e) P Q h k = tt

-- one of a row
pub one-in : (P : ℕ → Type 0) (row : List ℕ) → OneOf P row → (k : ℕ) × (has row k ≡ true) × P k
one-in P [] h = elim h [ ]
one-in P (x ∷ row) (inl p) = (x, (let m : has (x ∷ row) x ≡ true = grind (arith, nat_tests) in m), p)
one-in P (x ∷ row) (inr h) = let (k, m, p) = one-in P row h in (k, right-holds (eqb k x) (has row k) m, p)

pub one-is : (P : ℕ → Type 0) (row : List ℕ) (k : ℕ) → has row k ≡ true → P k → OneOf P row
one-is P [] k m p = absurd (cc)
one-is P (x ∷ row) k m p = by (eqb k x) refl m (λ n. one-is P row k n p)
  where
    by : (c : Bool) → eqb k x ≡ c → (has (x ∷ row) k) ≡ true → (has row k ≡ true → OneOf P row)
        → P x ⊎ OneOf P row
    by true e n more = let same : k ≡ x = grind (arith, nat_tests) in inl (subst P same p)
    by false e n more = let rest : has row k ≡ true = grind (arith, nat_tests) in inr (more rest)

-- what stands at a place
pub stands-at : {A : Type 0} (xs : List A) (j : ℕ) (d : A) → j < length xs → slice_get xs j ≡ Some (get_or xs j d)
stands-at [] j d lt = absurd (omega (arith, lt))
stands-at (x ∷ xs) zero d lt = refl
stands-at (x ∷ xs) (suc j) d lt = stands-at xs j d (omega (arith, lt))

pub value-at : {A : Type 0} (xs : List A) (j : ℕ) (d x : A) → slice_get xs j ≡ Some x → get_or xs j d ≡ x
value-at [] j d x e = absurd (cc)
value-at (y ∷ xs) zero d x e = let same : y ≡ x = cc in same
value-at (y ∷ xs) (suc j) d x e = value-at xs j d x e

pub below-end : {A : Type 0} (xs : List A) (j : ℕ) (x : A) → slice_get xs j ≡ Some x → j < length xs
below-end [] j x e = absurd (cc)
below-end (y ∷ xs) zero x e = omega arith
below-end (y ∷ xs) (suc j) x e = let lt = below-end xs j x e in omega (arith, lt)

pub something-at : {A : Type 0} (xs : List A) (j : ℕ) → j < length xs → (x : A) × (slice_get xs j ≡ Some x)
something-at [] j lt = absurd (omega (arith, lt))
something-at (x ∷ xs) zero lt = (x, refl)
something-at (x ∷ xs) (suc j) lt = something-at xs j (omega (arith, lt))

-- the number of a derived attribute, if it has one
abbrev Numbered : List Derivation → Derivation → Type 0
Numbered xs d = ((j : ℕ) × (slice_get xs j ≡ Some d)) ⊎ ((j : ℕ) → slice_get xs j ≡ Some d → ⊥)

find-number : (xs : List Derivation) (d : Derivation) → Numbered xs d
find-number [] d = inr (λ j e. absurd (cc))
find-number (x ∷ xs) d = by (bytes_eq x.0 d.0) refl (eqb x.1 d.1) refl (find-number xs d)
  where
    later : (x ≡ d → ⊥) → Numbered xs d → Numbered (x ∷ xs) d
    later differs (inl (j, h)) = inl (suc j, h)
    later differs (inr none) = inr each
      where
        each : (j : ℕ) → slice_get (x ∷ xs) j ≡ Some d → ⊥
        each zero e = differs (let same : x ≡ d = cc in same)
        each (suc j) e = none j e

    by : (b : Bool) → bytes_eq x.0 d.0 ≡ b → (c : Bool) → eqb x.1 d.1 ≡ c → Numbered xs d → Numbered (x ∷ xs) d
    by true e true f more =
        let name : x.0 ≡ d.0 = (bytes_eq-Decides x.0 d.0).0 e in
        let number : x.1 ≡ d.1 = grind (arith, nat_tests) in
        inl (0, ap (λ n. Some (n, x.1)) name ∙ ap (λ i. Some (d.0, i)) number)
    by true e false f more = later
        (λ same. (let is : eqb x.1 d.1 ≡ true = itself (ap (λ (p : Derivation). p.1) same) in absurd (cc))) more
      where
        itself : x.1 ≡ d.1 → eqb x.1 d.1 ≡ true
        itself k = grind (arith, nat_tests)
    by false e c f more = later
        (λ same. (let is = (bytes_eq-Decides x.0 d.0).1 (ap (λ (p : Derivation). p.0) same) in absurd (cc))) more

rank-or : Option ℕ → ℕ
rank-or None = 0
rank-or (Some r) = r

rank-by : (table : List (Option ℕ)) (xs : List Derivation) (d : Derivation) → Numbered xs d → ℕ
rank-by table xs d (inl (j, h)) = rank-or (get_or table j None)
rank-by table xs d (inr none) = 0

module _ (s : Schema) (r : IsResolved s) (rows : Graph) (uses : AreUses s rows) (graph : IsGraph rows)
    (faulty : List Bool) (bad : AreFaulty s faulty) where
  -- steps
  derived-at : (j : ℕ) → j < length rows → (d : Derivation) × HasDerivation s j d
  derived-at j lt = let same = uses.same in something-at (all_derivations s) j (omega (arith, lt, same))

  step-forth : (j : ℕ) (d u : Derivation) → HasDerivation s j d → Uses s d u → (k : ℕ) × Step rows j k
      × HasDerivation s k u
  step-forth j d u h may = one-in (λ k. HasDerivation s k u) (next rows j) ((uses.each j d u h).1 may)

  step-back : (j k : ℕ) (d u : Derivation) → HasDerivation s j d → HasDerivation s k u → Step rows j k → Uses s d u
  step-back j k d u h g e = (uses.each j d u h).0 (one-is (λ i. HasDerivation s i u) (next rows j) k e g)

  chain-forth : (j : ℕ) (d : Derivation) (ms : List Derivation) (u : Derivation) → HasDerivation s j d
      → Chain (Uses s) d ms u → (k : ℕ) × Reaches rows j k × HasDerivation s k u
  chain-forth j d [] u h e = let (k, step, g) = step-forth j d u h e in (k, ([], step), g)
  chain-forth j d (m ∷ ms) u h e =
      let (i, step, g) = step-forth j d m h e.0 in
      let (k, more, last) = chain-forth i m ms u g e.1 in (k, (i ∷ more.0, (step, more.1)), last)

  chain-back : (j : ℕ) (ms : List ℕ) (k : ℕ) (d u : Derivation) → HasDerivation s j d → HasDerivation s k u
      → Chain (Step rows) j ms k → Leads (Uses s) d u
  chain-back j [] k d u h g e = ([], step-back j k d u h g e)
  chain-back j (m ∷ ms) k d u h g e =
      let (v, there) = derived-at m (graph j m e.0) in
      let more = chain-back m ms k v u there g e.1 in
      (v ∷ more.0, (step-back j m d v h there e.0, more.1))

  -- what is set aside
  bad-forth : (k : ℕ) (u : Derivation) → HasDerivation s k u → IsBad rows faulty k → HasOwnReason s u ⊎ Leads (Uses s) u u
  bad-forth k u h (inl is) =
      let lt = below-end (all_derivations s) k u h in
      let same = bad.same in
      inl ((bad.each k u h).0 (stands-at faulty k false (omega (arith, lt, same)) ∙ ap Some is))
  bad-forth k u h (inr (ms, e)) = inr (chain-back k ms k u u h h e)

  bad-back : (k : ℕ) (u : Derivation) → HasDerivation s k u → HasOwnReason s u ⊎ Leads (Uses s) u u → IsBad rows faulty k
  bad-back k u h (inl is) = inl (value-at faulty k false true ((bad.each k u h).1 is))
  bad-back k u h (inr (ms, e)) =
      let (i, leads, g) = chain-forth k u ms u h e in
      inr (subst (λ n. Reaches rows k n) (one-number s r i k u g h) leads)

  aside-forth : (j : ℕ) (d : Derivation) → HasDerivation s j d → IsAside rows faulty j → IsSetAside s d
  aside-forth j d h (k, inl same, is) =
      (d, inl refl, bad-forth j d h (subst (IsBad rows faulty) (sym same) is))
  aside-forth j d h (k, inr leads, is) =
      let (u, g) = derived-at k (reached-within rows graph j k leads) in
      (u, inr (chain-back j leads.0 k d u h g leads.1), bad-forth k u g is)

  aside-back : (j : ℕ) (d : Derivation) → HasDerivation s j d → IsSetAside s d → IsAside rows faulty j
  aside-back j d h (u, inl same, is) =
      (j, inl refl, bad-back j u (subst (HasDerivation s j) same h) is)
  aside-back j d h (u, inr (ms, e), is) =
      let (k, leads, g) = chain-forth j d ms u h e in (k, inr leads, bad-back k u g is)

  module _ (order : List ℕ) (o : IsTopologicalOrder rows order) (table : List (Option ℕ))
      (long : length table ≡ length rows) (solved : Solves rows order (rank_from faulty) (λ a. get_or table a None))
      (bare : IsElsewhere order None (λ a. get_or table a None)) where
    t : ℕ → Option ℕ
    t a = get_or table a None

    within : (j : ℕ) (d : Derivation) → HasDerivation s j d → j < length rows
    within j d h = let lt = below-end (all_derivations s) j d h in let same = uses.same in omega (arith, lt, same)

    none-forth : (j : ℕ) (d : Derivation) → HasDerivation s j d → get_or table j None ≡ None → IsSetAside s d
    none-forth j d h none =
        aside-forth j d h (none-aside rows faulty order o (λ a. get_or table a None) solved bare j (within j d h) none)

    none-back : (j : ℕ) (d : Derivation) → HasDerivation s j d → IsSetAside s d → get_or table j None ≡ None
    none-back j d h is =
        aside-none rows faulty order o (λ a. get_or table a None) solved bare j (aside-back j d h is)

    rank-of : Derivation → ℕ
    rank-of d = rank-by table (all_derivations s) d (find-number (all_derivations s) d)

    rank-is : (j q : ℕ) (d : Derivation) → HasDerivation s j d → get_or table j None ≡ Some q → rank-of d ≡ q
    unfolding rank-of rank-by rank-or
    rank-is j q d h at = by (find-number (all_derivations s) d)
      where
        by : (n : Numbered (all_derivations s) d) → rank-by table (all_derivations s) d n ≡ q
        by (inl (k, g)) =
            ap (λ i. rank-or (get_or table i None)) (one-number s r k j d g h) ∙ ap rank-or at
        by (inr none) = absurd (none j h)

    rank-none : (d : Derivation) → ((j : ℕ) → HasDerivation s j d → ⊥) → rank-of d ≡ 0
    unfolding rank-of rank-by
    rank-none d free = by (find-number (all_derivations s) d)
      where
        by : (n : Numbered (all_derivations s) d) → rank-by table (all_derivations s) d n ≡ 0
        by (inl (k, g)) = absurd (free k g)
        by (inr none) = refl

    are-ranks : AreAttributeRanks s rank-of
    are-ranks d free = by (find-number (all_derivations s) d)
      where
        ranked : (j q : ℕ) → HasDerivation s j d → get_or table j None ≡ Some q → IsRank s rank-of d
        ranked j q h at = record {
          above = λ u may.
              let (k, step, g) = step-forth j d u h may in
              let (p, there, lt) =
              ranks-above rows faulty order o (λ a. get_or table a None) solved bare j q at k step in
              let one = rank-is k p u g there in
              let whole = rank-is j q d h at in
              omega (arith, one, whole, lt);
          least = least (ranks-least rows faulty order o (λ a. get_or table a None) solved bare j q at);
        }
          where
            least : (q ≡ 0)
                ⊎ ((k : ℕ) × Step rows j k × ((p : ℕ) × (get_or table k None ≡ Some p) × (q ≡ suc p)))
                → (rank-of d ≡ 0) ⊎ ((u : Derivation) × Uses s d u × (rank-of d ≡ suc (rank-of u)))
            least (inl none) = inl (rank-is j q d h at ∙ none)
            least (inr (k, step, (p, there, one))) =
                let (u, g) = derived-at k (graph j k step) in
                inr (
                  u,
                  step-back j k d u h g step,
                  rank-is j q d h at ∙ one ∙ ap suc (sym (rank-is k p u g there)),
                )

        from-table : (j : ℕ) → HasDerivation s j d → (v : Option ℕ) → get_or table j None ≡ v → IsRank s rank-of d
        from-table j h None at = absurd (free (none-forth j d h at))
        from-table j h (Some q) at = ranked j q h at

        by : Numbered (all_derivations s) d → IsRank s rank-of d
        by (inl (j, h)) = from-table j h (get_or table j None) refl
        by (inr none) = record {
          above = λ u may. (let (j, h) = has-number s d may.0 may.1 in absurd (none j h));
          least = inl (rank-none d none);
        }

    pub are-ranks-of : AreRanksOf s table
    are-ranks-of = record {
      same = long ∙ uses.same;
      aside = λ j d h. (
        (λ e. none-forth j d h (value-at table j None None e)),
        (λ is.
            let lt = within j d h in
            stands-at table j None (omega (arith, lt, long)) ∙ ap Some (none-back j d h is)),
      );
      ranks = (rank-of, are-ranks, (λ j q d h e. rank-is j q d h (value-at table j None (Some q) e)));
    }
