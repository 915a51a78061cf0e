-- Declarations of attributes, by the places to which references lead from them.
use Rattle.std.specs.Prelude.{◌≡◌, ℕ, suc, ◌+◌, ◌<◌, ◌≤◌, ◌==◌, ◌++◌, Bool, true, false, cond, List, [], ◌∷◌, map, flat_map, filter_map, length, take, get_or, slice_get, Option, Some}
use Rattle.std.specs.List.{cons_option, filter}
use Rattle.std.proofs.Common.{refl, ap, sym, ◌∙◌, arith}
use Rattle.std.proofs.lemmas.Bool.Decides.{nat_tests}
use Rattle.std.proofs.lemmas.List.{append_assoc, length-append, length-take-le, take_more}
use Rattle.std.proofs.lemmas.List.Elements.{filter-append, filter_map-append}
use Rattle.graphs.specs.declared.referrers.Reference.{Reference}
use Rattle.graphs.specs.Referrers.{referrers_of}
use Rattle.schema_redeclarations.specs.Uses.{of_place, uses_at}
use Rattle.schema_redeclarations.specs.declared.uses.AttributeUse.{AttributeUse}
use Rattle.schema_redeclarations.specs.declared.uses.Uses.{Uses}
use Rattle.population_forms.specs.steps.Slots.{uses_by}
use Rattle.population_forms.specs.steps.ComputedReferences.{references_from}

-- one reference more
references-joined : (k : ℕ) (us : List AttributeUse) (u : AttributeUse)
    → references_from k (us ++ u ∷ []) ≡ references_from k us ++ record { target = u.place; referrer = k + length us } ∷ []
references-joined k [] u =
    let same : k ≡ k + 0 = omega arith in
    ap (λ (n : ℕ). record { target = u.place; referrer = n } ∷ []) same
references-joined k (v ∷ us) u =
    let same : k + 1 + length us ≡ k + suc (length us) = omega arith in
    ap (λ rs. record { target = v.place; referrer = k } ∷ rs)
    (references-joined (k + 1) us u
    ∙ ap (λ (n : ℕ). references_from (k + 1) us ++ record { target = u.place; referrer = n } ∷ []) same)

pub references-more : (us : List AttributeUse) (i : ℕ) (u : AttributeUse) (old new : List Reference) → i < length us
    → old ≡ references_from 0 (take i us)
    → new ≡ old ++ record { target = (get_or us i u).place; referrer = i } ∷ [] → new ≡ references_from 0 (take (i + 1) us)
references-more us i u old new lt before is =
    let within : i ≤ length us = omega (arith, lt) in
    let counted : i ≡ 0 + length (take i us) = omega (arith, length-take-le i us within) in
    let x = get_or us i u in
    is ∙ ap (λ rs. rs ++ record { target = x.place; referrer = i } ∷ []) before
    ∙ ap (λ (n : ℕ). references_from 0 (take i us) ++ record { target = x.place; referrer = n } ∷ []) counted
    ∙ sym (references-joined 0 (take i us) x)
    ∙ ap (references_from 0) (sym (take_more us i u lt))

-- one item more of those that are found
pub found-more : {A B : Type 0} (f : A → Option B) (xs : List A) (i : ℕ) (x : A) (old new : List B) → i < length xs
    → old ≡ filter_map f (take i xs) → new ≡ old ++ cons_option (f (get_or xs i x)) []
    → new ≡ filter_map f (take (i + 1) xs)
found-more f xs i x old new lt before is =
    is ∙ ap (λ ys. ys ++ cons_option (f (get_or xs i x)) []) before
    ∙ sym (filter_map-append f (take i xs) (get_or xs i x ∷ [])) ∙ ap (filter_map f) (sym (take_more xs i x lt))

-- what stands behind others
behind : {A : Type 0} (xs ys : List A) (y : A) → slice_get (xs ++ y ∷ ys) (length xs) ≡ Some y
behind [] ys y = refl
behind (x ∷ xs) ys y = behind xs ys y

turned : (q p : ℕ) → (q == p) ≡ (p == q)
turned q p = grind (arith, nat_tests)

-- the declarations to which references lead from a place are those of the place
gathered : (before us : List AttributeUse) (q : ℕ)
    → filter_map (slice_get (before ++ us)) (referrers_of q (references_from (length before) us)) ≡ of_place q us
gathered before [] q = refl
gathered before (u ∷ us) q =
    by (u.place == q) (turned q u.place)
    (ap (λ vs. filter_map (slice_get vs) (referrers_of q (references_from (length before + 1) us)))
    (sym (append_assoc before (u ∷ []) us))
    ∙ ap (λ (n : ℕ). filter_map (slice_get (before ++ u ∷ [] ++ us)) (referrers_of q (references_from n us)))
    (sym (length-append before (u ∷ [])))
    ∙ gathered (before ++ u ∷ []) us q)
  where
    by : (b : Bool) → (q == u.place) ≡ b
        → filter_map (slice_get (before ++ u ∷ us)) (referrers_of q (references_from (length before + 1) us)) ≡ of_place q us
        → filter_map (slice_get (before ++ u ∷ us)) (map (λ (r : Reference). r.referrer)
        (cond (q == u.place) (record { target = u.place; referrer = length before }
        ∷ filter (λ (r : Reference). q == r.target) (references_from (length before + 1) us))
        (filter (λ (r : Reference). q == r.target) (references_from (length before + 1) us))))
        ≡ cond b (u ∷ of_place q us) (of_place q us)
    by b e more =
        ap (λ c. filter_map (slice_get (before ++ u ∷ us)) (map (λ (r : Reference). r.referrer)
        (cond c (record { target = u.place; referrer = length before }
        ∷ filter (λ (r : Reference). q == r.target) (references_from (length before + 1) us))
        (filter (λ (r : Reference). q == r.target) (references_from (length before + 1) us))))) e
        ∙ told b
      where
        told : (b : Bool) → filter_map (slice_get (before ++ u ∷ us)) (map (λ (r : Reference). r.referrer)
            (cond b (record { target = u.place; referrer = length before }
            ∷ filter (λ (r : Reference). q == r.target) (references_from (length before + 1) us))
            (filter (λ (r : Reference). q == r.target) (references_from (length before + 1) us))))
            ≡ cond b (u ∷ of_place q us) (of_place q us)
        told true =
            ap (λ o. cons_option o (filter_map (slice_get (before ++ u ∷ us))
            (referrers_of q (references_from (length before + 1) us)))) (behind before us u)
            ∙ ap (λ vs. u ∷ vs) more
        told false = more

-- those of several types
placed-flat : (uses : Uses) (types : List ℕ) (q : ℕ) → of_place q (flat_map (uses_at uses) types) ≡ uses_by uses types q
placed-flat uses [] q = refl
placed-flat uses (i ∷ types) q =
    filter-append (λ (u : AttributeUse). u.place == q) (uses_at uses i) (flat_map (uses_at uses) types)
    ∙ ap (λ us. of_place q (uses_at uses i) ++ us) (placed-flat uses types q)

pub uses-found : (uses : Uses) (types : List ℕ) (q : ℕ) (all found : List AttributeUse) (numbers : List ℕ)
    → all ≡ flat_map (uses_at uses) types → numbers ≡ referrers_of q (references_from 0 all)
    → found ≡ filter_map (slice_get all) numbers → found ≡ uses_by uses types q
uses-found uses types q all found numbers whole led is =
    is ∙ ap (filter_map (slice_get all)) led ∙ gathered [] all q ∙ ap (of_place q) whole ∙ placed-flat uses types q
