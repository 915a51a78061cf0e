-- Names in the order of rows, and what they say of the rows.
use Rattle.std.proofs.Common.{◌≡◌, ◌<◌, ℕ, suc, zero, Bool, true, false, cond, List, [], ◌∷◌, length, get_or, Option, Some, None, nat_eq, refl, sym, ◌∙◌, ap, subst, eqb-true, eq-eqb, arith}
use Rattle.std.specs.Prelude.{◌==◌, ◌||◌, is_some, slice_get, MatchOption}
use Rattle.std.specs.List.{All, IsDistinct, AllByRecursion, list_any}
use Rattle.std.specs.Option.{option_map}
use Rattle.std.proofs.lemmas.Bool.{and_from, false≢true}
use Rattle.std.proofs.lemmas.List.{length-map}
use Rattle.std.proofs.lemmas.List.Elements.{All-nil, All-cons}
use Rattle.std.proofs.lemmas.Option.{slice_get-map}
use Rattle.population_rows.specs.Index.{place_of}
use Rattle.value_equality.specs.Rows.{Row, names, row_at, IsName, IsPopulation, AreFew}
use Rattle.step_values.proofs.Agreement.{eqb_sym}
use Rattle.value_equality.proofs.Lookup.{name_here, name_later, name_held, rows_all}
use Rattle.step_values.specs.Values.{Value, leaf, reference, typed, sequence, bag, Values, none, more}
use Rattle.step_values.specs.References.{EachReference, EachReferenceOf}
use Rattle.value_equality.specs.steps.ComputedClosure.{references_pass, all_references_pass, rows_pass}

turned : (y z : ℕ) → (y == z) ≡ (z == y)
turned y z = go (y == z) (z == y) refl refl
  where
    go : (a b : Bool) → (y == z) ≡ a → (z == y) ≡ b → a ≡ b
    go true true e f = refl
    go true false e f = sym (eqb_sym y z e) ∙ f
    go false true e f = sym e ∙ eqb_sym z y f
    go false false e f = refl

-- a name stands among the names exactly where a row has it
pub name_stands : (rows : List Row) (y : ℕ) → list_any (nat_eq y) (names rows) ≡ is_some (row_at rows y)
name_stands [] y = refl
name_stands (r ∷ rows) y = ap (λ b. b || list_any (nat_eq y) (names rows)) (turned y r.name)
    ∙ go (r.name == y) (name_stands rows y)
  where
    go : (b : Bool) → list_any (nat_eq y) (names rows) ≡ is_some (row_at rows y)
        → (b || list_any (nat_eq y) (names rows)) ≡ is_some (cond b (Some r) (row_at rows y))
    go true e = refl
    go false e = e

-- a row stands at each place
pub stands_at : (rows : List Row) (i : ℕ) → i < length rows → (r : Row) × (slice_get rows i ≡ Some r)
stands_at [] i l = absurd (omega (arith, l))
stands_at (r ∷ rows) zero l = (r, refl)
stands_at (r ∷ rows) (suc i) l = stands_at rows i (omega (arith, l))

-- the name at a place
pub name_at : (rows : List Row) (i : ℕ) (r : Row) → slice_get rows i ≡ Some r → slice_get (names rows) i ≡ Some r.name
name_at rows i r e = slice_get-map (λ (q : Row). q.name) rows i ∙ ap (option_map (λ (q : Row). q.name)) e

-- a row has each name that stands at a place
pub named_at : (rows : List Row) (i y : ℕ) → slice_get (names rows) i ≡ Some y → IsName rows y
named_at [] i y at = absurd (cc)
named_at (r ∷ rows) zero y at = let same : r.name ≡ y = cc in subst (IsName (r ∷ rows)) same (name_here r rows)
named_at (r ∷ rows) (suc i) y at = name_later r rows y (named_at rows i y at)

-- whether the name of a row is found
pub name_placed : (rows : List Row) (y : ℕ) → is_some (place_of (names rows) y) ≡ is_some (row_at rows y)
name_placed [] y = refl
name_placed (r ∷ rows) y = go (r.name == y) (place_of (names rows) y) (name_placed rows y)
  where
    go : (b : Bool) (o : Option ℕ) → is_some o ≡ is_some (row_at rows y)
        → is_some (cond b (Some 0) (option_map suc o)) ≡ is_some (cond b (Some r) (row_at rows y))
    go true o e = refl
    go false None e = e
    go false (Some i) e = e

-- The row of a name, if the name is found.
row_placed : (rows : List Row) (y : ℕ) → MatchOption (place_of (names rows) y) (row_at rows y ≡ None)
    (λ i. (i < length rows) × (slice_get rows i ≡ row_at rows y))
row_placed [] y = refl
row_placed (r ∷ rows) y = go (r.name == y) (place_of (names rows) y) (row_placed rows y)
  where
    go : (b : Bool) (o : Option ℕ)
        → MatchOption o (row_at rows y ≡ None) (λ i. (i < length rows) × (slice_get rows i ≡ row_at rows y))
        → MatchOption (cond b (Some 0) (option_map suc o)) (cond b (Some r) (row_at rows y) ≡ None)
        (λ i. (i < length (r ∷ rows)) × (slice_get (r ∷ rows) i ≡ cond b (Some r) (row_at rows y)))
    go true o h = (omega arith, refl)
    go false None h = h
    go false (Some i) h = (omega (arith, h.0), h.1)

-- where the row of a name is found
pub found_at : (rows : List Row) (y : ℕ) (o : Option ℕ) → o ≡ place_of (names rows) y
    → MatchOption o (row_at rows y ≡ None) (λ i. (i < length rows) × (slice_get rows i ≡ row_at rows y))
found_at rows y o e =
    subst (λ p. MatchOption p (row_at rows y ≡ None) (λ i. (i < length rows) × (slice_get rows i ≡ row_at rows y)))
    (sym e) (row_placed rows y)

-- the name that stands where it is found
pub place_there : (ns : List ℕ) (y i : ℕ) → place_of ns y ≡ Some i → slice_get ns i ≡ Some y
place_there [] y i e = absurd (cc)
place_there (n ∷ ns) y i e = go (n == y) refl (place_of ns y) (place_there ns y) i e
  where
    go : (b : Bool) → (n == y) ≡ b → (o : Option ℕ) → ((j : ℕ) → o ≡ Some j → slice_get ns j ≡ Some y) → (i : ℕ)
        → cond b (Some 0) (option_map suc o) ≡ Some i → slice_get (n ∷ ns) i ≡ Some y
    go true t o f zero h = ap Some (eqb-true n y t)
    go true t o f (suc i) h = absurd (cc)
    go false t None f i h = absurd (cc)
    go false t (Some j) f zero h = absurd (cc)
    go false t (Some j) f (suc i) h = let same : j ≡ i = cc in f i (ap Some same)

-- Names that are all found where they stand are distinct.

later_place : (b : Bool) (o : Option ℕ) (k : ℕ) → cond b (Some 0) (option_map suc o) ≡ Some (suc k)
    → (b ≡ false) × (o ≡ Some k)
later_place true o k h = absurd (cc)
later_place false None k h = absurd (cc)
later_place false (Some j) k h = let same : j ≡ k = cc in (refl, ap Some same)

all_at : (P : ℕ → Type 0) (ns : List ℕ) → ((k : ℕ) → k < length ns → P (get_or ns k 0)) → AllByRecursion P ns
all_at P [] f = tt
all_at P (n ∷ ns) f = (f 0 (omega arith), all_at P ns (λ k l. f (suc k) (omega (arith, l))))

one_at : (P : ℕ → Type 0) (ns : List ℕ) → AllByRecursion P ns → (k : ℕ) → k < length ns → P (get_or ns k 0)
one_at P [] all k l = absurd (omega (arith, l))
one_at P (n ∷ ns) all zero l = all.0
one_at P (n ∷ ns) all (suc k) l = one_at P ns all.1 k (omega (arith, l))

-- what holds at each place holds of all
pub all_of_each : (P : ℕ → Type 0) (ns : List ℕ) → ((k : ℕ) → k < length ns → P (get_or ns k 0)) → All P ns
all_of_each P [] f = All-nil P
all_of_each P (n ∷ ns) f = All-cons P n ns (f 0 (omega arith)) (all_of_each P ns (λ k l. f (suc k) (omega (arith, l))))

pub each_in_place : (ns : List ℕ) → ((k : ℕ) → k < length ns → place_of ns (get_or ns k 0) ≡ Some k)
    → IsDistinct nat_eq ns
unfolding IsDistinct
each_in_place [] f = tt
each_in_place (n ∷ ns) f = (
  all_at (λ y. nat_eq n y ≡ false) ns (λ k l. (later k l).0),
  each_in_place ns (λ k l. (later k l).1),
)
  where
    later : (k : ℕ) → k < length ns → (nat_eq n (get_or ns k 0) ≡ false) × (place_of ns (get_or ns k 0) ≡ Some k)
    later k l = later_place (nat_eq n (get_or ns k 0)) (place_of ns (get_or ns k 0)) k (f (suc k) (omega (arith, l)))

-- Each of distinct names is found at its own position.
pub in_place : (ns : List ℕ) → IsDistinct nat_eq ns → (k : ℕ) → k < length ns → place_of ns (get_or ns k 0) ≡ Some k
unfolding IsDistinct
in_place [] d k l = absurd (omega (arith, l))
in_place (n ∷ ns) d zero l = ap (λ b. cond b (Some 0) (option_map suc (place_of ns n))) (eq-eqb n n refl)
in_place (n ∷ ns) d (suc k) l =
    let y = get_or ns k 0 in
    ap (λ b. cond b (Some 0) (option_map suc (place_of ns y)))
    (one_at (λ z. nat_eq n z ≡ false) ns d.0 k (omega (arith, l)))
    ∙ ap (option_map suc) (in_place ns d.1 k (omega (arith, l)))

pub few_rows : (rows : List Row) (ns : List ℕ) → names rows ≡ ns → length ns < 4294967296 → AreFew rows
few_rows rows ns same h = omega (arith, h, ap length same, length-map rows (λ r. r.name))

-- A name that isn't found at its own position shows that the names aren't distinct.
pub out_of_place : (ns : List ℕ) (k : ℕ) (o : Option ℕ) → o ≡ place_of ns (get_or ns k 0) → k < length ns
    → (o ≡ Some k → ⊥) → (false ≡ true → IsDistinct nat_eq ns) × (IsDistinct nat_eq ns → false ≡ true)
out_of_place ns k o at l other = (λ h. absurd (false≢true h), λ d. absurd (other (at ∙ in_place ns d k l)))

pub not_found : (o : Option ℕ) (k : ℕ) → o ≡ None → o ≡ Some k → ⊥
not_found o k e f = absurd (cc)

pub found_once : (o : Option ℕ) (j k : ℕ) → o ≡ Some j → o ≡ Some k → j ≡ k
found_once o j k e f = cc

-- The test of a population's references decides that they name rows.

module _ (p : ℕ → Bool) (P : ℕ → Type 0) where
  mutual
    pass_complete : ((y : ℕ) → P y → p y ≡ true) → (v : Value) → EachReference P v → references_pass p v ≡ true
    pass_complete f (leaf a) h = refl
    pass_complete f (reference y) h = f y h
    pass_complete f (typed n v) h = pass_complete f v h
    pass_complete f (sequence vs) h = all_pass_complete f vs h
    pass_complete f (bag vs) h = all_pass_complete f vs h

    all_pass_complete : ((y : ℕ) → P y → p y ≡ true) → (vs : Values) → EachReferenceOf P vs
        → all_references_pass p vs ≡ true
    all_pass_complete f none h = refl
    all_pass_complete f (more v vs) h = and_from (references_pass p v) (all_references_pass p vs)
        (pass_complete f v h.0) (all_pass_complete f vs h.1)

-- The rows of a population pass a test that holds exactly of the names of rows.
pub passes : (test : ℕ → Bool) (rows : List Row) → ((y : ℕ) → test y ≡ is_some (row_at rows y)) → IsPopulation rows
    → rows_pass test rows ≡ true
passes test rows same population =
    rows_all (λ r. all_references_pass test r.values) rows population.distinct
    (λ x r n. all_pass_complete test (IsName rows) (λ y m. same y ∙ name_held rows y m) r.values
    (population.closed x r n))
