-- What is declared at a number, and the rows at it.
use Rattle.std.specs.Prelude.{◌≡◌, ℕ, ◌<◌, Bool, true, false, ◌||◌, List, [], ◌∷◌, ◌++◌, map, Some, length, slice_get, eqb, ◌⊎◌, ◌↔◌}
use Rattle.std.specs.List.{list_any}
use Rattle.std.proofs.Common.{refl, inl, inr, ap, sym, subst, ◌∙◌, arith}
use Rattle.std.proofs.lemmas.List.{length-map}
use Rattle.std.proofs.lemmas.Bool.Decides.{nat_tests}
use Rattle.graphs.specs.Graphs.{Graph, graph_of, has, next, Step, Reaches}
use Rattle.express_syntax.specs.Schemas.{Schema, Declaration, type, entity, skipped, TypeDeclaration, Entity, Underlying, enumeration, select, data_type, DataType, integer, number, boolean, logical, real, string, binary, array, list, bag, set, named}
use Rattle.schema_semantics.specs.Names.{Name, declaration_of, IsEntity, StandsFor}
use Rattle.schema_semantics.specs.Shapes.{Atom, value, instance, an_item, IsSelect, IsOverSelect, IsSort, IsOf}
use Rattle.schema_names.specs.Numbers.{HasNumber, IsAt, AreAt, AreNumberRowsOf}
use Rattle.schema_names.specs.Edges.{IsGraphOf, parts_in}
use Rattle.schema_names.proofs.Numbers.{stands-at, what-stands, each-number, one-name}
use Rattle.schema_names.proofs.Edges.{made-of-forth, made-of-back, number-within}
use Rattle.schema_names.proofs.Items.{front-at, row-at}
use Rattle.schema_data_types.specs.NumberedTypes.{whole_underlying, whole_types, all_data_types}
use Rattle.schema_data_types.specs.declared.value_givers.Parts.{Parts}
use Rattle.schema_data_types.specs.steps.Gathering.{Gathers, IsGathered}
use Rattle.schema_data_types.specs.declared.value_givers.Wanted.TheVariants.{Giving, Selects}
use Rattle.schema_data_types.specs.steps.Giving.{is_leaf, gives_by, some_gives, gives_at, own_row}
use Rattle.schema_data_types.specs.steps.Values.{AreParts}
use Rattle.schema_data_types.specs.steps.Leaves.{IsLeaf, LeafGives, Gives, OneGives}
use Rattle.schema_data_types.specs.steps.Selects.{is_of_items, is_select, is_some_select, is_select_at}
use Rattle.schema_data_types.proofs.OwnRows.{one-has, has-one}
use Rattle.schema_data_types.proofs.Leading.{Way, Tells, made-over, names-made, of-forth, of-back, stands-one, no-select, no-enumeration, not-both}

first-at : {A : Type 0} (all : List A) (row : List ℕ) (x : A) → AreAt all row (x ∷ []) → (n : ℕ)
    × (slice_get row 0 ≡ Some n) × (slice_get all n ≡ Some x)
first-at all [] x h = absurd (cc)
first-at all (n ∷ row) x h = (n, refl, front-at all n row x [] h)

further : (c d : Bool) → d ≡ true → (c || d) ≡ true
further true d e = refl
further false d e = e

-- what passes a test in a row of numbers
pub some-one : (f : ℕ → Bool) (row : List ℕ) → list_any f row ≡ true → (j : ℕ) × (has row j ≡ true) × (f j ≡ true)
some-one f [] h = absurd (cc)
some-one f (x ∷ row) h = by (f x) refl h (some-one f row)
  where
    by : (c : Bool) → f x ≡ c → (c || list_any f row) ≡ true
        → (list_any f row ≡ true → (j : ℕ) × (has row j ≡ true) × (f j ≡ true))
        → (j : ℕ) × (has (x ∷ row) j ≡ true) × (f j ≡ true)
    by true e k more =
        let here : eqb x x ≡ true = grind (arith, nat_tests) in (x, rw here refl, e)
    by false e k more = let (j, l, g) = more k in (j, further (eqb j x) (has row j) l, g)

pub one-of : (f : ℕ → Bool) (row : List ℕ) (j : ℕ) → has row j ≡ true → f j ≡ true → list_any f row ≡ true
one-of f [] j h g = absurd (cc)
one-of f (x ∷ row) j h g = by (eqb j x) refl h (one-of f row j)
  where
    left : (c d : Bool) → c ≡ true → (c || d) ≡ true
    left c d e = rw e refl

    by : (c : Bool) → eqb j x ≡ c → (c || has row j) ≡ true → (has row j ≡ true → f j ≡ true
        → list_any f row ≡ true) → (f x || list_any f row) ≡ true
    by true e k more =
        let same : j ≡ x = grind (arith, nat_tests) in
        left (f x) (list_any f row) (subst (λ y. f y ≡ true) same g)
    by false e k more = further (f x) (list_any f row) (more k g)

module _ (s : Schema) where
  pub type-here : (n : Name) (i : ℕ) (t : TypeDeclaration) → HasNumber s n i → IsAt s i (type t)
      → StandsFor s n t.underlying
  type-here n i t k at = (t, stands-at s n i k ∙ at, refl)

  pub entity-here : (n : Name) (i : ℕ) (e : Entity) → HasNumber s n i → IsAt s i (entity e) → IsEntity s n
  entity-here n i e k at = (e, stands-at s n i k ∙ at)

  -- the number of the data type behind the `=` of a defined type
  pub underlying-at : (rows : List (List ℕ)) → AreNumberRowsOf whole_types (all_data_types s) s.declarations rows → (n : Name)
      (i : ℕ) (k : DataType) → HasNumber s n i → StandsFor s n (data_type k) → (m : ℕ)
      × (slice_get (next rows i) 0 ≡ Some m) × (slice_get (all_data_types s) m ≡ Some k)
  underlying-at rows h n i k has (t, at, u) =
      first-at (all_data_types s) (next rows i) k
      (subst (AreAt (all_data_types s) (next rows i)) (ap whole_underlying u)
      (row-at whole_types (all_data_types s) s.declarations rows i (type t) h (sym (stands-at s n i has) ∙ at)))

  not-entity : (n : Name) (u : Underlying) → StandsFor s n u → IsEntity s n → ⊥
  not-entity n u (t, at, e) (x, there) = apart t x (sym at ∙ there)
    where
      apart : (t : TypeDeclaration) (x : Entity) → Some (type t) ≡ Some (entity x) → ⊥
      apart t x e = cc

  -- what each declaration gives by itself
  pub gives-item : (n : Name) (items : List Name) (w : Bool) → StandsFor s n (enumeration items) → (x : Atom)
      → (x ≡ value an_item w) ↔ Gives s n w x
  gives-item n items w stands x = (forth, back x)
    where
      forth : x ≡ value an_item w → Gives s n w x
      forth e = subst (Gives s n w) (sym e) (refl, inl ((items, stands), refl))

      back : (x : Atom) → Gives s n w x → x ≡ value an_item w
      back (value t v) (e, inl (some, is)) = ap (λ y. value y v) is ∙ ap (value an_item) e
      back (value t v) (e, inr (k, other, leaf, h)) = absurd (no-enumeration s n k other (items, stands))
      back (instance m) (e, ent) = absurd (not-entity n (enumeration items) stands ent)

  pub gives-none : (n : Name) (items : List Name) (w : Bool) → StandsFor s n (select items) → (x : Atom)
      → Gives s n w x → ⊥
  gives-none n items w stands (value t v) (e, inl (some, is)) = not-both s n some (items, stands)
  gives-none n items w stands (value t v) (e, inr (k, other, leaf, h)) = no-select s n k other (items, stands)
  gives-none n items w stands (instance m) (e, ent) = not-entity n (select items) stands ent

  pub gives-leaf : (n : Name) (k : DataType) (w : Bool) → StandsFor s n (data_type k) → (x : Atom)
      → LeafGives s k w x ↔ Gives s n w x
  gives-leaf n k w stands x = (forth x, back x)
    where
      forth : (x : Atom) → LeafGives s k w x → Gives s n w x
      forth (value t v) (e, leaf, h) = (e, inr (k, stands, leaf, h))
      forth (instance m) h = elim h [ ]

      is-same : (l : DataType) → data_type l ≡ data_type k → l ≡ k
      is-same l e = cc

      back : (x : Atom) → Gives s n w x → LeafGives s k w x
      back (value t v) (e, inl (some, is)) = absurd (no-enumeration s n k stands some)
      back (value t v) (e, inr (l, other, leaf, h)) =
          let same = is-same l (stands-one s n (data_type l) (data_type k) other stands) in
          (e, subst IsLeaf same leaf, subst (λ y. IsSort s y t) same h)
      back (instance m) (e, ent) = absurd (not-entity n (data_type k) stands ent)

  pub gives-instance : (n : Name) (i : ℕ) (w : Bool) → HasNumber s n i → IsEntity s n → (x : Atom)
      → ((m : Name) × HasNumber s m i × (x ≡ instance m)) ↔ Gives s n w x
  gives-instance n i w k ent x = (forth, back x)
    where
      forth : (m : Name) × HasNumber s m i × (x ≡ instance m) → Gives s n w x
      forth (m, there, e) = subst (Gives s n w) (sym e) (one-name s m n i there k, ent)

      back : (x : Atom) → Gives s n w x → (m : Name) × HasNumber s m i × (x ≡ instance m)
      back (value t v) (e, inl ((items, stands), is)) = absurd (not-entity n (enumeration items) stands ent)
      back (value t v) (e, inr (l, other, leaf, h)) = absurd (not-entity n (data_type l) other ent)
      back (instance m) (e, _) = (n, k, ap instance e)

  -- what gives something has a number
  pub gives-number : (n : Name) (w : Bool) (x : Atom) → Gives s n w x → (i : ℕ) × HasNumber s n i
  gives-number n w (value t v) (e, inl ((items, (r, at, u)), is)) = each-number 0 s.declarations n (type r) at
  gives-number n w (value t v) (e, inr (k, (r, at, u), leaf, h)) = each-number 0 s.declarations n (type r) at
  gives-number n w (instance m) (e, (r, at)) = each-number 0 s.declarations n (entity r) at

  split : (xs : List ℕ) (i j : ℕ) → has (xs ++ i ∷ []) j ≡ true → (has xs j ≡ true) ⊎ (j ≡ i)
  split [] i j h = first (eqb j i) refl h
    where
      first : (c : Bool) → eqb j i ≡ c → (c || false) ≡ true → (has [] j ≡ true) ⊎ (j ≡ i)
      first true e k = inr (grind (arith, nat_tests))
      first false e k = absurd (cc)
  split (x ∷ xs) i j h = by (eqb j x) h (split xs i j)
    where
      by : (c : Bool) → (c || has (xs ++ i ∷ []) j) ≡ true
          → (has (xs ++ i ∷ []) j ≡ true → (has xs j ≡ true) ⊎ (j ≡ i)) → ((c || has xs j) ≡ true) ⊎ (j ≡ i)
      by true k more = inl refl
      by false k more = more k

  at-last : (xs : List ℕ) (i : ℕ) → has (xs ++ i ∷ []) i ≡ true
  at-last [] i = let e : eqb i i ≡ true = grind (arith, nat_tests) in rw e refl
  at-last (x ∷ xs) i = by (eqb i x) (at-last xs i)
    where
      by : (c : Bool) → has (xs ++ i ∷ []) i ≡ true → (c || has (xs ++ i ∷ []) i) ≡ true
      by true h = refl
      by false h = h

  before : (xs : List ℕ) (i j : ℕ) → has xs j ≡ true → has (xs ++ i ∷ []) j ≡ true
  before [] i j h = absurd (cc)
  before (x ∷ xs) i j h = by (eqb j x) h (before xs i j)
    where
      by : (c : Bool) → (c || has xs j) ≡ true → (has xs j ≡ true → has (xs ++ i ∷ []) j ≡ true)
          → (c || has (xs ++ i ∷ []) j) ≡ true
      by true k more = refl
      by false k more = more k

  pub one-more : (row : List ℕ) (i : ℕ) (n : Name) (w : Bool) → HasNumber s n i → (x : Atom)
      → (OneGives s row w x ⊎ Gives s n w x) ↔ OneGives s (row ++ i ∷ []) w x
  one-more row i n w k x = (forth, back)
    where
      forth : OneGives s row w x ⊎ Gives s n w x → OneGives s (row ++ i ∷ []) w x
      forth (inl (j, h, m, there, g)) = (j, before row i j h, m, there, g)
      forth (inr g) = (i, at-last row i, n, k, g)

      back : OneGives s (row ++ i ∷ []) w x → OneGives s row w x ⊎ Gives s n w x
      back (j, h, m, there, g) = which (split row i j h)
        where
          which : (has row j ≡ true) ⊎ (j ≡ i) → OneGives s row w x ⊎ Gives s n w x
          which (inl old) = inl (j, old, m, there, g)
          which (inr e) =
              inr (subst (λ y. Gives s y w x) (one-name s m n i (subst (HasNumber s m) e there) k) g)

  -- what gives something is told so by its number
  leaf-told : (k : DataType) → IsLeaf k → is_leaf k ≡ true
  leaf-told integer h = refl
  leaf-told number h = refl
  leaf-told boolean h = refl
  leaf-told logical h = refl
  leaf-told (real p) h = refl
  leaf-told (string w) h = refl
  leaf-told (binary w) h = refl
  leaf-told (array b o u k) h = refl
  leaf-told (list b u k) h = refl
  leaf-told (bag b k) h = refl
  leaf-told (set b k) h = refl
  leaf-told (named n) h = absurd h

  pub enumeration-told : (n : Name) (i : ℕ) (items : List Name) → HasNumber s n i → StandsFor s n (enumeration items)
      → gives_at s i ≡ true
  enumeration-told n i items k (t, at, u) = ap some_gives (sym (stands-at s n i k) ∙ at) ∙ ap gives_by u

  gives-told : (n : Name) (i : ℕ) (w : Bool) (x : Atom) → HasNumber s n i → Gives s n w x → gives_at s i ≡ true
  gives-told n i w (value t v) k (e, inl ((items, stands), is)) = enumeration-told n i items k stands
  gives-told n i w (value t v) k (e, inr (l, (r, at, u), leaf, h)) =
      ap some_gives (sym (stands-at s n i k) ∙ at) ∙ ap gives_by u ∙ leaf-told l leaf
  gives-told n i w (instance m) k (e, (r, at)) = ap some_gives (sym (stands-at s n i k) ∙ at)

  -- each declaration has a row
  pub parts-within : {X : Type 0} (items : X → List ℕ) (rows : List X) (g : Graph) (own : ℕ → List ℕ)
      → IsGraphOf s parts_in g → IsGathered g own (map items rows) → (n : Name) (i : ℕ) → HasNumber s n i
      → i < length rows
  parts-within items rows g own drawn are n i k =
      let lt = number-within s n i k in
      let long : length (map items rows) ≡ length s.declarations = are.same ∙ drawn.same in
      let same = length-map rows items in
      omega (arith, lt, long, same)

  module _ (t : Parts) (are : AreParts s t) where
    -- what a name leads to has a number
    pub part-named : (n : Name) (i j : ℕ) → HasNumber s n i → Reaches are.graph i j → (m : Name) × HasNumber s m j
        × Way s n m
    part-named n i j k way =
        let (m, there, leads) = made-of-forth s are.graph are.drawn n i j k way in (m, there, inr leads)

    name-of : (a b : Name) → named a ≡ named b → a ≡ b
    name-of a b e = cc

    pub way-back : (n m : Name) (i j : ℕ) → HasNumber s n i → HasNumber s m j → Way s n m
        → (n ≡ m) ⊎ Reaches are.graph i j
    way-back n m i j k l (inl e) = inl (name-of n m e)
    way-back n m i j k l (inr way) = inr (made-of-back s are.graph are.drawn n m i j k l way)

    -- what stands in the row of a name
    pub giving-named : (n : Name) (i j : ℕ) → HasNumber s n i → Step (graph_of t.giving.items) i j → (m : Name)
        × HasNumber s m j × Way s n m
    giving-named n i j k h = by ((are.giving.each i j).0 h)
      where
        by : Gathers are.graph (own_row Giving s) i j → (m : Name) × HasNumber s m j × Way s n m
        by (inl mine) =
            (n, subst (HasNumber s n) (sym (one-has (gives_at s i) i j mine).0) k, inl refl)
        by (inr (b, way, mine)) =
            let (m, there, leads) = part-named n i b k way in
            (m, subst (HasNumber s m) (sym (one-has (gives_at s b) b j mine).0) there, leads)

    pub giving-back : (n m : Name) (i j : ℕ) → HasNumber s n i → HasNumber s m j → Way s n m → gives_at s j ≡ true
        → (l : ℕ) × HasNumber s m l × Step (graph_of t.giving.items) i l
    giving-back n m i j k l way gives = which (way-back n m i j k l way)
      where
        which : (n ≡ m) ⊎ Reaches are.graph i j → (l : ℕ) × HasNumber s m l × Step (graph_of t.giving.items) i l
        which (inl e) =
            let other : Some j ≡ Some i = sym l ∙ subst (λ y. HasNumber s y i) e k in
            let same : j ≡ i = cc in
            let here : gives_at s i ≡ true = ap (gives_at s) (sym same) ∙ gives in (
              i,
              subst (λ y. HasNumber s y i) e k,
              (are.giving.each i i).1 (inl (has-one (gives_at s i) i here)),
            )
        which (inr reach) = (
          j,
          l,
          (are.giving.each i j).1 (inr (j, reach, has-one (gives_at s j) j gives)),
        )

    -- what the values of a name may be
    pub named-is : (n : Name) (i : ℕ) (w : Bool) → HasNumber s n i → Tells s n w → (x : Atom)
        → OneGives s (next (graph_of t.giving.items) i) w x ↔ IsOf s (named n) x
    named-is n i w k told x = (forth, back)
      where
        forth : OneGives s (next (graph_of t.giving.items) i) w x → IsOf s (named n) x
        forth (j, h, m, there, g) =
            let (o, here, way) = giving-named n i j k h in
            of-back s n w told x m (subst (Way s n) (one-name s o m j here there) way) g

        back : IsOf s (named n) x → OneGives s (next (graph_of t.giving.items) i) w x
        back h =
            let (m, way, g) = of-forth s n w told x h in
            let (j, l) = gives-number m w x g in
            let (o, there, step) = giving-back n m i j k l way (gives-told m j w x l g) in (o, step, m, there, g)

    -- whether it is over a SELECT
    select-here : (u : Underlying) (n : Name) → StandsFor s n u → is_of_items u ≡ true → IsSelect s n
    select-here (select items) n stands h = (items, stands)
    select-here (enumeration items) n stands h = absurd (cc)
    select-here (data_type k) n stands h = absurd (cc)

    selected : (n : Name) (d : Declaration) → declaration_of s.declarations n ≡ Some d → is_select d ≡ true → IsSelect
        s n
    selected n (type t) at h = select-here t.underlying n (t, at, refl) h
    selected n (entity e) at h = absurd (cc)
    selected n (skipped p) at h = absurd (cc)

    select-forth : (n : Name) (i : ℕ) → HasNumber s n i → is_select_at s i ≡ true → IsSelect s n
    select-forth n i k h =
        let (d, at, called) = what-stands s n i k in
        selected n d (stands-at s n i k ∙ at) (sym (ap is_some_select at) ∙ h)

    select-back : (n : Name) (i : ℕ) → HasNumber s n i → IsSelect s n → is_select_at s i ≡ true
    select-back n i k (items, (t, at, u)) =
        ap is_some_select (sym (stands-at s n i k) ∙ at) ∙ ap is_of_items u

    pub over-told : (n : Name) (i : ℕ) → HasNumber s n i → Tells s n (has (next (graph_of t.selects.items) i) 0)
    over-told n i k = (forth, back)
      where
        forth : has (next (graph_of t.selects.items) i) 0 ≡ true → IsOverSelect s (named n)
        forth h = by ((are.selects.each i 0).0 h)
          where
            by : Gathers are.graph (own_row Selects s) i 0 → IsOverSelect s (named n)
            by (inl mine) = (n, inl refl, select-forth n i k (one-has (is_select_at s i) 0 0 mine).1)
            by (inr (b, way, mine)) =
                let (m, there, leads) = part-named n i b k way in
                made-over s (named n) m leads (select-forth m b there (one-has (is_select_at s b) 0 0 mine).1)

        numbered : (m : Name) → IsSelect s m → (j : ℕ) × HasNumber s m j
        numbered m (items, (r, at, u)) = each-number 0 s.declarations m (type r) at

        back : IsOverSelect s (named n) → has (next (graph_of t.selects.items) i) 0 ≡ true
        back (m, way, sel) =
            let (j, l) = numbered m sel in which j l (way-back n m i j k l (names-made s (named n) (named m) way))
          where
            which : (j : ℕ) → HasNumber s m j → (n ≡ m) ⊎ Reaches are.graph i j
                → has (next (graph_of t.selects.items) i) 0 ≡ true
            which j l (inl e) =
                (are.selects.each i 0).1
                (inl (has-one (is_select_at s i) 0 (select-back n i k (subst (IsSelect s) (sym e) sel))))
            which j l (inr reach) =
                (are.selects.each i 0).1
                (inr (j, reach, has-one (is_select_at s j) 0 (select-back m j l sel)))
