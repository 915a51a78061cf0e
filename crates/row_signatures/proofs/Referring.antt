-- Edges are the references of rows.
use Rattle.std.proofs.Common.{◌≡◌, ◌<◌, ◌≤◌, ◌+◌, ℕ, zero, suc, ◌⊎◌, Bool, true, false, cond, List, [], ◌∷◌, ◌++◌, length, Some, refl, sym, ap, ◌∙◌, subst, arith, slice_get, inl, inr, drop, get_or}
use Rattle.std.specs.Prelude.{◌==◌, ◌↔◌}
use Rattle.std.specs.List.{All, Contains, IsDistinct, sum_by}
use Rattle.std.proofs.lemmas.List.Sums.{sum_by-cons}
use Rattle.std.proofs.lemmas.List.Elements.{All-append, All-nil, All-push, Contains-push, Contains-push_cases, Contains-append_left, Contains-get_or}
use Rattle.std.proofs.lemmas.Option.{slice_get_within}
use Rattle.partition_edges.specs.declared.edges.Edge.{Edge}
use Rattle.partition_edges.specs.Edges.{AreEdges, HasEdge}
use Rattle.step_values.specs.References.{EachReference, EachReferenceOf}
use Rattle.step_values.specs.Shapes.{outside, outside_each}
use Rattle.step_values.specs.AgreementTests.{value_count}
use Rattle.step_values.specs.steps.Slots.{kind_of, nth}
use Rattle.step_values.specs.Values.{Value, leaf, reference, typed, sequence, bag, Values, none, more, is_crowd}
use Rattle.step_values.proofs.Walks.{after, after_all, after_at}
use Rattle.value_equality.specs.Rows.{Row, IsName, IsPopulation, names, row_at}
use Rattle.value_equality.proofs.Lookup.{items_from, named, row_name}
use Rattle.value_equality.proofs.Placing.{name_at}
use Rattle.row_signatures.specs.steps.ComputedReferences.{AddsEdges, AreOfFirst, leads_on}
use Rattle.row_signatures.specs.steps.References.{Refers}
use Rattle.row_signatures.proofs.Naming.{once, one_place, row_stands}
use Rattle.row_signatures.proofs.Numbering.{last_or_before}

outside_holds : (P : ℕ → Type 0) (b : Bool) (ys : List ℕ) → All P ys → All P (cond b [] ys)
outside_holds P true ys h = All-nil P
outside_holds P false ys h = h

-- what holds of each reference holds of those outside bags
mutual
  outside_hold : (P : ℕ → Type 0) (v : Value) → EachReference P v → All P (outside v)
  outside_hold P (leaf a) h = All-nil P
  outside_hold P (reference x) h = All-push P [] x (All-nil P) h
  outside_hold P (typed n v) h = outside_hold P v h
  outside_hold P (sequence vs) h = each_outside_holds P vs h
  outside_hold P (bag vs) h = outside_holds P (is_crowd vs) (outside_each vs) (each_outside_holds P vs h)

  each_outside_holds : (P : ℕ → Type 0) (vs : Values) → EachReferenceOf P vs → All P (outside_each vs)
  each_outside_holds P none h = All-nil P
  each_outside_holds P (more v vs) h = All-append P (outside v) (outside_each vs) (outside_hold P v h.0)
      (each_outside_holds P vs h.1)

-- values of other kinds have none
pub none_outside : (v : Value) → leads_on (kind_of v) ≡ false → outside v ≡ []
none_outside (leaf a) e = refl
none_outside (reference y) e = absurd (cc)
none_outside (typed n v) e = absurd (cc)
none_outside (sequence vs) e = absurd (cc)
none_outside (bag vs) e = absurd (cc)

-- none stand outside a bag of more than one value, and outside another those of its values
pub outside_crowd : (vs : Values) → is_crowd vs ≡ true → outside (bag vs) ≡ []
outside_crowd vs e = ap (λ b. cond b [] (outside_each vs)) e

pub outside_sole : (vs : Values) → is_crowd vs ≡ false → outside (bag vs) ≡ outside_each vs
outside_sole vs e = ap (λ b. cond b [] (outside_each vs)) e

-- the names that a row refers to are rows' names
pub references_named : (rows : List Row) → IsPopulation rows → (i : ℕ) (r : Row) → slice_get rows i ≡ Some r
    → EachReferenceOf (IsName rows) r.values
references_named rows population i r at = population.closed r.name r (row_stands rows i r population.distinct at)

pub named_within : (P : ℕ → Type 0) (vs : Values) (i : ℕ) (v : Value) → nth vs i ≡ Some v → EachReferenceOf P vs
    → EachReference P v
named_within P none i v at h = absurd (cc)
named_within P (more u vs) zero v at h = subst (EachReference P) (once u v at) h.0
named_within P (more u vs) (suc i) v at h = named_within P vs i v at h.1

-- the names of a row's references outside bags are rows' names
pub names_named : (rows : List Row) → IsPopulation rows → (i : ℕ) (r : Row) → slice_get rows i ≡ Some r
    → All (IsName rows) (outside_each r.values)
names_named rows population i r at =
    each_outside_holds (IsName rows) r.values
    (references_named rows population i r at)

-- a name at two places
same_place : (rows : List Row) (t u y : ℕ) → IsDistinct (◌==◌) (names rows) → slice_get (names rows) t ≡ Some y
    → slice_get (names rows) u ≡ Some y → t ≡ u
same_place rows t u y d at there =
    let p = named rows t y at in
    let q = named rows u y there in
    one_place rows t u p.0 q.0 d p.1 q.1 (p.2 ∙ sym q.2)

-- the place where the row of a name is found
pub place_named : (rows : List Row) (y i : ℕ) → IsName rows y → slice_get rows i ≡ row_at rows y
    → slice_get (names rows) i ≡ Some y
place_named rows y i n e = name_at rows i n.0 (e ∙ n.1) ∙ ap Some (row_name rows y n.0 n.1)

pub longer : {A : Type 0} (xs : List A) (x : A) → length (xs ++ x ∷ []) ≡ length xs + 1
longer [] x = refl
longer (y ∷ xs) x = let k = longer xs x in omega (arith, k)

-- how many references a row has outside bags
abbrev pub reference_count : Row → ℕ
reference_count r = length (outside_each r.values)

-- the number of references of the rows from a place on
pub counted_from : (rows : List Row) (n : ℕ) (r : Row) → slice_get rows n ≡ Some r
    → sum_by reference_count (drop n rows) ≡ reference_count r + sum_by reference_count (drop (n + 1) rows)
counted_from rows n r at =
    ap (sum_by reference_count) (items_from rows n r at) ∙ sum_by-cons reference_count r (drop (n + 1) rows)

-- an edge from this place to the row of a name, which stands at an index behind k others, those from this place from an
-- index on
record IsEdge (rows : List Row) (source first k : ℕ) (ys : List ℕ) (e : Edge) : Type 0 where
  index : ℕ
  source_is : e.source ≡ source
  position_is : first + e.position ≡ k + index
  name : ℕ
  name_is : slice_get ys index ≡ Some name
  target_is : slice_get (names rows) e.target ≡ Some name

module _ (rows : List Row) (source first : ℕ) where
  abbrev Adds : List ℕ → List Edge → List Edge → Type 0
  Adds ys old new = AddsEdges rows source first ys old new

  -- edges for names and then for others
  added_then : (ys zs : List ℕ) (old mid new : List Edge) → Adds ys old mid → Adds zs mid new → Adds (ys ++ zs) old new
  added_then [] zs old mid new h k = subst (λ es. Adds zs es new) h k
  added_then (y ∷ ys) zs old mid new h k = (h.0, h.1, added_then ys zs (old ++ h.0 ∷ []) mid new h.2 k)

  pub added_count : (ys : List ℕ) (old new : List Edge) → Adds ys old new → length new ≡ length old + length ys
  added_count [] old new h = let e = ap length h in omega (arith, e)
  added_count (y ∷ ys) old new h =
      let rest = added_count ys (old ++ h.0 ∷ []) new h.2 in
      let more = longer old h.0 in
      omega (arith, rest, more)

  -- what is still to be added leads to what all of it does
  abbrev pub Left : Values → List Edge → Values → List Edge → Type 0
  Left all start vs es = (new : List Edge) → Adds (outside_each vs) es new → Adds (outside_each all) start new

  pub added_more : (all : Values) (start : List Edge) (i : ℕ) (v : Value) (es next : List Edge) → nth all i ≡ Some v
      → Adds (outside v) es next → Left all start (after i all) es → Left all start (after (i + 1) all) next
  added_more all start i v es next at h left new rest =
      left new (subst (λ vs. Adds (outside_each vs) es new) (sym (after_at all i v at))
      (added_then (outside v) (outside_each (after (i + 1) all)) es next new h rest))

  pub added_all : (all : Values) (start : List Edge) (i : ℕ) (es : List Edge) → value_count all ≤ i
      → Left all start (after i all) es → Adds (outside_each all) start es
  added_all all start i es l left =
      left es (subst (λ vs. Adds (outside_each vs) es es) (sym (after_all all i l)) refl)

  -- what was there stays
  kept : (ys : List ℕ) (old new : List Edge) → Adds ys old new → (e : Edge) → Contains old e → Contains new e
  kept [] old new h e there = subst (λ es. Contains es e) (sym h) there
  kept (y ∷ ys) old new h e there =
      kept ys (old ++ h.0 ∷ []) new h.2 e (Contains-append_left old (h.0 ∷ []) e there)

  -- and what is there was, or is added
  told : (ys : List ℕ) (old new : List Edge) → Adds ys old new → (e : Edge) → Contains new e
      → Contains old e ⊎ IsEdge rows source first (length old) ys e
  told [] old new h e there = inl (subst (λ es. Contains es e) h there)
  told (y ∷ ys) old new h e there = elim (told ys (old ++ h.0 ∷ []) new h.2 e there) [
    | inl before ↦ elim (Contains-push_cases old h.0 e before) [
      | inl was ↦ inl was
      | inr same ↦ inr (subst (IsEdge rows source first (length old) (y ∷ ys)) same own)
    ]
    | inr later ↦ inr (record {
      index = suc later.index;
      source_is = later.source_is;
      position_is = (let at = later.position_is in let more = longer old h.0 in omega (arith, at, more));
      name = later.name;
      name_is = later.name_is;
      target_is = later.target_is;
    })
  ]
    where
      own : IsEdge rows source first (length old) (y ∷ ys) h.0
      own = record {
        index = 0;
        source_is = h.1.source_is;
        position_is = (let at = h.1.position_is in omega (arith, at));
        name = y;
        name_is = refl;
        target_is = h.1.target_is;
      }

  added : IsDistinct (◌==◌) (names rows) → (ys : List ℕ) (old new : List Edge) → Adds ys old new → (e : Edge)
      → (i : ℕ) → first + e.position ≡ length old + i → e.source ≡ source → (y : ℕ) → slice_get ys i ≡ Some y
      → slice_get (names rows) e.target ≡ Some y → Contains new e
  added distinct [] old new h e i place from y at there = absurd (cc)
  added distinct (z ∷ ys) old new h e zero place from y at there =
      kept ys (old ++ h.0 ∷ []) new h.2 e (subst (Contains (old ++ h.0 ∷ [])) same (Contains-push old h.0))
    where
      position : h.0.position ≡ e.position
      position = let mine = h.1.position_is in omega (arith, mine, place)

      target : h.0.target ≡ e.target
      target =
          same_place rows h.0.target e.target z distinct h.1.target_is (there ∙ ap Some (sym (once z y at)))

      same : h.0 ≡ e
      same = λ i. record { position = position i; source = (h.1.source_is ∙ sym from) i; target = target i }
  added distinct (z ∷ ys) old new h e (suc i) place from y at there =
      let more = longer old h.0 in
      added distinct ys (old ++ h.0 ∷ []) new h.2 e i (omega (arith, place, more)) from y at there

module _ (rows : List Row) where
  pub of_none : AreOfFirst rows 0 []
  of_none e = (
    λ h. absurd (let lt = h.1 in omega (arith, lt)),
    λ h. absurd (let lt = h.0 in omega (arith, lt)),
  )

  -- one row more
  pub of_one_more : IsDistinct (◌==◌) (names rows) → (n : ℕ) (r : Row) → slice_get rows n ≡ Some r
      → (old new : List Edge) → AreOfFirst rows n old → AddsEdges rows n (length old) (outside_each r.values) old new
      → AreOfFirst rows (n + 1) new
  of_one_more distinct n r at old new all adds e = (
    λ h. elim (told rows n (length old) ys old new adds e h) [
      | inl before ↦ (let was = (all e).0 before in (let lt = was.0 in omega (arith, lt), was.1))
      | inr one ↦ (
        (let is = one.source_is in omega (arith, is)),
        record {
          row = r;
          row_is = ap (slice_get rows) one.source_is ∙ at;
          name = one.name;
          name_is = ap (slice_get ys) (let place = one.position_is in omega (arith, place)) ∙ one.name_is;
          target_is = one.target_is;
        },
      )
    ],
    λ h. elim (last_or_before e.source n h.0) [
      | inl same ↦
          added rows n (length old) distinct ys old new adds e e.position refl same h.1.name (name_there same h.1)
          h.1.target_is
      | inr lt ↦ kept rows n (length old) ys old new adds e ((all e).1 (lt, h.1))
    ],
  )
    where
      ys : List ℕ
      ys = outside_each r.values

      name_there : e.source ≡ n → (h : Refers rows e.source e.position e.target)
          → slice_get (outside_each r.values) e.position ≡ Some h.name
      name_there same h =
          ap (λ (q : Row). slice_get (outside_each q.values) e.position)
          (once r h.row (sym at ∙ ap (slice_get rows) (sym same) ∙ h.row_is)) ∙ h.name_is

  length_named : (rows : List Row) → length (names rows) ≡ length rows
  length_named [] = refl
  length_named (r ∷ rows) = ap suc (length_named rows)

  -- the edges of all rows
  pub all_refer : (n : ℕ) → length rows ≤ n → (edges : List Edge) → AreOfFirst rows n edges → (x i t : ℕ)
      → HasEdge edges x i t ↔ Refers rows x i t
  all_refer n whole edges all x i t = (
    λ h. ((all (record { position = i; source = x; target = t })).0 h).1,
    λ h. (all (record { position = i; source = x; target = t })).1
        ((let lt = slice_get_within rows x h.row h.row_is in omega (arith, lt, whole)), h),
  )

  pub are_edges : IsDistinct (◌==◌) (names rows) → (edges : List Edge)
      → ((x i t : ℕ) → HasEdge edges x i t ↔ Refers rows x i t) → AreEdges (length rows) edges
  are_edges distinct edges refer = record {
    inside = λ x i t h. (let r = (refer x i t).0 h in
        let lt = slice_get_within (names rows) t r.name r.target_is in
        let all = length_named rows in
        (slice_get_within rows x r.row r.row_is, omega (arith, lt, all)));
    one = λ x i t u h g. (let r = (refer x i t).0 h in
        let s = (refer x i u).0 g in
        let row : r.row ≡ s.row = once r.row s.row (sym r.row_is ∙ s.row_is) in
        let name : r.name ≡ s.name =
        once r.name s.name (sym r.name_is
        ∙ ap (λ (q : Row). slice_get (outside_each q.values) i) row ∙ s.name_is) in
        same_place rows t u s.name distinct (r.target_is ∙ ap Some name) s.target_is);
  }

pub targets_inside : (n : ℕ) (edges : List Edge) → AreEdges n edges → All (λ (e : Edge). e.target < n) edges
targets_inside n edges h k d lt =
    let e = get_or edges k d in
    (h.inside e.source e.position e.target (Contains-get_or edges k d lt)).1
