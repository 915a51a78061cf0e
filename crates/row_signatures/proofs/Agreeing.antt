-- Values agree under a relation exactly where their shapes are one and their references agree place by place.
use Rattle.std.proofs.Common.{◌≡◌, ◌<◌, ℕ, Bool, true, false, List, length, Some, refl, sym, ◌∙◌, ap, subst, arith}
use Rattle.std.specs.Prelude.{◌↔◌, ◌||◌, slice_get, slice_index}
use Rattle.std.specs.List.{All, AllZip}
use Rattle.std.proofs.lemmas.Option.{slice_get_within, get_or_from_slice_get}
use Rattle.partition_edges.specs.declared.edges.Edge.{Edge}
use Rattle.partition_edges.specs.Edges.{AgreeAt, HasEdge, ReferAlike}
use Rattle.step_values.specs.Shapes.{outside_each, HaveOneShape}
use Rattle.step_values.specs.Values.{AgreeEach}
use Rattle.step_values.proofs.ByShapes.{agreement_is_by_shapes, same_counts}
use Rattle.value_equality.specs.ValueEquality.{under, AgreeUnder, AreAlike}
use Rattle.value_equality.specs.Rows.{Row, IsName, IsPopulation, names, row_at}
use Rattle.value_equality.proofs.Lookup.{same_row}
use Rattle.row_signatures.specs.steps.Signatures.{AreReferences, AreShapes, none_pinned}
use Rattle.row_signatures.proofs.Naming.{once, one_place, row_stands, IsPlaced, placed, stands}
use Rattle.row_signatures.proofs.Referring.{names_named}
use Rattle.row_signatures.proofs.Zipping.{zip_there, zip_back, zip_from}

all_at : (P : ℕ → Type 0) (ys : List ℕ) (i y : ℕ) → All P ys → slice_get ys i ≡ Some y → P y
all_at P ys i y h e = subst P (get_or_from_slice_get ys i y 0 e) (h i 0 (slice_get_within ys i y e))

module _ (P : List Row) (pinned : ℕ → Bool) (R : ℕ → ℕ → Bool) (population : IsPopulation P) (edges : List Edge)
    (are : AreReferences P edges) where
  abbrev at : ℕ → ℕ
  at x = slice_index (names P) x

  -- R under pins, between places
  abbrev pub Related : ℕ → ℕ → Type 0
  Related t u = under pinned R (at t) (at u) ≡ true

  -- a reference of a row leads to a place
  referred : (x i y : ℕ) (p : IsPlaced P x) → slice_get (outside_each p.row.values) i ≡ Some y → IsName P y
  referred x i y p e =
      all_at (IsName P) (outside_each p.row.values) i y (names_named P population x p.row p.row_is) e

  edge_to : (x i y t : ℕ) (p : IsPlaced P x) → slice_get (outside_each p.row.values) i ≡ Some y
      → slice_get (names P) t ≡ Some y → HasEdge edges x i t
  edge_to x i y t p e f = (are.refer x i t).1 (record {
    row = p.row;
    row_is = p.row_is;
    name = y;
    name_is = e;
    target_is = f;
  })

  -- an edge is a reference of the row
  record IsRead (x i t : ℕ) (p : IsPlaced P x) : Type 0 where
    name : ℕ
    name_is : slice_get (outside_each p.row.values) i ≡ Some name
    index_is : at t ≡ name

  read : (x i t : ℕ) (p : IsPlaced P x) → HasEdge edges x i t → IsRead x i t p
  read x i t p h =
      let r = (are.refer x i t).0 h in
      let same : r.row ≡ p.row = once r.row p.row (sym r.row_is ∙ p.row_is) in
      record {
        name = r.name;
        name_is = ap (λ (q : Row). slice_get (outside_each q.values) i) (sym same) ∙ r.name_is;
        index_is = get_or_from_slice_get (names P) t r.name 0 r.target_is;
      }

  module _ (x z : ℕ) (p : IsPlaced P x) (q : IsPlaced P z) where
    abbrev ys : List ℕ
    ys = outside_each p.row.values

    abbrev zs : List ℕ
    zs = outside_each q.row.values

    abbrev Under : ℕ → ℕ → Type 0
    Under y w = under pinned R y w ≡ true

    at_places : AllZip Under ys zs → AgreeAt edges Related x z
    at_places h = record {
      there = λ i t e.
          let r = read x i t p e in
          let w = zip_there Under ys zs h i r.name r.name_is in
          let s = stands P w.0 (referred z i w.0 q w.1) in (
            s.place,
            edge_to z i w.0 s.place q w.1 s.name_is,
            related t s.place r.name w.0 r.index_is s.index_is w.2,
          );
      back = λ i u e.
          let r = read z i u q e in
          let y = zip_back Under ys zs h i r.name r.name_is in
          let s = stands P y.0 (referred x i y.0 p y.1) in (
            s.place,
            edge_to x i y.0 s.place p y.1 s.name_is,
            related s.place u y.0 r.name s.index_is r.index_is y.2,
          );
    }
      where
        related : (t u y w : ℕ) → at t ≡ y → at u ≡ w → Under y w → Related t u
        related t u y w e f k =
            subst (λ a. Under a (at u)) (sym e) (subst (λ b. Under y b) (sym f) k)

    by_places : length ys ≡ length zs → AgreeAt edges Related x z → AllZip Under ys zs
    by_places long h = zip_from Under ys zs long (λ i y w e f.
        let s = stands P y (referred x i y p e) in
        let there = h.there i s.place (edge_to x i y s.place p e s.name_is) in
        let r = read z i there.0 q there.1 in
        let same : at there.0 ≡ w = r.index_is ∙ once r.name w (sym r.name_is ∙ f) in
        subst (λ a. Under a w) s.index_is (subst (λ b. Under (at s.place) b) same there.2))

    row_at_place : (v : ℕ) (o : IsPlaced P v) → row_at P (at v) ≡ Some o.row
    row_at_place v o = ap (row_at P) o.named ∙ row_stands P v o.row population.distinct o.row_is

    -- rows agree exactly where their shapes are one and they agree at places
    pub agree_to : AgreeUnder P pinned R (at x) (at z)
        → HaveOneShape p.row.values q.row.values × AgreeAt edges Related x z
    agree_to a =
        let one : a.left ≡ p.row = same_row (row_at P (at x)) a.left_is (row_at_place x p) in
        let two : a.right ≡ q.row = same_row (row_at P (at z)) a.right_is (row_at_place z q) in
        let agree : AgreeEach (under pinned R) p.row.values q.row.values =
        subst (λ (r : Row). AgreeEach (under pinned R) r.values q.row.values) one
        (subst (λ (r : Row). AgreeEach (under pinned R) a.left.values r.values) two a.values_agree) in
        let parts = (agreement_is_by_shapes (under pinned R) p.row.values q.row.values).0 agree in
        (parts.0, at_places parts.1)

    pub agree_from : HaveOneShape p.row.values q.row.values → AgreeAt edges Related x z
        → AgreeUnder P pinned R (at x) (at z)
    agree_from shape h = record {
      left = p.row;
      right = q.row;
      left_is = row_at_place x p;
      right_is = row_at_place z q;
      values_agree = (agreement_is_by_shapes (under pinned R) p.row.values q.row.values).1
          (shape, by_places (same_counts (λ _ _. true) p.row.values q.row.values shape) h);
    }

  -- rows agree according to the numbers of shapes, if rows of one shape have one number
  by_numbers : (known : ℕ → Bool) (shapes : List ℕ) → AreShapes P known shapes → (x z : ℕ) (p : IsPlaced P x)
      (q : IsPlaced P z) → (HaveOneShape p.row.values q.row.values → slice_index shapes x ≡ slice_index shapes z)
      → AgreeUnder P pinned R (at x) (at z)
      ↔ ((slice_index shapes x ≡ slice_index shapes z) × AgreeAt edges Related x z)
  by_numbers known shapes shaped x z p q told = (
    λ a. (let parts = agree_to x z p q a in (told parts.0, parts.1)),
    λ h. agree_from x z p q (shaped.alike x z p.row q.row p.row_is q.row_is h.0) h.1,
  )

  -- as all have where nothing is pinned
  pub agree_by_all : (shapes : List ℕ) → AreShapes P none_pinned shapes → (x z : ℕ) → x < length P → z < length P
      → AgreeUnder P pinned R (at x) (at z)
      ↔ ((slice_index shapes x ≡ slice_index shapes z) × AgreeAt edges Related x z)
  agree_by_all shapes shaped x z l m =
      let p = placed P x l in
      let q = placed P z m in
      by_numbers none_pinned shapes shaped x z p q (shaped.tell x z p.row q.row p.row_is q.row_is refl refl)

  -- rows that are alike agree according to the numbers of their shapes: a pinned row is alike itself alone
  pub agree_by_places : (shapes : List ℕ) → AreShapes P pinned shapes → (x z : ℕ) → x < length P → z < length P
      → AreAlike P pinned (at x) (at z) → AgreeUnder P pinned R (at x) (at z)
      ↔ ((slice_index shapes x ≡ slice_index shapes z) × AgreeAt edges Related x z)
  agree_by_places shapes shaped x z l m alike =
      let p = placed P x l in
      let q = placed P z m in
      by_numbers pinned shapes shaped x z p q (told p q (pinned (at x)) (pinned (at z)) refl refl)
    where
      same : (pinned (at x) || pinned (at z)) ≡ true → slice_index shapes x ≡ slice_index shapes z
      same e =
          let p = placed P x l in
          let q = placed P z m in
          ap (slice_index shapes) (one_place P x z p.row q.row population.distinct p.row_is q.row_is
          (sym p.named ∙ alike.same_if_pinned e ∙ q.named))

      told : (p : IsPlaced P x) (q : IsPlaced P z) (b c : Bool) → pinned (at x) ≡ b → pinned (at z) ≡ c
          → HaveOneShape p.row.values q.row.values → slice_index shapes x ≡ slice_index shapes z
      told p q false false e f h =
          shaped.tell x z p.row q.row p.row_is q.row_is (ap pinned (sym p.named) ∙ e) (ap pinned (sym q.named) ∙ f) h
      told p q true c e f h = same (ap (λ b. b || pinned (at z)) e)
      told p q false true e f h = same (λ i. e i || f i)

-- rows of one shape refer at the same positions
pub refer_alike : (P : List Row) → IsPopulation P → (edges : List Edge) → AreReferences P edges → (known : ℕ → Bool)
    (shapes : List ℕ) → AreShapes P known shapes → ReferAlike edges shapes
refer_alike P population edges are known shapes shaped x z i t l m same e =
    let each = shaped.each in
    let p = placed P x (omega arith) in
    let q = placed P z (omega arith) in
    let any : ℕ → ℕ → Bool = λ _ _. true in
    let shape = shaped.alike x z p.row q.row p.row_is q.row_is same in
    let all = ((agreement_is_by_shapes any p.row.values q.row.values).0 shape).1 in
    let there = (at_places P (λ _. false) any population edges are x z p q all).there i t e in
    (there.0, there.1)
