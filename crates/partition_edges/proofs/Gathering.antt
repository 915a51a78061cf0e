-- The pairs of references to some classes.
use Rattle.std.proofs.Common.{◌≡◌, ◌≤◌, ◌<◌, ℕ, ◌+◌, List, [], ◌∷◌, ◌++◌, sym, ◌∙◌, ap, subst, inl, inr, length, get_or, arith}
use Rattle.std.specs.Prelude.{◌↔◌, ◌⊎◌, slice_index}
use Rattle.std.specs.List.{Contains, All}
use Rattle.std.proofs.lemmas.Bool.{cases_eq, cases_lt}
use Rattle.std.proofs.lemmas.List.{get_or_default}
use Rattle.std.proofs.lemmas.List.Elements.{Contains-append_left, Contains-append_cases, Contains-push}
use Rattle.partitions.specs.declared.pairs.Pair.{Pair}
use Rattle.partitions.specs.Layouts.{Layout, class_in}
use Rattle.partitions.specs.Refinements.{IsAmongFirst, AreMembers, HasPair}
use Rattle.partition_edges.specs.declared.edges.Edge.{Edge}
use Rattle.partition_edges.specs.Edges.{AreEdges, AreInto}
use Rattle.partition_edges.specs.steps.Steps.{Adds, AreFrom, Gathers, IsAlone, IsInto}

abbrev pub pair : ℕ → ℕ → ℕ → Pair
pair c i x = record { position = i; class = c; place = x }

abbrev pub edge : ℕ → ℕ → ℕ → Edge
edge x i t = record { position = i; source = x; target = t }

-- what stands in a list of one more
pub one_more : {X : Type 0} (xs : List X) (a b : X) → Contains (xs ++ a ∷ []) b → Contains xs b ⊎ (b ≡ a)
one_more xs a b h = elim (Contains-append_cases xs (a ∷ []) b h) [
  | inl old ↦ inl old
  | inr new ↦
      let l = new.1 in
      let z : new.0 ≡ 0 = omega arith in
      inr (sym new.2 ∙ ap (λ k. get_or (a ∷ []) k b) z)
]

module _ (p : Layout) (c : ℕ) where
  -- the place is alone, or its pair is added
  pub adds_alone : (e : Edge) (ps : List Pair) → IsAlone p e.source → Adds p c (λ f. f ≡ e) ps ps
  adds_alone e ps is_alone = record {
    kept = λ d i x h. h;
    sound = λ d i x h. inl h;
    complete = λ x i t s a. absurd (a (subst (IsAlone p) (sym (ap (λ f. f.source) s)) is_alone));
  }

  pub adds_one : (e : Edge) (ps qs : List Pair) → qs ≡ ps ++ pair c e.position e.source ∷ []
      → Adds p c (λ f. f ≡ e) ps qs
  adds_one e ps qs is = record {
    kept = λ d i x h.
        subst (λ l. HasPair l d i x) (sym is)
        (Contains-append_left ps (pair c e.position e.source ∷ []) (pair d i x) h);
    sound = λ d i x h.
        elim (one_more ps (pair c e.position e.source) (pair d i x) (subst (λ l. HasPair l d i x) is h)) [
          | inl old ↦ inl old
          | inr new ↦ inr (
            ap (λ a. a.class) new,
            e.target,
            λ n. edge (new n).place (new n).position e.target,
          )
        ];
    complete = λ x i t s a.
        let same : pair c i x ≡ pair c e.position e.source = λ n. pair c (s n).position (s n).source in
        subst (λ l. HasPair l c i x) (sym is)
        (subst (λ b. Contains (ps ++ pair c e.position e.source ∷ []) b) (sym same)
        (Contains-push ps (pair c e.position e.source)));
  }

  pub adds_both : (S T U : Edge → Type 0) (ps qs rs : List Pair) → Adds p c S ps qs → Adds p c T qs rs
      → ((e : Edge) → U e ↔ (S e ⊎ T e)) → Adds p c U ps rs
  adds_both S T U ps qs rs one two is = record {
    kept = λ d i x h. two.kept d i x (one.kept d i x h);
    sound = λ d i x h. elim (two.sound d i x h) [
      | inl old ↦ elim (one.sound d i x old) [
        | inl older ↦ inl older
        | inr new ↦ inr (new.0, new.1, (is (edge x i new.1)).1 (inl new.2))
      ]
      | inr new ↦ inr (new.0, new.1, (is (edge x i new.1)).1 (inr new.2))
    ];
    complete = λ x i t u a. elim ((is (edge x i t)).0 u) [
      | inl s ↦ two.kept c i x (one.complete x i t s a)
      | inr s ↦ two.complete x i t s a
    ];
  }

-- one of the first k edges
abbrev pub IsFirst : List Edge → ℕ → Edge → Type 0
IsFirst es k e = (j : ℕ) × (j < k) × (get_or es j e ≡ e)

pub first_more : (es : List Edge) (k : ℕ) (f d e : Edge) → k < length es → f ≡ get_or es k d
    → IsFirst es (k + 1) e ↔ (IsFirst es k e ⊎ (e ≡ f))
first_more es k f d e l is = (
  λ h. elim (cases_eq h.0 k) [
    | inl same ↦ inr (sym h.2 ∙ ap (λ j. get_or es j e) same ∙ get_or_default es k e d l ∙ sym is)
    | inr other ↦ let m = h.1 in inl (h.0, omega arith, h.2)
  ],
  λ h. elim h [
    | inl old ↦ let m = old.1 in (old.0, omega arith, old.2)
    | inr new ↦ (k, omega arith, get_or_default es k e d l ∙ sym is ∙ sym new)
  ],
)

-- an edge to one of the first k places
abbrev pub IsIntoFirst : List Edge → List ℕ → ℕ → Edge → Type 0
IsIntoFirst edges members k e = Contains edges e × IsAmongFirst members k e.target

pub into_more : (edges into : List Edge) (members : List ℕ) (k t : ℕ) → k < length members → t ≡ slice_index members k
    → AreInto edges t into → (e : Edge) → IsIntoFirst edges members (k + 1) e
    ↔ (IsIntoFirst edges members k e ⊎ Contains into e)
into_more edges into members k t l is are e = (
  λ h. elim (cases_eq h.1.0 k) [
    | inl same ↦ inr ((are e).1 (h.0, sym h.1.2 ∙ ap (slice_index members) same ∙ sym is))
    | inr other ↦ let m = h.1.1 in inl (h.0, (h.1.0, omega arith, h.1.2))
  ],
  λ h. elim h [
    | inl old ↦ let m = old.1.1 in (old.0, (old.1.0, omega arith, old.1.2))
    | inr new ↦ let s = (are e).0 new in (s.0, (k, omega arith, sym is ∙ sym s.1))
  ],
)

pub into_from : (edges into : List Edge) (t n : ℕ) → AreInto edges t into → AreFrom n edges → AreFrom n into
into_from edges into t n are from k d l =
    let e : Edge = get_or into k d in
    let s = ((are e).0 (k, l, get_or_default into k e d l)).0 in
    let m = from s.0 e s.1 in
    subst (λ f. f.source < n) s.2 m

pub edges_from : (n : ℕ) (edges : List Edge) → AreEdges n edges → AreFrom n edges
edges_from n edges are k d l =
    let e : Edge = get_or edges k d in
    (are.inside e.source e.position e.target (k, l, get_or_default edges k e d l)).0

pub gathers_more : (edges : List Edge) (p groups : Layout) (low c : ℕ) (ps qs : List Pair) (members : List ℕ) → low ≤ c
    → Gathers edges p groups low c ps → AreMembers p c members → Adds groups c (IsInto edges members) ps qs
    → Gathers edges p groups low (c + 1) qs
gathers_more edges p groups low c ps qs members order g m adds = record {
  sound = λ d i x h. elim (adds.sound d i x h) [
    | inl old ↦ let s = g.sound d i x old in let b = s.1 in (s.0, omega arith, s.2, s.3, s.4, s.5)
    | inr new ↦
        let member = m.sound new.1 new.2.1 in
        let is = new.0 in
        (omega arith, omega arith, new.1, member.0, member.1 ∙ sym is, new.2.0)
  ];
  complete = λ x i t l low_is high e a. elim (cases_lt (class_in p t) c) [
    | inl b ↦ adds.kept (class_in p t) i x (g.complete x i t l low_is b e a)
    | inr b ↦
        let class_is : class_in p t ≡ c = omega arith in
        subst (λ d. HasPair qs d i x) (sym class_is) (adds.complete x i t (e, m.complete t l class_is) a)
  ];
}

pub gathered_places : (edges : List Edge) (p groups : Layout) (low high n : ℕ) (ps : List Pair)
    → Gathers edges p groups low high ps → AreEdges n edges → All (λ a. a.place < n) ps
gathered_places edges p groups low high n ps g are k d l =
    let a : Pair = get_or ps k d in
    let s = g.sound a.class a.position a.place (k, l, get_or_default ps k a d l) in
    (are.inside a.place a.position s.2 s.5).0
