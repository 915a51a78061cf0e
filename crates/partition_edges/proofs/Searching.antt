-- The references to a place stand side by side where all are sorted by their targets.
use Rattle.std.proofs.Common.{◌≡◌, ◌≢◌, ◌≤◌, ◌<◌, ℕ, ◌+◌, ◌-◌, List, [], sym, ◌∙◌, ap, subst, inl, inr, length, get_or, arith}
use Rattle.std.specs.Prelude.{slice_index}
use Rattle.std.specs.List.{between}
use Rattle.std.specs.List.Sorted.{IsPermutation}
use Rattle.std.proofs.lemmas.Bool.{cases_lt}
use Rattle.std.proofs.lemmas.List.Sorted.{Contains-permutation, IsPermutation-sym}
use Rattle.std.proofs.lemmas.List.{get_or_default}
use Rattle.std.proofs.lemmas.List.Edits.{get_or-between, length-between}
use Rattle.partition_edges.specs.declared.edges.Edge.{Edge}
use Rattle.partition_edges.specs.Edges.{AreEdges, AreInto, HasEdge}
use Rattle.partition_edges.specs.steps.Index.{AreByTarget, AreStarts, IsStart}

abbrev pub none : Edge
none = record { position = 0; source = 0; target = 0 }

-- those of t end where the next one is of another target
pub start_next : (edges : List Edge) (t first at : ℕ) → AreByTarget edges → IsStart edges t first → first ≤ at
    → at ≤ length edges → ((j : ℕ) (d : Edge) → j < at → (get_or edges j d).target ≤ t)
    → (at < length edges → (get_or edges at none).target ≢ t) → IsStart edges (t + 1) at
start_next edges t first at sorted start later within before other = record {
  before = λ j d l. let b = before j d l in omega arith;
  from = λ j d l m.
      let low = start.from at none later (omega arith) in
      let apart = other (omega arith) in
      let up = sorted at j none l m in
      let same = get_or_default edges j d none m in
      let same_target : (get_or edges j d).target ≡ (get_or edges j none).target = ap (λ e. e.target) same in
      omega arith;
  within = within;
}

pub record AreFirstStarts (edges : List Edge) (starts : List ℕ) (n at : ℕ) : Type 0 where
  pub count : length starts ≡ n
  pub each : (t : ℕ) → t < n → IsStart edges t (slice_index starts t)
  pub next : IsStart edges n at

-- what is read of all starts
pub start_read : (edges : List Edge) (starts : List ℕ) (t k : ℕ) → AreStarts edges starts → t < length starts
    → k ≡ get_or starts t k → IsStart edges t k
start_read edges starts t k are l is =
    subst (IsStart edges t) (sym (is ∙ get_or_default starts t k 0 l)) (are.each t l)

module _ (edges : List Edge) (t first end : ℕ) (begins : IsStart edges t first) (ends : IsStart edges (t + 1) end) where
  pub in_order : first ≤ end
  in_order = elim (cases_lt end first) [
    | inl l ↦
        let within = begins.within in
        let one = begins.before end none l in
        let two = ends.from end none (omega arith) (omega arith) in
        absurd (omega arith)
    | inr l ↦ l
  ]

  pub are_into : AreInto edges t (between first end edges)
  are_into e = (
    λ h.
        let within = ends.within in
        let n = length-between edges first end within in
        let m = in_order in
        let l = h.1 in
        let at : get_or edges (first + h.0) e ≡ e = sym (get_or-between edges first end h.0 e (omega arith)) ∙ h.2 in
        let low = begins.from (first + h.0) e (omega arith) (omega arith) in
        let high = ends.before (first + h.0) e (omega arith) in
        let is : (get_or edges (first + h.0) e).target ≡ t = omega arith in
        ((first + h.0, omega arith, at), sym (ap (λ d. d.target) at) ∙ is),
    λ h.
        let n = length-between edges first end ends.within in
        let k : ℕ = h.0.0 in
        let l = h.0.1 in
        let at : (get_or edges k e).target ≡ t = ap (λ d. d.target) h.0.2 ∙ h.1 in
        elim (cases_lt k first) [
          | inl b ↦ let low = begins.before k e b in absurd (omega arith)
          | inr b ↦ elim (cases_lt k end) [
            | inl c ↦
                let back : first + (k - first) ≡ k = omega arith in (
                  k - first,
                  omega arith,
                  get_or-between edges first end (k - first) e (omega arith) ∙ ap (λ j. get_or edges j e) back ∙ h.0.2,
                )
            | inr c ↦ let high = ends.from k e c l in absurd (omega arith)
          ]
        ],
  )

-- past all starts nothing is referred to
pub none_into : (edges : List Edge) (starts : List ℕ) (t : ℕ) → AreStarts edges starts → length starts ≤ t + 1
    → AreInto edges t []
none_into edges starts t are past e = (
  λ h. absurd (let l = h.1 in omega arith),
  λ h.
      let inside = are.inside e h.0 in
      let is = h.1 in
      absurd (omega arith),
)

-- edges in another order are edges of the same places
pub edges_permuted : (n : ℕ) (edges others : List Edge) → IsPermutation edges others → AreEdges n edges
    → AreEdges n others
edges_permuted n edges others moved are =
    let back : (x i t : ℕ) → HasEdge others x i t → HasEdge edges x i t = λ x i t h.
    Contains-permutation others edges (record { position = i; source = x; target = t })
    (IsPermutation-sym edges others moved) h in
    record {
      inside = λ x i t h. are.inside x i t (back x i t h);
      one = λ x i t u h k. are.one x i t u (back x i t h) (back x i u k);
    }
