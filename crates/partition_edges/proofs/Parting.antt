-- What a round's pairs part.
use Rattle.std.proofs.Common.{◌≡◌, ◌≢◌, ◌≤◌, ◌<◌, ℕ, List, refl, sym, ◌∙◌, ap, subst, inl, inr, arith}
use Rattle.std.specs.Prelude.{◌↔◌}
use Rattle.std.proofs.lemmas.Bool.{cases_lt}
use Rattle.partitions.specs.declared.pairs.Pair.{Pair}
use Rattle.partitions.specs.Layouts.{Layout, size, count, class_in}
use Rattle.partitions.specs.Refinements.{HasPair, HaveSamePairs}
use Rattle.partition_edges.specs.declared.edges.Edge.{Edge}
use Rattle.partition_edges.specs.Edges.{HasEdge, AreEdges, AgreeAt}
use Rattle.partition_edges.specs.steps.Starts.{OneClass}
use Rattle.partition_edges.specs.steps.Steps.{AgreeBelow, Gathers, IsAlone}
use Rattle.partition_edges.proofs.Gathering.{pair}

-- pairs of the classes from `low` on, by which the places of a group are parted
module _ (edges : List Edge) (p groups : Layout) (low : ℕ) (ps : List Pair)
    (known : (x : ℕ) → x < size p → class_in p x < count p) (are : AreEdges (size p) edges)
    (g : Gathers edges p groups low (count p) ps) where
  pub agree_self : (x : ℕ) → AgreeAt edges (OneClass p) x x
  agree_self x = record { there = λ i t e. (t, e, refl); back = λ i u e. (u, e, refl) }

  agree_back : (x z : ℕ) → AgreeAt edges (OneClass p) x z → AgreeAt edges (OneClass p) z x
  agree_back x z a = record {
    there = λ i t e. let f = a.back i t e in (f.0, f.1, sym f.2);
    back = λ i u e. let f = a.there i u e in (f.0, f.1, sym f.2);
  }

  -- what a pair says of another place
  other : (x z i t : ℕ) → (IsAlone groups x → ⊥) → HaveSamePairs ps x z → HasEdge edges x i t → low ≤ class_in p t
      → (u : ℕ) × HasEdge edges z i u × (class_in p t ≡ class_in p u)
  other x z i t a h e from =
      let inside = are.inside x i t e in
      let mine = g.complete x i t inside.1 from (known t inside.1) e a in
      let s = g.sound (class_in p t) i z ((h (class_in p t) i).0 mine) in
      (s.2, s.5, sym s.4)

  flipped : (x z : ℕ) → HaveSamePairs ps x z → HaveSamePairs ps z x
  flipped x z h c i = ((h c i).1, (h c i).0)

  agree_there : (x z : ℕ) → (IsAlone groups x → ⊥) → (IsAlone groups z → ⊥) → HaveSamePairs ps x z
      → AgreeBelow edges p low x z → (i t : ℕ) → HasEdge edges x i t
      → (u : ℕ) × HasEdge edges z i u × (class_in p t ≡ class_in p u)
  agree_there x z a b h below i t e = elim (cases_lt (class_in p t) low) [
    | inr from ↦ other x z i t a h e from
    | inl old ↦
        let f = below i t e old in
        elim (cases_lt (class_in p f.0) low) [
          | inl l ↦ (f.0, f.1, f.2 l)
          | inr l ↦
              let back = other z x i f.0 b (flipped x z h) f.1 l in
              let same : t ≡ back.0 = are.one x i t back.0 e back.1 in
              let classes : class_in p t ≡ class_in p back.0 = ap (class_in p) same in
              let is = back.2 in
              absurd (omega arith)
        ]
  ]

  agree_pairs : (x z : ℕ) → (IsAlone groups z → ⊥) → AgreeAt edges (OneClass p) x z → (c i : ℕ) → HasPair ps c i x
      → HasPair ps c i z
  agree_pairs x z b a c i h =
      let s = g.sound c i x h in
      let from = s.0 in let to = s.1 in let class_is = s.4 in
      let f = a.there i s.2 s.5 in
      let same : class_in p s.2 ≡ class_in p f.0 = f.2 in
      let inside = are.inside z i f.0 f.1 in
      subst (λ d. HasPair ps d i z) (sym same ∙ class_is)
      (g.complete z i f.0 inside.1 (omega arith) (omega arith) f.1 b)

  -- of two places in one group none is alone
  not_alone : (x z : ℕ) → x ≢ z → z < size groups → class_in groups x ≡ class_in groups z → IsAlone groups x → ⊥
  not_alone x z n m same a = n (sym (a z m (sym same)))

  pub pairs_agree : (x z : ℕ) → x ≢ z → x < size groups → z < size groups → class_in groups x ≡ class_in groups z
      → AgreeBelow edges p low x z → AgreeBelow edges p low z x
      → HaveSamePairs ps x z ↔ AgreeAt edges (OneClass p) x z
  pairs_agree x z n l m same one two =
      let a : IsAlone groups x → ⊥ = not_alone x z n m same in
      let b : IsAlone groups z → ⊥ = not_alone z x (λ e. n (sym e)) l (sym same) in (
        λ h. record {
          there = agree_there x z a b h one;
          back = λ i u e. let f = agree_there z x b a (flipped x z h) two i u e in (f.0, f.1, sym f.2);
        },
        λ h c i. (agree_pairs x z b h c i, agree_pairs z x a (agree_back x z h) c i),
      )
