-- One round after the other.
use Rattle.std.proofs.Common.{◌≡◌, ◌≤◌, ◌<◌, ℕ, ◌+◌, List, [], ◌∷◌, ◌++◌, refl, sym, ◌∙◌, ap, subst, inl, inr, length, arith, length-append}
use Rattle.std.specs.Prelude.{◌↔◌, slice_index}
use Rattle.std.proofs.lemmas.Bool.{cases_lt}
use Rattle.std.proofs.lemmas.List.{get_or_push, get_or_append_left}
use Rattle.partitions.specs.Layouts.{Layout, size, count, class_in, IsLaid, NoneIsChosen}
use Rattle.partitions.specs.Refinements.{Above, here, up, IsFiner}
use Rattle.partition_edges.specs.declared.edges.Edge.{Edge}
use Rattle.partition_edges.specs.Edges.{AreEdges, AgreeAt}
use Rattle.partition_refinement.specs.Rounds.{Shared, Agreed, AreRounds, IsRefined}
use Rattle.partition_edges.specs.steps.Starts.{OneClass}
use Rattle.partition_edges.specs.steps.Steps.{AgreeBelow}
use Rattle.partition_refinement.specs.steps.Turns.{IsRound, IsFirstRound}
use Rattle.partition_edges.proofs.Agreement.{agree_map}

-- there is one class above
pub above_one : (ps : List ℕ) (base c a b : ℕ) → Above ps base c a → Above ps base c b → a ≡ b
above_one ps base c a b (here d l) (here e m) = refl
above_one ps base c a b (here d l) (up e f m n rest) = absurd (omega arith)
above_one ps base c a b (up d e l m rest) (here f n) = absurd (omega arith)
above_one ps base c a b (up d e l m rest) (up f g n o more) = above_one ps base (slice_index ps d) e g rest more

-- sharing a class now
pub shared_now : (p : Layout) (k x z : ℕ) → k ≡ count p → IsLaid p → x < size p → z < size p
    → Shared p k x z ↔ (class_in p x ≡ class_in p z)
shared_now p k x z k_is laid l m =
    let kx = (laid.within x l).known in
    let kz = (laid.within z m).known in
    let at_x : Above p.parent k (class_in p x) (class_in p x) = here (class_in p x) (omega arith) in
    let at_z : Above p.parent k (class_in p z) (class_in p z) = here (class_in p z) (omega arith) in (
      λ h. sym (above_one p.parent k (class_in p x) h.0 (class_in p x) h.1 at_x)
          ∙ above_one p.parent k (class_in p z) h.0 (class_in p z) h.2 at_z,
      λ e. (class_in p x, at_x, subst (λ a. Above p.parent k (class_in p z) a) (sym e) at_z),
    )

-- sharing a class when there were k classes, after more classes were split
pub shared_grows : (p q : Layout) (k x z : ℕ) → IsFiner p q → k ≤ count p → x < size p → z < size p
    → (a : ℕ) × Above p.parent k (class_in p x) a → (b : ℕ) × Above p.parent k (class_in p z) b
    → Shared p k x z ↔ Shared q k x z
shared_grows p q k x z f le l m rx rz =
    let ax = f.above k x rx.0 le l rx.1 in
    let az = f.above k z rz.0 le m rz.1 in (
      λ h. (h.0, f.above k x h.0 le l h.1, f.above k z h.0 le m h.2),
      λ h.
          let e : h.0 ≡ rx.0 = above_one q.parent k (class_in q x) h.0 rx.0 h.1 ax in
          let g : h.0 ≡ rz.0 = above_one q.parent k (class_in q z) h.0 rz.0 h.2 az in (
            h.0,
            subst (λ a. Above p.parent k (class_in p x) a) (sym e) rx.1,
            subst (λ a. Above p.parent k (class_in p z) a) (sym g) rz.1,
          ),
    )

module _ (edges : List Edge) (shapes : List ℕ) (start : Layout) where
  pub rounds_grow : (p q : Layout) (ks : List ℕ) → AreEdges (size p) edges → IsFiner p q → 0 < length ks
      → AreRounds edges shapes start p ks → AreRounds edges shapes start q ks
  rounds_grow p q ks are f some rs =
      let sizes = f.places in let more = f.more in
      let grown : (r x z : ℕ) → r < length ks → x < size p → z < size p → Shared p (slice_index ks r) x z
      ↔ Shared q (slice_index ks r) x z = λ r x z l m n.
      shared_grows p q (slice_index ks r) x z f (rs.below r l) m n (rs.rooted r x l m) (rs.rooted r z l n) in
      record {
        rooted = λ r x l m.
            let a = rs.rooted r x l (omega arith) in
            (a.0, f.above (slice_index ks r) x a.0 (rs.below r l) (omega arith) a.1);
        below = λ r l. let b = rs.below r l in omega arith;
        rising = rs.rising;
        first = λ x z l m.
            let g = grown 0 x z some (omega arith) (omega arith) in
            let h = rs.first x z (omega arith) (omega arith) in
            (λ s. h.0 (g.1 s), λ e. g.0 (h.1 e));
        next = λ r x z l m n.
            let g = grown r x z (omega arith) (omega arith) (omega arith) in
            let g2 = grown (r + 1) x z l (omega arith) (omega arith) in
            let h = rs.next r x z l (omega arith) (omega arith) in (
              λ s. let a = h.0 (g2.1 s) in (
                g.0 a.0,
                (
                  a.1.0,
                  agree_map edges (size p) (Shared p (slice_index ks r)) (Shared q (slice_index ks r)) x z
                      are (λ t u o v w. (grown r t u (omega arith) o v).0 w) a.1.1,
                ),
              ),
              λ s. g2.0 (h.1 (
                g.1 s.0,
                (
                  s.1.0,
                  agree_map edges (size p) (Shared q (slice_index ks r)) (Shared p (slice_index ks r)) x z
                      are (λ t u o v w. (grown r t u (omega arith) o v).1 w) s.1.1,
                ),
              )),
            );
      }

  -- a round that is done, and the next one that isn't counted yet
  pub record IsTurn (b now : Layout) (ks : List ℕ) (high : ℕ) : Type 0 where
    pub before : IsLaid b
    pub places : size b ≡ size start
    pub front : AreRounds edges shapes start b ks
    pub some : 0 < length ks
    pub high_is : high ≡ count b
    pub last : (r : ℕ) → r + 1 ≡ length ks → slice_index ks r ≡ high
    pub laid : IsLaid now
    pub settled : NoneIsChosen now
    pub finer : IsFiner b now
    pub step : (x z : ℕ) → x < size b → z < size b → (class_in now x ≡ class_in now z)
        ↔ ((class_in b x ≡ class_in b z) × (slice_index shapes x ≡ slice_index shapes z)
        × AgreeAt edges (OneClass b) x z)

  pub first_turn : (now : Layout) (k : ℕ) (ks : List ℕ) → IsLaid start → k ≡ count start → ks ≡ k ∷ []
      → IsFirstRound edges shapes start now → IsTurn start now ks k
  first_turn now k ks laid k_is ks_is r =
      let n : length ks ≡ 1 = ap length ks_is in
      let at : slice_index ks 0 ≡ k = ap (λ l. slice_index l 0) ks_is in
      let at_any : (r : ℕ) → r < length ks → slice_index ks r ≡ k = λ r l.
      let z : r ≡ 0 = omega arith in ap (slice_index ks) z ∙ at in
      record {
        before = laid;
        places = refl;
        front = record {
          rooted = λ r x l m.
              let w = (laid.within x m).known in
              let e = at_any r l in
              (class_in start x, here (class_in start x) (omega arith));
          below = λ r l. let e = at_any r l in omega arith;
          rising = λ r l. absurd (omega arith);
          first = λ x z l m. shared_now start (slice_index ks 0) x z (at ∙ k_is) laid l m;
          next = λ r x z l m o. absurd (omega arith);
        };
        some = omega arith;
        high_is = k_is;
        last = λ r e. at_any r (omega arith);
        laid = r.laid;
        settled = r.settled;
        finer = r.finer;
        step = r.parts;
      }

  module _ (b now next : Layout) (ks more : List ℕ) (high count_now : ℕ) (are : AreEdges (size start) edges)
      (turn : IsTurn b now ks high) (grown : high < count_now) (count_is : count_now ≡ count now)
      (more_is : more ≡ ks ++ count_now ∷ []) (round : IsRound edges high now next) where
    sizes : size now ≡ size b
    sizes = turn.finer.places

    edges_b : AreEdges (size b) edges
    edges_b = subst (λ n. AreEdges n edges) (sym turn.places) are

    edges_now : AreEdges (size now) edges
    edges_now = subst (λ n. AreEdges n edges) (sym (sizes ∙ turn.places)) are

    front_now : AreRounds edges shapes start now ks
    front_now = rounds_grow b now ks edges_b turn.finer turn.some turn.front

    lengths : length more ≡ length ks + 1
    lengths = ap length more_is ∙ length-append ks (count_now ∷ [])

    at_old : (r : ℕ) → r < length ks → slice_index more r ≡ slice_index ks r
    at_old r l = ap (λ l. slice_index l r) more_is ∙ get_or_append_left ks (count_now ∷ []) 0 r l

    at_new : (r : ℕ) → r ≡ length ks → slice_index more r ≡ count_now
    at_new r e = ap (λ l. slice_index l r) more_is ∙ get_or_push ks count_now 0 r (sym e)

    -- what shared a class at the round before
    was_shared : (x z : ℕ) → x < size now → z < size now → Shared now high x z ↔ (class_in b x ≡ class_in b z)
    was_shared x z l m =
        let kx = (turn.before.within x (omega (arith, sizes))).known in
        let kz = (turn.before.within z (omega (arith, sizes))).known in
        let e = turn.high_is in
        let g = shared_grows b now high x z turn.finer (omega arith) (omega (arith, sizes)) (omega (arith, sizes))
        (class_in b x, here (class_in b x) (omega arith)) (class_in b z, here (class_in b z) (omega arith)) in
        let h = shared_now b high x z turn.high_is turn.before (omega (arith, sizes)) (omega (arith, sizes)) in
        (λ s. h.0 (g.1 s), λ s. g.0 (h.1 s))

    agreed : (x z : ℕ) → x < size now → z < size now → AgreeAt edges (OneClass b) x z ↔ AgreeAt edges (Shared now high) x z
    agreed x z l m = (
      agree_map edges (size now) (OneClass b) (Shared now high) x z edges_now (λ t u o v. (was_shared t u o v).1),
      agree_map edges (size now) (Shared now high) (OneClass b) x z edges_now (λ t u o v. (was_shared t u o v).0),
    )

    next_at : (r x z : ℕ) → r + 1 ≡ length ks → x < size now → z < size now → Shared now count_now x z
        ↔ (Shared now (slice_index ks r) x z × Agreed edges shapes now (slice_index ks r) x z)
    next_at r x z e l m =
        let s = shared_now now count_now x z count_is turn.laid l m in
        let t = turn.step x z (omega (arith, sizes)) (omega (arith, sizes)) in
        let w = was_shared x z l m in
        let a = agreed x z l m in
        subst (λ k. Shared now count_now x z ↔ (Shared now k x z × Agreed edges shapes now k x z)) (sym (turn.last r e)) (
          λ h. let g = t.0 (s.0 h) in (w.1 g.0, (g.1, a.0 g.2)),
          λ h. s.1 (t.1 (w.0 h.0, h.1.0, a.1 h.1.1)),
        )

    front_more : AreRounds edges shapes start now more
    front_more =
        let n = lengths in
        let some = turn.some in
        record {
          rooted = λ r x l m. elim (cases_lt r (length ks)) [
            | inl old ↦
                let a = front_now.rooted r x old m in
                (a.0, subst (λ k. Above now.parent k (class_in now x) a.0) (sym (at_old r old)) a.1)
            | inr new ↦
                let e = at_new r (omega arith) in
                let w = (turn.laid.within x m).known in
                (class_in now x, here (class_in now x) (omega arith))
          ];
          below = λ r l. elim (cases_lt r (length ks)) [
            | inl old ↦ let a = front_now.below r old in let e = at_old r old in omega arith
            | inr new ↦ let e = at_new r (omega arith) in omega arith
          ];
          rising = λ r l. elim (cases_lt (r + 1) (length ks)) [
            | inl old ↦ let a = front_now.rising r old in
                let e = at_old r (omega arith) in let f = at_old (r + 1) old in omega arith
            | inr new ↦ let e = at_old r (omega arith) in let f = at_new (r + 1) (omega arith) in
                let g = turn.last r (omega arith) in omega arith
          ];
          first = λ x z l m. subst (λ k. Shared now k x z ↔ (class_in start x ≡ class_in start z)) (sym (at_old 0 some))
              (front_now.first x z l m);
          next = λ r x z l m o. elim (cases_lt (r + 1) (length ks)) [
            | inl old ↦
                subst (λ k. Shared now (slice_index more (r + 1)) x z ↔ (Shared now k x z × Agreed edges shapes now k x z))
                (sym (at_old r (omega arith)))
                (subst (λ k. Shared now k x z ↔ (Shared now (slice_index ks r) x z
                × Agreed edges shapes now (slice_index ks r) x z)) (sym (at_old (r + 1) old))
                (front_now.next r x z old m o))
            | inr new ↦
                subst (λ k. Shared now (slice_index more (r + 1)) x z ↔ (Shared now k x z × Agreed edges shapes now k x z))
                (sym (at_old r (omega arith)))
                (subst (λ k. Shared now k x z ↔ (Shared now (slice_index ks r) x z
                × Agreed edges shapes now (slice_index ks r) x z)) (sym (at_new (r + 1) (omega arith)))
                (next_at r x z (omega arith) m o))
          ];
        }

    -- they agree about the classes that are older than the last round
    agree_below : (x z : ℕ) → AgreeAt edges (OneClass b) x z → AgreeBelow edges now high x z
    agree_below x z a i t e l =
        let f = a.there i t e in
        let in_t = (edges_b.inside x i t e).1 in
        let in_u = (edges_b.inside z i f.0 f.1).1 in
        let h = turn.high_is in (
          f.0,
          f.1,
          λ m.
              turn.finer.kept t in_t (omega arith) ∙ f.2 ∙ sym (turn.finer.kept f.0 in_u (omega arith)),
        )

    agree_back : (x z : ℕ) → AgreeAt edges (OneClass b) x z → AgreeAt edges (OneClass b) z x
    agree_back x z a = record {
      there = λ i t e. let f = a.back i t e in (f.0, f.1, sym f.2);
      back = λ i u e. let f = a.there i u e in (f.0, f.1, sym f.2);
    }

    pub next_turn : IsTurn now next more count_now
    next_turn = record {
      before = turn.laid;
      places = sizes ∙ turn.places;
      front = front_more;
      some = let n = lengths in omega arith;
      high_is = count_is;
      last = λ r e. let n = lengths in at_new r (omega arith);
      laid = round.laid;
      settled = round.settled;
      finer = round.finer;
      step = λ x z l m.
          let t = turn.step x z (omega (arith, sizes)) (omega (arith, sizes)) in (
            λ e.
                let same : class_in now x ≡ class_in now z = round.finer.finer x z l m e in
                let g = t.0 same in
                (same, g.1, (round.parts x z l m same (agree_below x z g.2) (agree_below z x (agree_back x z g.2))).0 e),
            λ h.
                let g = t.0 h.0 in
                (round.parts x z l m h.0 (agree_below x z g.2) (agree_below z x (agree_back x z g.2))).1 h.2,
          );
    }

  pub ends : (b now : Layout) (ks : List ℕ) (high : ℕ) → AreEdges (size start) edges → IsTurn b now ks high
      → count now ≤ high → IsRefined edges shapes start now ks
  ends b now ks high are turn le =
      let sizes : size now ≡ size b = turn.finer.places in
      let more = turn.finer.more in
      let h = turn.high_is in
      let counts : count now ≡ count b = omega arith in
      let edges_b : AreEdges (size b) edges = subst (λ n. AreEdges n edges) (sym turn.places) are in
      let edges_now : AreEdges (size now) edges = subst (λ n. AreEdges n edges) (sym (sizes ∙ turn.places)) are in
      let same : (x : ℕ) → x < size now → class_in now x ≡ class_in b x = λ x l.
      let w = (turn.laid.within x l).known in turn.finer.kept x (omega arith) (omega arith) in
      record {
        laid = turn.laid;
        places = sizes ∙ turn.places;
        some = turn.some;
        last = λ r e. let f = turn.last r e in omega arith;
        rounds = rounds_grow b now ks edges_b turn.finer turn.some turn.front;
        stable = λ x z l m e.
            let g = (turn.step x z (omega arith) (omega arith)).0 e in (
              g.1,
              agree_map edges (size now) (OneClass b) (Shared now (count now)) x z edges_now
                  (λ t u o v w. (shared_now now (count now) t u refl turn.laid o v).1 (same t o ∙ w ∙ sym (same u v))) g.2,
            );
      }
