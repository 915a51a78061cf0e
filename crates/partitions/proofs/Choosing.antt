-- One more place is chosen.
use Rattle.std.proofs.Common.{◌≡◌, ◌≢◌, ◌≤◌, ◌<◌, ℕ, ◌-◌, cond, List, sym, ◌∙◌, ap, subst, inl, inr, length, arith, eq-eqb, get_or-set_same, get_or-set_other, length-set}
use Rattle.std.specs.Prelude.{◌==◌, ◌↔◌, ◌⊎◌, slice_index, slice_set}
use Rattle.std.proofs.lemmas.Bool.{cases_eq}
use Rattle.partitions.specs.Inverse.{AreInverse}
use Rattle.partitions.specs.steps.Steps.{exchanged, IsExchanged}
use Rattle.partitions.specs.Layouts.{Layout, size, count, class_in, index_in, first_of, middle_of, end_of, IsRange, IsWithin, IsLaid, IsChosen}
use Rattle.partitions.specs.steps.Steps.{SameClasses, Chooses}

-- the class whose range an index is in is that of the place there
pub in_range : (p : Layout) → IsLaid p → (c y : ℕ) → c < count p → y < size p → first_of p c ≤ index_in p y
    → index_in p y < end_of p c → class_in p y ≡ c
in_range p laid c y known l low high =
    let places = laid.places in
    let at : slice_index p.order (index_in p y) ≡ y = laid.inverse.at_index y (omega arith) in
    ap (class_in p) (sym at) ∙ laid.alone c (index_in p y) known low high

-- one place stands at an index
pub one_there : (p : Layout) → IsLaid p → (x y : ℕ) → x < size p → y < size p → index_in p x ≡ index_in p y → x ≡ y
one_there p laid x y l m e =
    let places = laid.places in
    let one : slice_index p.order (index_in p x) ≡ x = laid.inverse.at_index x (omega arith) in
    let two : slice_index p.order (index_in p y) ≡ y = laid.inverse.at_index y (omega arith) in
    sym one ∙ ap (slice_index p.order) e ∙ two

pub exchanged_left : (i j q : ℕ) → q ≡ i → exchanged i j q ≡ j
exchanged_left i j q e = ap (λ b. cond b j (cond (q == j) i q)) (eq-eqb q i e)

pub exchanged_right : (i j q : ℕ) → q ≢ i → q ≡ j → exchanged i j q ≡ i
exchanged_right i j q n e = grind arith

pub exchanged_other : (i j q : ℕ) → q ≢ i → q ≢ j → exchanged i j q ≡ q
exchanged_other i j q n e = grind arith

module _ (p q : Layout) (x : ℕ) (laid : IsLaid p) (there : x < size p)
    (before : index_in p x < middle_of p (class_in p x))
    (same : SameClasses p q) (inverse : AreInverse q.order q.index)
    (moved : IsExchanged p.index q.index (index_in p x) (middle_of p (class_in p x) - 1))
    (middle_is : q.middle ≡ slice_set p.middle (class_in p x) (middle_of p (class_in p x) - 1)) where
  abbrev c : ℕ
  c = class_in p x

  abbrev i : ℕ
  i = index_in p x

  abbrev m : ℕ
  m = middle_of p c

  class_same : (y : ℕ) → class_in q y ≡ class_in p y
  class_same y = ap (λ l. slice_index l y) same.class_is

  first_same : (d : ℕ) → first_of q d ≡ first_of p d
  first_same d = ap (λ l. slice_index l d) same.first_is

  end_same : (d : ℕ) → end_of q d ≡ end_of p d
  end_same d = ap (λ l. slice_index l d) same.end_is

  known : c < count p
  known = (laid.within x there).known

  middle_here : middle_of q c ≡ m - 1
  middle_here =
      let n = laid.middles in let k = known in
      ap (λ l. slice_index l c) middle_is ∙ get_or-set_same p.middle c (m - 1) 0 (omega arith)

  middle_other : (d : ℕ) → d ≢ c → middle_of q d ≡ middle_of p d
  middle_other d n = ap (λ l. slice_index l d) middle_is ∙ get_or-set_other p.middle c d (m - 1) 0 n

  -- where a place stands now
  data Move (y : ℕ) : Type 0 where
    itself : y ≡ x → index_in q y ≡ m - 1 → class_in p y ≡ c → Move y
    other : y ≢ x → index_in p y ≡ m - 1 → index_in q y ≡ i → i < m - 1 → class_in p y ≡ c → Move y
    stays : y ≢ x → index_in q y ≡ index_in p y → index_in p y ≢ m - 1 → Move y

  move : (y : ℕ) → y < size p → Move y
  move y l =
      let places = laid.places in
      let at = moved.moved y (omega arith) in
      let range = laid.ranges c known in
      let own = laid.within x there in
      elim (cases_eq (index_in p y) i) [
        | inl e ↦
            let one : y ≡ x = one_there p laid y x l there e in
            itself one (at ∙ exchanged_left i (m - 1) (index_in p y) e) (ap (class_in p) one)
        | inr n ↦
            let apart : y ≢ x = λ e. n (ap (index_in p) e) in
            elim (cases_eq (index_in p y) (m - 1)) [
              | inl e ↦
                  let low = own.low in let le = range.high in let le2 = range.low in
                  other apart e (at ∙ exchanged_right i (m - 1) (index_in p y) n e) (omega arith)
                  (in_range p laid c y known l (omega arith) (omega arith))
              | inr k ↦ stays apart (at ∙ exchanged_other i (m - 1) (index_in p y) n k) k
            ]
      ]

  ranges : (d : ℕ) → d < count q → IsRange q d
  ranges d l =
      let counts : count q ≡ count p = ap length same.first_is in
      let sizes : size q ≡ size p = ap length same.class_is in
      let r = laid.ranges d (omega arith) in
      let f = first_same d in let e = end_same d in
      let own = laid.within x there in
      let some = r.some in let low = r.low in let high = r.high in let inside = r.inside in
      let own_low = own.low in
      elim (cases_eq d c) [
        | inl same_class ↦
            let here : middle_of q d ≡ m - 1 = ap (middle_of q) same_class ∙ middle_here in
            let was : middle_of p d ≡ m = ap (middle_of p) same_class in
            let firsts : first_of p d ≡ first_of p c = ap (first_of p) same_class in
            record { some = omega arith; low = omega arith; high = omega arith; inside = omega arith }
        | inr n ↦
            let here = middle_other d n in
            record { some = omega arith; low = omega arith; high = omega arith; inside = omega arith }
      ]

  within : (y : ℕ) → y < size q → IsWithin q y
  within y l =
      let counts : count q ≡ count p = ap length same.first_is in
      let sizes : size q ≡ size p = ap length same.class_is in
      let w = laid.within y (omega arith) in
      let k = class_same y in
      let f : first_of q (class_in q y) ≡ first_of p (class_in p y) = ap (first_of q) k ∙ first_same (class_in p y) in
      let e : end_of q (class_in q y) ≡ end_of p (class_in p y) = ap (end_of q) k ∙ end_same (class_in p y) in
      let known_y = w.known in let low = w.low in let high = w.high in
      let own = laid.within x there in
      let own_low = own.low in let own_high = own.high in
      let r = laid.ranges c known in
      let r_low = r.low in let r_high = r.high in
      elim (move y (omega arith)) [
        | itself one at in_c ↦
            let firsts : first_of p (class_in p y) ≡ first_of p c = ap (first_of p) in_c in
            let ends : end_of p (class_in p y) ≡ end_of p c = ap (end_of p) in_c in
            record { known = omega arith; low = omega arith; high = omega arith }
        | other apart was at less in_c ↦
            let firsts : first_of p (class_in p y) ≡ first_of p c = ap (first_of p) in_c in
            let ends : end_of p (class_in p y) ≡ end_of p c = ap (end_of p) in_c in
            record { known = omega arith; low = omega arith; high = omega arith }
        | stays apart at not_last ↦ record { known = omega arith; low = omega arith; high = omega arith }
      ]

  alone : (d k : ℕ) → d < count q → first_of q d ≤ k → k < end_of q d
      → class_in q (slice_index q.order k) ≡ d
  alone d k l low high =
      let counts : count q ≡ count p = ap length same.first_is in
      let sizes : size q ≡ size p = ap length same.class_is in
      let lengths = moved.lengths in let places = laid.places in
      let f = first_same d in let e = end_same d in
      let inside = (ranges d l).inside in
      let y : ℕ = slice_index q.order k in
      let y_in : y < length q.index = inverse.order_below k (omega arith) in
      let at : index_in q y ≡ k = inverse.at_order k (omega arith) in
      let w = within y (omega arith) in
      let w_known = w.known in let w_low = w.low in let w_high = w.high in
      let f2 = first_same (class_in q y) in let e2 = end_same (class_in q y) in
      sym (laid.alone (class_in q y) k (omega arith) (omega arith) (omega arith))
      ∙ laid.alone d k (omega arith) (omega arith) (omega arith)

  laid_on : IsLaid q
  laid_on =
      let counts : count q ≡ count p = ap length same.first_is in
      let sizes : size q ≡ size p = ap length same.class_is in
      let lengths = moved.lengths in
      record {
        inverse = inverse;
        places = let places = laid.places in omega arith;
        middles = let n = laid.middles in let set_same = ap length middle_is
            ∙ length-set p.middle (class_in p x) (middle_of p (class_in p x) - 1) in omega arith;
        ends = ap length same.end_is ∙ laid.ends ∙ sym counts;
        parents = ap length same.parent_is ∙ laid.parents ∙ sym counts;
        few = let few = laid.few in omega arith;
        ranges = ranges;
        within = within;
        alone = alone;
      }

  chosen : (y : ℕ) → y < size p → IsChosen q y ↔ (IsChosen p y ⊎ (y ≡ x))
  chosen y l =
      let k = class_same y in
      let at : middle_of q (class_in q y) ≡ middle_of q (class_in p y) = ap (middle_of q) k in
      let here = middle_here in
      elim (move y l) [
        | itself one stands in_c ↦
            let now : middle_of q (class_in p y) ≡ middle_of q c = ap (middle_of q) in_c in
            (λ _. inr one, λ _. omega arith)
        | other apart was stands less in_c ↦
            let now : middle_of q (class_in p y) ≡ middle_of q c = ap (middle_of q) in_c in
            let then : middle_of p (class_in p y) ≡ m = ap (middle_of p) in_c in
            (λ h. absurd (omega arith), λ h. absurd (elim h [ inl b ↦ omega arith | inr e ↦ apart e ]))
        | stays apart stands not_last ↦
            elim (cases_eq (class_in p y) c) [
              | inl in_c ↦
                  let now : middle_of q (class_in p y) ≡ middle_of q c = ap (middle_of q) in_c in
                  let then : middle_of p (class_in p y) ≡ m = ap (middle_of p) in_c in
                  (λ h. inl (omega arith), λ h. elim h [ inl b ↦ omega arith | inr e ↦ absurd (apart e) ])
              | inr n ↦
                  let now = middle_other (class_in p y) n in
                  (λ h. inl (omega arith), λ h. elim h [ inl b ↦ omega arith | inr e ↦ absurd (apart e) ])
            ]
      ]

  pub chooses : Chooses p q x
  chooses = record { laid = laid_on; same = same; chosen = chosen }

-- the same with names for what was read and written
pub chooses_by : (p q : Layout) (x c i m : ℕ) (order index : List ℕ) → c ≡ class_in p x → i ≡ index_in p x
    → m ≡ middle_of p c → IsLaid p → x < size p → i < m → SameClasses p q → AreInverse order index
    → IsExchanged p.index index i (m - 1) → q.order ≡ order → q.index ≡ index
    → q.middle ≡ slice_set p.middle c (m - 1) → Chooses p q x
chooses_by p q x c i m order index c_is i_is m_is laid there before same inverse moved order_is index_is middle_is =
    let m_there : m ≡ middle_of p (class_in p x) = m_is ∙ ap (middle_of p) c_is in
    chooses p q x laid there
    (subst (λ k. index_in p x < k) m_there (subst (λ k. k < m) i_is before)) same
    (subst (λ l. AreInverse l q.index) (sym order_is) (subst (AreInverse order) (sym index_is) inverse))
    (subst (λ l. IsExchanged p.index l (index_in p x) (middle_of p (class_in p x) - 1)) (sym index_is)
    (subst (λ k. IsExchanged p.index index (index_in p x) (k - 1)) m_there
    (subst (λ k. IsExchanged p.index index k (m - 1)) i_is moved)))
    (subst (λ k. q.middle ≡ slice_set p.middle (class_in p x) (k - 1)) m_there
    (subst (λ k. q.middle ≡ slice_set p.middle k (m - 1)) c_is middle_is))
