-- A class is split in two.
use Rattle.std.proofs.Common.{◌≡◌, ◌≢◌, ◌≤◌, ◌<◌, ℕ, ◌+◌, List, [], ◌∷◌, ◌++◌, Some, refl, sym, ◌∙◌, ap, subst, inl, inr, length, arith, eq-eqb, get_or-set_same, get_or-set_other, length-set, length-append}
use Rattle.std.specs.Prelude.{◌==◌, ◌↔◌, ◌⊎◌, slice_index, slice_set}
use Rattle.std.proofs.lemmas.Bool.{cases_eq, cases_lt}
use Rattle.std.proofs.lemmas.List.{get_or_push, get_or_append_left}
use Rattle.std.proofs.lemmas.Option.{slice_get-get_or}
use Rattle.std.proofs.lemmas.Map.Steps.{le-length_from_below}
use Rattle.std.proofs.lemmas.Map.Keys.{any_passes_from_place}
use Rattle.partitions.specs.Inverse.{AreInverse}
use Rattle.partitions.specs.Layouts.{Layout, size, count, class_in, index_in, first_of, middle_of, end_of, IsRange, IsWithin, IsLaid, IsChosen}
use Rattle.partitions.specs.Refinements.{Above, here, up, IsFiner}
use Rattle.partitions.specs.steps.Steps.{IsCut, PartsOff}
use Rattle.partitions.proofs.Choosing.{in_range}

-- there are no more classes than places
pub count_le_size : (p : Layout) → IsLaid p → count p ≤ size p
count_le_size p laid = le-length_from_below p.class (count p) (λ c l.
    let r = laid.ranges c l in
    let some = r.some in let inside = r.inside in
    let places = laid.places in
    let q : ℕ = first_of p c in
    let x : ℕ = slice_index p.order q in
    let x_in : x < length p.index = laid.inverse.order_below q (omega arith) in
    let is : class_in p x ≡ c = laid.alone c q l (omega arith) some in
    any_passes_from_place (λ d. c == d) p.class x c
    (slice_get-get_or p.class x 0 (omega arith) ∙ ap Some is) (eq-eqb c c refl))

pub count_few : (p : Layout) → IsLaid p → count p < 4294967296
count_few p laid = let le = count_le_size p laid in let few = laid.few in omega arith

-- what a list is behind a write and a push
at_written : (l : List ℕ) (c v w : ℕ) → c < length l → slice_index (slice_set l c v ++ w ∷ []) c ≡ v
at_written l c v w k =
    get_or_append_left (slice_set l c v) (w ∷ []) 0 c (let n = length-set l c v in omega arith)
    ∙ get_or-set_same l c v 0 k

at_other : (l : List ℕ) (c v w e : ℕ) → e < length l → e ≢ c → slice_index (slice_set l c v ++ w ∷ []) e ≡ slice_index l e
at_other l c v w e k n =
    get_or_append_left (slice_set l c v) (w ∷ []) 0 e (let n = length-set l c v in omega arith)
    ∙ get_or-set_other l c e v 0 n

at_pushed : (l : List ℕ) (c v w e : ℕ) → e ≡ length l → slice_index (slice_set l c v ++ w ∷ []) e ≡ w
at_pushed l c v w e k = get_or_push (slice_set l c v) w 0 e (length-set l c v ∙ sym k)

length_pushed : (l : List ℕ) (c v w : ℕ) → length (slice_set l c v ++ w ∷ []) ≡ length l + 1
length_pushed l c v w = length-append (slice_set l c v) (w ∷ []) ∙ ap (λ n. n + 1) (length-set l c v)

module _ (p q : Layout) (c first end new_first new_end : ℕ) (laid : IsLaid p) (known : c < count p)
    (cut : IsCut p c first end new_first new_end)
    (sizes : size q ≡ size p)
    (there : (k : ℕ) → k < new_end → new_first ≤ k → class_in q (slice_index p.order k) ≡ count p)
    (elsewhere : (x : ℕ) → ((k : ℕ) → k < new_end → new_first ≤ k → slice_index p.order k ≡ x → ⊥)
    → class_in q x ≡ class_in p x)
    (index_is : q.index ≡ p.index) (order_is : q.order ≡ p.order)
    (first_is : q.first ≡ slice_set p.first c first ++ new_first ∷ [])
    (middle_is : q.middle ≡ slice_set p.middle c end ++ new_end ∷ [])
    (end_is : q.end ≡ slice_set p.end c end ++ new_end ∷ [])
    (parent_is : q.parent ≡ p.parent ++ c ∷ []) where
  abbrev d : ℕ
  d = count p

  counts : count q ≡ d + 1
  counts = ap length first_is ∙ length_pushed p.first c first new_first

  index_same : (x : ℕ) → index_in q x ≡ index_in p x
  index_same x = ap (λ l. slice_index l x) index_is

  range : IsRange p c
  range = laid.ranges c known

  -- the half that is parted is inside the class
  record IsHalf : Type 0 where
    pub low : first_of p c ≤ new_first
    pub high : new_end ≤ end_of p c
    pub low_kept : first_of p c ≤ first
    pub high_kept : end ≤ end_of p c
    pub apart : (end ≤ new_first) ⊎ (new_end ≤ first)
    pub joined : (k : ℕ) → first_of p c ≤ k → k < end_of p c → ((k < new_end) × (new_first ≤ k)) ⊎ ((k < end) × (first ≤ k))

  half : IsHalf
  half =
      let l = range.low in let h = range.high in let s = cut.some in let t = cut.some_new in
      elim cut.halves [
        | inl e ↦
            let a = e.0 in let b = e.1 in let f = e.2 in let g = e.3 in
            record {
              low = omega arith;
              high = omega arith;
              low_kept = omega arith;
              high_kept = omega arith;
              apart = inl (omega arith);
              joined = λ k m n. elim (cases_lt k (middle_of p c)) [
                | inl y ↦ inr (omega arith, omega arith)
                | inr y ↦ inl (omega arith, omega arith)
              ];
            }
        | inr e ↦
            let a = e.0 in let b = e.1 in let f = e.2 in let g = e.3 in
            record {
              low = omega arith;
              high = omega arith;
              low_kept = omega arith;
              high_kept = omega arith;
              apart = inr (omega arith);
              joined = λ k m n. elim (cases_lt k (middle_of p c)) [
                | inl y ↦ inl (omega arith, omega arith)
                | inr y ↦ inr (omega arith, omega arith)
              ];
            }
      ]

  -- where a place is now
  data Half (x : ℕ) : Type 0 where
    moves : class_in p x ≡ c → new_first ≤ index_in p x → index_in p x < new_end → class_in q x ≡ d → Half x
    keeps : class_in p x ≡ c → first ≤ index_in p x → index_in p x < end → class_in q x ≡ c → Half x
    stays : class_in p x ≢ c → class_in q x ≡ class_in p x → Half x

  not_moved : (x : ℕ) → x < size p → ((index_in p x < new_end) × (new_first ≤ index_in p x) → ⊥)
      → class_in q x ≡ class_in p x
  not_moved x l out = elsewhere x (λ k high low e.
      let places = laid.places in
      let h = half in let inside = range.inside in let top = h.high in
      let at : slice_index p.index (slice_index p.order k) ≡ k = laid.inverse.at_order k (omega arith) in
      let same : index_in p x ≡ k = ap (slice_index p.index) (sym e) ∙ at in
      out (omega arith, omega arith))

  half_of : (x : ℕ) → x < size p → Half x
  half_of x l =
      let places = laid.places in
      let at : slice_index p.order (index_in p x) ≡ x = laid.inverse.at_index x (omega arith) in
      let w = laid.within x l in
      elim (cases_eq (class_in p x) c) [
        | inl in_c ↦
            let firsts : first_of p (class_in p x) ≡ first_of p c = ap (first_of p) in_c in
            let ends : end_of p (class_in p x) ≡ end_of p c = ap (end_of p) in_c in
            let low = w.low in let high = w.high in
            elim (half.joined (index_in p x) (omega arith) (omega arith)) [
              | inl new ↦ moves in_c new.1 new.0 (ap (class_in q) (sym at) ∙ there (index_in p x) new.0 new.1)
              | inr old ↦ keeps in_c old.1 old.0 (not_moved x l (λ new. elim half.apart [
                | inl a ↦ let n = new.1 in let o = old.0 in omega arith
                | inr a ↦ let n = new.0 in let o = old.1 in omega arith
              ]) ∙ in_c)
            ]
        | inr n ↦ stays n (not_moved x l (λ new.
            let h = half in let low = h.low in let high = h.high in let a = new.0 in let b = new.1 in
            n (in_range p laid c x known l (omega arith) (omega arith))))
      ]

  first_c : first_of q c ≡ first
  first_c = ap (λ l. slice_index l c) first_is ∙ at_written p.first c first new_first known

  first_d : first_of q d ≡ new_first
  first_d = ap (λ l. slice_index l d) first_is ∙ at_pushed p.first c first new_first d refl

  first_other : (e : ℕ) → e < d → e ≢ c → first_of q e ≡ first_of p e
  first_other e l n = ap (λ l. slice_index l e) first_is ∙ at_other p.first c first new_first e l n

  middle_c : middle_of q c ≡ end
  middle_c = ap (λ l. slice_index l c) middle_is
      ∙ at_written p.middle c end new_end (let m = laid.middles in omega (arith, known))

  middle_d : middle_of q d ≡ new_end
  middle_d = ap (λ l. slice_index l d) middle_is ∙ at_pushed p.middle c end new_end d (sym laid.middles)

  middle_other : (e : ℕ) → e < d → e ≢ c → middle_of q e ≡ middle_of p e
  middle_other e l n = ap (λ l. slice_index l e) middle_is
      ∙ at_other p.middle c end new_end e (let m = laid.middles in omega arith) n

  end_c : end_of q c ≡ end
  end_c = ap (λ l. slice_index l c) end_is ∙ at_written p.end c end new_end (let m = laid.ends in omega (arith, known))

  end_d : end_of q d ≡ new_end
  end_d = ap (λ l. slice_index l d) end_is ∙ at_pushed p.end c end new_end d (sym laid.ends)

  end_other : (e : ℕ) → e < d → e ≢ c → end_of q e ≡ end_of p e
  end_other e l n = ap (λ l. slice_index l e) end_is ∙ at_other p.end c end new_end e (let m = laid.ends in omega arith) n

  data Which (e : ℕ) : Type 0 where
    one : e ≡ c → Which e
    two : e ≡ d → Which e
    old : e < d → e ≢ c → Which e

  which : (e : ℕ) → e < count q → Which e
  which e l = let n = counts in elim (cases_eq e c) [
    | inl s ↦ one s
    | inr k ↦ elim (cases_eq e d) [ inl s ↦ two s | inr m ↦ old (omega arith) k ]
  ]

  ranges : (e : ℕ) → e < count q → IsRange q e
  ranges e l =
      let r = range in let inside = r.inside in
      let h = half in let h1 = h.low in let h2 = h.high in let h3 = h.low_kept in let h4 = h.high_kept in
      let s = cut.some in let t = cut.some_new in
      elim (which e l) [
        | one is ↦
            let f : first_of q e ≡ first = ap (first_of q) is ∙ first_c in
            let m : middle_of q e ≡ end = ap (middle_of q) is ∙ middle_c in
            let n : end_of q e ≡ end = ap (end_of q) is ∙ end_c in
            record { some = omega arith; low = omega arith; high = omega arith; inside = omega (arith, sizes) }
        | two is ↦
            let f : first_of q e ≡ new_first = ap (first_of q) is ∙ first_d in
            let m : middle_of q e ≡ new_end = ap (middle_of q) is ∙ middle_d in
            let n : end_of q e ≡ new_end = ap (end_of q) is ∙ end_d in
            record { some = omega arith; low = omega arith; high = omega arith; inside = omega (arith, sizes) }
        | old k k2 ↦
            let f = first_other e k k2 in let m = middle_other e k k2 in let n = end_other e k k2 in
            let was = laid.ranges e k in
            let a = was.some in let b = was.low in let g = was.high in let i = was.inside in
            record { some = omega arith; low = omega arith; high = omega arith; inside = omega (arith, sizes) }
      ]

  within : (x : ℕ) → x < size q → IsWithin q x
  within x l =
      let at = index_same x in
      let n = counts in
      let k : c < count p = known in
      elim (half_of x (omega (arith, sizes))) [
        | moves in_c low high now ↦
            let f : first_of q (class_in q x) ≡ new_first = ap (first_of q) now ∙ first_d in
            let e : end_of q (class_in q x) ≡ new_end = ap (end_of q) now ∙ end_d in
            record { known = omega arith; low = omega arith; high = omega arith }
        | keeps in_c low high now ↦
            let f : first_of q (class_in q x) ≡ first = ap (first_of q) now ∙ first_c in
            let e : end_of q (class_in q x) ≡ end = ap (end_of q) now ∙ end_c in
            record { known = omega arith; low = omega arith; high = omega arith }
        | stays apart now ↦
            let w = laid.within x (omega (arith, sizes)) in
            let wk = w.known in let wl = w.low in let wh = w.high in
            let f : first_of q (class_in q x) ≡ first_of p (class_in p x) =
            ap (first_of q) now ∙ first_other (class_in p x) wk apart in
            let e : end_of q (class_in q x) ≡ end_of p (class_in p x) =
            ap (end_of q) now ∙ end_other (class_in p x) wk apart in
            record { known = omega arith; low = omega arith; high = omega arith }
      ]

  alone : (e k : ℕ) → e < count q → first_of q e ≤ k → k < end_of q e → class_in q (slice_index q.order k) ≡ e
  alone e k l low high =
      let orders : slice_index q.order k ≡ slice_index p.order k = ap (λ l. slice_index l k) order_is in
      let r = range in let inside = r.inside in
      let h = half in let h1 = h.low in let h2 = h.high in let h3 = h.low_kept in let h4 = h.high_kept in
      ap (class_in q) orders ∙ elim (which e l) [
        | one is ↦
            let f : first_of q e ≡ first = ap (first_of q) is ∙ first_c in
            let n : end_of q e ≡ end = ap (end_of q) is ∙ end_c in
            let was : class_in p (slice_index p.order k) ≡ c = laid.alone c k known (omega arith) (omega arith) in
            let places = laid.places in
            let y_in : slice_index p.order k < length p.index = laid.inverse.order_below k (omega arith) in
            let at : index_in p (slice_index p.order k) ≡ k = laid.inverse.at_order k (omega arith) in
            let k_high : k < end = omega arith in
            let k_low : first ≤ k = omega arith in
            not_moved (slice_index p.order k) (omega arith) (λ new. elim half.apart [
              | inl a ↦ let m = new.1 in omega (arith, at)
              | inr a ↦ let m = new.0 in omega (arith, at)
            ])
            ∙ was ∙ sym is
        | two is ↦
            let f : first_of q e ≡ new_first = ap (first_of q) is ∙ first_d in
            let n : end_of q e ≡ new_end = ap (end_of q) is ∙ end_d in
            there k (omega arith) (omega arith) ∙ sym is
        | old m m2 ↦
            let f = first_other e m m2 in let n = end_other e m m2 in
            let was : class_in p (slice_index p.order k) ≡ e = laid.alone e k m (omega arith) (omega arith) in
            let places = laid.places in
            let top = (laid.ranges e m).inside in
            let y_in : slice_index p.order k < length p.index = laid.inverse.order_below k (omega arith) in
            let at : index_in p (slice_index p.order k) ≡ k = laid.inverse.at_order k (omega arith) in
            not_moved (slice_index p.order k) (omega arith) (λ new.
            let a = new.0 in let b = new.1 in
            m2 (sym was ∙ in_range p laid c (slice_index p.order k) known (omega arith) (omega arith) (omega arith)))
            ∙ was
      ]

  laid_on : IsLaid q
  laid_on = record {
    inverse = subst (λ l. AreInverse l q.index) (sym order_is) (subst (AreInverse p.order) (sym index_is) laid.inverse);
    places = ap length index_is ∙ laid.places ∙ sym sizes;
    middles = ap length middle_is ∙ length_pushed p.middle c end new_end ∙ ap (λ n. n + 1) laid.middles ∙ sym counts;
    ends = ap length end_is ∙ length_pushed p.end c end new_end ∙ ap (λ n. n + 1) laid.ends ∙ sym counts;
    parents = ap length parent_is ∙ length-append p.parent (c ∷ []) ∙ ap (λ n. n + 1) laid.parents ∙ sym counts;
    few = let f = laid.few in omega (arith, sizes);
    ranges = ranges;
    within = within;
    alone = alone;
  }

  parent_old : (e : ℕ) → e < d → slice_index q.parent e ≡ slice_index p.parent e
  parent_old e l = ap (λ l. slice_index l e) parent_is
      ∙ get_or_append_left p.parent (c ∷ []) 0 e (let n = laid.parents in omega arith)

  parent_new : slice_index q.parent d ≡ c
  parent_new = ap (λ l. slice_index l d) parent_is ∙ get_or_push p.parent c 0 d laid.parents

  above_grows : (base e a : ℕ) → e < d → Above p.parent base e a → Above q.parent base e a
  above_grows base e a l (here f m) = here f m
  above_grows base e a l (up f b m n rest) =
      let same = parent_old f l in
      up f b m (omega arith) (subst (λ g. Above q.parent base g b) (sym same)
      (above_grows base (slice_index p.parent f) b (omega arith) rest))

  finer : IsFiner p q
  finer = record {
    places = sizes;
    more = let n = counts in omega arith;
    kept = λ x l m. elim (half_of x l) [
      | moves in_c low high now ↦ absurd (omega arith)
      | keeps in_c low high now ↦ now ∙ sym in_c
      | stays apart now ↦ now
    ];
    finer = λ x z l m e.
        let wx = (laid.within x l).known in let wz = (laid.within z m).known in
        let k : c < count p = known in
        elim (half_of x l) [
          | moves in_c low high now ↦ elim (half_of z m) [
            | moves in_c2 low2 high2 now2 ↦ in_c ∙ sym in_c2
            | keeps in_c2 low2 high2 now2 ↦ in_c ∙ sym in_c2
            | stays apart now2 ↦ absurd (omega arith)
          ]
          | keeps in_c low high now ↦ elim (half_of z m) [
            | moves in_c2 low2 high2 now2 ↦ in_c ∙ sym in_c2
            | keeps in_c2 low2 high2 now2 ↦ in_c ∙ sym in_c2
            | stays apart now2 ↦ in_c ∙ sym now ∙ e ∙ now2
          ]
          | stays apart now ↦ elim (half_of z m) [
            | moves in_c2 low2 high2 now2 ↦ absurd (omega arith)
            | keeps in_c2 low2 high2 now2 ↦ sym now ∙ e ∙ now2 ∙ sym in_c2
            | stays apart2 now2 ↦ sym now ∙ e ∙ now2
          ]
        ];
    above = λ base x a b l h.
        let wx = (laid.within x l).known in
        let grown : Above q.parent base (class_in p x) a = above_grows base (class_in p x) a wx h in
        let k : c < count p = known in
        elim (half_of x l) [
          | moves in_c low high now ↦
              let is = parent_new in
              subst (λ e. Above q.parent base e a) (sym now)
              (up d a b (omega arith) (subst (λ e. Above q.parent base e a) (in_c ∙ sym is) grown))
          | keeps in_c low high now ↦ subst (λ e. Above q.parent base e a) (in_c ∙ sym now) grown
          | stays apart now ↦ subst (λ e. Above q.parent base e a) (sym now) grown
        ];
  }

  -- which half is parted
  parts : (x z : ℕ) → x < size p → z < size p → class_in p x ≡ c → class_in p z ≡ c
      → (class_in q x ≡ class_in q z) ↔ (IsChosen p x ↔ IsChosen p z)
  parts x z l m in_x in_z =
      let mx : middle_of p (class_in p x) ≡ middle_of p c = ap (middle_of p) in_x in
      let mz : middle_of p (class_in p z) ≡ middle_of p c = ap (middle_of p) in_z in
      let k : c < count p = known in
      elim cut.halves [
        | inl e ↦
            let a = e.0 in let b = e.1 in let f = e.2 in let g = e.3 in
            elim (half_of x l) [
              | moves in_c low high now ↦ elim (half_of z m) [
                | moves in_c2 low2 high2 now2 ↦ (λ _. (λ _. omega arith, λ _. omega arith), λ _. now ∙ sym now2)
                | keeps in_c2 low2 high2 now2 ↦ (
                  λ h. absurd (omega arith),
                  λ h. absurd (let y : IsChosen p z = h.0 (omega arith) in omega arith),
                )
                | stays apart now2 ↦ absurd (apart in_z)
              ]
              | keeps in_c low high now ↦ elim (half_of z m) [
                | moves in_c2 low2 high2 now2 ↦ (
                  λ h. absurd (omega arith),
                  λ h. absurd (let y : IsChosen p x = h.1 (omega arith) in omega arith),
                )
                | keeps in_c2 low2 high2 now2 ↦ (λ _. (λ y. absurd (omega arith), λ y. absurd (omega arith)), λ _. now ∙ sym now2)
                | stays apart now2 ↦ absurd (apart in_z)
              ]
              | stays apart now ↦ absurd (apart in_x)
            ]
        | inr e ↦
            let a = e.0 in let b = e.1 in let f = e.2 in let g = e.3 in
            elim (half_of x l) [
              | moves in_c low high now ↦ elim (half_of z m) [
                | moves in_c2 low2 high2 now2 ↦ (λ _. (λ y. absurd (omega arith), λ y. absurd (omega arith)), λ _. now ∙ sym now2)
                | keeps in_c2 low2 high2 now2 ↦ (
                  λ h. absurd (omega arith),
                  λ h. absurd (let y : IsChosen p x = h.1 (omega arith) in omega arith),
                )
                | stays apart now2 ↦ absurd (apart in_z)
              ]
              | keeps in_c low high now ↦ elim (half_of z m) [
                | moves in_c2 low2 high2 now2 ↦ (
                  λ h. absurd (omega arith),
                  λ h. absurd (let y : IsChosen p z = h.0 (omega arith) in omega arith),
                )
                | keeps in_c2 low2 high2 now2 ↦ (λ _. (λ _. omega arith, λ _. omega arith), λ _. now ∙ sym now2)
                | stays apart now2 ↦ absurd (apart in_z)
              ]
              | stays apart now ↦ absurd (apart in_x)
            ]
      ]

  pub splits : PartsOff p q c
  splits = record {
    laid = laid_on;
    finer = finer;
    others = λ x l apart. elim (half_of x l) [
      | moves in_c low high now ↦ absurd (apart in_c)
      | keeps in_c low high now ↦ absurd (apart in_c)
      | stays n now ↦
          let at = index_same x in
          let w = (laid.within x l).known in
          let m : middle_of q (class_in q x) ≡ middle_of p (class_in p x) =
          ap (middle_of q) now ∙ middle_other (class_in p x) w n in
          (now, (λ h. omega arith, λ h. omega arith))
    ];
    chosen = λ x l in_c h.
        let at = index_same x in
        elim (half_of x l) [
          | moves in_c2 low high now ↦
              let m : middle_of q (class_in q x) ≡ new_end = ap (middle_of q) now ∙ middle_d in omega arith
          | keeps in_c2 low high now ↦
              let m : middle_of q (class_in q x) ≡ end = ap (middle_of q) now ∙ middle_c in omega arith
          | stays n now ↦ n in_c
        ];
    parts = parts;
  }

-- the same with names for what was read and written
pub splits_by : (p q : Layout) (c number first end new_first new_end : ℕ) (order was class : List ℕ) → IsLaid p
    → c < count p → IsCut p c first end new_first new_end → number ≡ count p → order ≡ p.order → was ≡ p.class
    → length class ≡ length was
    → ((k : ℕ) → k < new_end → new_first ≤ k → slice_index class (slice_index order k) ≡ number)
    → ((x : ℕ) → ((k : ℕ) → k < new_end → new_first ≤ k → slice_index order k ≡ x → ⊥)
    → slice_index class x ≡ slice_index was x)
    → q.class ≡ class → q.index ≡ p.index → q.order ≡ p.order
    → q.first ≡ slice_set p.first c first ++ new_first ∷ []
    → q.middle ≡ slice_set p.middle c end ++ new_end ∷ []
    → q.end ≡ slice_set p.end c end ++ new_end ∷ []
    → q.parent ≡ p.parent ++ c ∷ [] → PartsOff p q c
splits_by p q c number first end new_first new_end order was class laid known cut number_is read was_is sizes there
    elsewhere class_is index_is order_is first_is middle_is end_is parent_is =
    splits p q c first end new_first new_end laid known cut (ap length class_is ∙ sizes ∙ ap length was_is)
    (λ k l m. ap (λ s. slice_index s (slice_index p.order k)) class_is
    ∙ ap (λ o. slice_index class (slice_index o k)) (sym read) ∙ there k l m ∙ number_is)
    (λ x h. ap (λ s. slice_index s x) class_is
    ∙ elsewhere x (λ k l m e. h k l m (ap (λ o. slice_index o k) (sym read) ∙ e)) ∙ ap (λ s. slice_index s x) was_is)
    index_is order_is first_is middle_is end_is parent_is
