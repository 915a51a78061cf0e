-- Classes are parted by a set of places, one class after the other.
use Rattle.std.proofs.Common.{◌≡◌, ◌≢◌, ◌<◌, ℕ, ◌+◌, List, refl, sym, ◌∙◌, ap, subst, inl, inr, length, arith}
use Rattle.std.specs.Prelude.{◌↔◌, ◌⊎◌, slice_index}
use Rattle.std.proofs.lemmas.Bool.{cases_eq, cases_lt}
use Rattle.partitions.specs.Layouts.{Layout, size, count, class_in, index_in, middle_of, IsLaid, IsChosen}
use Rattle.partitions.specs.Refinements.{Above, IsFiner, IsAmong, ArePlaces}
use Rattle.partitions.specs.steps.Steps.{SameClasses, Chooses, ChoosesAll, PartsOff, IsPartedBy}

pub chooses_more : (p q r : Layout) (xs : List ℕ) (i x : ℕ) → ChoosesAll p q xs i → x ≡ slice_index xs i → Chooses q r x
    → ChoosesAll p r xs (i + 1)
chooses_more p q r xs i x before is more = record {
  laid = more.laid;
  same = record {
    class_is = more.same.class_is ∙ before.same.class_is;
    first_is = more.same.first_is ∙ before.same.first_is;
    end_is = more.same.end_is ∙ before.same.end_is;
    parent_is = more.same.parent_is ∙ before.same.parent_is;
  };
  chosen = λ y l.
      let sizes : size q ≡ size p = ap length before.same.class_is in
      let one = more.chosen y (omega arith) in
      let rest = before.chosen y l in (
        λ h. elim (one.0 h) [
          | inl k ↦ elim (rest.0 k) [ inl m ↦ inl m | inr m ↦ let n = m.1 in inr (m.0, omega arith, m.2) ]
          | inr e ↦ inr (i, omega arith, sym is ∙ sym e)
        ],
        λ h. one.1 (elim h [
          | inl k ↦ inl (rest.1 (inl k))
          | inr k ↦ elim (cases_eq k.0 i) [
            | inl e ↦ inr (sym k.2 ∙ ap (slice_index xs) e ∙ sym is)
            | inr n ↦ let m = k.1 in inl (rest.1 (inr (k.0, omega arith, k.2)))
          ]
        ]),
      );
}

pub finer_refl : (p : Layout) → IsFiner p p
finer_refl p = record {
  places = refl;
  more = omega arith;
  kept = λ x l m. refl;
  finer = λ x z l m e. e;
  above = λ base x a b l h. h;
}

pub finer_trans : (p q r : Layout) → IsFiner p q → IsFiner q r → IsFiner p r
finer_trans p q r f g =
    let sizes = f.places in let sizes2 = g.places in let more = f.more in let more2 = g.more in
    record {
      places = omega arith;
      more = omega arith;
      kept = λ x l m.
          let one : class_in r x ≡ class_in q x = g.kept x (omega arith) (omega arith) in
          one ∙ f.kept x l (omega arith);
      finer = λ x z l m e. f.finer x z l m (g.finer x z (omega arith) (omega arith) e);
      above = λ base x a b l h. g.above base x a (omega arith) (omega arith) (f.above base x a b l h);
    }

-- the classes of the first i of the chosen places are parted
pub record ArePartedFirst (p q : Layout) (xs : List ℕ) (i : ℕ) : Type 0 where
  pub laid : IsLaid q
  pub finer : IsFiner p q
  pub among : (y : ℕ) → y < size p → IsChosen q y → IsAmong xs y
  pub done : (k : ℕ) → k < i → IsChosen q (slice_index xs k) → ⊥
  pub keeps : (x z : ℕ) → x < size p → z < size p → class_in p x ≡ class_in p z → (IsAmong xs x ↔ IsAmong xs z)
      → class_in q x ≡ class_in q z
  pub apart : (x z : ℕ) → x < size p → z < size p → class_in q x ≡ class_in q z → (IsChosen q x → ⊥)
      → (IsChosen q z → ⊥) → (IsAmong xs x ↔ IsAmong xs z)
  pub whole : (x z : ℕ) → x < size p → z < size p → class_in q x ≡ class_in q z → IsChosen q x → IsAmong xs z
      → IsChosen q z

-- whether a place is chosen
is_chosen : (p : Layout) (x : ℕ) → IsChosen p x ⊎ (IsChosen p x → ⊥)
is_chosen p x = elim (cases_lt (index_in p x) (middle_of p (class_in p x))) [
  | inl l ↦ inr (λ h. omega arith)
  | inr h ↦ inl h
]

module _ (p q r : Layout) (xs : List ℕ) (i x c : ℕ) (before : ArePartedFirst p q xs i) (inside : i < length xs)
    (places : ArePlaces (size p) xs) (x_is : x ≡ slice_index xs i) (c_is : c ≡ class_in q x) (off : PartsOff q r c)
  where
    q_size : size q ≡ size p
    q_size = before.finer.places

    -- what is chosen now was so, and is elsewhere
    was_chosen : (y : ℕ) → y < size p → IsChosen r y → (class_in q y ≢ c) × IsChosen q y
    was_chosen y l h =
        let apart : class_in q y ≢ c = λ e. off.chosen y (omega (arith, q_size)) e h in
        (apart, (off.others y (omega (arith, q_size)) apart).1.0 h)

    among : (y : ℕ) → y < size p → IsChosen r y → IsAmong xs y
    among y l h = before.among y l (was_chosen y l h).1

    done : (k : ℕ) → k < i + 1 → IsChosen r (slice_index xs k) → ⊥
    done k l h =
        let is_place = places k (omega arith) in
        let was = was_chosen (slice_index xs k) is_place h in
        elim (cases_eq k i) [
          | inl e ↦ was.0 (ap (λ j. class_in q (slice_index xs j)) e ∙ ap (class_in q) (sym x_is) ∙ sym c_is)
          | inr n ↦ before.done k (omega arith) was.1
        ]

    keeps : (y z : ℕ) → y < size p → z < size p → class_in p y ≡ class_in p z → (IsAmong xs y ↔ IsAmong xs z)
        → class_in r y ≡ class_in r z
    keeps y z l m e s =
        let now : class_in q y ≡ class_in q z = before.keeps y z l m e s in
        elim (cases_eq (class_in q y) c) [
          | inl in_c ↦ (off.parts y z (omega (arith, q_size)) (omega (arith, q_size)) in_c (sym now ∙ in_c)).1 (
            λ h. before.whole y z l m now h (s.0 (before.among y l h)),
            λ h. before.whole z y m l (sym now) h (s.1 (before.among z m h)),
          )
          | inr n ↦
              (off.others y (omega (arith, q_size)) n).0 ∙ now
              ∙ sym (off.others z (omega (arith, q_size)) (λ k. n (now ∙ k))).0
        ]

    apart : (y z : ℕ) → y < size p → z < size p → class_in r y ≡ class_in r z → (IsChosen r y → ⊥)
        → (IsChosen r z → ⊥) → (IsAmong xs y ↔ IsAmong xs z)
    apart y z l m e f g =
        let now : class_in q y ≡ class_in q z = off.finer.finer y z (omega (arith, q_size)) (omega (arith, q_size)) e in
        elim (cases_eq (class_in q y) c) [
          | inl in_c ↦
              let same = (off.parts y z (omega (arith, q_size)) (omega (arith, q_size)) in_c (sym now ∙ in_c)).0 e in
              elim (is_chosen q y) [
                | inl h ↦ (λ _. before.among z m (same.0 h), λ _. before.among y l h)
                | inr h ↦ before.apart y z l m now h (λ k. h (same.1 k))
              ]
          | inr n ↦
              before.apart y z l m now
              (λ h. f ((off.others y (omega (arith, q_size)) n).1.1 h))
              (λ h. g ((off.others z (omega (arith, q_size)) (λ k. n (now ∙ k))).1.1 h))
        ]

    whole : (y z : ℕ) → y < size p → z < size p → class_in r y ≡ class_in r z → IsChosen r y → IsAmong xs z
        → IsChosen r z
    whole y z l m e h a =
        let now : class_in q y ≡ class_in q z = off.finer.finer y z (omega (arith, q_size)) (omega (arith, q_size)) e in
        let was = was_chosen y l h in
        (off.others z (omega (arith, q_size)) (λ k. was.0 (now ∙ k))).1.1 (before.whole y z l m now was.1 a)

    pub parted_more : ArePartedFirst p r xs (i + 1)
    parted_more = record {
      laid = off.laid;
      finer = finer_trans p q r before.finer off.finer;
      among = among;
      done = done;
      keeps = keeps;
      apart = apart;
      whole = whole;
    }

pub parted_all : (p q : Layout) (xs : List ℕ) → ArePartedFirst p q xs (length xs) → IsPartedBy p q xs
parted_all p q xs all =
    let free : (x : ℕ) → x < size p → IsChosen q x → ⊥ = λ x l h.
    let a = all.among x l h in
    all.done a.0 a.1 (subst (IsChosen q) (sym a.2) h) in
    record {
      laid = all.laid;
      finer = all.finer;
      settled = λ x l. let sizes = all.finer.places in elim (cases_lt (index_in q x) (middle_of q (class_in q x))) [
        | inl k ↦ k
        | inr h ↦ absurd (free x (omega arith) h)
      ];
      parts = λ x z l m. (
        λ e. (all.finer.finer x z l m e, all.apart x z l m e (free x l) (free z m)),
        λ h. all.keeps x z l m h.0 h.1,
      );
    }

-- the same classes with other places chosen are parted alike
finer_same : (p q r : Layout) → SameClasses p q → IsFiner q r → IsFiner p r
finer_same p q r same f =
    let sizes : size q ≡ size p = ap length same.class_is in
    let counts : count q ≡ count p = ap length same.first_is in
    let class_same : (y : ℕ) → class_in q y ≡ class_in p y = λ y. ap (λ l. slice_index l y) same.class_is in
    let places = f.places in let more = f.more in
    record {
      places = omega arith;
      more = omega arith;
      kept = λ x l m. f.kept x (omega arith) (omega arith) ∙ class_same x;
      finer = λ x z l m e. sym (class_same x) ∙ f.finer x z (omega arith) (omega arith) e ∙ class_same z;
      above = λ base x a b l h. f.above base x a (omega arith) (omega arith)
          (subst (λ ps. Above ps base (class_in q x) a) (sym same.parent_is)
          (subst (λ e. Above p.parent base e a) (sym (class_same x)) h));
    }

pub parted_by_chosen : (p q r : Layout) (xs : List ℕ) → ChoosesAll p q xs (length xs) → IsPartedBy q r xs
    → IsPartedBy p r xs
parted_by_chosen p q r xs chooses parted =
    let same = chooses.same in
    let sizes : size q ≡ size p = ap length same.class_is in
    let class_same : (y : ℕ) → class_in q y ≡ class_in p y = λ y. ap (λ l. slice_index l y) same.class_is in
    record {
      laid = parted.laid;
      finer = finer_same p q r same parted.finer;
      settled = parted.settled;
      parts = λ x z l m.
          let by = parted.parts x z (omega arith) (omega arith) in (
            λ e. let h = by.0 e in (sym (class_same x) ∙ h.0 ∙ class_same z, h.1),
            λ h. by.1 (class_same x ∙ h.0 ∙ sym (class_same z), h.1),
          );
    }
