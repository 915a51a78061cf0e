-- From one round back to the round before it.
use Rattle.std.proofs.Common.{◌≡◌, ◌≤◌, ◌<◌, ℕ, zero, suc, ◌+◌, ◌-◌, List, refl, sym, ◌∙◌, ap, subst, inl, inr, length, take, arith}
use Rattle.std.specs.Prelude.{◌⊎◌, slice_index}
use Rattle.std.proofs.lemmas.Bool.{cases_eq}
use Rattle.std.proofs.lemmas.List.{length-take-le, get_or-take}
use Rattle.partitions.specs.Layouts.{Layout, size, class_in, parent_of, IsLaid}
use Rattle.partitions.specs.Refinements.{Above, IsAmong, IsAmongFirst, ArePlaces}
use Rattle.partition_refinement.specs.Firsts.{IsFirstIn, IsFirstOf, IsFirst, AreParted}
use Rattle.partition_refinement.specs.Births.{AreCounts, IsBirth}
use Rattle.partition_refinement.specs.steps.Working.{AreBorn, AreFirstPlaces, AreRoundsFrom, AreTracedFrom, AreWritten, IsBack, IsUndone}
use Rattle.partition_refinement.proofs.Births.{born_lead, leads_are_born}
use Rattle.partition_refinement.proofs.Climbing.{above_join}
use Rattle.partition_refinement.proofs.Counting.{above_less, counts_le, counts_below, birth_once}
use Rattle.partition_refinement.proofs.Leading.{lead_one}

among_first : (xs : List ℕ) (x i : ℕ) → IsAmongFirst xs i x ⊎ (IsAmongFirst xs i x → ⊥)
among_first xs x zero = inr (λ a. absurd (let l = a.1 in omega arith))
among_first xs x (suc i) = elim (cases_eq (slice_index xs i) x) [
  | inl e ↦ inl (i, omega arith, e)
  | inr n ↦ elim (among_first xs x i) [
    | inl a ↦ let l = a.1 in inl (a.0, omega arith, a.2)
    | inr none ↦ inr (λ a. elim (cases_eq a.0 i) [
      | inl same ↦ n (ap (slice_index xs) (sym same) ∙ a.2)
      | inr o ↦ let l = a.1 in none (a.0, omega arith, a.2)
    ])
  ]
]

pub among : (xs : List ℕ) (x : ℕ) → IsAmong xs x ⊎ (IsAmong xs x → ⊥)
among xs x = among_first xs x (length xs)

-- what is born are places
pub born_places : (p : Layout) (low high n : ℕ) (born : List ℕ) → low ≤ high → AreBorn p low high born → n ≡ size p
    → ArePlaces n born
born_places p low high n born le all is k l =
    let within = (born_lead p low high born le all (slice_index born k) (k, l, refl)).0.2.within in omega arith

-- the class that a born place was in before
pub led_back : (p : Layout) (low high i class : ℕ) (first_places born : List ℕ) → low ≤ high → AreBorn p low high born
    → i < length born → AreFirstPlaces p low first_places → Above p.parent low (parent_of p (high - 1 - i)) class
    → IsFirstOf p low (slice_index born i) (slice_index first_places class)
led_back p low high i class first_places born le all l first above =
    let each = all.each in
    let d : ℕ = high - 1 - i in
    let back : high - 1 - d ≡ i = omega arith in
    let h : ℕ = slice_index born i in
    let joined : Above p.parent d (class_in p h) (parent_of p d) =
    subst (λ k. Above p.parent d (class_in p (slice_index born k)) (parent_of p d)) back
    (all.in_parent d (omega arith) (omega arith)) in (
      class,
      above_join p.parent low d (class_in p h) (parent_of p d) class (omega arith) joined above,
      first class (above_less p.parent low (parent_of p d) class above),
    )

pub parted_from : (p : Layout) (counts : List ℕ) (r : ℕ) → IsLaid p → AreCounts p counts → r < length counts
    → AreParted p (slice_index counts r)
parted_from p counts r laid counted l d le m =
    let rise = counts_le p counts laid counted 0 r (omega arith) l in counted.parted d (omega arith) m

module _ (p : Layout) (counts : List ℕ) (laid : IsLaid p) (counted : AreCounts p counts) where
  -- the births of one round more are marked
  pub marked_more : (r : ℕ) (rounds more places : List ℕ) → r < length counts → AreRoundsFrom p counts (r + 1) rounds
      → AreWritten (λ _ v. v ≡ r) rounds more places (length places)
      → ((h : ℕ) → IsAmong places h → IsBirth p counts r h) → ((h : ℕ) → IsBirth p counts r h → IsAmong places h)
      → AreRoundsFrom p counts r more
  marked_more r rounds more places counted_r before written sound complete = record {
    each = written.each ∙ before.each;
    late = λ h l. elim (among places h) [
      | inl a ↦ let e = written.there h a in omega arith
      | inr n ↦ let e = written.elsewhere h n in let le = before.late h l in omega arith
    ];
    births = λ q h l le m. elim (cases_eq q r) [
      | inl same ↦ (
        λ e. elim (among places h) [
          | inl a ↦ subst (λ k. IsBirth p counts k h) (sym same) (sound h a)
          | inr n ↦
              absurd (let f = written.elsewhere h n in let late = before.late h l in omega arith)
        ],
        λ b. let e = written.there h (complete h (subst (λ k. IsBirth p counts k h) same b)) in
            omega arith,
      )
      | inr other ↦ elim (among places h) [
        | inl a ↦ (
          λ e. absurd (let f = written.there h a in omega arith),
          λ b. absurd (other (birth_once p counts laid counted q r h b (sound h a))),
        )
        | inr n ↦
            let same = written.elsewhere h n in
            let was = before.births q h l (omega arith) m in
            (λ e. was.0 (sym same ∙ e), λ b. same ∙ was.1 b)
      ]
    ];
  }

  module _ (r : ℕ) (born : List ℕ) (next : r + 1 < length counts)
      (all : AreBorn p (slice_index counts r) (slice_index counts (r + 1)) born) where
    low : ℕ
    low = slice_index counts r

    high : ℕ
    high = slice_index counts (r + 1)

    order : slice_index counts r ≤ slice_index counts (r + 1)
    order = let l = counted.rising r next in omega arith

    born_births : (h : ℕ) → IsAmong born h → IsBirth p counts (r + 1) h
    born_births h a =
        let lead = born_lead p (slice_index counts r) (slice_index counts (r + 1)) born order all h a in
        record {
          counted = next;
          first = lead.0;
          fresh = λ q e earlier.
              let same : q ≡ r = omega arith in
              lead.1 (subst (λ k. IsFirst p (slice_index counts k) h) same earlier);
        }

    births_born : (h : ℕ) → IsBirth p counts (r + 1) h → IsAmong born h
    births_born h b =
        leads_are_born p (slice_index counts r) (slice_index counts (r + 1)) born order all h b.first
        (b.fresh r refl)

    traced_more : (before more : List ℕ) → AreTracedFrom p counts (r + 1) before
        → AreWritten (IsFirstOf p (slice_index counts r)) before more born (length born) → AreTracedFrom p counts r more
    traced_more before more old written = record {
      each = written.each ∙ old.each;
      births = λ q h le b. elim (cases_eq q r) [
        | inl same ↦
            let here : IsBirth p counts (r + 1) h = subst (λ k. IsBirth p counts (k + 1) h) same b in
            subst (λ k. IsFirstOf p (slice_index counts k) h (slice_index more h)) (sym same)
            (written.there h (births_born h here))
        | inr other ↦
            let n : IsAmong born h → ⊥ = λ a.
            let e = birth_once p counts laid counted (q + 1) (r + 1) h b (born_births h a) in omega arith in
            subst (IsFirstOf p (slice_index counts q) h) (sym (written.elsewhere h n)) (old.births q h (omega arith) b)
      ];
    }

    pub round_undone : (first_places fewer rounds marked before traced : List ℕ) → IsBack p counts (r + 1) first_places rounds before
        → length fewer ≡ length first_places → AreFirstPlaces p (slice_index counts r) fewer
        → AreWritten (λ _ v. v ≡ r + 1) rounds marked born (length born)
        → AreWritten (IsFirstOf p (slice_index counts r)) before traced born (length born)
        → IsBack p counts r fewer marked traced
    round_undone first_places fewer rounds marked before traced back each first written led = record {
      each = each ∙ back.each;
      first = first;
      marked = marked_more (r + 1) rounds marked born next back.marked written born_births births_born;
      traced = traced_more before traced back.traced led;
    }

  -- the first places after round 0
  first_births : (first_places : List ℕ) → slice_index counts 0 ≤ length first_places → AreFirstPlaces p (slice_index counts 0) first_places
      → (h : ℕ) → IsAmong (take (slice_index counts 0) first_places) h → IsBirth p counts 0 h
  first_births first_places le first h a =
      let n : ℕ = slice_index counts 0 in
      let long = length-take-le n first_places le in
      let within = a.1 in
      let l : a.0 < n = omega arith in
      let is : slice_index first_places a.0 ≡ h = sym (get_or-take n first_places a.0 0 l) ∙ a.2 in
      record {
        counted = counted.some;
        first = (a.0, l, subst (IsFirstIn p n a.0) is (first a.0 l));
        fresh = λ q e. absurd (omega arith);
      }

  births_first : (first_places : List ℕ) → slice_index counts 0 ≤ length first_places → AreFirstPlaces p (slice_index counts 0) first_places
      → (h : ℕ) → IsBirth p counts 0 h → IsAmong (take (slice_index counts 0) first_places) h
  births_first first_places le first h b =
      let n : ℕ = slice_index counts 0 in
      let long = length-take-le n first_places le in
      let c : ℕ = b.first.0 in
      let l : c < n = b.first.1 in
      let is : h ≡ slice_index first_places c = lead_one p n c h (slice_index first_places c) b.first.2 (first c l) in
      (c, omega arith, get_or-take n first_places c 0 l ∙ sym is)

  pub all_undone : (first_places rounds marked before : List ℕ) → IsBack p counts 0 first_places rounds before
      → AreWritten (λ _ v. v ≡ 0) rounds marked (take (slice_index counts 0) first_places)
      (length (take (slice_index counts 0) first_places)) → IsUndone p counts marked before
  all_undone first_places rounds marked before back written =
      let each = back.each in
      let below = counts_below p counts laid counted 0 counted.some in
      let le : slice_index counts 0 ≤ length first_places = omega arith in
      record {
        marked = marked_more 0 rounds marked (take (slice_index counts 0) first_places) counted.some back.marked written
            (first_births first_places le back.first) (births_first first_places le back.first);
        traced = back.traced;
      }
