-- Births by rounds: who is the first of a class stays it, and becomes it once.
use Rattle.std.proofs.Common.{◌≡◌, ◌≤◌, ◌<◌, ℕ, zero, suc, ◌+◌, ◌-◌, List, length, ap, subst, inl, inr, arith}
use Rattle.std.specs.Prelude.{slice_index}
use Rattle.std.proofs.lemmas.Bool.{cases_lt, cases_order}
use Rattle.partitions.specs.Layouts.{Layout, count, class_in, parent_of, IsLaid}
use Rattle.partitions.specs.Refinements.{Above, here, up}
use Rattle.partitions.proofs.Splitting.{count_le_size}
use Rattle.partition_refinement.specs.Firsts.{IsFirst, AreParted}
use Rattle.partition_refinement.specs.Births.{AreCounts, IsBirth}
use Rattle.partition_refinement.proofs.Climbing.{above_join}

pub above_less : (ps : List ℕ) (base c a : ℕ) → Above ps base c a → a < base
above_less ps base c a (here d l) = l
above_less ps base c a (up d e l m rest) = above_less ps base (slice_index ps d) e rest

-- each class was part of one
above_in : (p : Layout) (low base n c : ℕ) → AreParted p low → low ≤ base → c < n → c < count p
    → (a : ℕ) × Above p.parent base c a
above_in p low base zero c parted le l m = absurd (omega arith)
above_in p low base (suc n) c parted le l m = elim (cases_lt c base) [
  | inl k ↦ (c, here c k)
  | inr k ↦
      let falls : parent_of p c < c = parted c (omega arith) m in
      let rest = above_in p low base n (parent_of p c) parted le (omega arith) (omega arith) in
      (rest.0, up c rest.0 k falls rest.1)
]

pub above_there : (p : Layout) (low base c : ℕ) → AreParted p low → low ≤ base → c < count p
    → (a : ℕ) × Above p.parent base c a
above_there p low base c parted le l = above_in p low base (c + 1) c parted le (omega arith) l

-- the class above x among more classes is itself part of the class above x among fewer
above_split : (ps : List ℕ) (low high x a c : ℕ) → low ≤ high → Above ps low x a → Above ps high x c → Above ps low c a
above_split ps low high x a c le one (here d l) = one
above_split ps low high x a c le (here d k) (up e f l m rest) = absurd (omega arith)
above_split ps low high x a c le (up d b k n more) (up e f l m rest) =
    above_split ps low high (slice_index ps d) b f le more rest

-- who is the first of a class is so when there are more
pub leads_stay : (p : Layout) (low d e h : ℕ) → IsLaid p → AreParted p low → low ≤ d → d ≤ e → IsFirst p d h → IsFirst p e h
leads_stay p low d e h laid parted le more first_places =
    let first = first_places.2 in
    let known : class_in p h < count p = (laid.within h first.within).known in
    let there = above_there p low e (class_in p h) parted (omega arith) known in
    let c : ℕ = there.0 in
    let joined : Above p.parent d c first_places.0 = above_split p.parent d e (class_in p h) first_places.0 c more first.there there.1 in (
      c,
      above_less p.parent e (class_in p h) c there.1,
      record {
        within = first.within;
        there = there.1;
        least = λ x l a. first.least x l (above_join p.parent d e (class_in p x) c first_places.0 more a joined);
      },
    )

module _ (p : Layout) (counts : List ℕ) (laid : IsLaid p) (counted : AreCounts p counts) where
  abbrev at : ℕ → ℕ
  at r = slice_index counts r

  pub counts_rise : (n q : ℕ) → q + n < length counts → at q + n ≤ at (q + n)
  counts_rise zero q l = let e : q ≡ q + 0 = omega arith in let f : at q ≡ at (q + 0) = ap at e in omega arith
  counts_rise (suc n) q l =
      let before = counts_rise n q (omega arith) in
      let rises = counted.rising (q + n) (omega arith) in
      let e : q + n + 1 ≡ q + suc n = omega arith in
      let f : at (q + n + 1) ≡ at (q + suc n) = ap at e in
      omega arith

  pub counts_le : (q r : ℕ) → q ≤ r → r < length counts → at q ≤ at r
  counts_le q r le l =
      let e : q + (r - q) ≡ r = omega arith in
      let f : at (q + (r - q)) ≡ at r = ap at e in
      let rise = counts_rise (r - q) q (omega arith) in
      omega arith

  pub counts_below : (r : ℕ) → r < length counts → at r ≤ count p
  counts_below r l =
      let some = counted.some in
      let e = counted.last (length counts - 1) (omega arith) in
      let le = counts_le r (length counts - 1) (omega arith) (omega arith) in
      omega arith

  -- there are no more rounds than places, but for the first
  pub rounds_few : length counts < 4294967296
  rounds_few =
      let some = counted.some in
      let rise = counts_rise (length counts - 1) 0 (omega arith) in
      let below = counts_below (0 + (length counts - 1)) (omega arith) in
      let le = count_le_size p laid in
      let few = laid.few in
      elim (cases_lt 0 (at 0)) [
        | inl l ↦ omega arith
        | inr none ↦ elim (cases_lt 0 (count p)) [
          | inl l ↦ absurd (let falls = counted.parted 0 none l in omega arith)
          | inr empty ↦ omega arith
        ]
      ]

  pub firsts_stay : (q r h : ℕ) → q ≤ r → r < length counts → IsFirst p (at q) h → IsFirst p (at r) h
  firsts_stay q r h le l first_places =
      leads_stay p (at 0) (at q) (at r) h laid counted.parted (counts_le 0 q (omega arith) (omega arith))
      (counts_le q r le l) first_places

  not_again : (q r h : ℕ) → IsBirth p counts q h → IsBirth p counts r h → q < r → ⊥
  not_again q r h a b l =
      let counted_r = b.counted in
      b.fresh (r - 1) (omega arith) (firsts_stay q (r - 1) h (omega arith) (omega arith) a.first)

  pub birth_once : (q r h : ℕ) → IsBirth p counts q h → IsBirth p counts r h → q ≡ r
  birth_once q r h a b = elim (cases_order q r) [
    | inl e ↦ e
    | inr (inl l) ↦ absurd (not_again q r h a b l)
    | inr (inr l) ↦ absurd (not_again r q h b a l)
  ]

  -- who never becomes a first is none
  pub unborn : (r h : ℕ) → ((q : ℕ) → IsBirth p counts q h → ⊥) → r < length counts → IsFirst p (at r) h → ⊥
  unborn zero h none l first_places = none 0 (record {
    counted = l;
    first = first_places;
    fresh = λ q e. absurd (omega arith);
  })
  unborn (suc r) h none l first_places = none (suc r) (record {
    counted = l;
    first = first_places;
    fresh = λ q e earlier.
        let same : q ≡ r = omega arith in
        unborn r h none (omega arith) (subst (λ k. IsFirst p (at k) h) same earlier);
  })
