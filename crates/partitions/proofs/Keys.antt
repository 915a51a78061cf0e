-- Classes are parted by keys, one run of equal keys after the other.
use Rattle.std.proofs.Common.{◌≡◌, ◌≤◌, ◌<◌, ℕ, ◌+◌, ◌-◌, List, sym, ◌∙◌, ap, subst, inl, inr, length, arith}
use Rattle.std.specs.Prelude.{◌↔◌, ◌⊎◌, slice_index}
use Rattle.std.specs.List.{between, All, range_with_len}
use Rattle.std.specs.List.Sorted.{IsPermutation}
use Rattle.std.proofs.lemmas.Bool.{cases_lt}
use Rattle.std.proofs.lemmas.List.{get_or-map, get_or_default, length-map}
use Rattle.std.proofs.lemmas.List.Edits.{get_or-between, length-between}
use Rattle.std.proofs.lemmas.List.Sorted.{Contains-permutation, IsPermutation-sym}
use Rattle.partitions.specs.declared.pairs.Pair.{Pair}
use Rattle.partitions.specs.Layouts.{Layout, size, class_in, IsLaid, NoneIsChosen}
use Rattle.partitions.specs.Refinements.{IsAmong, IsFiner, HasPair, IsPartedByNumbers, IsPartedByPairs, ArePlaces}
use Rattle.partitions.specs.steps.Steps.{IsPartedBy, places_of, key_of, pair_at, key_at, number_at}
use Rattle.partitions.proofs.Below.{all_below, each_among}
use Rattle.partitions.proofs.Sets.{finer_refl, finer_trans}

-- the key and the place at each index
module _ {K : Type 0} (key : ℕ → K) (places : List ℕ) where
  -- one of the first i has this key and is this place
  abbrev pub HasKey : ℕ → K → ℕ → Type 0
  HasKey i a x = (k : ℕ) × (k < i) × (key k ≡ a) × (slice_index places k ≡ x)

  abbrev pub HaveSameKeys : ℕ → ℕ → ℕ → Type 0
  HaveSameKeys i x z = (a : K) → HasKey i a x ↔ HasKey i a z

  -- each class is parted by the keys that its places have among the first i
  pub record IsPartedByFirst (old new : Layout) (i : ℕ) : Type 0 where
    pub laid : IsLaid new
    pub finer : IsFiner old new
    pub settled : NoneIsChosen new
    pub parts : (x z : ℕ) → x < size old → z < size old → (class_in new x ≡ class_in new z)
        ↔ ((class_in old x ≡ class_in old z) × HaveSameKeys i x z)

  pub parted_by_none : (p : Layout) → IsLaid p → NoneIsChosen p → IsPartedByFirst p p 0
  parted_by_none p laid settled = record {
    laid = laid;
    finer = finer_refl p;
    settled = settled;
    parts = λ x z l m. (
      λ e. (e, λ a. (λ h. absurd (let n = h.1 in omega arith), λ h. absurd (let n = h.1 in omega arith))),
      λ h. h.0,
    );
  }

  module _ (run : List ℕ) (at end : ℕ) (later : at < end) (within : end ≤ length places)
      (run_is : run ≡ between at end places) (same : (k : ℕ) → k < end → at ≤ k → key k ≡ key at)
      (apart : (j k : ℕ) → j < at → at ≤ k → k < length places → key j ≡ key k → ⊥) where
    run_length : length run ≡ end - at
    run_length = ap length run_is ∙ length-between places at end (omega arith)

    in_run : (k : ℕ) → k < end - at → slice_index run k ≡ slice_index places (at + k)
    in_run k l = ap (λ xs. slice_index xs k) run_is ∙ get_or-between places at end k 0 (omega arith)

    -- a key of the first ones is an earlier key, or that of the run
    has_before : (a : K) (x : ℕ) → HasKey at a x → HasKey end a x
    has_before a x h = let l = h.1 in (h.0, omega arith, h.2, h.3)

    has_in_run : (x : ℕ) → IsAmong run x → HasKey end (key at) x
    has_in_run x a =
        let l = a.1 in let n = run_length in
        (at + a.0, omega arith, same (at + a.0) (omega arith) (omega arith), sym (in_run a.0 (omega arith)) ∙ a.2)

    has_cases : (a : K) (x : ℕ) → HasKey end a x → HasKey at a x ⊎ ((a ≡ key at) × IsAmong run x)
    has_cases a x h =
        let l = h.1 in let n = run_length in
        elim (cases_lt h.0 at) [
          | inl m ↦ inl (h.0, m, h.2, h.3)
          | inr m ↦
              let back : at + (h.0 - at) ≡ h.0 = omega arith in
              inr (
                sym h.2 ∙ same h.0 l m,
                (
                  h.0 - at,
                  omega arith,
                  in_run (h.0 - at) (omega arith) ∙ ap (slice_index places) back ∙ h.3,
                ),
              )
        ]

    -- an earlier key isn't that of the run
    not_both : (x : ℕ) → HasKey at (key at) x → ⊥
    not_both x h = apart h.0 at h.1 (omega arith) (omega arith) h.2

    same_after : (x z : ℕ) → HaveSameKeys at x z → (IsAmong run x ↔ IsAmong run z) → (a : K) → HasKey end a x
        → HasKey end a z
    same_after x z s r a h = elim (has_cases a x h) [
      | inl b ↦ has_before a z ((s a).0 b)
      | inr b ↦ subst (λ k. HasKey end k z) (sym b.0) (has_in_run z (r.0 b.1))
    ]

    same_before : (x z : ℕ) → HaveSameKeys end x z → (a : K) → HasKey at a x → HasKey at a z
    same_before x z s a h = elim (has_cases a z ((s a).0 (has_before a x h))) [
      | inl b ↦ b
      | inr b ↦ absurd (not_both x (subst (λ k. HasKey at k x) b.0 h))
    ]

    same_in_run : (x z : ℕ) → HaveSameKeys end x z → IsAmong run x → IsAmong run z
    same_in_run x z s a = elim (has_cases (key at) z ((s (key at)).0 (has_in_run x a))) [
      | inl b ↦ absurd (not_both z b)
      | inr b ↦ b.1
    ]

    flip : (i x z : ℕ) → HaveSameKeys i x z → HaveSameKeys i z x
    flip i x z s a = ((s a).1, (s a).0)

    pub keys_more : (p q r : Layout) → IsPartedByFirst p q at → IsPartedBy q r run → IsPartedByFirst p r end
    keys_more p q r before parted =
        let sizes = before.finer.places in
        record {
          laid = parted.laid;
          finer = finer_trans p q r before.finer parted.finer;
          settled = parted.settled;
          parts = λ x z l m.
              let one = before.parts x z l m in
              let two = parted.parts x z (omega arith) (omega arith) in (
                λ e.
                    let now = two.0 e in
                    let was = one.0 now.0 in
                    let back : IsAmong run z ↔ IsAmong run x = (now.1.1, now.1.0) in
                    (was.0, λ a. (same_after x z was.1 now.1 a, same_after z x (flip at x z was.1) back a)),
                λ h.
                    let s = h.1 in
                    let t = flip end x z s in
                    two.1 (
                      one.1 (h.0, λ a. (same_before x z s a, same_before z x t a)),
                      (same_in_run x z s, same_in_run z x t),
                    ),
              );
        }

    -- where those of one key stand together, none of them is left behind
    pub apart_more : ((i j k : ℕ) → i ≤ j → j ≤ k → k < length places → key i ≡ key k → key j ≡ key i)
        → (end < length places → key end ≡ key at → ⊥)
        → (j k : ℕ) → j < end → end ≤ k → k < length places → key j ≡ key k → ⊥
    apart_more together ends j k l m n e = elim (cases_lt j at) [
      | inl b ↦ apart j k b (omega arith) n e
      | inr b ↦
          let here : key j ≡ key at = same j l b in
          let there : key end ≡ key j = together j end k (omega arith) m n e in
          ends (omega arith) (there ∙ here)
    ]

    -- the places of a run are places
    pub run_places : (n : ℕ) → ArePlaces n places → ArePlaces n run
    run_places n are k l =
        let m = run_length in
        let is = in_run k (omega arith) in
        let below = are (at + k) (omega arith) in
        omega arith

pub place_at : (ps : List Pair) (k : ℕ) → k < length ps → slice_index (places_of ps) k ≡ (pair_at ps k).place
place_at ps k l = get_or-map (λ a. a.place) ps k (record { position = 0; class = 0; place = 0 }) 0 l

pub are_places : (n : ℕ) (ps : List Pair) → All (λ a. a.place < n) ps → ArePlaces n (places_of ps)
are_places n ps all k l =
    let m = length-map ps (λ a. a.place) in
    let e = place_at ps k (omega arith) in
    let h = all k (record { position = 0; class = 0; place = 0 }) (omega arith) in
    omega arith

abbrev pair : ℕ → ℕ → ℕ → Pair
pair c i x = record { position = i; class = c; place = x }

pair_is : (a : Pair) (key : ℕ × ℕ) (x : ℕ) → key_of a ≡ key → a.place ≡ x → a ≡ pair key.0 key.1 x
pair_is a key x e f = λ n. pair (e n).0 (e n).1 (f n)

-- the keys of pairs, at their places
module _ (ps : List Pair) where
  abbrev Has : ℕ × ℕ → ℕ → Type 0
  Has = HasKey (key_at ps) (places_of ps) (length ps)

  to_pair : (c i x : ℕ) → Has (c, i) x → HasPair ps c i x
  to_pair c i x h = (
    h.0,
    h.1,
    get_or_default ps h.0 (pair c i x) (record { position = 0; class = 0; place = 0 }) h.1
        ∙ pair_is (pair_at ps h.0) (c, i) x h.2 (sym (place_at ps h.0 h.1) ∙ h.3),
  )

  to_key : (c i x : ℕ) → HasPair ps c i x → Has (c, i) x
  to_key c i x h =
      let e : pair_at ps h.0 ≡ pair c i x =
      get_or_default ps h.0 (record { position = 0; class = 0; place = 0 }) (pair c i x) h.1 ∙ h.2 in
      (h.0, h.1, ap key_of e, place_at ps h.0 h.1 ∙ ap (λ a. a.place) e)

  pub parted_by_all : (p q : Layout) → IsPartedByFirst (key_at ps) (places_of ps) p q (length ps)
      → IsPartedByPairs p q ps
  parted_by_all p q parted = record {
    laid = parted.laid;
    finer = parted.finer;
    settled = parted.settled;
    parts = λ x z l m.
        let by = parted.parts x z l m in (
          λ e. let h = by.0 e in (
            h.0,
            λ c i. (
              λ a. to_pair c i z ((h.1 (c, i)).0 (to_key c i x a)),
              λ a. to_pair c i x ((h.1 (c, i)).1 (to_key c i z a)),
            ),
          ),
          λ h. by.1 (
            h.0,
            λ key. (
              λ a. to_key key.0 key.1 z ((h.1 key.0 key.1).0 (to_pair key.0 key.1 x a)),
              λ a. to_key key.0 key.1 x ((h.1 key.0 key.1).1 (to_pair key.0 key.1 z a)),
            ),
          ),
        );
  }

-- numbers of places, in any order
module _ (numbers order : List ℕ) (moved : IsPermutation (range_with_len 0 (length numbers)) order) where
  abbrev Shows : ℕ → ℕ → Type 0
  Shows = HasKey (number_at numbers order) order (length order)

  own_number : (x : ℕ) → x < length numbers → Shows (slice_index numbers x) x
  own_number x l =
      let at = each_among (length numbers) order moved x l in (at.0, at.1, ap (slice_index numbers) at.2, at.2)

  is_number : (a x : ℕ) → Shows a x → slice_index numbers x ≡ a
  is_number a x h = sym (ap (slice_index numbers) h.3) ∙ h.2

  pub parted_by_all_numbers : (p q : Layout) → length numbers ≡ size p
      → IsPartedByFirst (number_at numbers order) order p q (length order) → IsPartedByNumbers p q numbers
  parted_by_all_numbers p q each parted = record {
    laid = parted.laid;
    finer = parted.finer;
    settled = parted.settled;
    parts = λ x z l m.
        let by = parted.parts x z l m in
        let mine = own_number x (omega arith) in
        let yours = own_number z (omega arith) in (
          λ e. let h = by.0 e in
              (h.0, sym (is_number (slice_index numbers x) z ((h.1 (slice_index numbers x)).0 mine))),
          λ h. by.1 (
            h.0,
            λ a. (
              λ b. subst (λ n. Shows n z) (sym h.1 ∙ is_number a x b) yours,
              λ b. subst (λ n. Shows n x) (h.1 ∙ is_number a z b) mine,
            ),
          ),
        );
  }

  pub are_below : (n : ℕ) → length numbers ≡ n → ArePlaces n order
  are_below n each k l = let below = all_below (length numbers) order moved k l in omega arith

-- the order of pairs doesn't matter
pub parted_by_given : (p q : Layout) (given ps : List Pair) → IsPermutation given ps → IsPartedByPairs p q ps
    → IsPartedByPairs p q given
parted_by_given p q given ps moved parted = record {
  laid = parted.laid;
  finer = parted.finer;
  settled = parted.settled;
  parts = λ x z l m.
      let by = parted.parts x z l m in
      let go : (c i y : ℕ) → HasPair given c i y → HasPair ps c i y =
      λ c i y h. Contains-permutation given ps (pair c i y) moved h in
      let back : (c i y : ℕ) → HasPair ps c i y → HasPair given c i y =
      λ c i y h. Contains-permutation ps given (pair c i y) (IsPermutation-sym given ps moved) h in (
        λ e. let h = by.0 e in (
          h.0,
          λ c i. (λ a. back c i z ((h.1 c i).0 (go c i x a)), λ a. back c i x ((h.1 c i).1 (go c i z a))),
        ),
        λ h. by.1 (
          h.0,
          λ c i. (λ a. go c i z ((h.1 c i).0 (back c i x a)), λ a. go c i x ((h.1 c i).1 (back c i z a))),
        ),
      );
}
