-- Births as keys, and sorted.
use Rattle.std.proofs.Common.{◌≡◌, ◌≢◌, ◌≤◌, ◌<◌, ℕ, zero, suc, ◌+◌, ◌-◌, ◌*◌, ◌/◌, ◌%◌, List, [], ◌∷◌, ◌++◌, sym, ◌∙◌, ap, subst, inl, inr, length, length-append, eqb, get_or, arith}
use Rattle.std.specs.Prelude.{slice_index, IsPermutation}
use Rattle.std.specs.List.{Contains, IsDistinct, range_with_len}
use Rattle.std.specs.List.Sorted.{IsNonDecreasing, IsStrictlyIncreasing}
use Rattle.std.proofs.lemmas.Bool.{cases_eq, ne_eqb}
use Rattle.std.proofs.lemmas.Bool.Decides.{nat_tests}
use Rattle.std.proofs.lemmas.List.{get_or_push, get_or_append_left, get_or_default}
use Rattle.std.proofs.lemmas.List.Elements.{Contains-push, Contains-append_left, Contains-get_or, at_from_Contains}
use Rattle.std.proofs.lemmas.List.Sorted.{length_permutation, Contains-permutation, IsPermutation-sym}
use Rattle.std.proofs.lemmas.Nat.{div-add-mod', div-mul-add}
use Rattle.std.proofs.lemmas.Map.Keys.{IsDistinct-from_apart, IsDistinct-IsPermutation, IsStrictlyIncreasing-from_distinct}
use Rattle.partitions.proofs.Below.{all_long, all_below, each_among}
use Rattle.partition_refinement.specs.steps.Working.{key_of, AreKeys, AreBirths}

pub mod_is : (x w i : ℕ) → i < w → (x * w + i) % w ≡ i
mod_is x w i l =
    let whole = div-add-mod' (x * w + i) w in
    let part : (x * w + i) / w ≡ x = div-mul-add x w i l in
    let both : (x * w + i) / w * w ≡ x * w = ap (λ q. q * w) part in
    omega arith

-- the same of the first n of these places
pub record AreKeysFirst (rounds places : List ℕ) (limit n : ℕ) (keys : List ℕ) : Type 0 where
  pub few : length keys ≤ n
  pub sound : (c : ℕ) → c < length keys → (k : ℕ) × (k < n) × (slice_index rounds (slice_index places k) < limit)
      × (slice_index keys c ≡ key_of (slice_index rounds (slice_index places k)) (slice_index places k))
  pub complete : (k : ℕ) → k < n → slice_index rounds (slice_index places k) < limit
      → Contains keys (key_of (slice_index rounds (slice_index places k)) (slice_index places k))
  pub apart : (c d : ℕ) → c < d → d < length keys → slice_index keys c % 4294967296 ≢ slice_index keys d % 4294967296

-- a place whose round isn't below
pub key_skipped : (rounds places : List ℕ) (limit n y : ℕ) (keys : List ℕ) → AreKeysFirst rounds places limit n keys
    → y ≡ slice_index places n → limit ≤ slice_index rounds y → AreKeysFirst rounds places limit (n + 1) keys
key_skipped rounds places limit n y keys before y_is none = record {
  few = let l = before.few in omega arith;
  sound = λ c l. let is = before.sound c l in let m = is.1 in (is.0, omega arith, is.2, is.3);
  complete = λ k l m. elim (cases_eq k n) [
    | inl same ↦
        let e : slice_index rounds (slice_index places k) ≡ slice_index rounds y =
        ap (slice_index rounds) (ap (slice_index places) same ∙ sym y_is) in
        absurd (omega arith)
    | inr o ↦ before.complete k (omega arith) m
  ];
  apart = before.apart;
}

-- one that is
pub key_more : (rounds places : List ℕ) (limit n y : ℕ) (keys more : List ℕ)
    → ((k : ℕ) → k < n + 1 → slice_index places k < 4294967296)
    → ((k : ℕ) → k < n → slice_index places k ≢ slice_index places n)
    → AreKeysFirst rounds places limit n keys → y ≡ slice_index places n
    → slice_index rounds y < limit → more ≡ keys ++ key_of (slice_index rounds y) y ∷ []
    → AreKeysFirst rounds places limit (n + 1) more
key_more rounds places limit n y keys more small differ before y_is below is =
    let key : ℕ = key_of (slice_index rounds y) y in
    let long : length more ≡ length keys + 1 = ap length is ∙ length-append keys (key ∷ []) in
    let few = before.few in
    let old : (c : ℕ) → c < length keys → slice_index more c ≡ slice_index keys c = λ c l.
    ap (λ l. slice_index l c) is ∙ get_or_append_left keys (key ∷ []) 0 c l in
    let new : (c : ℕ) → c ≡ length keys → slice_index more c ≡ key = λ c e.
    ap (λ l. slice_index l c) is ∙ get_or_push keys key 0 c (sym e) in
    let key_is : key ≡ key_of (slice_index rounds (slice_index places n)) (slice_index places n) =
    ap (λ x. key_of (slice_index rounds x) x) y_is in
    let y_small : y < 4294967296 = let l = small n (omega arith) in omega arith in
    let place : (c : ℕ) → c < length keys → slice_index keys c % 4294967296 ≢ y = λ c l h.
    let s = before.sound c l in
    let within = s.1 in
    let e : slice_index keys c % 4294967296 ≡ slice_index places s.0 =
    ap (λ k. k % 4294967296) s.3
    ∙ mod_is (slice_index rounds (slice_index places s.0)) 4294967296 (slice_index places s.0)
    (small s.0 (omega arith)) in
    differ s.0 s.1 (sym e ∙ h ∙ y_is) in
    record {
      few = omega arith;
      sound = λ c l. elim (cases_eq c (length keys)) [
        | inl e ↦ (n, omega arith, subst (λ x. slice_index rounds x < limit) y_is below, new c e ∙ key_is)
        | inr o ↦
            let s = before.sound c (omega arith) in
            let within = s.1 in
            (s.0, omega arith, s.2, old c (omega arith) ∙ s.3)
      ];
      complete = λ k l m. elim (cases_eq k n) [
        | inl same ↦
            subst (λ j. Contains more (key_of (slice_index rounds (slice_index places j)) (slice_index places j)))
            (sym same)
            (subst (λ l. Contains l (key_of (slice_index rounds (slice_index places n)) (slice_index places n))) (sym is)
            (subst (Contains (keys ++ key ∷ [])) key_is (Contains-push keys key)))
        | inr o ↦
            let was : ℕ = key_of (slice_index rounds (slice_index places k)) (slice_index places k) in
            subst (λ l. Contains l was) (sym is)
            (Contains-append_left keys (key ∷ []) was (before.complete k (omega arith) m))
      ];
      apart = λ c d l m h.
          let one : slice_index more c % 4294967296 ≡ slice_index keys c % 4294967296 =
          ap (λ k. k % 4294967296) (old c (omega arith)) in
          elim (cases_eq d (length keys)) [
            | inl e ↦
                let two : slice_index more d % 4294967296 ≡ y =
                ap (λ k. k % 4294967296) (new d e) ∙ mod_is (slice_index rounds y) 4294967296 y y_small in
                place c (omega arith) (sym one ∙ h ∙ two)
            | inr o ↦
                let two : slice_index more d % 4294967296 ≡ slice_index keys d % 4294967296 =
                ap (λ k. k % 4294967296) (old d (omega arith)) in
                before.apart c d l (omega arith) (sym one ∙ h ∙ two)
          ];
    }

-- all of them, in whichever order
pub keys_all : (rounds places : List ℕ) (limit n : ℕ) (keys : List ℕ) → n ≡ length places
    → IsPermutation (range_with_len 0 (length rounds)) places → AreKeysFirst rounds places limit n keys
    → AreKeys rounds limit (length rounds) keys
keys_all rounds places limit n keys e moved a =
    let long = all_long (length rounds) places moved in
    record {
      few = let few = a.few in omega arith;
      sound = λ c l.
          let s = a.sound c l in
          let within = s.1 in
          (slice_index places s.0, all_below (length rounds) places moved s.0 (omega arith), s.2, s.3);
      complete = λ h l m.
          let at = each_among (length rounds) places moved h l in
          let within = at.1 in
          subst (λ x. Contains keys (key_of (slice_index rounds x) x)) at.2
          (a.complete at.0 (omega arith) (subst (λ x. slice_index rounds x < limit) (sym at.2) m));
      apart = a.apart;
    }

increasing_far : (xs : List ℕ) → IsStrictlyIncreasing xs → (n c : ℕ) → c + 1 + n < length xs
    → slice_index xs c < slice_index xs (c + 1 + n)
increasing_far xs rises zero c l =
    let next = rises c (omega arith) in
    let e : slice_index xs (c + 1) ≡ slice_index xs (c + 1 + 0) = ap (slice_index xs) (omega arith) in
    omega arith
increasing_far xs rises (suc n) c l =
    let before = increasing_far xs rises n c (omega arith) in
    let next = rises (c + 1 + n) (omega arith) in
    let e : slice_index xs (c + 1 + n + 1) ≡ slice_index xs (c + 1 + suc n) = ap (slice_index xs) (omega arith) in
    omega arith

increasing_all : (xs : List ℕ) → IsStrictlyIncreasing xs → (c d : ℕ) → c < d → d < length xs
    → slice_index xs c < slice_index xs d
increasing_all xs rises c d l m =
    let far = increasing_far xs rises (d - (c + 1)) c (omega arith) in
    let e : slice_index xs (c + 1 + (d - (c + 1))) ≡ slice_index xs d = ap (slice_index xs) (omega arith) in
    omega arith

keys_distinct : (rounds : List ℕ) (limit n : ℕ) (keys : List ℕ) → AreKeys rounds limit n keys → IsDistinct eqb keys
keys_distinct rounds limit n keys all =
    IsDistinct-from_apart eqb keys
    (λ i j d l m.
    let i_is : get_or keys i d ≡ slice_index keys i = get_or_default keys i d 0 (omega arith) in
    let j_is : get_or keys j d ≡ slice_index keys j = get_or_default keys j d 0 m in
    let apart = all.apart i j l m in
    ne_eqb (get_or keys i d) (get_or keys j d)
    (λ e.
    let same : slice_index keys i ≡ slice_index keys j = sym i_is ∙ e ∙ j_is in
    let places : slice_index keys i % 4294967296 ≡ slice_index keys j % 4294967296 =
    ap (λ k. k % 4294967296) same in
    apart places))

pub births_sorted : (rounds : List ℕ) (limit : ℕ) (keys births : List ℕ) → AreKeys rounds limit (length rounds) keys
    → IsPermutation keys births → IsNonDecreasing births → AreBirths rounds limit births
births_sorted rounds limit keys births all moved falls =
    let long : length births ≡ length keys = length_permutation keys births moved in
    let back : IsPermutation births keys = IsPermutation-sym keys births moved in
    let distinct : IsDistinct eqb births =
    IsDistinct-IsPermutation eqb (λ x y. grind (arith, nat_tests)) keys births moved
    (keys_distinct rounds limit (length rounds) keys all) in
    record {
      few = let few = all.few in omega arith;
      sound = λ c l.
          let there = Contains-permutation births keys (slice_index births c) back (Contains-get_or births c 0 l) in
          let at = at_from_Contains keys (slice_index births c) there in
          let s = all.sound at.0 at.1 in
          (s.0, s.1, s.2, sym (at.2 0) ∙ s.3);
      complete = λ h l m.
          let key : ℕ = key_of (slice_index rounds h) h in
          let there = Contains-permutation keys births key moved (all.complete h l m) in
          let at = at_from_Contains births key there in
          (at.0, at.1, at.2 0);
      rises = increasing_all births (IsStrictlyIncreasing-from_distinct births falls distinct);
    }
