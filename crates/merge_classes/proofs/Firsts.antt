-- The first places of classes are their first members, and no class is without one.
use Rattle.std.proofs.Common.{◌≡◌, ◌≢◌, ◌≤◌, ◌<◌, ℕ, zero, suc, ◌+◌, ◌^◌, Bool, true, List, [], ◌∷◌, cond, length, Some, refl, sym, ◌∙◌, ap, subst, inl, inr, eqb, eqb-true, eq-eqb, get_or, arith}
use Rattle.std.specs.Prelude.{◌==◌, slice_get, slice_index}
use Rattle.std.specs.List.{IsDistinct, list_any}
use Rattle.std.proofs.lemmas.Bool.{cases_order, ne_eqb, or_cases}
use Rattle.std.proofs.lemmas.List.{get_or_default, length-map}
use Rattle.std.proofs.lemmas.Map.Keys.{IsDistinct-from_apart}
use Rattle.std.proofs.lemmas.Map.Steps.{length-le_from_distinct_below}
use Rattle.partitions.specs.Layouts.{Layout, size, count, class_in, IsLaid}
use Rattle.partition_refinement.specs.declared.numbering.Origin.{Origin}
use Rattle.partition_refinement.specs.Births.{AreCounts, IsBirth}
use Rattle.partition_refinement.specs.Firsts.{IsFirst, IsFirstIn}
use Rattle.partition_refinement.specs.Numbers.{began, IsNumbering}
use Rattle.partition_refinement.proofs.Counting.{birth_once, firsts_stay}
use Rattle.partition_refinement.proofs.Leading.{lead_one}
use Rattle.partition_refinement.proofs.Turns.{above_one}
use Rattle.value_equality.specs.Rows.{Row, IsPopulation, names}
use Rattle.value_equality.specs.Standard.{IsStandard}
use Rattle.value_equality.specs.Standard as standard
use Rattle.value_equality.specs.Tables as tables
use Rattle.value_equality.specs.Tables.{class_at, last_class, itself}
use Rattle.value_equality.proofs.Ancestors.{classes_are_ancestors}
use Rattle.value_equality.proofs.Unique.{apart_at}
use Rattle.merge_classes.specs.Laws.{members_of, origin_in, table_of}
use Rattle.merge_classes.specs.steps.ComputedFirsts.{AreFirsts}
use Rattle.row_signatures.proofs.Naming.{once, names_long}

item_at : {A : Type 0} (xs : List A) (i : ℕ) → i < length xs → (x : A) × (slice_get xs i ≡ Some x)
item_at [] i l = absurd (omega (arith, l))
item_at (y ∷ xs) zero l = (y, refl)
item_at (y ∷ xs) (suc i) l = item_at xs i (omega (arith, l))

-- a number that is found stands somewhere
index_of : (xs : List ℕ) (q : ℕ) → list_any (eqb q) xs ≡ true → (i : ℕ) × (i < length xs) × (slice_index xs i ≡ q)
index_of [] q h = absurd (cc)
index_of (x ∷ xs) q h = elim (or_cases (eqb q x) (list_any (eqb q) xs) h) [
  | inl here ↦ (0, omega arith, sym (eqb-true q x here))
  | inr there ↦ (let rest = index_of xs q there in let l = rest.1 in (suc rest.0, omega (arith, l), rest.2))
]

-- a name's class
last_member : (ys ms : List ℕ) → IsDistinct (◌==◌) ys → length ms ≡ length ys → (i : ℕ) → i < length ys
    → last_class (members_of ys ms) (slice_index ys i) ≡ Some (slice_index ms i)
unfolding IsDistinct
last_member [] ms d e i l = absurd (omega (arith, l))
last_member (y ∷ ys) [] d e i l = absurd (omega (arith, e))
last_member (y ∷ ys) (m ∷ ms) d e zero l =
    ap (λ b. cond b (Some m) (last_class (members_of ys ms) y)) (eq-eqb y y refl)
last_member (y ∷ ys) (m ∷ ms) d e (suc i) l =
    ap (λ b. cond b (Some m) (last_class (members_of ys ms) (slice_index ys i))) (apart_at y ys i (omega (arith, l)) d.0)
    ∙ last_member ys ms d.1 (omega (arith, e)) i (omega (arith, l))

module _ (p : Layout) (counts firsts : List ℕ) (origins : List Origin) (members : List ℕ) (laid : IsLaid p)
    (counted : AreCounts p counts) (numbered : IsNumbering p counts firsts origins members) where
  born : (c : ℕ) → c < length firsts → (o : Origin) × (slice_get origins c ≡ Some o)
  born c l = let each = numbered.each in item_at origins c (omega (arith, l, each))

  -- a first place is one at the end
  first_at_end : (last : ℕ) → last + 1 ≡ length counts → (c : ℕ) → c < length firsts
      → IsFirst p (count p) (slice_index firsts c)
  first_at_end last rounds c l =
      let o = born c l in
      let birth = numbered.births c o.0 o.1 in
      let in_time = birth.counted in
      subst (λ k. IsFirst p k (slice_index firsts c)) (counted.last last rounds)
      (firsts_stay p counts laid counted (began o.0) last (slice_index firsts c) (omega (arith, in_time, rounds))
      (omega (arith, rounds)) birth.first)

  clash : (c d : ℕ) → c < d → d < length firsts → slice_index firsts c ≡ slice_index firsts d → ⊥
  clash c d lt m e =
      let o = born c (omega (arith, lt, m)) in
      let u = born d m in
      let there = subst (IsBirth p counts (began u.0)) (sym e) (numbered.births d u.0 u.1) in
      let round : began o.0 ≡ began u.0 =
      birth_once p counts laid counted (began o.0) (began u.0) (slice_index firsts c)
      (numbered.births c o.0 o.1) there in
      elim (numbered.ordered c d o.0 u.0 lt o.1 u.1) [
        | inl before ↦ omega (arith, before, round)
        | inr same ↦ (let less = same.1 in omega (arith, less, e))
      ]

  -- different classes have different first places
  place_once : (c d : ℕ) → c < length firsts → d < length firsts → slice_index firsts c ≡ slice_index firsts d → c ≡ d
  place_once c d l m e = elim (cases_order c d) [
    | inl same ↦ same
    | inr (inl lt) ↦ absurd (clash c d lt m e)
    | inr (inr lt) ↦ absurd (clash d c lt l (sym e))
  ]

  -- so there are no more classes than places
  pub classes_few : (last : ℕ) → last + 1 ≡ length counts → length origins < 2 ^ 32
  classes_few last rounds =
      let distinct : IsDistinct eqb firsts =
      IsDistinct-from_apart eqb firsts (λ i j d l m.
      ne_eqb (get_or firsts i d) (get_or firsts j d) (λ e.
      clash i j l m (sym (get_or_default firsts i d 0 (omega (arith, l, m))) ∙ e ∙ get_or_default firsts j d 0 m))) in
      let few : length firsts ≤ size p = length-le_from_distinct_below firsts (size p) distinct (λ q h.
      let at = index_of firsts q h in
      subst (λ k. k < size p) at.2 ((first_at_end last rounds at.0 at.1).2.within)) in
      let each = numbered.each in
      let small = laid.few in
      omega (arith, few, each, small)

  module _ (last : ℕ) (rounds : last + 1 ≡ length counts) where
    own_class : (c : ℕ) → c < length firsts → slice_index members (slice_index firsts c) ≡ c
    own_class c l =
        let h : ℕ = slice_index firsts c in
        let f = first_at_end last rounds c l in
        let m = numbered.member h f.2.within in
        let g : ℕ = slice_index firsts (slice_index members h) in
        let one : m.1.0 ≡ f.0 = above_one p.parent (count p) (class_in p h) m.1.0 f.0 m.1.1 f.2.there in
        let head : g ≡ h =
        lead_one p (count p) f.0 g h (subst (λ k. IsFirstIn p (count p) k g) one m.1.2) f.2 in
        place_once (slice_index members h) c m.0 l head

    earliest : (c j : ℕ) → c < length firsts → j < slice_index firsts c → slice_index members j ≢ c
    earliest c j l lt e =
        let within = (first_at_end last rounds c l).2.within in
        let there : j < size p = omega (arith, lt, within) in
        let m = numbered.member j there in
        let least : slice_index firsts (slice_index members j) ≤ j = m.1.2.least j there m.1.1 in
        let same : slice_index firsts (slice_index members j) ≡ slice_index firsts c = ap (slice_index firsts) e in
        omega (arith, lt, least, same)

    module _ (P : List Row) (pinned : ℕ → Bool) (population : IsPopulation P) (size_is : size p ≡ length P)
        (is : IsStandard P pinned (table_of (names P) last origins members)) where
      abbrev t : tables.Table
      t = table_of (names P) last origins members

      in_time : (c : ℕ) (o : tables.Origin) → slice_get t.classes c ≡ Some o → tables.began o ≤ last
      in_time c tables.start e = omega arith
      in_time c (tables.split parent since) e = (is.well_formed.parents c parent since e).in_time

      class_there : (i : ℕ) → i < length P → slice_index members i < length t.classes
          → class_at t (slice_index (names P) i) last ≡ Some (slice_index members i)
      class_there i l m =
          let long = names_long P in
          let places = numbered.places in
          let o = item_at t.classes (slice_index members i) m in
          (classes_are_ancestors t (slice_index (names P) i) last (slice_index members i)).1 (
            slice_index members i,
            last_member (names P) members population.distinct (omega (arith, long, places, size_is)) i
                (omega (arith, l, long)),
            itself (slice_index members i) o.0 o.1 (in_time (slice_index members i) o.0 o.1),
          )

      classes_long : length t.classes ≡ length firsts
      classes_long = length-map origins origin_in ∙ numbered.each

      at_place : (i : ℕ) → i < length P → class_at t (slice_index (names P) i) last ≡ Some (slice_index members i)
      at_place i l =
          let m = (numbered.member i (omega (arith, l, size_is))).0 in
          class_there i l (let long = classes_long in omega (arith, m, long))

      first_member : (c : ℕ) → c < length firsts → standard.IsFirstOfClass (names P) t last c (slice_index firsts c)
      first_member c l =
          let within = (first_at_end last rounds c l).2.within in
          let long = names_long P in
          record {
            within = omega (arith, within, long, size_is);
            there = at_place (slice_index firsts c) (omega (arith, within, size_is)) ∙ ap Some (own_class c l);
            earliest = λ j lt h. earliest c j l lt
                (once (slice_index members j) c (sym (at_place j (omega (arith, lt, within, size_is))) ∙ h));
          }

      pub firsts_are : AreFirsts t firsts
      firsts_are = record {
        each = sym classes_long;
        first = λ c l. subst (λ ns. standard.IsFirstOfClass ns t last c (slice_index firsts c)) (sym is.members) (first_member c l);
      }
