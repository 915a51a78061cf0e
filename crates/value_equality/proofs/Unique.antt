-- There is at most one table that partition refinement makes.
use Rattle.std.proofs.Common.{◌≡◌, ◌≤◌, ◌<◌, ℕ, zero, suc, Bool, true, false, List, [], ◌∷◌, Option, Some, None, refl, sym, ◌∙◌, ◌+◌, ap, subst, ◌⊎◌, inl, inr, arith, add-one, length, eq-eqb}
use Rattle.std.specs.Prelude.{◌==◌, cond, map, slice_get, slice_index}
use Rattle.std.specs.List.{IsDistinct, AllByRecursion}
use Rattle.std.proofs.lemmas.Bool.{cases_lt, cases_order, false_from_ne_true}
use Rattle.std.proofs.lemmas.Option.{slice_get_within}
use Rattle.value_equality.specs.Rows.{Row, names, IsPopulation}
use Rattle.value_equality.specs.Tables.{Origin, start, split, began, Table, IsAncestor, itself, through, last_class, class_at, same_class, shares}
use Rattle.value_equality.specs.Standard.{IsRefinement, IsFirstOfClass, ClassBegins, IsStandard}
use Rattle.value_equality.specs.Laws.{StandardIsUnique}
use Rattle.value_equality.proofs.Pairs.{agree_under_grows}
use Rattle.value_equality.proofs.Few.{same_class_back}
use Rattle.value_equality.proofs.Ancestors.{classes_are_ancestors}
use Rattle.value_equality.proofs.Numbering.{WasBound, IsNew, same_class_is, is_same_class, in_class, origin_at, at_began, at_parent, first_in, begins_in_time, split_of, new_from_begins, begins_from_new}

-- refinements have the same partitions
refined_same : (P : List Row) (pinned : ℕ → Bool) (E F : ℕ → ℕ → ℕ → Bool) (m n : ℕ) → IsRefinement P pinned E m
    → IsRefinement P pinned F n → (round : ℕ) → round ≤ m → round ≤ n → (x z : ℕ) → E round x z ≡ true
    → F round x z ≡ true
refined_same P pinned E F m n re rf zero h k x z e = (rf.first x z).1 ((re.first x z).0 e)
refined_same P pinned E F m n re rf (suc r) h k x z e =
    let before : (y w : ℕ) → E r y w ≡ true → F r y w ≡ true = refined_same P pinned E F m n re rf r (omega arith)
    (omega arith) in
    let parts = (re.next r x z (omega arith)).0 (subst (λ i. E i x z ≡ true) (sym (add-one r)) e) in
    subst (λ i. F i x z ≡ true) (add-one r)
    ((rf.next r x z (omega arith)).1 (
      before x z parts.0,
      agree_under_grows P pinned (E r) (F r) before x z
          parts.1,
    ))

-- No refinement has more rounds than another.
refined_as_long : (P : List Row) (pinned : ℕ → Bool) (E F : ℕ → ℕ → ℕ → Bool) (m n : ℕ) → IsRefinement P pinned E m
    → IsRefinement P pinned F n → m < n → ⊥
refined_as_long P pinned E F m n re rf l =
    let parted = rf.parts m l in
    let x : ℕ = parted.0 in
    let z : ℕ = parted.1 in
    let together : E m x z ≡ true = refined_same P pinned F E n m rf re m (omega arith) (omega arith) x z parted.2 in
    let agree = agree_under_grows P pinned (E m) (F m) (refined_same P pinned E F m n re rf m (omega arith)
    (omega arith)) x z (re.stable x z together) in
    let yes : F (m + 1) x z ≡ true = (rf.next m x z l).1 (parted.2, agree) in
    let none : F (m + 1) x z ≡ false = parted.3 in
    cc

new_same : (E F : ℕ → ℕ → ℕ → Bool) (ys : List ℕ) (round i last : ℕ) → round ≤ last
    → ((r : ℕ) → r ≤ last → (x z : ℕ) → E r x z ≡ true → F r x z ≡ true)
    → ((r : ℕ) → r ≤ last → (x z : ℕ) → F r x z ≡ true → E r x z ≡ true) → IsNew E ys round i → IsNew F ys round i
new_same E F ys round i last h f g new = record {
  within = new.within;
  first = λ j l. false_from_ne_true (F round (slice_index ys j) (slice_index ys i)) (λ k.
      let yes : E round (slice_index ys j) (slice_index ys i) ≡ true = g round h (slice_index ys j) (slice_index ys i) k
      in
      let none : E round (slice_index ys j) (slice_index ys i) ≡ false = new.first j l in cc);
  bound = bound_same round h new.bound;
}
  where
    bound_same : (r : ℕ) → r ≤ last → WasBound E ys r i → WasBound F ys r i
    bound_same zero k b = tt
    bound_same (suc r) k b = (b.0, b.1, f r (omega arith) (slice_index ys b.0) (slice_index ys i) b.2)

lists_same : {A : Type 0} → (xs ys : List A) → ((i : ℕ) → slice_get xs i ≡ slice_get ys i) → xs ≡ ys
lists_same [] [] f = refl
lists_same [] (y ∷ ys) f = absurd (let e = f 0 in cc)
lists_same (x ∷ xs) [] f = absurd (let e = f 0 in cc)
lists_same (x ∷ xs) (y ∷ ys) f = let first = f 0 in let rest = lists_same xs ys (λ i. f (suc i)) in cc

pub apart_at : (y : ℕ) (zs : List ℕ) (i : ℕ) → i < length zs → AllByRecursion (λ z. (y == z) ≡ false) zs
    → (y == slice_index zs i) ≡ false
apart_at y [] i l a = absurd (omega arith)
apart_at y (z ∷ zs) zero l a = a.0
apart_at y (z ∷ zs) (suc i) l a = apart_at y zs i (omega arith) a.1

members_same : (ms ns : List (ℕ × ℕ)) (ys : List ℕ) → map (λ m. m.0) ms ≡ ys → map (λ m. m.0) ns ≡ ys
    → IsDistinct (◌==◌) ys → ((i : ℕ) → i < length ys → last_class ms (slice_index ys i) ≡ last_class ns
    (slice_index ys i)) → ms ≡ ns
unfolding IsDistinct
members_same [] [] ys e f d g = refl
members_same [] (n ∷ ns) ys e f d g = absurd (cc)
members_same (m ∷ ms) [] ys e f d g = absurd (cc)
members_same (m ∷ ms) (n ∷ ns) [] e f d g = absurd (cc)
members_same (m ∷ ms) (n ∷ ns) (y ∷ ys) e f d g =
    let one : m.0 ≡ y = cc in
    let two : n.0 ≡ y = cc in
    let here : cond (m.0 == y) (Some m.1) (last_class ms y) ≡ cond (n.0 == y) (Some n.1) (last_class ns y) =
    g 0 (omega arith) in
    let classes : Some m.1 ≡ Some n.1 = ap (λ b. cond b (Some m.1) (last_class ms y)) (sym (eq-eqb m.0 y one)) ∙ here
    ∙ ap (λ b. cond b (Some n.1) (last_class ns y)) (eq-eqb n.0 y two) in
    let rest = members_same ms ns ys (cc) (cc) d.1 (λ i l.
    let apart : (y == slice_index ys i) ≡ false = apart_at y ys i l d.0 in
    ap (λ b. cond b (Some m.1) (last_class ms (slice_index ys i))) (sym (ap (λ w. w == slice_index ys i) one ∙ apart))
    ∙ g (suc i) (omega arith) ∙ ap (λ b. cond b (Some n.1) (last_class ns (slice_index ys i)))
    (ap (λ w. w == slice_index ys i) two ∙ apart)) in
    let names_same : m.0 ≡ n.0 = one ∙ sym two in
    let classes_same : m.1 ≡ n.1 = cc in
    let first : m ≡ n = ap (λ a. (a, m.1)) names_same ∙ ap (λ b. (n.0, b)) classes_same in
    cc

pub begins_once : (ys : List ℕ) (t : Table) (c round later i j : ℕ) → ClassBegins ys t c round i → ClassBegins ys t c later j
    → (round ≡ later) × (i ≡ j)
begins_once ys t c round later i j a b =
    let one : a.origin ≡ b.origin = (let e = a.origin_is in let f = b.origin_is in cc) in
    let rounds : round ≡ later = sym a.began_at ∙ ap began one ∙ b.began_at in (
      rounds,
      elim (cases_order i j) [
        | inl e ↦ e
        | inr (inl l) ↦ absurd (b.first.earliest i l (subst (λ r. class_at t (slice_index ys i) r ≡ Some c) rounds
            a.first.there))
        | inr (inr l) ↦ absurd (a.first.earliest j l (subst (λ r. class_at t (slice_index ys j) r ≡ Some c) (sym rounds)
            b.first.there))
      ],
    )

-- by round, then by index
abbrev pub IsBefore : ℕ → ℕ → ℕ → ℕ → Type 0
IsBefore round i later j = (round < later) ⊎ ((round ≡ later) × (i < j))

not_both : (round i later j : ℕ) → IsBefore round i later j → IsBefore later j round i → ⊥
not_both round i later j (inl h) (inl k) = omega arith
not_both round i later j (inl h) (inr k) = let e = k.0 in omega arith
not_both round i later j (inr h) (inl k) = let e = h.0 in omega arith
not_both round i later j (inr h) (inr k) = let e = h.1 in let f = k.1 in omega arith

not_itself : (round i later j : ℕ) → round ≡ later → i ≡ j → IsBefore round i later j → ⊥
not_itself round i later j e f (inl h) = omega arith
not_itself round i later j e f (inr h) = let g = h.1 in omega arith

-- what begins in the one table begins in the other
module _ (P : List Row) (pinned : ℕ → Bool) (population : IsPopulation P) where
  abbrev Goes : Table → Table → ℕ → Type 0
  Goes s t c = (round i : ℕ) → ClassBegins (names P) s c round i → ClassBegins (names P) t c round i

  rounds_same : (s t : Table) → IsStandard P pinned s → IsStandard P pinned t → s.rounds ≡ t.rounds
  rounds_same s t ss st = elim (cases_order s.rounds t.rounds) [
    | inl e ↦ e
    | inr (inl l) ↦ absurd (refined_as_long P pinned (shares s) (shares t) s.rounds t.rounds ss.refines st.refines l)
    | inr (inr l) ↦ absurd (refined_as_long P pinned (shares t) (shares s) t.rounds s.rounds st.refines ss.refines l)
  ]

  shares_same : (s t : Table) → IsStandard P pinned s → IsStandard P pinned t → (round : ℕ) → round ≤ s.rounds
      → (x z : ℕ) → shares s round x z ≡ true → shares t round x z ≡ true
  shares_same s t ss st round h =
      let e = rounds_same s t ss st in
      refined_same P pinned (shares s) (shares t) s.rounds t.rounds ss.refines st.refines round h (omega arith)

  -- with some number ..
  carried : (s t : Table) → IsStandard P pinned s → IsStandard P pinned t → (c round i : ℕ) → ClassBegins (names P) s c round
      i → (d : ℕ) × ClassBegins (names P) t d round i
  carried s t ss st c round i b =
      let e = rounds_same s t ss st in
      let h = begins_in_time P pinned s population ss c round i b in
      begins_from_new P pinned t population st round i (omega arith)
      (new_same (shares s) (shares t) (names P) round i s.rounds h (shares_same s t ss st)
      (λ r k. shares_same t s st ss r (omega arith))
      (new_from_begins P pinned s population ss c round i b))

  -- The number of the class in the other table isn't greater.
  not_greater : (s t : Table) → IsStandard P pinned s → IsStandard P pinned t → (c d round i : ℕ)
      → ((e : ℕ) → e < c → Goes s t e) → ClassBegins (names P) s c round i → ClassBegins (names P) t d round i → c < d → ⊥
  not_greater s t ss st c d round i there b found l =
      let used = st.numbered.used c (let k = slice_get_within t.classes d found.origin found.origin_is in omega arith)
      in
      let before : IsBefore used.0 used.1 round i = st.numbered.ordered c d used.0 round used.1 i l used.2 found in
      let other = carried t s st ss c used.0 used.1 used.2 in
      elim (cases_order c other.0) [
        | inl e ↦
            let once = begins_once (names P) s c used.0 round used.1 i (subst (λ n. ClassBegins (names P) s n used.0 used.1)
            (sym e) other.1) b in
            not_itself used.0 used.1 round i once.0 once.1 before
        | inr (inl k) ↦ not_both used.0 used.1 round i before (ss.numbered.ordered c other.0 round used.0 i used.1 k b
            other.1)
        | inr (inr k) ↦ not_itself used.0 used.1 used.0 used.1 refl refl (st.numbered.ordered other.0 c used.0 used.0
            used.1 used.1 k (there other.0 k used.0 used.1 other.1) used.2)
      ]

  -- The number of the class in the other table is the same.
  same_number : (s t : Table) → IsStandard P pinned s → IsStandard P pinned t → (c : ℕ) → ((d : ℕ) → d < c → Goes s t d)
      → ((d : ℕ) → d < c → Goes t s d) → Goes s t c
  same_number s t ss st c there back round i b =
      let found = carried s t ss st c round i b in
      elim (cases_order c found.0) [
        | inl e ↦ subst (λ n. ClassBegins (names P) t n round i) (sym e) found.1
        | inr (inl l) ↦ absurd (not_greater s t ss st c found.0 round i there b found.1 l)
        | inr (inr l) ↦ absurd (not_itself round i round i refl refl (ss.numbered.ordered found.0 c round round i i l
            (back found.0 l round i found.1) b))
      ]

  below : (s t : Table) → IsStandard P pinned s → IsStandard P pinned t → (n c : ℕ) → c < n → Goes s t c × Goes t s c
  below s t ss st zero c l = absurd (omega arith)
  below s t ss st (suc n) c l =
      let there : (d : ℕ) → d < c → Goes s t d = λ d k. (below s t ss st n d (omega arith)).0 in
      let back : (d : ℕ) → d < c → Goes t s d = λ d k. (below s t ss st n d (omega arith)).1 in
      (same_number s t ss st c there back, same_number t s st ss c back there)

  goes : (s t : Table) → IsStandard P pinned s → IsStandard P pinned t → (c : ℕ) → Goes s t c
  goes s t ss st c = (below s t ss st (suc c) c (omega arith)).0

  -- the classes of instances are the same
  abbrev Carries : Table → Table → ℕ → Type 0
  Carries s t round = (i c : ℕ) → i < length (names P) → class_at s (slice_index (names P) i) round ≡ Some c
      → class_at t (slice_index (names P) i) round ≡ Some c

  -- the first instance of a class that had begun before the round
  first_kept : (s t : Table) → IsStandard P pinned s → IsStandard P pinned t → (round : ℕ) → Carries s t round
      → Carries t s round → (c j : ℕ) (o : Origin) → slice_get s.classes c ≡ Some o → began o ≤ round
      → IsFirstOfClass (names P) s (suc round) c j → class_at t (slice_index (names P) j) (suc round) ≡ Some c
  first_kept s t ss st round there back c j o e b f =
      let here = at_began P pinned s population ss round (suc round) j c o (omega arith) f.there e b in
      let first : IsFirstOfClass (names P) t round c j = record {
        within = f.within;
        there = there j c f.within here;
        earliest = λ k l at.
            let was = back k c (omega (arith, l, f.within)) at in
            let found = first_in P pinned s population ss round k c (omega (arith, l, f.within)) was in
            let le : found.0 ≤ k = found.1 in
            f.earliest found.0 (omega arith) (subst (λ n. class_at s (slice_index (names P) found.0) n ≡ Some c)
            (add-one round) (ss.numbered.keeps_number round c found.0 found.2));
      } in
      subst (λ n. class_at t (slice_index (names P) j) n ≡ Some c) (add-one round)
      (st.numbered.keeps_number round c j first)

  first_carried : (s t : Table) → IsStandard P pinned s → IsStandard P pinned t → (round : ℕ)
      → ((q : ℕ) → q < round → Carries s t q × Carries t s q) → (c j : ℕ) (o : Origin) → slice_get s.classes c ≡ Some o
      → began o ≤ round → IsFirstOfClass (names P) s round c j → class_at t (slice_index (names P) j) round ≡ Some c
  first_carried s t ss st zero before c j o e b f = (goes s t ss st c 0 j (record {
    origin = o;
    origin_is = e;
    began_at = omega arith;
    first = f;
  })).first.there
  first_carried s t ss st (suc q) before c j o e b f = elim (cases_lt q (began o)) [
    | inl l ↦ (goes s t ss st c (suc q) j (record {
      origin = o;
      origin_is = e;
      began_at = omega arith;
      first = f;
    })).first.there
    | inr l ↦ let both = before q (omega arith) in first_kept s t ss st q both.0 both.1 c j o e l f
  ]

  carries : (s t : Table) → IsStandard P pinned s → IsStandard P pinned t → (round : ℕ) → round ≤ s.rounds
      → ((q : ℕ) → q < round → Carries s t q × Carries t s q) → Carries s t round
  carries s t ss st round h before i c l k =
      let found = first_in P pinned s population ss round i c l k in
      let origin = origin_at P pinned s population ss round i c k in
      let first = first_carried s t ss st round before c found.0 origin.0 origin.1 origin.2 found.2 in
      let a = class_at t (slice_index (names P) found.0) round in
      let b = class_at t (slice_index (names P) i) round in
      let shared = shares_same s t ss st round h (slice_index (names P) found.0) (slice_index (names P) i)
      (is_same_class (class_at s (slice_index (names P) found.0) round) (class_at s (slice_index (names P) i) round)
      c found.2.there k) in
      same_class_is b c (subst (λ o. same_class b o ≡ true) first (same_class_back a b shared))

  both_carry : (s t : Table) → IsStandard P pinned s → IsStandard P pinned t → (n round : ℕ) → round < n
      → round ≤ s.rounds → Carries s t round × Carries t s round
  both_carry s t ss st zero round l h = absurd (omega arith)
  both_carry s t ss st (suc n) round l h =
      let e = rounds_same s t ss st in
      let before : (q : ℕ) → q < round → Carries s t q × Carries t s q = λ q k. both_carry s t ss st n q (omega arith)
      (omega arith) in (
        carries s t ss st round h before,
        carries t s st ss round (omega arith)
            (λ q k. ((before q k).1, (before q k).0)),
      )

  -- so the origins are the same
  start_of : (t : Table) → IsStandard P pinned t → (c i : ℕ) → ClassBegins (names P) t c 0 i → slice_get t.classes c ≡ Some
      start
  start_of t st c i b = go b.origin b.origin_is b.began_at
    where
      go : (o : Origin) → slice_get t.classes c ≡ Some o → began o ≡ 0 → slice_get t.classes c ≡ Some start
      go start e k = e
      go (split p since) e k = absurd (let l = (st.well_formed.parents c p since e).earlier in omega arith)

  origin_same : (s t : Table) → IsStandard P pinned s → IsStandard P pinned t → (c round i : ℕ)
      → ClassBegins (names P) s c round i → slice_get s.classes c ≡ slice_get t.classes c
  origin_same s t ss st c zero i b = start_of s ss c i b ∙ sym (start_of t st c i (goes s t ss st c 0 i b))
  origin_same s t ss st c (suc round) i b =
      let d = goes s t ss st c (suc round) i b in
      let p = split_of P pinned s population ss c round i b in
      let q = split_of P pinned t population st c round i d in
      let in_time = begins_in_time P pinned s population ss c (suc round) i b in
      let there = (both_carry s t ss st (suc round) round (omega arith) (omega arith)).0 i p.0 b.first.within
      (at_parent P pinned s population ss round i c p.0 b.first.there p.1) in
      let here = at_parent P pinned t population st round i c q.0 d.first.there q.1 in
      let same : p.0 ≡ q.0 = cc in
      p.1 ∙ ap (λ n. Some (split n (suc round))) same ∙ sym q.1

  some_same : (s t : Table) → IsStandard P pinned s → IsStandard P pinned t → (c : ℕ) (o : Origin)
      → slice_get s.classes c ≡ Some o → slice_get t.classes c ≡ Some o
  some_same s t ss st c o e =
      let used = ss.numbered.used c (slice_get_within s.classes c o e) in
      sym (origin_same s t ss st c used.0 used.1 used.2) ∙ e

  classes_same : (s t : Table) → IsStandard P pinned s → IsStandard P pinned t → s.classes ≡ t.classes
  classes_same s t ss st = lists_same s.classes t.classes (λ c. go (slice_get s.classes c) (slice_get t.classes c)
      (some_same s t ss st c) (some_same t s st ss c))
    where
      go : (a b : Option Origin) → ((o : Origin) → a ≡ Some o → b ≡ Some o) → ((o : Origin) → b ≡ Some o → a ≡ Some o)
          → a ≡ b
      go None None f g = refl
      go (Some o) b f g = sym (f o refl)
      go None (Some o) f g = g o refl

  -- the class at the last round is the one that the members say
  last_is : (t : Table) → IsStandard P pinned t → (i c : ℕ) → class_at t (slice_index (names P) i) t.rounds ≡ Some c
      → last_class t.members (slice_index (names P) i) ≡ Some c
  last_is t st i c h =
      let up = (classes_are_ancestors t (slice_index (names P) i) t.rounds c).0 h in
      let origin = origin_below t.classes t.rounds up.0 c up.2 in
      let here : class_at t (slice_index (names P) i) t.rounds ≡ Some up.0 =
      (classes_are_ancestors t (slice_index (names P) i) t.rounds up.0).1 (
        up.0,
        up.1,
        itself up.0 origin.0 origin.1
            (in_time up.0 origin.0 origin.1),
      ) in
      let last : last_class t.members (slice_index (names P) i) ≡ Some up.0 = up.1 in
      cc
    where
      in_time : (c : ℕ) (o : Origin) → slice_get t.classes c ≡ Some o → began o ≤ t.rounds
      in_time c start e = omega arith
      in_time c (split p since) e = (st.well_formed.parents c p since e).in_time

      origin_below : (classes : List Origin) (round l a : ℕ) → IsAncestor classes round l a → (o : Origin)
          × (slice_get classes l ≡ Some o)
      origin_below classes round l a (itself d o e b) = (o, e)
      origin_below classes round l a (through d p since b e later below up) = (split p since, e)

  last_same : (s t : Table) → IsStandard P pinned s → IsStandard P pinned t → (i : ℕ) → i < length (names P)
      → last_class s.members (slice_index (names P) i) ≡ last_class t.members (slice_index (names P) i)
  last_same s t ss st i l =
      let inside = in_class P pinned s population ss s.rounds i (omega arith) l in
      let there = (both_carry s t ss st (suc s.rounds) s.rounds (omega arith) (omega arith)).0 i inside.0 l inside.1 in
      last_is s ss i inside.0 inside.1 ∙ sym
      (last_is t st i inside.0 (subst (λ n. class_at t (slice_index (names P) i) n ≡ Some inside.0)
      (rounds_same s t ss st) there))

table_same : (s t : Table) → s.rounds ≡ t.rounds → s.classes ≡ t.classes → s.members ≡ t.members → s ≡ t
table_same s t e f g =
    let first : s ≡ record s { rounds = t.rounds } = ap (λ n. record s { rounds = n }) e in
    let second : record s { rounds = t.rounds } ≡ record t { members = s.members } = ap (λ cs. record {
      rounds = t.rounds;
      classes = cs;
      members = s.members;
    }) f in
    let third : record t { members = s.members } ≡ t = ap (λ ms. record t { members = ms }) g in
    first ∙ second ∙ third

pub standard_is_unique : StandardIsUnique
standard_is_unique P pinned s t population ss st =
    table_same s t (rounds_same P pinned population s t ss st) (classes_same P pinned population s t ss st)
    (members_same s.members t.members (names P) ss.members st.members population.distinct
    (last_same P pinned population s t ss st))
