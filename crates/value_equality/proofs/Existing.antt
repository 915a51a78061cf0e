-- The table of partition refinement exists: its classes are numbered in the order of their births.
use Rattle.std.proofs.Common.{◌≡◌, ◌≤◌, ◌<◌, ℕ, zero, suc, ◌+◌, Bool, true, false, cond, List, [], ◌∷◌, Some, refl, sym, ◌∙◌, ap, subst, inl, inr, eq-eqb, length, arith, add-one, get_or}
use Rattle.std.specs.Prelude.{◌==◌, ◌↔◌, map, slice_get, slice_index, All}
use Rattle.std.specs.List.{IsDistinct}
use Rattle.std.proofs.lemmas.Bool.{cases_lt, false_from_ne_true}
use Rattle.std.proofs.lemmas.Option.{slice_get_within, slice_get-get_or}
use Rattle.std.proofs.lemmas.List.Elements.{All-nil, All-cons}
use Rattle.value_equality.specs.Rows.{Row, names, IsName, IsPopulation}
use Rattle.value_equality.specs.Tables.{Origin, start, split, began, Table, last_class, class_at, same_class, shares}
use Rattle.value_equality.specs.Standard.{IsParent, IsRefinement, IsFirstOfClass, ClassBegins, IsStandard}
use Rattle.value_equality.specs.Laws.{StandardExists}
use Rattle.value_equality.proofs.Lookup.{row_cases}
use Rattle.value_equality.proofs.Pairs.{agree_under_grows}
use Rattle.value_equality.proofs.Rounds.{own, sharer_named}
use Rattle.value_equality.proofs.Few.{same_class_back}
use Rattle.value_equality.proofs.Ancestors.{classes_are_ancestors}
use Rattle.value_equality.proofs.Numbering.{index_named, same_class_is, is_same_class}
use Rattle.value_equality.proofs.Unique.{apart_at, begins_once, IsBefore}
use Rattle.value_equality.proofs.Parting.{parted, parted_from, parted_partitions, parted_grounded, stop, stop_settled, parted_refines}
use Rattle.value_equality.proofs.Births.{ArePartings, first, first_le, first_below, first_same, first_first, first_next, one_class, birth_in_time, place}
use Rattle.value_equality.proofs.Classes.{number, origin_by, began_by, classes, class_of, IsOf, of_class, split_of, number_is, first_from_number, in_order, parent_before, ancestor_at}

-- a name with a class by its index
pub members_by : (ℕ → ℕ) → List ℕ → List (ℕ × ℕ)
members_by f [] = []
members_by f (y ∷ ys) = (y, f 0) ∷ members_by (λ i. f (suc i)) ys

members_names : (f : ℕ → ℕ) (ys : List ℕ) → map (λ m. m.0) (members_by f ys) ≡ ys
unfolding members_by
members_names f [] = refl
members_names f (y ∷ ys) = ap (λ zs. y ∷ zs) (members_names (λ i. f (suc i)) ys)

members_below : (f : ℕ → ℕ) (m : ℕ) (ys : List ℕ) → ((i : ℕ) → i < length ys → f i < m)
    → All (λ p. p.1 < m) (members_by f ys)
unfolding members_by
members_below f m [] g = All-nil (λ p. p.1 < m)
members_below f m (y ∷ ys) g =
    All-cons (λ p. p.1 < m) (y, f 0) (members_by (λ i. f (suc i)) ys) (g 0 (omega arith))
    (members_below (λ i. f (suc i)) m ys (λ i l. g (suc i) (omega arith)))

class_by : (f : ℕ → ℕ) (ys : List ℕ) → IsDistinct (◌==◌) ys → (i : ℕ) → i < length ys → last_class (members_by f ys)
    (slice_index ys i) ≡ Some (f i)
unfolding members_by IsDistinct
class_by f [] d i l = absurd (omega arith)
class_by f (y ∷ ys) d zero l = ap (λ b. cond b (Some (f 0)) (last_class (members_by (λ i. f (suc i)) ys) y))
    (eq-eqb y y refl)
class_by f (y ∷ ys) d (suc i) l =
    ap (λ b. cond b (Some (f 0)) (last_class (members_by (λ i. f (suc i)) ys) (slice_index ys i)))
    (apart_at y ys i (omega arith) d.0)
    ∙ class_by (λ i. f (suc i)) ys d.1 i (omega arith)

-- a name stands at an index
record Stands (rows : List Row) (x : ℕ) : Type 0 where
  pub index : ℕ
  pub within : index < length (names rows)
  pub at : slice_index (names rows) index ≡ x

stands : (rows : List Row) (x : ℕ) → IsName rows x → Stands rows x
stands [] x n = absurd (let e = n.1 in cc)
stands (r ∷ rows) x n = elim (row_cases r rows x n.0 n.1) [
  | inl here ↦ record { index = 0; within = omega arith; at = here.0 }
  | inr there ↦ let s = stands rows x (n.0, there.1) in let l = s.within in record {
    index = suc s.index;
    within = omega arith;
    at = s.at;
  }
]

-- partitions with the same pairs are a refinement together
refinement_like : (P : List Row) (pinned : ℕ → Bool) (E F : ℕ → ℕ → ℕ → Bool) (last : ℕ)
    → ((r x z : ℕ) → (E r x z ≡ true) ↔ (F r x z ≡ true)) → IsRefinement P pinned E last → IsRefinement P pinned F last
refinement_like P pinned E F last same refines = record {
  first = λ x z. (λ h. (refines.first x z).0 ((same 0 x z).1 h), λ a. (same 0 x z).0 ((refines.first x z).1 a));
  next = λ r x z l. (
    λ h. let parts = (refines.next r x z l).0 ((same (r + 1) x z).1 h) in
        ((same r x z).0 parts.0, agree_under_grows P pinned (E r) (F r) (λ y w. (same r y w).0) x z parts.1),
    λ h. (same (r + 1) x z).0 ((refines.next r x z l).1 (
      (same r x z).1 h.0,
      agree_under_grows P pinned (F r) (E r)
          (λ y w. (same r y w).1) x z h.1,
    )),
  );
  stable = λ x z h. agree_under_grows P pinned (E last) (F last) (λ y w. (same last y w).0) x z
      (refines.stable x z ((same last x z).1 h));
  parts = λ r l.
      let p = refines.parts r l in (
        p.0,
        p.1,
        (same r p.0 p.1).0 p.2,
        false_from_ne_true (F (r + 1) p.0 p.1) (λ h. let yes : E (r + 1) p.0 p.1 ≡ true = (same (r + 1) p.0 p.1).1 h in
            let none : E (r + 1) p.0 p.1 ≡ false = p.3 in cc),
      );
}

module _ (P : List Row) (pinned : ℕ → Bool) (population : IsPopulation P) where
  abbrev pub ys : List ℕ
  ys = names P

  abbrev pub n : ℕ
  n = length (names P)

  abbrev pub last : ℕ
  last = (stop P pinned population).0

  abbrev pub R : ℕ → ℕ → ℕ → Bool
  R r i j = parted P pinned r (slice_index ys i) (slice_index ys j)

  pub partings : ArePartings n last R
  partings =
      let by = parted_partitions P pinned in
      record {
        self = λ r i l. own P pinned (parted P pinned) r (parted_grounded P pinned r) population r (omega arith)
            (slice_index ys i) (index_named P i l);
        back = λ r i j. by.symmetric r (slice_index ys i) (slice_index ys j);
        through = λ r i j k. by.transitive r (slice_index ys i) (slice_index ys j) (slice_index ys k);
        falls = λ r i j h. (parted_from P pinned r (slice_index ys i) (slice_index ys j) h).0;
        stays = λ r i j. stop_settled P pinned population r (slice_index ys i) (slice_index ys j);
      }

  abbrev pub num : ℕ → ℕ → ℕ
  num = number n last R partings

  abbrev pub head : ℕ → ℕ → ℕ
  head = first n last R partings

  abbrev pub table : Table
  table = record { rounds = last; classes = classes n last R partings; members = members_by (num last) ys }

  -- the class of an instance
  pub at_is : (r i : ℕ) → i < n → class_at table (slice_index ys i) r ≡ Some (num r i)
  at_is r i l =
      (classes_are_ancestors table (slice_index ys i) r (num r i)).1
      (num last i, class_by (num last) ys population.distinct i l, ancestor_at n last R partings r i l)

  at_means : (r i c : ℕ) → i < n → class_at table (slice_index ys i) r ≡ Some c → num r i ≡ c
  at_means r i c l e = let f = at_is r i l in cc

  shares_at : (r i j : ℕ) → i < n → j < n → (R r i j ≡ true)
      ↔ (shares table r (slice_index ys i) (slice_index ys j) ≡ true)
  shares_at r i j l m = (
    λ h.
        let same : num r i ≡ num r j = ap (place n last R partings) (first_same n last R partings r i j l m h) in
        is_same_class (class_at table (slice_index ys i) r) (class_at table (slice_index ys j) r) (num r j)
        (at_is r i l ∙ ap Some same) (at_is r j m),
    λ h.
        let there : class_at table (slice_index ys i) r ≡ Some (num r j) =
        same_class_is (class_at table (slice_index ys i) r) (num r j)
        (subst (λ o. same_class (class_at table (slice_index ys i) r) o ≡ true) (at_is r j m) h) in
        one_class n last R partings r i j l m (first_from_number n last R partings r i j l m
        (at_means r i (num r j) l there)),
  )

  members_are : map (λ m. m.0) table.members ≡ names P
  members_are = members_names (num last) ys

  -- its partitions are those of refinement
  shares_is : (r x z : ℕ) → (parted P pinned r x z ≡ true) ↔ (shares table r x z ≡ true)
  shares_is r x z = (
    λ h. let by = parted_partitions P pinned in
        (between (stands P x (by.named r x z h)) (stands P z (by.named r z x (by.symmetric r x z h)))).0 h,
    λ h.
        let back : shares table r z x ≡ true = same_class_back (class_at table x r) (class_at table z r) h in
        (between (stands P x (sharer_named P table members_are r x z h))
        (stands P z (sharer_named P table members_are r z x back))).1 h,
  )
    where
      between : Stands P x → Stands P z → (parted P pinned r x z ≡ true) ↔ (shares table r x z ≡ true)
      between a b =
          subst (λ w. (parted P pinned r w z ≡ true) ↔ (shares table r w z ≡ true)) a.at
          (subst (λ w. (parted P pinned r (slice_index ys a.index) w ≡ true)
          ↔ (shares table r (slice_index ys a.index) w ≡ true)) b.at
          (shares_at r a.index b.index a.within b.within))

  refines : IsRefinement P pinned (shares table) last
  refines = refinement_like P pinned (parted P pinned) (shares table) last shares_is
      (parted_refines P pinned population)

  parents : (c parent round : ℕ) → slice_get table.classes c ≡ Some (split parent round) → IsParent table c parent round
  parents c parent round e =
      let is = split_of n last R partings c parent round e in
      let in_time = birth_in_time n last R partings (suc is.before) is.head is.birth in
      let up = number_is n last R partings is.before is.head is.birth.within in
      let began_early : up.round ≤ is.before = up.in_time in
      let round_is : round ≡ suc is.before = is.round_is in
      let origin : Origin = origin_by n last R partings up.round (head is.before is.head) in
      let origin_is = class_of n last R partings (num is.before is.head) up.round (head is.before is.head) up.at in
      let began_at : began origin ≡ up.round = began_by n last R partings up.round (head is.before is.head) in
      record {
        before = omega (arith, parent_before n last R partings is.before is.head is.birth, is.parent_is, is.place_is);
        origin = origin;
        origin_is = ap (slice_get table.classes) is.parent_is ∙ origin_is;
        earlier = omega arith;
        in_time = omega arith;
      }

  number_below : (r i : ℕ) → i < n → num r i < length table.classes
  number_below r i l =
      let is = number_is n last R partings r i l in
      slice_get_within table.classes (num r i) (origin_by n last R partings is.round (head r i))
      (class_of n last R partings (num r i) is.round (head r i) is.at)

  -- a first instance is the head of its class
  first_is_head : (r c i : ℕ) → IsFirstOfClass ys table r c i → (head r i ≡ i) × (num r i ≡ c)
  first_is_head r c i f =
      let there : num r i ≡ c = at_means r i c f.within f.there in
      let le : head r i ≤ i = first_le n last R partings r i f.within in
      elim (cases_lt (head r i) i) [
        | inl l ↦ absurd (f.earliest (head r i) l (at_is r (head r i) (first_below n last R partings r i f.within)
            ∙ ap (λ h. Some (place n last R partings h)) (first_first n last R partings r i f.within) ∙ ap Some there))
        | inr l ↦ (omega arith, there)
      ]

  begins : (c : ℕ) (o : Origin) (e : slice_get table.classes c ≡ Some o) (is : IsOf n last R partings c o)
      → ClassBegins ys table c is.round is.head
  begins c o e is =
      let h : ℕ = is.head in
      let own_head : head is.round h ≡ h = is.birth.first in
      record {
        origin = o;
        origin_is = e;
        began_at = sym (ap began is.origin_is) ∙ began_by n last R partings is.round h;
        first = record {
          within = is.birth.within;
          there = at_is is.round h is.birth.within ∙ ap (λ k. Some (place n last R partings k)) own_head
              ∙ ap Some is.place_is;
          earliest = λ j l e.
              let within : j < n = omega (arith, l, is.birth.within) in
              let same : num is.round j ≡ num is.round h = at_means is.round j c within e ∙ sym is.place_is
              ∙ ap (place n last R partings) (sym own_head) in
              let heads : head is.round j ≡ head is.round h = first_from_number n last R partings is.round j h within
              is.birth.within same in
              let le : head is.round j ≤ j = first_le n last R partings is.round j within in
              absurd (omega arith);
        };
      }

  class_there : (c : ℕ) → c < length table.classes → (o : Origin) × (slice_get table.classes c ≡ Some o)
  class_there c l = (get_or table.classes c start, slice_get-get_or table.classes c start l)

  ordered : (c d round later i j : ℕ) → c < d → ClassBegins ys table c round i → ClassBegins ys table d later j
      → IsBefore round i later j
  ordered c d round later i j l a b =
      let is = of_class n last R partings c a.origin a.origin_is in
      let it = of_class n last R partings d b.origin b.origin_is in
      let one = begins_once ys table c is.round round is.head i (begins c a.origin a.origin_is is) a in
      let two = begins_once ys table d it.round later it.head j (begins d b.origin b.origin_is it) b in
      let rounds : is.round ≡ round = one.0 in
      let heads : is.head ≡ i = one.1 in
      let rounds_later : it.round ≡ later = two.0 in
      let heads_later : it.head ≡ j = two.1 in
      elim (in_order n last R partings c d is.round is.head it.round it.head l is.at it.at) [
        | inl m ↦ inl (omega arith)
        | inr m ↦ let same = m.0 in let less = m.1 in inr (omega arith, omega arith)
      ]

  pub standard : IsStandard P pinned table
  standard = record {
    members = members_are;
    well_formed = record {
      parents = parents;
      declared = members_below (num last) (length table.classes) ys (number_below last);
    };
    refines = refines;
    numbered = record {
      used = λ c l. let there = class_there c l in let is = of_class n last R partings c there.0 there.1 in
          (is.round, is.head, begins c there.0 there.1 is);
      ordered = ordered;
      keeps_number = λ r c i f.
          let is = first_is_head r c i f in
          let head_next : head (suc r) i ≡ i = first_next n last R partings r i f.within is.0 in
          at_is (r + 1) i f.within ∙ ap (λ k. Some (num k i)) (add-one r) ∙ ap (λ h. Some (place n last R partings h))
          (head_next ∙ sym is.0) ∙ ap Some is.1;
    };
  }

pub the_standard_table_exists : StandardExists
the_standard_table_exists P pinned population = (table P pinned population, standard P pinned population)
