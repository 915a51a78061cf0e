-- The standard numbers make the standard table.
use Rattle.std.proofs.Common.{◌≡◌, ◌≤◌, ◌<◌, ℕ, zero, suc, ◌+◌, Bool, true, false, cond, List, [], ◌∷◌, Some, map, length, refl, sym, ◌∙◌, ap, subst, inl, inr, eq-eqb, arith, add-one}
use Rattle.std.specs.Prelude.{◌↔◌, ◌==◌, slice_index}
use Rattle.std.specs.List.{IsDistinct}
use Rattle.std.proofs.lemmas.Bool.{cases_order}
use Rattle.partitions.specs.Layouts.{Layout, size, IsLaid}
use Rattle.partition_refinement.specs.Rounds.{Shared}
use Rattle.partition_refinement.specs.declared.numbering.Origin.{Origin}
use Rattle.partition_refinement.specs.Births.{AreCounts}
use Rattle.partition_refinement.specs.Numbers.{IsNumbering}
use Rattle.value_equality.specs.Rows.{Row, names, IsPopulation}
use Rattle.value_equality.specs.Tables.{Table, IsAncestor, itself, through, last_class}
use Rattle.value_equality.specs.Standard.{IsRefinement, IsStandard}
use Rattle.value_equality.proofs.Pairs.{agree_under_grows}
use Rattle.value_equality.proofs.Ancestors.{classes_are_ancestors}
use Rattle.value_equality.proofs.Unique.{apart_at}
use Rattle.value_equality.proofs.Parting.{parted, stop, parted_refines, stop_settled}
use Rattle.value_equality.proofs.Classes.{number}
use Rattle.value_equality.proofs.Existing.{partings, table, standard, at_is}
use Rattle.merge_classes.specs.Laws.{origin_in, members_of, table_of, NumbersAreStandard}
use Rattle.merge_classes.proofs.Numbered.{member_is, classes_are}

-- refinements have the same partitions
refined_same : (P : List Row) (pinned : ℕ → Bool) (E F : ℕ → ℕ → ℕ → Bool) (m n : ℕ) → IsRefinement P pinned E m
    → IsRefinement P pinned F n → (round : ℕ) → round ≤ m → round ≤ n → (x z : ℕ) → E round x z ≡ true
    → F round x z ≡ true
refined_same P pinned E F m n re rf zero h k x z e = (rf.first x z).1 ((re.first x z).0 e)
refined_same P pinned E F m n re rf (suc r) h k x z e =
    let before : (y w : ℕ) → E r y w ≡ true → F r y w ≡ true = refined_same P pinned E F m n re rf r (omega arith)
    (omega arith) in
    let parts = (re.next r x z (omega arith)).0 (subst (λ i. E i x z ≡ true) (sym (add-one r)) e) in
    subst (λ i. F i x z ≡ true) (add-one r)
    ((rf.next r x z (omega arith)).1
    (before x z parts.0, agree_under_grows P pinned (E r) (F r) before x z parts.1))

-- no refinement goes on for longer than another
refined_as_long : (P : List Row) (pinned : ℕ → Bool) (E F : ℕ → ℕ → ℕ → Bool) (m n : ℕ) → IsRefinement P pinned E m
    → IsRefinement P pinned F n → m < n → ⊥
refined_as_long P pinned E F m n re rf l =
    let parts = rf.parts m l in
    let x : ℕ = parts.0 in
    let z : ℕ = parts.1 in
    let together : E m x z ≡ true = refined_same P pinned F E n m rf re m (omega arith) (omega arith) x z parts.2 in
    let agree = agree_under_grows P pinned (E m) (F m)
    (refined_same P pinned E F m n re rf m (omega arith) (omega arith)) x z (re.stable x z together) in
    let yes : F (m + 1) x z ≡ true = (rf.next m x z l).1 (parts.2, agree) in
    let none : F (m + 1) x z ≡ false = parts.3 in
    cc

pair_is : (x : ℕ × ℕ) (y m : ℕ) → x.0 ≡ y → x.1 ≡ m → x ≡ (y, m)
pair_is x y m e f = ap (λ a. (a, x.1)) e ∙ ap (λ b. (y, b)) f

-- names with the classes that they are found with
members_are : (xs : List (ℕ × ℕ)) (ys ms : List ℕ) → map (λ m. m.0) xs ≡ ys → IsDistinct (◌==◌) ys
    → length ms ≡ length ys
    → ((i : ℕ) → i < length ys → last_class xs (slice_index ys i) ≡ Some (slice_index ms i)) → xs ≡ members_of ys ms
unfolding IsDistinct
members_are [] [] ms e d f g = refl
members_are [] (y ∷ ys) ms e d f g = absurd (cc)
members_are (x ∷ xs) [] ms e d f g = absurd (cc)
members_are (x ∷ xs) (y ∷ ys) [] e d f g = absurd (omega arith)
members_are (x ∷ xs) (y ∷ ys) (m ∷ ms) e d f g =
    let name : x.0 ≡ y = cc in
    let names_are : map (λ m. m.0) xs ≡ ys = cc in
    let here : cond (x.0 == y) (Some x.1) (last_class xs y) ≡ Some m = g 0 (omega arith) in
    let found : Some x.1 ≡ Some m = sym (ap (λ b. cond b (Some x.1) (last_class xs y)) (eq-eqb x.0 y name)) ∙ here in
    let class_is : x.1 ≡ m = cc in
    let rest : xs ≡ members_of ys ms = members_are xs ys ms names_are d.1 (omega arith) (λ i l.
    let apart : (x.0 == slice_index ys i) ≡ false = ap (λ w. w == slice_index ys i) name ∙ apart_at y ys i l d.0 in
    let whole : cond (x.0 == slice_index ys i) (Some x.1) (last_class xs (slice_index ys i)) ≡ Some (slice_index ms i) =
    g (suc i) (omega arith) in
    let later : cond (x.0 == slice_index ys i) (Some x.1) (last_class xs (slice_index ys i))
    ≡ last_class xs (slice_index ys i) = ap (λ b. cond b (Some x.1) (last_class xs (slice_index ys i))) apart in
    sym later ∙ whole) in
    let first : x ≡ (y, m) = pair_is x y m name class_is in
    ap (λ z. z ∷ xs) first ∙ ap (λ zs. (y, m) ∷ zs) rest

table_same : (s t : Table) → s.rounds ≡ t.rounds → s.classes ≡ t.classes → s.members ≡ t.members → s ≡ t
table_same s t e f g =
    let first : s ≡ record s { rounds = t.rounds } = ap (λ n. record s { rounds = n }) e in
    let second : record s { rounds = t.rounds } ≡ record t { members = s.members } = ap (λ cs. record {
      rounds = t.rounds;
      classes = cs;
      members = s.members;
    }) f in
    let third : record t { members = s.members } ≡ t = ap (λ ms. record t { members = ms }) g in
    first ∙ second ∙ third

module _ (P : List Row) (pinned : ℕ → Bool) (population : IsPopulation P) where
  abbrev ys : List ℕ
  ys = names P

  abbrev n : ℕ
  n = length (names P)

  abbrev end : ℕ
  end = (stop P pinned population).0

  abbrev R : ℕ → ℕ → ℕ → Bool
  R r i j = parted P pinned r (slice_index ys i) (slice_index ys j)

  abbrev num : ℕ → ℕ → ℕ
  num = number n end R (partings P pinned population)

  abbrev the_table : Table
  the_table = table P pinned population

  -- each class has begun at the last round
  itself_at_end : (c a : ℕ) → IsAncestor the_table.classes end c a → c ≡ a
  itself_at_end c a (itself d o e l) = refl
  itself_at_end c a (through d parent since b e later below rest) =
      absurd (let in_time = ((standard P pinned population).well_formed.parents c parent since e).in_time in omega arith)

  last_number : (i : ℕ) → i < n → last_class the_table.members (slice_index ys i) ≡ Some (num end i)
  last_number i l =
      let up = (classes_are_ancestors the_table (slice_index ys i) end (num end i)).0
      (at_is P pinned population end i l) in
      up.1 ∙ ap Some (itself_at_end up.0 (num end i) up.2)

  abbrev standardly : IsRefinement P pinned (parted P pinned) end
  standardly = parted_refines P pinned population

  -- the last round is the first after which nothing parts
  pub end_is : (last : ℕ) → ((x z : ℕ) → parted P pinned last x z ≡ true → parted P pinned (last + 1) x z ≡ true)
      → ((r : ℕ) → r < last → (x : ℕ) × (z : ℕ) × (parted P pinned r x z ≡ true)
      × (parted P pinned (r + 1) x z ≡ true → ⊥)) → end ≡ last
  end_is last settled parts = elim (cases_order end last) [
    | inl e ↦ e
    | inr (inl l) ↦ absurd (
        let pair = parts end l in
        let still = stop_settled P pinned population end pair.0 pair.1 (omega arith) pair.2 in
        pair.3 (subst (λ r. parted P pinned r pair.0 pair.1 ≡ true) (sym (add-one end)) still))
    | inr (inr l) ↦ absurd (
        let pair = standardly.parts last l in
        let yes : parted P pinned (last + 1) pair.0 pair.1 ≡ true = settled pair.0 pair.1 pair.2 in
        let none : parted P pinned (last + 1) pair.0 pair.1 ≡ false = pair.3 in cc)
  ]

  -- where the rounds are those of refinement, the numbers make the standard table
  module _ (p : Layout) (counts firsts : List ℕ) (origins : List Origin) (members : List ℕ) (last : ℕ) (laid : IsLaid p)
      (counted : AreCounts p counts) (size_is : size p ≡ length (names P)) (rounds : last + 1 ≡ length counts)
      (last_is : end ≡ last)
      (same : (r i j : ℕ) → r < length counts → i < n → j < n → (R r i j ≡ true) ↔ Shared p (slice_index counts r) i j)
      (numbered : IsNumbering p counts firsts origins members) where
    rounds_are : end + 1 ≡ length counts
    rounds_are = omega arith

    pub numbers_stand : IsStandard P pinned (table_of (names P) last origins members)
    numbers_stand =
        let by = partings P pinned population in
        let classes_same : the_table.classes ≡ map origin_in origins =
        classes_are p counts laid counted n end R by size_is rounds_are same firsts origins members numbered in
        let members_same : the_table.members ≡ members_of ys members =
        members_are the_table.members ys members (standard P pinned population).members population.distinct
        (let places = numbered.places in omega arith)
        (λ i l. last_number i l
        ∙ ap Some (member_is p counts laid counted n end R by size_is rounds_are same firsts origins members numbered i l))
        in
        subst (IsStandard P pinned)
        (table_same the_table (table_of (names P) last origins members) last_is classes_same members_same)
        (standard P pinned population)

  -- whatever test says so
  module _ (E : ℕ → ℕ → ℕ → Bool) (p : Layout) (counts : List ℕ) (last : ℕ) (size_is : size p ≡ length (names P))
      (rounds : last + 1 ≡ length counts) (refines : IsRefinement P pinned E last)
      (same : (r x z : ℕ) → r < length counts → x < size p → z < size p
      → (E r (slice_index (names P) x) (slice_index (names P) z) ≡ true) ↔ Shared p (slice_index counts r) x z) where
    pub last_is : end ≡ last
    last_is = elim (cases_order end last) [
      | inl e ↦ e
      | inr (inl l) ↦ absurd (refined_as_long P pinned (parted P pinned) E end last standardly refines l)
      | inr (inr l) ↦ absurd (refined_as_long P pinned E (parted P pinned) last end refines standardly l)
    ]

    pub same_parts : (r i j : ℕ) → r < length counts → i < n → j < n
        → (R r i j ≡ true) ↔ Shared p (slice_index counts r) i j
    same_parts r i j l m k =
        let is = last_is in (
          λ h. (same r i j l (omega arith) (omega arith)).0
              (refined_same P pinned (parted P pinned) E end last standardly refines r (omega arith) (omega arith)
              (slice_index ys i) (slice_index ys j) h),
          λ s. refined_same P pinned E (parted P pinned) last end refines standardly r (omega arith) (omega arith)
              (slice_index ys i) (slice_index ys j) ((same r i j l (omega arith) (omega arith)).1 s),
        )

pub numbers_are_standard : NumbersAreStandard
numbers_are_standard P pinned E p counts firsts origins members last population laid counted size_is rounds refines same
    numbered =
    numbers_stand P pinned population p counts firsts origins members last laid counted size_is rounds
    (last_is P pinned population E p counts last size_is rounds refines same)
    (same_parts P pinned population E p counts last size_is rounds refines same) numbered
