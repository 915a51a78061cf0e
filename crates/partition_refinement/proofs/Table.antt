-- The numbers of births in order.
use Rattle.std.proofs.Common.{◌≡◌, ◌<◌, ℕ, ◌+◌, ◌-◌, ◌/◌, ◌%◌, Bool, true, false, cond, List, Some, map, refl, sym, ◌∙◌, ap, subst, inl, inr, length, eqb-true, arith}
use Rattle.std.specs.Prelude.{◌==◌, slice_index, slice_get}
use Rattle.std.specs.Option.{option_map}
use Rattle.std.proofs.lemmas.Bool.{cases_lt, eqb-false}
use Rattle.std.proofs.lemmas.List.{length-map, get_or-map}
use Rattle.std.proofs.lemmas.Nat.{div-add-mod', div-mul-add}
use Rattle.std.proofs.lemmas.Option.{slice_get-map, slice_get_within, slice_get-get_or}
use Rattle.partitions.specs.Layouts.{Layout, size, count, class_in, IsLaid}
use Rattle.partitions.specs.Refinements.{here}
use Rattle.partition_refinement.specs.declared.numbering.Origin.{Origin}
use Rattle.partition_refinement.specs.declared.numbering.Origin.TheVariants.{Start, Split}
use Rattle.partition_refinement.specs.Firsts.{IsFirstIn, IsFirstOf, IsFirst}
use Rattle.partition_refinement.specs.Births.{AreCounts, IsBirth}
use Rattle.partition_refinement.specs.Numbers.{began, IsEarlier, IsNumbering}
use Rattle.partition_refinement.specs.steps.Origins.{origin_of, place_in}
use Rattle.partition_refinement.specs.steps.Working.{AreBirths, AreHeads, AreFirstPlaces, IsIndex, IsUndone, key_of}
use Rattle.partition_refinement.proofs.Sorting.{mod_is}
use Rattle.partition_refinement.proofs.Counting.{above_less, unborn}

-- the origin of a birth
began_at : (b : Bool) (parent round : ℕ) → (b ≡ true → round ≡ 0) → began (cond b Start (Split parent round)) ≡ round
began_at true parent round e = sym (e refl)
began_at false parent round e = refl

pub began_of : (numbers before : List ℕ) (birth : ℕ) → began (origin_of numbers before birth) ≡ birth / 4294967296
began_of numbers before birth =
    began_at (birth / 4294967296 == 0) (slice_index numbers (slice_index before (birth % 4294967296))) (birth / 4294967296)
    (eqb-true (birth / 4294967296) 0)

split_at : (b : Bool) (one round parent since : ℕ) → cond b Start (Split one round) ≡ Split parent since
    → (b ≡ false) × (one ≡ parent) × (round ≡ since)
split_at true one round parent since e = absurd (cc)
split_at false one round parent since e = (refl, cc, cc)

-- births by round, then by place
pub earlier : (a b : ℕ) → a < b
    → IsEarlier (a / 4294967296) (a % 4294967296) (b / 4294967296) (b % 4294967296)
earlier a b l =
    let one = div-add-mod' a 4294967296 in
    let two = div-add-mod' b 4294967296 in
    elim (cases_lt (a / 4294967296) (b / 4294967296)) [
      | inl m ↦ inl m
      | inr m ↦ inr (omega arith, omega arith)
    ]

module _ (p : Layout) (counts rounds before births : List ℕ) (laid : IsLaid p) (counted : AreCounts p counts)
    (undone : IsUndone p counts rounds before) (ordered : AreBirths rounds (length counts) births) where
  -- each is a birth
  pub birth_at : (c : ℕ) → c < length births
      → IsBirth p counts (slice_index births c / 4294967296) (slice_index births c % 4294967296)
  birth_at c l =
      let s = ordered.sound c l in
      let each = undone.marked.each in
      let within = s.1 in
      let few = laid.few in
      let h : ℕ = s.0 in
      let r : ℕ = slice_index rounds h in
      let round : slice_index births c / 4294967296 ≡ r =
      ap (λ k. k / 4294967296) s.3 ∙ div-mul-add r 4294967296 h (omega arith) in
      let place : slice_index births c % 4294967296 ≡ h =
      ap (λ k. k % 4294967296) s.3 ∙ mod_is r 4294967296 h (omega arith) in
      let birth : IsBirth p counts r h = (undone.marked.births r h (omega arith) (omega arith) s.2).0 refl in
      subst (λ k. IsBirth p counts k (slice_index births c % 4294967296)) (sym round)
      (subst (IsBirth p counts r) (sym place) birth)

  pub place_small : (c : ℕ) → c < length births → slice_index births c % 4294967296 < size p
  place_small c l = (birth_at c l).first.2.within

  -- each birth is listed
  pub birth_listed : (r h : ℕ) → IsBirth p counts r h → (c : ℕ) × (c < length births)
      × (slice_index births c / 4294967296 ≡ r) × (slice_index births c % 4294967296 ≡ h)
  birth_listed r h b =
      let within = b.first.2.within in
      let each = undone.marked.each in
      let few = laid.few in
      let is : slice_index rounds h ≡ r = (undone.marked.births r h within (omega arith) b.counted).1 b in
      let below = b.counted in
      let there = ordered.complete h (omega arith) (omega arith) in
      let at : slice_index births there.0 ≡ key_of r h = there.2 ∙ ap (λ k. key_of k h) is in (
        there.0,
        there.1,
        ap (λ k. k / 4294967296) at ∙ div-mul-add r 4294967296 h (omega arith),
        ap (λ k. k % 4294967296) at ∙ mod_is r 4294967296 h (omega arith),
      )

  pub places_below : (xs : List ℕ) (n : ℕ) → xs ≡ births → n ≡ size p → (c : ℕ) → c < length xs
      → slice_index xs c % 4294967296 < n
  places_below xs n is many c l =
      let long : length xs ≡ length births = ap length is in
      let at : slice_index xs c % 4294967296 ≡ slice_index births c % 4294967296 = ap (λ ys. slice_index ys c % 4294967296) is
      in
      let small = place_small c (omega arith) in
      omega arith

  pub befores_below : (xs : List ℕ) (n : ℕ) → xs ≡ births → n ≡ size p → (c : ℕ) → c < length xs
      → 0 < slice_index xs c / 4294967296 → slice_index before (slice_index xs c % 4294967296) < n
  befores_below xs n is many c l later =
      let long : length xs ≡ length births = ap length is in
      let at : slice_index xs c ≡ slice_index births c = ap (λ ys. slice_index ys c) is in
      let round : slice_index xs c / 4294967296 ≡ slice_index births c / 4294967296 = ap (λ k. k / 4294967296) at in
      let h : ℕ = slice_index births c % 4294967296 in
      let q : ℕ = slice_index births c / 4294967296 - 1 in
      let next : slice_index births c / 4294967296 ≡ q + 1 = omega arith in
      let birth : IsBirth p counts (q + 1) h = subst (λ k. IsBirth p counts k h) next (birth_at c (omega arith)) in
      let within = (undone.traced.births q h (omega arith) birth).2.within in
      let place : slice_index before (slice_index xs c % 4294967296) ≡ slice_index before h =
      ap (λ k. slice_index before (k % 4294967296)) at in
      omega arith

  module _ (numbers : List ℕ) (index : IsIndex births numbers (length births)) where
    -- a place that has been the first of a class has the number of its birth
    abbrev IsNumbered : ℕ → Type 0
    IsNumbered h = (slice_index numbers h < length births) × (slice_index births (slice_index numbers h) % 4294967296 ≡ h)

    birth_numbered : (r h : ℕ) → IsBirth p counts r h → IsNumbered h
    birth_numbered r h b =
        let there = birth_listed r h b in
        let found = index.found there.0 there.1 in
        let is : slice_index births there.0 % 4294967296 ≡ h = there.3 in
        subst IsNumbered is found

    pub first_numbered : (r h : ℕ) → r < length counts → IsFirst p (slice_index counts r) h → IsNumbered h
    first_numbered r h l first_places =
        let within = first_places.2.within in
        let marked = undone.marked in
        elim (cases_lt (slice_index rounds h) (length counts)) [
          | inl m ↦ birth_numbered (slice_index rounds h) h
              ((marked.births (slice_index rounds h) h within (omega arith) m).0 refl)
          | inr m ↦ absurd (unborn p counts laid counted r h
              (λ q b. let below = b.counted in
              let is = (marked.births q h within (omega arith) below).1 b in omega arith)
              l first_places)
        ]

    -- the first place of the class before
    pub parent_numbered : (c q : ℕ) → c < length births → slice_index births c / 4294967296 ≡ q + 1
        → IsFirstOf p (slice_index counts q) (slice_index births c % 4294967296)
        (slice_index before (slice_index births c % 4294967296))
        × IsNumbered (slice_index before (slice_index births c % 4294967296))
    parent_numbered c q l is =
        let h : ℕ = slice_index births c % 4294967296 in
        let birth : IsBirth p counts (q + 1) h = subst (λ k. IsBirth p counts k h) is (birth_at c l) in
        let first = undone.traced.births q h (omega arith) birth in
        let below = birth.counted in (
          first,
          first_numbered q (slice_index before h) (omega arith)
              (first.0, above_less p.parent (slice_index counts q) (class_in p h) first.0 first.1, first.2),
        )

    -- the first place of a class after the last round
    pub head_numbered : (heads : List ℕ) → AreHeads p heads → (x : ℕ) → x < size p → IsNumbered (slice_index heads x)
    head_numbered heads all x l =
        let some = counted.some in
        let first = all.first x l in
        let last : slice_index counts (length counts - 1) ≡ count p = counted.last (length counts - 1) (omega arith) in
        first_numbered (length counts - 1) (slice_index heads x) (omega arith)
        (subst (λ k. IsFirst p k (slice_index heads x)) (sym last)
        (first.0, above_less p.parent (count p) (class_in p x) first.0 first.1, first.2))

    module _ (firsts : List ℕ) (origins : List Origin) (firsts_are : firsts ≡ map place_in births)
        (origins_are : origins ≡ map (origin_of numbers before) births) where
      firsts_long : length firsts ≡ length births
      firsts_long = ap length firsts_are ∙ length-map births place_in

      first_at : (c : ℕ) → c < length births → slice_index firsts c ≡ slice_index births c % 4294967296
      first_at c l = ap (λ xs. slice_index xs c) firsts_are ∙ get_or-map place_in births c 0 0 l

      origin_at : (c : ℕ) → c < length births
          → slice_get origins c ≡ Some (origin_of numbers before (slice_index births c))
      origin_at c l =
          ap (λ os. slice_get os c) origins_are ∙ slice_get-map (origin_of numbers before) births c
          ∙ ap (option_map (origin_of numbers before)) (slice_get-get_or births c 0 l)

      origin_within : (c : ℕ) (o : Origin) → slice_get origins c ≡ Some o → c < length births
      origin_within c o e =
          let l = slice_get_within origins c o e in
          let long : length origins ≡ length births = ap length origins_are
          ∙ length-map births (origin_of numbers before) in
          omega arith

      origin_is : (c : ℕ) (o : Origin) → slice_get origins c ≡ Some o → origin_of numbers before (slice_index births c) ≡ o
      origin_is c o e =
          let both : Some (origin_of numbers before (slice_index births c)) ≡ Some o =
          sym (origin_at c (origin_within c o e)) ∙ e in cc

      round_is : (c : ℕ) (o : Origin) → slice_get origins c ≡ Some o → began o ≡ slice_index births c / 4294967296
      round_is c o e = ap began (sym (origin_is c o e)) ∙ began_of numbers before (slice_index births c)

      -- the number of a place that has been the first of a class
      first_of_number : (h : ℕ) → IsNumbered h → (slice_index numbers h < length firsts)
          × (slice_index firsts (slice_index numbers h) ≡ h)
      first_of_number h n =
          let l = n.0 in let long = firsts_long in (omega arith, first_at (slice_index numbers h) n.0 ∙ n.1)

      class_parent : (c parent round : ℕ) → slice_get origins c ≡ Some (Split parent round) → (q : ℕ) × (round ≡ q + 1)
          × (parent < length firsts) × IsFirstOf p (slice_index counts q) (slice_index firsts c) (slice_index firsts parent)
      class_parent c parent round e =
          let l : c < length births = origin_within c (Split parent round) e in
          let birth : ℕ = slice_index births c in
          let h : ℕ = birth % 4294967296 in
          let is = split_at (birth / 4294967296 == 0) (slice_index numbers (slice_index before h)) (birth / 4294967296) parent
          round (origin_is c (Split parent round) e) in
          let some = eqb-false (birth / 4294967296) 0 is.0 in
          let q : ℕ = birth / 4294967296 - 1 in
          let next : birth / 4294967296 ≡ q + 1 = omega arith in
          let up = parent_numbered c q l next in
          let number = first_of_number (slice_index before h) up.1 in (
            q,
            sym is.2 ∙ next,
            subst (λ k. k < length firsts) is.1 number.0,
            subst (λ k. IsFirstOf p (slice_index counts q) (slice_index firsts c) k)
                (sym number.1 ∙ ap (slice_index firsts) is.1)
                (subst (λ k. IsFirstOf p (slice_index counts q) k (slice_index before h)) (sym (first_at c l)) up.0),
          )

      pub are_numbered : (heads members : List ℕ) → AreHeads p heads → members ≡ map (slice_index numbers) heads
          → IsNumbering p counts firsts origins members
      are_numbered heads members all members_are = record {
        each = ap length origins_are ∙ length-map births (origin_of numbers before) ∙ sym firsts_long;
        births = λ c o e.
            let l = origin_within c o e in
            subst (λ r. IsBirth p counts r (slice_index firsts c)) (sym (round_is c o e))
            (subst (IsBirth p counts (slice_index births c / 4294967296)) (sym (first_at c l)) (birth_at c l));
        complete = λ r h b.
            let there = birth_listed r h b in
            let at = origin_at there.0 there.1 in
            let round : slice_index births there.0 / 4294967296 ≡ r = there.2 in
            let place : slice_index births there.0 % 4294967296 ≡ h = there.3 in (
              there.0,
              origin_of numbers before (slice_index births there.0),
              at,
              began_of numbers before (slice_index births there.0) ∙ round,
              first_at there.0 there.1 ∙ place,
            );
        ordered = λ c d o u l e f.
            let m = origin_within d u f in
            let n = origin_within c o e in
            let one : slice_index births c / 4294967296 ≡ began o = sym (round_is c o e) in
            let two : slice_index births d / 4294967296 ≡ began u = sym (round_is d u f) in
            let three : slice_index births c % 4294967296 ≡ slice_index firsts c = sym (first_at c n) in
            let four : slice_index births d % 4294967296 ≡ slice_index firsts d = sym (first_at d m) in
            subst (λ r. IsEarlier r (slice_index firsts c) (began u) (slice_index firsts d)) one
            (subst (λ r. IsEarlier (slice_index births c / 4294967296) (slice_index firsts c) r (slice_index firsts d)) two
            (subst (λ h. IsEarlier (slice_index births c / 4294967296) h (slice_index births d / 4294967296)
            (slice_index firsts d)) three
            (subst (IsEarlier (slice_index births c / 4294967296) (slice_index births c % 4294967296)
            (slice_index births d / 4294967296)) four
            (earlier (slice_index births c) (slice_index births d) (ordered.rises c d l m)))));
        parents = class_parent;
        places = ap length members_are ∙ length-map heads (slice_index numbers) ∙ all.each;
        member = λ x l.
            let each = all.each in
            let is : slice_index members x ≡ slice_index numbers (slice_index heads x) =
            ap (λ ms. slice_index ms x) members_are ∙ get_or-map (slice_index numbers) heads x 0 0 (omega arith) in
            let number = first_of_number (slice_index heads x) (head_numbered heads all x l) in (
              subst (λ k. k < length firsts) (sym is) number.0,
              subst (IsFirstOf p (count p) x) (sym number.1 ∙ ap (slice_index firsts) (sym is)) (all.first x l),
            );
      }

-- the first places of classes are those of their places
pub heads_are : (p : Layout) (first_places heads : List ℕ) → IsLaid p → AreFirstPlaces p (count p) first_places → length heads ≡ size p
    → ((x : ℕ) → x < size p → slice_index heads x ≡ slice_index first_places (class_in p x)) → AreHeads p heads
heads_are p first_places heads laid first each is = record {
  each = each;
  first = λ x l.
      let known = (laid.within x l).known in (
        class_in p x,
        here (class_in p x) known,
        subst (IsFirstIn p (count p) (class_in p x)) (sym (is x l)) (first (class_in p x) known),
      );
}
