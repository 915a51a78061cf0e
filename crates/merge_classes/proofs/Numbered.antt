-- Standard numbers are the numbers of births in order.
use Rattle.std.proofs.Common.{◌≡◌, ◌<◌, ℕ, zero, suc, ◌+◌, Bool, true, List, [], ◌∷◌, Option, Some, None, map, length, refl, sym, ◌∙◌, ap, subst, inl, inr, arith}
use Rattle.std.specs.Prelude.{◌↔◌, slice_index, slice_get}
use Rattle.std.specs.Option.{option_map}
use Rattle.std.proofs.lemmas.Bool.{cases_eq}
use Rattle.std.proofs.lemmas.Option.{slice_get-map}
use Rattle.partitions.specs.Layouts.{Layout, size, count, IsLaid}
use Rattle.partition_refinement.specs.Rounds.{Shared}
use Rattle.partition_refinement.specs.declared.numbering.Origin.{Origin}
use Rattle.partition_refinement.specs.declared.numbering.Origin.TheVariants.{Start, Split}
use Rattle.partition_refinement.specs.Firsts.{IsFirstOf}
use Rattle.partition_refinement.specs.Births.{AreCounts, IsBirth}
use Rattle.partition_refinement.specs.Numbers.{began, IsNumbering}
use Rattle.merge_classes.proofs.Ordered.{AreOrdered, IsIn, ordered_once}
use Rattle.value_equality.specs.Tables as tables
use Rattle.value_equality.proofs.Births.{ArePartings, births, place, placed, place_is, same_pair}
use Rattle.value_equality.proofs.Classes.{number, origin_by, began_by, classes, class_of, of_class, split_of}
use Rattle.merge_classes.specs.Laws.{origin_in}
use Rattle.merge_classes.proofs.Partitions.{first_is, birth_to, birth_from}

-- rounds with places
abbrev pairs_of : List Origin → List ℕ → List (ℕ × ℕ)
pairs_of [] hs = []
pairs_of (o ∷ os) [] = []
pairs_of (o ∷ os) (h ∷ hs) = (began o, h) ∷ pairs_of os hs

record IsPair (os : List Origin) (hs : List ℕ) (c : ℕ) (x : ℕ × ℕ) : Type 0 where
  origin : Origin
  origin_is : slice_get os c ≡ Some origin
  round_is : began origin ≡ x.0
  place_is : slice_index hs c ≡ x.1

pair_at : (os : List Origin) (hs : List ℕ) (c : ℕ) (x : ℕ × ℕ) → slice_get (pairs_of os hs) c ≡ Some x → IsPair os hs c x
pair_at [] hs c x e = absurd (cc)
pair_at (o ∷ os) [] c x e = absurd (cc)
pair_at (o ∷ os) (h ∷ hs) zero x e =
    let same : (began o, h) ≡ x = same_pair (began o, h) x e in
    record { origin = o; origin_is = refl; round_is = ap (λ y. y.0) same; place_is = ap (λ y. y.1) same }
pair_at (o ∷ os) (h ∷ hs) (suc c) x e =
    let rest = pair_at os hs c x e in
    record { origin = rest.origin; origin_is = rest.origin_is; round_is = rest.round_is; place_is = rest.place_is }

pair_there : (os : List Origin) (hs : List ℕ) (c : ℕ) (o : Origin) → length os ≡ length hs → slice_get os c ≡ Some o
    → slice_get (pairs_of os hs) c ≡ Some (began o, slice_index hs c)
pair_there [] hs c o e f = absurd (cc)
pair_there (u ∷ os) [] c o e f = absurd (omega arith)
pair_there (u ∷ os) (h ∷ hs) zero o e f =
    let same : u ≡ o = cc in ap (λ v. Some (began v, h)) same
pair_there (u ∷ os) (h ∷ hs) (suc c) o e f = pair_there os hs c o (omega arith) f

-- a list without an item at c
get_there : {A : Type 0} (xs : List A) (c : ℕ) → c < length xs → (x : A) × (slice_get xs c ≡ Some x)
get_there [] c l = absurd (omega arith)
get_there (x ∷ xs) zero l = (x, refl)
get_there (x ∷ xs) (suc c) l = get_there xs c (omega arith)

lists_same : {A : Type 0} (xs ys : List A) → ((i : ℕ) → slice_get xs i ≡ slice_get ys i) → xs ≡ ys
lists_same [] [] f = refl
lists_same [] (y ∷ ys) f = absurd (let e = f 0 in cc)
lists_same (x ∷ xs) [] f = absurd (let e = f 0 in cc)
lists_same (x ∷ xs) (y ∷ ys) f = let first = f 0 in let rest = lists_same xs ys (λ i. f (suc i)) in cc

module _ (p : Layout) (counts : List ℕ) (laid : IsLaid p) (counted : AreCounts p counts) (n last : ℕ)
    (R : ℕ → ℕ → ℕ → Bool) (by : ArePartings n last R) (size_is : size p ≡ n) (rounds : last + 1 ≡ length counts)
    (same : (r i j : ℕ) → r < length counts → i < n → j < n → (R r i j ≡ true) ↔ Shared p (slice_index counts r) i j)
    (firsts : List ℕ) (origins : List Origin) (members : List ℕ)
    (numbered : IsNumbering p counts firsts origins members) where
  abbrev list : List (ℕ × ℕ)
  list = (births n last R by).0

  abbrev pairs : List (ℕ × ℕ)
  pairs = pairs_of origins firsts

  list_ordered : AreOrdered list
  list_ordered = record {
    rises = λ c d a b l e f. (births n last R by).1.ordered c d a.0 a.1 b.0 b.1 l e f;
  }

  pairs_ordered : AreOrdered pairs
  pairs_ordered = record {
    rises = λ c d a b l e f.
        let x = pair_at origins firsts c a e in
        let y = pair_at origins firsts d b f in
        let before = numbered.ordered c d x.origin y.origin l x.origin_is y.origin_is in
        let one = x.round_is in
        let two = x.place_is in
        let three = y.round_is in
        let four = y.place_is in
        elim before [
          | inl m ↦ inl (omega arith)
          | inr m ↦ let k = m.0 in let o = m.1 in inr (omega arith, omega arith)
        ];
  }

  in_pairs : (x : ℕ × ℕ) → IsIn list x → IsIn pairs x
  in_pairs x there =
      let birth = birth_to p counts laid counted n last R by size_is rounds same x.0 x.1
      ((births n last R by).1.sound there.0 x.0 x.1 there.1).0 in
      let found = numbered.complete x.0 x.1 birth in (
        found.0,
        pair_there origins firsts found.0 found.1 numbered.each found.2
            ∙ ap (λ r. Some (r, slice_index firsts found.0)) found.3 ∙ ap (λ h. Some (x.0, h)) found.4,
      )

  in_list : (x : ℕ × ℕ) → IsIn pairs x → IsIn list x
  in_list x there =
      let pair = pair_at origins firsts there.0 x there.1 in
      let birth = numbered.births there.0 pair.origin pair.origin_is in
      let here = subst (λ r. IsBirth p counts r x.1) pair.round_is
      (subst (IsBirth p counts (began pair.origin)) pair.place_is birth) in
      let found = birth_from p counts laid counted n last R by size_is rounds same x.0 x.1 here in
      (births n last R by).1.complete x.0 x.1 found
      (elim (cases_eq 0 x.0) [ inl e ↦ inr (e, omega arith) | inr o ↦ inl (omega arith) ])

  lists_are : list ≡ pairs
  lists_are = ordered_once list pairs list_ordered pairs_ordered in_pairs in_list

  born_at : (c : ℕ) (o : Origin) → slice_get origins c ≡ Some o
      → slice_get list c ≡ Some (began o, slice_index firsts c)
  born_at c o e = ap (λ xs. slice_get xs c) lists_are ∙ pair_there origins firsts c o numbered.each e

  place_at : (c : ℕ) (o : Origin) → slice_get origins c ≡ Some o → place n last R by (slice_index firsts c) ≡ c
  place_at c o e = place_is n last R by c (began o) (slice_index firsts c) (born_at c o e)

  place_first : (c : ℕ) → c < length firsts → place n last R by (slice_index firsts c) ≡ c
  place_first c l =
      let each = numbered.each in
      let o = get_there origins c (omega arith) in place_at c o.0 o.1

  -- the number of a place
  pub member_is : (x : ℕ) → x < n → number n last R by last x ≡ slice_index members x
  member_is x l =
      let at = numbered.member x (omega arith) in
      let end : slice_index counts last ≡ count p = counted.last last rounds in
      let lead = subst (λ k. IsFirstOf p k x (slice_index firsts (slice_index members x))) (sym end) at.1 in
      let is = first_is p counts laid counted n last R by size_is rounds same last x
      (slice_index firsts (slice_index members x)) (omega arith) l lead in
      ap (place n last R by) is ∙ place_first (slice_index members x) at.0

  -- how a class began
  start_is : (c : ℕ) (u : tables.Origin) → slice_get (classes n last R by) c ≡ Some u → tables.began u ≡ 0
      → u ≡ tables.start
  start_is c tables.start e f = refl
  start_is c (tables.split parent since) e f =
      absurd (let is = (split_of n last R by c parent since e).round_is in omega arith)

  split_is : (c parent round : ℕ) (u : tables.Origin) → slice_get origins c ≡ Some (Split parent round)
      → slice_get (classes n last R by) c ≡ Some u → tables.began u ≡ round → u ≡ tables.split parent round
  split_is c parent round tables.start e f g = absurd (let up = (numbered.parents c parent round e).1 in omega arith)
  split_is c parent round (tables.split above since) e f g =
      let is = split_of n last R by c above since f in
      let up = numbered.parents c parent round e in
      let since_is : since ≡ suc is.before = is.round_is in
      let next : round ≡ up.0 + 1 = up.1 in
      let before : is.before ≡ up.0 = omega arith in
      let birth = numbered.births c (Split parent round) e in
      let counted_round = birth.counted in
      let within = birth.first.2.within in
      let lead = first_is p counts laid counted n last R by size_is rounds same up.0 (slice_index firsts c)
      (slice_index firsts parent) (omega arith) (omega arith) up.3 in
      let there = placed n last R by (suc is.before) is.head is.birth in
      let here = born_at c (Split parent round) e in
      let both : Some (suc is.before, is.head) ≡ Some (round, slice_index firsts c) = sym there
      ∙ ap (slice_get list) is.place_is ∙ here in
      let head : is.head ≡ slice_index firsts c = ap (λ x. x.1)
      (same_pair (suc is.before, is.head) (round, slice_index firsts c) both) in
      let number_is : above ≡ parent = is.parent_is ∙ ap (λ r. number n last R by r is.head) before
      ∙ ap (number n last R by up.0) head ∙ ap (place n last R by) lead ∙ place_first parent up.2 in
      ap (λ a. tables.split a since) number_is ∙ ap (tables.split parent) g

  class_is : (c : ℕ) (o : Origin) → slice_get origins c ≡ Some o
      → slice_get (classes n last R by) c ≡ Some (origin_in o)
  class_is c o e =
      let at = class_of n last R by c (began o) (slice_index firsts c) (born_at c o e) in
      let u : tables.Origin = origin_by n last R by (began o) (slice_index firsts c) in
      let round : tables.began u ≡ began o = began_by n last R by (began o) (slice_index firsts c) in
      at ∙ ap Some (go o e u at round)
    where
      go : (o : Origin) → slice_get origins c ≡ Some o → (u : tables.Origin)
          → slice_get (classes n last R by) c ≡ Some u → tables.began u ≡ began o → u ≡ origin_in o
      go Start e u f g = start_is c u f g
      go (Split parent round) e u f g = split_is c parent round u e f g

  pub classes_are : classes n last R by ≡ map origin_in origins
  classes_are = lists_same (classes n last R by) (map origin_in origins) (λ c.
      go c (slice_get origins c) refl (slice_get (classes n last R by) c) refl)
    where
      go : (c : ℕ) (o : Option Origin) → slice_get origins c ≡ o → (u : Option tables.Origin)
          → slice_get (classes n last R by) c ≡ u → slice_get (classes n last R by) c ≡ slice_get (map origin_in origins) c
      go c (Some o) e u f = class_is c o e ∙ sym (slice_get-map origin_in origins c ∙ ap (option_map origin_in) e)
      go c None e None f = f ∙ sym (slice_get-map origin_in origins c ∙ ap (option_map origin_in) e)
      go c None e (Some u) f = absurd (
          let is = of_class n last R by c u f in
          let pair = pair_at origins firsts c (is.round, is.head) (sym (ap (λ xs. slice_get xs c) lists_are) ∙ is.at) in
          let some = pair.origin_is in cc)
