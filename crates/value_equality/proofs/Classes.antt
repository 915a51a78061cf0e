-- The classes of partitions by rounds, numbered in the order of their births.
use Rattle.std.proofs.Common.{◌≡◌, ◌≤◌, ◌<◌, ℕ, zero, suc, Bool, List, Option, Some, None, refl, sym, ◌∙◌, ap, subst, inl, inr, arith}
use Rattle.std.specs.Prelude.{map, slice_get}
use Rattle.std.specs.Option.{option_map}
use Rattle.std.proofs.lemmas.Bool.{cases_lt, cases_order, cases_eq}
use Rattle.std.proofs.lemmas.Option.{slice_get-map}
use Rattle.value_equality.specs.Tables.{Origin, start, split, began, IsAncestor, itself, through}
use Rattle.value_equality.proofs.Births.{ArePartings, first, first_below, first_first, first_within, first_stays, IsBirth, birth_of, births, born, place, placed, place_is, same_pair}
use Rattle.value_equality.proofs.Unique.{IsBefore}

module _ (n last : ℕ) (R : ℕ → ℕ → ℕ → Bool) (by : ArePartings n last R) where
  -- the number of the class of i
  abbrev pub number : ℕ → ℕ → ℕ
  number r i = place n last R by (first n last R by r i)

  abbrev Birth : ℕ → ℕ → Type 0
  Birth = IsBirth n last R by

  abbrev list : List (ℕ × ℕ)
  list = (births n last R by).0

  pub origin_by : ℕ → ℕ → Origin
  origin_by zero h = start
  origin_by (suc r) h = split (number r h) (suc r)

  pub began_by : (r h : ℕ) → began (origin_by r h) ≡ r
  unfolding origin_by
  began_by zero h = refl
  began_by (suc r) h = refl

  abbrev origin : ℕ × ℕ → Origin
  origin p = origin_by p.0 p.1

  pub classes : List Origin
  classes = map origin list

  pub class_of : (c q h : ℕ) → slice_get list c ≡ Some (q, h) → slice_get classes c ≡ Some (origin_by q h)
  unfolding classes
  class_of c q h e = slice_get-map origin list c ∙ ap (option_map origin) e

  -- each class is of a birth
  pub record IsOf (c : ℕ) (o : Origin) : Type 0 where
    pub round : ℕ
    pub head : ℕ
    pub at : slice_get list c ≡ Some (round, head)
    pub birth : Birth round head
    pub place_is : place n last R by head ≡ c
    pub origin_is : origin_by round head ≡ o

  pub of_class : (c : ℕ) (o : Origin) → slice_get classes c ≡ Some o → IsOf c o
  unfolding classes
  of_class c o e = go (slice_get list c) refl (sym (slice_get-map origin list c) ∙ e)
    where
      go : (u : Option (ℕ × ℕ)) → slice_get list c ≡ u → option_map origin u ≡ Some o → IsOf c o
      go None f g = absurd (cc)
      go (Some p) f g = record {
        round = p.0;
        head = p.1;
        at = f;
        birth = born n last R by c p.0 p.1 f;
        place_is = place_is n last R by c p.0 p.1 f;
        origin_is = cc;
      }

  -- what the class of i is of
  pub record IsNumber (r i : ℕ) : Type 0 where
    pub round : ℕ
    pub in_time : round ≤ r
    pub at : slice_get list (number r i) ≡ Some (round, first n last R by r i)

  pub number_is : (r i : ℕ) → i < n → IsNumber r i
  number_is r i l =
      let found = birth_of n last R by r (first n last R by r i) (first_below n last R by r i l)
      (first_first n last R by r i l) in
      record { round = found.0; in_time = found.1; at = placed n last R by found.0 (first n last R by r i) found.2 }

  pub first_from_number : (r i j : ℕ) → i < n → j < n → number r i ≡ number r j → first n last R by r i ≡ first n last R
      by r j
  first_from_number r i j l m e =
      let a = number_is r i l in
      let b = number_is r j m in
      let both : Some (a.round, first n last R by r i) ≡ Some (b.round, first n last R by r j) = sym a.at
      ∙ ap (slice_get list) e ∙ b.at in
      ap (λ p. p.1) (same_pair (a.round, first n last R by r i) (b.round, first n last R by r j) both)

  pub in_order : (c d q h r j : ℕ) → c < d → slice_get list c ≡ Some (q, h) → slice_get list d ≡ Some (r, j)
      → IsBefore q h r j
  in_order = (births n last R by).1.ordered

  -- a class is born after its parent
  pub parent_before : (r h : ℕ) → Birth (suc r) h → number r h < place n last R by h
  parent_before r h b =
      let parent = number_is r h b.within in
      let le : parent.round ≤ r = parent.in_time in
      let at = placed n last R by (suc r) h b in
      elim (cases_order (number r h) (place n last R by h)) [
        | inl e ↦ absurd (
            let both : Some (parent.round, first n last R by r h) ≡ Some (suc r, h) = sym parent.at
            ∙ ap (slice_get list) e ∙ at in
            let same : parent.round ≡ suc r = ap (λ p. p.0) (same_pair (parent.round, first n last R by r h) (suc r, h)
            both) in
            omega arith)
        | inr (inl l) ↦ l
        | inr (inr l) ↦ absurd (elim (in_order (place n last R by h) (number r h) (suc r) h parent.round
            (first n last R by r h) l at parent.at) [ inl m ↦ omega arith | inr m ↦ let s = m.0 in omega arith ])
      ]

  -- a class with a parent is of a birth after round 0
  pub record IsSplit (c parent round : ℕ) : Type 0 where
    pub before : ℕ
    pub head : ℕ
    pub round_is : round ≡ suc before
    pub parent_is : parent ≡ number before head
    pub birth : Birth (suc before) head
    pub place_is : place n last R by head ≡ c

  pub split_of : (c parent round : ℕ) → slice_get classes c ≡ Some (split parent round) → IsSplit c parent round
  unfolding origin_by
  split_of c parent round e = let is = of_class c (split parent round) e in go is.round is.head is.birth is.place_is
      is.origin_is
    where
      go : (q h : ℕ) → Birth q h → place n last R by h ≡ c → origin_by q h ≡ split parent round → IsSplit c parent round
      go zero h b at f = absurd (cc)
      go (suc q) h b at f = record { before = q; head = h; round_is = cc; parent_is = cc; birth = b; place_is = at }

  begun : (r i : ℕ) → i < n → (round : ℕ) → r ≤ round → IsAncestor classes round (number r i) (number r i)
  begun r i l round h =
      let is = number_is r i l in
      let le : is.round ≤ r = is.in_time in
      let began_at : began (origin_by is.round (first n last R by r i)) ≡ is.round =
      began_by is.round (first n last R by r i) in
      itself (number r i) (origin_by is.round (first n last R by r i))
      (class_of (number r i) is.round (first n last R by r i) is.at) (omega arith)

  split_at : (r h : ℕ) → Birth (suc r) h → slice_get classes (place n last R by h) ≡ Some (split (number r h) (suc r))
  unfolding origin_by
  split_at r h b = class_of (place n last R by h) (suc r) h (placed n last R by (suc r) h b)

  raised : (round r i a : ℕ) → i < n → round ≤ r → IsAncestor classes round (number r i) a → IsAncestor classes round
      (number (suc r) i) a
  raised round r i a l h up =
      let f : ℕ = first n last R by (suc r) i in
      let within : first n last R by r f ≡ first n last R by r i = first_within n last R by r i l in
      elim (cases_eq (first n last R by r f) f) [
        | inl was ↦ subst (λ m. IsAncestor classes round (place n last R by m) a) (sym within ∙ was) up
        | inr new ↦
            let birth : Birth (suc r) f = record {
              within = first_below n last R by (suc r) i l;
              first = first_first n last R by (suc r) i l;
              fresh = new;
            } in
            through (place n last R by f) (number r f) (suc r) a (split_at r f birth) (omega arith)
            (parent_before r f birth)
            (subst (λ m. IsAncestor classes round (place n last R by m) a) (sym within) up)
      ]

  -- the class at a round is an ancestor of that at a later one
  rising : (round later i : ℕ) → i < n → round ≤ later → IsAncestor classes round (number later i) (number round i)
  rising round zero i l h = let same : zero ≡ round = omega arith in
      subst (λ m. IsAncestor classes round (number m i) (number round i)) (sym same)
      (begun round i l round (omega arith))
  rising round (suc r) i l h = elim (cases_lt r round) [
    | inl m ↦ let same : round ≡ suc r = omega arith in
        subst (λ m. IsAncestor classes round (number m i) (number round i)) same (begun round i l round (omega arith))
    | inr m ↦ raised round r i (number round i) l m (rising round r i l m)
  ]

  number_stays : (r i : ℕ) → i < n → last ≤ r → number r i ≡ number last i
  number_stays zero i l h = let same : zero ≡ last = omega arith in ap (λ m. number m i) same
  number_stays (suc r) i l h = elim (cases_lt r last) [
    | inl m ↦ let same : suc r ≡ last = omega arith in ap (λ k. number k i) same
    | inr m ↦ ap (place n last R by) (first_stays n last R by r i l m) ∙ number_stays r i l m
  ]

  pub ancestor_at : (round i : ℕ) → i < n → IsAncestor classes round (number last i) (number round i)
  ancestor_at round i l = elim (cases_lt last round) [
    | inl m ↦ subst (λ a. IsAncestor classes round (number last i) a) (sym (number_stays round i l (omega arith)))
        (begun last i l round (omega arith))
    | inr m ↦ rising round last i l m
  ]
