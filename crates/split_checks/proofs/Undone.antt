-- A birth is undone: each place of the class is in its parent again, and places that moved are told by their pairs.
use Rattle.std.proofs.Common.{◌≡◌, ◌≢◌, ◌≤◌, ◌<◌, ℕ, zero, suc, eq-eqb, ◌+◌, ◌-◌, cond, List, [], ◌∷◌, ◌++◌, refl, sym, ◌∙◌, ap, subst, inl, inr, length, arith, length-append, get_or}
use Rattle.std.specs.Prelude.{◌==◌, ◌↔◌, ◌⊎◌, slice_index}
use Rattle.std.specs.List.{Contains}
use Rattle.std.specs.List.Sorted.{IsNonDecreasingBy}
use Rattle.std.proofs.lemmas.Bool.{cases_eq, cases_lt, ne_eqb}
use Rattle.std.proofs.lemmas.List.{get_or_append_left, get_or_default, get_or_push, get_or-append_right, get_or-map, length-map}
use Rattle.std.proofs.lemmas.List.Elements.{Contains-append_cases, Contains-append_left, Contains-append_right, Contains-push, Contains-push_cases}
use Rattle.partitions.specs.declared.pairs.Pair.{Pair}
use Rattle.partitions.specs.Refinements.{HasPair}
use Rattle.partitions.specs.steps.Steps.{pair_at}
use Rattle.partition_edges.proofs.Gathering.{pair}
use Rattle.split_checks.specs.declared.births.Birth.{Birth}
use Rattle.split_checks.specs.steps.Births.{AreBirths, IsAncestor, itself, through}
use Rattle.split_checks.specs.steps.ComputedUndoing.{IsBack, SharedFrom, pairs_of}
use Rattle.split_checks.specs.steps.Moves.{AreFalling, MovedAlike, round_at}
use Rattle.split_checks.proofs.Runs.{held_at, index_of}

-- pairs of some places
module _ (round number : ℕ) where
  pub pairs_sound : (places : List ℕ) (c i x : ℕ) → HasPair (pairs_of round number places) c i x
      → (c ≡ round) × (i ≡ number) × Contains places x
  pairs_sound places c i x h =
      let a = index_of (pairs_of round number places) c i x h in
      let l = a.1 in
      let n = length-map places (λ y. pair round number y) in
      let inside : a.0 < length places = omega (arith, l, n) in
      let at : pair_at (pairs_of round number places) a.0 ≡ pair round number (slice_index places a.0) =
      get_or-map (λ y. pair round number y) places a.0 0 (pair 0 0 0) inside in
      let is : pair c i x ≡ pair round number (slice_index places a.0) = sym a.2 ∙ at in (
        ap (λ (b : Pair). b.class) is,
        ap (λ (b : Pair). b.position) is,
        (a.0, inside, get_or_default places a.0 x 0 inside ∙ sym (ap (λ (b : Pair). b.place) is)),
      )

  pub pairs_complete : (places : List ℕ) (x : ℕ) → Contains places x → HasPair (pairs_of round number places) round number x
  pairs_complete places x h =
      let n = length-map places (λ y. pair round number y) in
      let l = h.1 in
      held_at (pairs_of round number places) h.0 round number x (omega (arith, l, n))
      (get_or-map (λ y. pair round number y) places h.0 0 (pair 0 0 0) l
      ∙ ap (pair round number) (sym (get_or_default places h.0 x 0 l) ∙ h.2))

-- pairs of other keys are added
module _ (old added : List Pair) (apart : (c i x y : ℕ) → HasPair old c i x → HasPair added c i y → ⊥) where
  alike_there : (r x z : ℕ) → MovedAlike (old ++ added) r x z → MovedAlike old r x z
  alike_there r x z h c i l = (
    λ a. (elim (Contains-append_cases old added (pair c i z) ((h c i l).0 (Contains-append_left old added (pair c i x) a))) [
      | inl b ↦ b
      | inr b ↦ absurd (apart c i x z a b)
    ]),
    λ a. (elim (Contains-append_cases old added (pair c i x) ((h c i l).1 (Contains-append_left old added (pair c i z) a))) [
      | inl b ↦ b
      | inr b ↦ absurd (apart c i z x a b)
    ]),
  )

  alike_added : (r x z : ℕ) → MovedAlike (old ++ added) r x z → MovedAlike added r x z
  alike_added r x z h c i l = (
    λ a. (elim (Contains-append_cases old added (pair c i z) ((h c i l).0 (Contains-append_right old added (pair c i x) a))) [
      | inl b ↦ absurd (apart c i z x b a)
      | inr b ↦ b
    ]),
    λ a. (elim (Contains-append_cases old added (pair c i x) ((h c i l).1 (Contains-append_right old added (pair c i z) a))) [
      | inl b ↦ absurd (apart c i x z b a)
      | inr b ↦ b
    ]),
  )

  one_way : (r x z : ℕ) → MovedAlike old r x z → MovedAlike added r x z → (c i : ℕ) → c ≤ r
      → HasPair (old ++ added) c i x → HasPair (old ++ added) c i z
  one_way r x z h k c i l a = elim (Contains-append_cases old added (pair c i x) a) [
    | inl b ↦ Contains-append_left old added (pair c i z) ((h c i l).0 b)
    | inr b ↦ Contains-append_right old added (pair c i z) ((k c i l).0 b)
  ]

  pub alike_both : (r x z : ℕ) → MovedAlike (old ++ added) r x z ↔ (MovedAlike old r x z × MovedAlike added r x z)
  alike_both r x z = (
    λ h. (alike_there r x z h, alike_added r x z h),
    λ h c i l. (
      one_way r x z h.0 h.1 c i l,
      one_way r z x (λ d j m. ((h.0 d j m).1, (h.0 d j m).0)) (λ d j m. ((h.1 d j m).1, (h.1 d j m).0)) c i l,
    ),
  )

-- pairs of an earlier round are added
pub falling_more : (old added : List Pair) (r : ℕ) → AreFalling old → ((c i x : ℕ) → HasPair old c i x → r ≤ c)
    → ((c i x : ℕ) → HasPair added c i x → c ≡ r) → AreFalling (old ++ added)
falling_more old added r falling late same j k le l =
    let long = length-append old added in
    elim (cases_lt k (length old)) [
      | inl m ↦
          subst (λ (b : Pair). b.class ≤ round_at (old ++ added) j) (sym (in_old k m))
          (subst (λ (b : Pair). round_at old k ≤ b.class) (sym (in_old j (omega (arith, le, m)))) (falling j k le m))
      | inr n ↦
          let last = in_added k n l in
          elim (cases_lt j (length old)) [
            | inl m ↦
                let here : round_at (old ++ added) j ≡ round_at old j = ap (λ (b : Pair). b.class) (in_old j m) in
                let at = late (round_at old j) (pair_at old j).position (pair_at old j).place
                (held_at old j (round_at old j) (pair_at old j).position (pair_at old j).place m refl) in
                omega (arith, last, here, at)
            | inr m ↦ (let one = in_added j m (omega (arith, le, l)) in omega (arith, last, one))
          ]
    ]
  where
    in_old : (i : ℕ) → i < length old → pair_at (old ++ added) i ≡ pair_at old i
    in_old i m = get_or_append_left old added (pair 0 0 0) i m

    in_added : (i : ℕ) → length old ≤ i → i < length (old ++ added) → round_at (old ++ added) i ≡ r
    in_added i m n =
        let long = length-append old added in
        let inside : i - length old < length added = omega (arith, m, n, long) in
        let at : pair_at (old ++ added) i ≡ pair_at added (i - length old) =
        get_or-append_right old added (length old) i (pair 0 0 0) refl m in
        ap (λ (b : Pair). b.class) at
        ∙ same (round_at added (i - length old)) (pair_at added (i - length old)).position
        (pair_at added (i - length old)).place
        (held_at added (i - length old) (round_at added (i - length old)) (pair_at added (i - length old)).position
        (pair_at added (i - length old)).place inside refl)

-- what is sorted stays so without the last, which is the greatest
module _ (left : List Birth) (b : Birth) (sorted : IsNonDecreasingBy (λ (d : Birth). d.round) (left ++ b ∷ [])) where
  long : length (left ++ b ∷ []) ≡ length left + 1
  long = length-append left (b ∷ [])

  pub sorted_before : IsNonDecreasingBy (λ (d : Birth). d.round) left
  sorted_before i j d le l =
      let n = long in
      let s = sorted i j d le (omega (arith, l, n)) in
      subst (λ (e : Birth). (get_or left i d).round ≤ e.round) (get_or_append_left left (b ∷ []) d j l)
      (subst (λ (e : Birth). e.round ≤ (get_or (left ++ b ∷ []) j d).round)
      (get_or_append_left left (b ∷ []) d i (omega (arith, le, l))) s)

  pub below_last : (d : Birth) → Contains left d → d.round ≤ b.round
  below_last d h =
      let n = long in
      let l = h.1 in
      let s = sorted h.0 (length left) d (omega (arith, l)) (omega (arith, n)) in
      let last : get_or (left ++ b ∷ []) (length left) d ≡ b =
      get_or_push left b d (length left) refl in
      let one : get_or (left ++ b ∷ []) h.0 d ≡ d = get_or_append_left left (b ∷ []) d h.0 l ∙ h.2 in
      subst (λ (e : Birth). d.round ≤ e.round) last
      (subst (λ (e : Birth). e.round ≤ (get_or (left ++ b ∷ []) (length left) d).round) one s)

-- no birth is behind this round
abbrev pub bound : List Birth → ℕ
bound [] = 1
bound (b ∷ bs) = b.round + bound bs

some_bound : (bs : List Birth) → 0 < bound bs
some_bound [] = let e : bound [] ≡ 1 = refl in omega (arith, e)
some_bound (b ∷ bs) =
    let k = some_bound bs in
    let e : bound (b ∷ bs) ≡ b.round + bound bs = refl in omega (arith, k, e)

bounded : (bs : List Birth) (k : ℕ) (d : Birth) → k < length bs → (get_or bs k d).round ≤ bound bs
bounded [] k d l = absurd (omega (arith, l))
bounded (b ∷ bs) zero d l =
    let e : bound (b ∷ bs) ≡ b.round + bound bs = refl in
    let f : (get_or (b ∷ bs) zero d).round ≡ b.round = refl in omega (arith, e, f)
bounded (b ∷ bs) (suc k) d l =
    let h = bounded bs k d (omega (arith, l)) in
    let e : bound (b ∷ bs) ≡ b.round + bound bs = refl in
    let f : (get_or (b ∷ bs) (suc k) d).round ≡ (get_or bs k d).round = refl in omega (arith, h, e, f)

module _ (classes : ℕ) (births : List Birth) (are : AreBirths classes births) where
  -- there is one class above
  one_up : (r c a b : ℕ) → IsAncestor births r c a → IsAncestor births r c b → a ≡ b
  one_up r c a b (itself d h) (itself e g) = refl
  one_up r c a b (itself d h) (through e f q n ist lt more) = absurd (let le = h q n ist in omega (arith, le, lt))
  one_up r c a b (through d f p m is lt more) (itself e g) = absurd (let le = g p m is in omega (arith, le, lt))
  one_up r c a b (through d f p m is lt more) (through e g q n ist less rest) =
      one_up r p.parent a b more
      (subst (λ (s : Birth). IsAncestor births r s.parent b) (are.once q p n m (ist ∙ sym is)) rest)

  -- the one above a class is that above its parent, before it was split off
  from_class : (r a : ℕ) (b : Birth) → Contains births b → r < b.round → (c : ℕ) → b.class ≡ c
      → IsAncestor births r c a → IsAncestor births r b.parent a
  from_class r a b m lt c e (itself d h) = absurd (let le = h b m e in omega (arith, le, lt))
  from_class r a b m lt c e (through d f p n is less more) =
      subst (λ (s : Birth). IsAncestor births r s.parent a) (are.once p b n m (is ∙ sym e)) more

  -- where nothing that is left began later, places share a class that are in one
  settled : (r n : ℕ) (start now : ℕ → ℕ) (left : List Birth) → ((b : Birth) → Contains left b → b.round ≤ r)
      → ((x a : ℕ) → x < n → IsAncestor births r (start x) a ↔ IsAncestor births r (now x) a)
      → ((b : Birth) (x : ℕ) → x < n → Contains births b → b.class ≡ now x → Contains left b)
      → (x z : ℕ) → x < n → z < n → SharedFrom births start r x z ↔ (now x ≡ now z)
  settled r n start now left all leads begun x z lx lz = (
    λ h. sym (one_up r (now x) h.0 (now x) ((leads x h.0 lx).0 h.1) (own x lx))
        ∙ one_up r (now z) h.0 (now z) ((leads z h.0 lz).0 h.2) (own z lz),
    λ e. (
      now x,
      (leads x (now x) lx).1 (own x lx),
      (leads z (now x) lz).1 (subst (IsAncestor births r (now z)) (sym e) (own z lz)),
    ),
  )
    where
      own : (y : ℕ) → y < n → IsAncestor births r (now y) (now y)
      own y l = itself (now y) (λ b m e. all b (begun b y l m e))

  in_bound : (b : Birth) → Contains births b → b.round ≤ bound births
  in_bound b h = subst (λ (d : Birth). d.round ≤ bound births) h.2 (bounded births h.0 b h.1)

  none_held : (c i x : ℕ) → HasPair [] c i x → ⊥
  none_held c i x h = let l = h.1 in omega (arith, l)

  -- at the beginning all are left
  pub none_undone : (n : ℕ) (start : ℕ → ℕ) → IsNonDecreasingBy (λ (b : Birth). b.round) births
      → IsBack births n start births (bound births) start []
  none_undone n start sorted = record {
    some = some_bound births;
    sorted = sorted;
    low = in_bound;
    own = λ b h. h;
    whole = λ b h. inl h;
    leads = λ r x a l lt. (λ h. h, λ h. h);
    begun = λ b x l m e. m;
    fresh = λ c i x h. absurd (none_held c i x h);
    late = λ c i x h. absurd (none_held c i x h);
    places = λ c i x h. absurd (none_held c i x h);
    falling = λ j k le l. absurd (omega (arith, l));
    tell = λ r x z lx lz all.
        let is = settled r n start start births all (λ y a l. (λ h. h, λ h. h)) (λ b y l m e. m) x z lx lz in (
          λ h. (is.0 h, λ c i le. (λ p. absurd (none_held c i x p), λ p. absurd (none_held c i z p))),
          λ h. is.1 h.0,
        );
  }

  -- one more birth is undone, the last of those left
  module _ (n : ℕ) (start : ℕ → ℕ) (left : List Birth) (b : Birth) (top : ℕ) (now : ℕ → ℕ) (moves : List Pair)
      (s : IsBack births n start (left ++ b ∷ []) top now moves) where
    this : Contains births b
    this = s.own b (Contains-push left b)

    b_low : b.round ≤ top
    b_low = s.low b (Contains-push left b)

    apart : b.class ≢ b.parent
    apart e = let lt = are.later b b this this e in omega (arith, lt)

    abbrev pub then : ℕ → ℕ
    then x = cond (now x == b.class) b.parent (now x)

    pub in_class : (x : ℕ) → now x ≡ b.class → then x ≡ b.parent
    in_class x e = ap (λ t. cond t b.parent (now x)) (eq-eqb (now x) b.class e)

    pub not_class : (x : ℕ) → now x ≢ b.class → then x ≡ now x
    not_class x e = ap (λ t. cond t b.parent (now x)) (ne_eqb (now x) b.class e)

    pub never : (x : ℕ) → then x ≢ b.class
    never x e = elim (cases_eq (now x) b.class) [
      | inl c ↦ apart (sym e ∙ in_class x c)
      | inr c ↦ c (sym (not_class x c) ∙ e)
    ]

    goes : (r x a : ℕ) → r < b.round → IsAncestor births r (now x) a ↔ IsAncestor births r (then x) a
    goes r x a lt = elim (cases_eq (now x) b.class) [
      | inl e ↦ (
        λ h. subst (λ c. IsAncestor births r c a) (sym (in_class x e)) (from_class r a b this lt (now x) (sym e) h),
        λ h. through (now x) a b this (sym e) lt (subst (λ c. IsAncestor births r c a) (in_class x e) h),
      )
      | inr e ↦ (
        λ h. subst (λ c. IsAncestor births r c a) (sym (not_class x e)) h,
        λ h. subst (λ c. IsAncestor births r c a) (not_class x e) h,
      )
    ]

    whole_then : (d : Birth) → Contains births d → Contains left d ⊎ (b.round ≤ d.round)
    whole_then d m = elim (s.whole d m) [
      | inl h ↦ elim (Contains-push_cases left b d h) [
        | inl k ↦ inl k
        | inr e ↦ inr (subst (λ (q : Birth). b.round ≤ q.round) e (omega arith))
      ]
      | inr h ↦ inr (let l = b_low in omega (arith, l, h))
    ]

    begun_then : (d : Birth) (x : ℕ) → x < n → Contains births d → d.class ≡ then x → Contains left d
    begun_then d x l m e = elim (cases_eq (now x) b.class) [
      | inl c ↦
          let lt = are.later b d this m (e ∙ in_class x c) in
          elim (whole_then d m) [ inl k ↦ k | inr h ↦ absurd (omega (arith, lt, h)) ]
      | inr c ↦
          let own : d.class ≡ now x = e ∙ not_class x c in
          elim (Contains-push_cases left b d (s.begun d x l m own)) [
            | inl k ↦ k
            | inr same ↦ absurd (c (sym own ∙ ap (λ (q : Birth). q.class) (sym same)))
          ]
    ]

    module _ (moved : List ℕ) (side : ℕ) (side_is : (side ≡ b.class) ⊎ (side ≡ b.parent))
        (tell : (x : ℕ) → Contains moved x ↔ ((x < n) × (now x ≡ side))) where
      abbrev added : List Pair
      added = pairs_of b.round (length left) moved

      one_side : (x z : ℕ) → x < n → z < n → now x ≡ b.class → now z ≢ b.class → then x ≡ then z
          → (Contains moved x ↔ Contains moved z) → ⊥
      one_side x z lx lz ex nz e h =
          let par : now z ≡ b.parent = sym (not_class z nz) ∙ sym e ∙ in_class x ex in
          elim side_is [
            | inl c ↦ nz (((tell z).0 (h.0 ((tell x).1 (lx, ex ∙ sym c)))).1 ∙ c)
            | inr p ↦ apart (sym ex ∙ ((tell x).0 (h.1 ((tell z).1 (lz, par ∙ sym p)))).1 ∙ p)
          ]

      split : (x z : ℕ) → x < n → z < n → (now x ≡ now z) ↔ ((then x ≡ then z) × (Contains moved x ↔ Contains moved z))
      split x z lx lz = (
        λ e. (
          ap (λ c. cond (c == b.class) b.parent c) e,
          (
            λ m. (tell z).1 (lz, sym e ∙ ((tell x).0 m).1),
            λ m. (tell x).1 (lx, e ∙ ((tell z).0 m).1),
          ),
        ),
        λ h. elim (cases_eq (now x) b.class) [
          | inl ex ↦ elim (cases_eq (now z) b.class) [
            | inl ez ↦ ex ∙ sym ez
            | inr nz ↦ absurd (one_side x z lx lz ex nz h.0 h.1)
          ]
          | inr nx ↦ elim (cases_eq (now z) b.class) [
            | inl ez ↦ absurd (one_side z x lz lx ez nx (sym h.0) (h.1.1, h.1.0))
            | inr nz ↦ sym (not_class x nx) ∙ h.0 ∙ not_class z nz
          ]
        ],
      )

      longer : length (left ++ b ∷ []) ≡ length left + 1
      longer = length-append left (b ∷ [])

      keys_apart : (c i x y : ℕ) → HasPair moves c i x → HasPair added c i y → ⊥
      keys_apart c i x y h k =
          let f = s.fresh c i x h in
          let p = (pairs_sound b.round (length left) moved c i y k).1 in
          let l = longer in omega (arith, f, p, l)

      to_other : (c i x z : ℕ) → (Contains moved x → Contains moved z) → HasPair added c i x → HasPair added c i z
      to_other c i x z f h =
          let p = pairs_sound b.round (length left) moved c i x h in
          subst (λ d. HasPair added d i z) (sym p.0)
          (subst (λ j. HasPair added b.round j z) (sym p.1) (pairs_complete b.round (length left) moved z (f p.2)))

      alike_moved : (r x z : ℕ) → b.round ≤ r → MovedAlike added r x z ↔ (Contains moved x ↔ Contains moved z)
      alike_moved r x z le = (
        λ h. (
          λ m. (pairs_sound b.round (length left) moved b.round (length left) z
              ((h b.round (length left) le).0 (pairs_complete b.round (length left) moved x m))).2,
          λ m. (pairs_sound b.round (length left) moved b.round (length left) x
              ((h b.round (length left) le).1 (pairs_complete b.round (length left) moved z m))).2,
        ),
        λ h c i l. (to_other c i x z h.0, to_other c i z x h.1),
      )

      all_late : (c i x : ℕ) → HasPair (moves ++ added) c i x → b.round ≤ c
      all_late c i x h = elim (Contains-append_cases moves added (pair c i x) h) [
        | inl k ↦ (let l = s.late c i x k in let m = b_low in omega (arith, l, m))
        | inr k ↦ (let e = (pairs_sound b.round (length left) moved c i x k).0 in omega (arith, e))
      ]

      tell_then : (r x z : ℕ) → x < n → z < n → ((d : Birth) → Contains left d → d.round ≤ r)
          → SharedFrom births start r x z ↔ ((then x ≡ then z) × MovedAlike (moves ++ added) r x z)
      tell_then r x z lx lz all = elim (cases_lt r b.round) [
        | inl early ↦
            let low = b_low in
            let is = settled r n start then left all
            (λ y a l. (let was = s.leads r y a l (omega (arith, early, low)) in let go = goes r y a early in
            (λ h. go.0 (was.0 h), λ h. was.1 (go.1 h)))) begun_then x z lx lz in (
              λ h. (
                is.0 h,
                λ c i le. (
                  λ p. absurd (let m = all_late c i x p in omega (arith, m, le, early)),
                  λ p. absurd (let m = all_late c i z p in omega (arith, m, le, early)),
                ),
              ),
              λ h. is.1 h.0,
            )
        | inr le ↦
            let was = s.tell r x z lx lz (λ d m. elim (Contains-push_cases left b d m) [
              | inl k ↦ all d k
              | inr e ↦ subst (λ (q : Birth). q.round ≤ r) e le
            ]) in
            let both = alike_both moves added keys_apart r x z in
            let by = split x z lx lz in
            let alike = alike_moved r x z le in (
              λ h. (let w = was.0 h in let q = by.0 w.0 in (q.0, both.1 (w.1, alike.1 q.1))),
              λ h. (let p = both.0 h.1 in was.1 (by.1 (h.0, alike.0 p.1), p.0)),
            )
      ]

      pub one_undone : IsBack births n start left b.round then (moves ++ added)
      one_undone = record {
        some = are.behind b this;
        sorted = sorted_before left b s.sorted;
        low = below_last left b s.sorted;
        own = λ d m. s.own d (Contains-append_left left (b ∷ []) d m);
        whole = whole_then;
        leads = λ r x a l lt. (let low = b_low in
            let was = s.leads r x a l (omega (arith, lt, low)) in let go = goes r x a lt in
            (λ h. go.0 (was.0 h), λ h. was.1 (go.1 h)));
        begun = begun_then;
        fresh = λ c i x h. elim (Contains-append_cases moves added (pair c i x) h) [
          | inl k ↦ (let f = s.fresh c i x k in let l = longer in omega (arith, f, l))
          | inr k ↦ (let e = (pairs_sound b.round (length left) moved c i x k).1 in omega (arith, e))
        ];
        late = all_late;
        places = λ c i x h. elim (Contains-append_cases moves added (pair c i x) h) [
          | inl k ↦ s.places c i x k
          | inr k ↦ ((tell x).0 (pairs_sound b.round (length left) moved c i x k).2).0
        ];
        falling = falling_more moves added b.round s.falling
            (λ c i x h. (let l = s.late c i x h in let m = b_low in omega (arith, l, m)))
            (λ c i x h. (pairs_sound b.round (length left) moved c i x h).0);
        tell = tell_then;
      }
