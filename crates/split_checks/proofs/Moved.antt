-- What is left when all births are undone.
use Rattle.std.proofs.Common.{◌≡◌, ◌≢◌, ◌≤◌, ◌<◌, ℕ, zero, suc, ◌+◌, List, [], ◌∷◌, ◌++◌, refl, sym, ◌∙◌, ap, subst, inl, inr, length, arith, get_or}
use Rattle.std.specs.Prelude.{◌↔◌, slice_index}
use Rattle.std.specs.Global.{Vec}
use Rattle.std.specs.List.{Contains}
use Rattle.std.specs.List.Sorted.{IsNonDecreasingBy, IsPermutation}
use Rattle.std.proofs.lemmas.Bool.{cases_eq, cases_lt}
use Rattle.std.proofs.lemmas.List.{get_or_default}
use Rattle.std.proofs.lemmas.List.Elements.{Contains-append_cases, Contains-append_left, Contains-append_right}
use Rattle.std.proofs.lemmas.List.Sorted.{Contains-permutation, IsPermutation-sym}
use Rattle.partitions.specs.declared.pairs.Pair.{Pair}
use Rattle.partitions.specs.Refinements.{HasPair}
use Rattle.partition_edges.proofs.Gathering.{pair}
use Rattle.split_checks.specs.declared.births.Birth.{Birth}
use Rattle.split_checks.specs.steps.Births.{AreBirths, IsAncestor, itself, through}
use Rattle.split_checks.specs.steps.ComputedMembers.{Hold, row}
use Rattle.split_checks.specs.steps.ComputedUndoing.{AreUndone, IsBack, Starts, Undoes, pairs_of}
use Rattle.split_checks.specs.steps.Moves.{AreMoves, MovedAlike}
use Rattle.split_checks.proofs.Undone.{alike_both, falling_more, in_class, never, none_undone, not_class, one_undone, pairs_complete, pairs_sound, then}

-- after one more birth is undone, the lists hold the places of the classes that are left
module _ (classes : ℕ) (births : List Birth) (are : AreBirths classes births) (n : ℕ) (start : ℕ → ℕ)
    (left : List Birth) (b : Birth) (top : ℕ) (now : ℕ → ℕ) (moves more : List Pair)
    (s : IsBack births n start (left ++ b ∷ []) top now moves) (lists after : List (Vec ℕ)) (hold : Hold lists n now)
    (u : Undoes b (length left) lists after moves more) where
  abbrev next : ℕ → ℕ
  next = then classes births are n start left b top now moves s

  class_then : (x : ℕ) → now x ≡ b.class → next x ≡ b.parent
  class_then = in_class classes births are n start left b top now moves s

  other_then : (x : ℕ) → now x ≢ b.class → next x ≡ now x
  other_then = not_class classes births are n start left b top now moves s

  no_more : (x : ℕ) → next x ≢ b.class
  no_more = never classes births are n start left b top now moves s

  empty : (x : ℕ) → Contains (row after b.class) x → ⊥
  empty x h =
      let m : Contains [] x = subst (λ xs. Contains xs x) u.class_row h in
      let l = m.1 in omega (arith, l)

  pub hold_then : Hold after n next
  hold_then d x = elim (cases_eq d b.class) [
    | inl e ↦ (
      λ h. absurd (empty x (subst (λ k. Contains (row after k) x) e h)),
      λ h. absurd (no_more x (h.1 ∙ e)),
    )
    | inr nc ↦ elim (cases_eq d b.parent) [
      | inl e ↦ (
        λ h. elim ((u.merged.held x).0 (subst (λ k. Contains (row after k) x) e h)) [
          | inl k ↦ (let w = (hold b.class x).0 k in (w.0, class_then x w.1 ∙ sym e))
          | inr k ↦ (let w = (hold b.parent x).0 k in
              (w.0, other_then x (λ c. nc (e ∙ sym w.1 ∙ c)) ∙ w.1 ∙ sym e))
        ],
        λ h. subst (λ k. Contains (row after k) x) (sym e) ((u.merged.held x).1 (elim (cases_eq (now x) b.class) [
          | inl c ↦ inl ((hold b.class x).1 (h.0, c))
          | inr c ↦ inr ((hold b.parent x).1 (h.0, sym (other_then x c) ∙ h.1 ∙ e))
        ])),
      )
      | inr np ↦
          let same : row after d ≡ row lists d = u.others d nc np in (
            λ h. (let w = (hold d x).0 (subst (λ xs. Contains xs x) same h) in
                (w.0, other_then x (λ c. nc (sym w.1 ∙ c)) ∙ w.1)),
            λ h. subst (λ xs. Contains xs x) (sym same) ((hold d x).1 (
              h.0,
              elim (cases_eq (now x) b.class) [
                | inl c ↦ absurd (np (sym h.1 ∙ class_then x c))
                | inr c ↦ sym (other_then x c) ∙ h.1
              ],
            )),
          )
    ]
  ]

  pub back_then : IsBack births n start left b.round next more
  back_then = elim u.merged.moved_is [
    | inl e ↦ subst (IsBack births n start left b.round next) (sym u.merged.noted)
        (one_undone classes births are n start left b top now moves s u.merged.moved b.class (inl refl)
        (λ x. subst (λ xs. Contains xs x ↔ ((x < n) × (now x ≡ b.class))) (sym e) (hold b.class x)))
    | inr e ↦ subst (IsBack births n start left b.round next) (sym u.merged.noted)
        (one_undone classes births are n start left b top now moves s u.merged.moved b.parent (inr refl)
        (λ x. subst (λ xs. Contains xs x ↔ ((x < n) × (now x ≡ b.parent))) (sym e) (hold b.parent x)))
  ]

-- as births are undone: those that are left, and what stands then
pub record Undoing (births left : List Birth) (before lists : List (Vec ℕ)) (moves : List Pair) : Type 0 where
  pub each : length lists ≡ length before
  pub own : (b : Birth) → Contains left b → Contains births b
  pub back : (n : ℕ) (start : ℕ → ℕ) → Hold before n start → (top : ℕ) × (now : ℕ → ℕ) × Hold lists n now
      × IsBack births n start left top now moves

pub undoing_first : (classes : ℕ) (births : List Birth) (lists : List (Vec ℕ)) (moves : List Pair)
    → AreBirths classes births → IsNonDecreasingBy (λ (b : Birth). b.round) births → moves ≡ []
    → Undoing births births lists lists moves
undoing_first classes births lists moves are sorted none = record {
  each = refl;
  own = λ b h. h;
  back = λ n start hold. (
    _,
    start,
    hold,
    subst (IsBack births n start births _ start) (sym none) (none_undone classes births are n start sorted),
  );
}

pub undoing_next : (classes : ℕ) (births left all : List Birth) (b : Birth) (before lists after : List (Vec ℕ))
    (moves more : List Pair) → AreBirths classes births → Undoing births all before lists moves → all ≡ left ++ b ∷ []
    → Undoes b (length left) lists after moves more → Undoing births left before after more
undoing_next classes births left all b before lists after moves more are u all_is one = record {
  each = one.each ∙ u.each;
  own = λ d h. u.own d (subst (λ bs. Contains bs d) (sym all_is) (Contains-append_left left (b ∷ []) d h));
  back = λ n start hold.
      let w = u.back n start hold in
      let s : IsBack births n start (left ++ b ∷ []) w.0 w.1 moves =
      subst (λ bs. IsBack births n start bs w.0 w.1 moves) all_is w.3 in (
        b.round,
        then classes births are n start left b w.0 w.1 moves s,
        hold_then classes births are n start left b w.0 w.1 moves more s lists after w.2 one,
        back_then classes births are n start left b w.0 w.1 moves more s lists after w.2 one,
      );
}

-- births in another order
pub births_moved : (classes : ℕ) (old new : List Birth) → IsPermutation old new → AreBirths classes old
    → AreBirths classes new
births_moved classes old new p are =
    let back : (b : Birth) → Contains new b → Contains old b = λ b h.
    Contains-permutation new old b (IsPermutation-sym old new p) h in
    record {
      within = λ b h. are.within b (back b h);
      once = λ b d h k e. are.once b d (back b h) (back d k) e;
      behind = λ b h. are.behind b (back b h);
      later = λ b d h k e. are.later b d (back b h) (back d k) e;
    }

ancestor_moved : (old new : List Birth) → ((b : Birth) → Contains old b → Contains new b)
    → ((b : Birth) → Contains new b → Contains old b) → (r c a : ℕ) → IsAncestor old r c a → IsAncestor new r c a
ancestor_moved old new there back r c a (itself d h) = itself c (λ b m e. h b (back b m) e)
ancestor_moved old new there back r c a (through d f b m is lt more) =
    through c a b (there b m) is lt (ancestor_moved old new there back r b.parent a more)

-- the pairs of round 0 behind the others
module _ (births sorted : List Birth) (last : List ℕ) (lists : List (Vec ℕ)) (moves more : List Pair)
    (p : IsPermutation births sorted) (u : AreUndone sorted (length last) (slice_index last) lists moves)
    (s : Starts lists moves more) where
  keys_apart : (c i x y : ℕ) → HasPair moves c i x → HasPair s.added c i y → ⊥
  keys_apart c i x y h k =
      let l = u.back.late c i x h in
      let e = s.first c i y k in
      let some = u.back.some in omega (arith, l, e, some)

  of_class : (c i x : ℕ) → HasPair s.added c i x → (x < length last) × (u.now x ≡ i)
  of_class c i x h =
      (u.hold i x).0 ((s.tell i x).0 (subst (λ d. HasPair s.added d i x) (s.first c i x h) h))

  alike_start : (r x z : ℕ) → x < length last → z < length last → MovedAlike s.added r x z ↔ (u.now x ≡ u.now z)
  alike_start r x z lx lz = (
    λ h. sym (of_class 0 (u.now x) z ((h 0 (u.now x) (omega arith)).0
        ((s.tell (u.now x) x).1 ((u.hold (u.now x) x).1 (lx, refl))))).1,
    λ e c i l. (go c i x z lz e, go c i z x lx (sym e)),
  )
    where
      go : (c i x z : ℕ) → z < length last → u.now x ≡ u.now z → HasPair s.added c i x → HasPair s.added c i z
      go c i x z l e h =
          subst (λ d. HasPair s.added d i z) (sym (s.first c i x h))
          ((s.tell i z).1 ((u.hold i z).1 (l, sym e ∙ (of_class c i x h).1)))

  there : (b : Birth) → Contains births b → Contains sorted b
  there b h = Contains-permutation births sorted b p h

  back : (b : Birth) → Contains sorted b → Contains births b
  back b h = Contains-permutation sorted births b (IsPermutation-sym births sorted p) h

  pub all_moves : AreMoves births last more
  all_moves = subst (AreMoves births last) (sym s.added_is) record {
    places = λ k d l.
        let a : Pair = get_or (moves ++ s.added) k d in
        let h : HasPair (moves ++ s.added) a.class a.position a.place =
        (k, l, get_or_default (moves ++ s.added) k a d l) in
        elim (Contains-append_cases moves s.added (pair a.class a.position a.place) h) [
          | inl m ↦ u.back.places a.class a.position a.place m
          | inr m ↦ (of_class a.class a.position a.place m).0
        ];
    falling = falling_more moves s.added 0 u.back.falling (λ c i x h. omega arith) s.first;
    tell = λ r x z lx lz.
        let was = u.back.tell r x z lx lz (λ b h. absurd (let l = h.1 in omega (arith, l))) in
        let both = alike_both moves s.added keys_apart r x z in
        let starts = alike_start r x z lx lz in (
          λ h. (let w = was.0 (
            h.0,
            ancestor_moved births sorted there back r (slice_index last x) h.0 h.1,
            ancestor_moved births sorted there back r (slice_index last z) h.0 h.2,
          ) in both.1 (w.1, starts.1 w.0)),
          λ h. (let m = both.0 h in
              let w = was.1 (starts.0 m.1, m.0) in (
                w.0,
                ancestor_moved sorted births back there r (slice_index last x) w.0 w.1,
                ancestor_moved sorted births back there r (slice_index last z) w.0 w.2,
              )),
        );
  }

-- starts, class by class
pub record StartsFirst (lists : List (Vec ℕ)) (old new : List Pair) (n : ℕ) : Type 0 where
  pub added : List Pair
  pub added_is : new ≡ old ++ added
  pub first : (c i x : ℕ) → HasPair added c i x → c ≡ 0
  pub tell : (d x : ℕ) → HasPair added 0 d x ↔ ((d < n) × Contains (row lists d) x)

pub starts_more : (lists : List (Vec ℕ)) (old mid new : List Pair) (n : ℕ) → StartsFirst lists old mid n
    → new ≡ mid ++ pairs_of 0 n (row lists n) → (((xs ys zs : List Pair) → (xs ++ ys) ++ zs ≡ xs ++ (ys ++ zs)))
    → StartsFirst lists old new (n + 1)
starts_more lists old mid new n s is assoc = record {
  added = s.added ++ pairs_of 0 n (row lists n);
  added_is = is ∙ ap (λ xs. xs ++ pairs_of 0 n (row lists n)) s.added_is ∙ assoc old s.added (pairs_of 0 n (row lists n));
  first = λ c i x h. elim (Contains-append_cases s.added (pairs_of 0 n (row lists n)) (pair c i x) h) [
    | inl k ↦ s.first c i x k
    | inr k ↦ (pairs_sound 0 n (row lists n) c i x k).0
  ];
  tell = λ d x. (
    λ h. elim (Contains-append_cases s.added (pairs_of 0 n (row lists n)) (pair 0 d x) h) [
      | inl k ↦ (let w = (s.tell d x).0 k in (let l = w.0 in omega (arith, l), w.1))
      | inr k ↦ (let w = pairs_sound 0 n (row lists n) 0 d x k in (
        (let e = w.1 in omega (arith, e)),
        subst (λ j. Contains (row lists j) x) (sym w.1) w.2,
      ))
    ],
    λ h. elim (cases_eq d n) [
      | inl e ↦ Contains-append_right s.added (pairs_of 0 n (row lists n)) (pair 0 d x)
          (subst (λ j. HasPair (pairs_of 0 n (row lists n)) 0 j x) (sym e)
          (pairs_complete 0 n (row lists n) x (subst (λ j. Contains (row lists j) x) e h.1)))
      | inr e ↦ Contains-append_left s.added (pairs_of 0 n (row lists n)) (pair 0 d x)
          ((s.tell d x).1 ((let l = h.0 in omega (arith, l, e)), h.1))
    ],
  );
}

beyond : (lists : List (Vec ℕ)) (d x : ℕ) → length lists ≤ d → Contains (row lists d) x → ⊥
beyond [] d x l h = let m = h.1 in omega (arith, m)
beyond (v ∷ lists) zero x l h = omega (arith, l)
beyond (v ∷ lists) (suc d) x l h = beyond lists d x (omega (arith, l)) h

pub starts_all : (lists : List (Vec ℕ)) (old new : List Pair) (n : ℕ) → length lists ≤ n → StartsFirst lists old new n
    → Starts lists old new
starts_all lists old new n le s = record {
  added = s.added;
  added_is = s.added_is;
  first = s.first;
  tell = λ d x. (
    λ h. ((s.tell d x).0 h).1,
    λ h. (s.tell d x).1 (
      elim (cases_lt d n) [ inl l ↦ l | inr l ↦ absurd (beyond lists d x (omega (arith, l, le)) h) ],
      h,
    ),
  );
}
