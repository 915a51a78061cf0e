-- What the numbers of a standard table say of its partitions: a class begins exactly where an instance is the first of
-- its class for the first time.
use Rattle.std.proofs.Common.{◌≡◌, ◌≤◌, ◌<◌, ℕ, zero, suc, Bool, true, false, List, [], ◌∷◌, Option, Some, None, refl, ◌∙◌, ◌+◌, ap, subst, ◌⊎◌, inl, inr, arith, add-one, length, eqb-true, eq-eqb}
use Rattle.std.specs.Prelude.{⊤, slice_get, slice_index}
use Rattle.std.proofs.lemmas.Bool.{cases_lt, false_from_ne_true}
use Rattle.value_equality.specs.Rows.{Row, names, IsName, IsPopulation}
use Rattle.value_equality.specs.Tables.{Origin, start, split, began, Table, IsAncestor, itself, through, class_at, same_class, shares}
use Rattle.value_equality.specs.Standard.{IsFirstOfClass, ClassBegins, IsStandard}
use Rattle.value_equality.proofs.Lookup.{name_here, name_later}
use Rattle.value_equality.proofs.Rounds.{own, refinement_grounded}
use Rattle.value_equality.proofs.Ancestors.{classes_are_ancestors}

-- the least number that passes
pub record IsLeast (f : ℕ → Bool) (j : ℕ) : Type 0 where
  pub passes : f j ≡ true
  pub before : (k : ℕ) → k < j → f k ≡ false

pub scan : (f : ℕ → Bool) (n : ℕ) → ((j : ℕ) × (j < n) × IsLeast f j) ⊎ ((k : ℕ) → k < n → f k ≡ false)
scan f zero = inr (λ k l. absurd (omega arith))
scan f (suc n) = go (scan f n) (f n) refl
  where
    go : ((j : ℕ) × (j < n) × IsLeast f j) ⊎ ((k : ℕ) → k < n → f k ≡ false) → (b : Bool) → f n ≡ b
        → ((j : ℕ) × (j < suc n) × IsLeast f j) ⊎ ((k : ℕ) → k < suc n → f k ≡ false)
    go (inl found) b e = let l = found.1 in inl (found.0, omega arith, found.2)
    go (inr nowhere) true e = inl (n, omega arith, record { passes = e; before = nowhere })
    go (inr nowhere) false e = inr (λ k l. elim (cases_lt k n) [
      | inl m ↦ nowhere k m
      | inr m ↦ let same : n ≡ k = omega arith in subst (λ i. f i ≡ false) same e
    ])

least : (f : ℕ → Bool) (i : ℕ) → f i ≡ true → (j : ℕ) × (j ≤ i) × IsLeast f j
least f i h = elim (scan f (suc i)) [
  | inl found ↦ let l = found.1 in (found.0, omega arith, found.2)
  | inr nowhere ↦ absurd (let e : f i ≡ false = nowhere i (omega arith) in cc)
]

-- an ancestor is a class that had begun
pub ancestor_there : (classes : List Origin) (round l a : ℕ) → IsAncestor classes round l a → (o : Origin)
    × (slice_get classes a ≡ Some o) × (began o ≤ round)
ancestor_there classes round l a (itself c o e b) = (o, e, b)
ancestor_there classes round l a (through c p since b e later below up) = ancestor_there classes round p a up

-- an ancestor of an ancestor is one at the earlier round
ancestor_earlier : (classes : List Origin) (round later l c a : ℕ) → round ≤ later → IsAncestor classes later l c
    → IsAncestor classes round c a → IsAncestor classes round l a
ancestor_earlier classes round later l c a h (itself d o e b) down = down
ancestor_earlier classes round later l c a h (through d p since b e after below up) down =
    through d p since a e (omega arith) below (ancestor_earlier classes round later p c a h up down)

pub same_class_is : (o : Option ℕ) (c : ℕ) → same_class o (Some c) ≡ true → o ≡ Some c
same_class_is None c h = absurd (cc)
same_class_is (Some d) c h = ap Some (eqb-true d c h)

pub is_same_class : (o p : Option ℕ) (c : ℕ) → o ≡ Some c → p ≡ Some c → same_class o p ≡ true
is_same_class None p c h k = absurd (cc)
is_same_class (Some a) None c h k = absurd (cc)
is_same_class (Some a) (Some b) c h k = eq-eqb a b (cc)

-- the name at an index is a name
pub index_named : (rows : List Row) (i : ℕ) → i < length (names rows) → IsName rows (slice_index (names rows) i)
index_named [] i h = absurd (omega arith)
index_named (r ∷ rows) zero h = name_here r rows
index_named (r ∷ rows) (suc i) h = name_later r rows (slice_index (names rows) i) (index_named rows i (omega arith))

-- the instance at index i shared its class at the round before, if any, with one before it
abbrev pub WasBound : (ℕ → ℕ → ℕ → Bool) → List ℕ → ℕ → ℕ → Type 0
WasBound E ys zero i = ⊤
WasBound E ys (suc round) i = (j : ℕ) × (j < i) × (E round (slice_index ys j) (slice_index ys i) ≡ true)

-- The instance at index `i` shared its class at the round before, if any, with an earlier one, and
-- is the first of its class at this round.
pub record IsNew (E : ℕ → ℕ → ℕ → Bool) (ys : List ℕ) (round i : ℕ) : Type 0 where
  pub within : i < length ys
  pub first : (j : ℕ) → j < i → E round (slice_index ys j) (slice_index ys i) ≡ false
  pub bound : WasBound E ys round i

module _ (P : List Row) (pinned : ℕ → Bool) (t : Table) (population : IsPopulation P) (standard : IsStandard P pinned t)
  where
    abbrev at : ℕ → ℕ → Option ℕ
    at round i = class_at t (slice_index (names P) i) round

    pub in_class : (round i : ℕ) → round ≤ t.rounds → i < length (names P) → (c : ℕ) × (at round i ≡ Some c)
    in_class round i h l = go (at round i)
        (own P pinned (shares t) t.rounds (refinement_grounded P pinned (shares t) t.rounds standard.refines) population
        round h (slice_index (names P) i) (index_named P i l))
      where
        go : (o : Option ℕ) → same_class o o ≡ true → (c : ℕ) × (o ≡ Some c)
        go None k = absurd (cc)
        go (Some c) k = (c, refl)

    -- at an earlier round an instance is in an ancestor of its class
    at_earlier : (round later i c a : ℕ) → round ≤ later → at later i ≡ Some c → IsAncestor t.classes round c a
        → at round i ≡ Some a
    at_earlier round later i c a h k down =
        let up = (classes_are_ancestors t (slice_index (names P) i) later c).0 k in
        (classes_are_ancestors t (slice_index (names P) i) round a).1 (
          up.0,
          up.1,
          ancestor_earlier t.classes round later
              up.0 c a h up.2 down,
        )

    pub origin_at : (round i c : ℕ) → at round i ≡ Some c → (o : Origin) × (slice_get t.classes c ≡ Some o)
        × (began o ≤ round)
    origin_at round i c h =
        let up = (classes_are_ancestors t (slice_index (names P) i) round c).0 h in
        ancestor_there t.classes round up.0 c up.2

    -- a class that had begun is that of its instances at the earlier round too
    pub at_began : (round later i c : ℕ) (o : Origin) → round ≤ later → at later i ≡ Some c
        → slice_get t.classes c ≡ Some
        o → began o ≤ round → at round i ≡ Some c
    at_began round later i c o h k e b = at_earlier round later i c c h k (itself c o e b)

    -- a class that was split off at the round: before it, its instances were in its parent
    pub at_parent : (round i c p : ℕ) → at (suc round) i ≡ Some c → slice_get t.classes c ≡ Some (split p (suc round))
        → at round i ≡ Some p
    at_parent round i c p h e =
        let parent = standard.well_formed.parents c p (suc round) e in
        let earlier : began parent.origin ≤ round = omega (arith, parent.earlier) in
        at_earlier round (suc round) i c p (omega arith) h (through c p (suc round) p e (omega arith) parent.before
        (itself p parent.origin parent.origin_is earlier))

    -- a class has a first instance
    pub first_in : (round i c : ℕ) → i < length (names P) → at round i ≡ Some c → (j : ℕ) × (j ≤ i)
        × IsFirstOfClass (names P) t round c j
    first_in round i c l h =
        let found = least (λ k. same_class (at round k) (Some c)) i (is_same_class (at round i) (Some c) c h refl) in
        let le = found.1 in (
          found.0,
          le,
          record {
            within = omega (arith, le, l);
            there = same_class_is (at round found.0) c found.2.passes;
            earliest = λ k m e.
                let yes : same_class (at round k) (Some c) ≡ true = is_same_class (at round k) (Some c) c e refl in
                let none : same_class (at round k) (Some c) ≡ false = found.2.before k m in cc;
          },
        )

    pub begins_in_time : (c round i : ℕ) → ClassBegins (names P) t c round i → round ≤ t.rounds
    begins_in_time c round i b = go b.origin b.origin_is b.began_at
      where
        go : (o : Origin) → slice_get t.classes c ≡ Some o → began o ≡ round → round ≤ t.rounds
        go start e k = omega arith
        go (split p since) e k = let l = (standard.well_formed.parents c p since e).in_time in omega arith

    pub split_of : (c round i : ℕ) → ClassBegins (names P) t c (suc round) i → (p : ℕ)
        × (slice_get t.classes c ≡ Some (split p (suc round)))
    split_of c round i b = go b.origin b.origin_is b.began_at
      where
        go : (o : Origin) → slice_get t.classes c ≡ Some o → began o ≡ suc round → (p : ℕ)
            × (slice_get t.classes c ≡ Some (split p (suc round)))
        go start e k = absurd (omega arith)
        go (split p since) e k = (p, e ∙ ap (λ n. Some (split p n)) k)

    -- the first instance of a class that begins was in its parent, but not as the first there
    bound_from_begins : (c round i : ℕ) → ClassBegins (names P) t c round i → WasBound (shares t) (names P) round i
    bound_from_begins c zero i b = tt
    bound_from_begins c (suc round) i b =
        let s = split_of c round i b in
        let p : ℕ = s.0 in
        let here : at round i ≡ Some p = at_parent round i c p b.first.there s.1 in
        let found = first_in round i p b.first.within here in
        let le : found.0 ≤ i = found.1 in
        elim (cases_lt found.0 i) [
          | inl l ↦ (found.0, l, is_same_class (at round found.0) (at round i) p found.2.there here)
          | inr l ↦ absurd (
              let same : found.0 ≡ i = omega arith in
              let kept : at (suc round) i ≡ Some p = subst (λ n. at n i ≡ Some p) (add-one round)
              (subst (λ j. class_at t (slice_index (names P) j) (round + 1) ≡ Some p) same
              (standard.numbered.keeps_number round p found.0 found.2)) in
              let there : at (suc round) i ≡ Some c = b.first.there in
              let one : p ≡ c = cc in
              let below : p < c = (standard.well_formed.parents c p (suc round) s.1).before in
              omega arith)
        ]

    pub new_from_begins : (c round i : ℕ) → ClassBegins (names P) t c round i → IsNew (shares t) (names P) round i
    new_from_begins c round i b = record {
      within = b.first.within;
      first = λ j l. false_from_ne_true (shares t round (slice_index (names P) j) (slice_index (names P) i)) (λ h.
          b.first.earliest j l (same_class_is (at round j) c (subst (λ o. same_class (at round j) o ≡ true)
          b.first.there
          h)));
      bound = bound_from_begins c round i b;
    }

    -- what is new at a round isn't in a class that had begun
    not_earlier : (round i c : ℕ) (o : Origin) → IsNew (shares t) (names P) (suc round) i → at (suc round) i ≡ Some c
        → slice_get t.classes c ≡ Some o → began o ≤ round → ⊥
    not_earlier round i c o new h e b =
        let here : at round i ≡ Some c = at_began round (suc round) i c o (omega arith) h e b in
        let j : ℕ = new.bound.0 in
        let less : j < i = new.bound.1 in
        let shared : same_class (at round j) (at round i) ≡ true = new.bound.2 in
        let there : at round j ≡ Some c = same_class_is (at round j) c (subst (λ p. same_class (at round j) p ≡ true)
        here
        shared) in
        let within : j < length (names P) = omega (arith, less, new.within) in
        let found = first_in round j c within there in
        let le : found.0 ≤ j = found.1 in
        let kept : at (suc round) found.0 ≡ Some c = subst (λ n. at n found.0 ≡ Some c) (add-one round)
        (standard.numbered.keeps_number round c found.0 found.2) in
        let yes : shares t (suc round) (slice_index (names P) found.0) (slice_index (names P) i) ≡ true =
        is_same_class (at (suc round) found.0) (at (suc round) i) c kept h in
        let none : shares t (suc round) (slice_index (names P) found.0) (slice_index (names P) i) ≡ false =
        new.first found.0 (omega arith) in
        cc

    began_now : (round i c : ℕ) (o : Origin) → IsNew (shares t) (names P) round i → at round i ≡ Some c
        → slice_get t.classes c ≡ Some o → began o ≤ round → began o ≡ round
    began_now zero i c o new h e b = omega arith
    began_now (suc round) i c o new h e b = elim (cases_lt round (began o)) [
      | inl l ↦ omega arith
      | inr l ↦ absurd (not_earlier round i c o new h e l)
    ]

    pub begins_from_new : (round i : ℕ) → round ≤ t.rounds → IsNew (shares t) (names P) round i → (c : ℕ)
        × ClassBegins (names P) t c round i
    begins_from_new round i h new =
        let inside = in_class round i h new.within in
        let c : ℕ = inside.0 in
        let origin = origin_at round i c inside.1 in (
          c,
          record {
            origin = origin.0;
            origin_is = origin.1;
            began_at = began_now round i c origin.0 new inside.1 origin.1 origin.2;
            first = record {
              within = new.within;
              there = inside.1;
              earliest = λ j l e.
                  let yes : shares t round (slice_index (names P) j) (slice_index (names P) i) ≡ true =
                  is_same_class (at round j) (at round i) c e inside.1 in
                  let none : shares t round (slice_index (names P) j) (slice_index (names P) i) ≡ false =
                  new.first j l in
                  cc;
            };
          },
        )
