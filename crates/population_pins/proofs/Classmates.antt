-- The instances of one class, by the first of them.
use Rattle.std.specs.Prelude.{◌≡◌, ◌≢◌, ℕ, ◌==◌, Bool, true, false, cond, List, [], ◌∷◌, ◌++◌, length, drop, slice_get, Option, None, Some, ◌⊎◌, ◌↔◌, Vec}
use Rattle.std.specs.BTreeMap.{BTreeMap, get}
use Rattle.std.specs.Ordering.{nat_cmp}
use Rattle.std.proofs.Common.{refl, sym, ap, subst, ◌∙◌, ◌+◌, ◌≤◌, inl, inr, append-nil, append_assoc, Global}
use Rattle.std.proofs.lemmas.Bool.{eqb-true, eqb-false, eq-eqb}
use Rattle.schema_semantics.specs.Names.{Among}
use Rattle.schema_semantics.proofs.Lists.{among-left, among-right, among-either}
use Rattle.value_equality.specs.Tables.{same_class}
use Rattle.population_pins.specs.steps.Pinning.{Pins}
use Rattle.population_pins.specs.steps.Classes.{AreFirsts, share_class, with_name, with_member, members_of, first_of, ComesBeside, ComesAfter, HasClassmate}
use Rattle.population_pins.specs.Lists.{StandsBeside}
use Rattle.population_pins.proofs.Adding.{drop-item, drop-all}
use Rattle.population_pins.proofs.Pinning.{pins-alike, pins-both}

-- two numbers are one, or not
same-or-not : (a b : ℕ) → (a ≡ b) ⊎ (a ≢ b)
same-or-not a b = by (a == b) refl
  where
    by : (t : Bool) → (a == b) ≡ t → (a ≡ b) ⊎ (a ≢ b)
    by true e = inl (eqb-true a b e)
    by false e = inr (eqb-false a b e)

pair-first : (p q : ℕ × ℕ) → p ≡ q → p.0 ≡ q.0
pair-first p q e = ap (λ (r : ℕ × ℕ). r.0) e

pair-second : (p q : ℕ × ℕ) → p ≡ q → p.1 ≡ q.1
pair-second p q e = ap (λ (r : ℕ × ℕ). r.1) e

-- the first of a class is one of it
first-stands : (c f : ℕ) (ms : List (ℕ × ℕ)) → first_of ms c ≡ Some f → Among (c, f) ms
first-stands c f [] e = absurd (cc)
first-stands c f ((d, n) ∷ ms) e = by (d == c) refl e (first-stands c f ms)
  where
    by : (t : Bool) → (d == c) ≡ t → cond t (Some n) (first_of ms c) ≡ Some f
        → (first_of ms c ≡ Some f → Among (c, f) ms) → Among (c, f) ((d, n) ∷ ms)
    by true is e later =
        let same : n ≡ f = cc in
        inl (λ i. (eqb-true d c is i, same i))
    by false is e later = inr (later e)

-- where there is no first one there is none
none-stands : (c y : ℕ) (ms : List (ℕ × ℕ)) → first_of ms c ≡ None → Among (c, y) ms → ⊥
none-stands c y [] e m = m
none-stands c y ((d, n) ∷ ms) e m = by (d == c) refl e m (none-stands c y ms)
  where
    by : (t : Bool) → (d == c) ≡ t → cond t (Some n) (first_of ms c) ≡ None → Among (c, y) ((d, n) ∷ ms)
        → (first_of ms c ≡ None → Among (c, y) ms → ⊥) → ⊥
    by true is e m later = cc
    by false is e (inl p) later =
        let one = eq-eqb d c (pair-first (d, n) (c, y) p) in cc
    by false is e (inr k) later = later e k

abbrev pub first_or : Option ℕ → Option ℕ → Option ℕ
first_or None o = o
first_or (Some f) o = Some f

pub first-behind : (c : ℕ) (ms ns : List (ℕ × ℕ)) → first_of (ms ++ ns) c ≡ first_or (first_of ms c) (first_of ns c)
first-behind c [] ns = refl
first-behind c (m ∷ ms) ns = by (m.0 == c) (first-behind c ms ns)
  where
    by : (t : Bool) → first_of (ms ++ ns) c ≡ first_or (first_of ms c) (first_of ns c)
        → cond t (Some m.1) (first_of (ms ++ ns) c) ≡ first_or (cond t (Some m.1) (first_of ms c)) (first_of ns c)
    by true e = refl
    by false e = e

or-none : (o : Option ℕ) → first_or o None ≡ o
or-none None = refl
or-none (Some f) = refl

abbrev last-by : Bool → ℕ → Option ℕ
last-by b n = cond b (Some n) None

-- the firsts stay where another one of a class comes
pub firsts-stay : (firsts : BTreeMap ℕ ℕ) (before : List (ℕ × ℕ)) (c n f : ℕ) → AreFirsts firsts before
    → first_of before c ≡ Some f → AreFirsts firsts (before ++ (c, n) ∷ [])
firsts-stay firsts before c n f h e d =
    h d ∙ sym (first-behind d before ((c, n) ∷ []) ∙ by (c == d) refl (first_of before d) refl)
  where
    by : (b : Bool) → (c == d) ≡ b → (o : Option ℕ) → first_of before d ≡ o
        → first_or (first_of before d) (last-by (c == d) n) ≡ first_of before d
    by b t (Some g) k = ap (λ o. first_or o (last-by (c == d) n)) k ∙ sym k
    by true t None k =
        let same = eqb-true c d t in
        let there : first_of before d ≡ Some f = subst (λ x. first_of before x ≡ Some f) same e in absurd (cc)
    by false t None k = ap (λ u. first_or (first_of before d) (last-by u n)) t ∙ or-none (first_of before d)

-- The firsts take in the first one of a class.
pub firsts-go-on : (firsts newer : BTreeMap ℕ ℕ) (before : List (ℕ × ℕ)) (c n : ℕ) → AreFirsts firsts before
    → first_of before c ≡ None → ((d : ℕ) → get nat_cmp newer d ≡ cond (c == d) (Some n) (get nat_cmp firsts d))
    → AreFirsts newer (before ++ (c, n) ∷ [])
firsts-go-on firsts newer before c n h e put d =
    put d ∙ sym (first-behind d before ((c, n) ∷ []) ∙ by (c == d) refl)
  where
    by : (b : Bool) → (c == d) ≡ b
        → first_or (first_of before d) (last-by b n) ≡ cond b (Some n) (get nat_cmp firsts d)
    by true t =
        let same = eqb-true c d t in
        ap (λ o. first_or o (Some n)) (subst (λ x. first_of before x ≡ None) same e)
    by false t = or-none (first_of before d) ∙ sym (h d)

-- one element more, of a class
module _ (ms : List (ℕ × ℕ)) (c n : ℕ) where
  abbrev all : List (ℕ × ℕ)
  all = ms ++ (c, n) ∷ []

  -- it stands before, or is the last
  split : (d y : ℕ) → Among (d, y) all → Among (d, y) ms ⊎ ((c ≡ d) × (n ≡ y))
  split d y m = elim (among-either (d, y) ms ((c, n) ∷ []) m) [
    | inl k ↦ inl k
    | inr k ↦ elim k [ inl p ↦ inr (pair-first (c, n) (d, y) p, pair-second (c, n) (d, y) p) | inr q ↦ absurd q ]
  ]

  last : Among (c, n) all
  last = among-right (c, n) ms ((c, n) ∷ []) (inl refl)

  earlier : (d y : ℕ) → Among (d, y) ms → Among (d, y) all
  earlier d y m = among-left (d, y) ms ((c, n) ∷ []) m

  kept : (y : ℕ) → HasClassmate ms y → HasClassmate all y
  kept y (d, z, here, there, other) = (d, z, earlier d y here, earlier d z there, other)

  -- one that is new has the first of its class beside it
  forth : (y : ℕ) (o : Option ℕ) → first_of ms c ≡ o → HasClassmate all y → HasClassmate ms y ⊎ ComesBeside o n y
  forth y o e (d, z, here, there, other) = by (split d y here) (split d z there) o e
    where
      -- y is the last, and z of its class before it
      newer : (o : Option ℕ) → first_of ms c ≡ o → n ≡ y → Among (c, z) ms → HasClassmate ms y ⊎ ComesBeside o n y
      newer None e is k = absurd (none-stands c z ms e k)
      newer (Some f) e is k = elim (same-or-not f n) [
        | inl same ↦
            inl (c, z, subst (λ x. Among (c, x) ms) (same ∙ is) (first-stands c f ms e), k, other)
        | inr differ ↦ inr (differ, inr (sym is))
      ]

      -- z is the last, and y of its class before it
      older : (o : Option ℕ) → first_of ms c ≡ o → n ≡ z → Among (c, y) ms → HasClassmate ms y ⊎ ComesBeside o n y
      older None e is k = absurd (none-stands c y ms e k)
      older (Some f) e is k = elim (same-or-not f n) [
        | inl same ↦
            inl (c, z, k, subst (λ x. Among (c, x) ms) (same ∙ is) (first-stands c f ms e), other)
        | inr differ ↦ elim (same-or-not y f) [
          | inl first ↦ inr (differ, inl first)
          | inr later ↦ inl (c, f, k, first-stands c f ms e, (λ s. later (sym s)))
        ]
      ]

      by : Among (d, y) ms ⊎ ((c ≡ d) × (n ≡ y)) → Among (d, z) ms ⊎ ((c ≡ d) × (n ≡ z)) → (o : Option ℕ)
          → first_of ms c ≡ o → HasClassmate ms y ⊎ ComesBeside o n y
      by (inl k) (inl l) o e = inl (d, z, k, l, other)
      by (inr (p, q)) (inl l) o e = newer o e q (subst (λ x. Among (x, z) ms) (sym p) l)
      by (inl k) (inr (p, q)) o e = older o e q (subst (λ x. Among (x, y) ms) (sym p) k)
      by (inr (p, q)) (inr (r, s)) o e = absurd (other (sym s ∙ q))

  back : (y : ℕ) (o : Option ℕ) → first_of ms c ≡ o → ComesBeside o n y → HasClassmate all y
  back y None e h = absurd h
  back y (Some f) e (differ, inl is) = (
    c,
    n,
    subst (λ x. Among (c, x) all) (sym is) (earlier c f (first-stands c f ms e)),
    last,
    (λ s. differ (sym is ∙ sym s)),
  )
  back y (Some f) e (differ, inr is) =
      (c, f, subst (λ x. Among (c, x) all) (sym is) last, earlier c f (first-stands c f ms e), (λ s. differ (s ∙ is)))

-- one element more
pub comes-after : (ms : List (ℕ × ℕ)) (o : Option (ℕ × ℕ)) (y : ℕ)
    → HasClassmate (ms ++ with_member o []) y ↔ (HasClassmate ms y ⊎ ComesAfter ms o y)
comes-after ms None y =
    subst (λ l. HasClassmate l y ↔ (HasClassmate ms y ⊎ ComesAfter ms None y)) (sym (append-nil ms))
    ((λ h. inl h), (λ t. elim t [ inl h ↦ h | inr n ↦ absurd n ]))
comes-after ms (Some (c, n)) y = (
  (λ h. forth ms c n y (first_of ms c) refl h),
  (λ t. elim t [ inl h ↦ kept ms c n y h | inr h ↦ back ms c n y (first_of ms c) refl h ]),
)

-- Instances that have one of their class beside them.
module _ (of : ℕ → Option ℕ) where
  named : (c y : ℕ) → of y ≡ Some c → with_name y (of y) ≡ Some (c, y)
  named c y e = ap (with_name y) e

  same-of : (o p : Option ℕ) → same_class o p ≡ true → (c : ℕ) × (o ≡ Some c) × (p ≡ Some c)
  same-of None p e = absurd (cc)
  same-of (Some c) None e = absurd (cc)
  same-of (Some c) (Some d) e = (c, refl, ap Some (sym (eqb-true c d e)))

  to-same : (o p : Option ℕ) (c : ℕ) → o ≡ Some c → p ≡ Some c → same_class o p ≡ true
  to-same None p c e f = absurd (cc)
  to-same (Some d) None c e f = absurd (cc)
  to-same (Some d) (Some b) c e f =
      let x : d ≡ c = cc in
      let z : b ≡ c = cc in
      eq-eqb d b (x ∙ sym z)

  -- a member is a name that has its class
  one-member : (c y z : ℕ) (o : Option ℕ) (ms : List (ℕ × ℕ)) → of z ≡ o → Among (c, y) (with_member (with_name z o) ms)
      → ((of y ≡ Some c) × (z ≡ y)) ⊎ Among (c, y) ms
  one-member c y z None ms e m = inr m
  one-member c y z (Some d) ms e (inl p) =
      let same = pair-second (d, z) (c, y) p in
      inl (subst (λ x. of x ≡ Some c) same (e ∙ ap Some (pair-first (d, z) (c, y) p)), same)
  one-member c y z (Some d) ms e (inr k) = inr k

  stays-behind : (o : Option (ℕ × ℕ)) (m : ℕ × ℕ) (ms : List (ℕ × ℕ)) → Among m ms → Among m (with_member o ms)
  stays-behind None m ms k = k
  stays-behind (Some n) m ms k = inr k

  its-member : (c y z : ℕ) (ms : List (ℕ × ℕ)) → of y ≡ Some c → z ≡ y
      → Among (c, y) (with_member (with_name z (of z)) ms)
  its-member c y z ms e is =
      subst (λ x. Among (c, y) (with_member (with_name x (of x)) ms)) (sym is)
      (subst (λ o. Among (c, y) (with_member o ms)) (sym (named c y e)) (inl refl))

  from-members : (c y : ℕ) (l : List ℕ) → Among (c, y) (members_of of l) → (of y ≡ Some c) × Among y l
  from-members c y [] m = absurd m
  from-members c y (z ∷ l) m = elim (one-member c y z (of z) (members_of of l) refl m) [
    | inl h ↦ (h.0, inl h.1)
    | inr k ↦ let h = from-members c y l k in (h.0, inr h.1)
  ]

  to-members : (c y : ℕ) (l : List ℕ) → of y ≡ Some c → Among y l → Among (c, y) (members_of of l)
  to-members c y [] e h = absurd h
  to-members c y (z ∷ l) e (inl is) = its-member c y z (members_of of l) e is
  to-members c y (z ∷ l) e (inr h) =
      stays-behind (with_name z (of z)) (c, y) (members_of of l) (to-members c y l e h)

  pub classmates : (y : ℕ) (l : List ℕ) → HasClassmate (members_of of l) y ↔ StandsBeside (share_class of) y l
  classmates y l = (forth, back)
    where
      forth : HasClassmate (members_of of l) y → StandsBeside (share_class of) y l
      forth (c, z, here, there, other) =
          let one = from-members c y l here in
          let two = from-members c z l there in
          (one.1, z, two.1, other, to-same (of y) (of z) c one.0 two.0)

      back : StandsBeside (share_class of) y l → HasClassmate (members_of of l) y
      back (here, z, there, other, same) =
          let (c, e, f) = same-of (of y) (of z) same in
          (c, z, to-members c y l e here, to-members c z l f there, other)

  -- how far a list is gone over
  pub record IsGone (l : List ℕ) (i : ℕ) (firsts : BTreeMap ℕ ℕ) (old new : Vec ℕ Global) : Type 0 where
    pub before : List (ℕ × ℕ)
    pub all : before ++ members_of of (drop i l) ≡ members_of of l
    pub first : AreFirsts firsts before
    pub pinned : Pins (HasClassmate before) old new

  joined-member : (o : Option (ℕ × ℕ)) (before ms : List (ℕ × ℕ))
      → (before ++ with_member o []) ++ ms ≡ before ++ with_member o ms
  joined-member None before ms = ap (λ l. l ++ ms) (append-nil before)
  joined-member (Some m) before ms = append_assoc before (m ∷ []) ms

  pub gone-next : (l : List ℕ) (i y : ℕ) (firsts newer : BTreeMap ℕ ℕ) (old mid new : Vec ℕ Global)
      → slice_get l i ≡ Some y → IsGone l i firsts old mid
      → ((before : List (ℕ × ℕ)) → AreFirsts firsts before
      → AreFirsts newer (before ++ with_member (with_name y (of y)) [])
      × Pins (ComesAfter before (with_name y (of y))) mid new)
      → IsGone l (i + 1) newer old new
  gone-next l i y firsts newer old mid new at h step =
      let goes = step h.before h.first in record {
        before = h.before ++ with_member (with_name y (of y)) [];
        all = joined-member (with_name y (of y)) h.before (members_of of (drop (i + 1) l))
            ∙ ap (λ us. h.before ++ members_of of us) (sym (drop-item l i y at)) ∙ h.all;
        first = goes.0;
        pinned = pins-alike _ (HasClassmate (h.before ++ with_member (with_name y (of y)) [])) old new
            (λ z. let c = comes-after h.before (with_name y (of y)) z in (c.1, c.0))
            (pins-both (HasClassmate h.before) (ComesAfter h.before (with_name y (of y))) old mid new h.pinned goes.1);
      }

  pub gone-all : (l : List ℕ) (i : ℕ) (firsts : BTreeMap ℕ ℕ) (old new : Vec ℕ Global) → length l ≤ i
      → IsGone l i firsts old new → Pins (HasClassmate (members_of of l)) old new
  gone-all l i firsts old new past h =
      subst (λ ms. Pins (HasClassmate ms) old new)
      (sym (append-nil h.before) ∙ ap (λ us. h.before ++ members_of of us) (sym (drop-all l i past)) ∙ h.all) h.pinned
