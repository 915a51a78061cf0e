-- Where there are no findings.
use Rattle.std.specs.Prelude.{◌≡◌, ◌==◌, ◌&&◌, not, Bool, IsTrue, true, false, cond, List, [], ◌∷◌, ◌++◌, length, map, filter, flat_map, Option, Some, None, ◌⊎◌, ◌↔◌}
use Rattle.std.specs.List.{list_any}
use Rattle.std.proofs.Common.{refl, sym, ◌∙◌, ap, subst, inl, inr}
use Rattle.std.proofs.lemmas.Bool.{and_from, or_parts, or_from, or_cases, or_left, or_right, both_ways, false_from_ne_true}
use Rattle.step_values.specs.Values.{Values, AgreeEach}
use Rattle.step_values.proofs.Deciding.{each_sound, each_complete}
use Rattle.express_syntax.specs.Profile.{Every}
use Rattle.schema_semantics.specs.Names.{OneOf, Among}
use Rattle.conformance.specs.ParameterFits.{is_listed}
use Rattle.conformance.specs.Populations.{Instance}
use Rattle.conformance.specs.Rules.{UniqueRule, InverseAttribute, Rules}
use Rattle.conformance.specs.Referrers.{inverse_value}
use Rattle.conformance.specs.RuleFindings.{Breach, key, same_keys, repeats, breaches_of_unique, may_hold, breaks, breaches_of_inverse}
use Rattle.conformance.specs.RuleLaws.{ShareKey, RepeatsComeLater, HaveUniqueKeys, NoFindingExactlyWhereKeysAreUnique, NoFindingExactlyWhereBoundsHold}

-- lists with nothing in them
not_more : {A : Type 0} (x : A) (xs : List A) → x ∷ xs ≡ [] → ⊥
not_more x xs e = cc

front_empty : {A : Type 0} (xs ys : List A) → xs ++ ys ≡ [] → xs ≡ []
front_empty [] ys h = refl
front_empty (x ∷ xs) ys h = absurd (not_more x (xs ++ ys) h)

back_empty : {A : Type 0} (xs ys : List A) → xs ++ ys ≡ [] → ys ≡ []
back_empty [] ys h = h
back_empty (x ∷ xs) ys h = absurd (not_more x (xs ++ ys) h)

both_empty : {A : Type 0} (xs ys : List A) → xs ≡ [] → ys ≡ [] → xs ++ ys ≡ []
both_empty xs ys e f = rw (e, f) refl

map_empty : {A B : Type 0} (f : A → B) (xs : List A) → map f xs ≡ [] → xs ≡ []
map_empty f [] h = refl
map_empty f (x ∷ xs) h = absurd (not_more (f x) (map f xs) h)

flat_empty : {A B : Type 0} (f : A → List B) (xs : List A) → flat_map f xs ≡ [] → Every (λ x. f x ≡ []) xs
flat_empty f [] h = tt
flat_empty f (x ∷ xs) h = (
  front_empty (f x) (flat_map f xs) h,
  flat_empty f xs (back_empty (f x) (flat_map f xs) h),
)

empty_flat : {A B : Type 0} (f : A → List B) (xs : List A) → Every (λ x. f x ≡ []) xs → flat_map f xs ≡ []
empty_flat f [] h = refl
empty_flat f (x ∷ xs) h =
    both_empty (f x) (flat_map f xs) h.0 (empty_flat f xs h.1)

pub every_other : {A : Type 0} (P Q : A → Type 0) → ((x : A) → P x → Q x) → (xs : List A) → Every P xs → Every Q xs
every_other P Q f [] h = tt
every_other P Q f (x ∷ xs) h = (f x h.0, every_other P Q f xs h.1)

-- the test of keys
shared : (k l : Option Values) → same_keys k l ≡ true
    → (vs : Values) × (ws : Values) × (k ≡ Some vs) × (l ≡ Some ws) × AgreeEach (◌==◌) vs ws
shared (Some vs) (Some ws) h = (vs, ws, refl, refl, each_sound vs ws h)
shared (Some vs) None h = absurd (cc)
shared None l h = absurd (cc)

sharing : (k l : Option Values)
    → (vs : Values) × (ws : Values) × (k ≡ Some vs) × (l ≡ Some ws) × AgreeEach (◌==◌) vs ws → same_keys k l ≡ true
sharing k l h = rw (h.2, h.3) (each_complete h.0 h.1 h.4)

module _ (u : UniqueRule) where
  abbrev has_shared : List Instance → Instance → Bool
  has_shared before x = list_any (λ z. same_keys (key u x) (key u z)) before

  abbrev SharesNone : List Instance → Instance → Type 0
  SharesNone before x = Every (λ z. ShareKey u x z → ⊥) before

  none_shared : (x : Instance) (before : List Instance) → has_shared before x ≡ false → SharesNone before x
  none_shared x [] h = tt
  none_shared x (z ∷ zs) h =
      let parts = or_parts (same_keys (key u x) (key u z)) (has_shared zs x) h in (
        (λ k. both_ways (same_keys (key u x) (key u z)) parts.0 (sharing (key u x) (key u z) k)),
        none_shared x zs parts.1,
      )

  shared_none : (x : Instance) (before : List Instance) → SharesNone before x → has_shared before x ≡ false
  shared_none x [] h = refl
  shared_none x (z ∷ zs) h =
      or_from (same_keys (key u x) (key u z)) (has_shared zs x)
      (false_from_ne_true (same_keys (key u x) (key u z)) (λ t. h.0 (shared (key u x) (key u z) t)))
      (shared_none x zs h.1)

  no_repeats : (before xs : List Instance) → repeats u before xs ≡ []
      → Every (SharesNone before) xs × HaveUniqueKeys u xs
  no_repeats before [] h = (tt, tt)
  no_repeats before (x ∷ xs) h = by (has_shared before x) refl h (no_repeats (x ∷ before) xs)
    where
      by : (b : Bool) → has_shared before x ≡ b
          → cond b (x ∷ repeats u (x ∷ before) xs) (repeats u (x ∷ before) xs) ≡ []
          → (repeats u (x ∷ before) xs ≡ [] → Every (SharesNone (x ∷ before)) xs × HaveUniqueKeys u xs)
          → Every (SharesNone before) (x ∷ xs) × HaveUniqueKeys u (x ∷ xs)
      by true e k more = absurd (not_more x (repeats u (x ∷ before) xs) k)
      by false e k more =
          let rest = more k in (
            (none_shared x before e, every_other (SharesNone (x ∷ before)) (SharesNone before) (λ z n. n.1) xs rest.0),
            (every_other (SharesNone (x ∷ before)) (λ z. ShareKey u z x → ⊥) (λ z n. n.0) xs rest.0, rest.1),
          )

  -- each that is told comes behind one that has its key
  abbrev Behind : List Instance → List Instance → Instance → Type 0
  Behind seen xs x =
      (before : List Instance) × (after : List Instance) × (xs ≡ before ++ x ∷ after)
      × (OneOf (ShareKey u x) before ⊎ OneOf (ShareKey u x) seen)

  some_shared : (x : Instance) (seen : List Instance) → has_shared seen x ≡ true → OneOf (ShareKey u x) seen
  some_shared x [] h = absurd (cc)
  some_shared x (z ∷ zs) h =
      elim (or_cases (same_keys (key u x) (key u z)) (has_shared zs x) h) [
        | inl t ↦ inl (shared (key u x) (key u z) t)
        | inr t ↦ inr (some_shared x zs t)
      ]

  shared_some : (x : Instance) (seen : List Instance) → OneOf (ShareKey u x) seen → has_shared seen x ≡ true
  shared_some x [] h = elim h [ ]
  shared_some x (z ∷ zs) (inl k) =
      or_left (same_keys (key u x) (key u z)) (has_shared zs x) (sharing (key u x) (key u z) k)
  shared_some x (z ∷ zs) (inr k) =
      or_right (same_keys (key u x) (key u z)) (has_shared zs x) (shared_some x zs k)

  later : (seen : List Instance) (z : Instance) (zs : List Instance) (x : Instance) → Behind (z ∷ seen) zs x
      → Behind seen (z ∷ zs) x
  later seen z zs x (before, after, e, h) = (z ∷ before, after, ap (λ ys. z ∷ ys) e, by h)
    where
      by : OneOf (ShareKey u x) before ⊎ OneOf (ShareKey u x) (z ∷ seen)
          → OneOf (ShareKey u x) (z ∷ before) ⊎ OneOf (ShareKey u x) seen
      by (inl k) = inl (inr k)
      by (inr (inl k)) = inl (inl k)
      by (inr (inr k)) = inr k

  told_behind : (seen xs : List Instance) (x : Instance) → Among x (repeats u seen xs) → Behind seen xs x
  told_behind seen [] x m = elim m [ ]
  told_behind seen (z ∷ zs) x m =
      by (has_shared seen z) refl m (λ n. later seen z zs x (told_behind (z ∷ seen) zs x n))
    where
      by : (b : Bool) → has_shared seen z ≡ b
          → Among x (cond b (z ∷ repeats u (z ∷ seen) zs) (repeats u (z ∷ seen) zs))
          → (Among x (repeats u (z ∷ seen) zs) → Behind seen (z ∷ zs) x) → Behind seen (z ∷ zs) x
      by true t (inl e) rest =
          subst (λ w. Behind seen (z ∷ zs) w) e ([], zs, refl, inr (some_shared z seen t))
      by true t (inr n) rest = rest n
      by false t n rest = rest n

  told_more : (b : Bool) (x z : Instance) (zs : List Instance) → Among x zs → Among x (cond b (z ∷ zs) zs)
  told_more true x z zs m = inr m
  told_more false x z zs m = m

  behind_told : (seen before : List Instance) (x : Instance) (after : List Instance)
      → OneOf (ShareKey u x) before ⊎ OneOf (ShareKey u x) seen → Among x (repeats u seen (before ++ x ∷ after))
  behind_told seen [] x after (inl k) = elim k [ ]
  behind_told seen [] x after (inr k) =
      subst (λ (b : Bool). Among x (cond b (x ∷ repeats u (x ∷ seen) after) (repeats u (x ∷ seen) after)))
      (sym (shared_some x seen k)) (inl refl)
  behind_told seen (z ∷ before) x after h =
      told_more (has_shared seen z) x z (repeats u (z ∷ seen) (before ++ x ∷ after))
      (behind_told (z ∷ seen) before x after (by h))
    where
      by : OneOf (ShareKey u x) (z ∷ before) ⊎ OneOf (ShareKey u x) seen
          → OneOf (ShareKey u x) before ⊎ OneOf (ShareKey u x) (z ∷ seen)
      by (inl (inl k)) = inr (inl k)
      by (inl (inr k)) = inl k
      by (inr k) = inr (inr k)

  pub come_later : (is : List Instance) (x : Instance)
      → Among x (repeats u [] is)
      ↔ ((before : List Instance) × (after : List Instance) × (is ≡ before ++ x ∷ after) × OneOf (ShareKey u x) before)
  come_later is x = (
    λ m. first (told_behind [] is x m),
    λ h. subst (λ ys. Among x (repeats u [] ys)) (sym h.2) (behind_told [] h.0 x h.1 (inl h.3)),
  )
    where
      first : Behind [] is x
          → (before : List Instance) × (after : List Instance) × (is ≡ before ++ x ∷ after)
          × OneOf (ShareKey u x) before
      first (before, after, e, inl k) = (before, after, e, k)
      first (before, after, e, inr k) = elim k [ ]

  every_both : (P Q R : Instance → Type 0) → ((x : Instance) → P x → Q x → R x) → (xs : List Instance) → Every P xs
      → Every Q xs → Every R xs
  every_both P Q R f [] h k = tt
  every_both P Q R f (x ∷ xs) h k = (f x h.0 k.0, every_both P Q R f xs h.1 k.1)

  repeats_none : (before xs : List Instance) → Every (SharesNone before) xs → HaveUniqueKeys u xs
      → repeats u before xs ≡ []
  repeats_none before [] h k = refl
  repeats_none before (x ∷ xs) h k =
      ap (λ (b : Bool). cond b (x ∷ repeats u (x ∷ before) xs) (repeats u (x ∷ before) xs)) (shared_none x before h.0)
      ∙ repeats_none (x ∷ before) xs
      (every_both (SharesNone before) (λ z. ShareKey u z x → ⊥) (SharesNone (x ∷ before)) (λ z n m. (m, n)) xs h.1 k.0)
      k.1

  nothing : (xs : List Instance) → Every (SharesNone []) xs
  nothing [] = tt
  nothing (x ∷ xs) = (tt, nothing xs)

  module _ (is : List Instance) where
    abbrev breach : Instance → Breach
    breach x = record { instance = x.name; holder = u.entity; label = u.label }

    keys_unique : breaches_of_unique is u ≡ [] → IsTrue u.is_checked → HaveUniqueKeys u is
    keys_unique h checked =
        let none : map breach (repeats u [] is) ≡ [] =
        subst (λ (b : Bool). cond b (map breach (repeats u [] is)) [] ≡ []) checked h in
        (no_repeats [] is (map_empty breach (repeats u [] is) none)).1

    unique_keys : (IsTrue u.is_checked → HaveUniqueKeys u is) → breaches_of_unique is u ≡ []
    unique_keys f = by u.is_checked f
      where
        by : (b : Bool) → (b ≡ true → HaveUniqueKeys u is) → cond b (map breach (repeats u [] is)) [] ≡ []
        by true g = ap (map breach) (repeats_none [] is (nothing is) (g refl))
        by false g = refl

pub repeats_come_later : RepeatsComeLater
repeats_come_later u is x = come_later u is x

pub no_finding_exactly_where_keys_are_unique : NoFindingExactlyWhereKeysAreUnique
no_finding_exactly_where_keys_are_unique rules is = (
  λ h. every_other (λ u. breaches_of_unique is u ≡ []) (λ (u : UniqueRule). IsTrue u.is_checked → HaveUniqueKeys u is)
      (λ u e. keys_unique u is e) rules.uniques (flat_empty (breaches_of_unique is) rules.uniques h),
  λ h. empty_flat (breaches_of_unique is) rules.uniques
      (every_other (λ (u : UniqueRule). IsTrue u.is_checked → HaveUniqueKeys u is) (λ u. breaches_of_unique is u ≡ [])
      (λ u f. unique_keys u is f) rules.uniques h),
)

-- inverse attributes
module _ (rules : Rules) (is : List Instance) (x : Instance) where
  abbrev MayHold : InverseAttribute → Type 0
  MayHold i = IsTrue (is_listed i.entity x.types) → IsTrue (may_hold i.gathering (length (inverse_value is i x.name)))

  abbrev told : InverseAttribute → Breach
  told i = record { instance = x.name; holder = i.entity; label = i.name }

  hold : (i : InverseAttribute) → breaks is x i ≡ false → MayHold i
  hold i e declares = by (may_hold i.gathering (length (inverse_value is i x.name))) refl
    where
      by : (b : Bool) → may_hold i.gathering (length (inverse_value is i x.name)) ≡ b → b ≡ true
      by true f = refl
      by false f = absurd (both_ways (breaks is x i) e (and_from (is_listed i.entity x.types)
          (not (may_hold i.gathering (length (inverse_value is i x.name)))) declares (ap not f)))

  unbroken : (i : InverseAttribute) → MayHold i → breaks is x i ≡ false
  unbroken i f = by (is_listed i.entity x.types) f
    where
      by : (b : Bool) → (b ≡ true → IsTrue (may_hold i.gathering (length (inverse_value is i x.name))))
          → (b && not (may_hold i.gathering (length (inverse_value is i x.name)))) ≡ false
      by true g = ap not (g refl)
      by false g = refl

  none_broken : (xs : List InverseAttribute) → filter (breaks is x) xs ≡ [] → Every MayHold xs
  none_broken [] h = tt
  none_broken (i ∷ xs) h = by (breaks is x i) refl h (none_broken xs)
    where
      by : (b : Bool) → breaks is x i ≡ b → cond b (i ∷ filter (breaks is x) xs) (filter (breaks is x) xs) ≡ []
          → (filter (breaks is x) xs ≡ [] → Every MayHold xs) → Every MayHold (i ∷ xs)
      by true e k more = absurd (not_more i (filter (breaks is x) xs) k)
      by false e k more = (hold i e, more k)

  all_hold : (xs : List InverseAttribute) → Every MayHold xs → filter (breaks is x) xs ≡ []
  all_hold [] h = refl
  all_hold (i ∷ xs) h =
      ap (λ (b : Bool). cond b (i ∷ filter (breaks is x) xs) (filter (breaks is x) xs)) (unbroken i h.0)
      ∙ all_hold xs h.1

  bounds_hold : breaches_of_inverse rules is x ≡ [] → Every MayHold rules.inverses
  bounds_hold h = none_broken rules.inverses (map_empty told (filter (breaks is x) rules.inverses) h)

  hold_bounds : Every MayHold rules.inverses → breaches_of_inverse rules is x ≡ []
  hold_bounds h = ap (map told) (all_hold rules.inverses h)

pub no_finding_exactly_where_bounds_hold : NoFindingExactlyWhereBoundsHold
no_finding_exactly_where_bounds_hold rules is = (
  λ h. every_other (λ x. breaches_of_inverse rules is x ≡ []) (λ x. Every (MayHold rules is x) rules.inverses)
      (λ x e. bounds_hold rules is x e) is (flat_empty (breaches_of_inverse rules is) is h),
  λ h. empty_flat (breaches_of_inverse rules is) is
      (every_other (λ x. Every (MayHold rules is x) rules.inverses) (λ x. breaches_of_inverse rules is x ≡ [])
      (λ x f. hold_bounds rules is x f) is h),
)
