-- The tests of an image decide it.
use Rattle.std.proofs.Common.{◌≡◌, ℕ, Bool, true, false, cond, List, [], ◌∷◌, Option, Some, None, Result, Ok, Err, refl, sym, ◌∙◌, ap, subst, ◌⊎◌, inl, inr, eqb-true, eq-eqb, arith}
use Rattle.std.specs.Prelude.{◌==◌, ◌&&◌, ◌||◌, ◌↔◌, ◌+◌, drop, slice_get, is_some, IfOk}
use Rattle.std.specs.List.{IsDistinct, list_all, list_any}
use Rattle.std.specs.Ordering.{nat_cmp, eq_by_cmp}
use Rattle.std.specs.BTreeMap.{BTreeMap, keys}
use Rattle.std.proofs.lemmas.Bool.{and_parts, and_from, or_cases, or_left, or_right}
use Rattle.std.proofs.lemmas.Bool.Decides.{nat_tests}
use Rattle.step_values.specs.References.{renamed_each}
use Rattle.step_values.specs.Labels.{renaming, AgreeEachBy}
use Rattle.value_equality.specs.Rows.{Row, row_kind, names, row_at, IsName, RowsAgree, renamed_row}
use Rattle.step_values.specs.AgreementTests.{same_each_test}
use Rattle.step_values.specs.Maps.{led_by}
use Rattle.value_equality.specs.Maps.{is_key, IsMapImage}
use Rattle.value_equality.specs.steps.ComputedImages.{Lands, IsOnto, LeavesAlone, row_lands, source, is_source}
use Rattle.value_equality.proofs.Lookup.{row_cases, held_name, name_held, name_here, name_later, all_rows, rows_all, all_names, names_all, row_name, items_from, named, any_next}
use Rattle.value_equality.specs.steps.ComputedKinds.{kind_test}
use Rattle.step_values.proofs.Deciding.{same_bool, each_sound, each_complete}
use Rattle.step_values.proofs.Labelled.{agree_each_led_once, led_once_agree_each}
use Rattle.value_equality.proofs.OneKind.{kinds_decide}

-- the keys of a map
exact : (a b : ℕ) → eq_by_cmp nat_cmp a b ≡ true → a ≡ b
exact a b e = grind (arith, nat_tests)

itself : (a : ℕ) → eq_by_cmp nat_cmp a a ≡ true
itself a = grind (arith, nat_tests)

module _ (test : ℕ → Bool) where
  all_keys : (ks : List ℕ) → list_all test ks ≡ true → (y : ℕ) → list_any (eq_by_cmp nat_cmp y) ks ≡ true
      → test y ≡ true
  all_keys [] h y k = absurd (cc)
  all_keys (x ∷ ks) h y k =
      let parts = and_parts (test x) (list_all test ks) h in
      elim (or_cases (eq_by_cmp nat_cmp y x) (list_any (eq_by_cmp nat_cmp y) ks) k)
      [ inl here ↦ ap test (exact y x here) ∙ parts.0 | inr there ↦ all_keys ks parts.1 y there ]

  keys_all : (ks : List ℕ) → ((y : ℕ) → list_any (eq_by_cmp nat_cmp y) ks ≡ true → test y ≡ true)
      → list_all test ks ≡ true
  keys_all [] f = refl
  keys_all (x ∷ ks) f =
      and_from (test x) (list_all test ks)
      (f x (or_left (eq_by_cmp nat_cmp x x) (list_any (eq_by_cmp nat_cmp x) ks) (itself x)))
      (keys_all ks (λ y k. f y (or_right (eq_by_cmp nat_cmp y x) (list_any (eq_by_cmp nat_cmp y) ks) k)))

module _ (P : List Row) (m : BTreeMap ℕ ℕ) (has : (y : ℕ) → is_key m y ≡ list_any (eq_by_cmp nat_cmp y) (keys m)) where
  pub domain_where : list_all (λ y. is_some (row_at P y)) (keys m) ≡ true → (r : Bool)
      → r ≡ list_all (λ p. is_key m p.name) P → (r ≡ true) ↔ ((y : ℕ) → (is_key m y ≡ true) ↔ IsName P y)
  domain_where h r e = (
    λ k y. (
      λ key. held_name P y (all_keys (λ y. is_some (row_at P y)) (keys m) h y (sym (has y) ∙ key)),
      all_names (is_key m) P (sym e ∙ k) y,
    ),
    λ f. e ∙ names_all (is_key m) P (λ y n. (f y).1 n),
  )

  pub no_domain_where : list_all (λ y. is_some (row_at P y)) (keys m) ≡ false → (false ≡ true)
      ↔ ((y : ℕ) → (is_key m y ≡ true) ↔ IsName P y)
  no_domain_where h = (
    λ e. absurd (cc),
    λ f. sym h ∙ keys_all (λ y. is_some (row_at P y)) (keys m) (λ y k. name_held P y ((f y).0 (has y ∙ k))),
  )

module _ (h : ℕ → ℕ) where
  any_led : (P : List Row) (y : ℕ) → list_any (λ p. h p.name == y) P ≡ true → (x : ℕ) × IsName P x × (h x ≡ y)
  any_led [] y e = absurd (cc)
  any_led (p ∷ P) y e =
      elim (or_cases (h p.name == y) (list_any (λ p. h p.name == y) P) e) [
        | inl here ↦ (p.name, name_here p P, eqb-true (h p.name) y here)
        | inr there ↦ (let found = any_led P y there in (found.0, name_later p P found.0 found.1, found.2))
      ]

  led_any : (P : List Row) (y x : ℕ) (p : Row) → row_at P x ≡ Some p → h x ≡ y → list_any (λ p. h p.name == y) P ≡ true
  led_any [] y x p n e = absurd (cc)
  led_any (s ∷ P) y x p n e =
      elim (row_cases s P x p n) [
        | inl here ↦ or_left (h s.name == y) (list_any (λ p. h p.name == y) P) (eq-eqb (h s.name) y (ap h here.0 ∙ e))
        | inr there ↦ or_right (h s.name == y) (list_any (λ p. h p.name == y) P) (led_any P y x p there.1 e)
      ]

  pub onto_where : (P Q : List Row) (reached : ℕ → Bool) → ((y : ℕ) → reached y ≡ list_any (λ p. h p.name == y) P)
      → (r : Bool) → r ≡ list_all (λ q. reached q.name) Q → (r ≡ true) ↔ IsOnto P Q h
  onto_where P Q reached is r e = (
    λ k y n. any_led P y (sym (is y) ∙ all_names reached Q (sym e ∙ k) y n),
    λ onto. e ∙ names_all reached Q (λ y n. let x = onto y n in is y ∙ led_any P y x.0 x.1.0 x.1.1 x.2),
  )

  lands_at : (p : Row) (o : Option Row) → row_lands h p o ≡ true → (q : Row) × (o ≡ Some q)
      × RowsAgree (renamed_row h p) q
  lands_at p None e = absurd (cc)
  lands_at p (Some q) e =
      let parts = and_parts (kind_test (row_kind p) (row_kind q)) (same_each_test (renamed_each h p.values) q.values) e
      in (
        q,
        refl,
        record {
          same_kind = (kinds_decide (row_kind p) (row_kind q)).0 parts.0;
          values_agree = each_sound (renamed_each h p.values) q.values parts.1;
        },
      )

  landed : (p q : Row) (o : Option Row) → o ≡ Some q → RowsAgree (renamed_row h p) q → row_lands h p o ≡ true
  landed p q o at agree =
      ap (row_lands h p) at
      ∙ and_from (kind_test (row_kind p) (row_kind q)) (same_each_test (renamed_each h p.values) q.values)
      ((kinds_decide (row_kind p) (row_kind q)).1 agree.same_kind)
      (each_complete (renamed_each h p.values) q.values agree.values_agree)

  pub lands_where : (P Q : List Row) → IsDistinct (◌==◌) (names P) → (r : Bool)
      → r ≡ list_all (λ p. row_lands h p (row_at Q (h p.name))) P → (r ≡ true) ↔ Lands P Q h
  lands_where P Q distinct r e = (
    λ k x p n. lands_at p (row_at Q (h x)) (ap (λ y. row_lands h p (row_at Q (h y))) (sym (row_name P x p n))
        ∙ all_rows (λ p. row_lands h p (row_at Q (h p.name))) P (sym e ∙ k) x p n),
    λ lands. e
        ∙ rows_all (λ p. row_lands h p (row_at Q (h p.name))) P distinct (λ x p n. let q = lands x p n in
        landed p q.0 (row_at Q (h p.name)) (ap (λ y. row_at Q (h y)) (row_name P x p n) ∙ q.1) q.2),
  )

  module _ (pinned : ℕ → Bool) where
    -- what is found is what was known before, or a pinned row that is led there
    source_is : (P : List Row) (known : Option ℕ) (y z : ℕ) → source h pinned P known y ≡ Some z → (known ≡ Some z)
        ⊎ ((pinned z ≡ true) × (h z ≡ y) × IsName P z)
    source_is [] known y z e = inl e
    source_is (s ∷ P) known y z e = elim (source_is P (cond (pinned s.name && (h s.name == y)) (Some s.name) known) y z
        e) [
          | inl k ↦ here (pinned s.name && (h s.name == y)) refl k
          | inr later ↦ inr
              (later.0, later.1, name_later s P z later.2)
        ]
      where
        here : (b : Bool) → (pinned s.name && (h s.name == y)) ≡ b → cond b (Some s.name) known ≡ Some z
            → (known ≡ Some z) ⊎ ((pinned z ≡ true) × (h z ≡ y) × IsName (s ∷ P) z)
        here true t k =
            let parts = and_parts (pinned s.name) (h s.name == y) t in
            let same : s.name ≡ z = cc in
            inr (
              ap pinned (sym same) ∙ parts.0,
              ap h (sym same) ∙ eqb-true (h s.name) y parts.1,
              subst (IsName (s ∷ P))
                  same (name_here s P),
            )
        here false t k = inl k

    -- what is known stays known
    known_stays : (P : List Row) (known : Option ℕ) (y : ℕ) → is_some known ≡ true
        → is_some (source h pinned P known y) ≡ true
    known_stays [] known y e = e
    known_stays (s ∷ P) known y e = known_stays P (cond (pinned s.name && (h s.name == y)) (Some s.name) known) y
        (go (pinned s.name && (h s.name == y)))
      where
        go : (b : Bool) → is_some (cond b (Some s.name) known) ≡ true
        go true = refl
        go false = e

    source_known : (P : List Row) (known : Option ℕ) (z : ℕ) (p : Row) → row_at P z ≡ Some p → pinned z ≡ true
        → is_some (source h pinned P known (h z)) ≡ true
    source_known [] known z p n e = absurd (cc)
    source_known (s ∷ P) known z p n e =
        elim (row_cases s P z p n) [
          | inl here ↦ known_stays P (cond (pinned s.name && (h s.name == h z)) (Some s.name) known) (h z)
              (ap (λ b. is_some (cond b (Some s.name) known)) (and_from (pinned s.name) (h s.name == h z)
              (ap pinned here.0 ∙ e) (eq-eqb (h s.name) (h z) (ap h here.0))))
          | inr there ↦ source_known P (cond (pinned s.name && (h s.name == h z)) (Some s.name) known) z p there.1 e
        ]

    module _ (P : List Row) (g : ℕ → Option ℕ) (is : (y : ℕ) → g y ≡ source h pinned P None y) where
      held : (o : Option ℕ) → is_some o ≡ true → (z : ℕ) × (o ≡ Some z)
      held None e = absurd (cc)
      held (Some z) e = (z, refl)

      one_source : (x w : ℕ) → g (h x) ≡ Some w → is_source (g (h x)) x ≡ true → w ≡ x
      one_source x w at e = eqb-true w x (ap (λ o. is_source o x) (sym at) ∙ e)

      alone : ((x : ℕ) → IsName P x → is_source (g (h x)) x ≡ true) → LeavesAlone P h pinned
      alone f x z n m pin same =
          let at = held (g (h z)) (ap is_some (is (h z)) ∙ source_known P None z m.0 m.1 pin) in
          sym (one_source x at.0 (ap g same ∙ at.1) (f x n)) ∙ one_source z at.0 at.1 (f z m)

      its_source : LeavesAlone P h pinned → (x : ℕ) → IsName P x → (o : Option ℕ) → g (h x) ≡ o → is_source o x ≡ true
      its_source apart x n None at = refl
      its_source apart x n (Some w) at =
          elim (source_is P None (h x) w (sym (is (h x)) ∙ at)) [
            | inl e ↦ absurd (cc)
            | inr found ↦ eq-eqb w x (sym (apart x w n found.2 found.0 (sym found.1)))
          ]

      pub alone_where : (r : Bool) → r ≡ list_all (λ p. is_source (g (h p.name)) p.name) P → (r ≡ true)
          ↔ LeavesAlone P h pinned
      alone_where r e = (
        λ k. alone (all_names (λ x. is_source (g (h x)) x) P (sym e ∙ k)),
        λ apart. e ∙ names_all (λ x. is_source (g (h x)) x) P (λ x n. its_source apart x n (g (h x)) refl),
      )

-- A step of a loop over names by their places.
module _ (h : ℕ → ℕ) (rows : List Row) (i x : ℕ) (at : slice_get (names rows) i ≡ Some x) (y : ℕ) where
  pub reached_next : (old new : Bool) → new ≡ cond (h x == y) true old
      → (new || list_any (λ r. h r.name == y) (drop (i + 1) rows)) ≡ (old || list_any (λ r. h r.name == y) (drop i rows))
  reached_next old new e =
      ap (λ b. b || list_any (λ r. h r.name == y) (drop (i + 1) rows)) e
      ∙ moved (h x == y) old (list_any (λ r. h r.name == y) (drop (i + 1) rows))
      ∙ ap (λ b. old || b) (sym (any_next (λ x. h x == y) rows i x at))
    where
      moved : (a b c : Bool) → (cond a true b || c) ≡ (b || (a || c))
      moved true true c = refl
      moved true false c = refl
      moved false b c = refl

  module _ (pinned : ℕ → Bool) (old : Option ℕ) where
    source_next : source h pinned (drop i rows) old y ≡ source h pinned (drop (i + 1) rows)
        (cond (pinned x && (h x == y)) (Some x) old) y
    source_next =
        let r = named rows i x at in
        ap (λ rs. source h pinned rs old y) (items_from rows i r.0 r.1)
        ∙ ap (λ z. source h pinned (drop (i + 1) rows) (cond (pinned z && (h z == y)) (Some z) old) y) r.2

    pub pinned_next : (new : Option ℕ) → pinned x ≡ true → new ≡ cond (h x == y) (Some x) old
        → source h pinned (drop (i + 1) rows) new y ≡ source h pinned (drop i rows) old y
    pinned_next new pin e =
        ap (λ o. source h pinned (drop (i + 1) rows) o y)
        (e ∙ ap (λ b. cond (b && (h x == y)) (Some x) old) (sym pin)) ∙ sym source_next

    pub other_next : pinned x ≡ false → source h pinned (drop (i + 1) rows) old y ≡ source h pinned (drop i rows) old y
    other_next free =
        ap (λ b. source h pinned (drop (i + 1) rows) (cond (b && (h x == y)) (Some x) old) y) (sym free)
        ∙ sym source_next

-- a row lands where its values agree with those of the row that it is led to, by the map on its side alone
pub lands_if_one_kind : {E : Type 0} (h : ℕ → ℕ) (p q : Row) (o : Option Row) (r : Result Bool E) → Some q ≡ o
    → kind_test (row_kind p) (row_kind q) ≡ true
    → IfOk r (λ b. (b ≡ true) ↔ AgreeEachBy (renaming h) (renaming (λ y. y)) p.values q.values)
    → IfOk r (λ b. b ≡ row_lands h p o)
lands_if_one_kind h p q o (Ok b) found one f =
    same_bool b (same_each_test (renamed_each h p.values) q.values)
    (λ e. each_complete (renamed_each h p.values) q.values (agree_each_led_once h p.values q.values (f.0 e)))
    (λ e. f.1 (led_once_agree_each h p.values q.values (each_sound (renamed_each h p.values) q.values e)))
    ∙ ap (λ b. b && same_each_test (renamed_each h p.values) q.values) (sym one) ∙ ap (row_lands h p) found
lands_if_one_kind h p q o (Err e) found one f = f

-- a row doesn't land on one of another kind
pub lands_in_two_kinds : (h : ℕ → ℕ) (p q : Row) (o : Option Row) → Some q ≡ o
    → kind_test (row_kind p) (row_kind q) ≡ false
    → false ≡ row_lands h p o
lands_in_two_kinds h p q o found two =
    ap (λ b. b && same_each_test (renamed_each h p.values) q.values) (sym two) ∙ ap (row_lands h p) found

pub image_where : {E : Type 0} (P Q : List Row) (m : BTreeMap ℕ ℕ) (pinned : ℕ → Bool) (r : Result Bool E)
    → ((y : ℕ) → (is_key m y ≡ true) ↔ IsName P y) → Lands P Q (led_by m) → IsOnto P Q (led_by m)
    → IfOk r (λ b. (b ≡ true) ↔ LeavesAlone P (led_by m) pinned)
    → IfOk r (λ b. (b ≡ true) ↔ IsMapImage P Q m pinned)
image_where P Q m pinned (Ok b) domain lands onto f = (
  λ e. record {
    domain = domain;
    image = record { lands = lands; onto = onto; alone = f.0 e };
  },
  λ image. f.1 image.image.alone,
)
image_where P Q m pinned (Err e) domain lands onto f = f
