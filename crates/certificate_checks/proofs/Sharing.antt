-- Instances share a class of a table exactly where their places share one by the classes that are split off.
use Rattle.std.proofs.Common.{◌≡◌, ◌≤◌, ◌<◌, ◌+◌, ℕ, zero, suc, true, List, Some, length, map, slice_get, refl, sym, ◌∙◌, ap, subst, inl, inr, arith}
use Rattle.std.specs.Prelude.{◌==◌, ◌↔◌, slice_index}
use Rattle.std.specs.List.{Contains, IsDistinct}
use Rattle.std.proofs.lemmas.Bool.{cases_lt}
use Rattle.std.proofs.lemmas.List.{length-map}
use Rattle.std.proofs.lemmas.Option.{get_or_from_slice_get, slice_get_within}
use Rattle.split_checks.specs.declared.births.Birth.{Birth}
use Rattle.split_checks.specs.steps.Births.{IsAncestor as LeadsTo, itself as stays_there, through as goes_up, Shared}
use Rattle.value_equality.specs.Rows.{Row, names}
use Rattle.value_equality.specs.Standard.{IsWellFormed}
use Rattle.value_equality.specs.Tables.{Origin, start, split, Table, HasMembers, IsAncestor, itself, through, began, ancestor_of, class_at, last_class, shares}
use Rattle.value_equality.proofs.Ancestors.{ancestor_is, is_ancestor}
use Rattle.certificate_checks.proofs.FirstMembers.{get_map, last_of, member_at, some_once}
use Rattle.certificate_checks.proofs.AtRounds.{both, one_class}
use Rattle.row_signatures.proofs.Naming.{item_at, names_long, placed}
use Rattle.certificate_checks.specs.steps.ComputedSplits.{AreBirthsOf}
use Rattle.certificate_checks.proofs.SplitOff.{at_class, parent_of}

-- there is a class for each instance
pub as_many : (P : List Row) (t : Table) (last : List ℕ) → HasMembers P t
    → last ≡ map (λ (m : ℕ × ℕ). m.1) t.members → length last ≡ length P
as_many P t last members last_is =
    ap length last_is ∙ length-map t.members (λ (m : ℕ × ℕ). m.1)
    ∙ sym (length-map t.members (λ (m : ℕ × ℕ). m.0)) ∙ ap length members ∙ names_long P

module _ (t : Table) (well : IsWellFormed t) (births : List Birth) (are : AreBirthsOf t.classes births) where
  begun_by : (c round : ℕ) (o : Origin) → slice_get t.classes c ≡ Some o → began o ≤ round
      → (b : Birth) → Contains births b → b.class ≡ c → b.round ≤ round
  begun_by c round o at begun b m e =
      let same : o ≡ split b.parent b.round = some_once o (split b.parent b.round)
      (sym at ∙ ap (slice_get t.classes) (sym e) ∙ at_class t well births are b m) in
      subst (λ (u : Origin). began u ≤ round) same begun

  to_births : (round c a : ℕ) → IsAncestor t.classes round c a → LeadsTo births round c a
  to_births round c a (itself d o at begun) = stays_there d (begun_by d round o at begun)
  to_births round c a (through d p since e at later less up) =
      goes_up d e (record { class = d; parent = p; round = since })
      ((are (record { class = d; parent = p; round = since })).1
      (slice_get_within t.classes d (split p since) at, at)) refl later (to_births round p e up)

  began_by : (c round : ℕ) → c < length t.classes → ((b : Birth) → Contains births b → b.class ≡ c → b.round ≤ round)
      → (o : Origin) → slice_get t.classes c ≡ Some o → began o ≤ round
  began_by c round l begun start at = omega arith
  began_by c round l begun (split p since) at =
      begun (record { class = c; parent = p; round = since })
      ((are (record { class = c; parent = p; round = since })).1 (l, at)) refl

  from_births : (round c a : ℕ) → c < length t.classes → LeadsTo births round c a → IsAncestor t.classes round c a
  from_births round c a l (stays_there d begun) =
      let o = item_at t.classes d l in itself d o.0 o.1 (began_by d round l begun o.0 o.1)
  from_births round c a l (goes_up d e b m same later up) =
      let p = parent_of t well births are b m in
      let less : b.parent < d = subst (λ k. b.parent < k) same p.before in
      through d b.parent b.round e (ap (slice_get t.classes) (sym same) ∙ at_class t well births are b m) later less
      (from_births round b.parent e (omega (arith, less, l)) up)

  -- each class leads to one
  leads : (round n c : ℕ) → c < n → c < length t.classes → (a : ℕ) × LeadsTo births round c a
  leads round zero c l k = absurd (omega (arith, l))
  leads round (suc n) c l k =
      let o = item_at t.classes c k in by o.0 o.1 (λ p less. leads round n p (omega (arith, less, l)) (omega (arith, less, k)))
    where
      by : (o : Origin) → slice_get t.classes c ≡ Some o → ((p : ℕ) → p < c → (a : ℕ) × LeadsTo births round p a)
          → (a : ℕ) × LeadsTo births round c a
      by start at up = (c, to_births round c c (itself c start at (omega arith)))
      by (split p since) at up = elim (cases_lt round since) [
        | inl later ↦ (let a = up p (well.parents c p since at).before in (
          a.0,
          goes_up c a.0 (record { class = c; parent = p; round = since })
              ((are (record { class = c; parent = p; round = since })).1 (k, at)) refl later a.1,
        ))
        | inr begun ↦ (c, to_births round c c (itself c (split p since) at begun))
      ]

  -- After the last round each class leads to the same one at every round.
  stays : (round c a : ℕ) → t.rounds ≤ round → LeadsTo births round c a → LeadsTo births (round + 1) c a
  stays round c a past (stays_there d begun) =
      stays_there d (λ b m e. let h = begun b m e in omega (arith, h))
  stays round c a past (goes_up d e b m same later up) =
      absurd (let time = (parent_of t well births are b m).in_time in omega (arith, time, later, past))

  module _ (P : List Row) (members : HasMembers P t) (distinct : IsDistinct (◌==◌) (names P)) (last : List ℕ)
      (last_is : last ≡ map (λ (m : ℕ × ℕ). m.1) t.members) where
    abbrev at : ℕ → ℕ
    at x = slice_index (names P) x

    -- the class of a place in the end
    record IsLast (x : ℕ) : Type 0 where
      known : slice_index last x < length t.classes
      class_is : last_class t.members (at x) ≡ Some (slice_index last x)

    last_there : (x : ℕ) → x < length P → IsLast x
    last_there x l =
        let r = placed P x l in
        let m = member_at t.members P x r.row members r.row_is in
        let is : slice_index last x ≡ m.0.1 = ap (λ xs. slice_index xs x) last_is
        ∙ get_or_from_slice_get (map (λ (n : ℕ × ℕ). n.1) t.members) x m.0.1 0
        (get_map (λ (n : ℕ × ℕ). n.1) t.members x m.0 m.1) in
        let declared : m.0.1 < length t.classes = subst (λ (y : ℕ × ℕ). y.1 < length t.classes)
        (get_or_from_slice_get t.members x m.0 m.0 m.1) (well.declared x m.0 (slice_get_within t.members x m.0 m.1)) in
        record {
          known = subst (λ k. k < length t.classes) (sym is) declared;
          class_is = ap (last_class t.members) (r.named ∙ sym m.2)
              ∙ last_of t.members P x m.0 members distinct m.1 ∙ ap Some (sym is);
        }

    leads_at : (round x a : ℕ) → x < length P → class_at t (at x) round ≡ Some a
        → LeadsTo births round (slice_index last x) a
    leads_at round x a l e =
        let c = slice_index last x in
        to_births round c a (ancestor_is t.classes round (suc c) c a
        (sym (ap (ancestor_of t.classes round) (last_there x l).class_is) ∙ e))

    class_from : (round x a : ℕ) → x < length P → LeadsTo births round (slice_index last x) a
        → class_at t (at x) round ≡ Some a
    class_from round x a l h =
        let c = slice_index last x in
        ap (ancestor_of t.classes round) (last_there x l).class_is
        ∙ is_ancestor t.classes round (suc c) c a (omega arith) (from_births round c a (last_there x l).known h)

    pub shares_where : (round x z : ℕ) → x < length P → z < length P
        → (shares t round (at x) (at z) ≡ true) ↔ Shared births last round x z
    shares_where round x z l k = (
      λ e. (let c = both (class_at t (at x) round) (class_at t (at z) round) e in
          (c.0, leads_at round x c.0 l c.1, leads_at round z c.0 k c.2)),
      λ s. one_class (class_at t (at x) round) (class_at t (at z) round) s.0 s.0 (class_from round x s.0 l s.1)
          (class_from round z s.0 k s.2) refl,
    )

    pub shared_self : (round x : ℕ) → x < length P → Shared births last round x x
    shared_self round x l =
        let c = slice_index last x in
        let a = leads round (suc c) c (omega arith) (last_there x l).known in (a.0, a.1, a.1)

    pub shared_on : (round x z : ℕ) → t.rounds ≤ round → Shared births last round x z
        → Shared births last (round + 1) x z
    shared_on round x z past s = (
      s.0,
      stays round (slice_index last x) s.0 past s.1,
      stays round (slice_index last z) s.0 past s.2,
    )
