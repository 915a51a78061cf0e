-- The classes of a table that are split off others, one by one.
use Rattle.std.proofs.Common.{◌≡◌, ◌<◌, ◌+◌, ℕ, List, [], ◌∷◌, ◌++◌, Some, sym, ◌∙◌, ap, subst, inl, inr, length, map, get_or, slice_get, arith}
use Rattle.std.specs.List.{Contains}
use Rattle.std.specs.Option.{option_map}
use Rattle.std.proofs.lemmas.Bool.{cases_eq}
use Rattle.std.proofs.lemmas.List.Elements.{Contains-append_left, Contains-push, Contains-push_cases}
use Rattle.std.proofs.lemmas.Option.{slice_get-get_or, slice_get-map}
use Rattle.split_checks.specs.declared.births.Birth.{Birth}
use Rattle.split_checks.specs.steps.Births.{AreBirths}
use Rattle.value_equality.specs.Standard.{IsParent, IsWellFormed}
use Rattle.value_equality.specs.declared.table.Origin.{Origin as ProgramOrigin}
use Rattle.value_equality.specs.TableViews.{origin_of}
use Rattle.value_equality.specs.Tables.{Origin, start, split, Table, began}
use Rattle.certificate_checks.proofs.FirstMembers.{some_once}
use Rattle.certificate_checks.specs.steps.ComputedSplits.{AddsBirth, AreBirthsOf, AreFirstBirths}

module _ (class : ℕ) (o : Origin) (old : List Birth) where
  -- a class that is there from round 0 on
  pub none_added : o ≡ start → AddsBirth class o old old
  none_added e b = (
    λ m. inl m,
    λ h. elim h [
      | inl there ↦ there
      | inr is ↦ absurd (clash b (sym e ∙ is.1))
    ],
  )
    where
      clash : (b : Birth) → start ≡ split b.parent b.round → ⊥
      clash b q = absurd (cc)

  -- one that is split off
  module _ (parent round : ℕ) (o_is : o ≡ split parent round) where
    abbrev born : Birth
    born = record { class = class; parent = parent; round = round }

    born_is : (b : Birth) → b.class ≡ class → o ≡ split b.parent b.round → born ≡ b
    born_is b c e =
        let same : split parent round ≡ split b.parent b.round = sym o_is ∙ e in
        let p : parent ≡ b.parent = cc in
        let r : round ≡ b.round = cc in
        λ i. record { class = sym c i; parent = p i; round = r i }

    pub one_added : (new : List Birth) → new ≡ old ++ born ∷ [] → AddsBirth class o old new
    one_added new e b = (
      λ m. elim (Contains-push_cases old born b (subst (λ bs. Contains bs b) e m)) [
        | inl there ↦ inl there
        | inr same ↦ inr (
          ap (λ (d : Birth). d.class) (sym same),
          o_is ∙ ap (λ (d : Birth). split d.parent d.round) same,
        )
      ],
      λ h. subst (λ bs. Contains bs b) (sym e) (elim h [
        | inl there ↦ Contains-append_left old (born ∷ []) b there
        | inr is ↦ subst (Contains (old ++ born ∷ [])) (born_is b is.0 is.1) (Contains-push old born)
      ]),
    )

-- an origin, as it is seen
pub origin_read : (os : List ProgramOrigin) (i : ℕ) (d : ProgramOrigin) → i < length os
    → slice_get (map origin_of os) i ≡ Some (origin_of (get_or os i d))
origin_read os i d l = slice_get-map origin_of os i ∙ ap (option_map origin_of) (slice_get-get_or os i d l)

module _ (classes : List Origin) where
  pub no_births : AreFirstBirths classes [] 0
  no_births b = (
    λ m. absurd (let l = m.1 in omega (arith, l)),
    λ h. absurd (let l = h.0 in omega (arith, l)),
  )

  -- one class more
  pub one_more : (n : ℕ) (o : Origin) (old new : List Birth) → slice_get classes n ≡ Some o
      → AreFirstBirths classes old n → AddsBirth n o old new → AreFirstBirths classes new (n + 1)
  one_more n o old new at all adds b = (
    λ m. elim ((adds b).0 m) [
      | inl there ↦ (let h = (all b).0 there in ((let l = h.0 in omega (arith, l)), h.1))
      | inr here ↦ (
        (let same = here.0 in omega (arith, same)),
        ap (slice_get classes) here.0 ∙ at ∙ ap (λ (u : Origin). Some u) here.1,
      )
    ],
    λ h. (adds b).1 (elim (cases_eq b.class n) [
      | inl same ↦ inr (
        same,
        some_once o (split b.parent b.round) (sym at ∙ ap (slice_get classes) (sym same) ∙ h.1),
      )
      | inr other ↦ inl ((all b).1 ((let l = h.0 in omega (arith, l, other)), h.1))
    ]),
  )

module _ (t : Table) (well : IsWellFormed t) (births : List Birth) (are : AreBirthsOf t.classes births) where
  pub at_class : (b : Birth) → Contains births b → slice_get t.classes b.class ≡ Some (split b.parent b.round)
  at_class b m = ((are b).0 m).1

  pub parent_of : (b : Birth) → Contains births b → IsParent t b.class b.parent b.round
  parent_of b m = well.parents b.class b.parent b.round (at_class b m)

  one_birth : (b d : Birth) → b.class ≡ d.class → split b.parent b.round ≡ split d.parent d.round → b ≡ d
  one_birth b d c e =
      let p : b.parent ≡ d.parent = cc in
      let r : b.round ≡ d.round = cc in
      λ i. record { class = c i; parent = p i; round = r i }

  same_origin : (b d : Birth) → Contains births b → Contains births d → b.class ≡ d.class
      → split b.parent b.round ≡ split d.parent d.round
  same_origin b d m n e =
      some_once (split b.parent b.round) (split d.parent d.round)
      (sym (at_class b m) ∙ ap (slice_get t.classes) e ∙ at_class d n)

  -- parents stand before their classes, and began earlier
  pub are_births : AreBirths (length t.classes) births
  are_births = record {
    within = λ b m. (let l = ((are b).0 m).0 in
        let less = (parent_of b m).before in (l, omega (arith, l, less)));
    once = λ b d m n e. one_birth b d e (same_origin b d m n e);
    behind = λ b m. (let e = (parent_of b m).earlier in omega (arith, e));
    later = λ b d m n e. (let p = parent_of b m in
        let o : p.origin ≡ split d.parent d.round = some_once p.origin (split d.parent d.round)
        (sym p.origin_is ∙ ap (slice_get t.classes) (sym e) ∙ at_class d n) in
        subst (λ (u : Origin). began u < b.round) o p.earlier);
  }
