-- The ancestors of classes at a round, each from that of its parent.
use Rattle.std.proofs.Common.{◌≡◌, ◌<◌, ◌≤◌, ℕ, List, Some, sym, ap, ◌∙◌, arith, slice_get}
use Rattle.std.proofs.lemmas.Bool.{le-leb}
use Rattle.std.specs.Prelude.{cond, nat_lt, None}
use Rattle.value_equality.proofs.Ancestors.{climbs}
use Rattle.value_equality.specs.Standard.{IsParent}
use Rattle.value_equality.specs.Tables.{start, split, Table, climbed, ancestor, ancestor_of}
use Rattle.certificate_checks.specs.steps.ComputedParents.{AreAncestors}

module _ (t : Table) (round c : ℕ) where
  -- a class that is there from round 0 on is its own ancestor
  pub own_at_start : slice_get t.classes c ≡ Some start → Some c ≡ ancestor_of t.classes round (Some c)
  own_at_start at = sym (ap (λ o. climbed o round c (ancestor t.classes round c)) at)

  -- so is one that had begun
  pub own_begun : (p since : ℕ) → slice_get t.classes c ≡ Some (split p since) → since ≤ round
      → Some c ≡ ancestor_of t.classes round (Some c)
  own_begun p since at begun = sym (ap (λ o. climbed o round c (ancestor t.classes round c)) at
      ∙ ap (λ b. cond b (Some c) (cond (nat_lt p c) (ancestor t.classes round c p) None)) (le-leb since round begun))

  -- one that had not has the ancestor of its parent
  pub ancestor_of_parent : (ancestors : List ℕ) (p since x : ℕ) → AreAncestors t round ancestors c
      → slice_get t.classes c ≡ Some (split p since) → round < since → IsParent t c p since
      → slice_get ancestors p ≡ Some x → Some x ≡ ancestor_of t.classes round (Some c)
  ancestor_of_parent ancestors p since x before at later parent is =
      sym is ∙ before.ancestor p parent.before ∙ sym (climbs t.classes round c p since at later parent.before)
