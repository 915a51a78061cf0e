-- The rounds of places are those of refinement.
use Rattle.std.proofs.Common.{◌≡◌, ◌<◌, ℕ, zero, suc, ◌+◌, Bool, true, List, length, sym, subst, arith, add-one}
use Rattle.std.specs.Prelude.{◌↔◌, slice_index}
use Rattle.partitions.specs.Layouts.{Layout, size}
use Rattle.partition_edges.specs.Edges.{AreEdges}
use Rattle.partition_refinement.specs.Rounds.{Shared}
use Rattle.partition_refinement.specs.RoundLaws.{Refines}
use Rattle.partition_refinement.proofs.Unique.{rounds_are_the_refinement, rounds_part}
use Rattle.partition_refinement.specs.declared.numbering.Origin.{Origin}
use Rattle.partition_refinement.specs.Births.{AreCounts}
use Rattle.partition_refinement.specs.Numbers.{IsNumbering}
use Rattle.value_equality.specs.ValueEquality.{AreAlike, AgreeUnder}
use Rattle.value_equality.specs.Rows.{Row, IsName, IsPopulation, names}
use Rattle.value_equality.specs.Standard.{IsStandard}
use Rattle.value_equality.proofs.Parting.{parted, parted_from, parted_grounded, parted_partitions, parted_refines}
use Rattle.value_equality.proofs.Rounds.{own}
use Rattle.merge_classes.specs.Laws.{table_of}
use Rattle.merge_classes.proofs.Standard.{end_is, numbers_stand}
use Rattle.merge_classes.specs.steps.ComputedRounds.{IsByKinds, IsByValues}
use Rattle.row_signatures.proofs.Naming.{names_long, stands}
use Rattle.merge_classes.proofs.Agreeing.{agree_by_related}

module _ (P : List Row) (pinned : ℕ → Bool) (population : IsPopulation P) where
  abbrev at : ℕ → ℕ
  at x = slice_index (names P) x

  -- refinement, between places
  abbrev E : ℕ → ℕ → ℕ → Bool
  E r x z = parted P pinned r (at x) (at z)

  round_own : (r y : ℕ) → IsName P y → parted P pinned r y y ≡ true
  round_own r y n = own P pinned (parted P pinned) r (parted_grounded P pinned r) population r (omega arith) y n

  next_from : (r x z : ℕ) → parted P pinned (r + 1) x z ≡ true → (parted P pinned r x z ≡ true)
      × AgreeUnder P pinned (parted P pinned r) x z
  next_from r x z h = parted_from P pinned r x z (subst (λ k. parted P pinned k x z ≡ true) (add-one r) h)

  alike_at : (r y z : ℕ) → parted P pinned r y z ≡ true → AreAlike P pinned y z
  alike_at zero y z h = ((parted_refines P pinned population).first y z).0 h
  alike_at (suc r) y z h = alike_at r y z (parted_from P pinned r y z h).0

  module _ (start p : Layout) (counts : List ℕ) (kinds : IsByKinds P pinned start) (values : IsByValues P pinned start p counts)
    where
      refines : Refines values.edges values.shapes start E
      refines =
          let places = kinds.places in record {
            first = λ x z l m.
                let first = (parted_refines P pinned population).first (at x) (at z) in
                let parts = kinds.parts x z l m in
                (λ h. parts.1 (first.0 h), λ e. first.1 (parts.0 e));
            next = λ r x z l m.
                let agree = agree_by_related P pinned (parted P pinned r) (round_own r) (alike_at r) population
                values.edges values.references values.shapes values.shaped x z (omega (arith, l, places))
                (omega (arith, m, places)) in (
                  λ h. (let parts = next_from r (at x) (at z) h in
                      let more = (agree (alike_at r (at x) (at z) parts.0)).0 parts.1 in (parts.0, more.0, more.1)),
                  λ h. (parted_grounded P pinned (r + 1)).next r (at x) (at z) (omega arith) h.0
                      ((agree (alike_at r (at x) (at z) h.0)).1 (h.1, h.2)),
                );
          }

      sizes : size p ≡ length P
      sizes = let a = values.refined.places in let b = kinds.places in omega (arith, a, b)

      found : ((r x z : ℕ) → r < length counts → x < size p → z < size p
          → (E r x z ≡ true) ↔ Shared p (slice_index counts r) x z)
          × ((r x z : ℕ) → r + 1 ≡ length counts → x < size p → z < size p → E r x z ≡ true → E (r + 1) x z ≡ true)
      found = rounds_are_the_refinement values.edges values.shapes start p counts E
          (subst (λ n. AreEdges n values.edges) (sym kinds.places) values.references.are) values.refined refines

      -- names that a round relates stand at places
      settled : (last : ℕ) → last + 1 ≡ length counts → (x z : ℕ) → parted P pinned last x z ≡ true
          → parted P pinned (last + 1) x z ≡ true
      settled last rounds x z h =
          let by = parted_partitions P pinned in
          let s = stands P x (by.named last x z h) in
          let u = stands P z (by.named last z x (by.symmetric last x z h)) in
          let l = s.within in
          let m = u.within in
          let together : E last s.place u.place ≡ true =
          subst (λ a. parted P pinned last a (at u.place) ≡ true) (sym s.index_is)
          (subst (λ b. parted P pinned last x b ≡ true) (sym u.index_is) h) in
          let still = found.1 last s.place u.place rounds (omega (arith, l, sizes)) (omega (arith, m, sizes)) together in
          subst (λ a. parted P pinned (last + 1) a z ≡ true) s.index_is
          (subst (λ b. parted P pinned (last + 1) (at s.place) b ≡ true) u.index_is still)

      parts : (last : ℕ) → last + 1 ≡ length counts → (r : ℕ) → r < last → (x : ℕ) × (z : ℕ)
          × (parted P pinned r x z ≡ true) × (parted P pinned (r + 1) x z ≡ true → ⊥)
      parts last rounds r l =
          let pair = rounds_part values.edges values.shapes start p counts values.refined r (omega (arith, l, rounds)) in (
            at pair.0,
            at pair.1,
            (found.0 r pair.0 pair.1 (omega (arith, l, rounds)) pair.2 pair.3).1 pair.4,
            λ h. pair.5 ((found.0 (r + 1) pair.0 pair.1 (omega (arith, l, rounds)) pair.2 pair.3).0 h),
          )

      -- so their numbers make the standard table
      pub numbers_are_those : (firsts : List ℕ) (origins : List Origin) (members : List ℕ) (last : ℕ)
          → last + 1 ≡ length counts → AreCounts p counts → IsNumbering p counts firsts origins members
          → IsStandard P pinned (table_of (names P) last origins members)
      numbers_are_those firsts origins members last rounds counted numbered =
          let long = names_long P in
          let end = end_is P pinned population last (settled last rounds) (parts last rounds) in
          numbers_stand P pinned population p counts firsts origins members last values.refined.laid counted
          (omega (arith, sizes, long)) rounds end
          (λ r i j l m k. found.0 r i j l (omega (arith, m, sizes, long)) (omega (arith, k, sizes, long))) numbered
