use Rattle.std.proofs.Common.{◌≡◌, ℕ, List, length, refl, subst, sym, arith}
use Rattle.partitions.specs.Layouts.{Layout, size}
use Rattle.partitions.specs.Refinements.{ArePlaces}
use Rattle.partitions.specs.steps.Steps.{number_at}
use Rattle.partitions.specs.Views.{layout}
use Rattle.partitions.proofs.Below.{all_below}
use Rattle.partitions.proofs.Keys.{IsPartedByFirst, are_below, parted_by_none, keys_more, apart_more, parted_by_all_numbers, run_places}
use Rattle.partitions.proofs.Order.{ordered_together}
use Rattle.partitions.proofs.parts.Parts.part_in_order.Goals as goal

pub number_end-end-requires-clause-places : goal.number_end-end-requires-clause-places
number_end-end-requires-clause-places c = all_below (length c.args.numbers.now) c.args.order.now c.requires.places

pub loop-at-init : goal.loop-at-init
loop-at-init c = record {
  parted = parted_by_none (number_at c.args.numbers.now c.args.order.now) c.args.order.now (layout c.args.self.now)
      c.requires.laid c.requires.settled;
  within = omega arith;
  apart = λ j k l m n e. absurd (omega arith);
}

pub part_by-requires-clause-places : goal.part_by-requires-clause-places
part_by-requires-clause-places c =
    let ends = c.number_end-end.ensures in
    run_places (number_at c.args.numbers.now c.args.order.now) c.args.order.now _ c.loop-at.at c.number_end-end.result
    ends.later ends.within refl ends.same c.loop-at.invariant.apart _
    (subst (λ n. ArePlaces n c.args.order.now) (sym c.loop-at.invariant.parted.finer.places)
    (are_below c.args.numbers.now c.args.order.now c.requires.places (size (layout c.args.self.now)) c.requires.each))

pub loop-at-preserved : goal.loop-at-preserved
loop-at-preserved c =
    let p : Layout = layout c.args.self.now in
    let q : Layout = layout c.loop-at.self in
    let r : Layout = layout c.part_by.new.self in
    let numbers : List ℕ = c.args.numbers.now in
    let order : List ℕ = c.args.order.now in
    let at : ℕ = c.loop-at.at in
    let end : ℕ = c.number_end-end.result in
    let ends = c.number_end-end.ensures in
    let apart = c.loop-at.invariant.apart in
    record {
      parted = keys_more (number_at numbers order) order _ at end ends.later ends.within refl ends.same apart p q r
          c.loop-at.invariant.parted c.in_ok-part_by.ensures;
      within = ends.within;
      apart = apart_more (number_at numbers order) order _ at end ends.later ends.within refl ends.same apart
          (ordered_together numbers order c.requires.order) ends.end;
    }

pub returns : goal.returns
returns c =
    let p : Layout = layout c.args.self.now in
    let q : Layout = layout c.loop-at.self in
    let numbers : List ℕ = c.args.numbers.now in
    let order : List ℕ = c.args.order.now in
    let within = c.loop-at.invariant.within in
    let done : c.loop-at.at ≡ length order = omega arith in
    parted_by_all_numbers numbers order c.requires.places p q c.requires.each
    (subst (IsPartedByFirst (number_at numbers order) order p q) done c.loop-at.invariant.parted)
