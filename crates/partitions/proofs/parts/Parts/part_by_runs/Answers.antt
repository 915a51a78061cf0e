use Rattle.std.proofs.Common.{◌≡◌, ℕ, List, length, refl, subst, sym, ◌∙◌, ap, arith}
use Rattle.std.proofs.lemmas.List.{length-map}
use Rattle.partitions.specs.declared.pairs.Pair.{Pair}
use Rattle.partitions.specs.Layouts.{Layout, size}
use Rattle.partitions.specs.Refinements.{ArePlaces}
use Rattle.partitions.specs.steps.Steps.{key_at}
use Rattle.partitions.specs.Views.{layout}
use Rattle.partitions.proofs.Keys.{IsPartedByFirst, are_places, parted_by_none, keys_more, apart_more, parted_by_all, run_places}
use Rattle.partitions.proofs.parts.Parts.part_by_runs.Goals as goal

pub loop-at-init : goal.loop-at-init
loop-at-init c = record {
  parted = parted_by_none (key_at c.args.pairs.now) c.args.places.now (layout c.args.self.now) c.requires.laid
      c.requires.settled;
  within = omega arith;
  apart = λ j k l m n e. absurd (omega arith);
  long = ap length c.requires.each ∙ length-map c.args.pairs.now (λ a. a.place);
}

pub part_by-requires-clause-places : goal.part_by-requires-clause-places
part_by-requires-clause-places c =
    let p : Layout = layout c.args.self.now in
    let ends = c.run_end-end.ensures in
    let long = c.loop-at.invariant.long in
    let within = ends.within in
    run_places (key_at c.args.pairs.now) c.args.places.now _ c.loop-at.at c.run_end-end.result ends.later (omega arith)
    refl ends.same (λ j k l m n. c.loop-at.invariant.apart j k l m (omega arith)) _
    (subst (λ n. ArePlaces n c.args.places.now) (sym c.loop-at.invariant.parted.finer.places)
    (subst (ArePlaces (size p)) (sym c.requires.each) (are_places (size p) c.args.pairs.now c.requires.places)))

pub loop-at-preserved : goal.loop-at-preserved
loop-at-preserved c =
    let p : Layout = layout c.args.self.now in
    let q : Layout = layout c.loop-at.self in
    let r : Layout = layout c.part_by.new.self in
    let ps : List Pair = c.args.pairs.now in
    let xs : List ℕ = c.args.places.now in
    let at : ℕ = c.loop-at.at in
    let end : ℕ = c.run_end-end.result in
    let ends = c.run_end-end.ensures in
    let within = ends.within in
    let long = c.loop-at.invariant.long in
    let before = c.loop-at.invariant.apart in
    record {
      parted = keys_more (key_at ps) xs _ at end ends.later (omega arith) refl ends.same
          (λ j k l m n. before j k l m (omega arith)) p q r c.loop-at.invariant.parted c.in_ok-part_by.ensures;
      within = within;
      apart = λ j k l m n. apart_more (key_at ps) xs _ at end ends.later (omega arith) refl ends.same
          (λ a b d e f. before a b d e (omega arith))
          (λ i a b d e f. c.requires.together i a b d e (omega arith)) (λ l. ends.end (omega arith)) j k l m
          (omega arith);
      long = long;
    }

pub returns : goal.returns
returns c =
    let p : Layout = layout c.args.self.now in
    let q : Layout = layout c.loop-at.self in
    let ps : List Pair = c.args.pairs.now in
    let within = c.loop-at.invariant.within in
    let done : c.loop-at.at ≡ length ps = omega arith in
    parted_by_all ps p q (subst (λ xs. IsPartedByFirst (key_at ps) xs p q (length ps)) c.requires.each
    (subst (IsPartedByFirst (key_at ps) c.args.places.now p q) done c.loop-at.invariant.parted))
