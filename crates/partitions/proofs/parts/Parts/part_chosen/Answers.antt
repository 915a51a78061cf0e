use Rattle.std.proofs.Common.{◌≡◌, ◌<◌, ℕ, List, length, refl, subst, arith}
use Rattle.std.specs.Prelude.{slice_index}
use Rattle.std.proofs.lemmas.List.{get_or_read}
use Rattle.partitions.specs.Layouts.{Layout, size, class_in}
use Rattle.partitions.specs.Views.{layout}
use Rattle.partitions.proofs.Sets.{ArePartedFirst, parted_more, parted_all}
use Rattle.partitions.proofs.parts.Parts.part_chosen.Goals as goal

pub loop-place-preserved : goal.loop-place-preserved
loop-place-preserved c =
    let p : Layout = layout c.args.self.now in
    let q : Layout = layout c.loop-place.self in
    let xs : List ℕ = c.args.places.now in
    let i : ℕ = c.loop-place.place-index in
    let inside : i < length xs = omega arith in
    let is_place : slice_index xs i < size p = c.requires.places i inside in
    let sizes : size q ≡ size p = c.loop-place.invariant.finer.places in
    let class_is : c.index-class.result.now ≡ class_in q (slice_index xs i) =
    get_or_read q.class _ _ (omega arith) c.index-class.ensures 0 in
    parted_more p q (layout c.part.new.self) xs i (slice_index xs i) c.index-class.result.now
    c.loop-place.invariant inside c.requires.places refl class_is c.in_ok-part.ensures

pub returns : goal.returns
returns c =
    let p : Layout = layout c.args.self.now in
    let q : Layout = layout c.loop-place.self in
    let xs : List ℕ = c.args.places.now in
    parted_all p q xs (subst (ArePartedFirst p q xs) (omega arith) c.loop-place.invariant)
