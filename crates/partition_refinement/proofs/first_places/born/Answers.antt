use Rattle.std.proofs.Common.{◌≡◌, ◌≤◌, ◌<◌, ℕ, ◌+◌, ◌-◌, List, length, subst, sym, ap, ◌∙◌, arith, min, max, length-set}
use Rattle.std.specs.Prelude.{slice_index, slice_set, ◌↔◌, ◌⊎◌}
use Rattle.std.proofs.lemmas.List.{get_or_read}
use Rattle.partitions.specs.Layouts.{Layout, count, class_in, parent_of}
use Rattle.partitions.specs.Refinements.{Above}
use Rattle.partitions.specs.Views.{layout}
use Rattle.partition_refinement.specs.Firsts.{IsFirst}
use Rattle.partition_refinement.specs.steps.Working.{AreFirstPlaces, AreBorn}
use Rattle.partition_refinement.proofs.Leading.{leads_joined, begins, fresh, greater_in, born_more}
use Rattle.partition_refinement.proofs.first_places.born.Goals as goal

pub loop-class-preserved : goal.loop-class-preserved
loop-class-preserved c =
    let p : Layout = layout c.args.parts.now in
    let ls : List ℕ = c.loop-class.first_places.items in
    let e : ℕ = c.loop-class.class - 1 in
    let low : c.args.low ≤ e = omega arith in
    let same : c.loop-class.class ≡ e + 1 = omega arith in
    let known : e < count p = let h = c.loop-class.invariant.high in let k = c.requires.known in omega arith in
    let parent : ℕ = c.parent-parent.result in
    let parent_is : parent_of p e ≡ parent = sym c.parent-parent.ensures in
    let up = c.requires.parted e low known in
    let below : parent < e = omega arith in
    let lengths : length ls ≡ count p = let a = c.loop-class.invariant.length in let b = c.requires.length in omega arith in
    let inside : parent < length ls = omega arith in
    let a : ℕ = c.index-one.result.now in
    let b : ℕ = c.index-two.result.now in
    let a_is : a ≡ slice_index ls parent = get_or_read ls _ _ inside c.index-one.ensures 0 in
    let b_is : b ≡ slice_index ls e = get_or_read ls _ _ (omega arith) c.index-two.ensures 0 in
    let first_places : AreFirstPlaces p (e + 1) ls = subst (λ k. AreFirstPlaces p k ls) same c.loop-class.invariant.first_places in
    let born : AreBorn p (e + 1) c.args.high c.loop-class.born.items =
    subst (λ k. AreBorn p k c.args.high c.loop-class.born.items) same c.loop-class.invariant.born in
    let high : e + 1 ≤ c.args.high = let h = c.loop-class.invariant.high in omega arith in
    let less : c.min.result ≡ min a b = let h = c.min.ensures in omega arith in
    let more : c.max.result ≡ max a b = let h = c.max.ensures in omega arith in
    let ms : List ℕ = slice_set ls parent c.min.result in
    let written : ms ≡ slice_set ls parent (min a b) = ap (slice_set ls parent) less in
    record {
      low = low;
      high = omega arith;
      length = let h = c.loop-class.invariant.length in length-set ls parent c.min.result ∙ h;
      first_places = leads_joined p e parent a b ls ms below parent_is first_places a_is b_is inside written;
      born = born_more p e c.args.high c.max.result c.loop-class.born.items c.push.new.self.items high born
          c.in_ok-push.ensures.items
          (λ h. subst (λ y. IsFirst p (e + 1) h ↔ (IsFirst p e h ⊎ (h ≡ y))) (sym more) (begins p e parent a b ls ms below parent_is first_places a_is b_is inside written h))
          (fresh p e parent a b ls ms below parent_is first_places a_is b_is inside written c.max.result more)
          (subst (Above p.parent e (class_in p c.max.result)) (sym parent_is)
          (greater_in p e parent a b ls ms below parent_is first_places a_is b_is inside written c.max.result more));
    }
