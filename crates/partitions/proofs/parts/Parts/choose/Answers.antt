use Rattle.std.proofs.Common.{◌≡◌, ◌<◌, ℕ, ◌-◌, refl, subst, arith, length}
use Rattle.std.proofs.lemmas.List.{get_or_read, with_items_is}
use Rattle.partitions.specs.steps.Steps.{IsExchanged}
use Rattle.partitions.specs.Layouts.{Layout, size, class_in, index_in, middle_of, count}
use Rattle.partitions.specs.Views.{layout}
use Rattle.partitions.proofs.Choosing.{chooses_by}
use Rattle.partitions.proofs.parts.Parts.choose.Goals as goal

pub returns-then-at-middle : goal.returns-then-at-middle
returns-then-at-middle c =
    let p : Layout = layout c.args.self.now in
    let x : ℕ = c.args.place in
    let places : length p.index ≡ size p = c.requires.laid.places in
    let class_is : c.index.result.now ≡ class_in p x = get_or_read p.class _ _ c.requires.there c.index.ensures 0 in
    let at_is : c.index-at.result.now ≡ index_in p x = get_or_read p.index _ _ (omega arith) c.index-at.ensures 0 in
    let known : class_in p x < count p = (c.requires.laid.within x c.requires.there).known in
    let middles : length p.middle ≡ count p = c.requires.laid.middles in
    let middle_is : c.index-middle.result.now ≡ middle_of p c.index.result.now =
    get_or_read p.middle _ _ (omega arith) c.index-middle.ensures 0 in
    let v = c.args.self.now in
    let old = c.deref_mut.ensures.len in
    let old2 = c.deref_mut-then-at-middle.ensures.len in
    let kept_order : length c.exchange.new.order ≡ v.order.len = omega arith in
    let kept_index : length c.exchange.new.index ≡ v.index.len = omega arith in
    chooses_by p _ x c.index.result.now c.index-at.result.now c.index-middle.result.now c.exchange.new.order
    c.exchange.new.index class_is at_is middle_is c.requires.laid c.requires.there c.if-at-middle.true
    (record { class_is = refl; first_is = refl; end_is = refl; parent_is = refl }) c.exchange.ensures.inverse
    (subst (λ l. IsExchanged l c.exchange.new.index c.index-at.result.now (c.index-middle.result.now - 1))
    c.deref_mut-then-at-middle.ensures.value c.exchange.ensures.moved)
    (with_items_is v.order c.exchange.new.order kept_order)
    (with_items_is v.index c.exchange.new.index kept_index) refl
