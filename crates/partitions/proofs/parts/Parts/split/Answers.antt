use Rattle.std.proofs.Common.{◌≡◌, refl, arith, length}
use Rattle.std.proofs.lemmas.List.{with_items_is}
use Rattle.partitions.specs.Layouts.{Layout}
use Rattle.partitions.specs.Views.{layout}
use Rattle.partitions.proofs.Splitting.{count_few, splits_by}
use Rattle.partitions.proofs.parts.Parts.split.Goals as goal

pub overflow_cast-number : goal.overflow_cast-number
overflow_cast-number c =
    let few = count_few (layout c.args.self.now) c.requires.laid in
    let e = c.len-number.ensures in
    let l = c.args.self.now.first.ok.0 in omega arith

pub returns : goal.returns
returns c =
    let v = c.args.self.now in
    let p : Layout = layout v in
    let kept : length c.write_at.new.class ≡ v.class.len = omega arith in
    let firsts = v.first.ok.0 in
    splits_by p _ c.args.class c.len-number.result c.args.first c.args.end c.args.new_first c.args.new_end
    c.deref.result.now c.deref_mut.result.now
    c.write_at.new.class c.requires.laid c.requires.known c.requires.cut (omega arith)
    c.deref.ensures.value c.deref_mut.ensures.value c.write_at.ensures.length c.write_at.ensures.there
    c.write_at.ensures.elsewhere
    (with_items_is v.class c.write_at.new.class kept) refl refl
    c.in_ok-push.ensures.items c.in_ok-push-2.ensures.items c.in_ok-push-3.ensures.items c.in_ok-push-4.ensures.items
