use Rattle.std.proofs.Common.{◌≡◌, refl, arith, length}
use Rattle.std.proofs.lemmas.List.{get_or_read}
use Rattle.partitions.specs.Layouts.{Layout, count, first_of, end_of}
use Rattle.partitions.specs.Views.{layout}
use Rattle.partitions.proofs.Members.{members_are}
use Rattle.partitions.proofs.parts.Parts.members.Goals as goal

pub returns : goal.returns
returns c =
    let p : Layout = layout c.args.self.now in
    let laid = c.requires.laid in
    let ends : length p.end ≡ count p = laid.ends in
    let first_is : c.index-first.result.now ≡ first_of p c.args.class =
    get_or_read p.first _ _ (omega arith) c.index-first.ensures 0 in
    let end_is : c.index-end.result.now ≡ end_of p c.args.class =
    get_or_read p.end _ _ (omega arith) c.index-end.ensures 0 in
    members_are p laid c.args.class c.index-first.result.now c.index-end.result.now c.deref.result.now _
    c.requires.known first_is end_is c.deref.ensures.value refl
