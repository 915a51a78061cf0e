use Rattle.std.proofs.Common.{◌≡◌, ◌≤◌, ◌<◌, ◌∙◌, ◌++◌, ◌+◌, [], ◌∷◌, None, refl, sym, ap, length, map, take, get_or, arith}
use Rattle.std.proofs.lemmas.List.{take_all}
use Rattle.value_equality.specs.TableViews.{table_of}
use Rattle.merge_output.specs.steps.Rewriting.{members, first_of_class}
use Rattle.merge_output.proofs.FirstHeads.{AreFirsts, head_next, named_length}
use Rattle.merge_output.proofs.first_members.heads_of.Goals as goal

pub head-name-requires : goal.head-name-requires
head-name-requires c = record { each = c.loop-i.invariant.0.0 }

pub loop-i-preserved : goal.loop-i-preserved
loop-i-preserved c =
    head_next c.args.table.now c.loop-i.i c.index.result.now c.requires.distinct (omega (arith, c.loop-i-test.true, c.len-i-end.ensures)) c.index.ensures
    c.loop-i.firsts.items c.head-name.new.firsts.items c.head-name.result c.loop-i.invariant.0 c.head-name.ensures
    c.loop-i.heads.items c.push.new.self.items c.loop-i.invariant.1 c.in_ok-push.ensures.items

pub returns : goal.returns
returns c =
    let t = table_of c.args.table.now in
    let over : length (members t) ≤ c.loop-i.i =
    omega (arith, c.loop-i-test.false, c.len-i-end.ensures, named_length c.args.table.now.members.items) in
    c.loop-i.invariant.1 ∙ ap (map (first_of_class t)) (take_all c.loop-i.i (members t) over)
