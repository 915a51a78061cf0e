use Rattle.split_checks.proofs.Rows.{added_to}
use Rattle.split_checks.proofs.members.add.Goals as goal

pub returns : goal.returns
returns c =
    added_to c.args.lists.now.items c.args.class c.args.place c.index_mut.result.now c.push.new.self c.requires
    c.index_mut.ensures.value c.in_ok-push.ensures.items
