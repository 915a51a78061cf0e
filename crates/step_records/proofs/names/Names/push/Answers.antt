use Rattle.std.proofs.Common.{rules}
use Rattle.step_records.proofs.Naming.{kept_push}
use Rattle.step_records.proofs.names.Names.push.Goals as goal

pub invariant_of-self-2 : goal.invariant_of-self-2
invariant_of-self-2 c = rw c.in_ok-push.ensures.items (kept_push c.self.inside.list.items c.self.inside.greatest
    c.self.inside.set.keys c.self.inside.looked_up c.max-self-inside.result c.args.name c.self.invariant (search rules)
    (search rules))
