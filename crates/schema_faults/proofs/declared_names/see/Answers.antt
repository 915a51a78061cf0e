use Rattle.std.proofs.Common.{refl}
use Rattle.schema_faults.proofs.Seeing.{seen-new, seen-again, was-there, was-not}
use Rattle.schema_faults.proofs.declared_names.see.Goals as goal

pub returns-then-not-branch : goal.returns-then-not-branch
returns-then-not-branch c xs seen =
    seen-again c.args.seen.now _ c.args.scope c.args.name c.in_ok-insert.ensures.updates xs seen
    (was-there _ _ c.in_ok-insert.ensures.added c.if-not-branch.true) c.or-seen.ensures

pub returns-else-not-branch : goal.returns-else-not-branch
returns-else-not-branch c xs seen =
    seen-new c.args.seen.now _ c.args.scope c.args.name c.in_ok-insert.ensures.updates xs seen
    (was-not _ _ c.in_ok-insert.ensures.added c.if-not-branch.false) refl
