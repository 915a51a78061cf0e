use Rattle.std.proofs.lemmas.Bool.{OnTrue_at}
use Rattle.row_signatures.proofs.Recent.{recent_by}
use Rattle.row_signatures.proofs.kinds.remembered.Goals as goal

pub returns : goal.returns
returns c first r are at =
    recent_by c.args.input.now first c.in_ok-first.first r (c.in_ok-first.ensures c.args.input.now first are)
    (λ s there. OnTrue_at c.if-not-share_kind.false c.share_kind.ensures s r there at)
