use Rattle.std.proofs.Common.{subst}
use Rattle.std.proofs.lemmas.Result.{IfOk-weaker}
use Rattle.partitions.specs.Views.{layout}
use Rattle.partition_edges.specs.steps.Starts.{IsStarted}
use Rattle.value_equality.specs.Maps.{is_pinned}
use Rattle.merge_classes.proofs.Finding.{started_by_kinds}
use Rattle.merge_classes.proofs.numbered_classes.by_kinds.Goals as goal

pub returns : goal.returns
returns c =
    IfOk-weaker c.start.result _ _ (λ p h.
    started_by_kinds c.args.input.now (is_pinned c.args.pinned.now) c.in_ok-kinds.kinds.items (layout p)
    c.in_ok-kinds.ensures.length c.in_ok-kinds.ensures.kinds
    (subst (λ ks. IsStarted ks (layout p)) c.deref.ensures.value h)) c.start.ensures
