use Rattle.rule_evaluation.proofs.values.keep_all.Goals as goal

pub loop-init : goal.loop-init
loop-init c = λ m right. right

pub loop-preserved : goal.loop-preserved
loop-preserved c = λ m right. c.in_ok-keep_wanted.ensures m (c.loop.invariant m right)
