use Rattle.step_headings.proofs.Headed.{by_structures}
use Rattle.step_headings.proofs.headings.same_headings.Goals as goal

pub returns : goal.returns
returns c =
    by_structures c.deref.result.now c.deref-2.result.now c.args.exchange.now c.args.other.now c.are_alike.result
    c.deref.ensures.value c.deref-2.ensures.value c.are_alike.ensures
