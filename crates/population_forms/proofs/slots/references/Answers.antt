use Rattle.std.proofs.Common.{◌∙◌, ap}
use Rattle.std.proofs.lemmas.List.{take_all}
use Rattle.population_forms.specs.steps.ComputedReferences.{references_from}
use Rattle.population_forms.proofs.Placed.{references-more}
use Rattle.population_forms.proofs.slots.references.Goals as goal

pub loop-i-preserved : goal.loop-i-preserved
loop-i-preserved c =
    references-more c.args.uses.now c.loop-i.i _ c.loop-i.references.items c.push.new.self.items c.loop-i-test.true
    c.loop-i.invariant c.in_ok-push.ensures.items

pub returns : goal.returns
returns c =
    c.loop-i.invariant ∙ ap (references_from 0) (take_all c.loop-i.i c.args.uses.now c.loop-i-test.false)
