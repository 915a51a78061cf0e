use Rattle.std.proofs.Common.{◌∙◌, sym, ap}
use Rattle.step_literals.specs.Strings.{clean}
use Rattle.step_literals.specs.steps.Rests.{left_items}
use Rattle.step_literals.proofs.ItemLemmas.{run_begins}
use Rattle.step_literals.proofs.literal.rest.Rest.run.Goals as goal

pub returns : goal.returns
returns c =
    let bs = clean c.args.self.bytes.now in
    let first = sym (run_begins c.args.self.page bs c.requires) ∙ ap (λ i. left_items i c.args.self.page bs)
    (sym c.inside_run-inside.ensures) in
    record { same = first ∙ c.in_ok-item.ensures.same; shorter = c.in_ok-item.ensures.shorter }
