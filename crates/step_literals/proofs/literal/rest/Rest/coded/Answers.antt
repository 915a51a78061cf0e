use Rattle.step_literals.specs.Strings.{clean}
use Rattle.step_literals.proofs.ItemLemmas.{shows_single, code_says}
use Rattle.step_literals.proofs.literal.rest.Rest.coded.Goals as goal

pub returns : goal.returns
returns c =
    let bs = clean c.args.bytes.now in
    let done = c.in_ok-after.ensures in
    shows_single done c.new.ensures.bytes c.new.ensures.left (code_says bs done.piece c.number_at-code.result.0
    c.args.page done.stands c.number_at-code.ensures.value)
