use Rattle.std.proofs.Common.{◌≡◌, ◌∙◌, sym, ap, [], ◌∷◌}
use Rattle.std.proofs.lemmas.List.{map_more, take_all}
use Rattle.std.specs.Char.{to_ascii_uppercase}
use Rattle.step_literals.specs.Words.{upper}
use Rattle.devices.proofs.Printing.{prints_as, then_print}
use Rattle.reports.proofs.labels.print_capitals.Goals as goal

pub loop-byte-preserved : goal.loop-byte-preserved
loop-byte-preserved g c =
    let bytes = c.spelling-byte-items.result.now in
    let raised = prints_as (ap (λ x. x ∷ []) c.to_ascii_uppercase.ensures.value) c.print_byte.ensures in
    prints_as (sym (map_more to_ascii_uppercase bytes c.loop-byte.byte-index 0 c.loop-byte-test.true))
    (then_print c.loop-byte.invariant raised)

pub returns : goal.returns
returns g c =
    let bytes = c.spelling-byte-items.result.now in
    let spelled : bytes ≡ c.args.name.text.now = λ i. (c.spelling-byte-items.ensures i).now in
    prints_as (ap upper (take_all c.loop-byte.byte-index bytes c.loop-byte-test.false ∙ spelled)) c.loop-byte.invariant
