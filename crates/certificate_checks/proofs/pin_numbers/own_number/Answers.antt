use Rattle.std.proofs.Common.{◌∙◌, sym}
use Rattle.value_equality.specs.Maps.{is_pinned}
use Rattle.certificate_checks.proofs.Owning.{free_number, pinned_number}
use Rattle.certificate_checks.proofs.pin_numbers.own_number.Goals as goal

pub returns-then-contains : goal.returns-then-contains
returns-then-contains c =
    pinned_number c.args.input.now (is_pinned c.args.pinned.now) c.args.place c.name-name.result c.name-name.ensures
    (sym c.contains.ensures ∙ c.if-contains.true)

pub returns : goal.returns
returns c =
    free_number c.args.input.now (is_pinned c.args.pinned.now) c.args.place c.name-name.result c.name-name.ensures
    (sym c.contains.ensures ∙ c.if-contains.false)
