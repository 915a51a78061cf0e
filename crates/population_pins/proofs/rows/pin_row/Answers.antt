use Rattle.std.proofs.Common.{◌≡◌, ◌∙◌, Some, ap, sym, subst, slice_get, OnOk}
use Rattle.std.proofs.lemmas.Option.{slice_get-get_or}
use Rattle.population_pins.specs.steps.Pinning.{Pins}
use Rattle.population_pins.specs.steps.Rows.{PinnedWith, PinnedAmong}
use Rattle.population_pins.proofs.rows.pin_row.Goals as goal

pub returns : goal.returns
returns c s =
    let forms = c.args.forms.now in
    let rows = c.args.rows.now in
    let n = c.in-Some.number in
    let x = c.in-Some-get.form.now in
    let r = c.in-Some-get-2.rules.now in
    let name = c.args.instance.now.name in
    let vs = c.args.instance.now.values in
    let old = c.args.pinned.now in
    let new = c.pin_instance.new.pinned in
    let form = c.in-Some-get.ensures.lookup in
    let rules = c.in-Some-get-2.ensures.lookup in
    let form-at : slice_get forms n ≡ Some x = slice_get-get_or forms n x form.3.0 ∙ ap Some (sym form.1) in
    let rules-at : slice_get rows n ≡ Some r = slice_get-get_or rows n r rules.3.0 ∙ ap Some (sym rules.1) in
    subst (λ o. OnOk c.pin_instance.result (Pins (PinnedAmong s c.args.in_sets forms rows o name vs) old new)) (sym c.in-Some.is)
    (subst (λ o. OnOk c.pin_instance.result (Pins (PinnedWith s c.args.in_sets o (slice_get rows n) name vs) old new)) (sym form-at)
    (subst (λ o. OnOk c.pin_instance.result (Pins (PinnedWith s c.args.in_sets (Some x) o name vs) old new)) (sym rules-at)
    (c.pin_instance.ensures s)))
