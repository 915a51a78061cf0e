use Rattle.std.proofs.Common.{◌∙◌, ap, sym, length}
use Rattle.std.specs.Global.{Vec}
use Rattle.std.specs.Prelude.{ℕ}
use Rattle.express_logic.specs.Holdings.{element_at}
use Rattle.rule_values.specs.Parts.{or_indeterminate, picked, content_elements, element_datum}
use Rattle.rule_values.proofs.Elements.{place-found, place-missing, is-below, not-below}
use Rattle.rule_values.proofs.part.Kept.element.Goals as goal

pub returns-in-Some : goal.returns-in-Some
returns-in-Some c =
    let all = content_elements c.args.self.now.content in
    let h = c.in-Some.ensures.lookup in
    let same = c.deref-2.ensures.value ∙ ap (λ (w : Vec ℕ). w.items) c.deref.ensures in
    c.element.ensures
    ∙ sym (ap or_indeterminate
    (ap (λ xs. element_at c.args.index (picked xs all)) (sym same)
    ∙ place-found c.deref-2.result.now c.args.index c.in-Some.place.now all
    (is-below c.args.index (length c.deref-2.result.now) h.0) h.1))

pub returns-in-None : goal.returns-in-None
unfolding element_datum
returns-in-None c =
    let all = content_elements c.args.self.now.content in
    let h = c.in-None.ensures.lookup in
    let same = c.deref-2.ensures.value ∙ ap (λ (w : Vec ℕ). w.items) c.deref.ensures in
    sym (ap or_indeterminate
    (ap (λ xs. element_at c.args.index (picked xs all)) (sym same)
    ∙ place-missing c.deref-2.result.now c.args.index all
    (not-below c.args.index (length c.deref-2.result.now) h.0)))
