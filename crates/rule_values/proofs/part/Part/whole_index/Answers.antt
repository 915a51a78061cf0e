use Rattle.std.proofs.Common.{◌∙◌, ◌<◌, length, ap, sym, subst}
use Rattle.std.specs.Global.{Vec}
use Rattle.std.specs.Prelude.{ℕ, slice_index}
use Rattle.express_logic.specs.Holdings.{element_at, size_of}
use Rattle.rule_values.specs.declared.part.Kept.{Kept}
use Rattle.rule_values.specs.Parts.{or_indeterminate, content_elements, content_in, elements_in, whole_elements, holding}
use Rattle.rule_values.proofs.Elements.{size-picked, picked-place}
use Rattle.rule_values.proofs.part.Part.whole_index.Goals as goal

pub place_at-requires : goal.place_at-requires
unfolding holding whole_elements
place_at-requires c =
    let x = c.in-Kept.kept.value in
    let same = c.deref-in-Kept-2.ensures.value ∙ ap (λ (w : Vec ℕ). w.items) c.deref-in-Kept.ensures
    ∙ ap (λ (y : Kept). y.indices.value.items) c.deref.ensures in
    subst (λ n. c.args.index < n)
    (ap (λ o. size_of (elements_in o)) c.in-Kept.is ∙ size-picked x.indices.value.items (content_elements x.content)
    ∙ ap length (sym same)) c.requires

pub returns-in-Kept : goal.returns-in-Kept
unfolding holding whole_elements
returns-in-Kept c =
    let x = c.in-Kept.kept.value in
    let all = content_elements x.content in
    let same = c.deref-in-Kept-2.ensures.value ∙ ap (λ (w : Vec ℕ). w.items) c.deref-in-Kept.ensures
    ∙ ap (λ (y : Kept). y.indices.value.items) c.deref.ensures in
    let below = subst (λ n. c.args.index < n)
    (ap (λ o. size_of (elements_in o)) c.in-Kept.is ∙ size-picked x.indices.value.items all) c.requires in
    ap (λ o. or_indeterminate (element_at c.place_at.result (content_elements (content_in o)))) c.in-Kept.is
    ∙ ap (λ k. or_indeterminate (element_at k all)) (c.place_at.ensures
    ∙ ap (λ xs. slice_index xs c.args.index) same)
    ∙ sym (ap or_indeterminate (picked-place x.indices.value.items c.args.index all below))
    ∙ sym (ap (λ o. or_indeterminate (element_at c.args.index (elements_in o))) c.in-Kept.is)
