use Rattle.std.proofs.Common.{◌∙◌, ap}
use Rattle.std.specs.Global.{Vec}
use Rattle.std.specs.Prelude.{ℕ}
use Rattle.std.specs.Vec.{vec_len}
use Rattle.express_logic.specs.Holdings.{size_of}
use Rattle.rule_values.specs.declared.part.Kept.{Kept}
use Rattle.rule_values.specs.Parts.{content_elements, elements_in, holding}
use Rattle.rule_values.proofs.Elements.{size-picked}
use Rattle.rule_values.proofs.part.PartHeld.len.Goals as goal

pub returns-in-Kept : goal.returns-in-Kept
unfolding holding
returns-in-Kept c =
    let x = c.in-Kept.kept.value in
    let k = x.indices.value.ok in
    let p = size-picked x.indices.value.items (content_elements x.content) in
    let q = ap (λ o. size_of (elements_in o)) c.in-Kept.is in
    let r = c.len-in-Kept.ensures ∙ ap (λ (w : Vec ℕ). vec_len w) c.deref-in-Kept.ensures
    ∙ ap (λ (y : Kept). vec_len y.indices.value) c.deref.ensures in
    cc
