use Rattle.std.proofs.Common.{◌≡◌, ◌∙◌, ap}
use Rattle.step_literals.specs.Items.{text_items}
use Rattle.step_literals.specs.steps.ItemKeyLemmas.{texts_are_their_items}
use Rattle.step_values.specs.Leaves.{text}
use Rattle.step_values.proofs.Deciding.{same_bool, leaf_decides}
use Rattle.step_values.proofs.literals.same_text.Goals as goal

pub returns : goal.returns
returns c =
    let texts = texts_are_their_items c.args.a.now c.args.b.now in
    let leaves = leaf_decides (text (text_items c.args.a.now)) (text (text_items c.args.b.now)) in
    c.eq.ensures ∙ same_bool _ _ (λ e. leaves.1 (ap text (texts.0 e)))
    (λ e. texts.1 (let same : text (text_items c.args.a.now) ≡ text (text_items c.args.b.now) = leaves.0 e in cc))
