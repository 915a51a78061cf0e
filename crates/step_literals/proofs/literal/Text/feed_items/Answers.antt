use Rattle.std.proofs.Common.{◌∙◌, ap, arith, fold}
use Rattle.std.proofs.lemmas.Bool.Decides.{nat_tests}
use Rattle.step_literals.specs.Items.{string_items}
use Rattle.step_literals.specs.ItemKeys.{content_writes}
use Rattle.step_literals.proofs.PlainBytes.{none_left}
use Rattle.step_literals.proofs.literal.Text.feed_items.Goals as goal

pub returns-then-not-is_empty : goal.returns-then-not-is_empty
unfolding string_items
returns-then-not-is_empty g c = c.feed_content.ensures ∙ c.feed_plain-left.ensures
    ∙ ap (λ l. fold g.H.Hasher.write c.args.state.now (content_writes l)) c.content_of.ensures

pub returns-else-not-is_empty : goal.returns-else-not-is_empty
unfolding string_items
returns-else-not-is_empty g c =
    none_left g.H.Hasher.write _ _ c.feed_plain-left.result.now (grind (arith, nat_tests)) c.feed_plain-left.ensures
    ∙ ap (λ l. fold g.H.Hasher.write c.args.state.now (content_writes l)) c.content_of.ensures
