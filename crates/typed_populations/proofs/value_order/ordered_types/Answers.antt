use Rattle.std.proofs.Common.{map, subst}
use Rattle.step_values.specs.Views.{word_of}
use Rattle.value_equality.specs.SortedTypes.{AreInOrder}
use Rattle.value_equality.proofs.Settling.{sorted_words}
use Rattle.typed_populations.proofs.value_order.ordered_types.Goals as goal

pub returns : goal.returns
returns c =
    subst (λ l. AreInOrder l (map word_of c.dedup.new.self.items)) c.in_ok-words.ensures
    (sorted_words c.in_ok-words.words.items c.sort.new.self.items c.dedup.new.self.items
    c.in_ok-sort.ensures.permutation c.in_ok-sort.ensures.sorted c.dedup.ensures.filtered)
