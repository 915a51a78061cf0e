use Rattle.std.proofs.Common.{◌≡◌, length, subst}
use Rattle.std.specs.Bool.{OnTrue}
use Rattle.std.specs.List.{range_with_len}
use Rattle.typed_populations.proofs.Moved.{once}
use Rattle.typed_populations.proofs.value_order.stand_once.Goals as goal

pub returns : goal.returns
returns c =
    once c.rise_from_0.result c.args.numbers.now c.in_ok-sorted.sorted.items c.sort_unstable.new.self.items
    (c.in_ok-sorted.ensures.items_if_clones_equal (λ a b h. h)) c.sort_unstable.ensures.permutation
    (subst (λ l. OnTrue c.rise_from_0.result (l ≡ range_with_len 0 (length l))) c.deref.ensures.value
    c.rise_from_0.ensures)
