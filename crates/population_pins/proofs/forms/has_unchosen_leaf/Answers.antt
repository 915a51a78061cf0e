use Rattle.std.proofs.Common.{◌∙◌, ◌&&◌, not, ap, ℕ, Bool}
use Rattle.std.specs.List.{list_any}
use Rattle.graphs.specs.Graphs.{graph_of}
use Rattle.merge_choices.specs.ChosenEntities.{is_chosen}
use Rattle.population_pins.proofs.forms.has_unchosen_leaf.Goals as goal

pub clear-requires : goal.clear-requires
clear-requires c = (graph_of c.args.above.now, c.in_ok-mark_above.ensures.marked)

pub returns-clause-leaf : goal.returns-clause-leaf
returns-clause-leaf c =
    c.has_unchosen-is_found.ensures
    ∙ ap (λ (marked : ℕ → Bool). list_any (λ i. not (is_chosen c.args.chosen.now i) && not (marked i)) c.args.types.now)
    (λ i x. c.in_ok-mark_above.ensures.told x i)

pub returns-clause-clear : goal.returns-clause-clear
returns-clause-clear c = c.clear.ensures (graph_of c.args.above.now) c.in_ok-mark_above.ensures.marked
