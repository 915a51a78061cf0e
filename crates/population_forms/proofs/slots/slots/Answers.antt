use Rattle.std.proofs.Common.{◌∙◌, ap, sym}
use Rattle.graphs.specs.Referrers.{referrers_of}
use Rattle.population_forms.specs.steps.ComputedReferences.{references_from}
use Rattle.population_forms.proofs.slots.slots.Goals as goal

pub slots_in_turn-requires-clause-by_place : goal.slots_in_turn-requires-clause-by_place
slots_in_turn-requires-clause-by_place c q =
    c.in_ok-by_place.ensures q
    ∙ ap (referrers_of q)
    (c.in_ok-references.ensures ∙ ap (references_from 0) (c.deref.ensures.value ∙ sym c.deref-2.ensures.value))
