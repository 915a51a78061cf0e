use Rattle.std.proofs.Common.{◌∙◌, ◌∷◌, [], ◌++◌, ap}
use Rattle.std.specs.List.{repeat}
use Rattle.conformance.specs.Referrers.{holds}
use Rattle.graphs.specs.Referrers.{referrers_of}
use Rattle.schema_constraints.specs.RuleViews.{gathering_seen}
use Rattle.typed_populations.proofs.Turns.{on-ok}
use Rattle.population_inverses.specs.steps.Targets.{often, targets}
use Rattle.population_inverses.proofs.Held.{often-targets, referrers-added}
use Rattle.population_inverses.proofs.inverse_references.add_value.Goals as goal

pub returns : goal.returns
returns c =
    let g = gathering_seen c.args.gathering in
    let v = c.args.value.now in
    let n = c.args.referrer in
    on-ok c.add_references.result
    (λ is y. referrers-added y n c.args.references.now.items c.add_references.new.references.items c.deref.result.now is
    ∙ ap (λ m. referrers_of y c.args.references.now.items ++ repeat m (n ∷ []))
    (ap (often y) c.deref.ensures.value ∙ c.hold.ensures y
    ∙ ap (λ ts. holds g (often y ts))
    (c.in_ok-add_targets.ensures ∙ ap (λ l. l ++ targets v) c.clear.ensures.items)
    ∙ ap (holds g) (often-targets y v)))
    c.add_references.ensures
