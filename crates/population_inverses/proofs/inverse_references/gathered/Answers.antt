use Rattle.std.specs.Prelude.{false, is_some}
use Rattle.std.proofs.Common.{◌≡◌, ◌∙◌, ◌∷◌, [], ◌++◌, map, flat_map, take, ap, sym}
use Rattle.std.specs.List.{repeat, list_any}
use Rattle.conformance.specs.Referrers.{holds, times_at, held}
use Rattle.graphs.specs.Referrers.{referrers_of}
use Rattle.schema_names.specs.Schemas.{the_schema}
use Rattle.schema_constraints.specs.RuleViews.{gathering_seen, inverse_seen}
use Rattle.typed_populations.specs.ValueOrder.{picked_at}
use Rattle.typed_populations.specs.Rows.{instance_seen}
use Rattle.typed_populations.specs.PopulationViews.{population_seen}
use Rattle.typed_populations.specs.PopulationTables.{form_among}
use Rattle.typed_populations.proofs.Found.{kept}
use Rattle.population_inverses.specs.InverseReferences.{position_at, position_by}
use Rattle.population_inverses.proofs.Held.{position_in, position-is, numbers-of, held-in, none-gathered, flat-next}
use Rattle.population_inverses.proofs.inverse_references.gathered.Goals as goal

pub returns-then-not-is_somewhere : goal.returns-then-not-is_somewhere
returns-then-not-is_somewhere c y =
    let p = c.args.population.now in
    let s = the_schema p.types.now.names in
    let i = c.args.inverse.now in
    let forms = p.rows.forms.items in
    let nowhere : list_any is_some (map (position_by i) forms) ≡ false =
    ap (list_any is_some) (sym (c.deref.ensures.value ∙ c.in_ok-positions.ensures
    ∙ ap (map (position_by i)) c.forms.ensures.forms))
    ∙ sym c.is_somewhere.ensures ∙ c.if-not-is_somewhere.true in
    ap (referrers_of y) c.new-references.ensures.items
    ∙ sym (none-gathered s i c.requires.numbered (kept p).one y forms nowhere (kept p).numbered p.exchange.now.names _
    p.rows.form_of.items p.values.rows (kept p).placed)

pub loop-row-preserved : goal.loop-row-preserved
loop-row-preserved c y =
    let p = c.args.population.now in
    let s = the_schema p.types.now.names in
    let i = c.args.inverse.now in
    let forms = p.rows.forms.items in
    let x = c.instance-instance.result in
    let o = form_among forms x.form in
    let at : c.position_at-position.result ≡ position_in i o =
    c.position_at-position.ensures
    ∙ ap (λ ps. position_at ps x.form)
    (c.deref-in-loop-row.ensures.value ∙ c.in_ok-positions.ensures ∙ ap (map (position_by i)) c.forms.ensures.forms)
    ∙ position-is i forms x.form in
    let one = held-in s i c.requires.numbered (kept p).one y x.name c.instance-instance.ensures.section x.values o
    c.instance-instance.ensures.placed (numbers-of s forms x.form (kept p).numbered) in
    c.in_ok-add_value_at.ensures y
    ∙ ap (λ l. l ++ repeat (holds (gathering_seen i.gathering) (times_at y (picked_at x.values c.position_at-position.result)))
    (x.name ∷ [])) (c.loop-row.invariant y)
    ∙ ap (λ l. flat_map (held (inverse_seen s i) y) (take c.loop-row.row (population_seen p)) ++ l)
    (ap (λ q. repeat (holds (gathering_seen i.gathering) (times_at y (picked_at x.values q))) (x.name ∷ [])) at ∙ sym one)
    ∙ sym (flat-next (held (inverse_seen s i) y) (population_seen p) c.loop-row.row
    (instance_seen s x.name c.instance-instance.ensures.section o x.values) c.instance-instance.ensures.seen)
