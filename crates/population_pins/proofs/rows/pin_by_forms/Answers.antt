use Rattle.std.proofs.Common.{map, sym, subst, arith}
use Rattle.std.specs.Prelude.{◌↔◌}
use Rattle.graphs.specs.Graphs.{graph_of}
use Rattle.express_syntax.specs.Profile.{Every}
use Rattle.schema_names.specs.Schemas.{the_schema}
use Rattle.schema_explicit_attributes.specs.Supertypes.{AreAbove}
use Rattle.std.specs.List.{AllZip}
use Rattle.schema_constraints.specs.RuleViews.{unique_seen, IsNumberedUnique}
use Rattle.typed_populations.specs.Rows.{instance_seen}
use Rattle.typed_populations.specs.PopulationViews.{population_seen}
use Rattle.typed_populations.specs.PopulationTables.{form_among}
use Rattle.typed_populations.proofs.Found.{kept}
use Rattle.population_pins.specs.steps.Pinning.{Pins}
use Rattle.population_pins.proofs.Listing.{next, ends}
use Rattle.population_pins.proofs.Pinning.{pins-alike}
use Rattle.population_pins.specs.steps.Forms.{IsFormRules}
use Rattle.population_pins.specs.steps.Rows.{PinsByForm, PinnedAmong}
use Rattle.population_pins.specs.declared.forms.Sources.{Sources}
use Rattle.population_pins.proofs.ClosedRows.{rows-transitive}
use Rattle.population_pins.proofs.Ruled.{row-is}
use Rattle.population_pins.proofs.rows.pin_by_forms.Goals as goal

pub loop-row-preserved : goal.loop-row-preserved
loop-row-preserved c en those are chosen =
    let p = c.args.population.now in
    let s = the_schema p.types.now.names in
    let x = c.instance-instance.result in
    let o = form_among p.rows.forms.items x.form in
    let uniques = map (unique_seen s) c.args.rules.now.uniques.items in
    let seen = instance_seen s x.name c.instance-instance.ensures.section o x.values in
    let mid = c.loop-row.pinned in
    let new = c.pin_row.new.pinned in
    let in_sets = c.args.chosen.now.in_sets in
    let forms = p.rows.forms.items in
    let rows = c.in_ok-rows.rows.items in
    let src : Sources = record { above = c.deref.result; chosen = c.args.chosen; uniques = c.deref-2.result } in
    let zip : AllZip (IsFormRules src) forms rows =
    subst (λ fs. AllZip (IsFormRules src) fs rows) c.forms.ensures.forms c.in_ok-rows.ensures in
    let above : AreAbove s (graph_of c.deref.result.now) =
    subst (λ l. AreAbove s (graph_of l)) (sym c.deref.ensures.value) c.requires.made.above in
    let each : Every (IsNumberedUnique s) c.deref-2.result.now =
    subst (Every (IsNumberedUnique s)) (sym c.deref-2.ensures.value) c.requires.numbered.uniques in
    let one : Pins (PinnedAmong s in_sets forms rows x.form x.name x.values) mid new =
    subst (λ rs. Pins (PinnedAmong s in_sets forms rs x.form x.name x.values) mid new) c.deref-in-loop-row.ensures.value
    (subst (λ fs. Pins (PinnedAmong s in_sets fs c.deref-in-loop-row.result.now x.form x.name x.values) mid new)
    c.forms-in-loop-row.ensures.forms (c.in_ok-pin_row.ensures s)) in
    let alike : Pins (PinnedAmong s those.in_sets forms rows x.form x.name x.values) mid new =
    subst (λ b. Pins (PinnedAmong s b forms rows x.form x.name x.values) mid new) chosen.1 one in
    next (PinsByForm s en those uniques) (population_seen p) c.loop-row.row c.args.pinned.now seen mid new
    c.instance-instance.ensures.seen (c.loop-row.invariant en those are chosen)
    (pins-alike (PinnedAmong s those.in_sets forms rows x.form x.name x.values)
    (λ y. PinsByForm s en those uniques y seen) mid new
    (λ y. subst (λ us. PinnedAmong s those.in_sets forms rows x.form x.name x.values y
    ↔ PinsByForm s en those (map (unique_seen s) us) y seen) c.deref-2.ensures.value
    (row-is s c.requires.made.resolved src above each (kept p).one en are those chosen y x.name
    c.instance-instance.ensures.section x.values forms rows zip (kept p).numbered x.form
    c.instance-instance.ensures.placed c.instance-instance.ensures.entities)) alike)

pub returns : goal.returns
returns c en those are chosen =
    let p = c.args.population.now in
    let s = the_schema p.types.now.names in
    let past = c.loop-row-test.false in
    let end = c.len-row-end.ensures in
    ends (PinsByForm s en those (map (unique_seen s) c.args.rules.now.uniques.items)) (population_seen p) c.loop-row.row
    c.args.pinned.now c.loop-row.pinned (omega (arith, past, end)) (c.loop-row.invariant en those are chosen)

pub rules_by_form-requires : goal.rules_by_form-requires
rules_by_form-requires c =
    let s = the_schema c.args.population.now.types.now.names in
    rows-transitive s (graph_of c.deref.result.now)
    (subst (λ l. AreAbove s (graph_of l)) (sym c.deref.ensures.value) c.requires.made.above)
