use Rattle.std.proofs.Common.{◌≡◌, ◌∙◌, ap, sym, subst, ℕ, List}
use Rattle.graphs.specs.Graphs.{has}
use Rattle.graphs.proofs.Found.{has-turned}
use Rattle.express_syntax.specs.Profile.{Every}
use Rattle.conformance.specs.ParameterFits.{is_listed}
use Rattle.conformance.specs.Populations.{Instance}
use Rattle.schema_names.specs.Schemas.{the_schema}
use Rattle.schema_underlying_types.specs.BaseViews.{name_at}
use Rattle.typed_populations.specs.Rows.{instance_seen}
use Rattle.typed_populations.specs.PopulationViews.{population_seen}
use Rattle.typed_populations.specs.PopulationTables.{form_among, types_by_form, AreNumbered}
use Rattle.population_inverses.proofs.Held.{numbers-of}
use Rattle.rule_plans.proofs.Placing.{one-instance, is-of-entity}
use Rattle.rule_plans.proofs.values.is_of_entity.Goals as goal

pub returns : goal.returns
returns c x at =
    let p = c.args.population.now in
    let s = the_schema p.types.now.names in
    let i = c.args.entity in
    let r = c.instance-instance.result in
    let h = c.instance-instance.ensures in
    let o = form_among p.rows.forms.items r.form in
    let y = instance_seen s r.name h.section o r.values in
    let numbers = numbers-of s p.rows.forms.items r.form
    (subst (Every (AreNumbered s)) c.forms.ensures.forms c.forms.ensures.numbered) in
    subst (λ (z : Instance). c.contains.result ≡ is_listed (name_at s i) z.types)
    (one-instance (population_seen p) c.args.row y x h.seen at)
    (c.contains.ensures.value ∙ has-turned c.types_at.result.now i
    ∙ ap (λ (l : List ℕ). has l i) (c.types_at.ensures ∙ ap (λ l. types_by_form (form_among l r.form)) c.forms.ensures.forms)
    ∙ sym (is-of-entity s i c.requires.numbered o numbers r.name h.section r.values))
