use Rattle.std.proofs.Common.{ap, ◌∙◌}
use Rattle.std.proofs.lemmas.Result.{IfOk-weaker}
use Rattle.graphs.specs.Graphs.{graph_of}
use Rattle.schema_names.specs.Schemas.{the_schema}
use Rattle.population_forms.specs.steps.Marked.{is_above}
use Rattle.population_forms.proofs.Rising.{never-fall}
use Rattle.population_forms.proofs.Formed.{internal-is}
use Rattle.population_forms.proofs.Highest.{above-kinds}
use Rattle.population_forms.proofs.forms.internal_form.Goals as goal

pub form-requires-clause-rise : goal.form-requires-clause-rise
form-requires-clause-rise c = never-fall c.in_ok-types.types.items c.in_ok-types.ensures.rise

pub form-requires-clause-some : goal.form-requires-clause-some
form-requires-clause-some c =
    let k = c.args.known.now in
    let rows = graph_of k.above.now in
    λ j. ap (λ row. is_above rows row j) c.from_ref.ensures.value
    ∙ above-kinds (the_schema k.names.now) rows c.requires.known.above c.args.entity c.in_ok-types.types.items
    c.in_ok-types.ensures j

pub returns : goal.returns
returns c =
    IfOk-weaker c.form.result _ _
    (λ f made en g r h. internal-is c.args.known.now c.requires.known en g r c.args.entity h
    c.in_ok-types.types.items c.in_ok-types.ensures c.in_ok-counts.counts.items c.row_at-places.result.now
    c.in_ok-counts.ensures.items c.row_at-places.ensures f made)
    c.form.ensures
