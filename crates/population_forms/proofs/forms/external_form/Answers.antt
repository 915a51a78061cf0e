use Rattle.std.proofs.Common.{◌∙◌}
use Rattle.std.proofs.lemmas.Result.{IfOk-weaker}
use Rattle.graphs.specs.Graphs.{graph_of}
use Rattle.population_forms.proofs.Rising.{never-fall}
use Rattle.population_forms.proofs.Formed.{external-is}
use Rattle.population_forms.proofs.Highest.{above-listed}
use Rattle.population_forms.proofs.forms.external_form.Goals as goal

pub form-requires-clause-rise : goal.form-requires-clause-rise
form-requires-clause-rise c = never-fall c.in_ok-types.types.items c.in_ok-types.ensures.rise

pub form-requires-clause-some : goal.form-requires-clause-some
form-requires-clause-some c =
    above-listed (graph_of c.args.known.now.above.now) c.args.entities.now c.in_ok-types.types.items
    c.in_ok-types.ensures

pub returns : goal.returns
returns c =
    IfOk-weaker c.form.result _ _
    (λ f made en g rs h. external-is c.args.known.now c.requires.known en g rs c.args.entities.now h
    c.in_ok-types.types.items c.in_ok-types.ensures c.in_ok-counts.counts.items c.deref.result.now
    c.in_ok-counts.ensures (c.deref.ensures.value ∙ c.in_ok-places.ensures) f made)
    c.form.ensures
