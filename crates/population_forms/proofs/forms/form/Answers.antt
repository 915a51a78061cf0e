use Rattle.std.proofs.Common.{rules}
use Rattle.graphs.specs.Graphs.{graph_of}
use Rattle.population_forms.specs.steps.Marked.{is_above}
use Rattle.population_forms.proofs.Rising.{sorted-alike, never-fall}
use Rattle.population_forms.proofs.forms.form.Goals as goal

pub returns : goal.returns
returns c =
    let rows = graph_of c.args.known.now.above.now in
    let types = c.requires.rise in
    let above = sorted-alike (is_above rows c.args.some.now) (is_above rows c.args.types.items)
    c.in_ok-supertypes.supertypes.items c.requires.some c.in_ok-supertypes.ensures in
    let supertypes = never-fall c.in_ok-supertypes.supertypes.items above.rise in
    search (rules, above, types, supertypes)
