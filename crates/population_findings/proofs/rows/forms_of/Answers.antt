use Rattle.std.proofs.Common.{sym, subst, take, ◌+◌}
use Rattle.step_exchange.specs.Views.{form_of}
use Rattle.schema_names.specs.Schemas.{the_schema}
use Rattle.population_findings.specs.steps.Making.{MakeForms, MakesForm}
use Rattle.population_findings.proofs.Makings.{forms-next}
use Rattle.population_findings.proofs.rows.forms_of.Goals as goal

pub loop-i-preserved : goal.loop-i-preserved
loop-i-preserved c =
    let s = the_schema c.args.known.now.names.now in
    let xs = c.args.instances.now in
    let one = subst (λ l. MakesForm s (form_of l) c.loop-i.made c.form.new.self c.in_ok-form.field-0) c.parts.ensures
    c.in_ok-form.ensures in
    subst (λ ns. MakeForms s (take (c.loop-i.i + 1) xs) c.form.new.self ns) (sym c.in_ok-push.ensures.items)
    (forms-next s xs c.loop-i.i c.at.result c.loop-i.made c.form.new.self c.loop-i.form_of.items
    c.in_ok-form.field-0 c.at.ensures c.loop-i.invariant one)
