use Rattle.std.proofs.Common.{◌<◌, length, map, arith}
use Rattle.std.proofs.lemmas.List.{length-map}
use Rattle.std.proofs.lemmas.Result.{IfOk-weaker}
use Rattle.schema_names.specs.Schemas.{the_schema}
use Rattle.rule_plans.proofs.Renaming.{is-forest, tells-types}
use Rattle.rule_plans.proofs.renamings.forest_of.Goals as goal

pub of-requires-clause-forest : goal.of-requires-clause-forest
of-requires-clause-forest c =
    is-forest (the_schema c.args.names.now) (map (λ v. v.items) c.args.edges.now) c.requires.edges c.requires.resolved

pub of-requires-clause-few : goal.of-requires-clause-few
of-requires-clause-few c =
    let few = c.args.names.now.few in
    let many = c.requires.edges.many in
    let long = length-map c.args.edges.now (λ v. v.items) in
    omega (arith, few, many, long)

pub returns : goal.returns
returns c =
    IfOk-weaker c.of.result _ _
    (λ f h. tells-types (the_schema c.args.names.now) (map (λ v. v.items) c.args.edges.now) c.requires.edges f h)
    c.of.ensures
