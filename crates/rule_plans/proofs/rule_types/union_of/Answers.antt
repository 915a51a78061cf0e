use Rattle.std.proofs.Common.{◌≡◌, ◌<◌, ◌∙◌, length, map, ap, sym, subst, arith, List, Bool}
use Rattle.std.proofs.lemmas.List.{length-map}
use Rattle.std.proofs.lemmas.Result.{IfOk-weaker}
use Rattle.schema_names.specs.Schemas.{the_schema}
use Rattle.rule_plans.specs.steps.Wanted.{AreStated}
use Rattle.rule_plans.proofs.Renaming.{is-forest}
use Rattle.rule_plans.proofs.Wanting.{union-is}
use Rattle.rule_plans.proofs.rule_types.union_of.Goals as goal

pub spread-requires-clause-forest : goal.spread-requires-clause-forest
spread-requires-clause-forest c =
    is-forest (the_schema c.args.names.now) (map (λ v. v.items) c.args.edges.now) c.requires.edges c.requires.resolved

pub spread-requires-clause-few : goal.spread-requires-clause-few
spread-requires-clause-few c =
    let few = c.args.names.now.few in
    let many = c.requires.edges.many in
    let long = length-map c.args.edges.now (λ v. v.items) in
    omega (arith, few, many, long)

pub spread-requires-clause-marked : goal.spread-requires-clause-marked
spread-requires-clause-marked c =
    let many = c.requires.edges.many in
    let long = length-map c.args.edges.now (λ v. v.items) in
    let same = c.in_ok-stated.ensures.length in
    let lent = ap length c.deref.ensures.value in
    omega (arith, many, long, same, lent)

pub returns : goal.returns
returns c =
    let s = the_schema c.args.names.now in
    IfOk-weaker c.spread.result _ _
    (λ v h. union-is s (map (λ x. x.items) c.args.edges.now) c.args.rules.now c.deref.result.now v.items c.requires.edges
    c.requires.numbered
    (subst (AreStated c.args.rules.now) (sym c.deref.ensures.value) c.in_ok-stated.ensures.stated) h) c.spread.ensures
