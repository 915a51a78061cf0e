use Rattle.std.proofs.Common.{rules, ◌≡◌, ◌<◌, ◌+◌, ◌∙◌, Some, ap, sym, cond, map, drop, length, arith}
use Rattle.std.specs.Vec.{vec_len}
use Rattle.express_syntax.specs.ExpressionViews.{capitals}
use Rattle.schema_semantics.specs.Attributes.{Place}
use Rattle.schema_names.specs.Schemas.{the_schema}
use Rattle.schema_constraints.specs.RuleViews.{inverse_seen}
use Rattle.typed_populations.proofs.Turns.{got}
use Rattle.population_inverses.specs.steps.Places.{number_from}
use Rattle.population_inverses.proofs.Placing.{number-next, number-past}
use Rattle.population_inverses.proofs.extents.Extents.number_of.Goals as goal

pub loop-number-preserved : goal.loop-number-preserved
loop-number-preserved c =
    let x = c.args.self.now in
    let s = the_schema x.population.now.types.now.names in
    let all = x.rules.now.inverses.items in
    let p : Place = (capitals c.args.entity, capitals c.args.attribute) in
    let n = c.loop-number.number in
    let long : length all ≡ vec_len x.rules.now.inverses = search rules in
    let end = c.len-number-end.ensures in
    let more = c.loop-number-test.true in
    let lt : n < length all = omega (arith, long, end, more) in
    let (i, at) = got all n lt in
    let rest = number_from (n + 1) (map (inverse_seen s) (drop (n + 1) all)) p in
    sym (number-next s p all n i at
    ∙ ap (λ b. cond b (Some n) rest) (sym (c.is_named.ensures i at) ∙ c.if-is_named.false)) ∙ c.loop-number.invariant

pub returns-then-is_named : goal.returns-then-is_named
returns-then-is_named c =
    let x = c.args.self.now in
    let s = the_schema x.population.now.types.now.names in
    let all = x.rules.now.inverses.items in
    let p : Place = (capitals c.args.entity, capitals c.args.attribute) in
    let n = c.loop-number.number in
    let long : length all ≡ vec_len x.rules.now.inverses = search rules in
    let end = c.len-number-end.ensures in
    let more = c.loop-number-test.true in
    let lt : n < length all = omega (arith, long, end, more) in
    let (i, at) = got all n lt in
    let rest = number_from (n + 1) (map (inverse_seen s) (drop (n + 1) all)) p in
    sym (number-next s p all n i at
    ∙ ap (λ b. cond b (Some n) rest) (sym (c.is_named.ensures i at) ∙ c.if-is_named.true)) ∙ c.loop-number.invariant

pub returns : goal.returns
returns c =
    let x = c.args.self.now in
    let s = the_schema x.population.now.types.now.names in
    let all = x.rules.now.inverses.items in
    let p : Place = (capitals c.args.entity, capitals c.args.attribute) in
    let long : length all ≡ vec_len x.rules.now.inverses = search rules in
    let end = c.len-number-end.ensures in
    let no-more = c.loop-number-test.false in
    number-past s p all c.loop-number.number (omega (arith, long, end, no-more)) ∙ c.loop-number.invariant
