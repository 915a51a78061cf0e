use Rattle.std.proofs.Common.{refl, rules, length, vec_len, ◌≡◌, ◌∙◌, ◌<◌, sym, arith}
use Rattle.population_reader.proofs.Verdicts.{empty-so, full-so, functions-are, index-is, matched-is, told-so, ready-is, typed-so, population-is}
use Rattle.population_reader.proofs.populate.populate_by.Goals as goal

pub returns-then-wrong-gt0 : goal.returns-then-wrong-gt0
returns-then-wrong-gt0 c =
    let more : 0 < c.len-wrong.result = omega arith in (
      functions-are c.args.types.now.names c.knowledge-known.result c.bases-bases.result c.args.exchange.now c.in_ok-rows.rows
          c.knowledge-known.ensures.same c.bases-bases.ensures.same c.entities_are_said.ensures
          c.bases-bases.ensures.bases c.in_ok-rows.ensures,
      told-so c.args.types.now.names c.knowledge-known.result c.bases-bases.result c.args.exchange.now c.in_ok-rows.rows
          c.knowledge-known.ensures.same c.bases-bases.ensures.same c.entities_are_said.ensures
          c.bases-bases.ensures.bases c.in_ok-rows.ensures
          c.in_ok-found.found.items c.in_ok-found.ensures,
      full-so c.in_ok-found.found.items c.len-wrong.result (c.len-wrong.ensures ∙ sym (let whole : length c.in_ok-found.found.items ≡ vec_len c.in_ok-found.found = search rules in whole)) more,
    )

pub values_of-requires-clause-index : goal.values_of-requires-clause-index
values_of-requires-clause-index c =
    index-is c.args.types.now.names c.knowledge-known.result c.bases-bases.result c.args.exchange.now c.in_ok-rows.rows
    c.knowledge-known.ensures.same c.bases-bases.ensures.same c.entities_are_said.ensures
    c.bases-bases.ensures.bases c.in_ok-rows.ensures

pub values_of-requires-clause-matched : goal.values_of-requires-clause-matched
values_of-requires-clause-matched c =
    matched-is c.args.types.now.names c.knowledge-known.result c.bases-bases.result c.args.exchange.now c.in_ok-rows.rows
    c.knowledge-known.ensures.same c.bases-bases.ensures.same c.entities_are_said.ensures
    c.bases-bases.ensures.bases c.in_ok-rows.ensures

pub values_of-requires-clause-ready : goal.values_of-requires-clause-ready
values_of-requires-clause-ready c =
    ready-is c.args.types.now.names c.knowledge-known.result c.bases-bases.result c.args.exchange.now c.in_ok-rows.rows
    c.knowledge-known.ensures.same c.bases-bases.ensures.same c.entities_are_said.ensures
    c.bases-bases.ensures.bases c.in_ok-rows.ensures c.in_ok-found.found.items c.in_ok-found.ensures (empty-so c.in_ok-found.found.items c.len-wrong.result
    (c.len-wrong.ensures ∙ sym (let whole : length c.in_ok-found.found.items ≡ vec_len c.in_ok-found.found = search rules in whole)) (omega arith))

pub invariant_of-result : goal.invariant_of-result
invariant_of-result c = record {
  typed = ∣ population-is c.args.types.now.names c.knowledge-known.result c.bases-bases.result c.args.exchange.now
      c.in_ok-rows.rows c.knowledge-known.ensures.same c.bases-bases.ensures.same c.entities_are_said.ensures
      c.bases-bases.ensures.bases c.in_ok-rows.ensures c.in_ok-found.found.items c.in_ok-found.ensures
      (empty-so c.in_ok-found.found.items c.len-wrong.result
      (c.len-wrong.ensures ∙ sym (let whole : length c.in_ok-found.found.items ≡ vec_len c.in_ok-found.found = search rules in whole)) (omega arith))
      c.in_ok-values.values c.in_ok-values.ensures.rows c.in_ok-values.ensures.leads c.in_ok-values.ensures.refers ∣₁;
}

pub returns : goal.returns
returns c = (
  refl,
  refl,
  typed-so c.args.types.now.names c.knowledge-known.result c.bases-bases.result c.args.exchange.now
      c.in_ok-rows.rows c.knowledge-known.ensures.same c.bases-bases.ensures.same c.entities_are_said.ensures
      c.bases-bases.ensures.bases c.in_ok-rows.ensures c.in_ok-found.found.items c.in_ok-found.ensures
      (empty-so c.in_ok-found.found.items c.len-wrong.result
      (c.len-wrong.ensures ∙ sym (let whole : length c.in_ok-found.found.items ≡ vec_len c.in_ok-found.found = search rules in whole)) (omega arith))
      c.in_ok-values.values c.in_ok-values.ensures.rows c.in_ok-values.ensures.leads c.in_ok-values.ensures.refers,
)
