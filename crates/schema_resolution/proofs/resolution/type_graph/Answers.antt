use Rattle.schema_resolution.proofs.resolution.type_graph.Goals as goal

pub invariant_of-result : goal.invariant_of-result
invariant_of-result c = record {
  judged_is = ∣ c.in_ok-judged.ensures.judged ∣₁;
  domain_is = ∣ c.in_ok-judged.ensures.domain ∣₁;
  rules_are = ∣ c.in_ok-judged.ensures.rules ∣₁;
}
