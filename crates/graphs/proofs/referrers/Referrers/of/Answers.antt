use Rattle.std.proofs.Common.{rules, ap, ◌∙◌, map}
use Rattle.std.proofs.lemmas.List.Sorted.{answers_always, IsNonDecreasingBy-from_sort_by_key}
use Rattle.graphs.proofs.Cuts.{stays}
use Rattle.graphs.proofs.referrers.Referrers.of.Goals as goal

pub invariant_of-result : goal.invariant_of-result
invariant_of-result c = (IsNonDecreasingBy-from_sort_by_key (λ p. p.target) _ c.in_ok-sort_by_key.ensures.sorted (λ a r q k. search rules), c.in_ok-referrers.ensures ∙ ap (map (λ p. p.referrer)) c.deref.ensures.value)

pub returns : goal.returns
returns c = λ t. stays t c.args.references.items c.sort_by_key.new.self.items (c.sort_by_key.ensures.stable (λ p. p.target) (answers_always _ _ _ (λ f a r g h. search rules)))
