use Rattle.std.proofs.Common.{sym, ap, subst, ◌∙◌, take, drop, ◌-◌}
use Rattle.std.specs.List.Sorted.{IsNonDecreasingBy}
use Rattle.graphs.specs.Referrers.{referrers_of, AreEnds}
use Rattle.graphs.proofs.Cuts.{in_order, found}
use Rattle.graphs.proofs.referrers.Referrers.find_near.Goals as goal

pub ends-first-requires : goal.ends-first-requires
ends-first-requires c = subst (IsNonDecreasingBy (λ p. p.target)) (sym c.deref.ensures.value) c.self.invariant.0

pub returns-then-end-first : goal.returns-then-end-first
returns-then-end-first c = absurd (in_order _ _ _ _ c.ends-first.ensures c.if-end-first.true)

pub returns : goal.returns
returns c =
    ap (λ l. take (c.ends-first.result.1 - c.ends-first.result.0) (drop c.ends-first.result.0 l)) (c.deref-2.ensures.value ∙ c.self.invariant.1) ∙ found _ _ _ _ (subst (AreEnds c.args.target c.ends-first.result.0 c.ends-first.result.1) c.deref.ensures.value c.ends-first.ensures) c.if-end-first.false ∙ ap (referrers_of c.args.target) c.self.view_is
