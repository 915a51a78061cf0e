use Rattle.std.proofs.Common.{◌≡◌, take, map}
use Rattle.graphs.proofs.referrers.names_of.Given as goal

abbrev pub invariant-loop-reference : goal.invariant-loop-reference
invariant-loop-reference l = l.referrers.items ≡ map (λ p. p.referrer) (take l.reference-index l.references)
