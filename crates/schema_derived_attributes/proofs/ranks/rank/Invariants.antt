use Rattle.std.proofs.Common.{◌≡◌, None, map, drop, get_or}
use Rattle.schema_derived_attributes.specs.steps.Tables.{above_all, capped}
use Rattle.schema_derived_attributes.proofs.ranks.rank.Given as goal

abbrev pub invariant-loop-b : goal.invariant-loop-b
invariant-loop-b l = capped l.rank (above_all (map (λ b. get_or l.ranks b None) (drop l.b-index l.after)))
    ≡ above_all (map (λ b. get_or l.ranks b None) l.after)
