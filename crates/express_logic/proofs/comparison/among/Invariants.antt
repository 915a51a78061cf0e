use Rattle.std.proofs.Common.{◌≡◌}
use Rattle.express_logic.specs.steps.Steps.{among_scalars}
use Rattle.express_logic.specs.Views.{scalar_of}
use Rattle.express_logic.proofs.Walks.{So}
use Rattle.express_logic.proofs.comparison.among.Given as goal

-- what was found so far and what is left decide
abbrev pub invariant-loop-index : goal.invariant-loop-index
invariant-loop-index g l =
    So (scalar_of l.scalar) (g.V.Held.held l.elements).elements l.index l.result
    ≡ among_scalars (scalar_of l.scalar) (g.V.Held.held l.elements).elements
