use Rattle.std.proofs.Common.{◌∙◌, subst}
use Rattle.std.specs.Prelude.{IfSome}
use Rattle.population_rows.specs.steps.Positions.{ArePositions}
use Rattle.population_uniqueness.proofs.positions.position_in.Goals as goal

pub returns-in-Some : goal.returns-in-Some
returns-in-Some c =
    c.indexed.ensures
    ∙ (subst (λ o. IfSome o (λ t. ArePositions c.args.slots.now t.now)) c.in-Some.is c.requires) c.args.place
