use Rattle.std.proofs.Common.{ap, ◌∙◌, ◌+◌}
use Rattle.std.proofs.lemmas.Result.{IfOk-weaker}
use Rattle.schema_unchecked.proofs.Deriving.{entity-count}
use Rattle.schema_unchecked.proofs.derived_attributes.first_behind.Goals as goal

pub returns-in-Entity : goal.returns-in-Entity
returns-in-Entity c =
    IfOk-weaker c.number_behind.result _ _
    (λ n e. e ∙ ap (λ m. c.args.first + m)
    (entity-count c.args.declaration.now c.in-Entity.entity c.derived_attributes.result.now c.in-Entity.is
    c.derived_attributes.ensures))
    c.number_behind.ensures
