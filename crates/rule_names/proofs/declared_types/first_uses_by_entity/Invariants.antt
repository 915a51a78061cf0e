use Rattle.std.proofs.Common.{take}
use Rattle.std.specs.List.{AllZip}
use Rattle.rule_names.specs.steps.Declaring.{AreFirst}
use Rattle.rule_names.proofs.declared_types.first_uses_by_entity.Given as goal

abbrev pub invariant-loop-row : goal.invariant-loop-row
invariant-loop-row l =
    AllZip (λ v t. AreFirst v.items t) (take l.row-index l.uses.explicit.items) l.rows.items
