use Rattle.std.proofs.Common.{inl, inr, refl}
use Rattle.commands.proofs.MergeRuns.{memory_smaller}
use Rattle.commands.proofs.command.shrink_asked.Goals as goal

pub returns-in-Err-clause-makes : goal.returns-in-Err-clause-makes
returns-in-Err-clause-makes g c =
    memory_smaller _ _ _ _ _ _ _ _ refl refl refl c.report.ensures

pub returns-in-Ok-clause-opened : goal.returns-in-Ok-clause-opened
returns-in-Ok-clause-opened g c = inl c.shrink_by.ensures.opened

pub returns-in-Err-clause-opened : goal.returns-in-Err-clause-opened
returns-in-Err-clause-opened g c = inr (refl, c.report.ensures)
