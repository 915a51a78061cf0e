use Rattle.std.proofs.Common.{inl, inr, refl}
use Rattle.commands.proofs.Opening.{opens_four}
use Rattle.commands.proofs.VerifyRuns.{memory_verifies}
use Rattle.commands.proofs.command.verify_asked.Goals as goal

pub returns-in-Err-clause-verifies : goal.returns-in-Err-clause-verifies
returns-in-Err-clause-verifies g c = memory_verifies _ _ _ _ _ _ refl c.report.ensures

pub returns-in-Err-clause-opened : goal.returns-in-Err-clause-opened
returns-in-Err-clause-opened g c = inr (refl, c.report.ensures)

pub returns-clause-opened : goal.returns-clause-opened
returns-clause-opened g c = inl (opens_four g.S.Store.opened _ _ _ _ _ _ _ _ _ c.reader-schema.ensures.opened
    c.reader-file.ensures.opened c.reader-output.ensures.opened c.reader-certificate.ensures.opened)
