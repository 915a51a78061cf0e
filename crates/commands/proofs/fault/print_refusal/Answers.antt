use Rattle.std.proofs.Common.{sym, ap}
use Rattle.devices.proofs.Printing.{prints_as}
use Rattle.commands.specs.Faults.{refusal_text}
use Rattle.commands.proofs.fault.print_refusal.Goals as goal

pub returns-in-OldVersion : goal.returns-in-OldVersion
returns-in-OldVersion g c = prints_as (ap refusal_text (sym c.in-OldVersion.is)) c.print.ensures

pub returns-in-BadText : goal.returns-in-BadText
returns-in-BadText g c = prints_as (ap refusal_text (sym c.in-BadText.is)) c.print_bad_line.ensures

pub returns-in-WrongNames : goal.returns-in-WrongNames
returns-in-WrongNames g c = prints_as (ap refusal_text (sym c.in-WrongNames.is)) c.print-in-WrongNames.ensures

pub returns-in-GroundlessSplit : goal.returns-in-GroundlessSplit
returns-in-GroundlessSplit g c =
    prints_as (ap refusal_text (sym c.in-GroundlessSplit.is)) c.print-in-GroundlessSplit.ensures

pub returns-in-Unstable : goal.returns-in-Unstable
returns-in-Unstable g c = prints_as (ap refusal_text (sym c.in-Unstable.is)) c.print-in-Unstable.ensures

pub returns-in-NotTheImage : goal.returns-in-NotTheImage
returns-in-NotTheImage g c = prints_as (ap refusal_text (sym c.in-NotTheImage.is)) c.print-in-NotTheImage.ensures
