use Rattle.commands.proofs.Asked.{device, says}
use Rattle.commands.proofs.laws.outputs_are_told.Goals as goal

pub returns-clause-status : goal.returns-clause-status
returns-clause-status g c = λ words files holds exit runs.
    (says _ words files holds exit runs).is_status

pub returns-clause-unwritten : goal.returns-clause-unwritten
returns-clause-unwritten g c = λ words files holds exit runs.
    (says _ words files holds exit runs).unwritten

pub returns-clause-device : goal.returns-clause-device
returns-clause-device g c = λ words files holds exit runs.
    device _ words files holds exit runs

pub returns-clause-output : goal.returns-clause-output
returns-clause-output g c = λ words files holds exit runs.
    (says _ words files holds exit runs).out_failed

pub returns-clause-error : goal.returns-clause-error
returns-clause-error g c = λ words files holds exit runs.
    (says _ words files holds exit runs).err_failed
