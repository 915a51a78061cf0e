use Rattle.commands.proofs.Asked.{carried, refused}
use Rattle.commands.proofs.laws.what_is_asked_for_is_run.Goals as goal

pub returns-clause-run : goal.returns-clause-run
returns-clause-run g c = λ words files holds exit runs.
    carried _ words files holds exit runs

pub returns-clause-nothing : goal.returns-clause-nothing
returns-clause-nothing g c = λ words files holds exit runs.
    refused _ words files holds exit runs
