use Rattle.step_records.proofs.Pushing.{params_of}
use Rattle.step_records.proofs.params.record_params.Goals as goal

pub returns : goal.returns
returns c = params_of c.args.depth c.args.reader.now c.expect.new.reader c.items.new.reader c.items.result
    c.in_ok-expect.ensures.0 c.in_ok-expect.ensures.1 c.items.ensures
