use Rattle.step_records.specs.steps.Readers.{reading}
use Rattle.step_records.proofs.Looking.{mark_shown, passes_mark}
use Rattle.step_records.proofs.tokens.expect.Goals as goal

pub returns-then-skip_mark : goal.returns-then-skip_mark
returns-then-skip_mark c =
    let s = c.if-skip_mark.ensures.skips in (
      c.skip_mark.ensures.built,
      passes_mark c.args.wanted s.0 (reading c.args.reader.now) (reading c.skip_mark.new.self) s.2
          (mark_shown s.0 c.args.wanted s.1),
    )
