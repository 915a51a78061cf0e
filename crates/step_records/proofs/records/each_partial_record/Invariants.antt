use Rattle.std.proofs.Common.{◌≡◌, length, drop}
use Rattle.step_lexer.specs.Reading.{left}
use Rattle.step_records.specs.steps.Readers.{reading}
use Rattle.step_records.proofs.Recording.{PartialsSoFar}
use Rattle.step_records.proofs.records.each_partial_record.Given as goal

abbrev pub invariant-loop-token : goal.invariant-loop-token
invariant-loop-token l = record {
  read : PartialsSoFar l.fn.reader l.reader l.words.items;
  kept : l.further.keys ≡ drop 8 l.words.items;
}

abbrev pub decreases-loop-token : goal.decreases-loop-token
decreases-loop-token l = length (left (reading l.reader))
