use Rattle.std.proofs.Common.{◌≡◌, take, map}
use Rattle.step_headings.specs.steps.Views.{heading_seen}
use Rattle.step_headings.proofs.headings.are_alike.Given as goal

abbrev pub invariant-loop-index : goal.invariant-loop-index
invariant-loop-index l = take l.index (map heading_seen l.sections) ≡ take l.index (map heading_seen l.others)
