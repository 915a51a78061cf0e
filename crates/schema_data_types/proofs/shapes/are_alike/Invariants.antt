use Rattle.std.proofs.Common.{◌≡◌, ◌<◌, ◌-◌, length}
use Rattle.schema_data_types.specs.steps.Comparing.{agree}
use Rattle.schema_data_types.proofs.shapes.are_alike.Given as goal

abbrev pub invariant-loop-step : goal.invariant-loop-step
invariant-loop-step l = record {
  ours_within : l.ours < length l.shapes;
  theirs_within : l.theirs < length l.shapes;
  on : agree l.shapes (length l.shapes - l._step) l.ours l.theirs ≡ agree l.shapes (length l.shapes) l.first l.second;
}
