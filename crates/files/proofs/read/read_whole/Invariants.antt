use Rattle.std.proofs.Common.{◌≡◌, ◌+◌, ◌-◌, false, vec_len}
use Rattle.std.specs.Io.KnownBytes.{Consumes}
use Rattle.files.proofs.Reading.{HasCome}
use Rattle.files.proofs.read.read_whole.Given as goal

abbrev pub invariant-loop-bytes : goal.invariant-loop-bytes
invariant-loop-bytes g l = record {
  read : Consumes (g.S.Source.to_come l.initial.source) (g.S.Source.to_come l.source) l.bytes.items;
  fine : g.S.Source.has_failed l.initial.source ≡ false → g.S.Source.has_failed l.source ≡ false;
  same : g.S.Source.fails l.source ≡ g.S.Source.fails l.initial.source;
  come : HasCome (vec_len l.bytes) (g.S.Source.fails l.initial.source);
}

abbrev pub decreases-loop-bytes : goal.decreases-loop-bytes
decreases-loop-bytes g l = l.limit + 1 - vec_len l.bytes
