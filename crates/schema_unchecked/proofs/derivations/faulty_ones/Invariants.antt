use Rattle.std.proofs.Common.{◌≡◌, ◌++◌, drop, map}
use Rattle.schema_unchecked.specs.steps.Surveyed.{is_faulty}
use Rattle.schema_unchecked.proofs.derivations.faulty_ones.Given as goal

abbrev pub invariant-loop-judgement : goal.invariant-loop-judgement
invariant-loop-judgement l =
    l.faulty.items ++ map is_faulty (drop l.judgement-index l.judged) ≡ map is_faulty l.judged
