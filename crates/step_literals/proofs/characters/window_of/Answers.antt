use Rattle.std.proofs.Common.{◌≤◌, ◌∙◌, sym, ap, arith, length, length-drop, length-set}
use Rattle.std.proofs.lemmas.List.{take_all}
use Rattle.step_literals.specs.Strings.{clean}
use Rattle.step_literals.proofs.CharacterLemmas.{window_more, drop_more}
use Rattle.step_literals.proofs.characters.window_of.Goals as goal

pub returns-in_default-clause-same : goal.returns-in_default-clause-same
returns-in_default-clause-same c =
    let bs = clean c.args.bytes.now in
    let short : length bs ≤ c.loop-len.len = omega (
      arith,
      length-drop c.loop-len.len bs,
      ap length (sym c.loop-len.invariant.left ∙ c.in_default.ensures.first),
    ) in
    c.loop-len.invariant.same ∙ take_all c.loop-len.len bs short ∙ sym (take_all 4 bs (omega (arith, short)))

pub loop-len-preserved : goal.loop-len-preserved
loop-len-preserved c =
    let bs = clean c.args.bytes.now in
    let here = sym c.loop-len.invariant.left ∙ c.in-Some.ensures.first in
    record {
      size = length-set c.loop-len.window c.loop-len.len c.in-Some.byte ∙ c.loop-len.invariant.size;
      same = window_more c.loop-len.len c.in-Some.byte c.loop-len.window bs (clean c.in-Some.after.now)
          (omega (arith, c.loop-len-test.true, c.loop-len.invariant.size)) c.loop-len.invariant.same here;
      left = drop_more c.loop-len.len bs here;
    }
