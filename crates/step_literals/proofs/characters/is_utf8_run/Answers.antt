use Rattle.std.proofs.Common.{◌∙◌, sym}
use Rattle.step_literals.proofs.CharacterLemmas.{utf8_behind, utf8_decided, utf8_nothing, shorter_behind}
use Rattle.step_literals.proofs.characters.is_utf8_run.Goals as goal

pub loop-after-preserved : goal.loop-after-preserved
loop-after-preserved c = c.loop-after.invariant ∙ utf8_behind c.in-Some.ensures

pub loop-after-smaller : goal.loop-after-smaller
loop-after-smaller c = shorter_behind c.in-Some.ensures.0

pub returns-in-Some-take_clean : goal.returns-in-Some-take_clean
returns-in-Some-take_clean c = sym (c.loop-after.invariant ∙ utf8_decided c.in-Some-take_clean.ensures.first
    c.in_default.ensures)

pub returns-in-None : goal.returns-in-None
returns-in-None c = sym (c.loop-after.invariant ∙ utf8_nothing c.in-None.ensures.first)
