use Rattle.std.proofs.Common.{◌∙◌, [], refl, ap, take}
use Rattle.step_literals.proofs.Found.{drop_found, none_found}
use Rattle.step_literals.proofs.DirectiveLemmas.{read_found, read_piece, read_end, broken_here, shorter}
use Rattle.step_literals.proofs.directives.broken_directive.Goals as goal

pub loop-at-init : goal.loop-at-init
loop-at-init c = record { passed = []; split = refl; pieces = []; read = refl }

pub loop-at-smaller : goal.loop-at-smaller
loop-at-smaller c = shorter c.loop-at.rest.now c.split_at.result.1.now c.in-Some-after_directive.after.now c.in-Some.at
    c.split_at.ensures.back c.in-Some.ensures c.in-Some-after_directive.ensures

pub loop-at-preserved : goal.loop-at-preserved
loop-at-preserved c =
    read_piece c.args.content.now c.split_at.result.1.now c.in-Some-after_directive.after.now
    (read_found c.args.content.now c.loop-at.rest.now c.split_at.result.1.now c.in-Some.at c.split_at.ensures.back
    c.loop-at.invariant c.in-Some.ensures) c.in-Some-after_directive.ensures

pub returns-in-None : goal.returns-in-None
returns-in-None c =
    broken_here c.args.content.now c.split_at.result.1.now _
    (read_found c.args.content.now c.loop-at.rest.now c.split_at.result.1.now c.in-Some.at c.split_at.ensures.back
    c.loop-at.invariant c.in-Some.ensures)
    (ap (λ l. take 1 l) (c.split_at.ensures.back ∙ drop_found 92 c.loop-at.rest.now c.in-Some.at c.in-Some.ensures))
    c.in-None.ensures refl

pub returns : goal.returns
returns c = read_end c.args.content.now c.loop-at.rest.now c.loop-at.invariant
    (none_found 92 c.loop-at.rest.now c.in_default.ensures)
