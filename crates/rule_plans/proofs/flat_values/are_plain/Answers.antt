use Rattle.std.proofs.Common.{◌≡◌, ◌+◌, ◌∙◌, ◌&&◌, false, true, ap, sym, arith}
use Rattle.step_values.specs.steps.Slots.{kind_of}
use Rattle.step_values.proofs.Walks.{after, after_all}
use Rattle.rule_plans.specs.steps.Flat.{is_plain, are_plain}
use Rattle.rule_plans.proofs.Passing.{plain-next}
use Rattle.rule_plans.proofs.flat_values.are_plain.Goals as goal

pub returns-then-not-is_plain : goal.returns-then-not-is_plain
returns-then-not-is_plain c =
    let vs = c.args.values.now in
    let i = c.loop-i.i in
    let parts : is_plain (kind_of c.at.result) ≡ false =
    sym (c.is_plain.ensures ∙ ap is_plain c.kind.ensures) ∙ c.if-not-is_plain.true in
    sym (plain-next vs i c.at.result c.at.ensures ∙ ap (λ b. b && are_plain (after (i + 1) vs)) parts) ∙ c.loop-i.invariant

pub loop-i-preserved : goal.loop-i-preserved
loop-i-preserved c =
    let vs = c.args.values.now in
    let i = c.loop-i.i in
    let plain : is_plain (kind_of c.at.result) ≡ true =
    sym (c.is_plain.ensures ∙ ap is_plain c.kind.ensures) ∙ c.if-not-is_plain.false in
    sym (plain-next vs i c.at.result c.at.ensures ∙ ap (λ b. b && are_plain (after (i + 1) vs)) plain) ∙ c.loop-i.invariant

pub returns : goal.returns
returns c =
    let vs = c.args.values.now in
    let i = c.loop-i.i in
    let past = c.loop-i-test.false in
    let end = c.len-i-end.ensures in
    sym (ap are_plain (after_all vs i (omega (arith, past, end)))) ∙ c.loop-i.invariant
