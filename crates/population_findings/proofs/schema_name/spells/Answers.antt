use Rattle.std.proofs.Common.{ap, sym, ◌∙◌, ◌==◌, ◌||◌}
use Rattle.step_literals.specs.steps.Rests.{items_left}
use Rattle.step_literals.specs.Items.{string_items}
use Rattle.population_findings.specs.steps.SchemaNames.{names_so}
use Rattle.population_findings.proofs.Spelling.{next-short, next-other, next-same, at-end, behind-end, ends-so}
use Rattle.population_findings.proofs.schema_name.spells.Goals as goal

pub loop-byte-init : goal.loop-byte-init
loop-byte-init c = ap (names_so c.args.name.now) c.items-items.ensures

pub returns-in_default : goal.returns-in_default
returns-in_default c =
    let left = items_left c.loop-byte.items in
    sym (next-short c.args.name.now c.loop-byte.byte-index c.loop-byte-test.true left
    c.in_default.ensures.steps.0) ∙ c.loop-byte.invariant

pub returns-then-not-is_next : goal.returns-then-not-is_next
returns-then-not-is_next c =
    let left = items_left c.loop-byte.items in
    sym (next-other c.args.name.now c.loop-byte.byte-index c.loop-byte-test.true left
    c.in-Some.item (items_left c.next.new.self) c.in-Some.ensures.steps
    (sym c.is_next.ensures ∙ c.if-not-is_next.true)) ∙ c.loop-byte.invariant

pub loop-byte-preserved : goal.loop-byte-preserved
loop-byte-preserved c =
    let left = items_left c.loop-byte.items in
    sym (next-same c.args.name.now c.loop-byte.byte-index c.loop-byte-test.true left
    c.in-Some.item (items_left c.next.new.self) c.in-Some.ensures.steps
    (sym c.is_next.ensures ∙ c.if-not-is_next.false)) ∙ c.loop-byte.invariant

pub returns-in-Some-next : goal.returns-in-Some-next
returns-in-Some-next c =
    let x = c.in-Some-next.item in
    c.ends_name.ensures ∙ ap (λ k. k == 32 || k == 123) c.character.ensures ∙ ends-so x
    ∙ sym (behind-end c.args.name.now c.loop-byte.byte-index (items_left c.loop-byte.items) x _
    c.loop-byte-test.false c.in-Some-next.ensures.steps) ∙ c.loop-byte.invariant

pub returns-in-None : goal.returns-in-None
returns-in-None c =
    sym (at-end c.args.name.now c.loop-byte.byte-index (items_left c.loop-byte.items)
    c.loop-byte-test.false
    c.in-None.ensures.steps.0) ∙ c.loop-byte.invariant
