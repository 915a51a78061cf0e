use Rattle.std.proofs.Common.{◌∙◌, ap, sym}
use Rattle.graphs.specs.Graphs.{has}
use Rattle.graphs.proofs.Found.{has-turned, has-more}
use Rattle.rule_plans.proofs.Adding.{noted-before}
use Rattle.rule_plans.proofs.found_values.note.Goals as goal

pub returns-then-contains : goal.returns-then-contains
returns-then-contains c i =
    noted-before c.args.types.now.items c.args.number i
    (ap (λ xs. has xs c.args.number) (sym c.deref.ensures.value)
    ∙ sym (c.contains.ensures.value ∙ has-turned c.deref.result.now c.args.number) ∙ c.if-contains.true)

pub returns : goal.returns
returns c i =
    ap (λ xs. has xs i) c.in_ok-push.ensures.items ∙ has-more c.args.types.now.items c.args.number i
