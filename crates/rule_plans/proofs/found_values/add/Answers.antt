use Rattle.std.proofs.Common.{refl}
use Rattle.std.proofs.lemmas.Result.{on_ok_weaker}
use Rattle.rule_values.specs.Parts.{element_datum}
use Rattle.rule_values.specs.TableValues.{coded_datum}
use Rattle.rule_plans.proofs.Adding.{adds-value, adds-type}
use Rattle.rule_plans.proofs.found_values.add.Goals as goal

pub returns-then-found : goal.returns-then-found
unfolding element_datum
returns-then-found c =
    adds-value c.args.number (coded_datum c.args.types.now c.args.base.now c.args.value) _ c.args.found.now _ refl c.if-found.true
    c.in_ok-push.ensures.items refl refl

pub returns : goal.returns
returns c =
    on_ok_weaker c.note.result
    (adds-type c.args.number (coded_datum c.args.types.now c.args.base.now c.args.value) c.args.found.now _ refl c.if-found.false)
    c.note.ensures
