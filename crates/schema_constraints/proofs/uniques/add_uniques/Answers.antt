use Rattle.std.proofs.Common.{◌<◌, ◌+◌, length, arith, map, subst}
use Rattle.std.proofs.lemmas.List.{take_all}
use Rattle.express_syntax.specs.Views.{unique_of}
use Rattle.conformance.specs.Rules.{statements_from}
use Rattle.schema_attribute_references.specs.steps.Taking.{schema_in}
use Rattle.schema_constraints.specs.steps.Making.{Adds, statement_of, IsUnique}
use Rattle.schema_constraints.proofs.Turns.{adds-none, adds-one}
use Rattle.schema_constraints.proofs.Ruling.{adds-statement}
use Rattle.schema_constraints.proofs.uniques.add_uniques.Goals as goal

pub loop-i-init : goal.loop-i-init
loop-i-init c e at = adds-none (IsUnique (schema_in c.args.sources.now.known)) c.args.rules.now.items

pub loop-i-preserved : goal.loop-i-preserved
loop-i-preserved c e at =
    let R = IsUnique (schema_in c.args.sources.now.known) in
    let xs = c.args.uniques.now in
    let i = c.loop-i.i in
    let x = c.index-uniques-i.result in
    let lt : i < length xs = omega (arith, c.loop-i-test.true) in
    adds-statement R unique_of e.name xs i x c.args.rules.now.items c.loop-i.rules.items c.push.new.self.items lt
    c.index-uniques-i.is (c.loop-i.invariant e at)
    (adds-one R (statement_of e.name (i + 1) (unique_of x)) c.in_ok-rule.rule c.loop-i.rules.items c.push.new.self.items
    c.in_ok-push.ensures.items (c.in_ok-rule.ensures e at))

pub returns : goal.returns
returns c e at =
    subst (λ xs. Adds (IsUnique (schema_in c.args.sources.now.known)) (statements_from e.name 1 (map unique_of xs))
    c.args.rules.now.items c.loop-i.rules.items) (take_all c.loop-i.i c.args.uniques.now c.loop-i-test.false)
    (c.loop-i.invariant e at)
