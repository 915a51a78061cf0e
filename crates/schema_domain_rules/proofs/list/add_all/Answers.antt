use Rattle.std.proofs.Common.{◌≡◌, ◌<◌, Some, length, arith, map, subst, slice_get}
use Rattle.std.proofs.lemmas.List.{take_all}
use Rattle.express_syntax.specs.Views.{declaration_of}
use Rattle.conformance.specs.DomainRules.{statements_in}
use Rattle.schema_attribute_references.specs.steps.Taking.{schema_in}
use Rattle.schema_domain_rules.specs.steps.Making.{Adds}
use Rattle.schema_domain_rules.proofs.Listing.{seen-at, adds-none, adds-declared}
use Rattle.schema_domain_rules.proofs.list.add_all.Goals as goal

pub loop-i-init : goal.loop-i-init
loop-i-init c = adds-none (schema_in c.args.findings.now.known) c.args.rules.now.items

pub add_declaration-requires-clause-at : goal.add_declaration-requires-clause-at
add_declaration-requires-clause-at c =
    let xs = c.args.declarations.now in
    let i = c.loop-i.i in
    let x = c.index-declarations-i.result in
    let lt : i < length xs = omega (arith, c.loop-i-test.true) in
    subst (λ ds. slice_get ds i ≡ Some (declaration_of x)) c.requires.all
    (seen-at declaration_of xs i x lt c.index-declarations-i.is)

pub loop-i-preserved : goal.loop-i-preserved
loop-i-preserved c =
    let s = schema_in c.args.findings.now.known in
    let xs = c.args.declarations.now in
    let i = c.loop-i.i in
    let x = c.index-declarations-i.result in
    let lt : i < length xs = omega (arith, c.loop-i-test.true) in
    adds-declared s declaration_of xs i x c.args.rules.now.items c.loop-i.rules.items c.add_declaration.new.rules.items lt
    c.index-declarations-i.is c.loop-i.invariant c.in_ok-add_declaration.ensures

pub returns : goal.returns
returns c =
    let s = schema_in c.args.findings.now.known in
    let old = c.args.rules.now.items in
    let new = c.loop-i.rules.items in
    subst (λ ds. Adds s (statements_in ds) old new) c.requires.all
    (subst (λ xs. Adds s (statements_in (map declaration_of xs)) old new)
    (take_all c.loop-i.i c.args.declarations.now c.loop-i-test.false) c.loop-i.invariant)
