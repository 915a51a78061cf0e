use Rattle.std.proofs.Common.{◌≡◌, ◌<◌, Some, length, arith, map, sym, subst, slice_get}
use Rattle.std.specs.Prelude.{flat_map}
use Rattle.std.proofs.lemmas.List.{append-nil, take_all}
use Rattle.express_syntax.specs.Views.{declaration_of}
use Rattle.schema_names.proofs.Rows.{flat-joined}
use Rattle.schema_attribute_references.specs.steps.Taking.{schema_in}
use Rattle.schema_constraints.specs.steps.Making.{Adds, of_entity, inverses_by, IsInverse}
use Rattle.schema_constraints.proofs.Turns.{seen-at, adds-none, adds-next, of-entities}
use Rattle.schema_constraints.proofs.inverses.add_all.Goals as goal

pub loop-i-init : goal.loop-i-init
loop-i-init c = adds-none (IsInverse (schema_in c.args.sources.now.known)) c.args.attributes.now.items

pub add_declaration-requires-clause-at : goal.add_declaration-requires-clause-at
add_declaration-requires-clause-at c =
    let xs = c.args.declarations.now in
    let i = c.loop-i.i in
    let x = c.index-declarations-i.result in
    let lt : i < length xs = omega (arith, c.loop-i-test.true) in
    subst (λ ds. slice_get ds i ≡ Some (declaration_of x)) c.requires.all
    (seen-at declaration_of xs i x lt c.index-declarations-i.is)

pub loop-i-preserved : goal.loop-i-preserved
loop-i-preserved c =
    let s = schema_in c.args.sources.now.known in
    let xs = c.args.declarations.now in
    let i = c.loop-i.i in
    let x = c.index-declarations-i.result in
    let lt : i < length xs = omega (arith, c.loop-i-test.true) in
    let old = c.loop-i.attributes.items in
    let new = c.add_declaration.new.attributes.items in
    adds-next (IsInverse s) declaration_of (flat_map (of_entity inverses_by)) (flat-joined (of_entity inverses_by)) xs i
    x c.args.attributes.now.items old new lt c.index-declarations-i.is c.loop-i.invariant
    (subst (λ ys. Adds (IsInverse s) ys old new) (sym (append-nil (of_entity inverses_by (declaration_of x))))
    c.in_ok-add_declaration.ensures)

pub returns : goal.returns
returns c =
    let s = schema_in c.args.sources.now.known in
    let old = c.args.attributes.now.items in
    let new = c.loop-i.attributes.items in
    subst (λ ys. Adds (IsInverse s) ys old new) (of-entities inverses_by s.declarations)
    (subst (λ ds. Adds (IsInverse s) (flat_map (of_entity inverses_by) ds) old new) c.requires.all
    (subst (λ ys. Adds (IsInverse s) (flat_map (of_entity inverses_by) (map declaration_of ys)) old new)
    (take_all c.loop-i.i c.args.declarations.now c.loop-i-test.false) c.loop-i.invariant))
