use Rattle.std.proofs.Common.{◌≡◌, ◌<◌, Some, length, arith, map, refl, subst, slice_get}
use Rattle.std.proofs.lemmas.List.{take_all}
use Rattle.express_syntax.specs.Views.{declaration_of}
use Rattle.schema_semantics.specs.Parts.{for_each, parts_of_declaration}
use Rattle.schema_attribute_references.specs.steps.Taking.{schema_in}
use Rattle.schema_unchecked_declarations.specs.UncheckedLists.{Adds, unchecked_in}
use Rattle.schema_unchecked_declarations.proofs.Joining.{adds-none}
use Rattle.schema_unchecked_declarations.proofs.Turns.{adds-next}
use Rattle.schema_unchecked.proofs.Standing.{seen-at}
use Rattle.schema_unchecked.proofs.Deriving.{before-more}
use Rattle.schema_unchecked.proofs.list.add_all.Goals as goal

pub loop-i-init : goal.loop-i-init
loop-i-init c = (adds-none (unchecked_in c.args.list.now.items), refl)

pub add_declaration-requires-clause-at : goal.add_declaration-requires-clause-at
add_declaration-requires-clause-at c =
    let xs = c.args.declarations.now in
    let i = c.loop-i.i in
    let x = c.index-declarations-i.result in
    let lt : i < length xs = omega (arith, c.loop-i-test.true) in
    subst (λ ds. slice_get ds i ≡ Some (declaration_of x)) c.requires.all
    (seen-at declaration_of xs i x lt c.index-declarations-i.is)

pub loop-i-preserved : goal.loop-i-preserved
loop-i-preserved c =
    let s = schema_in c.args.findings.now.known in
    let xs = c.args.declarations.now in
    let i = c.loop-i.i in
    let x = c.index-declarations-i.result in
    let lt : i < length xs = omega (arith, c.loop-i-test.true) in
    let at = subst (λ ds. slice_get ds i ≡ Some (declaration_of x)) c.requires.all
    (seen-at declaration_of xs i x lt c.index-declarations-i.is) in (
      adds-next declaration_of (parts_of_declaration s) xs i x (unchecked_in c.args.list.now.items)
          (unchecked_in c.loop-i.list.items) (unchecked_in c.add_declaration.new.list.items) lt c.index-declarations-i.is
          c.loop-i.invariant.0 c.in_ok-add_declaration.ensures,
      before-more s i c.loop-i.first _ (declaration_of x) at c.loop-i.invariant.1 c.in_ok-first.ensures,
    )

pub returns : goal.returns
returns c =
    let s = schema_in c.args.findings.now.known in
    subst (λ ds. Adds (for_each (parts_of_declaration s) ds) (unchecked_in c.args.list.now.items)
    (unchecked_in c.loop-i.list.items)) c.requires.all
    (subst (λ xs. Adds (for_each (parts_of_declaration s) (map declaration_of xs)) (unchecked_in c.args.list.now.items)
    (unchecked_in c.loop-i.list.items)) (take_all c.loop-i.i c.args.declarations.now c.loop-i-test.false)
    c.loop-i.invariant.0)
