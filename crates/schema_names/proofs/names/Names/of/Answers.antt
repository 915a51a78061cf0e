use Rattle.std.proofs.Common.{map, subst}
use Rattle.std.specs.Prelude.{nat_eq}
use Rattle.std.specs.List.{AllZip}
use Rattle.indexmap.specs.IndexMap.{get}
use Rattle.express_syntax.specs.Views.{declaration_of}
use Rattle.schema_names.specs.declared.attribute_names.Class.TheVariants.{Explicit, Other}
use Rattle.schema_names.specs.steps.Enumerated.{IsItemRow}
use Rattle.schema_names.specs.steps.OwnNames.{AreOwnRows}
use Rattle.schema_names.proofs.Ordered.{rows-sorted, rows-told}
use Rattle.schema_names.proofs.names.Names.of.Goals as goal

pub invariant_of-result-clause-sorted : goal.invariant_of-result-clause-sorted
invariant_of-result-clause-sorted c =
    let rows = c.in_ok-items.items.items in
    rows-sorted c.args.schema.now.declarations.items rows
    (subst (λ ds. AllZip (λ d v. IsItemRow (declaration_of d) v.items) ds rows) c.deref-2.ensures.value
    c.in_ok-items.ensures)

pub invariant_of-result-clause-enumerated : goal.invariant_of-result-clause-enumerated
invariant_of-result-clause-enumerated c =
    let rows = c.in_ok-items.items.items in
    rows-told c.args.schema.now.declarations.items rows
    (subst (λ ds. AllZip (λ d v. IsItemRow (declaration_of d) v.items) ds rows) c.deref-2.ensures.value
    c.in_ok-items.ensures)

pub invariant_of-result-clause-explicit : goal.invariant_of-result-clause-explicit
invariant_of-result-clause-explicit c =
    subst (λ ds. AreOwnRows (map declaration_of ds) Explicit (get nat_eq c.in_ok-explicits.explicits))
    c.deref-3.ensures.value c.in_ok-explicits.ensures

pub invariant_of-result-clause-other : goal.invariant_of-result-clause-other
invariant_of-result-clause-other c =
    subst (λ ds. AreOwnRows (map declaration_of ds) Other (get nat_eq c.in_ok-others.others)) c.deref-4.ensures.value
    c.in_ok-others.ensures
