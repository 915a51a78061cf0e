use Rattle.std.proofs.Common.{◌<◌, ◌++◌, length, arith, map, ap, sym, subst, ◌∙◌}
use Rattle.std.proofs.lemmas.List.{length-map}
use Rattle.express_syntax.specs.Views.{declaration_of}
use Rattle.schema_semantics.specs.Parts.{AreUnchecked}
use Rattle.schema_attribute_references.specs.steps.Taking.{schema_in}
use Rattle.schema_unchecked_declarations.specs.UncheckedLists.{unchecked_in}
use Rattle.schema_unchecked.proofs.list.unchecked_parts.Goals as goal

pub add_all-requires-clause-few : goal.add_all-requires-clause-few
add_all-requires-clause-few c =
    let ds = c.args.findings.now.known.tables.names.now.schema.now.declarations.items in
    let few = c.args.findings.now.known.tables.names.now.few in
    let long = length-map ds declaration_of in
    subst (λ xs. length xs < 4294967296) (sym c.declarations-declarations.ensures) (omega (arith, few, long))

pub add_all-requires-clause-all : goal.add_all-requires-clause-all
add_all-requires-clause-all c = ap (map declaration_of) c.declarations-declarations.ensures

pub returns : goal.returns
returns c =
    let (us, listed, is) = c.in_ok-add_all.ensures in
    subst (AreUnchecked (schema_in c.args.findings.now.known))
    (sym (is ∙ ap (λ xs. unchecked_in xs ++ us) c.new-list.ensures.items)) listed
