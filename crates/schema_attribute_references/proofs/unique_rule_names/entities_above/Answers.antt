use Rattle.std.proofs.Common.{◌<◌, ◌∷◌, [], ◌++◌, None, Some, length, get_or, arith, map, take, ap, sym, ◌∙◌}
use Rattle.std.specs.List.{filter}
use Rattle.std.proofs.lemmas.List.{take_all, take_more, map-append}
use Rattle.std.proofs.lemmas.List.Elements.{filter-append}
use Rattle.graphs.specs.Graphs.{graph_of}
use Rattle.schema_explicit_attributes.specs.Supertypes.{is_or_leads}
use Rattle.schema_attributes.specs.declared.declaration.AttributeDeclaration.{AttributeDeclaration}
use Rattle.schema_attribute_references.proofs.unique_rule_names.entities_above.Goals as goal

pub loop-declaration-preserved : goal.loop-declaration-preserved
loop-declaration-preserved c =
    let p = is_or_leads (graph_of c.args.above.now) (Some c.args.lower) in
    let xs = c.args.declarations.now in
    let i = c.loop-declaration.declaration-index in
    let d : AttributeDeclaration = record { entity = 0; data_type = 0; derivation = None } in
    let x = get_or xs i d in
    let lt : i < length xs = omega (arith, c.loop-declaration-test.true) in
    c.in_ok-add_above.ensures
    ∙ ap (λ row. row ++ filter p (x.entity ∷ [])) c.loop-declaration.invariant
    ∙ sym (filter-append p (map (λ (y : AttributeDeclaration). y.entity) (take i xs)) (x.entity ∷ []))
    ∙ ap (filter p) (sym (map-append (λ (y : AttributeDeclaration). y.entity) (take i xs) (x ∷ [])))
    ∙ ap (λ ys. filter p (map (λ (y : AttributeDeclaration). y.entity) ys)) (sym (take_more xs i d lt))

pub returns : goal.returns
returns c =
    c.loop-declaration.invariant
    ∙ ap (λ xs. filter (is_or_leads (graph_of c.args.above.now) (Some c.args.lower))
    (map (λ (y : AttributeDeclaration). y.entity) xs))
    (take_all c.loop-declaration.declaration-index c.args.declarations.now c.loop-declaration-test.false)
