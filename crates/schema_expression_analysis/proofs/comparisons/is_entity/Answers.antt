use Rattle.std.proofs.Common.{◌≡◌, ◌∙◌, sym, subst, refl, arith}
use Rattle.std.proofs.lemmas.List.{length-map}
use Rattle.express_syntax.specs.Views.{declaration_of, type_of, entity_of, skipped_of}
use Rattle.schema_names.specs.Numbers.{IsAt}
use Rattle.schema_names.specs.Schemas.{the_schema}
use Rattle.schema_names.proofs.Numbers.{stands-at}
use Rattle.schema_names.proofs.Edges.{number-within}
use Rattle.schema_data_types.proofs.Declared.{entity-here}
use Rattle.schema_names.proofs.Items.{mapped-at}
use Rattle.schema_expression_analysis.proofs.comparisons.is_entity.Goals as goal

pub declaration-requires : goal.declaration-requires
declaration-requires c =
    let s = the_schema c.args.names.now in
    let (n, k) = c.requires.numbered in
    let lt = number-within s n c.args.part k in
    let long = length-map c.args.names.now.schema.now.declarations.items declaration_of in
    omega (arith, lt, long)

pub returns-in-Entity : goal.returns-in-Entity
returns-in-Entity c n k =
    let s = the_schema c.args.names.now in
    let at =
    subst (λ d. IsAt s c.args.part (declaration_of d)) c.in-Entity.is
    (mapped-at declaration_of c.args.names.now.schema.now.declarations.items c.args.part c.declaration.result.now
    c.declaration.ensures) in
    ((λ e. entity-here s n c.args.part (entity_of c.in-Entity.field-0) k at), (λ e. refl))

pub returns-in-Type : goal.returns-in-Type
returns-in-Type c n k =
    let s = the_schema c.args.names.now in
    let at =
    subst (λ d. IsAt s c.args.part (declaration_of d)) c.in-Type.is
    (mapped-at declaration_of c.args.names.now.schema.now.declarations.items c.args.part c.declaration.result.now
    c.declaration.ensures) in
    ((λ e. absurd (cc)), (λ e. let q = sym at ∙ sym (stands-at s n c.args.part k) ∙ e.1 in absurd (cc)))

pub returns-in-Skipped : goal.returns-in-Skipped
returns-in-Skipped c n k =
    let s = the_schema c.args.names.now in
    let at =
    subst (λ d. IsAt s c.args.part (declaration_of d)) c.in-Skipped.is
    (mapped-at declaration_of c.args.names.now.schema.now.declarations.items c.args.part c.declaration.result.now
    c.declaration.ensures) in
    ((λ e. absurd (cc)), (λ e. let q = sym at ∙ sym (stands-at s n c.args.part k) ∙ e.1 in absurd (cc)))
