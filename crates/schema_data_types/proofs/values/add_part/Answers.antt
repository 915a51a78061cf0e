use Rattle.std.proofs.Common.{◌≡◌, ◌∙◌, ap, sym, subst, Some, None, arith}
use Rattle.std.proofs.lemmas.List.{length-map}
use Rattle.express_syntax.specs.Schemas.{Declaration, skipped}
use Rattle.express_syntax.specs.Views.{declaration_of, type_of, entity_of, skipped_of}
use Rattle.schema_semantics.specs.Names.{declared_name}
use Rattle.schema_names.specs.Numbers.{IsAt}
use Rattle.schema_names.specs.Schemas.{the_schema}
use Rattle.schema_names.proofs.Numbers.{what-stands}
use Rattle.schema_names.proofs.Edges.{number-within}
use Rattle.schema_data_types.specs.declared.values.Atom.TheVariants as atoms
use Rattle.schema_data_types.specs.steps.Values.{AddsAll}
use Rattle.schema_data_types.specs.steps.Leaves.{Gives}
use Rattle.schema_data_types.proofs.Sets.{adds-atom}
use Rattle.schema_data_types.proofs.Declared.{type-here, entity-here, gives-instance}
use Rattle.schema_names.proofs.Items.{mapped-at}
use Rattle.schema_data_types.proofs.values.add_part.Goals as goal

pub declaration-requires : goal.declaration-requires
declaration-requires c =
    let s = the_schema c.args.tables.now.names.now in
    let (n, k) = c.requires.named in
    let lt = number-within s n c.args.part k in
    let long = length-map c.args.tables.now.names.now.schema.now.declarations.items declaration_of in
    omega (arith, lt, long)

pub add_underlying-requires-clause-within : goal.add_underlying-requires-clause-within
add_underlying-requires-clause-within c =
    let s = the_schema c.args.tables.now.names.now in
    let (n, k) = c.requires.named in
    let at =
    subst (λ d. IsAt s c.args.part (declaration_of d)) c.in-Type.is
    (mapped-at declaration_of c.args.tables.now.names.now.schema.now.declarations.items c.args.part c.declaration.result.now
    c.declaration.ensures) in
    (n, k, type-here s n c.args.part (type_of c.in-Type.declared) k at)

pub returns-in_ok-push-in-Entity : goal.returns-in_ok-push-in-Entity
returns-in_ok-push-in-Entity c n k =
    let s = the_schema c.args.tables.now.names.now in
    let w = c.args.is_of_select in
    let old = c.args.atoms.now.items in
    let at =
    subst (λ d. IsAt s c.args.part (declaration_of d)) c.in-Entity.is
    (mapped-at declaration_of c.args.tables.now.names.now.schema.now.declarations.items c.args.part c.declaration.result.now
    c.declaration.ensures) in
    subst (AddsAll s old (Gives s n w)) (sym c.in_ok-push-in-Entity.ensures.items)
    (adds-atom s old (atoms.Instance c.args.part) (Gives s n w)
    (gives-instance s n c.args.part w k (entity-here s n c.args.part (entity_of c.in-Entity.field-0) k at)))

pub returns-in-Skipped : goal.returns-in-Skipped
returns-in-Skipped c n k =
    let s = the_schema c.args.tables.now.names.now in
    let at =
    subst (λ d. IsAt s c.args.part (declaration_of d)) c.in-Skipped.is
    (mapped-at declaration_of c.args.tables.now.names.now.schema.now.declarations.items c.args.part c.declaration.result.now
    c.declaration.ensures) in
    let (d, here, called) = what-stands s n c.args.part k in
    let same = is-one d (skipped (skipped_of c.in-Skipped.field-0)) (sym here ∙ at) in
    let none : None ≡ Some n = sym (ap declared_name same) ∙ called in
    absurd (cc)
  where
    is-one : (d e : Declaration) → Some d ≡ Some e → d ≡ e
    is-one d e h = cc
