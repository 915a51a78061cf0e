use Rattle.std.proofs.Common.{subst, sym, ◌∷◌, []}
use Rattle.express_syntax.specs.ExpressionViews.{capitals}
use Rattle.express_syntax.specs.Views.{entity_of, underlying_of, declaration_of as declaration_seen}
use Rattle.schema_semantics.specs.Names.{attribute_names}
use Rattle.schema_semantics.specs.Faults.{in_scope, enumerated_items}
use Rattle.schema_faults.specs.steps.Repeated.{Sees}
use Rattle.schema_faults.specs.steps.Parts.{declared_in}
use Rattle.schema_faults.proofs.Turning.{ok-also}
use Rattle.schema_faults.proofs.Declaring.{sees-on}
use Rattle.schema_faults.proofs.parts.see_declaration.Goals as goal

pub returns-in_ok-see-in-Type : goal.returns-in_ok-see-in-Type
returns-in_ok-see-in-Type c =
    let k = c.args.scope in
    let t = c.in-Type.declared in
    let items = in_scope k (enumerated_items (underlying_of t.underlying)) in
    ok-also (λ _. Sees c.see.new.seen c.see_items.new.seen items)
    (λ _. Sees c.args.seen.now c.see_items.new.seen (declared_in k (declaration_seen c.args.declaration.now)))
    (λ _ h.
    subst (λ d. Sees c.args.seen.now c.see_items.new.seen (declared_in k (declaration_seen d))) (sym c.in-Type.is)
    (sees-on c.args.seen.now c.see.new.seen c.see_items.new.seen ((0, capitals t.name) ∷ []) items
    c.in_ok-see-in-Type.ensures h)) c.see_items.result c.see_items.ensures

pub returns-in_ok-see-in-Entity : goal.returns-in_ok-see-in-Entity
returns-in_ok-see-in-Entity c =
    let k = c.args.scope in
    let e = c.in-Entity.entity in
    let names = in_scope k (attribute_names (entity_of e)) in
    ok-also (λ _. Sees c.see-in-Entity.new.seen c.see_attributes.new.seen names)
    (λ _. Sees c.args.seen.now c.see_attributes.new.seen (declared_in k (declaration_seen c.args.declaration.now)))
    (λ _ h.
    subst (λ d. Sees c.args.seen.now c.see_attributes.new.seen (declared_in k (declaration_seen d)))
    (sym c.in-Entity.is)
    (sees-on c.args.seen.now c.see-in-Entity.new.seen c.see_attributes.new.seen ((0, capitals e.name) ∷ []) names
    c.in_ok-see-in-Entity.ensures h)) c.see_attributes.result c.see_attributes.ensures
