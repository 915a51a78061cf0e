use Rattle.std.proofs.Common.{OnOk, refl, subst, sym}
use Rattle.express_syntax.specs.ExpressionViews.{capitals}
use Rattle.express_syntax.specs.Schemas.{entity}
use Rattle.express_syntax.specs.Views.{entity_of, derived_of}
use Rattle.schema_semantics.specs.Parts.{for_each, parts_of_derived}
use Rattle.schema_names.proofs.Clauses.{clause-listed}
use Rattle.schema_attribute_references.specs.steps.Taking.{schema_in}
use Rattle.schema_unchecked_declarations.specs.UncheckedLists.{Adds, unchecked_in}
use Rattle.schema_unchecked.specs.steps.Places.{AreDerivationsFrom}
use Rattle.schema_unchecked.proofs.Standing.{stands-here}
use Rattle.schema_unchecked.proofs.Deriving.{derivations-of}
use Rattle.schema_unchecked.proofs.derived_attributes.add_derived_attributes.Goals as goal

pub add_deriveds-requires-clause-numbered : goal.add_deriveds-requires-clause-numbered
add_deriveds-requires-clause-numbered c =
    let s = schema_in c.args.findings.now.known in
    let e = entity_of c.args.entity.now in
    subst (AreDerivationsFrom s e.name c.args.first)
    (sym (clause-listed derived_of c.args.entity.now.derived c.derived_attributes.result.now
    c.derived_attributes.ensures))
    (derivations-of s c.args.number c.args.first e c.requires.at
    (stands-here s c.requires.found.known.resolved c.args.number (entity e) e.name c.requires.at refl) c.requires.first)

pub returns : goal.returns
returns c =
    let s = schema_in c.args.findings.now.known in
    subst (λ ds. OnOk c.add_deriveds.result (Adds
    (for_each (parts_of_derived s (capitals c.args.entity.now.name)) ds)
    (unchecked_in c.args.list.now.items) (unchecked_in c.add_deriveds.new.list.items)))
    (clause-listed derived_of c.args.entity.now.derived c.derived_attributes.result.now c.derived_attributes.ensures)
    c.add_deriveds.ensures
