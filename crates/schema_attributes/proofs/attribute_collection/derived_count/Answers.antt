use Rattle.std.proofs.Common.{◌∙◌, ap, sym, length, map}
use Rattle.std.proofs.lemmas.List.{length-map}
use Rattle.express_syntax.specs.Views.{declaration_of, derived_of, entity_of}
use Rattle.schema_semantics.specs.Names.{listed}
use Rattle.schema_names.proofs.Clauses.{clause-listed}
use Rattle.schema_attributes.specs.Derivations.{derivations_in}
use Rattle.schema_attributes.proofs.Rows.{derivations-many}
use Rattle.schema_attributes.proofs.attribute_collection.derived_count.Goals as goal

pub returns-in-Entity : goal.returns-in-Entity
returns-in-Entity c =
    let e = c.in-Entity.entity in
    let ds = c.derived_attributes.result.now in
    sym (length-map ds derived_of)
    ∙ ap length (clause-listed derived_of e.derived ds c.derived_attributes.ensures)
    ∙ sym (derivations-many (entity_of e).name 0 (listed (entity_of e).derived))
    ∙ ap (λ d. length (derivations_in (declaration_of d))) (sym c.in-Entity.is)
