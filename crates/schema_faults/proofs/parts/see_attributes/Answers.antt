use Rattle.std.proofs.Common.{subst, flat_map}
use Rattle.express_syntax.specs.Views.{entity_of}
use Rattle.schema_semantics.specs.Names.{attribute_names}
use Rattle.schema_semantics.specs.Faults.{in_scope}
use Rattle.schema_faults.specs.steps.Repeated.{Sees}
use Rattle.schema_faults.specs.steps.Parts.{explicit_in, inverse_in}
use Rattle.schema_faults.proofs.Turning.{ok-also}
use Rattle.schema_faults.proofs.Declaring.{sees-attributes}
use Rattle.schema_faults.proofs.parts.see_attributes.Goals as goal

pub returns : goal.returns
returns c =
    let k = c.args.scope in
    let e = c.args.entity.now in
    let is = c.inverse_attributes.result.now in
    ok-also (λ _. Sees c.see_derived.new.seen c.see_inverses.new.seen (flat_map (inverse_in k) is))
    (λ _. Sees c.args.seen.now c.see_inverses.new.seen (in_scope k (attribute_names (entity_of e))))
    (λ _ h.
    sees-attributes k e c.derived_attributes.result.now is c.args.seen.now c.see_explicits.new.seen
    c.see_derived.new.seen c.see_inverses.new.seen c.derived_attributes.ensures c.inverse_attributes.ensures
    (subst (λ xs. Sees c.args.seen.now c.see_explicits.new.seen (flat_map (explicit_in k) xs)) c.deref.ensures.value
    c.in_ok-see_explicits.ensures) c.in_ok-see_derived.ensures h) c.see_inverses.result c.see_inverses.ensures
