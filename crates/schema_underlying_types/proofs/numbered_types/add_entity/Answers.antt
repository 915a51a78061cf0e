use Rattle.std.proofs.Common.{subst, map, ◌++◌, ◌∙◌, sym, ap}
use Rattle.std.specs.Prelude.{flat_map}
use Rattle.std.proofs.lemmas.Result.{on_ok_weaker}
use Rattle.express_syntax.specs.Views.{explicit_of, derived_of, inverse_of}
use Rattle.schema_names.specs.Schemas.{the_schema}
use Rattle.schema_data_types.specs.NumberedTypes.{within, explicit_types, derived_types, inverse_types}
use Rattle.schema_underlying_types.specs.BaseEntries.{GoesOn}
use Rattle.schema_names.proofs.Clauses.{clause-listed}
use Rattle.schema_names.proofs.Rows.{flat-joined}
use Rattle.schema_underlying_types.proofs.Going.{goes-joined}
use Rattle.schema_underlying_types.proofs.numbered_types.add_entity.Goals as goal

pub returns : goal.returns
returns c =
    let s = the_schema c.args.names.now in
    let t = c.args.declared.now in
    let e = c.args.entity.now in
    let xs = explicit_types (map explicit_of c.deref.result.now) in
    let ds = derived_types (map derived_of c.derived_attributes.result.now) in
    let is = inverse_types (map inverse_of c.inverse_attributes.result.now) in
    let f = c.args.bases.now.items in
    let first =
    goes-joined s t f c.add_explicits.new.bases.items c.add_deriveds.new.bases.items (flat_map within xs)
    (flat_map within ds) c.in_ok-add_explicits.ensures c.in_ok-add_deriveds.ensures in
    let all = sym (flat-joined within (xs ++ ds) is
    ∙ ap (λ ks. ks ++ flat_map within is) (flat-joined within xs ds)) in
    on_ok_weaker c.add_inverses.result (λ h.
    subst (λ ks. GoesOn s t f (flat_map within ks) c.add_inverses.new.bases.items)
    (λ i. (explicit_types (map explicit_of (c.deref.ensures.value i))
    ++ derived_types (clause-listed derived_of e.derived c.derived_attributes.result.now c.derived_attributes.ensures
    i))
    ++ inverse_types (clause-listed inverse_of e.inverses c.inverse_attributes.result.now c.inverse_attributes.ensures
    i))
    (subst (λ ks. GoesOn s t f ks c.add_inverses.new.bases.items) all
    (goes-joined s t f c.add_deriveds.new.bases.items c.add_inverses.new.bases.items
    (flat_map within xs ++ flat_map within ds) (flat_map within is) first h))) c.add_inverses.ensures
