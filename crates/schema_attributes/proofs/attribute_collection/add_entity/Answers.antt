use Rattle.std.proofs.Common.{ap, sym, subst, map, length}
use Rattle.std.proofs.lemmas.Result.{on_ok_weaker}
use Rattle.express_syntax.specs.Views.{explicit_of, derived_of, inverse_of}
use Rattle.schema_names.specs.Schemas.{the_schema}
use Rattle.schema_names.proofs.Clauses.{clause-listed}
use Rattle.schema_attributes.specs.steps.Gathering.{AddsAll, AreKnownFrom, SaysClauses}
use Rattle.schema_attributes.proofs.attribute_collection.add_entity.Goals as goal

pub add_clauses-requires-clause-known : goal.add_clauses-requires-clause-known
add_clauses-requires-clause-known c =
    subst (λ m. AreKnownFrom (the_schema c.args.sources.now.names.now) m c.args.owner.now.row.now)
    (sym (ap length c.deref.ensures.value)) c.requires.known

pub returns : goal.returns
returns c =
    let s = the_schema c.args.sources.now.names.now in
    let e = c.args.entity.now in
    on_ok_weaker c.add_clauses.result (λ h.
    subst (λ says. AddsAll c.args.table.now says c.add_clauses.new.table)
    (λ i. SaysClauses s c.args.owner.now.entity c.args.owner.now.row.now c.args.owner.now.count
    (map explicit_of (c.deref.ensures.value i))
    (clause-listed derived_of e.derived c.derived_attributes.result.now c.derived_attributes.ensures i)
    (clause-listed inverse_of e.inverses c.inverse_attributes.result.now c.inverse_attributes.ensures i))
    h) c.add_clauses.ensures
