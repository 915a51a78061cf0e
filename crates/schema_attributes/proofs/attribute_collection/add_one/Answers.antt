use Rattle.std.proofs.Common.{ℕ}
use Rattle.std.proofs.lemmas.Result.{on_ok_weaker}
use Rattle.express_syntax.specs.Views.{attribute_of}
use Rattle.schema_names.specs.Schemas.{the_schema}
use Rattle.schema_attributes.specs.steps.Gathering.{Says, SaysOne}
use Rattle.schema_attributes.proofs.Gathered.{Saying, adds-nothing, adds-alike, with-number, without-number}
use Rattle.schema_attributes.proofs.attribute_collection.add_one.Goals as goal

pub add_attribute-requires-clause-known : goal.add_attribute-requires-clause-known
add_attribute-requires-clause-known c = c.requires.known c.in-Some.data_type

pub returns-in-Some : goal.returns-in-Some
returns-in-Some c =
    let s = the_schema c.args.sources.now.names.now in
    let y = attribute_of c.args.attribute in
    let said : ℕ → Saying =
    λ k. Says s c.args.class (record { entity = c.args.declaration.entity; data_type = k; derivation = c.args.declaration.derivation }) y in
    on_ok_weaker c.add_attribute.result (adds-alike c.args.table.now c.add_attribute.new.table
    (said c.in-Some.data_type) (SaysOne s c.args.class c.args.declaration.entity c.args.declaration.data_type c.args.declaration.derivation y)
    (with-number said c.args.declaration.data_type c.in-Some.data_type c.in-Some.is)) c.add_attribute.ensures

pub returns-in-None : goal.returns-in-None
returns-in-None c =
    let s = the_schema c.args.sources.now.names.now in
    let y = attribute_of c.args.attribute in
    adds-nothing c.args.table.now (SaysOne s c.args.class c.args.declaration.entity c.args.declaration.data_type c.args.declaration.derivation y)
    (without-number (λ k. Says s c.args.class
    (record { entity = c.args.declaration.entity; data_type = k; derivation = c.args.declaration.derivation }) y) c.args.declaration.data_type c.in-None.is)
