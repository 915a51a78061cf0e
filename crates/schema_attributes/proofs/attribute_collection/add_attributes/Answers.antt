use Rattle.std.proofs.Common.{◌≡◌, ℕ, map, length, sym, ◌∙◌, arith}
use Rattle.std.proofs.lemmas.List.{length-map}
use Rattle.express_syntax.specs.Views.{attribute_of}
use Rattle.schema_attributes.specs.declared.attribute_collection.Class.TheVariants as classes
use Rattle.schema_names.specs.Schemas.{the_schema}
use Rattle.schema_attributes.specs.steps.Gathering.{Says}
use Rattle.schema_attributes.proofs.Gathered.{none-yet, one-more, at-length, seen}
use Rattle.schema_attributes.proofs.attribute_collection.add_attributes.Goals as goal

pub loop-n-init : goal.loop-n-init
loop-n-init c =
    none-yet (λ (m : ℕ). Says (the_schema c.args.sources.now.names.now) classes.Explicit (record { entity = c.args.entity; data_type = c.args.data_type; derivation = c.args.derivation })) (map attribute_of c.args.attributes.now)
    c.args.table.now

pub loop-n-preserved : goal.loop-n-preserved
loop-n-preserved c =
    let xs = c.args.attributes.now in
    let n = c.loop-n.n in
    let x = c.index-attributes-n.result in
    one-more (λ (m : ℕ). Says (the_schema c.args.sources.now.names.now) classes.Explicit (record { entity = c.args.entity; data_type = c.args.data_type; derivation = c.args.derivation })) (map attribute_of xs) n (attribute_of x)
    c.args.table.now c.loop-n.table c.add_attribute.new.table
    (seen attribute_of xs n x c.loop-n-test.true c.index-attributes-n.is) c.loop-n.invariant c.in_ok-add_attribute.ensures

pub returns : goal.returns
returns c =
    let xs = c.args.attributes.now in
    let n = c.loop-n.n in
    let before = c.loop-n.auto.n-end in
    let after = c.loop-n-test.false in
    let end : n ≡ length xs = omega (arith, before, after) in
    at-length (λ (m : ℕ). Says (the_schema c.args.sources.now.names.now) classes.Explicit (record { entity = c.args.entity; data_type = c.args.data_type; derivation = c.args.derivation })) (map attribute_of xs) n
    c.args.table.now c.loop-n.table (end ∙ sym (length-map xs attribute_of)) c.loop-n.invariant
