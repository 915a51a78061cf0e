use Rattle.std.proofs.Common.{◌∙◌, ◌+◌, ◌⊎◌, ap, sym, subst, map, length}
use Rattle.std.proofs.lemmas.List.{length-map}
use Rattle.std.proofs.lemmas.Result.{on_ok_weaker}
use Rattle.express_syntax.specs.Views.{explicit_of, derived_of, inverse_of}
use Rattle.schema_names.specs.Schemas.{the_schema}
use Rattle.schema_attributes.specs.steps.Gathering.{AddsAll, SaysExplicit, SaysDerived, SaysInverse, AreNth}
use Rattle.schema_attributes.proofs.Gathered.{adds-both}
use Rattle.schema_attributes.proofs.attribute_collection.add_clauses.Goals as goal

pub returns : goal.returns
returns c =
    let s = the_schema c.args.sources.now.names.now in
    let i = c.args.owner.now.entity in
    let row = c.args.owner.now.row.now in
    let xs = map explicit_of c.args.explicits.now in
    let ds = map derived_of c.args.deriveds.now in
    let is = map inverse_of c.args.inverses.now in
    let old = c.args.table.now in
    let one = c.add_explicits.new.table in
    let two = c.add_deriveds.new.table in
    let new = c.add_inverses.new.table in
    let many = sym (length-map c.args.explicits.now explicit_of) in
    let more = sym (length-map c.args.deriveds.now derived_of) in
    let first = c.in_ok-first.ensures ∙ ap (λ m. m + length c.args.deriveds.now) many
    ∙ ap (λ m. length xs + m) more in
    let says = AreNth (SaysExplicit s i row) xs in
    let derives = AreNth (SaysDerived s i row (length xs) c.args.owner.now.count) ds in
    on_ok_weaker c.add_inverses.result (λ h.
    adds-both old two new (λ a x. says a x ⊎ derives a x) (AreNth (SaysInverse s i row (length xs + length ds)) is)
    (adds-both old one two says derives c.in_ok-add_explicits.ensures
    (subst (λ m. AddsAll one (AreNth (SaysDerived s i row m c.args.owner.now.count) ds) two) many
    c.in_ok-add_deriveds.ensures))
    (subst (λ m. AddsAll two (AreNth (SaysInverse s i row m) is) new) first h)) c.add_inverses.ensures
