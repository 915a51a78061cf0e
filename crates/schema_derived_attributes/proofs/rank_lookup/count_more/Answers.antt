use Rattle.std.proofs.Common.{◌≡◌, ap, sym, length, arith, ◌∙◌}
use Rattle.std.proofs.lemmas.List.{length-map}
use Rattle.express_syntax.specs.Views.{derived_of, declaration_of}
use Rattle.schema_attributes.specs.Derivations.{derivations_in}
use Rattle.schema_derived_attributes.proofs.Asking.{count-of}
use Rattle.schema_derived_attributes.proofs.rank_lookup.count_more.Goals as goal

pub returns : goal.returns
returns c =
    let xs = c.deriveds_in-more.result.now in
    let same : length xs ≡ length (derivations_in (declaration_of c.args.declaration.now)) =
    sym (length-map xs derived_of) ∙ ap length c.deriveds_in-more.ensures
    ∙ sym (count-of (declaration_of c.args.declaration.now)) in
    omega (arith, same)
