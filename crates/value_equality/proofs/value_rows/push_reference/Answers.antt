use Rattle.std.proofs.Common.{◌∙◌, sym}
use Rattle.value_equality.proofs.Placing.{place_there}
use Rattle.value_equality.proofs.value_rows.push_reference.Goals as goal

pub push_reference-requires : goal.push_reference-requires
push_reference-requires c =
    place_there c.args.builder.now.names c.args.name c.in-Some.place
    (sym (c.requires.places c.args.name) ∙ sym c.find.ensures ∙ c.in-Some.is)
