use Rattle.std.proofs.Common.{◌∙◌, sym, ap, subst}
use Rattle.step_structures.specs.Words.{name, number, string}
use Rattle.step_records.specs.Params.{node_value}
use Rattle.conformance.specs.Bases.{base}
use Rattle.schema_names.specs.Schemas.{the_schema}
use Rattle.schema_underlying_types.specs.BaseViews.{type_at}
use Rattle.population_rows.specs.Index.{found}
use Rattle.parameter_fits.specs.steps.References.{RefersWithin}
use Rattle.parameter_fits.proofs.Pushed.{whatever_asked}
use Rattle.parameter_fits.proofs.values.push_of_type.Goals as goal

pub push_reference-requires-clause-within : goal.push_reference-requires-clause-within
push_reference-requires-clause-within c =
    subst (RefersWithin (found c.args.index.now)) (sym c.node.ensures ∙ ap node_value c.in-Reference.is) c.requires.within

pub returns-in-Number : goal.returns-in-Number
returns-in-Number c =
    let s = the_schema c.args.bases.now.names.now in
    whatever_asked s c.args.builder.now c.push_number.new.self (λ d. base d (type_at s c.args.number))
    (number c.in-Number.literal.text.now) c.args.param (ap node_value (sym c.in-Number.is) ∙ c.node.ensures)
    c.push_number.result c.push_number.ensures

pub returns-in-Text : goal.returns-in-Text
returns-in-Text c =
    let s = the_schema c.args.bases.now.names.now in
    whatever_asked s c.args.builder.now c.push_text.new.self (λ d. base d (type_at s c.args.number))
    (string c.in-Text.text.text.now) c.args.param (ap node_value (sym c.in-Text.is) ∙ c.node.ensures)
    c.push_text.result c.push_text.ensures

pub returns-in-Reference : goal.returns-in-Reference
returns-in-Reference c =
    let s = the_schema c.args.bases.now.names.now in
    whatever_asked s c.args.builder.now c.push_reference.new.builder (λ d. base d (type_at s c.args.number))
    (name c.in-Reference.name _) c.args.param (ap node_value (sym c.in-Reference.is) ∙ c.node.ensures)
    c.push_reference.result c.push_reference.ensures
