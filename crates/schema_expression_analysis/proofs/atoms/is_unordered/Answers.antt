use Rattle.std.proofs.Common.{rules, tests, ◌∙◌, ◌↔◌, IsTrue, ap, sym, subst, length}
use Rattle.std.proofs.lemmas.List.{length-map}
use Rattle.std.proofs.lemmas.Iterator.Search.{any_from_yields_List}
use Rattle.std.proofs.lemmas.Iterator.{YieldsList-from_slice}
use Rattle.schema_semantics.specs.Reasons.{HasBareValue, MayBeDeep, MayBeUnordered}
use Rattle.schema_names.specs.Schemas.{the_schema}
use Rattle.schema_data_types.specs.NumberedTypes.{form_in, all_data_types}
use Rattle.schema_data_types.specs.steps.Values.{Holds}
use Rattle.schema_expression_analysis.specs.steps.Questions.{is_deep_atom, is_bare_atom, is_unordered_atom}
use Rattle.schema_expression_analysis.proofs.Members.{deep-decides, bare-decides, unordered-decides}
use Rattle.schema_expression_analysis.proofs.atoms.is_unordered.Goals as goal

pub returns : goal.returns
returns c =
    let s = the_schema c.args.tables.now.names.now in
    let xs = c.args.atoms.now in
    let run =
    any_from_yields_List (is_unordered_atom) _ _ _ c.any.ensures.ran (YieldsList-from_slice xs cc)
    (λ x b q k. search (rules, tests)) in
    subst (λ b. IsTrue b ↔ MayBeUnordered (Holds s xs)) (sym run) (unordered-decides s xs)
