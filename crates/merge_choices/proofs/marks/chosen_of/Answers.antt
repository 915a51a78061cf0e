use Rattle.std.specs.Prelude.{◌≡◌}
use Rattle.std.proofs.Common.{ap, refl, ◌∙◌, map}
use Rattle.express_syntax.specs.Views.{declaration_of}
use Rattle.express_syntax.specs.SchemaViews.{schema_of}
use Rattle.merge_choices.specs.ChosenEntities.{names_of, is_marked}
use Rattle.merge_choices.proofs.Marking.{marked, of-entities}
use Rattle.merge_choices.proofs.marks.chosen_of.Goals as goal

pub returns : goal.returns
returns c =
    let choice = names_of c.args.choice.now.names in
    let s = schema_of c.args.schema.now in
    let are : c.in_ok-marks.marks.items ≡ map (is_marked choice) s.declarations = c.in_ok-marks.ensures
    ∙ ap (λ ds. map (is_marked choice) (map declaration_of ds)) c.deref.ensures.value in
    ((marked s choice c.in_ok-marks.marks.items are, refl), of-entities s choice c.in_ok-marks.marks.items are)
