use Rattle.std.proofs.Common.{rules, tests, ◌∙◌, map, string_bytes}
use Rattle.std.proofs.lemmas.Iterator.Search.{any_from_yields_List}
use Rattle.std.proofs.lemmas.Iterator.{YieldsList-from_slice}
use Rattle.step_literals.specs.Words.{upper}
use Rattle.schema_explicit_attributes.proofs.Owning.{any-mapped}
use Rattle.merge_choices.specs.ChosenEntities.{chosen_by}
use Rattle.merge_choices.proofs.names.is_given.Goals as goal

pub returns : goal.returns
returns c =
    any_from_yields_List (λ t. chosen_by (upper c.args.name.now) (upper (string_bytes t))) _ _ _ c.any.ensures.ran
    (YieldsList-from_slice c.args.given.now cc) (λ x b q k. search (rules, tests))
    ∙ any-mapped string_bytes (λ b. chosen_by (upper c.args.name.now) (upper b)) c.args.given.now
    ∙ any-mapped upper (chosen_by (upper c.args.name.now)) (map string_bytes c.args.given.now)
