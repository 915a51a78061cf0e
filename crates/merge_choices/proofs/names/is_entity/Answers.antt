use Rattle.std.proofs.Common.{rules, tests, ◌∙◌, map}
use Rattle.std.proofs.lemmas.Iterator.Search.{any_from_yields_List}
use Rattle.std.proofs.lemmas.Iterator.{YieldsList-from_slice}
use Rattle.step_literals.specs.Words.{upper}
use Rattle.express_syntax.specs.Views.{declaration_of}
use Rattle.schema_explicit_attributes.proofs.Owning.{any-mapped}
use Rattle.merge_choices.specs.ChosenEntities.{has_name}
use Rattle.merge_choices.proofs.Entities.{each-named}
use Rattle.merge_choices.proofs.names.is_entity.Goals as goal

pub returns : goal.returns
returns c =
    any_from_yields_List (λ d. has_name (upper c.args.name.now) (declaration_of d)) _ _ _ c.any.ensures.ran
    (YieldsList-from_slice c.args.schema.now.declarations.items cc) (λ x b q k. search (rules, tests))
    ∙ any-mapped declaration_of (has_name (upper c.args.name.now)) c.args.schema.now.declarations.items
    ∙ each-named (upper c.args.name.now) (map declaration_of c.args.schema.now.declarations.items)
