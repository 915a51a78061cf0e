use Rattle.std.proofs.Common.{◌∙◌, sym, ap}
use Rattle.step_literals.specs.Strings.{content_of}
use Rattle.step_literals.specs.Words.{upper}
use Rattle.std.specs.Prelude.{◌++◌, ◌∷◌, bytes_eq}
use Rattle.rule_names.proofs.Spelt.{bytes_same, has_two, names_plain}
use Rattle.rule_names.proofs.qualified_names.is_dotted.Goals as goal

pub content-requires : goal.content-requires
content-requires c =
    has_two c.spelling.result.now c.args.string.now.text.now (λ i. (c.spelling.ensures i).now) c.args.string.now.spelled

pub returns : goal.returns
returns c =
    let text = c.args.string.now.text.now in
    let name = upper c.args.first.text.now ++ 46 ∷ upper c.args.second.text.now in
    c.are_dotted.ensures
    ∙ ap (λ l. bytes_eq l name) (c.content.ensures ∙ ap content_of (λ i. (c.spelling.ensures i).now))
    ∙ sym (bytes_same (content_of text) name
    (names_plain c.args.first.text.now c.args.second.text.now c.args.first.spelled c.args.second.spelled))
