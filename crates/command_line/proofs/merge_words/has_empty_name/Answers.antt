use Rattle.std.proofs.Common.{◌==◌, ◌∙◌, ap, length, lit<, rules, sym, tests}
use Rattle.std.proofs.lemmas.Iterator.Search.{any_from_yields_List}
use Rattle.std.proofs.lemmas.Iterator.Splits.{YieldsList-from_str_split}
use Rattle.command_line.specs.steps.Options.{text_of}
use Rattle.command_line.specs.Commands.{has_empty_name}
use Rattle.command_line.proofs.merge_words.has_empty_name.Goals as goal

pub returns-in-Some : goal.returns-in-Some
returns-in-Some c = any_from_yields_List (λ name. length name == 0) _ _ _ c.any.ensures.ran
    (YieldsList-from_str_split 44 c.in-Some.names.now (lit< tt) c.split.ensures.text c.split.ensures.has_more
    c.split.ensures.pattern) (λ x b q k. search (rules, tests))
    ∙ ap (λ m. has_empty_name (text_of m)) (sym c.in-Some.is)
