use Rattle.std.proofs.Common.{rules, tests, ◌∙◌}
use Rattle.std.specs.Prelude.{bytes_eq}
use Rattle.std.proofs.lemmas.Iterator.Search.{any_from_yields_List}
use Rattle.std.proofs.lemmas.Iterator.{YieldsList-from_slice}
use Rattle.express_syntax.specs.ExpressionViews.{capitals}
use Rattle.step_literals.specs.declared.literal.Word.{Word}
use Rattle.rule_names.proofs.Enumerations.{among_words}
use Rattle.rule_names.proofs.items.is_among.Goals as goal

pub returns : goal.returns
returns c =
    let xs = c.args.names.now in
    let n = capitals c.args.name in
    let run =
    any_from_yields_List (λ (x : Word). bytes_eq n (capitals x)) _ _ _ c.any.ensures.ran (YieldsList-from_slice xs cc)
    (λ x b q k. search (rules, tests)) in
    run ∙ among_words n xs
