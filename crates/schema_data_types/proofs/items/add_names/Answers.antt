use Rattle.std.proofs.Common.{◌∙◌, ◌<◌, ◌+◌, ◌||◌, ◌∷◌, [], length, take, ap, arith}
use Rattle.std.specs.Prelude.{is_some}
use Rattle.std.proofs.lemmas.List.{take_all}
use Rattle.indexmap.specs.IndexMap.{get}
use Rattle.express_syntax.specs.ExpressionViews.{capitals}
use Rattle.express_syntax.specs.Views.{names_of}
use Rattle.schema_names.specs.Words.{same_word}
use Rattle.schema_data_types.specs.steps.Enumerated.{includes}
use Rattle.schema_data_types.proofs.Enumerated.{includes-more, includes-one, mapped-more}
use Rattle.schema_data_types.proofs.items.add_names.Goals as goal

pub loop-name-preserved : goal.loop-name-preserved
loop-name-preserved c w =
    let names = c.args.names.now in
    let at = c.loop-name.name-index in
    let name = c.name-item.result in
    let lt : at < length names = omega (arith, c.loop-name-test.true) in
    let old = is_some (get same_word c.loop-name.known w) in
    includes-more (names_of (take at names)) (capitals name ∷ []) (names_of (take (at + 1) names)) (capitals w)
    (is_some (get same_word c.args.known.now w)) old (is_some (get same_word c.add_name.new.known w))
    (mapped-more capitals names at name lt c.name-item.is) (c.loop-name.invariant w)
    (c.in_ok-add_name.ensures w ∙ ap (λ b. old || b) (includes-one (capitals name) (capitals w)))

pub returns : goal.returns
returns c w =
    c.loop-name.invariant w
    ∙ ap (λ ns. is_some (get same_word c.args.known.now w) || includes (names_of ns) (capitals w))
    (take_all c.loop-name.name-index c.args.names.now c.loop-name-test.false)
