use Rattle.std.proofs.Common.{◌≡◌, ◌∙◌, ◌↔◌, ◌<◌, ◌+◌, ◌||◌, true, false, length, map, take, ap, sym, subst, arith}
use Rattle.std.specs.Prelude.{is_some}
use Rattle.std.proofs.lemmas.List.{take_all}
use Rattle.indexmap.specs.IndexMap.{get}
use Rattle.express_syntax.specs.ExpressionViews.{capitals}
use Rattle.express_syntax.specs.Views.{declaration_of}
use Rattle.schema_semantics.specs.Names.{Name}
use Rattle.schema_semantics.specs.Sets.{IsItemOf}
use Rattle.schema_names.specs.Words.{same_word}
use Rattle.schema_names.specs.Schemas.{the_schema}
use Rattle.schema_data_types.specs.steps.Enumerated.{includes, all_items, items_in}
use Rattle.schema_data_types.proofs.Enumerated.{includes-more, items-more, all-told}
use Rattle.schema_data_types.proofs.items.Items.of.Goals as goal

pub loop-declaration-preserved : goal.loop-declaration-preserved
loop-declaration-preserved c w =
    let ds = c.declarations-declaration-items.result.now in
    let at = c.loop-declaration.declaration-index in
    let d = c.declaration-item.result in
    let lt : at < length ds = omega (arith, c.loop-declaration-test.true) in
    let old = is_some (get same_word c.loop-declaration.items w) in
    includes-more (all_items (map declaration_of (take at ds))) (items_in (declaration_of d))
    (all_items (map declaration_of (take (at + 1) ds))) (capitals w) false old
    (is_some (get same_word c.add_names.new.known w)) (items-more ds at d lt c.declaration-item.is)
    (c.loop-declaration.invariant w)
    (c.in_ok-add_names.ensures w ∙ ap (λ ns. old || includes ns (capitals w)) c.items_of.ensures)

pub returns : goal.returns
returns c w =
    let s = the_schema c.args.names.now in
    let ds = c.declarations-declaration-items.result.now in
    let all =
    c.loop-declaration.invariant w
    ∙ ap (λ xs. includes (all_items (map declaration_of xs)) (capitals w))
    (take_all c.loop-declaration.declaration-index ds c.loop-declaration-test.false
    ∙ c.declarations-declaration-items.ensures) in
    subst (λ b. (b ≡ true) ↔ ((n : Name) × IsItemOf s n (capitals w))) (sym all)
    (all-told s c.requires.resolved (capitals w))
