use Rattle.std.proofs.Common.{ap, sym, subst, ◌∙◌}
use Rattle.std.specs.List.Sorted.{IsSorted}
use Rattle.express_syntax.specs.ExpressionViews.{capitals}
use Rattle.express_syntax.specs.Views.{names_of}
use Rattle.schema_names.specs.steps.Enumerated.{includes, by_name, words_at}
use Rattle.schema_names.proofs.Ordered.{row-there, no-row}
use Rattle.schema_names.proofs.names.Names.has_item.Goals as goal

pub has_word-requires : goal.has_word-requires
has_word-requires c =
    let found = c.in-Some.ensures.lookup in
    let i = c.args.number in
    subst (IsSorted by_name)
    (sym (c.deref-in-Some.ensures.value ∙ row-there c.deref.result.now i c.in-Some.row.now found.3.0 found.1
    ∙ ap (λ rows. words_at rows i) c.deref.ensures.value))
    (c.args.self.now.sorted i)

pub returns-in-Some : goal.returns-in-Some
returns-in-Some c =
    let found = c.in-Some.ensures.lookup in
    let i = c.args.number in
    c.has_word.ensures
    ∙ ap (λ ws. includes (names_of ws) (capitals c.args.name))
    (c.deref-in-Some.ensures.value ∙ row-there c.deref.result.now i c.in-Some.row.now found.3.0 found.1
    ∙ ap (λ rows. words_at rows i) c.deref.ensures.value)
    ∙ c.args.self.now.enumerated i (capitals c.args.name)

pub returns-in-None : goal.returns-in-None
returns-in-None c =
    let i = c.args.number in
    sym (ap (λ ws. includes (names_of ws) (capitals c.args.name))
    (ap (λ rows. words_at rows i) (sym c.deref.ensures.value)
    ∙ no-row c.deref.result.now i c.in-None.ensures.lookup.3))
    ∙ c.args.self.now.enumerated i (capitals c.args.name)
