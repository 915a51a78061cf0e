use Rattle.std.proofs.Common.{◌≡◌, ◌∙◌, ◌↔◌, true, false, ap, sym, subst}
use Rattle.std.specs.Prelude.{◌&&◌, not}
use Rattle.graphs.specs.Graphs.{graph_of}
use Rattle.express_syntax.specs.ExpressionViews.{capitals}
use Rattle.schema_semantics.specs.Sets.{IsItemOf}
use Rattle.schema_names.specs.Schemas.{the_schema}
use Rattle.schema_data_types.proofs.Declared.{parts-within}
use Rattle.schema_data_types.specs.steps.Enumerated.{has_item_within}
use Rattle.schema_data_types.proofs.Enumerated.{has-number, item-told}
use Rattle.schema_data_types.proofs.items.is_item_of.Goals as goal

pub is_over_select-requires-clause-named : goal.is_over_select-requires-clause-named
is_over_select-requires-clause-named c = (capitals c.args.defined, sym c.find.ensures ∙ c.in-Some.is)

pub has_item_within-requires : goal.has_item_within-requires
has_item_within-requires c =
    let are = c.requires.tables.parts in
    parts-within (the_schema c.args.tables.now.names.now) (λ v. v.items) c.args.tables.now.parts.now.giving.items
    are.graph _ are.drawn are.giving (capitals c.args.defined) c.in-Some.part (sym c.find.ensures ∙ c.in-Some.is)

pub returns-then-not-is_over_select : goal.returns-then-not-is_over_select
returns-then-not-is_over_select c =
    let s = the_schema c.args.tables.now.names.now in
    let rows = graph_of c.args.tables.now.parts.now.giving.items in
    let n = capitals c.args.name in
    let t = capitals c.args.defined in
    let here = sym c.find.ensures ∙ c.in-Some.is in
    let told = item-told s c.args.tables.now.parts.now c.requires.tables.parts t n c.in-Some.part here
    c.is_over_select.result (c.is_over_select.ensures t here) in
    subst (λ b. (b ≡ true) ↔ IsItemOf s t n)
    (ap (λ b. not b && has_item_within s rows n c.in-Some.part) c.if-not-is_over_select.true
    ∙ sym c.has_item_within.ensures)
    told

pub returns-else-not-is_over_select : goal.returns-else-not-is_over_select
returns-else-not-is_over_select c =
    let s = the_schema c.args.tables.now.names.now in
    let rows = graph_of c.args.tables.now.parts.now.giving.items in
    let n = capitals c.args.name in
    let t = capitals c.args.defined in
    let here = sym c.find.ensures ∙ c.in-Some.is in
    let told = item-told s c.args.tables.now.parts.now c.requires.tables.parts t n c.in-Some.part here
    c.is_over_select.result (c.is_over_select.ensures t here) in
    subst (λ b. (b ≡ true) ↔ IsItemOf s t n)
    (ap (λ b. not b && has_item_within s rows n c.in-Some.part) c.if-not-is_over_select.false
    ∙ sym (ap not c.if-not-is_over_select.false))
    told

pub returns-in-None : goal.returns-in-None
returns-in-None c = (λ e. absurd (cc), none)
  where
    none : IsItemOf (the_schema c.args.tables.now.names.now) (capitals c.args.defined) (capitals c.args.name)
        → false ≡ true
    none h =
        let (i, k) = has-number (the_schema c.args.tables.now.names.now) (capitals c.args.defined)
        (capitals c.args.name) h in
        let q = sym k ∙ sym c.find.ensures ∙ c.in-None.is in absurd (cc)
