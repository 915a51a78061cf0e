use Rattle.std.proofs.Common.{◌≡◌, ◌∙◌, ap, sym, true, false, Some, None}
use Rattle.std.specs.List.{list_all}
use Rattle.graphs.specs.Graphs.{graph_of}
use Rattle.express_syntax.specs.ExpressionViews.{capitals}
use Rattle.schema_names.specs.Schemas.{the_schema}
use Rattle.schema_underlying_types.specs.BaseViews.{name_at}
use Rattle.schema_attribute_sources.specs.steps.Deriving.{derives, first_giving}
use Rattle.schema_attribute_sources.specs.steps.Lowest.{leads, is_below}
use Rattle.schema_attribute_sources.proofs.Giving.{derives-first}
use Rattle.schema_attribute_sources.proofs.Deciding.{is-derived, lowest-is, none-is-lowest, lowest-number, gives-some}
use Rattle.schema_attribute_sources.proofs.sources.derived_source.Goals as goal

pub returns-then-not-is_below_all-clause-source : goal.returns-then-not-is_below_all-clause-source
returns-then-not-is_below_all-clause-source c inverses =
    let t = c.args.schema.now in
    let s = the_schema t.names in
    let a = capitals c.args.asked.name in
    let p = c.args.asked.entity in
    let lines = graph_of c.args.sources.now.lines.items in
    let above = graph_of t.above.items in
    let not : list_all (is_below (derives s lines a p) (leads above) c.args.lowest) c.args.types.now ≡ false =
    ap (λ rows. list_all (is_below (derives s (graph_of rows) a p) (leads above) c.args.lowest) c.args.types.now)
    (sym c.deref.ensures.value)
    ∙ sym c.is_below_all.ensures ∙ c.if-not-is_below_all.true in (
      is-derived s c.requires.made.resolved lines c.requires.sources.lines above c.requires.made.above a p (name_at s p)
          c.requires.asked c.args.types.now c.requires.types c.args.lowest c.requires.lowest,
      none-is-lowest s c.requires.made.resolved lines c.requires.sources.lines above c.requires.made.above a p
          (name_at s p) c.requires.asked c.args.types.now c.requires.types c.args.lowest c.requires.lowest not,
    )

pub returns-in-Some-clause-source : goal.returns-in-Some-clause-source
returns-in-Some-clause-source c inverses =
    let t = c.args.schema.now in
    let s = the_schema t.names in
    let a = capitals c.args.asked.name in
    let p = c.args.asked.entity in
    let e = c.args.lowest in
    let lines = graph_of c.args.sources.now.lines.items in
    let above = graph_of t.above.items in
    let all : list_all (is_below (derives s lines a p) (leads above) e) c.args.types.now ≡ true =
    ap (λ rows. list_all (is_below (derives s (graph_of rows) a p) (leads above) e) c.args.types.now)
    (sym c.deref.ensures.value)
    ∙ sym c.is_below_all.ensures ∙ c.if-not-is_below_all.false in
    let first : first_giving s lines a p e ≡ Some c.in-Some.number =
    ap (λ rows. first_giving s (graph_of rows) a p e) (sym c.deref-2.ensures.value) ∙ sym c.in-Some.ensures in (
      lowest-is s c.requires.made.resolved lines c.requires.sources.lines above c.requires.made.above a p (name_at s p)
          c.requires.asked c.args.types.now c.requires.types e c.requires.lowest all,
      (derives-first s c.requires.made.resolved lines c.requires.sources.lines a p (name_at s p) c.requires.asked e
          (name_at s e)
          (lowest-number s c.requires.made.resolved lines c.requires.sources.lines above c.requires.made.above a p
          (name_at s p) c.requires.asked c.args.types.now c.requires.types e c.requires.lowest) c.in-Some.number first).0,
    )

pub returns-in-Some-clause-numbered : goal.returns-in-Some-clause-numbered
returns-in-Some-clause-numbered c inverses =
    let t = c.args.schema.now in
    let s = the_schema t.names in
    let a = capitals c.args.asked.name in
    let p = c.args.asked.entity in
    let e = c.args.lowest in
    let lines = graph_of c.args.sources.now.lines.items in
    let above = graph_of t.above.items in
    let first : first_giving s lines a p e ≡ Some c.in-Some.number =
    ap (λ rows. first_giving s (graph_of rows) a p e) (sym c.deref-2.ensures.value) ∙ sym c.in-Some.ensures in
    let number =
    lowest-number s c.requires.made.resolved lines c.requires.sources.lines above c.requires.made.above a p
    (name_at s p) c.requires.asked c.args.types.now c.requires.types e c.requires.lowest in
    let there =
    (derives-first s c.requires.made.resolved lines c.requires.sources.lines a p (name_at s p) c.requires.asked e
    (name_at s e) number c.in-Some.number first).1 in
    (number, there.0, there.1)

pub returns-in-None-clause-source : goal.returns-in-None-clause-source
returns-in-None-clause-source c inverses =
    let t = c.args.schema.now in
    let s = the_schema t.names in
    let a = capitals c.args.asked.name in
    let p = c.args.asked.entity in
    let e = c.args.lowest in
    let lines = graph_of c.args.sources.now.lines.items in
    let above = graph_of t.above.items in
    let none : first_giving s lines a p e ≡ None =
    ap (λ rows. first_giving s (graph_of rows) a p e) (sym c.deref-2.ensures.value) ∙ sym c.in-None.ensures in
    absurd (gives-some s c.requires.made.resolved lines c.requires.sources.lines above c.requires.made.above a p
    (name_at s p) c.requires.asked c.args.types.now c.requires.types e c.requires.lowest none)
