use Rattle.std.proofs.Common.{rules, ◌≡◌, ◌∙◌, length, vec_len, ap, sym, subst, arith}
use Rattle.graphs.specs.Graphs.{has}
use Rattle.graphs.proofs.Found.{has-turned}
use Rattle.graphs.proofs.RowLists.{row-is}
use Rattle.schema_names.specs.Schemas.{the_schema}
use Rattle.schema_data_types.proofs.Leading.{Tells}
use Rattle.schema_data_types.proofs.Declared.{over-told, parts-within}
use Rattle.schema_data_types.proofs.values.is_over_select.Goals as goal

pub index-requires : goal.index-requires
index-requires c =
    let (n, k) = c.requires.named in
    let are = c.requires.tables.parts in
    let selects = c.args.tables.now.parts.now.selects in
    let lt = parts-within (the_schema c.args.tables.now.names.now) (λ v. v.items) selects.items are.graph _ are.drawn are.selects n c.args.part k in
    let whole : length selects.items ≡ vec_len selects = search rules in
    omega (arith, lt, whole)

pub returns : goal.returns
returns c n k =
    let s = the_schema c.args.tables.now.names.now in
    let are = c.requires.tables.parts in
    let rows = c.args.tables.now.parts.now.selects.items in
    let within = parts-within s (λ v. v.items) rows are.graph _ are.drawn are.selects n c.args.part k in
    let row =
    row-is (λ v. v.items) rows c.args.part c.index.result.now c.deref.result.now within c.index.ensures c.deref.ensures.value in
    subst (Tells s n)
    (sym (c.contains.ensures.value ∙ has-turned c.deref.result.now 0 ∙ ap (λ r. has r 0) row))
    (over-told s c.args.tables.now.parts.now are n c.args.part k)
