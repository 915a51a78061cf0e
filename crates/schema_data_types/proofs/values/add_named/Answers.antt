use Rattle.std.proofs.Common.{rules, ◌≡◌, true, length, vec_len, subst, arith}
use Rattle.std.proofs.lemmas.Result.{on_ok_weaker}
use Rattle.graphs.specs.Graphs.{has}
use Rattle.graphs.proofs.RowLists.{row-is}
use Rattle.express_syntax.specs.Schemas.{named}
use Rattle.schema_semantics.specs.Shapes.{IsOf}
use Rattle.schema_names.specs.Schemas.{the_schema}
use Rattle.schema_data_types.specs.steps.Values.{AddsAll}
use Rattle.schema_data_types.specs.steps.Leaves.{OneGives}
use Rattle.schema_data_types.proofs.Sets.{adds-alike}
use Rattle.schema_data_types.proofs.Declared.{giving-named, named-is, parts-within}
use Rattle.schema_data_types.proofs.values.add_named.Goals as goal

pub index-requires : goal.index-requires
index-requires c =
    let (n, k) = c.requires.named in
    let are = c.requires.tables.parts in
    let giving = c.args.tables.now.parts.now.giving in
    let lt = parts-within (the_schema c.args.tables.now.names.now) (λ v. v.items) giving.items are.graph _ are.drawn are.giving n c.args.part k in
    let whole : length giving.items ≡ vec_len giving = search rules in
    omega (arith, lt, whole)

pub add_parts-requires-clause-named : goal.add_parts-requires-clause-named
add_parts-requires-clause-named c j h =
    let s = the_schema c.args.tables.now.names.now in
    let (n, k) = c.requires.named in
    let are = c.requires.tables.parts in
    let rows = c.args.tables.now.parts.now.giving.items in
    let within = parts-within s (λ v. v.items) rows are.graph _ are.drawn are.giving n c.args.part k in
    let row =
    row-is (λ v. v.items) rows c.args.part c.index.result.now c.deref.result.now within c.index.ensures c.deref.ensures.value in
    let (m, there, way) =
    giving-named s c.args.tables.now.parts.now are n c.args.part j k (subst (λ xs. has xs j ≡ true) row h) in
    (m, there)

pub returns : goal.returns
returns c n k =
    let s = the_schema c.args.tables.now.names.now in
    let are = c.requires.tables.parts in
    let rows = c.args.tables.now.parts.now.giving.items in
    let w = c.is_over_select-is_of_select.result in
    let old = c.args.atoms.now.items in
    let new = c.add_parts.new.atoms.items in
    let within = parts-within s (λ v. v.items) rows are.graph _ are.drawn are.giving n c.args.part k in
    let row =
    row-is (λ v. v.items) rows c.args.part c.index.result.now c.deref.result.now within c.index.ensures c.deref.ensures.value in
    on_ok_weaker c.add_parts.result (λ h. adds-alike s old new _ (IsOf s (named n))
    (named-is s c.args.tables.now.parts.now are n c.args.part w k (c.is_over_select-is_of_select.ensures n k))
    (subst (λ xs. AddsAll s old (OneGives s xs w) new) row h)) c.add_parts.ensures
