use Rattle.std.proofs.Common.{◌≡◌, ◌<◌, ◌++◌, ◌∷◌, [], take, sym, subst, length, arith, get_or}
use Rattle.std.proofs.lemmas.List.{take_all, get_or_default}
use Rattle.graphs.proofs.Found.{at-member}
use Rattle.schema_names.specs.Schemas.{the_schema}
use Rattle.schema_names.proofs.Rows.{take-more}
use Rattle.schema_data_types.specs.steps.Values.{AddsAll}
use Rattle.schema_data_types.specs.steps.Leaves.{Gives, OneGives}
use Rattle.schema_data_types.proofs.Sets.{adds-alike, adds-both}
use Rattle.schema_data_types.proofs.Declared.{one-more}
use Rattle.schema_data_types.proofs.values.add_parts.Goals as goal

pub add_part-requires-clause-named : goal.add_part-requires-clause-named
add_part-requires-clause-named c =
    let at = c.loop-part.part-index in
    let lt : at < length c.args.row.now = omega (arith, c.loop-part-test.true) in
    c.requires.named (get_or c.args.row.now at 0) (at-member c.args.row.now at 0 lt)

pub loop-part-preserved : goal.loop-part-preserved
loop-part-preserved c =
    let s = the_schema c.args.tables.now.names.now in
    let w = c.args.is_of_select in
    let row = c.args.row.now in
    let at = c.loop-part.part-index in
    let old = c.args.atoms.now.items in
    let new = c.add_part.new.atoms.items in
    let lt : at < length row = omega (arith, c.loop-part-test.true) in
    let part = get_or row at 0 in
    let (n, k) = c.requires.named part (at-member row at 0 lt) in
    let here : part ≡ get_or row at part = get_or_default row at 0 part lt in
    subst (λ xs. AddsAll s old (OneGives s xs w) new) (sym (take-more row at part lt here))
    (adds-alike s old new _ (OneGives s (take at row ++ part ∷ []) w) (one-more s (take at row) part n w k)
    (adds-both s old c.loop-part.atoms.items new (OneGives s (take at row) w) (Gives s n w) c.loop-part.invariant
    (c.in_ok-add_part.ensures n k)))

pub returns : goal.returns
returns c =
    let s = the_schema c.args.tables.now.names.now in
    subst (λ xs. AddsAll s c.args.atoms.now.items (OneGives s xs c.args.is_of_select) c.loop-part.atoms.items)
    (take_all c.loop-part.part-index c.args.row.now c.loop-part-test.false) c.loop-part.invariant
