use Rattle.std.proofs.Common.{◌≡◌, arith}
use Rattle.graphs.proofs.RowLists.{rows-more}
use Rattle.schema_underlying_types.specs.BaseEntries.{item_of}
use Rattle.schema_underlying_types.proofs.items.own_rows.Goals as goal

pub loop-i-preserved : goal.loop-i-preserved
loop-i-preserved c = record {
  long = omega (arith, c.in_ok-push.ensures.len, c.loop-i.invariant.long);
  rows = rows-more (λ v. v.items) (λ a r. r ≡ item_of c.args.declared.now a) c.loop-i.rows.items c.push.new.self.items
      c.in_ok-row.row c.loop-i.i c.loop-i.invariant.long c.in_ok-push.ensures.items c.loop-i.invariant.rows
      c.in_ok-row.ensures;
}

pub returns-clause-length : goal.returns-clause-length
returns-clause-length c =
    let test = c.loop-i-test.false in
    let end = c.loop-i.auto.i-end in
    let all = c.loop-i.invariant.long in omega (arith, test, end, all)

pub returns-clause-rows : goal.returns-clause-rows
returns-clause-rows c i lt =
    let test = c.loop-i-test.false in c.loop-i.invariant.rows i (omega (arith, lt, test))
