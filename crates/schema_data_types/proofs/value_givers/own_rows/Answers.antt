use Rattle.std.proofs.Common.{◌≡◌, ◌∙◌, length, ap, sym, arith}
use Rattle.std.proofs.lemmas.List.{length-map}
use Rattle.graphs.proofs.RowLists.{rows-more}
use Rattle.express_syntax.specs.Views.{declaration_of}
use Rattle.schema_names.specs.Schemas.{the_schema}
use Rattle.schema_data_types.specs.steps.Giving.{own_row}
use Rattle.schema_data_types.proofs.OwnRows.{own-all}
use Rattle.schema_data_types.proofs.value_givers.own_rows.Goals as goal

pub loop-i-preserved : goal.loop-i-preserved
loop-i-preserved c =
    let s = the_schema c.args.names.now in
    record {
      long = omega (arith, c.in_ok-push.ensures.len, c.loop-i.invariant.long);
      rows = rows-more (λ v. v.items) (λ a r. r ≡ own_row c.args.wanted s a) c.loop-i.rows.items
          c.push.new.self.items c.in_ok-row.row c.loop-i.i c.loop-i.invariant.long c.in_ok-push.ensures.items
          c.loop-i.invariant.rows c.in_ok-row.ensures;
    }

pub returns-clause-length : goal.returns-clause-length
returns-clause-length c =
    let test = c.loop-i-test.false in
    let end = c.loop-i.auto.i-end in
    let all = c.loop-i.invariant.long in
    let count : length c.loop-i.rows.items ≡ length c.declarations-i-end.result.now = omega (arith, test, end, all) in
    count ∙ ap length c.declarations-i-end.ensures

pub returns-clause-rows : goal.returns-clause-rows
returns-clause-rows c =
    let test = c.loop-i-test.false in
    let end = c.loop-i.auto.i-end in
    let all = c.loop-i.invariant.long in
    let count : length c.loop-i.rows.items ≡ length c.declarations-i-end.result.now = omega (arith, test, end, all) in
    own-all (the_schema c.args.names.now) (λ v. v.items) c.args.wanted c.loop-i.rows.items
    (count ∙ ap length c.declarations-i-end.ensures
    ∙ sym (length-map c.args.names.now.schema.now.declarations.items declaration_of))
    (λ a lt. c.loop-i.invariant.rows a (omega (arith, lt, all)))
