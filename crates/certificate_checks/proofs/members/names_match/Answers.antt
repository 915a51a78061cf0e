use Rattle.std.proofs.Common.{◌<◌, ap, ◌∙◌, Some, arith, length}
use Rattle.value_equality.specs.Rows.{names}
use Rattle.value_equality.specs.TableViews.{table_of}
use Rattle.certificate_checks.proofs.Naming.{named, member_name, other_name, one_name_more}
use Rattle.certificate_checks.proofs.members.names_match.Goals as goal

pub returns-then-name : goal.returns-then-name
returns-then-name c =
    let ms = c.args.table.now.members.items in
    let i = c.loop-place.place in
    let within : i < length ms = omega (
      arith,
      c.len.ensures,
      c.if-len.false,
      c.len-2.ensures.length,
      c.len-place-end.ensures.length,
      c.loop-place-test.true,
    ) in
    other_name c.args.input.now (table_of c.args.table.now) i c.index.result.now.0 c.name.result
    (member_name ms i c.index.result.now within c.index.ensures) c.name.ensures c.if-name.true

pub loop-place-preserved : goal.loop-place-preserved
loop-place-preserved c =
    let ms = c.args.table.now.members.items in
    let i = c.loop-place.place in
    let within : i < length ms = omega (
      arith,
      c.len.ensures,
      c.if-len.false,
      c.len-2.ensures.length,
      c.len-place-end.ensures.length,
      c.loop-place-test.true,
    ) in
    one_name_more (named (table_of c.args.table.now).members) (names c.args.input.now) i c.name.result
    (member_name ms i c.index.result.now within c.index.ensures ∙ ap Some c.if-name.false) c.name.ensures
    c.loop-place.invariant
