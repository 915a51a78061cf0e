use Rattle.std.proofs.Common.{◌≡◌, ◌∙◌, ◌+◌, ◌-◌, ◌<◌, length, drop, ap, arith}
use Rattle.std.specs.Prelude.{Some, if◌then◌else◌}
use Rattle.express_syntax.specs.Views.{declaration_of}
use Rattle.schema_names.specs.Numbers.{number_from}
use Rattle.schema_names.specs.Schemas.{the_schema}
use Rattle.rule_values.specs.NamedValues.{names_entry}
use Rattle.rule_values.proofs.Naming.{mapped-length, from-next}
use Rattle.rule_values.proofs.types.numbers_of.Goals as goal

pub loop-i-preserved : goal.loop-i-preserved
loop-i-preserved c n =
    let s = the_schema c.args.bases.now.names.now in
    let last = c.loop-i.i - 1 in
    let test = c.loop-i-test.true in
    let end = c.loop-i.auto.i in
    let len = c.len-i.ensures in
    let seen = mapped-length declaration_of c.args.bases.now.names.now.schema.now.declarations.items in
    let next : c.loop-i.i ≡ c.loop-i.i - 1 + 1 = omega (arith, test) in
    let within : c.loop-i.i - 1 < length s.declarations = omega (arith, test, end, len, seen) in
    c.in_ok-add_name.ensures n
    ∙ ap (λ o. if names_entry s last n then Some last else o) (c.loop-i.invariant n)
    ∙ ap (λ j. if names_entry s last n then Some last else number_from j (drop j s.declarations) n) next
    ∙ from-next s.declarations (c.loop-i.i - 1) n within

pub returns : goal.returns
returns c n =
    let s = the_schema c.args.bases.now.names.now in
    let test = c.loop-i-test.false in
    let none : c.loop-i.i ≡ 0 = omega (arith, test) in
    c.loop-i.invariant n ∙ ap (λ j. number_from j (drop j s.declarations) n) none
