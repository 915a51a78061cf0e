use Rattle.std.proofs.Common.{◌≡◌, ◌<◌, ◌+◌, ◌∙◌, ℕ, List, length, map, ap, sym, arith}
use Rattle.std.proofs.lemmas.List.{length-map, length_push}
use Rattle.graphs.proofs.RowLists.{rows-more}
use Rattle.express_syntax.specs.Views.{declaration_of}
use Rattle.schema_names.specs.Schemas.{the_schema}
use Rattle.schema_attribute_sources.specs.steps.Defined.{renamed_at}
use Rattle.schema_attribute_sources.proofs.Reading.{as-many}
use Rattle.rule_plans.specs.steps.Renamings.{as_row}
use Rattle.rule_plans.proofs.renamings.renamings.Goals as goal

pub loop-number-preserved : goal.loop-number-preserved
loop-number-preserved c =
    let s = the_schema c.args.names.now in
    record {
      many = ap length c.in_ok-push.ensures.items ∙ length_push c.loop-number.rows.items c.in_ok-row_of.field-0
          ∙ ap (λ n. n + 1) c.loop-number.invariant.many;
      each = rows-more (λ v. v.items) (λ i row. row ≡ as_row (renamed_at s i)) c.loop-number.rows.items
          c.push.new.self.items c.in_ok-row_of.field-0 c.loop-number.number c.loop-number.invariant.many
          c.in_ok-push.ensures.items c.loop-number.invariant.each c.in_ok-row_of.ensures;
    }

pub returns : goal.returns
returns c =
    let t = c.args.names.now.schema.now in
    let rows = c.loop-number.rows.items in
    let past = c.loop-number-test.false in
    let end = c.loop-number.auto.number-end in
    let many = c.loop-number.invariant.many in
    let seen = length-map t.declarations.items declaration_of in
    let long = length-map rows (λ v. v.items) in
    record {
      many = omega (arith, past, end, many, seen, long);
      each = λ i lt. let less = as-many t i lt in c.loop-number.invariant.each i (omega (arith, less, past));
    }
