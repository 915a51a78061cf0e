use Rattle.std.proofs.Common.{length, ap, subst, ◌∙◌}
use Rattle.std.specs.Prelude.{nat_eq}
use Rattle.std.proofs.lemmas.Result.{on_ok_weaker}
use Rattle.indexmap.specs.IndexMap.{get}
use Rattle.express_syntax.specs.Views.{names_of}
use Rattle.schema_names.specs.steps.Enumerated.{includes}
use Rattle.schema_names.proofs.Rowed.{row-added}
use Rattle.schema_names.proofs.attribute_names.add_row.Goals as goal

pub returns : goal.returns
returns c =
    on_ok_weaker c.insert.result
    (λ inserted. row-added c.args.declarations.now c.args.class (get nat_eq c.args.rows.now)
    (get nat_eq c.insert.new.rows) c.args.number c.index-declarations-number.result c.in_ok-in_order.field-0
    c.requires.within c.index-declarations-number.is c.requires.rows inserted (
      c.in_ok-in_order.ensures.sorted,
      λ n. c.in_ok-in_order.ensures.same n
          ∙ ap (λ ws. includes (names_of ws) n) c.deref.ensures.value
          ∙ ap (λ ns. includes ns n) c.in_ok-names.ensures,
    ))
    c.insert.ensures
