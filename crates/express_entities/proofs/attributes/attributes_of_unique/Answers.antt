use Rattle.std.proofs.Common.{map, sym, ◌∙◌, refl}
use Rattle.std.proofs.lemmas.Result.{err_from_is_err_and}
use Rattle.express_token_runs.specs.steps.Items.{located_of}
use Rattle.express_syntax.specs.Views.{attribute_of}
use Rattle.express_syntax.specs.steps.Predict.{Uniques}
use Rattle.express_entities.proofs.AttributeSteps.{unique_refused, unique_on}
use Rattle.express_entities.proofs.attributes.attributes_of_unique.Goals as goal

pub returns-in_err-attributes : goal.returns-in_err-attributes
returns-in_err-attributes c =
    let p = err_from_is_err_and c.from_residual.result c.from_residual.ensures.1 in
    rw (p.1, p.2) (c.in_err-attributes.ensures Uniques refl)

pub returns-then-not-is_mark : goal.returns-then-not-is_mark
returns-then-not-is_mark c =
    unique_refused c.refuse.result (attribute_of c.args.first) (located_of c.args.next) c.args.reader.now
    (map attribute_of c.in_ok-attributes.attributes.items) (located_of c.in_ok-attributes.end)
    c.attributes.new.reader (c.in_ok-attributes.ensures Uniques refl).0 (c.in_ok-attributes.ensures Uniques refl).1
    (sym c.is_mark.ensures ∙ c.if-not-is_mark.true) c.refuse.ensures

pub returns : goal.returns
returns c =
    unique_on (attribute_of c.args.first) (located_of c.args.next) c.args.reader.now
    (map attribute_of c.in_ok-attributes.attributes.items) (located_of c.in_ok-attributes.end)
    c.attributes.new.reader (c.in_ok-attributes.ensures Uniques refl).0 (sym c.is_mark.ensures
    ∙ c.if-not-is_mark.false)
