use Rattle.std.proofs.Common.{eqb, sym, ◌∙◌, rules, tests}
use Rattle.std.proofs.lemmas.Iterator.Search.{all_from_yields_List}
use Rattle.std.proofs.lemmas.Iterator.{YieldsList-from_slice}
use Rattle.schema_attribute_references.proofs.Members.{one-of-first}
use Rattle.schema_attribute_references.proofs.unique_rule_names.is_one.Goals as goal

pub returns-in-Some : goal.returns-in-Some
returns-in-Some c =
    let e = c.in-Some.ensures.value in
    let run =
    all_from_yields_List (λ y. eqb y c.in-Some.first.now) _ _ _ c.all.ensures.ran
    (YieldsList-from_slice c.args.row.now cc) (λ x b q k. search (rules, tests)) in
    run ∙ one-of-first c.args.row.now c.in-Some.first.now (sym e)
