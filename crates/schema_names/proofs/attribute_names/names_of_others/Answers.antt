use Rattle.std.proofs.Common.{◌≡◌, ◌++◌, [], map, ap, rules, ◌∙◌}
use Rattle.express_syntax.specs.Schemas.{Derived, Inverse}
use Rattle.express_syntax.specs.Views.{derived_of, inverse_of, if_some, names_of}
use Rattle.schema_semantics.specs.Names.{own_names, listed}
use Rattle.schema_names.proofs.Clauses.{clause-listed}
use Rattle.schema_names.proofs.attribute_names.names_of_others.Goals as goal

pub returns : goal.returns
returns c =
    let e = c.args.entity.now in
    let derived = c.derived_attributes.result.now in
    let inverses = c.inverse_attributes.result.now in
    let some = own_names (map (λ (x : Inverse). x.attribute) (map inverse_of inverses)) in
    let empty : names_of c.new-names.result.items ≡ [] = search rules in
    c.in_ok-add_inverses.ensures ∙ ap (λ ns. ns ++ some) c.in_ok-add_derived.ensures
    ∙ ap (λ ns. ns ++ own_names (map (λ (x : Derived). x.attribute) (map derived_of derived)) ++ some) empty
    ∙ ap (λ ds. own_names (map (λ (x : Derived). x.attribute) ds) ++ some)
    (clause-listed derived_of e.derived derived c.derived_attributes.ensures)
    ∙ ap (λ xs. own_names (map (λ (x : Derived). x.attribute) (listed (if_some (λ v. map derived_of v.items) e.derived)))
    ++ own_names (map (λ (x : Inverse). x.attribute) xs))
    (clause-listed inverse_of e.inverses inverses c.inverse_attributes.ensures)
