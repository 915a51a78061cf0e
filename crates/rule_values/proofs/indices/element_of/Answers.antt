use Rattle.std.proofs.Common.{◌≡◌, ◌∙◌, ap, sym, rules}
use Rattle.std.specs.Prelude.{true, FitsSigned}
use Rattle.std.specs.Int.{w64}
use Rattle.std.proofs.lemmas.Int.{to_z-of_z}
use Rattle.express_logic.specs.Data.{number}
use Rattle.express_logic.specs.Holdings.{size_of}
use Rattle.express_logic.specs.Literals.{whole_units}
use Rattle.express_logic.specs.Views.{datum_of}
use Rattle.conformance.specs.Operations.{first_index, element_from}
use Rattle.rule_values.specs.steps.Indices.{has_indices}
use Rattle.rule_values.specs.Parts.{holding}
use Rattle.rule_values.proofs.Indexed.{unindexed, indexed-there, no-element}
use Rattle.rule_values.proofs.indices.element_of.Goals as goal

pub returns-in_default-whole_number : goal.returns-in_default-whole_number
returns-in_default-whole_number c =
    let s = (holding c.args.part.now).shape in
    let ds = (holding c.args.part.now).elements in
    let fits : FitsSigned w64 c.in-Some.first = search rules in
    no-element s ds (datum_of holding c.args.index.now)
    (λ z e. unindexed s z ds c.in-Some.first (ap first_index (sym c.shape.ensures) ∙ sym c.in-Some.ensures) fits
    (λ n small is. c.in_default-whole_number.ensures n small (e ∙ ap number is)))

pub returns-then-has_indices : goal.returns-then-has_indices
returns-then-has_indices c =
    let s = (holding c.args.part.now).shape in
    let ds = (holding c.args.part.now).elements in
    let there : has_indices s (size_of ds) ≡ true =
    sym (c.has_indices.ensures ∙ (λ i. has_indices (c.shape-2.ensures i) (c.len.ensures i)))
    ∙ c.if-has_indices.true in
    let first : FitsSigned w64 c.in-Some.first = search rules in
    let index : FitsSigned w64 c.in-Some-whole_number.index = search rules in
    c.element_from.ensures
    ∙ (λ i. element_from (to_z-of_z w64 c.in-Some.first first i)
    (whole_units (to_z-of_z w64 c.in-Some-whole_number.index index i)) ds)
    ∙ indexed-there s ds c.in-Some.first c.in-Some-whole_number.index (datum_of holding c.args.index.now)
    (ap first_index (sym c.shape.ensures) ∙ sym c.in-Some.ensures) there c.in-Some-whole_number.ensures
