use Rattle.std.proofs.Common.{[], map, flat_map, subst}
use Rattle.express_syntax.specs.Views.{declaration_of}
use Rattle.schema_names.specs.Schemas.{the_schema}
use Rattle.schema_derived_attributes.specs.steps.Asked.{deriveds_in}
use Rattle.schema_derived_attributes.specs.steps.Making.{Adds}
use Rattle.schema_derived_attributes.proofs.Made.{are-formulas}
use Rattle.schema_derived_attributes.proofs.formula_table.formulas.Goals as goal

pub returns : goal.returns
returns c =
    let s = the_schema c.args.names.now in
    let ranks = c.args.ranks.now in
    let new = c.add_all.new.formulas.items in
    record {
      rows = are-formulas s ranks c.requires.ranks c.requires.resolved new
          (subst (λ xs. Adds ranks (flat_map deriveds_in (map declaration_of xs)) [] new) c.deref.ensures.value
          (subst (λ old. Adds ranks (flat_map deriveds_in (map declaration_of c.deref.result.now)) old new)
          c.new-rows.ensures.items c.in_ok-add_all.ensures));
      firsts = c.in_ok-firsts.ensures;
    }
