use Rattle.std.proofs.Common.{◌∙◌, List, map}
use Rattle.schema_data_types.specs.declared.forms.Form.{Form}
use Rattle.rule_plans.specs.declared.value_search.Seeker.{Seeker}
use Rattle.rule_plans.specs.steps.Unsought.{unsought_of, is_unsought_form}
use Rattle.rule_plans.proofs.skipped_attributes.unsought_by_form.Goals as goal

pub returns : goal.returns
returns c =
    let S = c.args.setting.now in
    let seeker : List Form → Seeker = λ l. record {
      names = record { ref_ptr = (0, 0); now = S.extents.now.population.now.types.now.names };
      types = record { ref_ptr = (0, 0); now = S.tables.now.value_types };
      forms = record { ref_ptr = (0, 0); now = l };
      wanted = c.args.wanted;
    } in
    record {
      attributes = c.in_ok-attributes.ensures
          ∙ (λ i. map (unsought_of (seeker (c.deref.ensures.value i)) S.tables.now.uses.now) (c.forms-forms.ensures.forms i));
      forms = c.in_ok-whole.ensures
          ∙ (λ i. map (is_unsought_form (seeker (c.deref.ensures.value i)) S.tables.now.uses.now (c.deref-2.ensures.value i))
          (c.forms-forms.ensures.forms i));
    }
