use Rattle.std.proofs.Common.{sym, ap, subst, ◌∙◌, drop}
use Rattle.population_rows.specs.Index.{place_of}
use Rattle.population_rows.specs.declared.rows.Rows.{Rows}
use Rattle.schema_names.specs.Schemas.{the_schema}
use Rattle.population_findings.specs.steps.Making.{HaveFormsAmong}
use Rattle.population_findings.proofs.Placing.{have-forms}
use Rattle.step_exchange.proofs.Named.{names-are}
use Rattle.population_findings.proofs.rows.rows_of.Goals as goal

pub returns : goal.returns
returns c =
    let s = the_schema c.args.known.now.names.now in
    let x = c.args.exchange.now in
    let forms = c.in_ok-form_of.ensures in
    let t : Rows = record {
      index = c.in_ok-index.index;
      form_of = c.in_ok-form_of.form_of;
      forms = c.forms_of.new.made.forms;
      types = c.forms_of.new.made.types;
    } in
    λ en are. record {
      index = λ y. c.in_ok-index.ensures y ∙ ap (λ ns. place_of ns y) (c.as_slice-names.ensures ∙ sym (names-are x));
      forms = have-forms s en t x (subst (λ l. HaveFormsAmong s en c.forms_of.new.made.forms.items l
          c.in_ok-form_of.form_of.items) (c.split-instances.ensures.back ∙ ap (λ l. drop x.header_len l) c.trees.ensures)
          (forms.has en are));
      types = forms.made.types;
      numbered = forms.made.numbered en are;
    }
