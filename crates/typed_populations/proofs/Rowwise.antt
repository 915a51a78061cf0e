-- The instance of a row.
use Rattle.std.specs.Prelude.{◌≡◌, ℕ, zero, suc, ◌<◌, List, [], ◌∷◌, length, Option, None, Some, slice_get, get_or}
use Rattle.std.proofs.Common.{sym, ap, subst, ◌∙◌}
use Rattle.std.proofs.lemmas.Option.{slice_get-get_or}
use Rattle.express_syntax.specs.Schemas.{Schema}
use Rattle.express_syntax.specs.Profile.{Every}
use Rattle.step_values.specs.Values.{Values}
use Rattle.population_rows.specs.Index.{found}
use Rattle.population_rows.specs.steps.Rows.{form_at as form_in_rows}
use Rattle.population_rows.specs.declared.form.Form.{Form}
use Rattle.typed_populations.specs.Rows.{instance_seen, instances_seen, section_numbers}
use Rattle.typed_populations.specs.PopulationViews.{population_seen}
use Rattle.typed_populations.specs.PopulationTables.{form_among, ArePlaced, HaveEntities, AreNumbered}
use Rattle.typed_populations.specs.declared.population.Population.{Population}
use Rattle.typed_populations.proofs.Turns.{got, form-of-row}
use Rattle.typed_populations.proofs.Found.{kept, every-at, population-length, schema_seen, instance-there}

module _ (s : Schema) (forms : List Form) where
  pub seen-row : (ns ks : List ℕ) (fs : List (Option ℕ)) (vss : List Values) (i n k : ℕ) (f : Option ℕ) (vs : Values)
      → slice_get ns i ≡ Some n → slice_get ks i ≡ Some k → slice_get fs i ≡ Some f → slice_get vss i ≡ Some vs
      → slice_get (instances_seen s forms ns ks fs vss) i ≡ Some (instance_seen s n k (form_among forms f) vs)
  seen-row [] ks fs vss i n k f vs a b c d = absurd (cc)
  seen-row (m ∷ ns) [] fs vss i n k f vs a b c d = absurd (cc)
  seen-row (m ∷ ns) (l ∷ ks) [] vss i n k f vs a b c d = absurd (cc)
  seen-row (m ∷ ns) (l ∷ ks) (g ∷ fs) [] i n k f vs a b c d = absurd (cc)
  seen-row (m ∷ ns) (l ∷ ks) (g ∷ fs) (us ∷ vss) zero n k f vs a b c d = cc
  seen-row (m ∷ ns) (l ∷ ks) (g ∷ fs) (us ∷ vss) (suc i) n k f vs a b c d = seen-row ns ks fs vss i n k f vs a b c d

-- The instance that has the name, the form and the values of a row.
module _ (p : Population) (i : ℕ) where
  pub row-of : i < length (population_seen p) → i < length p.exchange.now.names
  row-of lt = subst (λ n. i < n) (population-length p) lt

  pub section-of : i < length (population_seen p)
      → (k : ℕ) × (slice_get (section_numbers 0 0 p.exchange.now.sections.items) i ≡ Some k)
  section-of lt = got _ i (subst (λ n. i < n) (sym (kept p).sections) (row-of lt))

  pub placed-row : (f : Option ℕ) → slice_get p.rows.form_of.items i ≡ Some f
      → ArePlaced (schema_seen p) (form_among p.rows.forms.items f)
  placed-row f at = every-at _ p.rows.form_of.items i f (kept p).placed at

  pub entities-row : (f : Option ℕ) → slice_get p.rows.form_of.items i ≡ Some f
      → HaveEntities (schema_seen p) (form_among p.rows.forms.items f)
  entities-row f at = every-at _ p.rows.form_of.items i f (kept p).entities at

  pub form-here : i < length (population_seen p) → (f d : Option ℕ) → f ≡ get_or p.rows.form_of.items i d
      → slice_get p.rows.form_of.items i ≡ Some f
  form-here lt f d e = slice_get-get_or p.rows.form_of.items i d within ∙ ap Some (sym e)
    where
      within : i < length p.rows.form_of.items
      within = subst (λ n. i < n) (sym (kept p).forms) (row-of lt)

  pub instance-row : (lt : i < length (population_seen p)) (n : ℕ) (f : Option ℕ) (vs : Values)
      → slice_get p.exchange.now.names i ≡ Some n → slice_get p.rows.form_of.items i ≡ Some f
      → slice_get p.values.rows i ≡ Some vs
      → slice_get (population_seen p) i
      ≡ Some (instance_seen (schema_seen p) n (section-of lt).0 (form_among p.rows.forms.items f) vs)
  instance-row lt n f vs a b c =
      seen-row (schema_seen p) p.rows.forms.items p.exchange.now.names _ p.rows.form_of.items p.values.rows i n
      (section-of lt).0 f vs a (section-of lt).1 b c

-- The types of the form of a row have their numbers.
from-form : (P : Form → Type 0) (forms : List Form) (o : Option ℕ) (x : Form) → form_among forms o ≡ Some x
    → Every P forms → P x
from-form P forms None x e h = absurd (cc)
from-form P forms (Some n) x e h = every-at P forms n x h e

pub numbered-row : (p : Population) (y i : ℕ) → found p.rows.index y ≡ Some i → (x : Form)
    → Some x ≡ form_in_rows p.rows i → AreNumbered (schema_seen p) x
numbered-row p y i e x is =
    let seen = instance-there p y i e in
    from-form _ p.rows.forms.items seen.form x
    (sym (is ∙ form-of-row (schema_seen p) p.rows i seen.form seen.at_form)) (kept p).numbered
