-- The values of the parameters of instances, by the forms of the instances.
use Rattle.std.specs.Prelude.{◌≡◌, ⊤, ℕ, false, List, [], ◌∷◌, ◌++◌, Option, None, Some, cond}
use Rattle.express_syntax.specs.Schemas.{Schema}
use Rattle.express_syntax.specs.Profile.{Every}
use Rattle.step_structures.specs.Trees as trees
use Rattle.step_structures.specs.Trees.{Tree, Trees, ExchangeRow}
use Rattle.step_values.specs.steps.Building.{Building}
use Rattle.step_values.specs.Leaves as leaves
use Rattle.step_values.specs.Values.{Value, leaf, Values, none}
use Rattle.step_values.specs.Views.{all_of}
use Rattle.population_rows.specs.Index.{found}
use Rattle.schema_names.specs.Schemas.{the_schema}
use Rattle.schema_underlying_types.specs.BaseViews.{type_at}
use Rattle.schema_underlying_types.specs.Tables.{NamesKnownType, AreBases}
use Rattle.conformance.specs.Bases.{Base, integer, Domain, IsDomain, base}
use Rattle.conformance.specs.ParameterFits.{value_as}
use Rattle.conformance.specs.Entities.{records, parameters}
use Rattle.population_rows.specs.declared.form.SlotForm.{SlotForm}
use Rattle.population_rows.specs.declared.form.Form.{Form}
use Rattle.population_rows.specs.declared.rows.Rows.{Rows}
use Rattle.step_exchange.specs.declared.structure.Exchange.{Exchange}
use Rattle.population_findings.specs.steps.Rows.{rows_in}
use Rattle.parameter_fits.specs.steps.References.{RefersWithin, AreFound}
use Rattle.typed_populations.specs.PopulationTables.{form_among}
use Rattle.population_reader.specs.declared.instance_values.Maker.{Maker}

module _ (s : Schema) (d : Domain) where
  -- the underlying type of the first of these data types
  abbrev pub first_asked : List ℕ → Base
  first_asked [] = integer
  first_asked (k ∷ ks) = base d (type_at s k)

  -- the value of an attribute with this parameter
  abbrev pub value_by : SlotForm → Tree → Value
  value_by x t = cond x.is_derived (leaf leaves.derived) (value_as s d (first_asked x.data_types.items) t)

  -- the values of attributes with these parameters, in order
  abbrev pub values_by : List SlotForm → Trees → List Value
  values_by [] ts = []
  values_by (x ∷ xs) trees.none = []
  values_by (x ∷ xs) (trees.one t ts) = value_by x t ∷ values_by xs ts

  -- the values of an instance of this form
  abbrev pub row_by : Option Form → trees.Form → Values
  row_by None f = none
  row_by (Some x) f = all_of (values_by x.slots.items (parameters (records f)))

  -- the values of each instance, by the numbers of their forms
  abbrev pub rows_by : List Form → List ExchangeRow → List (Option ℕ) → List Values
  rows_by forms [] fs = []
  rows_by forms (r ∷ rs) [] = []
  rows_by forms (r ∷ rs) (f ∷ fs) = row_by (form_among forms f) r.form ∷ rows_by forms rs fs

module _ (s : Schema) (find : ℕ → Option ℕ) where
  -- The value of an attribute can be built: its data types are known, and if it isn't derived, it has at least one,
  -- and each reference in its value is found.
  pub record IsReady (x : SlotForm) (t : Tree) : Type 0 where
    pub known : Every (λ k. NamesKnownType s (type_at s k)) x.data_types.items
    pub typed : x.is_derived ≡ false → x.data_types.items ≡ [] → ⊥
    pub within : x.is_derived ≡ false → (k : ℕ) (ks : List ℕ) → x.data_types.items ≡ k ∷ ks → RefersWithin find t

  abbrev pub AreReady : List SlotForm → Trees → Type 0
  AreReady [] ts = ⊤
  AreReady (x ∷ xs) trees.none = ⊤
  AreReady (x ∷ xs) (trees.one t ts) = IsReady x t × AreReady xs ts

  abbrev pub IsRowReady : Option Form → trees.Form → Type 0
  IsRowReady None f = ⊤
  IsRowReady (Some x) f = AreReady x.slots.items (parameters (records f))

  abbrev pub AreRowsReady : List Form → List ExchangeRow → List (Option ℕ) → Type 0
  AreRowsReady forms [] fs = ⊤
  AreRowsReady forms (r ∷ rs) [] = ⊤
  AreRowsReady forms (r ∷ rs) (f ∷ fs) = IsRowReady (form_among forms f) r.form × AreRowsReady forms rs fs

abbrev pub found_by : Maker → ℕ → Option ℕ
found_by m = found m.index.now

-- The tables are those of the schema, and each name is found at its row.
abbrev pub IsMaker : Maker → List ℕ → Type 0
IsMaker m names = AreBases m.bases × AreFound names (found_by m)

-- the values vs are pending in addition, by each meaning of the data types
abbrev pub Adds : Maker → Building → Building → (Domain → List Value) → Type 0
Adds m old new vs = (d : Domain) → IsDomain (the_schema m.bases.names.now) d
    → new ≡ record old { pending = old.pending ++ vs d }

-- the values vs except those of left are pending in addition
abbrev pub AddsUpTo : Maker → Building → Building → (Domain → List Value) → (Domain → List Value) → Type 0
AddsUpTo m old new vs left = (d : Domain) → IsDomain (the_schema m.bases.names.now) d
    → record new { pending = new.pending ++ left d } ≡ record old { pending = old.pending ++ vs d }

-- the rows are complete in addition
abbrev pub AddsRows : Maker → Building → Building → (Domain → List Values) → Type 0
AddsRows m old new rows = (d : Domain) → IsDomain (the_schema m.bases.names.now) d
    → new ≡ record old { rows = old.rows ++ rows d }

-- the rows except those of left are complete in addition
abbrev pub AddsRowsUpTo : Maker → Building → Building → (Domain → List Values) → (Domain → List Values) → Type 0
AddsRowsUpTo m old new rows left = (d : Domain) → IsDomain (the_schema m.bases.names.now) d
    → record new { rows = new.rows ++ left d } ≡ record old { rows = old.rows ++ rows d }

-- the values of the instances of a file, in order
abbrev pub values_in : Schema → Domain → Rows → Exchange → List Values
values_in s d rows x = rows_by s d rows.forms.items (rows_in x) rows.form_of.items

-- the values of the instances of a file can be made
abbrev pub AreReadyIn : Schema → Rows → Exchange → Type 0
AreReadyIn s rows x = AreRowsReady s (found rows.index) rows.forms.items (rows_in x) rows.form_of.items
