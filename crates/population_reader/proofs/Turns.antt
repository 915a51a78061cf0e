-- Values that are pushed in turn.
use Rattle.std.specs.Prelude.{◌≡◌, ℕ, ◌+◌, ◌<◌, true, List, [], ◌∷◌, ◌++◌, length, map, take, drop, Option, Some, slice_get}
use Rattle.std.proofs.Common.{refl, sym, ap, subst, ◌∙◌, append_assoc, append-nil}
use Rattle.step_structures.specs.Trees.{Tree, Trees, none, one, ExchangeRow}
use Rattle.step_records.specs.Cells.{all_of}
use Rattle.step_records.specs.Params.{parts_of}
use Rattle.step_exchange.specs.Views.{record_in, record_of, form_of, begins_with_keyword}
use Rattle.step_exchange.proofs.SchemaNames.{values_behind}
use Rattle.step_values.specs.steps.Building.{Building}
use Rattle.step_values.specs.Values.{Value, Values}
use Rattle.express_syntax.specs.Schemas.{Schema}
use Rattle.population_rows.specs.declared.index.RowIndex.{RowIndex}
use Rattle.population_rows.specs.Index.{found}
use Rattle.schema_names.specs.Schemas.{the_schema}
use Rattle.parameter_fits.specs.steps.References.{AreFound}
use Rattle.schema_underlying_types.specs.declared.lookup.Bases.{Bases}
use Rattle.schema_underlying_types.specs.Tables.{AreBases}
use Rattle.conformance.specs.Bases.{Domain, IsDomain}
use Rattle.conformance.specs.Entities.{joined_trees, parameters, records}
use Rattle.population_rows.specs.declared.form.SlotForm.{SlotForm}
use Rattle.population_rows.specs.declared.form.Form.{Form}
use Rattle.population_findings.proofs.Makings.{form-internal}
use Rattle.typed_populations.specs.PopulationTables.{form_among}
use Rattle.typed_populations.proofs.Turns.{drop-item}
use Rattle.population_reader.specs.declared.instance_values.Maker.{Maker}
use Rattle.population_reader.specs.steps.Making.{value_by, values_by, row_by, rows_by, IsReady, AreReady, IsRowReady, AreRowsReady, found_by, IsMaker, Adds, AddsUpTo, AddsRows, AddsRowsUpTo}

pub none-by : (s : Schema) (d : Domain) (xs : List SlotForm) → values_by s d xs none ≡ []
none-by s d [] = refl
none-by s d (x ∷ xs) = refl

module _ (m : Maker) where
  -- the names stay
  pub names-stay : (old new : Building) (vs left : Domain → List Value) → IsMaker m old.names
      → AddsUpTo m old new vs left → IsMaker m new.names
  names-stay old new vs left is adds =
      let some = is.0.1.exists in
      subst (IsMaker m) (sym (ap (λ (b : Building). b.names) (adds some.0 some.1))) is

  pub maker-stays : (old new : Building) (rows left : Domain → List Values) → IsMaker m old.names
      → AddsRowsUpTo m old new rows left → IsMaker m new.names
  maker-stays old new rows left is adds =
      let some = is.0.1.exists in
      subst (IsMaker m) (sym (ap (λ (b : Building). b.names) (adds some.0 some.1))) is

  -- some more of what is left
  pub adds-next : (old mid new : Building) (vs left here behind : Domain → List Value) → AddsUpTo m old mid vs left
      → Adds m mid new here → ((d : Domain) → left d ≡ here d ++ behind d) → AddsUpTo m old new vs behind
  adds-next old mid new vs left here behind before now cut d is =
      ap (λ (b : Building). record b { pending = b.pending ++ behind d }) (now d is)
      ∙ ap (λ (l : List Value). record mid { pending = l })
      (append_assoc mid.pending (here d) (behind d) ∙ ap (λ l. mid.pending ++ l) (sym (cut d)))
      ∙ before d is

  pub adds-all : (old new : Building) (vs left : Domain → List Value) → AddsUpTo m old new vs left
      → ((d : Domain) → left d ≡ []) → Adds m old new vs
  adds-all old new vs left adds end d is =
      ap (λ (l : List Value). record new { pending = l })
      (sym (append-nil new.pending) ∙ ap (λ l. new.pending ++ l) (sym (end d)))
      ∙ adds d is

  pub rows-next : (old mid new : Building) (rows left here behind : Domain → List Values)
      → AddsRowsUpTo m old mid rows left → AddsRows m mid new here → ((d : Domain) → left d ≡ here d ++ behind d)
      → AddsRowsUpTo m old new rows behind
  rows-next old mid new rows left here behind before now cut d is =
      ap (λ (b : Building). record b { rows = b.rows ++ behind d }) (now d is)
      ∙ ap (λ (l : List Values). record mid { rows = l })
      (append_assoc mid.rows (here d) (behind d) ∙ ap (λ l. mid.rows ++ l) (sym (cut d)))
      ∙ before d is

  pub rows-all : (old new : Building) (rows left : Domain → List Values) → AddsRowsUpTo m old new rows left
      → ((d : Domain) → left d ≡ []) → AddsRows m old new rows
  rows-all old new rows left adds end d is =
      ap (λ (l : List Values). record new { rows = l })
      (sym (append-nil new.rows) ∙ ap (λ l. new.rows ++ l) (sym (end d)))
      ∙ adds d is

-- one more attribute, with its parameter
module _ (s : Schema) (xs : List SlotForm) (ts : List Tree) (i : ℕ) (x : SlotForm) (t : Tree)
    (slots : drop i xs ≡ x ∷ drop (i + 1) xs) (values : drop i ts ≡ t ∷ drop (i + 1) ts) where
  pub value-next : (d : Domain) → values_by s d (drop i xs) (all_of (drop i ts))
      ≡ (value_by s d x t ∷ []) ++ values_by s d (drop (i + 1) xs) (all_of (drop (i + 1) ts))
  value-next d = λ k. values_by s d (slots k) (all_of (values k))

  pub ready-next : (find : ℕ → Option ℕ) → AreReady s find (drop i xs) (all_of (drop i ts))
      → IsReady s find x t × AreReady s find (drop (i + 1) xs) (all_of (drop (i + 1) ts))
  ready-next find h =
      subst (λ l. AreReady s find (x ∷ drop (i + 1) xs) (all_of l)) values
      (subst (λ l. AreReady s find l (all_of (drop i ts))) slots h)

-- the parameters of one record more
module _ (s : Schema) where
  pub values-cut : (d : Domain) (xs : List SlotForm) (ts : List Tree) (us : Trees)
      → values_by s d xs (joined_trees (all_of ts) us)
      ≡ values_by s d (take (length ts) xs) (all_of ts) ++ values_by s d (drop (length ts) xs) us
  values-cut d xs [] us = ap (λ l. l ++ values_by s d xs us) (sym (none-by s d (take 0 xs)))
  values-cut d [] (t ∷ ts) us = refl
  values-cut d (x ∷ xs) (t ∷ ts) us = ap (λ l. value_by s d x t ∷ l) (values-cut d xs ts us)

  pub ready-cut : (find : ℕ → Option ℕ) (xs : List SlotForm) (ts : List Tree) (us : Trees)
      → AreReady s find xs (joined_trees (all_of ts) us)
      → AreReady s find (take (length ts) xs) (all_of ts) × AreReady s find (drop (length ts) xs) us
  ready-cut find xs [] us h = (no-values xs, h)
    where
      no-values : (ys : List SlotForm) → AreReady s find (take 0 ys) none
      no-values [] = tt
      no-values (y ∷ ys) = tt
  ready-cut find [] (t ∷ ts) us h = (tt, tt)
  ready-cut find (x ∷ xs) (t ∷ ts) us h =
      let more = ready-cut find xs ts us h.1 in
      ((h.0, more.0), more.1)

-- the parameters of one more partial record
pub partial-next : (partials : List Tree) (i : ℕ) (x : Tree) (values : List Tree) → slice_get partials i ≡ Some x
    → values ≡ drop 1 (parts_of x)
    → parameters (map record_in (drop i partials))
    ≡ joined_trees (all_of values) (parameters (map record_in (drop (i + 1) partials)))
partial-next partials i x values at own =
    ap (λ l. parameters (map record_in l)) (drop-item partials i x at)
    ∙ ap (λ l. joined_trees l (parameters (map record_in (drop (i + 1) partials))))
    (values_behind (parts_of x) ∙ ap all_of (sym own))

-- one more row
module _ (s : Schema) (forms : List Form) (rs : List ExchangeRow) (os : List (Option ℕ)) (i : ℕ) (r : ExchangeRow) (o : Option ℕ)
    (f : Option Form) (rows : drop i rs ≡ r ∷ drop (i + 1) rs) (numbers : drop i os ≡ o ∷ drop (i + 1) os)
    (form : f ≡ form_among forms o) where
  pub row-next : (d : Domain) → rows_by s d forms (drop i rs) (drop i os)
      ≡ (row_by s d f r.form ∷ []) ++ rows_by s d forms (drop (i + 1) rs) (drop (i + 1) os)
  row-next d =
      (λ k. rows_by s d forms (rows k) (numbers k))
      ∙ ap (λ g. row_by s d g r.form ∷ rows_by s d forms (drop (i + 1) rs) (drop (i + 1) os)) (sym form)

  pub row-ready : (find : ℕ → Option ℕ) → AreRowsReady s find forms (drop i rs) (drop i os)
      → IsRowReady s find f r.form × AreRowsReady s find forms (drop (i + 1) rs) (drop (i + 1) os)
  row-ready find h =
      let both = subst (λ l. AreRowsReady s find forms (r ∷ drop (i + 1) rs) l) numbers
      (subst (λ l. AreRowsReady s find forms l (drop i os)) rows h) in
      (subst (λ g. IsRowReady s find g r.form) (sym form) both.0, both.1)

-- the parameters of an instance that is mapped internally
pub joined-none : (xs : Trees) → joined_trees xs none ≡ xs
joined-none none = refl
joined-none (one x xs) = ap (one x) (joined-none xs)

pub internal-parameters : (parts values : List Tree) → begins_with_keyword parts ≡ true → values ≡ drop 1 parts
    → parameters (records (form_of parts)) ≡ all_of values
internal-parameters parts values k own =
    ap (λ f. parameters (records f)) (form-internal parts k)
    ∙ joined-none (record_of parts).values ∙ values_behind parts ∙ ap all_of (sym own)

-- what values are made by
module _ (m : Maker) (b : Bases) (i : RowIndex) (tables : m.bases ≡ b) (index : m.index.now ≡ i) (forms : List Form)
    (ws rs : List ExchangeRow) (os : List (Option ℕ)) (same : ws ≡ rs) where
  pub ready-by : AreRowsReady (the_schema b.names.now) (found i) forms rs os
      → AreRowsReady (the_schema m.bases.names.now) (found_by m) forms ws os
  ready-by h =
      subst (λ l. AreRowsReady (the_schema m.bases.names.now) (found_by m) forms l os) (sym same)
      (subst (λ (c : Bases). AreRowsReady (the_schema c.names.now) (found_by m) forms rs os) (sym tables)
      (subst (λ j. AreRowsReady (the_schema b.names.now) (found j) forms rs os) (sym index) h))

  pub maker-by : (names : List ℕ) → AreBases b → AreFound names (found i) → IsMaker m names
  maker-by names h k = (subst AreBases (sym tables) h, subst (λ j. AreFound names (found j)) (sym index) k)

  -- the rows that are made
  pub rows-made : (names : List ℕ) (old new : Building) → old ≡ record { names = names; rows = []; pending = [] }
      → AddsRows m old new (λ d. rows_by (the_schema m.bases.names.now) d forms ws os) → (d : Domain)
      → IsDomain (the_schema b.names.now) d → (new.rows ≡ rows_by (the_schema b.names.now) d forms rs os)
      × (new.pending ≡ [])
  rows-made names old new first adds d is =
      let so = adds d (subst (λ (c : Bases). IsDomain (the_schema c.names.now) d) (sym tables) is) in (
        ap (λ (c : Building). c.rows) so
            ∙ ap (λ (c : Building). c.rows ++ rows_by (the_schema m.bases.names.now) d forms ws os) first
            ∙ (λ k. rows_by (the_schema (tables k).names.now) d forms (same k) os),
        ap (λ (c : Building). c.pending) so ∙ ap (λ (c : Building). c.pending) first,
      )
