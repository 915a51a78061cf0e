-- Findings of an instance, told in turn.
use Rattle.std.specs.Prelude.{◌≡◌, ℕ, zero, suc, ◌+◌, ◌<◌, ◌≤◌, ◌==◌, ◌&&◌, not, Bool, true, false, cond, List, [], ◌∷◌, ◌++◌, length, map, drop, flat_map, Option, None, Some, slice_get, Result, Ok, Err, OnOk}
use Rattle.std.specs.List.{filter}
use Rattle.std.proofs.Common.{refl, sym, ap, subst, ◌∙◌, arith, append_assoc, append-nil, zero-add}
use Rattle.std.proofs.lemmas.Bool.{and_parts, eqb-true}
use Rattle.step_structures.specs.Trees.{Record, ExchangeRow, internal, external}
use Rattle.step_structures.specs.Trees as trees
use Rattle.express_syntax.specs.Schemas.{Schema}
use Rattle.schema_semantics.specs.Names.{Name}
use Rattle.conformance.specs.declared.finding.Finding.{Finding}
use Rattle.conformance.specs.declared.finding.FindingKind.{FindingKind}
use Rattle.conformance.specs.declared.finding.FindingKind.TheVariants.{UnknownEntity, ParameterCount}
use Rattle.conformance.specs.Bases.{Domain}
use Rattle.conformance.specs.Entities.{Entities, records, parameters, named_entity, own_places_of, has_count, how_many, types_of, places_of, wrong_counts, abstract_leaves, missing_supertypes, broken_one_ofs}
use Rattle.conformance.specs.Findings.{whole_findings, or_next, misfits_from, row_findings, target_in, findings}
use Rattle.population_rows.specs.declared.form.Form.{Form}
use Rattle.schema_names.specs.Schemas.{the_schema}
use Rattle.population_forms.specs.steps.Forms.{IsFormOf, counts_of}
use Rattle.population_findings.specs.steps.Keywords.{unknown_among}
use Rattle.graphs.specs.Graphs.{graph_of}
use Rattle.population_rows.specs.Index.{found}
use Rattle.step_exchange.specs.declared.structure.Exchange.{Exchange}
use Rattle.step_exchange.specs.Exchanges.{structure}
use Rattle.population_findings.specs.steps.Rows.{rows_in, AreRowsOf, HaveForms, HasFormAmong}
use Rattle.population_findings.proofs.Targeting.{target-is}
use Rattle.population_findings.specs.steps.Counting.{miscounts}
use Rattle.population_findings.specs.declared.judge.Judge.{Judge}
use Rattle.population_rows.specs.declared.rows.Rows.{Rows}
use Rattle.population_rows.specs.steps.Rows.{form_at, form_of_number}
use Rattle.population_findings.specs.steps.Judging.{AreOf, target_by, is_sound, types_told, TellsTypes, TellsAll, behind, TellsBehind, IsOfForm, TellsForm, TellsRowsTo, TellsRows, schema_told}
use Rattle.population_findings.proofs.Records.{none-unknown, some-unknown}
use Rattle.population_findings.proofs.Placing.{form-of-row}

-- one more of a whole instance
pub whole-more : (name n : ℕ) (kind : FindingKind) → whole_findings name kind (suc n)
    ≡ whole_findings name kind n ++ whole_findings name kind 1
whole-more name zero kind = refl
whole-more name (suc n) kind = ap (λ l. whole_findings name kind 1 ++ l) (whole-more name n kind)

-- the first that has an item
types-some : (name a b c : ℕ) (ys : List Finding) → (a == 0 && b == 0 && c == 0) ≡ false
    → or_next (types_told name a b c) ys ≡ types_told name a b c
types-some name (suc a) b c ys h = refl
types-some name zero (suc b) c ys h = refl
types-some name zero zero (suc c) ys h = refl
types-some name zero zero zero ys h = absurd (cc)

types-none : (name a b c : ℕ) → (a == 0 && b == 0 && c == 0) ≡ true → types_told name a b c ≡ []
types-none name a b c h =
    let p = and_parts (a == 0 && b == 0) (c == 0) h in
    let q = and_parts (a == 0) (b == 0) p.0 in
    rw (eqb-true a 0 q.0, eqb-true b 0 q.1, eqb-true c 0 p.1) refl

-- the numbers of parameters
all-counted : (s : Schema) (en : Entities) (rs : List Record)
    → miscounts (map (λ (r : Record). length (own_places_of s (named_entity r))) rs) rs
    ≡ how_many (λ (r : Record). not (has_count s en (own_places_of s (named_entity r)) r)) rs
all-counted s en [] = refl
all-counted s en (r ∷ rs) = by (has_count s en (own_places_of s (named_entity r)) r) (all-counted s en rs)
  where
    wrong : List Record
    wrong = filter (λ (q : Record). not (has_count s en (own_places_of s (named_entity q)) q)) rs

    by : (b : Bool) → miscounts (map (λ (q : Record). length (own_places_of s (named_entity q))) rs) rs ≡ length wrong
        → cond b 0 1 + miscounts (map (λ (q : Record). length (own_places_of s (named_entity q))) rs) rs
        ≡ length (cond (not b) (r ∷ wrong) wrong)
    by true h = zero-add (miscounts (map (λ (q : Record). length (own_places_of s (named_entity q))) rs) rs) ∙ h
    by false h = omega (arith, h)

counted : (s : Schema) (en : Entities) (f : trees.Form) → miscounts (counts_of s en f) (records f) ≡ wrong_counts s en f
counted s en (internal r) = by (has_count s en (en.places (named_entity r)) r)
  where
    by : (b : Bool) → cond b 0 1 + 0 ≡ cond b 0 1
    by true = refl
    by false = refl
counted s en (external rs) = all-counted s en rs

pub counted-so : (s : Schema) (en : Entities) (f : trees.Form) (x : Form) → IsFormOf s en f x
    → miscounts x.counts.items (records f) ≡ wrong_counts s en f
counted-so s en f x is = ap (λ ns. miscounts ns (records f)) is.counts ∙ counted s en f

module _ (j : Judge) (x : Form) (r : ExchangeRow) (old new : List Finding) where
  told-so : (en : Entities) → IsFormOf (the_schema j.bases.names.now) en r.form x → (ys : List Finding)
      → or_next (types_told r.name x.abstract_leaves x.missing_supertypes x.broken_one_ofs) ys
      ≡ or_next (types_told r.name (abstract_leaves (the_schema j.bases.names.now) en
      (types_of (the_schema j.bases.names.now) en r.form))
      (missing_supertypes (the_schema j.bases.names.now) en (types_of (the_schema j.bases.names.now) en r.form))
      (broken_one_ofs (the_schema j.bases.names.now) en (types_of (the_schema j.bases.names.now) en r.form))) ys
  told-so en is ys =
      λ i. or_next (types_told r.name (is.abstract_leaves i) (is.missing_supertypes i) (is.broken_one_ofs i)) ys

  after-types : Domain → Entities → List Finding
  after-types d en = or_next (whole_findings r.name ParameterCount (wrong_counts (the_schema j.bases.names.now) en r.form))
      (misfits_from (the_schema j.bases.names.now) d en (target_by j) r.name 0
      (types_of (the_schema j.bases.names.now) en r.form)
      (places_of (the_schema j.bases.names.now) en r.form) (parameters (records r.form)))

  -- findings of types
  pub tells-types : is_sound x ≡ false → TellsTypes r.name x old new → TellsBehind j x r old new
  unfolding after-types
  tells-types e told d en are is =
      told ∙ ap (λ l. old ++ l)
      (sym (types-some r.name x.abstract_leaves x.missing_supertypes x.broken_one_ofs (after-types d en) e)
      ∙ told-so en is (after-types d en))

  sound-so : is_sound x ≡ true → (d : Domain) (en : Entities) → IsFormOf (the_schema j.bases.names.now) en r.form x
      → after-types d en ≡ behind j d en r
  unfolding after-types
  sound-so e d en is =
      ap (λ l. or_next l (after-types d en))
      (sym (types-none r.name x.abstract_leaves x.missing_supertypes x.broken_one_ofs e))
      ∙ told-so en is (after-types d en)

  -- findings about numbers of parameters
  pub tells-counts : (n : ℕ) → is_sound x ≡ true → n ≡ miscounts x.counts.items (records r.form) → 0 < n
      → new ≡ old ++ whole_findings r.name ParameterCount n → TellsBehind j x r old new
  unfolding after-types
  tells-counts zero e c lt told d en are is = absurd (omega (arith, lt))
  tells-counts (suc n) e c lt told d en are is =
      let number : suc n ≡ wrong_counts (the_schema j.bases.names.now) en r.form = c
      ∙ counted-so (the_schema j.bases.names.now) en r.form x is in
      told ∙ ap (λ l. old ++ l)
      (ap (λ k. or_next (whole_findings r.name ParameterCount k)
      (misfits_from (the_schema j.bases.names.now) d en (target_by j) r.name 0
      (types_of (the_schema j.bases.names.now) en r.form)
      (places_of (the_schema j.bases.names.now) en r.form) (parameters (records r.form)))) number
      ∙ sound-so e d en is)

  -- findings about parameters
  pub tells-misfits : (n : ℕ) → is_sound x ≡ true → n ≡ miscounts x.counts.items (records r.form) → n ≤ 0
      → TellsAll j r.name x.slots.items (parameters (records r.form)) old new → TellsBehind j x r old new
  unfolding after-types
  tells-misfits n e c le told d en are is =
      let number : 0 ≡ wrong_counts (the_schema j.bases.names.now) en r.form =
      (let z : 0 ≡ n = omega (arith, le) in z) ∙ c ∙ counted-so (the_schema j.bases.names.now) en r.form x is in
      told d en are (types_of (the_schema j.bases.names.now) en r.form)
      (places_of (the_schema j.bases.names.now) en r.form) is.slots
      ∙ ap (λ l. old ++ l)
      (ap (λ k. or_next (whole_findings r.name ParameterCount k)
      (misfits_from (the_schema j.bases.names.now) d en (target_by j) r.name 0
      (types_of (the_schema j.bases.names.now) en r.form)
      (places_of (the_schema j.bases.names.now) en r.form) (parameters (records r.form)))) number
      ∙ sound-so e d en is)

  -- an instance of a form
  pub tells-known : (o : Option Form) → Some x ≡ o → TellsBehind j x r old new → TellsForm j o r old new
  tells-known o e told =
      subst (λ k. TellsForm j k r old new) e
      (λ d en are of.
      told d en are of.1
      ∙ ap (λ n. old ++ or_next (whole_findings r.name UnknownEntity n) (behind j d en r))
      (sym (none-unknown (the_schema j.bases.names.now) (records r.form) of.0)))

-- an instance without a form
pub tells-unknown : (j : Judge) (r : ExchangeRow) (old new : List Finding) (o : Option Form) (n : ℕ) → None ≡ o
    → n ≡ unknown_among (the_schema j.bases.names.now) (records r.form) → new ≡ old ++ whole_findings r.name UnknownEntity n
    → TellsForm j o r old new
tells-unknown j r old new o n e c told =
    subst (λ k. TellsForm j k r old new) e
    (λ d en are none.
    let some = some-unknown (the_schema j.bases.names.now) (records r.form) none in
    told ∙ ap (λ k. old ++ whole_findings r.name UnknownEntity k) (c ∙ some.1)
    ∙ ap (λ k. old ++ or_next (whole_findings r.name UnknownEntity k) (behind j d en r)) (sym some.1))

-- instances in order
form-is : (s : Schema) (en : Entities) (t : Rows) (row : ℕ) (f : trees.Form) (o : Option ℕ)
    → slice_get t.form_of.items row ≡ Some o → HasFormAmong s en t.forms.items f o
    → IsOfForm s en (form_at t row) f
form-is s en t row f o e h = subst (λ k. IsOfForm s en (form_of_number t.forms.items k) f) (sym e) (by o h)
  where
    by : (o : Option ℕ) → HasFormAmong s en t.forms.items f o
        → IsOfForm s en (form_of_number t.forms.items (Some o)) f
    by None h = h
    by (Some n) (types, x, at, is) = subst (λ k. IsOfForm s en k f) (sym at) (types, is)

pub rows-told-next : (j : Judge) (t : Rows) (rs : List ExchangeRow) (old : List Finding) (i : ℕ) (r : ExchangeRow)
    (mid new : List Finding) → TellsRowsTo j t rs old (drop i rs) mid → slice_get rs i ≡ Some r
    → drop i rs ≡ r ∷ drop (i + 1) rs → TellsForm j (form_at t i) r mid new
    → TellsRowsTo j t rs old (drop (i + 1) rs) new
rows-told-next j t rs old i r mid new before at first told d en are have =
    let F = row_findings (the_schema j.bases.names.now) d en (target_by j) in
    let (o, number, has) = form-of-row (the_schema j.bases.names.now) en t rs t.form_of.items i r have at in
    ap (λ l. l ++ flat_map F (drop (i + 1) rs))
    (told d en are (form-is (the_schema j.bases.names.now) en t i r.form o number has))
    ∙ append_assoc mid (F r) (flat_map F (drop (i + 1) rs))
    ∙ ap (λ l. mid ++ flat_map F l) (sym first) ∙ before d en are have

pub rows-told : (j : Judge) (t : Rows) (rs : List ExchangeRow) (old : List Finding) (left : List ExchangeRow) (new : List Finding)
    → left ≡ [] → TellsRowsTo j t rs old left new → TellsRows j t rs old new
rows-told j t rs old left new e told d en are have =
    sym (append-nil new)
    ∙ ap (λ l. new ++ flat_map (row_findings (the_schema j.bases.names.now) d en (target_by j)) l) (sym e)
    ∙ told d en are have

-- where a call succeeds
pub on-ok : {T E P Q : Type 0} (r : Result T E) → (P → Q) → OnOk r P → OnOk r Q
on-ok (Ok x) f h = f h
on-ok (Err e) f h = h

pub three-told : (old a b new x y z : List Finding) → a ≡ old ++ x → b ≡ a ++ y → new ≡ b ++ z
    → new ≡ old ++ (x ++ y ++ z)
three-told old a b new x y z e f g =
    g ∙ ap (λ l. l ++ z) (f ∙ ap (λ l. l ++ y) e ∙ append_assoc old x y) ∙ append_assoc old (x ++ y) z

-- the findings of a file: that about the schema's name, then those of its instances
pub all-told : (j : Judge) (d : Domain) (en : Entities) (t : Rows) (x : Exchange) (others : List Name)
    (rows : List ExchangeRow) (first fs : List Finding) → rows ≡ rows_in x
    → first ≡ schema_told (the_schema j.bases.names.now) others (structure x)
    → TellsRows j t rows first fs → AreOf j d en → AreRowsOf (the_schema j.bases.names.now) en (rows_in x) t
    → j.targets.index.now ≡ t.index → j.targets.forms.now ≡ t.form_of.items → j.targets.types.now ≡ t.types.items
    → fs ≡ findings (the_schema j.bases.names.now) d en others (structure x)
all-told j d en t x others rows first fs same told tells are of index forms types =
    let s = the_schema j.bases.names.now in
    let have = subst (λ rs. HaveForms s en t rs t.form_of.items) (sym same) of.forms in
    let leads : target_by j ≡ target_in s d en (rows_in x) =
    target-is s d en t j.targets (of.types ∙ ap graph_of (sym types)) (rows_in x) of.forms
    (λ y. ap (λ i. found i y) index ∙ of.index y) forms in
    tells d en are have
    ∙ (λ i. told i ++ flat_map (row_findings s d en (leads i)) (same i))
