-- Parameters that don't fit, in turn.
use Rattle.std.specs.Prelude.{◌≡◌, ℕ, zero, suc, ◌+◌, ◌<◌, ◌≤◌, ◌&&◌, Bool, true, false, cond, List, [], ◌∷◌, ◌++◌, length, map, drop, Option, None, Some, slice_get, get_or, Result, Ok, Err, IfOk}
use Rattle.std.proofs.Common.{refl, sym, ap, subst, ◌∙◌, arith, append_assoc, append-nil, add-one}
use Rattle.std.proofs.Math.ListN.{drop_of_length-le}
use Rattle.express_syntax.specs.Schemas.{Schema}
use Rattle.express_syntax.specs.Profile.{Every}
use Rattle.schema_semantics.specs.Names.{Name}
use Rattle.schema_semantics.specs.Attributes.{Place}
use Rattle.step_structures.specs.Trees.{Tree, Trees, none}
use Rattle.step_records.specs.Params.{parts_of}
use Rattle.step_exchange.specs.Views.{record_of, record_in, begins_with_keyword, form_of}
use Rattle.step_exchange.proofs.SchemaNames.{values_behind}
use Rattle.schema_names.specs.Schemas.{the_schema}
use Rattle.population_findings.proofs.Makings.{form-internal}
use Rattle.step_records.specs.Cells.{all_of}
use Rattle.step_exchange.proofs.Cuts.{drop_next}
use Rattle.schema_underlying_types.specs.BaseViews.{type_at}
use Rattle.schema_underlying_types.specs.Tables.{NamesKnownType}
use Rattle.conformance.specs.declared.finding.Finding.{Finding}
use Rattle.conformance.specs.declared.finding.FindingKind.{FindingKind}
use Rattle.conformance.specs.declared.finding.FindingKind.TheVariants.{MisplacedStar}
use Rattle.conformance.specs.Bases as bases
use Rattle.conformance.specs.Bases.{Domain, base}
use Rattle.conformance.specs.Entities.{Entities, joined_trees, records, parameters}
use Rattle.conformance.specs.ParameterFits.{Target, first_finding, is_dollar, is_star_or_dollar, misfit}
use Rattle.conformance.specs.Findings.{misfit_of, misfit_at, misfits_from, at_place}
use Rattle.population_rows.specs.declared.form.SlotForm.{SlotForm}
use Rattle.population_forms.specs.steps.Forms.{AreSlotsOf, IsSlotOf}
use Rattle.population_findings.specs.declared.judge.Judge.{Judge}
use Rattle.population_findings.specs.steps.Judging.{AreOf, target_by, TellsBetween, TellsRecord, TellsUpTo, TellsAll}

pub every-get : {A : Type 0} (P : A → Type 0) (xs : List A) (i : ℕ) (d : A) → Every P xs → i < length xs
    → P (get_or xs i d)
every-get P [] i d h lt = absurd (omega (arith, lt))
every-get P (x ∷ xs) zero d h lt = h.0
every-get P (x ∷ xs) (suc i) d h lt = every-get P xs i d h.1 (omega (arith, lt))

-- data types in turn
module _ (s : Schema) (d : Domain) (en : Entities) (target : ℕ → Target) (ns : List ℕ) (x : Tree) (i : ℕ)
    (within : i < length ns) where
  types-next : misfit_of s d en target (map (type_at s) (drop i ns)) x
      ≡ first_finding (misfit s d target (base d (type_at s (get_or ns i 0))) x)
      (misfit_of s d en target (map (type_at s) (drop (i + 1) ns)) x)
  types-next =
      ap (λ l. misfit_of s d en target (map (type_at s) l) x) (drop_next ns i (get_or ns i 0) 0 within refl)

  -- what is asked by the next one
  module _ (b : bases.Base) (asks : b ≡ base d (type_at s (get_or ns i 0))) (f : Option FindingKind)
      (is : f ≡ misfit s d target b x) where
    found-is : misfit_of s d en target (map (type_at s) (drop i ns)) x
        ≡ first_finding f (misfit_of s d en target (map (type_at s) (drop (i + 1) ns)) x)
    found-is =
        types-next ∙ ap (λ k. first_finding (misfit s d target k x)
        (misfit_of s d en target (map (type_at s) (drop (i + 1) ns)) x)) (sym asks)
        ∙ ap (λ o. first_finding o (misfit_of s d en target (map (type_at s) (drop (i + 1) ns)) x)) (sym is)

    pub fits-next : f ≡ None → misfit_of s d en target (map (type_at s) (drop i ns)) x
        ≡ misfit_of s d en target (map (type_at s) (drop (i + 1) ns)) x
    fits-next e = found-is ∙ ap (λ o. first_finding o (misfit_of s d en target (map (type_at s) (drop (i + 1) ns)) x)) e

    pub misfit-next : (k : FindingKind) → f ≡ Some k
        → misfit_of s d en target (map (type_at s) (drop i ns)) x ≡ f
    misfit-next k e =
        found-is ∙ ap (λ o. first_finding o (misfit_of s d en target (map (type_at s) (drop (i + 1) ns)) x)) e ∙ sym e

pub types-end : (s : Schema) (d : Domain) (en : Entities) (target : ℕ → Target) (ns : List ℕ) (x : Tree) (i : ℕ)
    → length ns ≤ i → misfit_of s d en target (map (type_at s) (drop i ns)) x ≡ None
types-end s d en target ns x i h =
    ap (λ l. misfit_of s d en target (map (type_at s) l) x) (drop_of_length-le ns h)

-- the parameter of an attribute
module _ (s : Schema) (d : Domain) (en : Entities) (target : ℕ → Target) (types : List Name) (p : Place) (x : Tree)
    (slot : SlotForm) (is : IsSlotOf s en types p slot) where
  by-slot : misfit_at s d en target types p x
      ≡ cond slot.is_derived (cond (is_star_or_dollar x) None (Some MisplacedStar))
      (cond (is_dollar x && slot.is_optional) None (misfit_of s d en target (map (type_at s) slot.data_types.items) x))
  by-slot = rw (is.derived, is.optional, is.data_types) refl

  pub left-out : slot.is_derived ≡ true → is_star_or_dollar x ≡ true → None ≡ misfit_at s d en target types p x
  left-out e f = sym (by-slot ∙ rw (e, f) refl)

  turned : (slot.is_optional && is_dollar x) ≡ (is_dollar x && slot.is_optional)
  turned = by slot.is_optional (is_dollar x)
    where
      by : (a b : Bool) → (a && b) ≡ (b && a)
      by true true = refl
      by true false = refl
      by false true = refl
      by false false = refl

  pub unset : slot.is_derived ≡ false → (slot.is_optional && is_dollar x) ≡ true
      → None ≡ misfit_at s d en target types p x
  unset e f = sym (by-slot ∙ rw (e, sym turned ∙ f) refl)

  pub as-asked : (f : Option FindingKind) → slot.is_derived ≡ false → (slot.is_optional && is_dollar x) ≡ false
      → f ≡ misfit_of s d en target (map (type_at s) slot.data_types.items) x → f ≡ misfit_at s d en target types p x
  as-asked f e g h = h ∙ sym (by-slot ∙ rw (e, sym turned ∙ g) refl)

-- attributes and what is asked of them
pub slot-at : (s : Schema) (en : Entities) (types : List Name) (ps : List Place) (xs : List SlotForm) (i : ℕ)
    (x : SlotForm) → AreSlotsOf s en types ps xs → i < length xs → x ≡ get_or xs i x
    → (p : Place) × IsSlotOf s en types p x × (drop i ps ≡ p ∷ drop (i + 1) ps)
slot-at s en types [] [] i x h lt e = absurd (omega (arith, lt))
slot-at s en types [] (y ∷ xs) i x h lt e = absurd h
slot-at s en types (p ∷ ps) [] i x h lt e = absurd h
slot-at s en types (p ∷ ps) (y ∷ xs) zero x h lt e = (p, subst (IsSlotOf s en types p) (sym e) h.0.1, refl)
slot-at s en types (p ∷ ps) (y ∷ xs) (suc i) x h lt e =
    let (q, is, more) = slot-at s en types ps xs i x h.1 (omega (arith, lt)) e in
    (q, is, rw add-one (rw add-one at more))

as-many-slots : (s : Schema) (en : Entities) (types : List Name) (ps : List Place) (xs : List SlotForm)
    → AreSlotsOf s en types ps xs → length ps ≡ length xs
as-many-slots s en types [] [] h = refl
as-many-slots s en types [] (x ∷ xs) h = absurd h
as-many-slots s en types (p ∷ ps) [] h = absurd h
as-many-slots s en types (p ∷ ps) (x ∷ xs) h = let more = as-many-slots s en types ps xs h.1 in omega (arith, more)

pub slots-end : (s : Schema) (en : Entities) (types : List Name) (ps : List Place) (xs : List SlotForm) (i : ℕ)
    → AreSlotsOf s en types ps xs → length xs ≤ i → drop i ps ≡ []
slots-end s en types ps xs i h le =
    let same = as-many-slots s en types ps xs h in
    let over : length ps ≤ i = omega (arith, same, le) in
    drop_of_length-le ps over

pub none-left : (s : Schema) (d : Domain) (en : Entities) (target : ℕ → Target) (name n : ℕ) (types : List Name)
    (ps : List Place) → misfits_from s d en target name n types ps none ≡ []
none-left s d en target name n types [] = refl
none-left s d en target name n types (p ∷ ps) = refl

-- one more tree
drop-item : (xs : List Tree) (i : ℕ) (x : Tree) → slice_get xs i ≡ Some x → drop i xs ≡ x ∷ drop (i + 1) xs
drop-item [] i x e = absurd (cc)
drop-item (y ∷ ys) zero x e = let same : y ≡ x = cc in ap (λ z. z ∷ ys) same
drop-item (y ∷ ys) (suc i) x e = rw add-one (rw add-one at (drop-item ys i x e))

-- one more parameter is told
pub tells-next : (j : Judge) (name : ℕ) (slots : List SlotForm) (from : ℕ) (xs : Trees) (old : List Finding) (place : ℕ)
    (values : List Tree) (i : ℕ) (x : Tree) (mid new : List Finding) (slot : SlotForm) (kind : Option FindingKind)
    → TellsBetween j name slots from xs old place (all_of (drop i values)) mid
    → slice_get values i ≡ Some x → place < length slots → slot ≡ get_or slots place slot
    → ((d : Domain) (en : Entities) → AreOf j d en → (types : List Name) (p : Place)
    → IsSlotOf (the_schema j.bases.names.now) en types p slot
    → kind ≡ misfit_at (the_schema j.bases.names.now) d en (target_by j) types p x)
    → new ≡ mid ++ at_place name (place + 1) kind
    → TellsBetween j name slots from xs old (place + 1) (all_of (drop (i + 1) values)) new
tells-next j name slots from xs old place values i x mid new slot kind before at lt item judged told d en are types ps
    ss ys =
    let (p, is, rest) = slot-at (the_schema j.bases.names.now) en types ps slots place slot ss lt item in
    let M = misfits_from (the_schema j.bases.names.now) d en (target_by j) name in
    let behind : List Finding = M (place + 1) types (drop (place + 1) ps) (joined_trees (all_of (drop (i + 1) values)) ys) in
    let first : drop i values ≡ x ∷ drop (i + 1) values = drop-item values i x at in
    let told-here : List Finding = at_place name (place + 1) kind in
    let step : M place types (drop place ps) (joined_trees (all_of (drop i values)) ys) ≡ told-here ++ behind =
    ap (λ l. M place types l (joined_trees (all_of (drop i values)) ys)) rest
    ∙ ap (λ l. M place types (p ∷ drop (place + 1) ps) (joined_trees (all_of l) ys)) first
    ∙ ap (λ n. at_place name n (misfit_at (the_schema j.bases.names.now) d en (target_by j) types p x)
    ++ M n types (drop (place + 1) ps) (joined_trees (all_of (drop (i + 1) values)) ys)) (sym add-one-is)
    ∙ ap (λ k. at_place name (place + 1) k ++ behind) (sym (judged d en are types p is)) in
    ap (λ l. l ++ behind) told ∙ append_assoc mid told-here behind ∙ ap (λ l. mid ++ l) (sym step)
    ∙ before d en are types ps ss ys
  where
    add-one-is : place + 1 ≡ suc place
    add-one-is = omega arith

-- one more partial record
pub tells-record-next : (j : Judge) (name : ℕ) (slots : List SlotForm) (xs : Trees) (old : List Finding) (from : ℕ)
    (partials : List Tree) (i : ℕ) (x : Tree) (values : List Tree) (mid new : List Finding) (to : ℕ)
    → TellsUpTo j name slots xs old from (parameters (map record_in (drop i partials))) mid
    → slice_get partials i ≡ Some x → values ≡ drop 1 (parts_of x)
    → TellsRecord j name slots from (all_of values) mid new to
    → TellsUpTo j name slots xs old to (parameters (map record_in (drop (i + 1) partials))) new
tells-record-next j name slots xs old from partials i x values mid new to before at e told d en are types ps ss =
    let M = misfits_from (the_schema j.bases.names.now) d en (target_by j) name in
    let behind : Trees = parameters (map record_in (drop (i + 1) partials)) in
    let own : (record_in x).values ≡ all_of values = values_behind (parts_of x) ∙ ap all_of (sym e) in
    told d en are types ps ss behind
    ∙ ap (λ l. mid ++ M from types (drop from ps) (joined_trees l behind)) (sym own)
    ∙ ap (λ l. mid ++ M from types (drop from ps) (parameters (map record_in l))) (sym (drop-item partials i x at))
    ∙ before d en are types ps ss

pub tells-all : (j : Judge) (name : ℕ) (slots : List SlotForm) (xs : Trees) (old : List Finding) (to : ℕ)
    (left : Trees) (new : List Finding) → left ≡ none → TellsUpTo j name slots xs old to left new
    → TellsAll j name slots xs old new
tells-all j name slots xs old to left new e told d en are types ps ss =
    let M = misfits_from (the_schema j.bases.names.now) d en (target_by j) name in
    sym (append-nil new)
    ∙ ap (λ l. new ++ l) (sym (none-left (the_schema j.bases.names.now) d en (target_by j) name to types (drop to ps)))
    ∙ ap (λ l. new ++ M to types (drop to ps) l) (sym e) ∙ told d en are types ps ss

pub tells-one : (j : Judge) (name : ℕ) (slots : List SlotForm) (parts values : List Tree) (old new : List Finding)
    (to : ℕ) → begins_with_keyword parts ≡ true → values ≡ drop 1 parts
    → TellsRecord j name slots 0 (all_of values) old new to
    → TellsAll j name slots (parameters (records (form_of parts))) old new
tells-one j name slots parts values old new to k e told =
    subst (λ f. TellsAll j name slots (parameters (records f)) old new) (sym (form-internal parts k))
    (tells-all j name slots (parameters (record_of parts ∷ [])) old to none new refl
    (λ d en are types ps ss.
    told d en are types ps ss none
    ∙ ap (λ l. old ++ misfits_from (the_schema j.bases.names.now) d en (target_by j) name 0 types ps (joined_trees l none))
    (ap all_of e ∙ sym (values_behind parts))))

-- where there are no more attributes, or no more parameters
pub tells-short : (j : Judge) (name : ℕ) (slots : List SlotForm) (from : ℕ) (xs : Trees) (old : List Finding) (to : ℕ)
    (left : Trees) (new : List Finding) → length slots ≤ to → TellsBetween j name slots from xs old to left new
    → TellsRecord j name slots from xs old new to
tells-short j name slots from xs old to left new le told d en are types ps ss ys =
    let M = misfits_from (the_schema j.bases.names.now) d en (target_by j) name in
    let over = slots-end (the_schema j.bases.names.now) en types ps slots to ss le in
    ap (λ l. new ++ M to types l ys) over ∙ ap (λ l. new ++ M to types l (joined_trees left ys)) (sym over)
    ∙ told d en are types ps ss ys

-- where the data types are asked in turn
pub slot-misfit-is : {E : Type 0} (j : Judge) (slot : SlotForm) (x : Tree) (result : Result (Option FindingKind) E)
    (ns : List ℕ) → ns ≡ slot.data_types.items → slot.is_derived ≡ false
    → (slot.is_optional && is_dollar x) ≡ false
    → IfOk result (λ f. (d : Domain) → (en : Entities) → AreOf j d en
    → Every (λ k. NamesKnownType (the_schema j.bases.names.now) (type_at (the_schema j.bases.names.now) k)) ns
    → f ≡ misfit_of (the_schema j.bases.names.now) d en (target_by j) (map (type_at (the_schema j.bases.names.now)) ns)
    x)
    → IfOk result (λ f. (d : Domain) → (en : Entities) → AreOf j d en → (types : List Name) → (p : Place)
    → IsSlotOf (the_schema j.bases.names.now) en types p slot
    → f ≡ misfit_at (the_schema j.bases.names.now) d en (target_by j) types p x)
slot-misfit-is j slot x (Ok f) ns e derived unset h = λ d en are types p is.
    as-asked (the_schema j.bases.names.now) d en (target_by j) types p x slot is f derived unset
    (h d en are (subst (Every (λ k. NamesKnownType (the_schema j.bases.names.now) (type_at (the_schema j.bases.names.now) k)))
    (sym e) is.known)
    ∙ ap (λ l. misfit_of (the_schema j.bases.names.now) d en (target_by j)
    (map (type_at (the_schema j.bases.names.now)) l) x) e)
slot-misfit-is j slot x (Err g) ns e derived unset h = h
