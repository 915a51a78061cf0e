-- What the parameters of a file are checked by.
use Rattle.std.specs.Prelude.{◌≡◌, ℕ, ◌==◌, ◌&&◌, Bool, cond, ◌++◌, List, [], ◌∷◌, Option, None, Some, drop, flat_map}
use Rattle.express_syntax.specs.Schemas.{Schema}
use Rattle.schema_semantics.specs.Names.{Name}
use Rattle.schema_semantics.specs.Attributes.{Place}
use Rattle.step_structures.specs.Trees.{Trees, ExchangeRow}
use Rattle.step_structures.specs.Trees as trees
use Rattle.conformance.specs.declared.finding.Finding.{Finding}
use Rattle.conformance.specs.Bases.{Domain, IsDomain}
use Rattle.conformance.specs.Entities.{Entities, AreEntities, joined_trees, records, parameters, types_of, places_of, abstract_leaves, missing_supertypes, broken_one_ofs, wrong_counts}
use Rattle.conformance.specs.ParameterFits.{Target}
use Rattle.conformance.specs.Findings.{whole_findings, or_next, misfits_from, row_findings, is_of_schema}
use Rattle.conformance.specs.declared.finding.FindingKind.TheVariants.{AbstractInstance, MissingSupertype, OneOfBroken, ParameterCount, SchemaName}
use Rattle.conformance.specs.declared.finding.Spot.TheVariants.{Nothing}
use Rattle.schema_names.specs.Schemas.{the_schema}
use Rattle.schema_underlying_types.specs.Tables.{AreBases}
use Rattle.parameter_fits.specs.steps.Targets.{AreTargets, target_of}
use Rattle.population_rows.specs.declared.form.SlotForm.{SlotForm}
use Rattle.population_rows.specs.declared.form.Form.{Form}
use Rattle.population_forms.specs.steps.Forms.{AreSlotsOf, IsFormOf}
use Rattle.population_findings.specs.steps.Rows.{HasTypes, HaveForms}
use Rattle.population_findings.specs.declared.judge.Judge.{Judge}
use Rattle.population_rows.specs.declared.rows.Rows.{Rows}

-- what references refer to
abbrev pub target_by : Judge → ℕ → Target
target_by j = target_of (the_schema j.bases.names.now) j.targets

abbrev pub IsJudge : Judge → Type 0
IsJudge j = AreBases j.bases × AreTargets (the_schema j.bases.names.now) j.targets

-- the functions that give the schema its meaning
abbrev pub AreOf : Judge → Domain → Entities → Type 0
AreOf j d en = IsDomain (the_schema j.bases.names.now) d × AreEntities (the_schema j.bases.names.now) en

-- The findings added are those of the parameters xs, which begin with the attribute number from, except those of
-- left, whatever parameters ys follow.
abbrev pub TellsBetween : Judge → ℕ → List SlotForm → ℕ → Trees → List Finding → ℕ → Trees → List Finding → Type 0
TellsBetween j name slots from xs old to left new =
    (d : Domain) (en : Entities) → AreOf j d en → (types : List Name) (ps : List Place)
    → AreSlotsOf (the_schema j.bases.names.now) en types ps slots → (ys : Trees)
    → new ++ misfits_from (the_schema j.bases.names.now) d en (target_by j) name to types (drop to ps) (joined_trees left ys)
    ≡ old ++ misfits_from (the_schema j.bases.names.now) d en (target_by j) name from types (drop from ps)
    (joined_trees xs ys)

-- The findings added are those of all parameters of a record.
abbrev pub TellsRecord : Judge → ℕ → List SlotForm → ℕ → Trees → List Finding → List Finding → ℕ → Type 0
TellsRecord j name slots from xs old new to = TellsBetween j name slots from xs old to trees.none new

-- The findings added are those of the parameters of an instance, except those of left.
abbrev pub TellsUpTo : Judge → ℕ → List SlotForm → Trees → List Finding → ℕ → Trees → List Finding → Type 0
TellsUpTo j name slots xs old to left new =
    (d : Domain) (en : Entities) → AreOf j d en → (types : List Name) (ps : List Place)
    → AreSlotsOf (the_schema j.bases.names.now) en types ps slots
    → new ++ misfits_from (the_schema j.bases.names.now) d en (target_by j) name to types (drop to ps) left
    ≡ old ++ misfits_from (the_schema j.bases.names.now) d en (target_by j) name 0 types ps xs

-- an instance has a form if and only if all its keywords are entities
abbrev pub IsOfForm : Schema → Entities → Option Form → trees.Form → Type 0
IsOfForm s en None f = HasTypes s f → ⊥
IsOfForm s en (Some x) f = HasTypes s f × IsFormOf s en f x

-- The findings of an instance's parameters are added.
abbrev pub TellsAll : Judge → ℕ → List SlotForm → Trees → List Finding → List Finding → Type 0
TellsAll j name slots xs old new =
    (d : Domain) (en : Entities) → AreOf j d en → (types : List Name) (ps : List Place)
    → AreSlotsOf (the_schema j.bases.names.now) en types ps slots
    → new ≡ old ++ misfits_from (the_schema j.bases.names.now) d en (target_by j) name 0 types ps xs

-- the types satisfy the constraints on ABSTRACT entities, supertypes and ONEOFs
abbrev pub is_sound : Form → Bool
is_sound x = x.abstract_leaves == 0 && x.missing_supertypes == 0 && x.broken_one_ofs == 0

abbrev pub types_told : ℕ → ℕ → ℕ → ℕ → List Finding
types_told name leaves missing broken =
    whole_findings name AbstractInstance leaves ++ whole_findings name MissingSupertype missing ++ whole_findings name OneOfBroken broken

abbrev pub TellsTypes : ℕ → Form → List Finding → List Finding → Type 0
TellsTypes name x old new = new ≡ old ++ types_told name x.abstract_leaves x.missing_supertypes x.broken_one_ofs

-- the findings of an instance whose keywords are all entities
abbrev pub behind : Judge → Domain → Entities → ExchangeRow → List Finding
behind j d en r =
    let types = types_of (the_schema j.bases.names.now) en r.form in
    or_next (types_told r.name (abstract_leaves (the_schema j.bases.names.now) en types)
    (missing_supertypes (the_schema j.bases.names.now) en types)
    (broken_one_ofs (the_schema j.bases.names.now) en types))
    (or_next (whole_findings r.name ParameterCount (wrong_counts (the_schema j.bases.names.now) en r.form))
    (misfits_from (the_schema j.bases.names.now) d en (target_by j) r.name 0 types
    (places_of (the_schema j.bases.names.now) en r.form) (parameters (records r.form))))

abbrev pub TellsBehind : Judge → Form → ExchangeRow → List Finding → List Finding → Type 0
TellsBehind j x r old new =
    (d : Domain) (en : Entities) → AreOf j d en → IsFormOf (the_schema j.bases.names.now) en r.form x
    → new ≡ old ++ behind j d en r

-- The findings of an instance are added, whose form is x.
abbrev pub TellsForm : Judge → Option Form → ExchangeRow → List Finding → List Finding → Type 0
TellsForm j x r old new =
    (d : Domain) (en : Entities) → AreOf j d en → IsOfForm (the_schema j.bases.names.now) en x r.form
    → new ≡ old ++ row_findings (the_schema j.bases.names.now) d en (target_by j) r

-- The findings of each instance are added.
abbrev pub TellsRows : Judge → Rows → List ExchangeRow → List Finding → List Finding → Type 0
TellsRows j t rs old new =
    (d : Domain) (en : Entities) → AreOf j d en → HaveForms (the_schema j.bases.names.now) en t rs t.form_of.items
    → new ≡ old ++ flat_map (row_findings (the_schema j.bases.names.now) d en (target_by j)) rs

-- The findings of all instances except those of left are added.
abbrev pub TellsRowsTo : Judge → Rows → List ExchangeRow → List Finding → List ExchangeRow → List Finding → Type 0
TellsRowsTo j t rs old left new =
    (d : Domain) (en : Entities) → AreOf j d en → HaveForms (the_schema j.bases.names.now) en t rs t.form_of.items
    → new ++ flat_map (row_findings (the_schema j.bases.names.now) d en (target_by j)) left
    ≡ old ++ flat_map (row_findings (the_schema j.bases.names.now) d en (target_by j)) rs

-- the finding about the schema's name, if any
abbrev pub schema_told : Schema → List Name → trees.File → List Finding
schema_told s others f =
    cond (is_of_schema s others f) [] (record { kind = SchemaName; instance = 0; spot = Nothing } ∷ [])
