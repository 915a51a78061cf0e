-- The findings of an exchange structure, in order (ISO 10303-21, 11).
use Rattle.std.specs.Prelude.{ℕ, suc, ◌==◌, ◌||◌, ◌&&◌, not, Bool, true, false, cond, List, [], ◌∷◌, ◌++◌, map, flat_map, Option, Some, None, bytes_eq}
use Rattle.std.specs.List.{list_all, list_any, repeat, take_while}
use Rattle.step_literals.specs.Words.{upper}
use Rattle.step_literals.specs.Items.{string_items}
use Rattle.step_literals.specs.declared.literal.items.Item.{Item}
use Rattle.step_literals.specs.declared.literal.items.Item.TheVariants.{Code}
use Rattle.step_structures.specs.Words.{string}
use Rattle.step_structures.specs.Trees as trees
use Rattle.step_structures.specs.Trees.{Tree, Trees, Record, Form, ExchangeRow, Section, File, rows_of}
use Rattle.express_syntax.specs.Schemas.{Schema, DataType}
use Rattle.schema_semantics.specs.Names.{Name}
use Rattle.schema_semantics.specs.Attributes.{Place}
use Rattle.conformance.specs.declared.finding.FindingKind.{FindingKind}
use Rattle.conformance.specs.declared.finding.FindingKind.TheVariants.{UnknownEntity, AbstractInstance, MissingSupertype, OneOfBroken, ParameterCount, MisplacedStar, SchemaName}
use Rattle.conformance.specs.declared.finding.Spot.TheVariants.{Place as At, Nothing}
use Rattle.conformance.specs.declared.finding.Finding.{Finding}
use Rattle.conformance.specs.Bases.{Domain, base}
use Rattle.conformance.specs.ParameterFits.{Target, absent, unknown, of_types, first_finding, is_dollar, is_star_or_dollar, is_entity, misfit}
use Rattle.conformance.specs.Entities.{Entities, named_entity, records, parameters, types_of, places_of, unknown_entities, abstract_leaves, missing_supertypes, broken_one_ofs, wrong_counts, is_derived, is_optional, data_types}

-- The code of a character of ISO 10646; `None` for a character of another code page and for a byte
-- that isn't a character.
abbrev pub code_of : Item → Option ℕ
code_of (Code c) = Some c
code_of i = None

-- The character is a space or an opening brace: an object identifier may follow the schema's name
-- after it (ISO 10303-21, 8.2.4).
abbrev pub ends_name : Option ℕ → Bool
ends_name None = false
ends_name (Some c) = (c == 32) || (c == 123)

abbrev pub or_zero : Option ℕ → ℕ
or_zero None = 0
or_zero (Some c) = c

-- The name that the string spells, in capitals. What follows a space or an opening brace doesn't count.
abbrev pub spelled_name : List ℕ → Name
spelled_name text = upper (map or_zero (take_while (λ c. not (ends_name c)) (map code_of (string_items text))))

-- The string names the schema of this name, in letters of any case. An empty name is no schema's.
abbrev pub names_schema : Name → List ℕ → Bool
names_schema name text = not (bytes_eq name []) && bytes_eq (spelled_name text) name

-- The string that is the only element of a list, which is itself the only one; otherwise empty.
abbrev pub string_in : Trees → List ℕ
string_in (trees.one (trees.group (trees.one (trees.leaf (string text)) trees.none)) trees.none) = text
string_in xs = []

-- The schema's name in the header section, whose third record is FILE_SCHEMA; otherwise empty
-- (ISO 10303-21, 8.2.4).
abbrev pub schema_text : List Record → List ℕ
schema_text (d ∷ n ∷ r ∷ rs) = string_in r.values
schema_text rs = []

-- The string names the schema by one of these names.
abbrev pub names_one : List Name → List ℕ → Bool
names_one names text = list_any (λ (n : Name). names_schema n text) names

-- A data section that names a schema does so by one of these names (ISO 10303-21, 11.1).
abbrev pub heading_names : List Name → Option (List ℕ × List ℕ) → Bool
heading_names names None = true
heading_names names (Some h) = names_one names h.1

-- The names by which a file may call the schema: the schema's own, and these others in any case.
abbrev pub file_names : Schema → List Name → List Name
file_names s others = s.name ∷ map upper others

-- The file is one of the schema: it calls the schema by its own name, or by one of these others.
abbrev pub is_of_schema : Schema → List Name → File → Bool
is_of_schema s others f =
    names_one (file_names s others) (schema_text f.header)
    && list_all (λ (x : Section). heading_names (file_names s others) x.heading) f.sections

-- `times` findings of the whole instance.
abbrev pub whole_findings : ℕ → FindingKind → ℕ → List Finding
whole_findings name kind times = repeat times (record { kind = kind; instance = name; spot = At 0 } ∷ [])

-- The first list, or the second if the first is empty.
abbrev pub or_next : List Finding → List Finding → List Finding
or_next [] ys = ys
or_next (x ∷ xs) ys = x ∷ xs

abbrev pub at_place : ℕ → ℕ → Option FindingKind → List Finding
at_place name n None = []
at_place name n (Some kind) = record { kind = kind; instance = name; spot = At n } ∷ []

module _ (s : Schema) (d : Domain) (en : Entities) where
  -- What a reference to an instance of this form refers to.
  abbrev pub target_form : Form → Target
  target_form f = cond (list_all (λ r. is_entity s (named_entity r)) (records f)) (of_types (types_of s en f)) unknown

  abbrev pub target_in : List ExchangeRow → ℕ → Target
  target_in [] y = absent
  target_in (r ∷ rows) y = cond (r.name == y) (target_form r.form) (target_in rows y)

  module _ (target : ℕ → Target) where
    -- The finding of the first of these data types that the parameter doesn't fit, if any.
    abbrev pub misfit_of : List DataType → Tree → Option FindingKind
    misfit_of [] x = None
    misfit_of (k ∷ ks) x = first_finding (misfit s d target (base d k) x) (misfit_of ks x)

    -- The finding of the parameter of an attribute, if any. The value of an attribute that a
    -- redeclaration derives is `*` or `$` (ISO 10303-21, 11.2.5.2). For other attributes `$` is
    -- allowed if they are OPTIONAL, and any other value has to fit the data types.
    abbrev pub misfit_at : List Name → Place → Tree → Option FindingKind
    misfit_at types p x = cond (is_derived s en types p) (cond (is_star_or_dollar x) None (Some MisplacedStar))
        (cond (is_dollar x && is_optional s en types p) None (misfit_of (data_types s en types p) x))

    -- The findings of these parameters, which follow `n` others.
    abbrev pub misfits_from : ℕ → ℕ → List Name → List Place → Trees → List Finding
    misfits_from name n types (p ∷ ps) (trees.one x xs) =
        at_place name (suc n) (misfit_at types p x) ++ misfits_from name (suc n) types ps xs
    misfits_from name n types ps xs = []

    -- The findings of an instance. If keywords aren't entities, only these; otherwise, if its types
    -- are wrong, only those of types; otherwise, if numbers of parameters are wrong, only those;
    -- otherwise those of each parameter.
    abbrev pub row_findings : ExchangeRow → List Finding
    row_findings r =
        let types = types_of s en r.form in
        or_next (whole_findings r.name UnknownEntity (unknown_entities s en r.form))
        (or_next (whole_findings r.name AbstractInstance (abstract_leaves s en types)
        ++ whole_findings r.name MissingSupertype (missing_supertypes s en types)
        ++ whole_findings r.name OneOfBroken (broken_one_ofs s en types))
        (or_next (whole_findings r.name ParameterCount (wrong_counts s en r.form))
        (misfits_from r.name 0 types (places_of s en r.form) (parameters (records r.form)))))

  -- The findings of a file that may call the schema by these other names: that of the schema's
  -- name, if any, then those of the instances in the order of the file.
  abbrev pub findings : List Name → File → List Finding
  findings others f =
      cond (is_of_schema s others f) [] (record { kind = SchemaName; instance = 0; spot = Nothing } ∷ [])
      ++ flat_map (row_findings (target_in (rows_of f.sections))) (rows_of f.sections)
