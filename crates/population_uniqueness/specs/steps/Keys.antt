-- What the code computes; nothing is promised here. The keys of instances, as the normal forms of their parts, and
-- the set of keys that were encountered.
use Rattle.std.specs.Prelude.{◌≡◌, ⊤, Bool, List, ◌∷◌, Option, Some, None, Vec}
use Rattle.std.specs.List.{list_any}
use Rattle.std.specs.Cmp.Lexicographic.{pointwise}
use Rattle.indexmap.specs.IndexSet.{IndexSet, contains}
use Rattle.step_values.specs.NormalForms.{AreNormal, normal_eq}
use Rattle.step_values.specs.Values.{Values}
use Rattle.step_values.specs.declared.normal.Normal.{Normal}
use Rattle.parameter_fits.specs.steps.Named.{each_by_name}
use Rattle.conformance.specs.RuleFindings.{same_keys}
use Rattle.population_uniqueness.specs.declared.key_lookup.Key.{Key}

abbrev pub forms_in : {Z : Type 0} → Option (Vec Normal Z) → Option (List Normal)
forms_in None = None
forms_in (Some v) = Some v.items

-- the normal forms are those of the parts of the key, or there is no key
abbrev pub IsKey : Option Values → Option (List Normal) → Type 0
IsKey None None = ⊤
IsKey None (Some ns) = ⊥
IsKey (Some vs) None = ⊥
IsKey (Some vs) (Some ns) = AreNormal (each_by_name vs) ns

abbrev pub same_forms : List Normal → List Normal → Bool
same_forms ms ns = pointwise normal_eq ms ns

abbrev pub same_parts : Key → Key → Bool
same_parts k l = same_forms k.parts.items l.parts.items

-- a key is in the set if and only if it is the same as one of these
abbrev pub AreMet : {S : Type 0} → List (Option Values) → IndexSet Key S → Type 0
AreMet before met =
    (vs : Values) (k : Key) → AreNormal (each_by_name vs) k.parts.items
    → contains same_parts met k ≡ list_any (same_keys (Some vs)) before

-- the key k, if there is one, is added to the set, and `again` says whether it was there before
abbrev pub Meets : {S : Type 0} → Option Values → Bool → IndexSet Key S → IndexSet Key S → Type 0
Meets k again old new =
    (before : List (Option Values)) → AreMet before old
    → (again ≡ list_any (same_keys k) before) × AreMet (k ∷ before) new
