-- The numbers that data types name.
use Rattle.std.specs.Prelude.{◌≡◌, ℕ, List, map, Option, None, Some, slice_get}
use Rattle.std.specs.Option.{option_map}
use Rattle.std.proofs.Common.{refl, sym, ap, subst, ◌∙◌}
use Rattle.std.proofs.lemmas.Option.{slice_get-map}
use Rattle.express_syntax.specs.Schemas.{Schema, DataType, integer, number, boolean, logical, real, string, binary, named, array, list, bag, set}
use Rattle.schema_semantics.specs.Names.{Name}
use Rattle.schema_names.specs.Numbers.{number_of}
use Rattle.schema_data_types.specs.declared.forms.Form.{Form}
use Rattle.schema_data_types.specs.NumberedTypes.{form_in, all_data_types}
use Rattle.population_forms.proofs.Naming.{has-own-name}
use Rattle.rule_plans.specs.steps.Coded.{named_in, named_of, named_at}
use Rattle.rule_plans.specs.steps.Seeking.{IsDeclared}

-- a number that is found is that of its name
pub found-declared : (s : Schema) (n : Name) (o : Option ℕ) → o ≡ number_of s n → IsDeclared s o
found-declared s n None e = tt
found-declared s n (Some i) e = has-own-name s n i (sym e)

-- what the form of a data type names is declared
form-declared : (s : Schema) (k : DataType) → IsDeclared s (named_in (form_in s k))
form-declared s integer = tt
form-declared s number = tt
form-declared s boolean = tt
form-declared s logical = tt
form-declared s (real w) = tt
form-declared s (string w) = tt
form-declared s (binary w) = tt
form-declared s (named n) = found-declared s n (number_of s n) refl
form-declared s (array b o u k) = tt
form-declared s (list b u k) = tt
form-declared s (bag b k) = tt
form-declared s (set b k) = tt

of-declared : (s : Schema) (o : Option DataType) → IsDeclared s (named_of (option_map (form_in s) o))
of-declared s None = tt
of-declared s (Some k) = form-declared s k

pub at-declared : (s : Schema) (forms : List Form) → forms ≡ map (form_in s) (all_data_types s) → (j : ℕ) (o : Option ℕ)
    → o ≡ named_at forms j → IsDeclared s o
at-declared s forms is j o e =
    subst (IsDeclared s)
    (sym (e ∙ ap (λ l. named_at l j) is ∙ ap named_of (slice_get-map (form_in s) (all_data_types s) j)))
    (of-declared s (slice_get (all_data_types s) j))
