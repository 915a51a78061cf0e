-- What is asked of an entity, clause behind clause.
use Rattle.std.specs.Prelude.{List, ◌++◌, Result}
use Rattle.step_literals.specs.declared.literal.Word.{Word}
use Rattle.express_syntax.specs.Profile.{Every}
use Rattle.express_syntax.specs.Schemas.{Schema, Entity}
use Rattle.schema_semantics.specs.Names.{Name}
use Rattle.schema_semantics.specs.Faults.{Demand, IsMet, demands_of_supertype, demands_of_entity}
use Rattle.schema_faults.specs.steps.Checks.{IsFirstUnmet, Checks}
use Rattle.schema_faults.specs.steps.Clauses.{of_subtype_clause, of_explicit_clauses, of_derive_clause, of_inverse_clause}
use Rattle.schema_faults.proofs.Unmet.{unmet-left, unmet-right, met-joined, checks-on}

module _ (s : Schema) (e : Entity) where
  abbrev pub Met : List Demand → Type 0
  Met ds = Every (IsMet s) ds

  abbrev to_subtypes : List Demand
  to_subtypes = demands_of_supertype e.supertype ++ of_subtype_clause e

  abbrev to_explicits : List Demand
  to_explicits = to_subtypes ++ of_explicit_clauses e

  abbrev to_derived : List Demand
  to_derived = to_explicits ++ of_derive_clause e

  pub unmet-derived : (n : Name) → Met (demands_of_supertype e.supertype) → Met (of_subtype_clause e)
      → Met (of_explicit_clauses e) → IsFirstUnmet s (of_derive_clause e) n → IsFirstUnmet s (demands_of_entity e) n
  unmet-derived n a b c u =
      unmet-left s to_derived (of_inverse_clause e) n
      (unmet-right s to_explicits (of_derive_clause e) n
      (met-joined s to_subtypes (of_explicit_clauses e)
      (met-joined s (demands_of_supertype e.supertype) (of_subtype_clause e) a b) c) u)

  before-derived : (n : Name) → IsFirstUnmet s to_explicits n → IsFirstUnmet s (demands_of_entity e) n
  before-derived n u =
      unmet-left s to_derived (of_inverse_clause e) n (unmet-left s to_explicits (of_derive_clause e) n u)

  pub unmet-explicits : (n : Name) → Met (demands_of_supertype e.supertype) → Met (of_subtype_clause e)
      → IsFirstUnmet s (of_explicit_clauses e) n → IsFirstUnmet s (demands_of_entity e) n
  unmet-explicits n a b u =
      before-derived n (unmet-right s to_subtypes (of_explicit_clauses e) n
      (met-joined s (demands_of_supertype e.supertype) (of_subtype_clause e) a b) u)

  before-explicits : (n : Name) → IsFirstUnmet s to_subtypes n → IsFirstUnmet s (demands_of_entity e) n
  before-explicits n u = before-derived n (unmet-left s to_subtypes (of_explicit_clauses e) n u)

  pub unmet-subtypes : (n : Name) → Met (demands_of_supertype e.supertype) → IsFirstUnmet s (of_subtype_clause e) n
      → IsFirstUnmet s (demands_of_entity e) n
  unmet-subtypes n a u =
      before-explicits n (unmet-right s (demands_of_supertype e.supertype) (of_subtype_clause e) n a u)

  pub unmet-supertype : (n : Name) → IsFirstUnmet s (demands_of_supertype e.supertype) n
      → IsFirstUnmet s (demands_of_entity e) n
  unmet-supertype n u =
      before-explicits n (unmet-left s (demands_of_supertype e.supertype) (of_subtype_clause e) n u)

  pub all-checked : (r : Result (Unit {0}) Word) → Met (demands_of_supertype e.supertype) → Met (of_subtype_clause e)
      → Met (of_explicit_clauses e) → Met (of_derive_clause e) → Checks s (of_inverse_clause e) r
      → Checks s (demands_of_entity e) r
  all-checked r a b c d h =
      checks-on s to_derived (of_inverse_clause e) r
      (met-joined s to_explicits (of_derive_clause e)
      (met-joined s to_subtypes (of_explicit_clauses e)
      (met-joined s (demands_of_supertype e.supertype) (of_subtype_clause e) a b) c) d) h
