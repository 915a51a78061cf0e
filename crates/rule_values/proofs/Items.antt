-- The items of SELECTs are declared.
use Rattle.std.specs.Prelude.{ℕ, ◌⊎◌}
use Rattle.std.proofs.Common.{inl, inr, subst, sym}
use Rattle.express_syntax.specs.Schemas.{Schema, type, entity, Underlying, select, data_type, named}
use Rattle.schema_semantics.specs.Names.{Name, Among, StandsFor, IsType, IsEntity, IsMadeOf}
use Rattle.schema_semantics.specs.Faults.{Demand, a_type, IsMet, IsResolved, demands, demands_of_declaration, demands_of_underlying, demands_of_data_type}
use Rattle.schema_semantics.proofs.Lists.{among-map, among-flat, every-at, every-of, last-step}
use Rattle.schema_semantics.proofs.Supertypes.{found}
use Rattle.schema_names.specs.Numbers.{HasNumber}
use Rattle.schema_names.proofs.Numbers.{each-number}
use Rattle.conformance.specs.Bases.{OpensTo, IsItem}

module _ (s : Schema) where
  met-numbered : (n : Name) → IsType s n ⊎ IsEntity s n → (i : ℕ) × HasNumber s n i
  met-numbered n (inl (t, at)) = each-number 0 s.declarations n (type t) at
  met-numbered n (inr (e, at)) = each-number 0 s.declarations n (entity e) at

  asked : IsResolved s → (n : Name) (u : Underlying) → StandsFor s n u → (d : Demand)
      → Among d (demands_of_underlying u) → IsMet s d
  asked r n u (t, at, is) d m =
      every-at (IsMet s) d (demands s) r.known
      (among-flat demands_of_declaration (type t) d s.declarations (found s.declarations n (type t) at).0
      (subst (λ v. Among d (demands_of_underlying v)) (sym is) m))

  part-known : IsResolved s → (p n : Name) → IsMadeOf s (named p) (named n) → (j : ℕ) × HasNumber s n j
  part-known r p n (inl stands) =
      let known = every-of (IsMet s) (demands_of_data_type (named n))
      (λ d m. asked r p (data_type (named n)) stands d m) in
      met-numbered n known.0
  part-known r p n (inr (items, stands, among)) =
      met-numbered n (asked r p (select items) stands (a_type n) (among-map a_type n items among))

  pub item-declared : IsResolved s → (m n : Name) → IsItem s m n → (j : ℕ) × HasNumber s n j
  item-declared r m n (way, other) = let (p, q) = last-step (OpensTo s) m n way in part-known r p n q.1
