-- The items of the enumeration that is declared at a number.
use Rattle.std.specs.Prelude.{◌≡◌, ℕ, Option, None, Some, slice_get}
use Rattle.std.proofs.Common.{refl}
use Rattle.express_syntax.specs.Schemas.{Schema, Declaration, type, entity, skipped, Underlying, enumeration, select, data_type}
use Rattle.schema_semantics.specs.Faults as faults
use Rattle.schema_names.specs.steps.Enumerated as names
use Rattle.schema_underlying_types.specs.BaseViews as bases

same-behind : (u : Underlying) → faults.enumerated_items u ≡ bases.items_of u
same-behind (enumeration items) = refl
same-behind (select items) = refl
same-behind (data_type k) = refl

same-in : (o : Option Declaration) → names.some_items o ≡ bases.items_in o
same-in None = refl
same-in (Some (type t)) = same-behind t.underlying
same-in (Some (entity e)) = refl
same-in (Some (skipped p)) = refl

pub same-items : (s : Schema) (i : ℕ) → names.items_at s i ≡ bases.items_at s i
same-items s i = same-in (slice_get s.declarations i)
