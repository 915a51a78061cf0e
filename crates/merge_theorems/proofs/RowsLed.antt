-- The rows of a merged population, and how its instances are laid out.
use Rattle.std.specs.Prelude.{◌≡◌, ℕ, ◌==◌, Bool, true, false, cond, List, [], ◌∷◌, map, filter, flat_map, Option, None, Some, ◌↔◌}
use Rattle.std.specs.List.{IsDistinct}
use Rattle.std.specs.Option.{option_map}
use Rattle.std.proofs.Common.{refl, sym, ap, subst, ◌∙◌}
use Rattle.step_values.specs.Values.{Value, more}
use Rattle.step_values.specs.References.{renamed, renamed_each}
use Rattle.value_equality.specs.Rows.{Row, renamed_row}
use Rattle.conformance.specs.PlainRows.{or_unset, values_at, IsRowOf, AreRowsOf}
use Rattle.express_syntax.specs.Schemas.{Schema}
use Rattle.express_syntax.specs.Profile.{Every}
use Rattle.schema_semantics.specs.Names.{Among, DeclaresExplicit}
use Rattle.schema_semantics.specs.Attributes.{Place, same_place}
use Rattle.conformance.specs.Entities.{own_places_of}
use Rattle.conformance.specs.Populations.{Slot, Instance, slot_at}
use Rattle.merge_theorems.specs.Layout.{IsLaidOut}
use Rattle.merge_theorems.specs.MergedPopulations.{led_slot, led_instance, merged_instances, merged_rows}

module _ (h : ℕ → ℕ) where
  slot_led : (xs : List Slot) (p : Place) → slot_at (map (led_slot h) xs) p ≡ option_map (renamed h) (slot_at xs p)
  slot_led [] p = refl
  slot_led (x ∷ xs) p = go (same_place x.place p) (slot_led xs p)
    where
      go : (b : Bool) → slot_at (map (led_slot h) xs) p ≡ option_map (renamed h) (slot_at xs p)
          → cond b (Some (renamed h x.value)) (slot_at (map (led_slot h) xs) p)
          ≡ option_map (renamed h) (cond b (Some x.value) (slot_at xs p))
      go true e = refl
      go false e = e

  unset_led : (o : Option Value) → or_unset (option_map (renamed h) o) ≡ renamed h (or_unset o)
  unset_led None = refl
  unset_led (Some v) = refl

  values_led : (xs : List Slot) (ps : List Place)
      → values_at (map (led_slot h) xs) ps ≡ renamed_each h (values_at xs ps)
  values_led xs [] = refl
  values_led xs (p ∷ ps) =
      λ i. more ((ap or_unset (slot_led xs p) ∙ unset_led (slot_at xs p)) i) (values_led xs ps i)

  module _ (s : Schema) where
    row_led : (i : Instance) (r : Row) → IsRowOf s i r → IsRowOf s (led_instance h i) (renamed_row h r)
    row_led i r row = record {
      name = row.name;
      section = row.section;
      types = row.types;
      values = ap (renamed_each h) row.values ∙ sym (values_led i.slots (flat_map (own_places_of s) r.types));
    }

    pub rows_led : (is : List Instance) (P : List Row) → AreRowsOf s is P
        → AreRowsOf s (merged_instances h is) (merged_rows h P)
    rows_led [] [] are = tt
    rows_led [] (r ∷ P) are = absurd are
    rows_led (i ∷ is) [] are = absurd are
    rows_led (i ∷ is) (r ∷ P) are =
        go (h i.name == i.name) (h r.name == r.name) (λ k. h (are.0.name k) == are.0.name k) (row_led i r are.0)
        (rows_led is P are.1)
      where
        go : (a b : Bool) → b ≡ a → IsRowOf s (led_instance h i) (renamed_row h r)
            → AreRowsOf s (merged_instances h is) (merged_rows h P)
            → AreRowsOf s (map (led_instance h) (cond a (i ∷ filter (λ (j : Instance). h j.name == j.name) is)
            (filter (λ (j : Instance). h j.name == j.name) is)))
            (map (renamed_row h) (cond b (r ∷ filter (λ (q : Row). h q.name == q.name) P)
            (filter (λ (q : Row). h q.name == q.name) P)))
        go true true e first rest = (first, rest)
        go false false e first rest = rest
        go true false e first rest = absurd (cc)
        go false true e first rest = absurd (cc)

    same_places : (xs : List Slot) → map (λ (y : Slot). y.place) (map (led_slot h) xs) ≡ map (λ (y : Slot). y.place) xs
    same_places [] = refl
    same_places (x ∷ xs) = ap (λ l. x.place ∷ l) (same_places xs)

    one_laid_out : (i : Instance) → IsLaidOut s i → IsLaidOut s (led_instance h i)
    one_laid_out i laid = record {
      types = laid.types;
      attributes = λ e a. subst (λ ps. Among (e, a) ps ↔ (Among e i.types × DeclaresExplicit s e a))
          (sym (same_places i.slots)) (laid.attributes e a);
      once = subst (IsDistinct same_place) (sym (same_places i.slots)) laid.once;
    }

    pub laid_out : (is : List Instance) → Every (IsLaidOut s) is → Every (IsLaidOut s) (merged_instances h is)
    laid_out [] all = tt
    laid_out (i ∷ is) all = go (h i.name == i.name) (one_laid_out i all.0) (laid_out is all.1)
      where
        go : (b : Bool) → IsLaidOut s (led_instance h i) → Every (IsLaidOut s) (merged_instances h is)
            → Every (IsLaidOut s) (map (led_instance h) (cond b (i ∷ filter (λ (j : Instance). h j.name == j.name) is)
            (filter (λ (j : Instance). h j.name == j.name) is)))
        go true first rest = (first, rest)
        go false first rest = rest
