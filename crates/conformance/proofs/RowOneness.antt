-- The rows of a population are one list.
use Rattle.std.specs.Prelude.{◌≡◌, List, [], ◌∷◌, flat_map}
use Rattle.std.proofs.Common.{refl, sym, ap, ◌∙◌}
use Rattle.express_syntax.specs.Schemas.{Schema}
use Rattle.value_equality.specs.Rows.{Row}
use Rattle.conformance.specs.Entities.{own_places_of}
use Rattle.conformance.specs.Populations.{Instance}
use Rattle.conformance.specs.PlainRows.{values_at, IsRowOf, AreRowsOf, RowsAreOne}
use Rattle.conformance.proofs.Ordered.{same-order}

one_row : (s : Schema) (i : Instance) (p q : Row) → IsRowOf s i p → IsRowOf s i q → p ≡ q
one_row s i p q h k =
    let types : p.types ≡ q.types =
    same-order p.types q.types h.types.in_order k.types.in_order (λ w. h.types.same w ∙ sym (k.types.same w)) in
    let name : p.name ≡ q.name = h.name ∙ sym k.name in
    let section : p.section ≡ q.section = h.section ∙ sym k.section in
    let values : p.values ≡ q.values =
    h.values ∙ ap (λ ts. values_at i.slots (flat_map (own_places_of s) ts)) types ∙ sym k.values in
    λ j. record { name = name j; section = section j; types = types j; values = values j }

pub rows_are_one : RowsAreOne
rows_are_one s [] [] [] h k = refl
rows_are_one s [] (p ∷ P) Q h k = absurd h
rows_are_one s [] [] (q ∷ Q) h k = absurd k
rows_are_one s (i ∷ is) [] Q h k = absurd h
rows_are_one s (i ∷ is) (p ∷ P) [] h k = absurd k
rows_are_one s (i ∷ is) (p ∷ P) (q ∷ Q) h k =
    let first = one_row s i p q h.0 k.0 in
    let rest = rows_are_one s is P Q h.1 k.1 in
    λ j. first j ∷ rest j
