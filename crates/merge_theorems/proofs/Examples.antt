-- Two equal points, a placement at each, and what a merge makes of them.
use Rattle.std.specs.Prelude.{◌≡◌, ℕ, ◌==◌, pos, cond, List, [], ◌∷◌, map, Some}
use Rattle.std.specs.List.{IsDistinct}
use Rattle.std.specs.List.Sorted.{IsStrictlySortedBy}
use Rattle.std.specs.Cmp.Lexicographic.{slice_cmp}
use Rattle.std.specs.Ordering.{nat_cmp}
use Rattle.std.proofs.Common.{refl, ap, sym, subst, ◌∙◌, inl, inr}
use Rattle.std.proofs.lemmas.Bool.{false≢true}
use Rattle.step_values.specs.Leaves.{number, unset}
use Rattle.step_values.specs.Values.{leaf, reference, sequence, none, more}
use Rattle.step_values.specs.References.{EachReferenceOf}
use Rattle.value_equality.specs.Rows.{Row, row_at, IsName, IsPopulation, RowsAgree, renamed_row}
use Rattle.value_equality.specs.Images.{IsImage}
use Rattle.value_equality.proofs.Samples.{each_row, free, point, placement, twice}
use Rattle.conformance.specs.PlainRows.{IsRowOf}
use Rattle.express_syntax.specs.Schemas.{Schema, entity, Entity}
use Rattle.schema_semantics.specs.Names.{Name, Among, explicit_names, IsEntityAt, DeclaresExplicit}
use Rattle.schema_semantics.specs.Attributes.{Place, same_place}
use Rattle.schema_semantics.proofs.Lists.{among-map, from-map}
use Rattle.schema_semantics.proofs.Geo as geos
use Rattle.schema_semantics.proofs.Geo.{geo, POINT, PLACEMENT, COORDS, LOCATION, AXIS}
use Rattle.conformance.specs.Populations.{Instance}
use Rattle.conformance.proofs.RuleSamples.{instance, slot}
use Rattle.conformance.specs.MeaningImages.{IsLedTo}
use Rattle.merge_theorems.specs.Layout.{IsLaidOut}
use Rattle.merge_theorems.specs.Images.{MapsRows}
use Rattle.merge_theorems.proofs.Led.{images_of_rows_are_led}

abbrev a_point : ℕ → Instance
a_point n =
    instance n (POINT ∷ []) (slot (POINT, COORDS)
    (sequence (more (leaf (number (pos 0))) (more (leaf (number (pos 1))) none))) ∷ [])

abbrev a_placement : ℕ → ℕ → Instance
a_placement n y =
    instance n (PLACEMENT ∷ []) (slot (PLACEMENT, LOCATION) (reference y) ∷ slot (PLACEMENT, AXIS) (leaf unset) ∷ [])

abbrev before : List Instance
before = a_point 1 ∷ a_point 2 ∷ a_placement 3 1 ∷ a_placement 4 2 ∷ []

abbrev after : List Instance
after = a_point 1 ∷ a_placement 3 1 ∷ []

abbrev rows_after : List Row
rows_after = point 1 0 ∷ placement 3 1 ∷ []

-- the attributes of an instance of one type
one_entity : (x y : Entity) → Some (entity x) ≡ Some (entity y) → x ≡ y
one_entity x y e = cc

attributes_of : (s : Schema) (n : Name) (x : Entity) → IsEntityAt s n x → (ps : List Place)
    → ps ≡ map (λ (a : Name). (n, a)) (explicit_names x) → (e a : Name)
    → (Among (e, a) ps → Among e (n ∷ []) × DeclaresExplicit s e a)
    × (Among e (n ∷ []) × DeclaresExplicit s e a → Among (e, a) ps)
attributes_of s n x at ps is e a = (forth, back)
  where
    forth : Among (e, a) ps → Among e (n ∷ []) × DeclaresExplicit s e a
    forth m =
        let from = from-map (λ (b : Name). (n, b)) (explicit_names x) (e, a) (subst (Among (e, a)) is m) in (
          inl (ap (λ (p : Place). p.0) from.2),
          subst (λ (p : Place). DeclaresExplicit s p.0 p.1) from.2 (x, at, from.1),
        )

    here : DeclaresExplicit s n a → Among (n, a) ps
    here (y, there, m) =
        let same = one_entity y x (sym there ∙ at) in
        subst (Among (n, a)) (sym is) (among-map (λ (b : Name). (n, b)) a (explicit_names x)
        (subst (λ (z : Entity). Among a (explicit_names z)) same m))

    back : Among e (n ∷ []) × DeclaresExplicit s e a → Among (e, a) ps
    back (inl same, d) = subst (λ k. Among (k, a) ps) same (here (subst (λ k. DeclaresExplicit s k a) (sym same) d))
    back (inr m, d) = elim m [ ]

one_place : (p : Place) → IsDistinct same_place (p ∷ [])
unfolding IsDistinct
one_place p = (tt, tt)

two_places : IsDistinct same_place ((PLACEMENT, LOCATION) ∷ (PLACEMENT, AXIS) ∷ [])
unfolding IsDistinct
two_places = ((refl, tt), (tt, tt))

point_laid : (n : ℕ) → IsLaidOut geo (a_point n)
point_laid n = record {
  types = refl;
  attributes = attributes_of geo POINT geos.point refl ((POINT, COORDS) ∷ []) refl;
  once = one_place (POINT, COORDS);
}

placement_laid : (n y : ℕ) → IsLaidOut geo (a_placement n y)
placement_laid n y = record {
  types = refl;
  attributes = attributes_of geo PLACEMENT geos.placement refl ((PLACEMENT, LOCATION) ∷ (PLACEMENT, AXIS) ∷ []) refl;
  once = two_places;
}

one_word : (w : Name) → IsStrictlySortedBy (slice_cmp nat_cmp) (w ∷ [])
unfolding IsStrictlySortedBy
one_word w = (tt, tt)

point_row : (n : ℕ) → IsRowOf geo (a_point n) (point n 0)
point_row n = record {
  name = refl;
  section = refl;
  types = record { in_order = one_word POINT; same = λ w. refl };
  values = refl;
}

placement_row : (n y : ℕ) → IsRowOf geo (a_placement n y) (placement n y)
placement_row n y = record {
  name = refl;
  section = refl;
  types = record { in_order = one_word PLACEMENT; same = λ w. refl };
  values = refl;
}

distinct_before : IsDistinct (◌==◌) (1 ∷ 2 ∷ 3 ∷ 4 ∷ [])
unfolding IsDistinct
distinct_before = ((refl, (refl, (refl, tt))), ((refl, (refl, tt)), ((refl, tt), (tt, tt))))

distinct_after : IsDistinct (◌==◌) (1 ∷ 3 ∷ [])
unfolding IsDistinct
distinct_after = ((refl, tt), (tt, tt))

-- references of rows name rows
abbrev IsClosed : List Row → ℕ → Row → Type 0
IsClosed P x p = EachReferenceOf (IsName P) p.values

point_closed : (P : List Row) (n : ℕ) → IsClosed P n (point n 0)
point_closed P n = ((tt, (tt, tt)), tt)

placement_closed : (P : List Row) (n y : ℕ) → IsName P y → IsClosed P n (placement n y)
placement_closed P n y there = (there, (tt, tt))

population_before : IsPopulation twice
population_before = record {
  distinct = distinct_before;
  closed = each_row (IsClosed twice) twice (
    point_closed twice 1,
    (
      point_closed twice 2,
      (
        placement_closed twice 3 1 (point 1 0, refl),
        (
          placement_closed twice 4 2 (point 2 0, refl),
          tt,
        ),
      ),
    ),
  );
}

population_after : IsPopulation rows_after
population_after = record {
  distinct = distinct_after;
  closed = each_row (IsClosed rows_after) rows_after (
    point_closed rows_after 1,
    (placement_closed rows_after 3 1 (point 1 0, refl), tt),
  );
}

abbrev to_first : ℕ → ℕ
to_first y = cond (y == 2) 1 (cond (y == 4) 3 y)

same_point : (x y : ℕ) → RowsAgree (point x 0) (point y 0)
same_point x y = record { same_kind = refl; values_agree = ((refl, (refl, tt)), tt) }

same_placement : (x y : ℕ) → RowsAgree (placement x 1) (placement y 1)
same_placement x y = record { same_kind = refl; values_agree = (refl, (refl, tt)) }

abbrev Lands : ℕ → Row → Type 0
Lands x p = (q : Row) × (row_at rows_after (to_first x) ≡ Some q) × RowsAgree (renamed_row to_first p) q

abbrev IsReached : ℕ → Row → Type 0
IsReached y q = (x : ℕ) × IsName twice x × (to_first x ≡ y)

is_image : IsImage twice rows_after to_first free
is_image = record {
  lands = each_row Lands twice (
    (point 1 0, refl, same_point 1 1),
    (
      (point 1 0, refl, same_point 2 1),
      (
        (placement 3 1, refl, same_placement 3 3),
        (
          (placement 3 1, refl, same_placement 4 3),
          tt,
        ),
      ),
    ),
  );
  onto = λ y n. each_row IsReached rows_after (
    (1, (point 1 0, refl), refl),
    ((3, (placement 3 1, refl), refl), tt),
  ) y n.0 n.1;
  alone = λ x z n m pinned e. absurd (false≢true pinned);
}

-- The premises of the laws can be met.
maps_rows : MapsRows geo before after twice rows_after to_first free
maps_rows = record {
  laid_out = (point_laid 1, (point_laid 2, (placement_laid 3 1, (placement_laid 4 2, tt))));
  image_laid_out = (point_laid 1, (placement_laid 3 1, tt));
  rows = (point_row 1, (point_row 2, (placement_row 3 1, (placement_row 4 2, tt))));
  image_rows = (point_row 1, (placement_row 3 1, tt));
  population = population_before;
  image_population = population_after;
  image = is_image;
}

led_along : IsLedTo before after to_first
led_along = (images_of_rows_are_led geo before after twice rows_after to_first free maps_rows).0
