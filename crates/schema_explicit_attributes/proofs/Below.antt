-- The numbers of rows are those of places.
use Rattle.std.specs.Prelude.{◌≡◌, ℕ, ◌<◌, Bool, true, false, ◌||◌, List, [], ◌∷◌, Some, map, length, slice_get, eqb}
use Rattle.std.proofs.Common.{refl, ap, ◌∙◌, arith, zero, suc}
use Rattle.std.proofs.lemmas.Bool.Decides.{nat_tests}
use Rattle.std.proofs.lemmas.List.{length-map}
use Rattle.express_syntax.specs.ExpressionViews.{capitals}
use Rattle.schema_explicit_attributes.specs.declared.attributes.Place.{Place as Attributed}
use Rattle.graphs.specs.Graphs.{Graph, has, StaysBelow}
use Rattle.express_syntax.specs.Schemas.{Declaration}
use Rattle.schema_semantics.specs.Attributes.{Place}
use Rattle.schema_names.proofs.Edges.{within}
use Rattle.schema_explicit_attributes.specs.Places.{places_of, ArePlaceRows, places_in}
use Rattle.schema_names.specs.Numbers.{AreAt}
use Rattle.schema_names.proofs.Items.{head-is, tail-is, front-at, back-at}

in-at : (all : List Place) (row : List ℕ) (ps : List Place) (b : ℕ) → AreAt all row ps → has row b ≡ true
    → b < length all
in-at all [] ps b h k = absurd (cc)
in-at all (x ∷ row) [] b h k = absurd (cc)
in-at all (x ∷ row) (p ∷ ps) b h k = by (eqb b x) refl k (in-at all row ps b (back-at all x row p ps h))
  where
    by : (c : Bool) → eqb b x ≡ c → (c || has row b) ≡ true → (has row b ≡ true → b < length all) → b < length all
    by true e k more =
        let is : b ≡ x = grind (arith, nat_tests) in
        within all b p (ap (slice_get all) is ∙ front-at all x row p ps h)
    by false e k more = more k

pub below-rows : (all : List Place) (ds : List Declaration) (rows : Graph) → ArePlaceRows all ds rows
    → StaysBelow (length all) rows
below-rows all ds [] h zero b k = absurd (cc)
below-rows all ds [] h (suc a) b k = absurd (cc)
below-rows all [] (r ∷ rows) h a b k = absurd (cc)
below-rows all (d ∷ ds) (r ∷ rows) h zero b k =
    in-at all r (places_in d) b
    (head-is (map (slice_get all) r) (map Some (places_in d)) (map (map (slice_get all)) rows)
    (map (λ (y : Declaration). map Some (places_in y)) ds) h) k
below-rows all (d ∷ ds) (r ∷ rows) h (suc a) b k =
    below-rows all ds rows
    (tail-is (map (slice_get all) r) (map Some (places_in d)) (map (map (slice_get all)) rows)
    (map (λ (y : Declaration). map Some (places_in y)) ds) h) a b k

pub places-many : (xs : List Attributed) → length (places_of xs) ≡ length xs
places-many xs = length-map xs (λ (x : Attributed). (capitals x.entity.now, capitals x.attribute.now))
