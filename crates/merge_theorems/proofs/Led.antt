-- Instances whose rows are mapped are led along.
use Rattle.std.specs.Prelude.{◌≡◌, ℕ, ◌==◌, Bool, IsTrue, List, flat_map}
use Rattle.std.specs.List.{filter}
use Rattle.std.proofs.Common.{ap, sym, subst, ◌∙◌}
use Rattle.step_values.specs.Values.{Agree, AgreeEach}
use Rattle.step_values.specs.References.{renamed, renamed_each, EachReference, EachReferenceOf}
use Rattle.step_values.proofs.References.{each_weaker}
use Rattle.value_equality.specs.Rows.{Row, Kind, IsName, RowsAgree, renamed_row}
use Rattle.conformance.specs.PlainRows.{values_at, IsRowOf}
use Rattle.express_syntax.specs.Schemas.{Schema}
use Rattle.express_syntax.specs.Profile.{Every}
use Rattle.schema_semantics.specs.Names.{Among}
use Rattle.schema_semantics.proofs.Lists.{among-map, from-map, every-at, every-of}
use Rattle.conformance.specs.Entities.{own_places_of}
use Rattle.conformance.specs.ParameterFits.{entity_names, is_listed}
use Rattle.conformance.specs.Populations.{Slot, Instance, instance_at, slot_at}
use Rattle.conformance.specs.Images.{IsLed}
use Rattle.conformance.specs.RuleLaws.{names, IsClosed}
use Rattle.conformance.specs.MeaningImages.{HasPlacesOnce, IsLedTo}
use Rattle.conformance.specs.MeaningLaws.{IsOnto}
use Rattle.conformance.proofs.Led.{at_name, place_at}
use Rattle.conformance.proofs.Holding.{at_own_name}
use Rattle.conformance.proofs.Rowed.{places, row_of, instance_of, distinct, among_names, names_row}
use Rattle.merge_theorems.specs.Layout.{IsLaidOut}
use Rattle.merge_theorems.specs.Images.{MapsRows}
use Rattle.merge_theorems.specs.ImageLaws.{ImagesOfRowsAreLed}
use Rattle.merge_theorems.proofs.Listing.{filter_same}
use Rattle.merge_theorems.proofs.Placed.{references_at, agree_at, place_in}

module _ (s : Schema) where
  -- the types of an instance, from those of its row
  from_row : (x : Instance) → IsLaidOut s x → (p : Row) → IsRowOf s x p
      → x.types ≡ filter (λ e. is_listed e p.types) (entity_names s)
  from_row x laid p row =
      laid.types
      ∙ filter_same (λ e. is_listed e x.types) (λ e. is_listed e p.types) (entity_names s) (λ e m. sym (row.types.same e))

  -- One row is mapped to another.
  module _ (h : ℕ → ℕ) (x z : Instance) (laid_x : IsLaidOut s x) (laid_z : IsLaidOut s z) (p q : Row)
      (row_x : IsRowOf s x p) (row_z : IsRowOf s z q) (agree : RowsAgree (renamed_row h p) q) where
    same_words : p.types ≡ q.types
    same_words = ap (λ (k : Kind). k.1) agree.same_kind

    same_types : x.types ≡ z.types
    same_types =
        from_row x laid_x p row_x ∙ ap (λ ts. filter (λ e. is_listed e ts) (entity_names s)) same_words
        ∙ sym (from_row z laid_z q row_z)

    values_agree : AgreeEach (◌==◌) (renamed_each h (values_at x.slots (places s q))) (values_at z.slots (places s q))
    values_agree =
        let here : p.values ≡ values_at x.slots (places s q) =
        row_x.values ∙ ap (λ ts. values_at x.slots (flat_map (own_places_of s) ts)) same_words in
        subst (λ vs. AgreeEach (◌==◌) (renamed_each h vs) (values_at z.slots (places s q))) here
        (subst (λ ws. AgreeEach (◌==◌) (renamed_each h p.values) ws) row_z.values agree.values_agree)

    -- the value that is led to one
    source : (w : Slot) → Among w z.slots
        → (v : Slot) × Among v x.slots × (v.place ≡ w.place) × Agree (◌==◌) (renamed h v.value) w.value
    source w m =
        let known = (laid_z.attributes w.place.0 w.place.1).0 (among-map (λ (y : Slot). y.place) w z.slots m) in
        let there = (laid_x.attributes w.place.0 w.place.1).1
        (subst (Among w.place.0) (sym same_types) known.0, known.1) in
        let v = from-map (λ (y : Slot). y.place) x.slots w.place there in (
          v.0,
          v.1,
          v.2,
          agree_at h x.slots z.slots (places s q) values_agree w.place (place_in s z laid_z q row_z w m) v.0.value
              w.value (ap (slot_at x.slots) (sym v.2) ∙ place_at v.0 x.slots laid_x.once v.1)
              (place_at w z.slots laid_z.once m),
        )

    pub led : IsLed h x z
    led = record {
      types = same_types;
      places = λ y m.
          let known = (laid_x.attributes y.place.0 y.place.1).0 (among-map (λ (w : Slot). w.place) y x.slots m) in
          (laid_z.attributes y.place.0 y.place.1).1 (subst (Among y.place.0) same_types known.0, known.1);
      values = source;
    }

module _ (s : Schema) (is js : List Instance) (P Q : List Row) (h : ℕ → ℕ) (pinned : ℕ → Bool)
    (maps : MapsRows s is js P Q h pinned) where
  abbrev IsThere : ℕ → Type 0
  IsThere y = Among y (names is)

  slot_closed : (i : Instance) → Among i is → (x : Slot) → Among x i.slots → EachReference IsThere x.value
  slot_closed i m x n =
      let laid = every-at (IsLaidOut s) i is maps.laid_out m in
      let at = at_own_name i is (distinct s is P maps.rows maps.population) m in
      let p = row_of s is P maps.rows i.name i at in
      let each = subst (EachReferenceOf (IsName P)) p.2.values (maps.population.closed i.name p.0 p.1) in
      each_weaker (IsName P) IsThere (among_names s is P maps.rows) x.value
      (references_at (IsName P) i.slots (places s p.0) each x.place (place_in s i laid p.0 p.2 x n) x.value
      (place_at x i.slots laid.once n))

  closed : IsClosed is
  closed =
      every-of (λ (i : Instance). Every (λ (x : Slot). EachReference IsThere x.value) i.slots) is
      (λ i m. every-of (λ (x : Slot). EachReference IsThere x.value) i.slots (slot_closed i m))

  to : IsLedTo is js h
  to = record {
    closed = closed;
    once = every-of HasPlacesOnce is (λ i m. (every-at (IsLaidOut s) i is maps.laid_out m).once);
    led = λ y x e.
        let p = row_of s is P maps.rows y x e in
        let q = maps.image.lands y p.0 p.1 in
        let z = instance_of s js Q maps.image_rows (h y) q.0 q.1 in (
          z.0,
          z.1,
          led s h x z.0 (every-at (IsLaidOut s) x is maps.laid_out (at_name y is x e).0)
              (every-at (IsLaidOut s) z.0 js maps.image_laid_out (at_name (h y) js z.0 z.1).0) p.0 q.0 p.2 z.2 q.2,
        );
  }

  onto : IsOnto is js h
  onto z m =
      let at = at_own_name z js (distinct s js Q maps.image_rows maps.image_population) m in
      let q = row_of s js Q maps.image_rows z.name z at in
      let y = maps.image.onto z.name (q.0, q.1) in
      let x = instance_of s is P maps.rows y.0 y.1.0 y.1.1 in
      (y.0, x.0, x.1, ap (instance_at js) y.2 ∙ at)

  pub led_along : IsLedTo is js h × IsOnto is js h
      × ((y z : ℕ) → IsThere y → IsThere z → IsTrue (pinned z) → h y ≡ h z → y ≡ z)
  led_along = (
    to,
    onto,
    λ y z m n k e. maps.image.alone y z (names_row s is P maps.rows y m) (names_row s is P maps.rows z n) k e,
  )

pub images_of_rows_are_led : ImagesOfRowsAreLed
images_of_rows_are_led s is js P Q h pinned maps = led_along s is js P Q h pinned maps
