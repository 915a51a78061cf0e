-- In an image that respects pins an instance is pinned exactly where the one is that it is led to.
use Rattle.std.specs.Prelude.{◌≡◌, ◌≢◌, ℕ, ◌==◌, Bool, IsTrue, true, false, cond, List, [], ◌∷◌, ◌↔◌}
use Rattle.std.specs.List.{IsDistinct}
use Rattle.std.proofs.Common.{refl, sym, ap, subst, ◌∙◌, inl, inr}
use Rattle.step_values.specs.Values.{Value, Values, Agree, AgreeEach}
use Rattle.step_values.specs.References.{renamed, renamed_each}
use Rattle.step_structures.specs.MergedTexts.{merged_sections}
use Rattle.step_structures.specs.Normal.{normal_sections}
use Rattle.step_structures.proofs.NormalLemmas.{normal_stays}
use Rattle.step_structures.proofs.Unmerged.{unmerged_text_stays}
use Rattle.value_equality.specs.Rows.{Row, names, IsName, BagsArePinned}
use Rattle.value_equality.specs.ValueEquality.{ValueEqual}
use Rattle.value_equality.specs.Images.{IsImage, head_of, quotient}
use Rattle.value_equality.proofs.Heads.{same_bool}
use Rattle.value_equality.proofs.Chosen.{row_of_quotient}
use Rattle.value_equality.proofs.Carried.{images_carry_value_equality}
use Rattle.value_equality.proofs.Congruences.{value_equality_is_congruence}
use Rattle.value_equality.proofs.Reduced.{quotients_are_reduced}
use Rattle.express_syntax.specs.Schemas.{Schema, DataType}
use Rattle.schema_semantics.specs.Names.{OneOf, Among}
use Rattle.conformance.specs.Choices.{MergeOptions}
use Rattle.conformance.specs.Bases.{Domain, base}
use Rattle.conformance.specs.Entities.{Entities, data_types}
use Rattle.conformance.specs.Populations.{Slot, Instance}
use Rattle.conformance.specs.PopulationLaws.{NoFindingsExactlyWhereItConforms}
use Rattle.conformance.specs.SeparatingMaps.{OccursIn}
use Rattle.conformance.specs.Elements.{AnElement, IsReferenceTo, IsAnotherOfClass, HasUnique, HasUniqueValue}
use Rattle.conformance.specs.Pins.{StandsBesideItsClass, IsWeaklyPinned, IsGentlyPinned}
use Rattle.conformance.specs.RuleLaws as rules
use Rattle.conformance.proofs.Pinning.{weak_pins_are_gentle, gentle_pins_are_plain}
use Rattle.conformance.proofs.Rowed as rowed
use Rattle.conformance.proofs.There.{pinned_are_there, reference_named, at}
use Rattle.conformance.proofs.Standing.{an_other, value_other, found, one_is, is_occurs}
use Rattle.conformance.specs.MeaningImages.{IsLedTo}
use Rattle.conformance.specs.MeaningLaws.{IsOnto}
use Rattle.merge_theorems.specs.Images.{MapsRows}
use Rattle.merge_theorems.proofs.Led.{led_along}
use Rattle.conformance.specs.SchemaMeanings.{Said, instances}
use Rattle.merge_theorems.specs.FilePins.{ArePins}
use Rattle.merge_theorems.specs.MergedFileLaws.{merged_by}
use Rattle.merge_theorems.specs.StablePins.{ImagesKeepPins, SecondRunsStay}
use Rattle.merge_theorems.proofs.Standing.{element_same, reference_same, element_led, element_back, reference_back, unique_occurs}
use Rattle.merge_theorems.proofs.PinsLed.{of_instance, to_instance, value_to, value_from, weak_led, weak_back}
use Rattle.merge_theorems.proofs.Whole.{bags, maps}

module _ (s : Schema) (said : Said s) (chosen : MergeOptions) (is js : List Instance) (P Q : List Row) (h : ℕ → ℕ)
    (pinned kept : ℕ → Bool) (of : MapsRows s is js P Q h pinned) (pins : ArePins s said chosen is P pinned)
    (anew : ArePins s said chosen js Q kept) where
  abbrev d : Domain
  d = said.domain

  abbrev en : Entities
  en = said.entities

  abbrev Weak : List Instance → ℕ → Type 0
  Weak ks y = IsWeaklyPinned s d en said.rules chosen ks y

  abbrev Gentle : List Instance → (ℕ → ℕ → Bool) → ℕ → Type 0
  Gentle ks E y = IsGentlyPinned s d en said.rules chosen ks E y

  along : IsLedTo is js h × IsOnto is js h
      × ((y z : ℕ) → Among y (rules.names is) → Among z (rules.names is) → IsTrue (pinned z) → h y ≡ h z → y ≡ z)
  along = led_along s is js P Q h pinned of

  distinct : IsDistinct (◌==◌) (rules.names is)
  distinct = rowed.distinct s is P of.rows of.population

  distinct_there : IsDistinct (◌==◌) (rules.names js)
  distinct_there = rowed.distinct s js Q of.image_rows of.image_population

  gently_named : (y : ℕ) → Gentle is pins.classes y → Among y (rules.names is)
  gently_named y g =
      pinned_are_there s d en said.rules chosen is along.0.closed y
      (gentle_pins_are_plain s d en said.rules chosen is pins.classes y g)

  -- one that is led to where a gently pinned one is led is that
  alone : (y z : ℕ) → Among y (rules.names is) → Gentle is pins.classes z → h z ≡ h y → y ≡ z
  alone y z m g e = along.2 y z m (gently_named z g) ((pins.are_gentle z).1 g) (sym e)

  weak_same : (y : ℕ) → IsName P y → anew.weak (h y) ≡ pins.weak y
  weak_same y n =
      same_bool (anew.weak (h y)) (pins.weak y)
      (λ k. let b = weak_back is js h distinct distinct_there along.0 along.1 s d en said.rules chosen (h y)
      ((anew.are_weak (h y)).0 k) in
      let same = alone y b.0 (rowed.among_names s is P of.rows y n)
      (weak_pins_are_gentle s d en said.rules chosen is pins.classes b.0 b.1) b.2 in
      (pins.are_weak y).1 (subst (Weak is) (sym same) b.1))
      (λ k. (anew.are_weak (h y)).1
      (weak_led is js h distinct distinct_there along.0 along.1 s d en said.rules chosen y ((pins.are_weak y).0 k)))

  bags_weak : BagsArePinned P pins.weak
  bags_weak = rowed.bags_of_rows_are_pinned s d en said.rules chosen is P pins.weak of.rows (λ y. (pins.are_weak y).1)

  image_weak : IsImage P Q h pins.weak
  image_weak = record {
    lands = of.image.lands;
    onto = of.image.onto;
    alone = λ x z n m w e. of.image.alone x z n m ((pins.are_gentle z).1 (inl ((pins.are_weak z).0 w))) e;
  }

  carry : (x z : ℕ) → ValueEqual P pins.weak x z ↔ (IsName P x × IsName P z × ValueEqual Q anew.weak (h x) (h z))
  carry = images_carry_value_equality P Q pins.weak anew.weak h of.population bags_weak image_weak weak_same

  other_same : (w : ℕ) (v u : Value) → Agree (◌==◌) v u → IsAnotherOfClass anew.classes w v
      → IsAnotherOfClass anew.classes w u
  other_same w v u e o = (o.0, reference_same o.0 v u e o.1, o.2, o.3)

  abbrev Beside : (ℕ → ℕ → Bool) → ℕ → Values → Type 0
  Beside E y vs = AnElement (IsReferenceTo y) vs × AnElement (IsAnotherOfClass E y) vs

  beside_same : (w : ℕ) (vs us : Values) → AgreeEach (◌==◌) vs us → Beside anew.classes w vs → Beside anew.classes w us
  beside_same w vs us e o = (
    element_same (IsReferenceTo w) (reference_same w) vs us e o.0,
    element_same (IsAnotherOfClass anew.classes w) (other_same w) vs us e o.1,
  )

  module _ (y : ℕ) (g : Gentle is pins.classes y) where
    other_led : (v : Value) → IsAnotherOfClass pins.classes y v → IsAnotherOfClass anew.classes (h y) (renamed h v)
    other_led v o =
        let equal = (carry y o.0).0 ((pins.are_classes y o.0).0 o.3) in (
          h o.0,
          ap (renamed h) o.1,
          (λ e. o.2 (alone o.0 y (rowed.among_names s is P of.rows o.0 equal.1) g (sym e))),
          (anew.are_classes (h y) (h o.0)).1 equal.2,
        )

    beside_to : (vs : Values) → Beside pins.classes y vs → Beside anew.classes (h y) (renamed_each h vs)
    beside_to vs o = (
      element_led h (IsReferenceTo y) (IsReferenceTo (h y)) (λ v e. ap (renamed h) e) vs o.0,
      element_led h (IsAnotherOfClass pins.classes y) (IsAnotherOfClass anew.classes (h y)) other_led vs o.1,
    )

    beside_led : OneOf (StandsBesideItsClass s d en pins.classes y) is
        → OneOf (StandsBesideItsClass s d en anew.classes (h y)) js
    beside_led o =
        let i = found (StandsBesideItsClass s d en pins.classes y) is o in
        let z = of_instance is js h distinct distinct_there along.0 along.1 i.0 i.1 in
        one_is (StandsBesideItsClass s d en anew.classes (h y)) z.0 js z.1.there
        (value_to is js h distinct distinct_there along.0 along.1 s d en (Beside pins.classes y)
        (Beside anew.classes (h y)) beside_to (beside_same (h y)) i.0 z.0 z.1 i.2)

  -- two elements, of which one is led to w and the other to another of its class
  abbrev Both : ℕ × ℕ → Values → Type 0
  Both a vs = AnElement (IsReferenceTo a.0) vs × AnElement (IsReferenceTo a.1) vs

  abbrev AreLed : ℕ → ℕ × ℕ → Type 0
  AreLed w a = (h a.0 ≡ w) × (h a.1 ≢ w) × (anew.classes w (h a.1) ≡ true)

  other_back : (w : ℕ) (v : Value) → IsAnotherOfClass anew.classes w (renamed h v)
      → (z : ℕ) × IsReferenceTo z v × ((h z ≢ w) × (anew.classes w (h z) ≡ true))
  other_back w v o =
      let z = reference_back h o.0 v o.1 in (
        z.0,
        z.1,
        ((λ e. o.2 (sym z.2 ∙ e)), ap (anew.classes w) z.2 ∙ o.3),
      )

  beside_from : (w : ℕ) (vs : Values) → Beside anew.classes w (renamed_each h vs)
      → (a : ℕ × ℕ) × Both a vs × AreLed w a
  beside_from w vs o =
      let y = element_back h (IsReferenceTo w) IsReferenceTo (λ y. h y ≡ w) (reference_back h w) vs o.0 in
      let z = element_back h (IsAnotherOfClass anew.classes w) IsReferenceTo
      (λ z. (h z ≢ w) × (anew.classes w (h z) ≡ true)) (other_back w) vs o.1 in
      ((y.0, z.0), (y.1, z.1), (y.2, z.2.0, z.2.1))

  occurs_named : (y : ℕ) (B : Values → Type 0)
      → ((vs : Values) → B vs → OccursIn y vs) → (x : Instance) → Among x is
      → HasUniqueValue s d en B x → IsName P y
  occurs_named y B f x m o =
      let a = found (λ (c : Slot). OneOf (λ (k : DataType). HasUnique s d B (base d k) c.value)
      (data_types s en x.types c.place)) x.slots o in
      let k = found (λ (k : DataType). HasUnique s d B (base d k) a.0.value) (data_types s en x.types a.0.place) a.2 in
      rowed.names_row s is P of.rows y
      (at (λ n. Among n (rules.names is)) y a.0.value (reference_named is along.0.closed x m a.0 a.1)
      (unique_occurs s d y B f (base d k.0) a.0.value k.2))

  beside_back : (w : ℕ) → OneOf (StandsBesideItsClass s d en anew.classes w) js
      → (y : ℕ) × OneOf (StandsBesideItsClass s d en pins.classes y) is × (h y ≡ w)
  beside_back w o =
      let j = found (StandsBesideItsClass s d en anew.classes w) js o in
      let x = to_instance is js h distinct distinct_there along.0 along.1 j.0 j.1 in
      let a = value_from is js h distinct distinct_there along.0 along.1 s d en (Beside anew.classes w) Both (AreLed w)
      (beside_from w) (beside_same w) x.0 j.0 x.1 j.2 in
      let y = a.0.0 in
      let z = a.0.1 in
      let here = occurs_named y (Both a.0) (λ vs b. is_occurs y vs b.0) x.0 x.1.here a.1 in
      let other = occurs_named z (Both a.0) (λ vs b. is_occurs z vs b.1) x.0 x.1.here a.1 in
      let equal : pins.classes y z ≡ true = (pins.are_classes y z).1 ((carry y z).1 (
        here,
        other,
        (anew.are_classes (h y) (h z)).0 (subst (λ n. anew.classes n (h z) ≡ true) (sym a.2.0) a.2.2),
      )) in
      let differ : z ≢ y = λ e. a.2.1 (ap h e ∙ a.2.0) in (
        y,
        one_is (StandsBesideItsClass s d en pins.classes y) x.0 is x.1.here
            (value_other s d (Both a.0) (Beside pins.classes y)
            (λ vs b. (b.0, an_other (λ v r. (z, r, differ, equal)) vs b.1)) en x.0 a.1),
        a.2.0,
      )

  gentle_back : (w : ℕ) → Gentle js anew.classes w → (y : ℕ) × Gentle is pins.classes y × (h y ≡ w)
  gentle_back w (inl o) =
      let b = weak_back is js h distinct distinct_there along.0 along.1 s d en said.rules chosen w o in
      (b.0, inl b.1, b.2)
  gentle_back w (inr o) = let b = beside_back w o in (b.0, inr b.1, b.2)

  gentle_led : (y : ℕ) → Gentle is pins.classes y → Gentle js anew.classes (h y)
  gentle_led y (inl o) = inl (weak_led is js h distinct distinct_there along.0 along.1 s d en said.rules chosen y o)
  gentle_led y (inr o) = inr (beside_led y (inr o) o)

  pub pins_same : (y : ℕ) → IsName P y → kept (h y) ≡ pinned y
  pins_same y n =
      same_bool (kept (h y)) (pinned y)
      (λ k. let b = gentle_back (h y) ((anew.are_gentle (h y)).0 k) in
      let same = alone y b.0 (rowed.among_names s is P of.rows y n) b.1 b.2 in
      (pins.are_gentle y).1 (subst (Gentle is pins.classes) (sym same) b.1))
      (λ k. (anew.are_gentle (h y)).1 (gentle_led y ((pins.are_gentle y).0 k)))

pub images_keep_pins : ImagesKeepPins
images_keep_pins s said chosen is js P Q h pinned kept of pins anew =
    pins_same s said chosen is js P Q h pinned kept of pins anew

-- a name that only itself is related to is the first of its class
first_alone : (E : ℕ → ℕ → Bool) → ((x z : ℕ) → E x z ≡ true → x ≡ z) → (ys : List ℕ) (x : ℕ) → head_of ys E x ≡ x
first_alone E f [] x = refl
first_alone E f (y ∷ ys) x = by (E y x) refl (first_alone E f ys x)
  where
    by : (b : Bool) → E y x ≡ b → head_of ys E x ≡ x → cond b y (head_of ys E x) ≡ x
    by true e rest = f y x e
    by false e rest = rest

pub second_runs_stay : NoFindingsExactlyWhereItConforms → SecondRunsStay
second_runs_stay law s said chosen f P pinned kept F G file pins equality anew again header_bytes =
    let congruence = value_equality_is_congruence P pinned F file.population equality in
    let h = head_of (names P) F in
    let of = maps s said chosen f P pinned file pins law F congruence in
    let same : (y : ℕ) → IsName (quotient P F) y → kept y ≡ pinned y =
    λ y n. let from = row_of_quotient P F y n.0 n.1 in
    ap kept (sym from.first)
    ∙ images_keep_pins s said chosen (instances s said f) (instances s said (merged_by P F f)) P (quotient P F) h pinned
    kept of pins anew y (from.row, from.row_is) in
    let reduced = quotients_are_reduced P pinned kept F file.population
    (bags s said chosen f P pinned file pins) equality same in
    let stays = first_alone G (λ x z e. ((reduced x z).0 ((again x z).0 e)).1) (names (quotient P F)) in
    unmerged_text_stays (head_of (names (quotient P F)) G) stays header_bytes
    (normal_sections (merged_sections h f.sections)) ∙ normal_stays header_bytes (merged_sections h f.sections)
