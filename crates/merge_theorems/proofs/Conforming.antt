-- Instances whose rows are mapped conform, and break no rule.
use Rattle.std.specs.Prelude.{◌≡◌, ℕ, Bool, IsTrue, true, List, Option, Some, None}
use Rattle.std.specs.Option.{option_map}
use Rattle.std.proofs.Common.{refl, sym, ap, subst, ◌∙◌, inl}
use Rattle.value_equality.specs.Rows.{Row, BagsArePinned}
use Rattle.value_equality.specs.ValueEquality.{IsValueEquality}
use Rattle.express_syntax.specs.Schemas.{Schema}
use Rattle.schema_semantics.specs.Names.{Name, Among}
use Rattle.conformance.specs.Choices.{MergeOptions}
use Rattle.conformance.specs.Bases.{Domain}
use Rattle.conformance.specs.Entities.{Entities}
use Rattle.conformance.specs.Populations.{Instance, instance_at}
use Rattle.conformance.specs.Conforming.{typing_of}
use Rattle.conformance.specs.Images.{IsLed, KeepsInstanceApart, IsTypedImage}
use Rattle.conformance.specs.PopulationLaws.{ImagesConform}
use Rattle.conformance.specs.Rules.{Rules}
use Rattle.conformance.specs.Pins.{IsWeaklyPinned, IsGentlyPinned}
use Rattle.conformance.specs.RuleLaws.{names}
use Rattle.conformance.proofs.Apart.{gentle_pins_keep_apart}
use Rattle.conformance.proofs.Pinning.{images_stay_in_classes}
use Rattle.conformance.proofs.Rowed.{distinct, names_row, bags_of_rows_are_pinned}
use Rattle.conformance.specs.MeaningImages.{IsLedTo}
use Rattle.conformance.specs.MeaningLaws.{IsOnto}
use Rattle.conformance.proofs.Led.{at_name}
use Rattle.conformance.proofs.Unbroken.{images_break_no_rule}
use Rattle.merge_theorems.specs.Images.{MapsRows}
use Rattle.merge_theorems.specs.ImageLaws.{ImagesOfRowsConform}
use Rattle.merge_theorems.proofs.Led.{led_along}

-- An image of instances, by one of names.
module _ (s : Schema) (d : Domain) (en : Entities) (is js : List Instance) (h : ℕ → ℕ) (to : IsLedTo is js h)
    (onto : IsOnto is js h) (apart : (i : Instance) → Among i is → KeepsInstanceApart s d en h i) where
  one_instance : (x z : Instance) → Some x ≡ Some z → x ≡ z
  one_instance x z e = cc

  source : (j : Instance) → Among j js → (i : Instance) × Among i is × IsLed h i j × KeepsInstanceApart s d en h i
  source j m =
      let (y, x, here, there) = onto j m in
      let known = (at_name y is x here).0 in
      let z = to.led y x here in
      let same = one_instance z.0 j (sym z.1 ∙ there) in
      (x, known, subst (IsLed h x) same z.2, apart x known)

  one_types : (x : Instance) (types : List Name) → option_map (λ (i : Instance). i.types) (Some x) ≡ Some types
      → x.types ≡ types
  one_types x types e = cc

  same_typing : (y : ℕ) (types : List Name) → typing_of is y ≡ Some types → typing_of js (h y) ≡ Some types
  same_typing y types e = by (instance_at is y) refl e
    where
      by : (o : Option Instance) → instance_at is y ≡ o → option_map (λ (i : Instance). i.types) o ≡ Some types
          → typing_of js (h y) ≡ Some types
      by None f k = absurd (cc)
      by (Some x) f k =
          let z = to.led y x f in
          ap (option_map (λ (i : Instance). i.types)) z.1 ∙ ap Some (sym z.2.types ∙ one_types x types k)

  pub image_of_names : IsTypedImage s d en h is js
  image_of_names = record { led = source; types = same_typing }

module _ (s : Schema) (d : Domain) (en : Entities) (rules : Rules) (chosen : MergeOptions) (is js : List Instance)
    (P Q : List Row) (h : ℕ → ℕ) (weak pinned : ℕ → Bool) (E : ℕ → ℕ → Bool) (maps : MapsRows s is js P Q h pinned)
    (weakly : (y : ℕ) → IsTrue (weak y) → IsWeaklyPinned s d en rules chosen is y)
    (equality : IsValueEquality P weak E)
    (gently : (y : ℕ) → IsGentlyPinned s d en rules chosen is E y → IsTrue (pinned y)) where
  bags : BagsArePinned P pinned
  bags = bags_of_rows_are_pinned s d en rules chosen is P pinned maps.rows (λ y w. gently y (inl w))

  one_class : (y z : ℕ) → Among y (names is) → Among z (names is) → h y ≡ h z → E y z ≡ true
  one_class y z m n e =
      images_stay_in_classes P Q weak pinned E h maps.population bags (λ y w. gently y (inl (weakly y w))) maps.image
      equality y z (names_row s is P maps.rows y m) (names_row s is P maps.rows z n) e

  pub stays_apart : (i : Instance) → Among i is → KeepsInstanceApart s d en h i
  stays_apart =
      let led = led_along s is js P Q h pinned maps in
      gentle_pins_keep_apart s d en rules chosen is E h pinned gently led.2 one_class led.0.closed

-- by the law of images that conform
pub images_of_rows_conform : ImagesConform → ImagesOfRowsConform
images_of_rows_conform law s d en rules chosen attributes are domain_rules is js P Q h weak pinned E maps weakly
    equality gently conforms keys bounds holds =
    let led = led_along s is js P Q h pinned maps in
    let image = image_of_names s d en is js h led.0 led.1
    (stays_apart s d en rules chosen is js P Q h weak pinned E maps weakly equality gently) in
    let unbroken = images_break_no_rule s d en rules chosen attributes are domain_rules is js h pinned
    (distinct s is P maps.rows maps.population) (distinct s js Q maps.image_rows maps.image_population) led.0 led.1
    (λ y p. gently y (inl (inl p))) led.2 keys bounds holds in
    (law s d en h is js image conforms, unbroken.0, unbroken.1, unbroken.2)
