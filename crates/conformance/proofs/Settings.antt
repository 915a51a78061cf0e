-- What can be asked of instances that are led along is answered alike, and so are derived attributes of each rank.
use Rattle.std.specs.Prelude.{◌≡◌, ⊤, ℕ, zero, suc, ◌==◌, Bool, true, false, List, [], Option, Some, None, if◌then◌else◌}
use Rattle.std.specs.List.{list_any}
use Rattle.std.proofs.Common.{refl, ap, sym, subst, ◌∙◌, inl, inr}
use Rattle.step_literals.specs.declared.literal.items.Item.{Item}
use Rattle.express_syntax.specs.Trees.{Tree}
use Rattle.express_syntax.specs.Schemas.{Schema}
use Rattle.schema_semantics.specs.Names.{Name, Among}
use Rattle.schema_semantics.specs.Attributes.{Derivation}
use Rattle.schema_semantics.proofs.Lists.{first-among}
use Rattle.conformance.specs.Bases.{Domain}
use Rattle.conformance.specs.Entities.{Entities}
use Rattle.conformance.specs.Populations.{Instance, instance_at}
use Rattle.conformance.specs.Images.{IsLed}
use Rattle.conformance.specs.Rules.{Gathering, alone, in_set, in_bag, InverseAttribute}
use Rattle.conformance.specs.Referrers.{inverse_value}
use Rattle.express_logic.specs.Data as data_of
use Rattle.express_logic.specs.Data.{Datum}
use Rattle.conformance.specs.Values.{first_declared}
use Rattle.conformance.specs.Expressions.{means}
use Rattle.conformance.specs.Attributes.{Source, explicit, derived, inverse, unclear, Formula, Attributes, IsSource, IsNamed, IsInGroup, AreAttributes}
use Rattle.conformance.specs.Meanings.{instance_data, referring, says_type, found, value_from, attribute_in, group_in, type_in, setting, by_rank, below, above, derived_value, meaning}
use Rattle.conformance.specs.AlikeValues.{Alike, AlikeIn}
use Rattle.conformance.specs.MeaningImages.{IsInstanceName, LeadsBy, IsKept}
use Rattle.conformance.specs.MeaningLaws.{ImagesKeepMeanings}
use Rattle.conformance.proofs.Elements.{only_alike}
use Rattle.conformance.proofs.ExpressionForms.{AlikeFound, SettingsAlike, means_alike}
use Rattle.conformance.proofs.Led.{at_name, place_led}

referring_alike : (led : ℕ → ℕ → Type 0) (g : Gathering) (xs ys : List ℕ)
    → AlikeIn led data_of.bag (instance_data xs) (instance_data ys) → Alike led (referring g xs) (referring g ys)
referring_alike led alone xs ys h = only_alike led (instance_data xs) (instance_data ys) h
referring_alike led (in_set lower upper) xs ys h = (refl, h)
referring_alike led (in_bag lower upper) xs ys h = (refl, h)

module _ (s : Schema) (d : Domain) (en : Entities) (inverses : List InverseAttribute) where
  -- the inverse attributes of sources are those of the schema
  abbrev IsOfSchema : Source → Type 0
  IsOfSchema (explicit p) = ⊤
  IsOfSchema (derived e) = ⊤
  IsOfSchema (inverse i) = Among i inverses
  IsOfSchema unclear = ⊤

  source_of_schema : (types : List Name) (p a : Name) (x : Source) → IsSource s inverses types p a x → IsOfSchema x
  source_of_schema types p a (explicit q) h = tt
  source_of_schema types p a (derived e) h = tt
  source_of_schema types p a (inverse i) h =
      first-among (λ (j : InverseAttribute). (j.entity ≡ p) × (j.name ≡ a)) inverses i h.0
  source_of_schema types p a unclear h = tt

  unclear_of_schema : (x : Source) → x ≡ unclear → IsOfSchema x
  unclear_of_schema x e = subst IsOfSchema (sym e) tt

  named_of_schema : (types : List Name) (a : Name) (x : Source) → IsNamed s inverses types a (Some x) → IsOfSchema x
  named_of_schema types a x (inl h) = source_of_schema types h.0 a x h.2
  named_of_schema types a x (inr h) = unclear_of_schema x h.1

  group_of_schema : (types : List Name) (e a : Name) (x : Source) → IsInGroup s inverses types e a x → IsOfSchema x
  group_of_schema types e a x (inl h) = source_of_schema types h.0 a x h.2
  group_of_schema types e a x (inr h) = unclear_of_schema x h.1

  module _ (attributes : Attributes) (are : AreAttributes s inverses attributes) (is js : List Instance) (h : ℕ → ℕ)
      (keeps : IsKept inverses is js h) where
    -- where the values of derived attributes are alike
    module _ (f g : ℕ → Derivation → Datum)
        (alike : (y : ℕ) → IsInstanceName is y → (e : Derivation) → Alike (LeadsBy is h) (f y e) (g (h y) e)) where
      value_alike : (y : ℕ) (x z : Instance) → instance_at is y ≡ Some x → x.name ≡ y → z.name ≡ h y → Among x is
          → IsLed h x z → (c : Source) → IsOfSchema c
          → Alike (LeadsBy is h) (value_from s d en attributes is f x c) (value_from s d en attributes js g z c)
      value_alike y x z at n m among l (explicit p) o =
          place_led s d is js h keeps.instances_led x z among l (first_declared s d en p) p
      value_alike y x z at n m among l (derived e) o =
          subst (λ u. Alike (LeadsBy is h) (f u e) (g z.name e)) (sym n)
          (subst (λ u. Alike (LeadsBy is h) (f y e) (g u e)) (sym m) (alike y (x, at) e))
      value_alike y x z at n m among l (inverse i) o =
          referring_alike (LeadsBy is h) i.gathering (inverse_value is i x.name) (inverse_value js i z.name)
          (subst (λ u. AlikeIn (LeadsBy is h) data_of.bag (instance_data (inverse_value is i u))
          (instance_data (inverse_value js i z.name))) (sym n)
          (subst (λ u. AlikeIn (LeadsBy is h) data_of.bag (instance_data (inverse_value is i y))
          (instance_data (inverse_value js i u))) (sym m) (keeps.referrers_led i o y (x, at))))
      value_alike y x z at n m among l unclear o = tt

      -- an instance, and the one that it is led to
      at_both : (y : ℕ) (x z : Instance) → instance_at is y ≡ Some x → instance_at js (h y) ≡ Some z → IsLed h x z
          → (c : Source) → IsOfSchema c
          → Alike (LeadsBy is h) (value_from s d en attributes is f x c) (value_from s d en attributes js g z c)
      at_both y x z at there l c o =
          let here = at_name y is x at in
          value_alike y x z at here.1 (at_name (h y) js z there).1 here.0 l c o

      found_alike : (y : ℕ) (x z : Instance) → instance_at is y ≡ Some x → instance_at js (h y) ≡ Some z → IsLed h x z
          → (o : Option Source) → ((c : Source) → o ≡ Some c → IsOfSchema c)
          → AlikeFound (LeadsBy is h) (found o (value_from s d en attributes is f x))
          (found o (value_from s d en attributes js g z))
      found_alike y x z at there l None k = tt
      found_alike y x z at there l (Some c) k = at_both y x z at there l c (k c refl)

      attribute_alike : (y : ℕ) (x z : Instance) → instance_at is y ≡ Some x → instance_at js (h y) ≡ Some z
          → IsLed h x z → (a : Name) → AlikeFound (LeadsBy is h) (attribute_in s d en attributes is f (Some x) a)
          (attribute_in s d en attributes js g (Some z) a)
      attribute_alike y x z at there l a =
          subst (λ ts. AlikeFound (LeadsBy is h) (found (attributes.source x.types a) (value_from s d en attributes is f
          x))
          (found (attributes.source ts a) (value_from s d en attributes js g z))) l.types
          (found_alike y x z at there l (attributes.source x.types a)
          (λ c e. named_of_schema x.types a c (subst (IsNamed s inverses x.types a) e (are.sources x.types a))))

      group_alike : (y : ℕ) (x z : Instance) → instance_at is y ≡ Some x → instance_at js (h y) ≡ Some z
          → IsLed h x z → (e a : Name) → Alike (LeadsBy is h) (group_in s d en attributes is f (Some x) e a)
          (group_in s d en attributes js g (Some z) e a)
      group_alike y x z at there l e a =
          subst (λ ts. Alike (LeadsBy is h) (value_from s d en attributes is f x (attributes.source_of x.types e a))
          (value_from s d en attributes js g z (attributes.source_of ts e a))) l.types
          (at_both y x z at there l (attributes.source_of x.types e a)
          (group_of_schema x.types e a (attributes.source_of x.types e a) (are.groups x.types e a)))

      -- The attribute with a name, of an instance and of its image.
      attribute_led : (y : ℕ) → IsInstanceName is y → (a : Name)
          → AlikeFound (LeadsBy is h) (attribute_in s d en attributes is f (instance_at is y) a)
          (attribute_in s d en attributes js g (instance_at js (h y)) a)
      attribute_led y (x, at) a =
          let to = keeps.instances_led.led y x at in
          subst (λ o. AlikeFound (LeadsBy is h) (attribute_in s d en attributes is f o a)
          (attribute_in s d en attributes js g (instance_at js (h y)) a)) (sym at)
          (subst (λ o. AlikeFound (LeadsBy is h) (attribute_in s d en attributes is f (Some x) a)
          (attribute_in s d en attributes js g o a)) (sym to.1) (attribute_alike y x to.0 at to.1 to.2 a))

      group_led : (y : ℕ) → IsInstanceName is y → (e a : Name)
          → Alike (LeadsBy is h) (group_in s d en attributes is f (instance_at is y) e a)
          (group_in s d en attributes js g (instance_at js (h y)) e a)
      group_led y (x, at) e a =
          let to = keeps.instances_led.led y x at in
          subst (λ o. Alike (LeadsBy is h) (group_in s d en attributes is f o e a)
          (group_in s d en attributes js g (instance_at js (h y)) e a)) (sym at)
          (subst (λ o. Alike (LeadsBy is h) (group_in s d en attributes is f (Some x) e a)
          (group_in s d en attributes js g o e a)) (sym to.1) (group_alike y x to.0 at to.1 to.2 e a))

      type_led : (y : ℕ) → IsInstanceName is y → (text : List Item)
          → type_in s (instance_at is y) text ≡ type_in s (instance_at js (h y)) text
      type_led y (x, at) text =
          let to = keeps.instances_led.led y x at in
          ap (λ o. type_in s o text) at
          ∙ (ap (λ ts. list_any (says_type s text) ts) to.2.types
          ∙ sym (ap (λ o. type_in s o text) to.1))

      settings_alike : SettingsAlike (LeadsBy is h) (setting s d en attributes is f) (setting s d en attributes js g)
      settings_alike = record {
        attribute = λ y z l a. subst (λ u. AlikeFound (LeadsBy is h)
            (attribute_in s d en attributes is f (instance_at is y) a)
            (attribute_in s d en attributes js g (instance_at js u) a)) l.1 (attribute_led y l.0 a);
        attribute_of = λ y z l e a. subst (λ u. Alike (LeadsBy is h)
            (group_in s d en attributes is f (instance_at is y) e a)
            (group_in s d en attributes js g (instance_at js u) e a)) l.1 (group_led y l.0 e a);
        has_type = λ y z l text. subst (λ u. type_in s (instance_at is y) text
            ≡ type_in s (instance_at js u) text) l.1 (type_led y l.0 text);
        is_defined_by = λ t n. refl;
        is_item = λ n. refl;
        is_item_of = λ t n. refl;
      }

    rank_alike : (n : ℕ) (o : Option Formula) (p q : Tree → Datum) (d' e : Datum)
        → ((x : Tree) → Alike (LeadsBy is h) (p x) (q x)) → Alike (LeadsBy is h) d' e
        → Alike (LeadsBy is h) (by_rank n o p d') (by_rank n o q e)
    rank_alike n None p q d' e k l = l
    rank_alike n (Some c) p q d' e k l = by (c.rank == n) (k c.expression)
      where
        by : (b : Bool) → Alike (LeadsBy is h) (p c.expression) (q c.expression)
            → Alike (LeadsBy is h) (if b then p c.expression else d') (if b then q c.expression else e)
        by true k = k
        by false k = l

    below_alike : (n y : ℕ) → IsInstanceName is y → (e : Derivation)
        → Alike (LeadsBy is h) (below s d en attributes is n y e) (below s d en attributes js n (h y) e)
    below_alike zero y at e = tt
    below_alike (suc n) y at e =
        rank_alike n (attributes.formula e)
        (λ x. means (setting s d en attributes is (below s d en attributes is n)) [] (data_of.instance y) x)
        (λ x. means (setting s d en attributes js (below s d en attributes js n)) [] (data_of.instance (h y)) x)
        (below s d en attributes is n y e) (below s d en attributes js n (h y) e)
        (λ x. means_alike (LeadsBy is h) (setting s d en attributes is (below s d en attributes is n))
        (setting s d en attributes js (below s d en attributes js n))
        (settings_alike (below s d en attributes is n) (below s d en attributes js n) (below_alike n)) x [] [] tt
        (data_of.instance y) (data_of.instance (h y)) (at, refl))
        (below_alike n y at e)

    pub kept_meaning : (me you : Datum) → Alike (LeadsBy is h) me you → (x : Tree)
        → Alike (LeadsBy is h) (meaning s d en attributes is me x) (meaning s d en attributes js you x)
    kept_meaning me you m x =
        means_alike (LeadsBy is h) (setting s d en attributes is (derived_value s d en attributes is))
        (setting s d en attributes js (derived_value s d en attributes js))
        (settings_alike (derived_value s d en attributes is) (derived_value s d en attributes js)
        (λ y at e. below_alike (above (attributes.formula e)) y at e)) x [] [] tt me you m

pub images_keep_meanings : ImagesKeepMeanings
images_keep_meanings s d en inverses attributes are is js h keeps me you m x =
    kept_meaning s d en inverses attributes are is js h keeps me you m x
