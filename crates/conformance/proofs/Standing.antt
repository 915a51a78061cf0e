-- What stands in values OF UNIQUE, and in SETs and BAGs.
use Rattle.std.specs.Prelude.{◌≡◌, ◌≢◌, ℕ, Bool, true, false, not, ◌||◌, cond, List, [], ◌∷◌, ◌⊎◌}
use Rattle.std.proofs.Common.{refl, sym, subst, inl, inr}
use Rattle.step_values.specs.Values.{Value, leaf, reference, typed, sequence, bag, Values, none, more, is_crowd}
use Rattle.step_values.specs.References.{EachReference, EachReferenceOf, EachBagReference, EachBagReferenceOf}
use Rattle.step_values.proofs.References.{each_in_bag_of}
use Rattle.express_syntax.specs.Schemas.{Schema, DataType}
use Rattle.schema_semantics.specs.Names.{OneOf, Among}
use Rattle.conformance.specs.Bases.{Base, Domain, base}
use Rattle.conformance.specs.Entities.{Entities, data_types}
use Rattle.conformance.specs.Populations.{Slot, Instance}
use Rattle.conformance.specs.SeparatingMaps.{Occurs, OccursIn}
use Rattle.conformance.specs.CollectionMembers.{InBag, InBagOf, InUnique, InUniqueOf, StandsInUnique}
use Rattle.conformance.specs.Elements.{AnElement, IsReferenceTo, StandsWithin, IsAnotherOfClass, HasUnique, HasUniqueAmong, HasUniqueValue}
use Rattle.conformance.specs.Pins.{StandsInsideUnique, StandsBesideItsClass, StandTogether}

pub either : {P Q R S : Type 0} → (P → R) → (Q → S) → P ⊎ Q → R ⊎ S
either f g (inl p) = inl (f p)
either f g (inr q) = inr (g q)

pub some_other : {A : Type 0} {P Q : A → Type 0} → ((x : A) → P x → Q x) → (xs : List A) → OneOf P xs → OneOf Q xs
some_other f [] h = elim h [ ]
some_other f (x ∷ xs) (inl h) = inl (f x h)
some_other f (x ∷ xs) (inr h) = inr (some_other f xs h)

pub one_is : {A : Type 0} (P : A → Type 0) (x : A) (xs : List A) → Among x xs → P x → OneOf P xs
one_is P x [] m h = elim m [ ]
one_is P x (y ∷ ys) (inl e) h = inl (subst P (sym e) h)
one_is P x (y ∷ ys) (inr m) h = inr (one_is P x ys m h)

pub found : {A : Type 0} (P : A → Type 0) (xs : List A) → OneOf P xs → (x : A) × Among x xs × P x
found P [] h = elim h [ ]
found P (x ∷ xs) (inl h) = (x, inl refl, h)
found P (x ∷ xs) (inr h) = let rest = found P xs h in (rest.0, inr rest.1, rest.2)

pub an_other : {P Q : Value → Type 0} → ((v : Value) → P v → Q v) → (vs : Values) → AnElement P vs → AnElement Q vs
an_other f none h = elim h [ ]
an_other f (more v vs) (inl h) = inl (f v h)
an_other f (more v vs) (inr h) = inr (an_other f vs h)

-- what stands within an element, or is one, stands in the collection
occurs_within : (y : ℕ) (v : Value) → StandsWithin y v → Occurs y v
occurs_within y (leaf a) h = elim h [ ]
occurs_within y (reference z) h = elim h [ ]
occurs_within y (typed n v) h = h
occurs_within y (sequence vs) h = h
occurs_within y (bag vs) h = h

pub element_occurs : (y : ℕ) (P : Value → Type 0) → ((v : Value) → P v → Occurs y v) → (vs : Values) → AnElement P vs
    → OccursIn y vs
element_occurs y P f none h = elim h [ ]
element_occurs y P f (more v vs) (inl h) = inl (f v h)
element_occurs y P f (more v vs) (inr h) = inr (element_occurs y P f vs h)

pub within_occurs : (y : ℕ) (vs : Values) → AnElement (StandsWithin y) vs → OccursIn y vs
within_occurs y vs h = element_occurs y (StandsWithin y) (occurs_within y) vs h

pub is_occurs : (y : ℕ) (vs : Values) → AnElement (IsReferenceTo y) vs → OccursIn y vs
is_occurs y vs h = element_occurs y (IsReferenceTo y) (λ v e. subst (Occurs y) (sym e) refl) vs h

-- What occurs in a collection is an element of it, or occurs within one.
pub occurs_is : (y : ℕ) (v : Value) → Occurs y v → IsReferenceTo y v ⊎ StandsWithin y v
occurs_is y (leaf a) h = elim h [ ]
occurs_is y (reference z) h = inl (subst (λ w. reference w ≡ reference y) h refl)
occurs_is y (typed n v) h = inr h
occurs_is y (sequence vs) h = inr h
occurs_is y (bag vs) h = inr h

pub occurs_is_in : (y : ℕ) (vs : Values) → OccursIn y vs
    → AnElement (IsReferenceTo y) vs ⊎ AnElement (StandsWithin y) vs
occurs_is_in y none h = elim h [ ]
occurs_is_in y (more v vs) (inl h) = either inl inl (occurs_is y v h)
occurs_is_in y (more v vs) (inr h) = either inr inr (occurs_is_in y vs h)

-- collections of which something else holds
module _ (s : Schema) (d : Domain) where
  module _ (P Q : Values → Type 0) (f : (vs : Values) → P vs → Q vs) where
    mutual
      pub unique_other : (b : Base) (v : Value) → HasUnique s d P b v → HasUnique s d Q b v
      unique_other b (leaf a) h = h
      unique_other b (reference y) h = h
      unique_other b (typed word v) h = (h.0, h.1, unique_other h.0 v h.2)
      unique_other b (sequence vs) h =
          (h.0, h.1, either (λ p. (p.0, f vs p.1)) (λ m. unique_other_among (base d h.0.element) vs m) h.2)
      unique_other b (bag vs) h = (h.0, h.1, unique_other_among (base d h.0.element) vs h.2)

      pub unique_other_among : (b : Base) (vs : Values) → HasUniqueAmong s d P b vs → HasUniqueAmong s d Q b vs
      unique_other_among b none h = h
      unique_other_among b (more v vs) h = either (unique_other b v) (unique_other_among b vs) h

    pub value_other : (en : Entities) (i : Instance) → HasUniqueValue s d en P i → HasUniqueValue s d en Q i
    value_other en i h =
        some_other (λ (x : Slot) m. some_other (λ (k : DataType) g. unique_other (base d k) x.value g)
        (data_types s en i.types x.place) m) i.slots h

  module _ (y : ℕ) (P : Values → Type 0) (f : (vs : Values) → P vs → OccursIn y vs) where
    mutual
      in_unique : (b : Base) (v : Value) → HasUnique s d P b v → InUnique s d y b v
      in_unique b (leaf a) h = h
      in_unique b (reference z) h = h
      in_unique b (typed word v) h = (h.0, h.1, in_unique h.0 v h.2)
      in_unique b (sequence vs) h =
          (h.0, h.1, either (λ p. (p.0, f vs p.1)) (λ m. in_unique_of (base d h.0.element) vs m) h.2)
      in_unique b (bag vs) h = (h.0, h.1, in_unique_of (base d h.0.element) vs h.2)

      in_unique_of : (b : Base) (vs : Values) → HasUniqueAmong s d P b vs → InUniqueOf s d y b vs
      in_unique_of b none h = h
      in_unique_of b (more v vs) h = either (in_unique b v) (in_unique_of b vs) h

    stands_in : (en : Entities) (i : Instance) → HasUniqueValue s d en P i → StandsInUnique s d en y i
    stands_in en i h =
        some_other (λ (x : Slot) m. some_other (λ (k : DataType) g. in_unique (base d k) x.value g)
        (data_types s en i.types x.place) m) i.slots h

  pub inside_stands : (en : Entities) (y : ℕ) (i : Instance) → StandsInsideUnique s d en y i
      → StandsInUnique s d en y i
  inside_stands en y i h = stands_in y (AnElement (StandsWithin y)) (within_occurs y) en i h

  pub beside_stands : (en : Entities) (E : ℕ → ℕ → Bool) (y : ℕ) (i : Instance) → StandsBesideItsClass s d en E y i
      → StandsInUnique s d en y i
  beside_stands en E y i h =
      stands_in y (λ vs. AnElement (IsReferenceTo y) vs × AnElement (IsAnotherOfClass E y) vs)
      (λ vs p. is_occurs y vs p.0) en i h

  pub together_beside : (en : Entities) (E : ℕ → ℕ → Bool) (y z : ℕ) → z ≢ y → E y z ≡ true → (i : Instance)
      → StandTogether s d en y z i → StandsBesideItsClass s d en E y i
  together_beside en E y z differ one i h =
      value_other (λ vs. AnElement (IsReferenceTo y) vs × AnElement (IsReferenceTo z) vs)
      (λ vs. AnElement (IsReferenceTo y) vs × AnElement (IsAnotherOfClass E y) vs)
      (λ vs p. (p.0, an_other (λ v e. (z, e, differ, one)) vs p.1)) en i h

-- what holds of all that stands in a value holds of its references
module _ (P : ℕ → Type 0) where
  mutual
    each_held : (v : Value) → ((y : ℕ) → Occurs y v → P y) → EachReference P v
    each_held (leaf a) f = tt
    each_held (reference y) f = f y refl
    each_held (typed n v) f = each_held v f
    each_held (sequence vs) f = each_held_of vs f
    each_held (bag vs) f = each_held_of vs f

    each_held_of : (vs : Values) → ((y : ℕ) → OccursIn y vs → P y) → EachReferenceOf P vs
    each_held_of none f = tt
    each_held_of (more v vs) f = (each_held v (λ y h. f y (inl h)), each_held_of vs (λ y h. f y (inr h)))

  -- what holds of all that a SET or BAG pins
  of_bag : (vs : Values) → (B : ℕ → Type 0) → (EachReferenceOf P vs → EachBagReferenceOf P vs)
      → (((y : ℕ) → B y → P y) → EachBagReferenceOf P vs) → (c crowd : Bool)
      → ((y : ℕ) → cond (not c || crowd) (OccursIn y vs) (B y) → P y)
      → cond crowd (EachReferenceOf P vs) (EachBagReferenceOf P vs)
  of_bag vs B weaker inner true true f = each_held_of vs f
  of_bag vs B weaker inner true false f = inner f
  of_bag vs B weaker inner false true f = each_held_of vs f
  of_bag vs B weaker inner false false f = weaker (each_held_of vs f)

  module _ (in_sets : Bool) where
    mutual
      pub bags_held : (v : Value) → ((y : ℕ) → InBag in_sets y v → P y) → EachBagReference P v
      bags_held (leaf a) f = tt
      bags_held (reference y) f = tt
      bags_held (typed n v) f = bags_held v f
      bags_held (sequence vs) f = bags_held_of vs f
      bags_held (bag vs) f =
          of_bag vs (λ y. InBagOf in_sets y vs) (λ h. each_in_bag_of P vs h) (λ g. bags_held_of vs g) in_sets
          (is_crowd vs) f

      bags_held_of : (vs : Values) → ((y : ℕ) → InBagOf in_sets y vs → P y) → EachBagReferenceOf P vs
      bags_held_of none f = tt
      bags_held_of (more v vs) f = (bags_held v (λ y h. f y (inl h)), bags_held_of vs (λ y h. f y (inr h)))
