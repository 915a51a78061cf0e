-- What stands in values, where references are led, and in values that agree.
use Rattle.std.specs.Prelude.{◌≡◌, ℕ, ◌==◌, Bool, true, false, not, ◌||◌, cond, Some, ◌⊎◌}
use Rattle.std.proofs.Common.{refl, sym, ap, subst, ◌∙◌, inl, inr, eqb-true}
use Rattle.step_values.specs.Values.{Value, leaf, reference, typed, sequence, bag, Values, none, more, IsReordering, unchanged, kept, swapped, joined, Agree, AgreeEach}
use Rattle.step_values.specs.References.{renamed, renamed_each}
use Rattle.step_values.proofs.Crowds.{sized, moved, crowd_renamed, bags_alike, by_names}
use Rattle.express_syntax.specs.Schemas.{Schema}
use Rattle.conformance.specs.Bases.{Base, Domain, base}
use Rattle.conformance.specs.ParameterFits.{inner}
use Rattle.conformance.specs.SeparatingMaps.{Occurs, OccursIn}
use Rattle.conformance.specs.CollectionMembers.{pins_members, InBag, InBagOf}
use Rattle.conformance.specs.Elements.{AnElement, IsReferenceTo, StandsWithin, HasUnique, HasUniqueAmong}
use Rattle.conformance.proofs.Standing.{either}

-- Values that agree, each reference with itself alone.

occurs_reordered : (y : ℕ) {us ws : Values} → IsReordering us ws → OccursIn y us → OccursIn y ws
occurs_reordered y (unchanged vs) o = o
occurs_reordered y (kept v r) (inl o) = inl o
occurs_reordered y (kept v r) (inr o) = inr (occurs_reordered y r o)
occurs_reordered y (swapped v w vs) (inl o) = inr (inl o)
occurs_reordered y (swapped v w vs) (inr (inl o)) = inl o
occurs_reordered y (swapped v w vs) (inr (inr o)) = inr (inr o)
occurs_reordered y (joined r q) o = occurs_reordered y q (occurs_reordered y r o)

mutual
  pub occurs_same : (y : ℕ) (v w : Value) → Agree (◌==◌) v w → Occurs y v → Occurs y w
  occurs_same y (leaf a) (leaf b) e o = elim o [ ]
  occurs_same y (reference m) (reference n) e o = o ∙ eqb-true m n e
  occurs_same y (typed m v) (typed n w) e o = occurs_same y v w e.1 o
  occurs_same y (sequence vs) (sequence ws) e o = occurs_in_same y vs ws e o
  occurs_same y (bag vs) (bag ws) e o =
      let m = by_names vs ws e in occurs_reordered y m.1 (occurs_in_same y vs m.0 m.2 o)
  occurs_same y _ _ e o = absurd e

  pub occurs_in_same : (y : ℕ) (vs ws : Values) → AgreeEach (◌==◌) vs ws → OccursIn y vs → OccursIn y ws
  occurs_in_same y none none e o = elim o [ ]
  occurs_in_same y (more v vs) (more w ws) e (inl o) = inl (occurs_same y v w e.0 o)
  occurs_in_same y (more v vs) (more w ws) e (inr o) = inr (occurs_in_same y vs ws e.1 o)
  occurs_in_same y _ _ e o = absurd e

bags_reordered : (in_sets : Bool) (y : ℕ) {us ws : Values} → IsReordering us ws → InBagOf in_sets y us
    → InBagOf in_sets y ws
bags_reordered in_sets y (unchanged vs) o = o
bags_reordered in_sets y (kept v r) (inl o) = inl o
bags_reordered in_sets y (kept v r) (inr o) = inr (bags_reordered in_sets y r o)
bags_reordered in_sets y (swapped v w vs) (inl o) = inr (inl o)
bags_reordered in_sets y (swapped v w vs) (inr (inl o)) = inl o
bags_reordered in_sets y (swapped v w vs) (inr (inr o)) = inr (inr o)
bags_reordered in_sets y (joined r q) o = bags_reordered in_sets y q (bags_reordered in_sets y r o)

module _ (in_sets : Bool) where
  mutual
    pub bag_same : (y : ℕ) (v w : Value) → Agree (◌==◌) v w → InBag in_sets y v → InBag in_sets y w
    bag_same y (leaf a) (leaf b) e o = elim o [ ]
    bag_same y (reference m) (reference n) e o = elim o [ ]
    bag_same y (typed m v) (typed n w) e o = bag_same y v w e.1 o
    bag_same y (sequence vs) (sequence ws) e o = bags_same y vs ws e o
    bag_same y (bag vs) (bag ws) e o =
        let m = by_names vs ws e in
        moved (OccursIn y ws) (InBagOf in_sets y ws) (pins_members in_sets vs) (pins_members in_sets ws)
        (ap (λ b. not in_sets || b) (bags_alike (◌==◌) vs ws e)) (sized (pins_members in_sets vs) o
        (λ s. occurs_reordered y m.1 (occurs_in_same y vs m.0 m.2 s))
        (λ s. bags_reordered in_sets y m.1 (bags_same y vs m.0 m.2 s)))
    bag_same y _ _ e o = absurd e

    bags_same : (y : ℕ) (vs ws : Values) → AgreeEach (◌==◌) vs ws → InBagOf in_sets y vs → InBagOf in_sets y ws
    bags_same y none none e o = elim o [ ]
    bags_same y (more v vs) (more w ws) e (inl o) = inl (bag_same y v w e.0 o)
    bags_same y (more v vs) (more w ws) e (inr o) = inr (bags_same y vs ws e.1 o)
    bags_same y _ _ e o = absurd e

pub element_same : (P : Value → Type 0) → ((v w : Value) → Agree (◌==◌) v w → P v → P w) → (vs ws : Values)
    → AgreeEach (◌==◌) vs ws → AnElement P vs → AnElement P ws
element_same P f none none e o = elim o [ ]
element_same P f (more v vs) (more w ws) e (inl o) = inl (f v w e.0 o)
element_same P f (more v vs) (more w ws) e (inr o) = inr (element_same P f vs ws e.1 o)
element_same P f _ _ e o = absurd e

pub within_same : (y : ℕ) (v w : Value) → Agree (◌==◌) v w → StandsWithin y v → StandsWithin y w
within_same y (leaf a) (leaf b) e o = elim o [ ]
within_same y (reference m) (reference n) e o = elim o [ ]
within_same y (typed m v) (typed n w) e o = occurs_same y v w e.1 o
within_same y (sequence vs) (sequence ws) e o = occurs_in_same y vs ws e o
within_same y (bag vs) (bag ws) e o =
    let m = by_names vs ws e in occurs_reordered y m.1 (occurs_in_same y vs m.0 m.2 o)
within_same y _ _ e o = absurd e

abbrev number_of : Value → ℕ
number_of (reference y) = y
number_of v = 0

pub reference_same : (y : ℕ) (v w : Value) → Agree (◌==◌) v w → IsReferenceTo y v → IsReferenceTo y w
reference_same y (reference m) (reference n) e o = ap reference (sym (eqb-true m n e) ∙ ap number_of o)
reference_same y (leaf a) w e o = absurd (cc)
reference_same y (typed n v) w e o = absurd (cc)
reference_same y (sequence vs) w e o = absurd (cc)
reference_same y (bag vs) w e o = absurd (cc)
reference_same y (reference m) (leaf b) e o = absurd e
reference_same y (reference m) (typed n w) e o = absurd e
reference_same y (reference m) (sequence ws) e o = absurd e
reference_same y (reference m) (bag ws) e o = absurd e

module _ (s : Schema) (d : Domain) where
  module _ (Q : Values → Type 0) (f : (vs ws : Values) → AgreeEach (◌==◌) vs ws → Q vs → Q ws) where
    among_reordered : (b : Base) {us ws : Values} → IsReordering us ws → HasUniqueAmong s d Q b us
        → HasUniqueAmong s d Q b ws
    among_reordered b (unchanged vs) o = o
    among_reordered b (kept v r) (inl o) = inl o
    among_reordered b (kept v r) (inr o) = inr (among_reordered b r o)
    among_reordered b (swapped v w vs) (inl o) = inr (inl o)
    among_reordered b (swapped v w vs) (inr (inl o)) = inl o
    among_reordered b (swapped v w vs) (inr (inr o)) = inr (inr o)
    among_reordered b (joined r q) o = among_reordered b q (among_reordered b r o)

    mutual
      pub unique_same : (b : Base) (v w : Value) → Agree (◌==◌) v w → HasUnique s d Q b v → HasUnique s d Q b w
      unique_same b (leaf a) (leaf c) e o = elim o [ ]
      unique_same b (reference m) (reference n) e o = elim o [ ]
      unique_same b (typed m v) (typed n w) e o =
          (o.0, subst (λ k. inner s d b k ≡ Some o.0) e.0 o.1, unique_same o.0 v w e.1 o.2)
      unique_same b (sequence vs) (sequence ws) e o =
          (o.0, o.1, either (λ p. (p.0, f vs ws e p.1)) (among_same (base d o.0.element) vs ws e) o.2)
      unique_same b (bag vs) (bag ws) e o =
          let m = by_names vs ws e in
          (o.0, o.1, among_reordered (base d o.0.element) m.1 (among_same (base d o.0.element) vs m.0 m.2 o.2))
      unique_same b _ _ e o = absurd e

      among_same : (b : Base) (vs ws : Values) → AgreeEach (◌==◌) vs ws → HasUniqueAmong s d Q b vs
          → HasUniqueAmong s d Q b ws
      among_same b none none e o = elim o [ ]
      among_same b (more v vs) (more w ws) e (inl o) = inl (unique_same b v w e.0 o)
      among_same b (more v vs) (more w ws) e (inr o) = inr (among_same b vs ws e.1 o)
      among_same b _ _ e o = absurd e

  -- what stands among the elements occurs
  module _ (y : ℕ) (P : Values → Type 0) (f : (vs : Values) → P vs → OccursIn y vs) where
    mutual
      pub unique_occurs : (b : Base) (v : Value) → HasUnique s d P b v → Occurs y v
      unique_occurs b (leaf a) o = elim o [ ]
      unique_occurs b (reference z) o = elim o [ ]
      unique_occurs b (typed n v) o = unique_occurs o.0 v o.2
      unique_occurs b (sequence vs) o =
          by o.2 (among_occur (base d o.0.element) vs)
        where
          by : ((o.0.unique ≡ true) × P vs) ⊎ HasUniqueAmong s d P (base d o.0.element) vs
              → (HasUniqueAmong s d P (base d o.0.element) vs → OccursIn y vs) → OccursIn y vs
          by (inl p) g = f vs p.1
          by (inr m) g = g m
      unique_occurs b (bag vs) o = among_occur (base d o.0.element) vs o.2

      among_occur : (b : Base) (vs : Values) → HasUniqueAmong s d P b vs → OccursIn y vs
      among_occur b none o = elim o [ ]
      among_occur b (more v vs) (inl o) = inl (unique_occurs b v o)
      among_occur b (more v vs) (inr o) = inr (among_occur b vs o)

-- References that are led.
module _ (h : ℕ → ℕ) where
  mutual
    pub occurs_led : (y : ℕ) (v : Value) → Occurs y v → Occurs (h y) (renamed h v)
    occurs_led y (leaf a) o = elim o [ ]
    occurs_led y (reference z) o = ap h o
    occurs_led y (typed n v) o = occurs_led y v o
    occurs_led y (sequence vs) o = occurs_in_led y vs o
    occurs_led y (bag vs) o = occurs_in_led y vs o

    pub occurs_in_led : (y : ℕ) (vs : Values) → OccursIn y vs → OccursIn (h y) (renamed_each h vs)
    occurs_in_led y none o = elim o [ ]
    occurs_in_led y (more v vs) (inl o) = inl (occurs_led y v o)
    occurs_in_led y (more v vs) (inr o) = inr (occurs_in_led y vs o)

  -- this is led to z, and of it that holds
  abbrev pub From : ℕ → (ℕ → Type 0) → Type 0
  From z P = (y : ℕ) × P y × (h y ≡ z)

  mutual
    pub occurs_back : (z : ℕ) (v : Value) → Occurs z (renamed h v) → From z (λ y. Occurs y v)
    occurs_back z (leaf a) o = elim o [ ]
    occurs_back z (reference y) o = (y, refl, sym o)
    occurs_back z (typed n v) o = occurs_back z v o
    occurs_back z (sequence vs) o = occurs_in_back z vs o
    occurs_back z (bag vs) o = occurs_in_back z vs o

    pub occurs_in_back : (z : ℕ) (vs : Values) → OccursIn z (renamed_each h vs) → From z (λ y. OccursIn y vs)
    occurs_in_back z none o = elim o [ ]
    occurs_in_back z (more v vs) (inl o) = let p = occurs_back z v o in (p.0, inl p.1, p.2)
    occurs_in_back z (more v vs) (inr o) = let p = occurs_in_back z vs o in (p.0, inr p.1, p.2)

  -- one of two things is led to z, by a test
  from_either : (z : ℕ) (A B : ℕ → Type 0) {X Y : Type 0} (b : Bool) → (X → From z A) → (Y → From z B) → cond b X Y
      → From z (λ y. cond b (A y) (B y))
  from_either z A B true f g o = f o
  from_either z A B false f g o = g o

  module _ (in_sets : Bool) where
    mutual
      pub bag_led : (y : ℕ) (v : Value) → InBag in_sets y v → InBag in_sets (h y) (renamed h v)
      bag_led y (leaf a) o = elim o [ ]
      bag_led y (reference z) o = elim o [ ]
      bag_led y (typed n v) o = bag_led y v o
      bag_led y (sequence vs) o = bags_led y vs o
      bag_led y (bag vs) o =
          moved (OccursIn (h y) (renamed_each h vs)) (InBagOf in_sets (h y) (renamed_each h vs))
          (pins_members in_sets vs) (pins_members in_sets (renamed_each h vs))
          (ap (λ b. not in_sets || b) (sym (crowd_renamed h vs))) (sized (pins_members in_sets vs) o
          (λ s. occurs_in_led y vs s) (λ s. bags_led y vs s))

      bags_led : (y : ℕ) (vs : Values) → InBagOf in_sets y vs → InBagOf in_sets (h y) (renamed_each h vs)
      bags_led y none o = elim o [ ]
      bags_led y (more v vs) (inl o) = inl (bag_led y v o)
      bags_led y (more v vs) (inr o) = inr (bags_led y vs o)

    mutual
      pub bag_back : (z : ℕ) (v : Value) → InBag in_sets z (renamed h v) → From z (λ y. InBag in_sets y v)
      bag_back z (leaf a) o = elim o [ ]
      bag_back z (reference y) o = elim o [ ]
      bag_back z (typed n v) o = bag_back z v o
      bag_back z (sequence vs) o = bags_back z vs o
      bag_back z (bag vs) o =
          from_either z (λ y. OccursIn y vs) (λ y. InBagOf in_sets y vs) (pins_members in_sets vs)
          (λ s. occurs_in_back z vs s) (λ s. bags_back z vs s)
          (moved (OccursIn z (renamed_each h vs)) (InBagOf in_sets z (renamed_each h vs))
          (pins_members in_sets (renamed_each h vs)) (pins_members in_sets vs)
          (ap (λ b. not in_sets || b) (crowd_renamed h vs)) o)

      bags_back : (z : ℕ) (vs : Values) → InBagOf in_sets z (renamed_each h vs) → From z (λ y. InBagOf in_sets y vs)
      bags_back z none o = elim o [ ]
      bags_back z (more v vs) (inl o) = let p = bag_back z v o in (p.0, inl p.1, p.2)
      bags_back z (more v vs) (inr o) = let p = bags_back z vs o in (p.0, inr p.1, p.2)

  pub element_led : (P Q : Value → Type 0) → ((v : Value) → P v → Q (renamed h v)) → (vs : Values) → AnElement P vs
      → AnElement Q (renamed_each h vs)
  element_led P Q f none o = elim o [ ]
  element_led P Q f (more v vs) (inl o) = inl (f v o)
  element_led P Q f (more v vs) (inr o) = inr (element_led P Q f vs o)

  pub element_back : (Q : Value → Type 0) (P : ℕ → Value → Type 0) (G : ℕ → Type 0)
      → ((v : Value) → Q (renamed h v) → (y : ℕ) × P y v × G y) → (vs : Values) → AnElement Q (renamed_each h vs)
      → (y : ℕ) × AnElement (P y) vs × G y
  element_back Q P G f none o = elim o [ ]
  element_back Q P G f (more v vs) (inl o) = let p = f v o in (p.0, inl p.1, p.2)
  element_back Q P G f (more v vs) (inr o) = let p = element_back Q P G f vs o in (p.0, inr p.1, p.2)

  pub within_led : (y : ℕ) (v : Value) → StandsWithin y v → StandsWithin (h y) (renamed h v)
  within_led y (leaf a) o = elim o [ ]
  within_led y (reference z) o = elim o [ ]
  within_led y (typed n v) o = occurs_led y v o
  within_led y (sequence vs) o = occurs_in_led y vs o
  within_led y (bag vs) o = occurs_in_led y vs o

  pub within_back : (z : ℕ) (v : Value) → StandsWithin z (renamed h v) → From z (λ y. StandsWithin y v)
  within_back z (leaf a) o = elim o [ ]
  within_back z (reference y) o = elim o [ ]
  within_back z (typed n v) o = occurs_back z v o
  within_back z (sequence vs) o = occurs_in_back z vs o
  within_back z (bag vs) o = occurs_in_back z vs o

  pub reference_back : (z : ℕ) (v : Value) → IsReferenceTo z (renamed h v) → From z (λ y. IsReferenceTo y v)
  reference_back z (leaf a) o = absurd (cc)
  reference_back z (reference y) o = (y, refl, ap number_of o)
  reference_back z (typed n v) o = absurd (cc)
  reference_back z (sequence vs) o = absurd (cc)
  reference_back z (bag vs) o = absurd (cc)

  module _ (s : Schema) (d : Domain) where
    module _ (P Q : Values → Type 0) (f : (vs : Values) → P vs → Q (renamed_each h vs)) where
      mutual
        pub unique_led : (b : Base) (v : Value) → HasUnique s d P b v → HasUnique s d Q b (renamed h v)
        unique_led b (leaf a) o = elim o [ ]
        unique_led b (reference z) o = elim o [ ]
        unique_led b (typed n v) o = (o.0, o.1, unique_led o.0 v o.2)
        unique_led b (sequence vs) o =
            (o.0, o.1, either (λ p. (p.0, f vs p.1)) (among_led (base d o.0.element) vs) o.2)
        unique_led b (bag vs) o = (o.0, o.1, among_led (base d o.0.element) vs o.2)

        among_led : (b : Base) (vs : Values) → HasUniqueAmong s d P b vs → HasUniqueAmong s d Q b (renamed_each h vs)
        among_led b none o = elim o [ ]
        among_led b (more v vs) (inl o) = inl (unique_led b v o)
        among_led b (more v vs) (inr o) = inr (among_led b vs o)

    module _ {A : Type 0} (Q : Values → Type 0) (P : A → Values → Type 0) (G : A → Type 0)
        (f : (vs : Values) → Q (renamed_each h vs) → (a : A) × P a vs × G a) where
      mutual
        pub unique_back : (b : Base) (v : Value) → HasUnique s d Q b (renamed h v)
            → (a : A) × HasUnique s d (P a) b v × G a
        unique_back b (leaf a) o = elim o [ ]
        unique_back b (reference z) o = elim o [ ]
        unique_back b (typed n v) o = let p = unique_back o.0 v o.2 in (p.0, (o.0, o.1, p.1), p.2)
        unique_back b (sequence vs) o = by o.2 (among_back (base d o.0.element) vs)
          where
            by : ((o.0.unique ≡ true) × Q (renamed_each h vs)) ⊎ HasUniqueAmong s d Q (base d o.0.element) (renamed_each h vs)
                → (HasUniqueAmong s d Q (base d o.0.element) (renamed_each h vs)
                → (a : A) × HasUniqueAmong s d (P a) (base d o.0.element) vs × G a)
                → (a : A) × HasUnique s d (P a) b (sequence vs) × G a
            by (inl q) g = let p = f vs q.1 in (p.0, (o.0, o.1, inl (q.0, p.1)), p.2)
            by (inr m) g = let p = g m in (p.0, (o.0, o.1, inr p.1), p.2)
        unique_back b (bag vs) o =
            let p = among_back (base d o.0.element) vs o.2 in (p.0, (o.0, o.1, p.1), p.2)

        among_back : (b : Base) (vs : Values) → HasUniqueAmong s d Q b (renamed_each h vs)
            → (a : A) × HasUniqueAmong s d (P a) b vs × G a
        among_back b none o = elim o [ ]
        among_back b (more v vs) (inl o) = let p = unique_back b v o in (p.0, inl p.1, p.2)
        among_back b (more v vs) (inr o) = let p = among_back b vs o in (p.0, inr p.1, p.2)
