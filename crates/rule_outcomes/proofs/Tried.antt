-- The values for which a rule of a defined type is tried.
use Rattle.std.specs.Prelude.{◌≡◌, Bool, true, false, cond, List, [], ◌∷◌, ◌⊎◌}
use Rattle.std.proofs.Common.{refl, sym, subst, inl, inr}
use Rattle.step_values.specs.Leaves as leaves
use Rattle.step_values.specs.Leaves.{Leaf}
use Rattle.step_values.specs.Values.{Value, leaf, reference, typed, sequence, bag, Values, none, more}
use Rattle.express_syntax.specs.Schemas.{Schema, DataType, named}
use Rattle.schema_semantics.specs.Names.{Name, Among}
use Rattle.schema_semantics.proofs.Lists.{among-left, among-right, among-either, among-flat, from-flat}
use Rattle.conformance.specs.Bases.{Base, Domain, base}
use Rattle.conformance.specs.ParameterFits.{element}
use Rattle.conformance.specs.Entities.{Entities, data_types}
use Rattle.conformance.specs.Populations.{Instance}
use Rattle.express_logic.specs.Data.{Datum}
use Rattle.conformance.specs.Values.{datum, first_declared}
use Rattle.conformance.specs.Attributes.{Attributes}
use Rattle.conformance.specs.DomainRules.{of_type}
use Rattle.conformance.specs.DomainFindings.{element_in, is_of, itself, values_of, each_of, in_slot, selves}
use Rattle.rule_outcomes.specs.Laws as laws
use Rattle.rule_outcomes.specs.Laws.{IsElement, IsPlain, StandsIn, IsOfType, RulesOfTypesAreTriedForTheirValues}

-- the one member of a list that has it or none
of-one : (b : Bool) (e x : Datum) → Among x (cond b (e ∷ []) []) → (b ≡ true) × (x ≡ e)
of-one true e x (inl p) = (refl, sym p)
of-one true e x (inr m) = elim m [ ]
of-one false e x m = elim m [ ]

one-of : (b : Bool) (e x : Datum) → b ≡ true → x ≡ e → Among x (cond b (e ∷ []) [])
one-of true e x h p = inl (sym p)
one-of false e x h p = absurd (cc)

module _ (s : Schema) (d : Domain) (en : Entities) (attributes : Attributes) (t : Name) (self : Datum) where
  abbrev sought : DataType → Base → Value → List Datum
  sought k b v = values_of s d en attributes t k b v

  abbrev sought-each : DataType → Base → Values → List Datum
  sought-each k b vs = each_of s d en attributes t k b vs

  abbrev alone : DataType → Base → Value → List Datum
  alone k b v = itself s d en attributes t k b v

  -- a value of the type in one of this data type
  record Found (k : DataType) (b : Base) (v : Value) : Type 0 where
    found : DataType
    its_base : Base
    value : Value
    stands : StandsIn s d k b v found its_base value
    plain : IsPlain value
    is_of_type : is_of s d en attributes t found ≡ true
    worth : self ≡ datum s d its_base value

  -- a value of the type in one of these values
  record FoundAmong (k : DataType) (b : Base) (vs : Values) : Type 0 where
    one : Value
    is_one : IsElement one vs
    there : Found k b one

  found-alone : (k : DataType) (b : Base) (v : Value) → IsPlain v → Among self (alone k b v) → Found k b v
  found-alone k b v plain m =
      let h = of-one (is_of s d en attributes t k) (datum s d b v) self m in
      record {
        found = k;
        its_base = b;
        value = v;
        stands = laws.itself;
        plain = plain;
        is_of_type = h.0;
        worth = h.1;
      }

  found-leaf : (k : DataType) (b : Base) (a : Leaf) → Among self (sought k b (leaf a)) → Found k b (leaf a)
  found-leaf k b leaves.unset m = elim m [ ]
  found-leaf k b leaves.derived m = elim m [ ]
  found-leaf k b (leaves.number z) m = found-alone k b (leaf (leaves.number z)) tt m
  found-leaf k b (leaves.text z) m = found-alone k b (leaf (leaves.text z)) tt m
  found-leaf k b (leaves.bits z) m = found-alone k b (leaf (leaves.bits z)) tt m
  found-leaf k b (leaves.element z) m = found-alone k b (leaf (leaves.element z)) tt m

  -- a value of the type in a list or a bag, if it is found in the elements
  in-sequence : (k : DataType) (b : Base) (vs : Values)
      → (Among self (sought-each (element_in k (base d k)) (element s d b) vs)
      → FoundAmong (element_in k (base d k)) (element s d b) vs) → Among self (alone k b (sequence vs))
      ⊎ Among self (sought-each (element_in k (base d k)) (element s d b) vs) → Found k b (sequence vs)
  in-sequence k b vs each (inl m) = found-alone k b (sequence vs) tt m
  in-sequence k b vs each (inr m) =
      let e = each m in
      let f = e.there in
      record {
        found = f.found;
        its_base = f.its_base;
        value = f.value;
        stands = laws.in_list e.is_one f.stands;
        plain = f.plain;
        is_of_type = f.is_of_type;
        worth = f.worth;
      }

  in-bag : (k : DataType) (b : Base) (vs : Values)
      → (Among self (sought-each (element_in k (base d k)) (element s d b) vs)
      → FoundAmong (element_in k (base d k)) (element s d b) vs) → Among self (alone k b (bag vs))
      ⊎ Among self (sought-each (element_in k (base d k)) (element s d b) vs) → Found k b (bag vs)
  in-bag k b vs each (inl m) = found-alone k b (bag vs) tt m
  in-bag k b vs each (inr m) =
      let e = each m in
      let f = e.there in
      record {
        found = f.found;
        its_base = f.its_base;
        value = f.value;
        stands = laws.in_bag e.is_one f.stands;
        plain = f.plain;
        is_of_type = f.is_of_type;
        worth = f.worth;
      }

  in-either : (k : DataType) (b : Base) (v : Value) (vs : Values) → (Among self (sought k b v) → Found k b v)
      → (Among self (sought-each k b vs) → FoundAmong k b vs)
      → Among self (sought k b v) ⊎ Among self (sought-each k b vs) → FoundAmong k b (more v vs)
  in-either k b v vs first others (inl m) = record { one = v; is_one = inl refl; there = first m }
  in-either k b v vs first others (inr m) =
      let e = others m in
      record { one = e.one; is_one = inr e.is_one; there = e.there }

  mutual
    found-in : (k : DataType) (b : Base) (v : Value) → Among self (sought k b v) → Found k b v
    found-in k b (leaf a) m = found-leaf k b a m
    found-in k b (reference y) m = found-alone k b (reference y) tt m
    found-in k b (typed n v) m =
        let f = found-in (named n) (base d (named n)) v m in
        record {
          found = f.found;
          its_base = f.its_base;
          value = f.value;
          stands = laws.in_typed f.stands;
          plain = f.plain;
          is_of_type = f.is_of_type;
          worth = f.worth;
        }
    found-in k b (sequence vs) m =
        in-sequence k b vs (found-each (element_in k (base d k)) (element s d b) vs)
        (among-either self (alone k b (sequence vs)) (sought-each (element_in k (base d k)) (element s d b) vs) m)
    found-in k b (bag vs) m =
        in-bag k b vs (found-each (element_in k (base d k)) (element s d b) vs)
        (among-either self (alone k b (bag vs)) (sought-each (element_in k (base d k)) (element s d b) vs) m)

    found-each : (k : DataType) (b : Base) (vs : Values) → Among self (sought-each k b vs) → FoundAmong k b vs
    found-each k b none m = elim m [ ]
    found-each k b (more v vs) m =
        in-either k b v vs (found-in k b v) (found-each k b vs)
        (among-either self (sought k b v) (sought-each k b vs) m)

  -- what stands in a list stands in the list of all
  within : (k : DataType) (b : Base) (v : Value) (vs : Values) → IsElement v vs → Among self (sought k b v)
      → Among self (sought-each k b vs)
  within k b v none e m = elim e [ ]
  within k b v (more w vs) (inl e) m =
      among-left self (sought k b w) (sought-each k b vs) (subst (λ u. Among self (sought k b u)) e m)
  within k b v (more w vs) (inr e) m = among-right self (sought k b w) (sought-each k b vs) (within k b v vs e m)

  is-alone : (k : DataType) (b : Base) (v : Value) → is_of s d en attributes t k ≡ true → self ≡ datum s d b v
      → Among self (alone k b v)
  is-alone k b v h e = one-of (is_of s d en attributes t k) (datum s d b v) self h e

  is-there : (k : DataType) (b : Base) (v : Value) → IsPlain v → is_of s d en attributes t k ≡ true
      → self ≡ datum s d b v → Among self (sought k b v)
  is-there k b (leaf leaves.unset) plain h e = elim plain [ ]
  is-there k b (leaf leaves.derived) plain h e = elim plain [ ]
  is-there k b (leaf (leaves.number z)) plain h e = is-alone k b (leaf (leaves.number z)) h e
  is-there k b (leaf (leaves.text z)) plain h e = is-alone k b (leaf (leaves.text z)) h e
  is-there k b (leaf (leaves.bits z)) plain h e = is-alone k b (leaf (leaves.bits z)) h e
  is-there k b (leaf (leaves.element z)) plain h e = is-alone k b (leaf (leaves.element z)) h e
  is-there k b (reference y) plain h e = is-alone k b (reference y) h e
  is-there k b (typed n v) plain h e = elim plain [ ]
  is-there k b (sequence vs) plain h e =
      among-left self (alone k b (sequence vs)) (sought-each (element_in k (base d k)) (element s d b) vs)
      (is-alone k b (sequence vs) h e)
  is-there k b (bag vs) plain h e =
      among-left self (alone k b (bag vs)) (sought-each (element_in k (base d k)) (element s d b) vs)
      (is-alone k b (bag vs) h e)

  stands-there : {k j : DataType} {b c : Base} {v w : Value} → StandsIn s d k b v j c w → IsPlain w
      → is_of s d en attributes t j ≡ true → self ≡ datum s d c w → Among self (sought k b v)
  stands-there {k} {b = b} {v = v} laws.itself plain h e = is-there k b v plain h e
  stands-there (laws.in_typed inner) plain h e = stands-there inner plain h e
  stands-there {k} {b = b} {v = sequence vs} (laws.in_list {v = v} one inner) plain h e =
      among-right self (alone k b (sequence vs)) (sought-each (element_in k (base d k)) (element s d b) vs)
      (within (element_in k (base d k)) (element s d b) v vs one (stands-there inner plain h e))
  stands-there {k} {b = b} {v = bag vs} (laws.in_bag {v = v} one inner) plain h e =
      among-right self (alone k b (bag vs)) (sought-each (element_in k (base d k)) (element s d b) vs)
      (within (element_in k (base d k)) (element s d b) v vs one (stands-there inner plain h e))

  module _ (x : Instance) where
    forth : Among self (selves s d en attributes x (of_type t)) → IsOfType s d en attributes t x self
    forth m =
        let (slot, is, there) = from-flat (in_slot s d en attributes t x.types) self x.slots m in
        let sought-by : DataType → List Datum = λ (k : DataType). sought k (first_declared s d en slot.place) slot.value in
        let (k, declared, those) = from-flat sought-by self (data_types s en x.types slot.place) there in
        let f = found-in k (first_declared s d en slot.place) slot.value those in
        record {
          slot = slot;
          is_slot = is;
          declared = k;
          is_declared = declared;
          found = f.found;
          its_base = f.its_base;
          value = f.value;
          stands = f.stands;
          plain = f.plain;
          is_of_type = f.is_of_type;
          worth = f.worth;
        }

    back : IsOfType s d en attributes t x self → Among self (selves s d en attributes x (of_type t))
    back f =
        let slot = f.slot in
        let sought-by : DataType → List Datum = λ (k : DataType). sought k (first_declared s d en slot.place) slot.value in
        among-flat (in_slot s d en attributes t x.types) slot self x.slots f.is_slot
        (among-flat sought-by f.declared self (data_types s en x.types slot.place) f.is_declared
        (stands-there f.stands f.plain f.is_of_type f.worth))

pub rules_of_types_are_tried_for_their_values : RulesOfTypesAreTriedForTheirValues
rules_of_types_are_tried_for_their_values s d en attributes t x self =
    (forth s d en attributes t self x, back s d en attributes t self x)
