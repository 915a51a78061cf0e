-- The rules of a schema leave no choice.
use Rattle.std.specs.Prelude.{◌≡◌, ℕ, ◌&&◌, Bool, IsTrue, true, false, cond, List, [], ◌∷◌, map, filter, flat_map, Option, Some, None, ◌↔◌}
use Rattle.std.specs.List.{list_any, list_all}
use Rattle.std.proofs.Common.{refl, sym, ◌∙◌, ap, subst, inl, inr}
use Rattle.std.proofs.lemmas.Bool.{and_from, and_parts, and_right}
use Rattle.step_values.specs.Values.{Value, Values}
use Rattle.step_values.specs.AgreementTests.{same_test}
use Rattle.express_syntax.specs.Schemas.{Schema, Entity, own, Inverse}
use Rattle.schema_semantics.specs.Names.{Name, OneOf, Among, listed, entities}
use Rattle.schema_semantics.specs.Faults.{IsResolved}
use Rattle.schema_semantics.specs.Attributes.{Place}
use Rattle.schema_semantics.proofs.Lists.{from-map, from-flat}
use Rattle.schema_semantics.proofs.Nearest.{inverted-are-one}
use Rattle.conformance.specs.Bases.{Domain}
use Rattle.conformance.specs.ParameterFits.{is_listed}
use Rattle.conformance.specs.Populations.{Slot, Instance, slot_at, types_at}
use Rattle.conformance.specs.Rules.{UniqueRule, Gathering, InverseAttribute, UniquenessStatement, statements, IsUniqueRule, is_own, declared_inverses, IsInverseAttribute, InTurn}
use Rattle.conformance.specs.Referrers.{inverse_of}
use Rattle.conformance.specs.RuleFindings.{given, with_part, parts, key, same_keys, repeats, breaches_of_unique, inverse_findings}
use Rattle.conformance.specs.Pins.{OccursAt, IsInKey, IsInverseSide}
use Rattle.conformance.specs.RuleLaws.{RulesAreOne}
use Rattle.conformance.proofs.Standing.{either, some_other, one_is, found}

-- keys, as a test at each place
abbrev same_part : Option Value → Option Value → Bool
same_part (Some v) (Some w) = same_test v w
same_part v w = false

abbrev same_at : List Slot → List Slot → Place → Bool
same_at xs zs p = same_part (given (slot_at xs p)) (given (slot_at zs p))

joined : (v w : Option Value) (vs ws : Option Values)
    → same_keys (with_part v vs) (with_part w ws) ≡ (same_part v w && same_keys vs ws)
joined (Some v) (Some w) (Some vs) (Some ws) = refl
joined (Some v) (Some w) (Some vs) None = sym (and_right (same_test v w) false refl)
joined (Some v) (Some w) None ws = sym (and_right (same_test v w) false refl)
joined (Some v) None (Some vs) ws = refl
joined (Some v) None None ws = refl
joined None w vs ws = refl

at_each : (xs zs : List Slot) (ps : List Place) → same_keys (parts ps xs) (parts ps zs) ≡ list_all (same_at xs zs) ps
at_each xs zs [] = refl
at_each xs zs (p ∷ ps) =
    joined (given (slot_at xs p)) (given (slot_at zs p)) (parts ps xs) (parts ps zs)
    ∙ ap (λ b. same_at xs zs p && b) (at_each xs zs ps)

-- a test of all of a list, and what stands in it
all_at : (f : Place → Bool) (ps : List Place) → list_all f ps ≡ true → (p : Place) → Among p ps → f p ≡ true
all_at f [] h p m = elim m [ ]
all_at f (q ∷ ps) h p (inl e) = subst (λ r. f r ≡ true) e (and_parts (f q) (list_all f ps) h).0
all_at f (q ∷ ps) h p (inr m) = all_at f ps (and_parts (f q) (list_all f ps) h).1 p m

at_all : (f : Place → Bool) (ps : List Place) → ((p : Place) → Among p ps → f p ≡ true) → list_all f ps ≡ true
at_all f [] h = refl
at_all f (q ∷ ps) h = and_from (f q) (list_all f ps) (h q (inl refl)) (at_all f ps (λ p m. h p (inr m)))

one_truth : (b c : Bool) → (b ≡ true → c ≡ true) → (c ≡ true → b ≡ true) → b ≡ c
one_truth true c f g = sym (f refl)
one_truth false true f g = g refl
one_truth false false f g = refl

same_all : (f : Place → Bool) (ps qs : List Place) → ((p : Place) → Among p ps ↔ Among p qs)
    → list_all f ps ≡ list_all f qs
same_all f ps qs h =
    one_truth (list_all f ps) (list_all f qs)
    (λ t. at_all f qs (λ p m. all_at f ps t p ((h p).1 m)))
    (λ t. at_all f ps (λ p m. all_at f qs t p ((h p).0 m)))

-- two rules that are written so
module _ (s : Schema) (x : UniquenessStatement) (u v : UniqueRule) (h : IsUniqueRule s x u) (k : IsUniqueRule s x v) where
  one_entity : u.entity ≡ v.entity
  one_entity = h.entity ∙ sym k.entity

  one_label : u.label ≡ v.label
  one_label = h.label ∙ sym k.label

  one_check : u.is_checked ≡ v.is_checked
  one_check = one_truth u.is_checked v.is_checked (λ t. k.checked.1 (h.checked.0 t)) (λ t. h.checked.1 (k.checked.0 t))

  one_places : (p : Place) → Among p u.places ↔ Among p v.places
  one_places p = ((λ m. (k.places p).1 ((h.places p).0 m)), λ m. (h.places p).1 ((k.places p).0 m))

  same_key : (i j : Instance) → same_keys (key u i) (key u j) ≡ same_keys (key v i) (key v j)
  same_key i j =
      by (is_listed u.entity i.types) (is_listed v.entity i.types) (is_listed u.entity j.types) (is_listed v.entity j.types)
      (ap (λ n. is_listed n i.types) one_entity) (ap (λ n. is_listed n j.types) one_entity)
    where
      named : same_keys (parts u.places i.slots) (parts u.places j.slots)
          ≡ same_keys (parts v.places i.slots) (parts v.places j.slots)
      named =
          at_each i.slots j.slots u.places ∙ same_all (same_at i.slots j.slots) u.places v.places one_places
          ∙ sym (at_each i.slots j.slots v.places)

      unkeyed : (o : Option Values) → same_keys o None ≡ false
      unkeyed None = refl
      unkeyed (Some vs) = refl

      by : (a b c e : Bool) → a ≡ b → c ≡ e
          → same_keys (cond a (parts u.places i.slots) None) (cond c (parts u.places j.slots) None)
          ≡ same_keys (cond b (parts v.places i.slots) None) (cond e (parts v.places j.slots) None)
      by true true true true p q = named
      by true true false false p q = unkeyed (parts u.places i.slots) ∙ sym (unkeyed (parts v.places i.slots))
      by false false c e p q = refl
      by true false c e p q = absurd (cc)
      by false true c e p q = absurd (cc)
      by true true true false p q = absurd (cc)
      by true true false true p q = absurd (cc)

  one_shared : (i : Instance) (before : List Instance)
      → list_any (λ z. same_keys (key u i) (key u z)) before ≡ list_any (λ z. same_keys (key v i) (key v z)) before
  one_shared i [] = refl
  one_shared i (j ∷ before) = rw (same_key i j, one_shared i before) refl

  one_repeats : (before xs : List Instance) → repeats u before xs ≡ repeats v before xs
  one_repeats before [] = refl
  one_repeats before (i ∷ xs) = rw (one_shared i before, one_repeats (i ∷ before) xs) refl

  one_breaches : (is : List Instance) → breaches_of_unique is u ≡ breaches_of_unique is v
  one_breaches is = rw (one_repeats [] is, one_entity, one_label, one_check) refl

  in_one_key : (is : List Instance) (y : ℕ) → IsInKey is y u → IsInKey is y v
  in_one_key is y h = either (subst Extent one_entity) (some_other inside is) h
    where
      Extent : Name → Type 0
      Extent n = IsTrue (is_listed n (types_at is y))

      stands : (i : Instance) → OneOf (λ (p : Place). OccursAt y (slot_at i.slots p)) u.places
          → OneOf (λ (p : Place). OccursAt y (slot_at i.slots p)) v.places
      stands i g =
          let at = found (λ (p : Place). OccursAt y (slot_at i.slots p)) u.places g in
          one_is (λ (p : Place). OccursAt y (slot_at i.slots p)) at.0 v.places ((one_places at.0).0 at.1) at.2

      inside : (i : Instance)
          → IsTrue (is_listed u.entity i.types) × OneOf (λ (p : Place). OccursAt y (slot_at i.slots p)) u.places
          → IsTrue (is_listed v.entity i.types) × OneOf (λ (p : Place). OccursAt y (slot_at i.slots p)) v.places
      inside i g = (subst (λ n. IsTrue (is_listed n i.types)) one_entity g.0, stands i g.1)

module _ (s : Schema) where
  all_breaches : (is : List Instance) (xs : List UniquenessStatement) (us vs : List UniqueRule) → InTurn (IsUniqueRule s) xs us
      → InTurn (IsUniqueRule s) xs vs → flat_map (breaches_of_unique is) us ≡ flat_map (breaches_of_unique is) vs
  all_breaches is [] [] [] h k = refl
  all_breaches is [] [] (v ∷ vs) h k = elim k [ ]
  all_breaches is [] (u ∷ us) vs h k = elim h [ ]
  all_breaches is (x ∷ xs) [] vs h k = elim h [ ]
  all_breaches is (x ∷ xs) (u ∷ us) [] h k = elim k [ ]
  all_breaches is (x ∷ xs) (u ∷ us) (v ∷ vs) h k =
      rw (one_breaches s x u v h.0 k.0 is, all_breaches is xs us vs h.1 k.1) refl

  in_all_keys : (is : List Instance) (y : ℕ) (xs : List UniquenessStatement) (us vs : List UniqueRule)
      → InTurn (IsUniqueRule s) xs us → InTurn (IsUniqueRule s) xs vs → OneOf (IsInKey is y) us
      → OneOf (IsInKey is y) vs
  in_all_keys is y xs [] vs h k g = elim g [ ]
  in_all_keys is y [] (u ∷ us) vs h k g = elim h [ ]
  in_all_keys is y (x ∷ xs) (u ∷ us) [] h k g = elim k [ ]
  in_all_keys is y (x ∷ xs) (u ∷ us) (v ∷ vs) h k (inl g) = inl (in_one_key s x u v h.0 k.0 is y g)
  in_all_keys is y (x ∷ xs) (u ∷ us) (v ∷ vs) h k (inr g) = inr (in_all_keys is y xs us vs h.1 k.1 g)

-- inverse attributes
own_is : (a b : Name) → own a ≡ own b → a ≡ b
own_is a b e = cc

same_fields : (e f n m r q : Name) (g c : Gathering) (p a : Place) → e ≡ f → n ≡ m → g ≡ c → r ≡ q → p ≡ a
    → ◌≡◌ {A = InverseAttribute} (record { entity = e; name = n; gathering = g; referrer = r; inverted = p })
    (record { entity = f; name = m; gathering = c; referrer = q; inverted = a })
same_fields e f n m r q g c p a h i j k l = rw (h, i, j, k, l) refl

kept : {A : Type 0} (f : A → Bool) (x : A) (xs : List A) → Among x (filter f xs) → Among x xs
kept f x [] m = m
kept {A} f x (y ∷ ys) m = by (f y) (kept f x ys) m
  where
    by : (b : Bool) → (Among x (filter f ys) → Among x ys) → Among x (cond b (y ∷ filter f ys) (filter f ys))
        → Among x (y ∷ ys)
    by true rest = either (λ e. e) rest
    by false rest = λ n. inr (rest n)

module _ (s : Schema) (d : Domain) (resolved : IsResolved s) where
  abbrev own_of : Entity → List (Name × Inverse)
  own_of e = map (λ (i : Inverse). (e.name, i)) (filter (λ (i : Inverse). is_own i.attribute) (listed e.inverses))

  one_inverse : (x : Name × Inverse) → Among x (declared_inverses s) → (i j : InverseAttribute)
      → IsInverseAttribute s d x i → IsInverseAttribute s d x j → i ≡ j
  one_inverse x m i j h k =
      let by = from-flat own_of x (entities s) m in
      let at = from-map (λ (y : Inverse). (by.0.name, y)) (filter (λ (y : Inverse). is_own y.attribute)
      (listed by.0.inverses)) x by.2 in
      let same : at.0 ≡ x.1 = ap (λ (y : Name × Inverse). y.1) at.2 in
      let stands : Among x.1 (listed by.0.inverses) =
      subst (λ y. Among y (listed by.0.inverses)) same
      (kept (λ (y : Inverse). is_own y.attribute) at.0 (listed by.0.inverses) at.1) in
      let one = inverted-are-one s by.0 x.1 i.name resolved by.1 stands h.name in
      let holder : i.inverted.0 ≡ j.inverted.0 = one.2 i.inverted.0 h.holder ∙ sym (one.2 j.inverted.0 k.holder) in
      let attribute : i.inverted.1 ≡ j.inverted.1 = h.attribute ∙ sym k.attribute in
      same_fields i.entity j.entity i.name j.name i.referrer j.referrer i.gathering j.gathering i.inverted j.inverted
      (h.entity ∙ sym k.entity) (own_is i.name j.name (sym h.name ∙ k.name)) (h.gathering ∙ sym k.gathering)
      (h.referrer ∙ sym k.referrer)
      (subst (λ a. i.inverted ≡ (j.inverted.0, a)) attribute (subst (λ n. i.inverted ≡ (n, i.inverted.1)) holder refl))

  one_inverses : (xs : List (Name × Inverse)) → ((x : Name × Inverse) → Among x xs → Among x (declared_inverses s))
      → (is js : List InverseAttribute) → InTurn (IsInverseAttribute s d) xs is → InTurn (IsInverseAttribute s d) xs js
      → is ≡ js
  one_inverses [] f [] [] h k = refl
  one_inverses [] f [] (j ∷ js) h k = elim k [ ]
  one_inverses [] f (i ∷ is) js h k = elim h [ ]
  one_inverses (x ∷ xs) f [] js h k = elim h [ ]
  one_inverses (x ∷ xs) f (i ∷ is) [] h k = elim k [ ]
  one_inverses (x ∷ xs) f (i ∷ is) (j ∷ js) h k =
      rw (one_inverse x (f x (inl refl)) i j h.0 k.0, one_inverses xs (λ y m. f y (inr m)) is js h.1 k.1) refl

pub rules_are_one : RulesAreOne
rules_are_one s d en p q resolved h k is = (
  same,
  all_breaches s is (statements s) p.uniques q.uniques h.uniques k.uniques,
  ap (λ inverses. inverse_findings (record { uniques = q.uniques; inverses = inverses }) is) same,
  λ y a. ap (λ inverses. inverse_of inverses is y a) same,
  λ chosen y. either (λ l. l) (either (λ b. b) (either
      (in_all_keys s is y (statements s) p.uniques q.uniques h.uniques k.uniques)
      (subst (OneOf (IsInverseSide is y)) same))),
)
  where
    same : p.inverses ≡ q.inverses
    same = one_inverses s d resolved (declared_inverses s) (λ x m. m) p.inverses q.inverses h.inverses k.inverses
