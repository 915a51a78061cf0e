-- Where the values of explicit and of inverse attributes are found.
use Rattle.std.specs.Prelude.{◌≡◌, ℕ, suc, ◌<◌, Bool, true, false, List, [], ◌∷◌, ◌++◌, Option, None, Some, map, filter, slice_get, eqb, bytes_eq, ◌⊎◌, cond}
use Rattle.std.specs.List.{find, position_from}
use Rattle.std.proofs.Common.{refl, inl, inr, ap, sym, subst, ◌∙◌, arith}
use Rattle.std.proofs.lemmas.Bool.Decides.{nat_tests}
use Rattle.std.proofs.lemmas.Slice.Eq.{bytes_eq-Decides}
use Rattle.step_literals.specs.declared.literal.Word.{Word}
use Rattle.graphs.specs.Graphs.{Graph, has, next}
use Rattle.express_syntax.specs.ExpressionViews.{capitals}
use Rattle.express_syntax.specs.Schemas.{Schema, Entity, Attribute, own, redeclared, Inverse, Derived}
use Rattle.express_syntax.specs.Profile.{Every}
use Rattle.schema_semantics.specs.Names.{Name, Among, IsEntity, DeclaresExplicit, Declares, explicit_names, derived_names, inverse_names, own_names, entities, listed}
use Rattle.schema_semantics.specs.Faults.{IsResolved}
use Rattle.schema_semantics.specs.Attributes.{Place, IsNth}
use Rattle.schema_semantics.proofs.Lists.{among-either, among-map, among-flat, every-at}
use Rattle.schema_semantics.proofs.Placed.{is-same, same-itself, explicit-have-places}
use Rattle.schema_semantics.proofs.Climbing.{places-are-explicit}
use Rattle.schema_semantics.proofs.Supertypes.{entity-name}
use Rattle.schema_names.specs.Numbers.{number_of, HasNumber, AreAt}
use Rattle.schema_names.proofs.Items.{front-at, back-at, mapped-at}
use Rattle.schema_explicit_attributes.specs.Places.{all_places, HavePlaces}
use Rattle.schema_explicit_attributes.proofs.Distinct.{at-among}
use Rattle.conformance.specs.Bases.{Domain}
use Rattle.conformance.specs.Rules.{InverseAttribute, IsInverseAttribute, InTurn, declared_inverses, is_own}
use Rattle.schema_underlying_types.specs.BaseViews.{name_at}
use Rattle.schema_constraints.specs.RuleViews.{place_at, or_nowhere, inverse_seen, IsNumberedInverse}
use Rattle.schema_constraints.specs.declared.inverses.InverseAttribute.{InverseAttribute as InverseRow}
use Rattle.conformance.specs.Attributes.{Source, explicit, derived, inverse, unclear, IsInverse, DerivesIt, IsSource, IsUnderived}
use Rattle.schema_constraints.specs.steps.Ordered.{is_place}
use Rattle.schema_attribute_sources.specs.StoredAttributes.{is_inverse, HasTest, IsOwnPlace, DeclaresInverse, IsStored, IsStoredAt, AreInverses}
use Rattle.schema_attribute_sources.proofs.Members.{both, both-so, has-first, has-later, has-split, none-found, one-found, one-number}
use Rattle.schema_attribute_sources.proofs.Positions.{first-found, none-there, Decides}
use Rattle.schema_attribute_sources.proofs.Apart.{first-alone, one-inverse}

-- what stands at the numbers of a row
in-row : (all : List Place) (row : List ℕ) (ps : List Place) (q : ℕ) → AreAt all row ps → has row q ≡ true
    → (p : Place) × Among p ps × (slice_get all q ≡ Some p)
in-row all [] ps q h k = absurd (cc)
in-row all (x ∷ row) [] q h k = absurd (cc)
in-row all (x ∷ row) (p ∷ ps) q h k = by (has-split x q row k) (in-row all row ps q (back-at all x row p ps h))
  where
    by : (q ≡ x) ⊎ (has row q ≡ true)
        → (has row q ≡ true → (r : Place) × Among r ps × (slice_get all q ≡ Some r))
        → (r : Place) × Among r (p ∷ ps) × (slice_get all q ≡ Some r)
    by (inl is) more = (p, inl refl, ap (slice_get all) is ∙ front-at all x row p ps h)
    by (inr m) more = let (r, k, at) = more m in (r, inr k, at)

at-row : (all : List Place) (row : List ℕ) (ps : List Place) (p : Place) → AreAt all row ps → Among p ps
    → (q : ℕ) × (has row q ≡ true) × (slice_get all q ≡ Some p)
at-row all row [] p h m = elim m [ ]
at-row all [] (r ∷ ps) p h m = absurd (cc)
at-row all (x ∷ row) (r ∷ ps) p h (inl e) = (x, has-first x row, front-at all x row r ps h ∙ ap Some e)
at-row all (x ∷ row) (r ∷ ps) p h (inr m) =
    let (q, k, at) = at-row all row ps p (back-at all x row r ps h) m in (q, has-later x q row k, at)

some-place : (q p : Place) → Some q ≡ Some p → q ≡ p
some-place q p e = cc

module _ (s : Schema) (r : IsResolved s) (rows : Graph) (h : HavePlaces s rows) (p a : Name) (i : ℕ)
    (ent : IsEntity s p) (k : HasNumber s p i) where
  test : ℕ → Bool
  test = λ (q : ℕ). is_place (p, a) (slice_get (all_places s) q)

  passing : (q : ℕ) (o : Option Place) → is_place (p, a) o ≡ true → o ≡ Some (p, a)
  passing q None t = absurd (cc)
  passing q (Some x) t = ap Some (is-same x (p, a) t)

  some-own : (q : ℕ) → find test (next rows i) ≡ Some q → IsOwnPlace s (p, a) (Some q)
  unfolding test
  some-own q e =
      let (ps, are, at) = h p i ent k in
      let (m, t) = one-found test (next rows i) q e in
      let here = passing q (slice_get (all_places s) q) t in
      let (x, among, there) = in-row (all_places s) (next rows i) ps q at m in
      let same : x ≡ (p, a) = some-place x (p, a) (sym there ∙ here) in
      ((places-are-explicit s p ps p a r are (subst (λ y. Among y ps) same among)).1, here)

  none-own : find test (next rows i) ≡ None → DeclaresExplicit s p a → ⊥
  unfolding test
  none-own e d =
      let (ps, are, at) = h p i ent k in
      let (q, m, here) = at-row (all_places s) (next rows i) ps (p, a) at
      (explicit-have-places s p ps p a are (inl refl) d) in
      let fails = none-found test (next rows i) e q m in
      let passes : test q ≡ true = ap (is_place (p, a)) here ∙ same-itself (p, a) in
      absurd (cc)

  pub own-place : (o : Option ℕ) → o ≡ find (λ (q : ℕ). is_place (p, a) (slice_get (all_places s) q)) (next rows i)
      → IsOwnPlace s (p, a) o
  unfolding test
  own-place None e = none-own (sym e)
  own-place (Some q) e = some-own q (sym e)

-- the place of a number
pub place-there : (s : Schema) (q : ℕ) (p : Place) → slice_get (all_places s) q ≡ Some p → place_at s q ≡ p
place-there s q p at = ap or_nowhere at

-- items that are in turn
in-turn : {A B : Type 0} (R : A → B → Type 0) (xs : List A) (ys : List B) (x : A) → InTurn R xs ys → Among x xs
    → (y : B) × Among y ys × R x y
in-turn R [] ys x h m = elim m [ ]
in-turn R (z ∷ xs) [] x h m = absurd h
in-turn {A} {B} R (z ∷ xs) (y ∷ ys) x h (inl e) = (y, inl refl, subst (λ (w : A). R w y) e h.0)
in-turn R (z ∷ xs) (y ∷ ys) x h (inr m) = let (w, k, l) = in-turn R xs ys x h.1 m in (w, inr k, l)

-- an own attribute of a name is one of these
abbrev HasNamed : Name → List Inverse → Type 0
HasNamed a ys = (i : Inverse) × Among i ys × (i.attribute ≡ own a)

named-own : (xs : List Inverse) (a : Name) → Among a (own_names (map (λ (i : Inverse). i.attribute) xs))
    → (i : Inverse) × Among i (filter (λ (i : Inverse). is_own i.attribute) xs) × (i.attribute ≡ own a)
named-own [] a m = elim m [ ]
named-own (x ∷ xs) a m = by x.attribute refl m (named-own xs a)
  where
    by : (t : Attribute) → x.attribute ≡ t → Among a (own_names (t ∷ map (λ (i : Inverse). i.attribute) xs))
        → (Among a (own_names (map (λ (i : Inverse). i.attribute) xs))
        → HasNamed a (filter (λ (i : Inverse). is_own i.attribute) xs))
        → HasNamed a (filter (λ (i : Inverse). is_own i.attribute) (x ∷ xs))
    by (own n) is (inl e) more =
        let yes : is_own x.attribute ≡ true = ap is_own is in
        subst (λ b. HasNamed a (cond b (x ∷ filter (λ (i : Inverse). is_own i.attribute) xs)
        (filter (λ (i : Inverse). is_own i.attribute) xs))) (sym yes) (x, inl refl, is ∙ ap own e)
    by (own n) is (inr m) more =
        let yes : is_own x.attribute ≡ true = ap is_own is in
        let (i, k, e) = more m in
        subst (λ b. HasNamed a (cond b (x ∷ filter (λ (i : Inverse). is_own i.attribute) xs)
        (filter (λ (i : Inverse). is_own i.attribute) xs))) (sym yes) (i, inr k, e)
    by (redeclared q n) is m more =
        let no : is_own x.attribute ≡ false = ap is_own is in
        subst (λ b. HasNamed a (cond b (x ∷ filter (λ (i : Inverse). is_own i.attribute) xs)
        (filter (λ (i : Inverse). is_own i.attribute) xs))) (sym no) (more m)

own-is : (n a : Name) → own n ≡ own a → n ≡ a
own-is n a e = cc

-- the inverse attributes of the schema have each that is declared
declared-there : (s : Schema) (d : Domain) (is : List InverseAttribute) (p a : Name)
    → InTurn (IsInverseAttribute s d) (declared_inverses s) is → DeclaresInverse s p a
    → (i : InverseAttribute) × Among i is × ((i.entity ≡ p) × (i.name ≡ a))
declared-there s d is p a h (e, at, m) =
    let (i, k, named) = named-own (listed e.inverses) a m in
    let (known, called) = entity-name s p e at in
    let (j, there, l) = in-turn (IsInverseAttribute s d) (declared_inverses s) is (e.name, i) h
    (among-flat (λ (x : Entity). map (λ (y : Inverse). (x.name, y))
    (filter (λ (y : Inverse). is_own y.attribute) (listed x.inverses))) e (e.name, i) (entities s) known
    (among-map (λ (y : Inverse). (e.name, y)) i (filter (λ (y : Inverse). is_own y.attribute) (listed e.inverses)) k)) in
    (j, there, (l.entity ∙ called, own-is j.name a (sym l.name ∙ named)))

module _ (s : Schema) (p a : Name) (i : ℕ) (k : HasNumber s p i) (is : p ≡ name_at s i) where
  IsIt : InverseAttribute → Type 0
  IsIt j = (j.entity ≡ p) × (j.name ≡ a)

  decides : (x : InverseRow) → IsNumberedInverse s x → Decides (inverse_seen s) (is_inverse i a) IsIt x
  unfolding IsIt
  decides x n = (forth, back)
    where
      forth : is_inverse i a x ≡ true → (name_at s x.entity ≡ p) × (capitals x.name ≡ a)
      forth t =
          let (e, m) = both (eqb x.entity i) (bytes_eq (capitals x.name) a) t in
          let same : x.entity ≡ i = grind (arith, nat_tests) in
          (ap (name_at s) same ∙ sym is, (bytes_eq-Decides (capitals x.name) a).0 m)

      back : (name_at s x.entity ≡ p) × (capitals x.name ≡ a) → is_inverse i a x ≡ true
      back (e, m) =
          let same : x.entity ≡ i = one-number (number_of s) (name_at s x.entity) p x.entity i n.entity k e in
          let test : eqb x.entity i ≡ true = grind (arith, nat_tests) in
          both-so (eqb x.entity i) (bytes_eq (capitals x.name) a) test ((bytes_eq-Decides (capitals x.name) a).1 m)

  decide-each : (xs : List InverseRow) → Every (IsNumberedInverse s) xs
      → Every (Decides (inverse_seen s) (is_inverse i a) IsIt) xs
  decide-each [] h = tt
  decide-each (x ∷ xs) h = (decides x h.0, decide-each xs h.1)

  module _ (rows : List InverseRow) (h : AreInverses s rows) where
    pub inverse-found : (n : ℕ) → position_from (is_inverse i a) 0 rows ≡ Some n
        → (y : InverseAttribute) × (slice_get (map (inverse_seen s) rows) n ≡ Some y)
        × IsInverse s (map (inverse_seen s) rows) p a y
    unfolding IsIt
    inverse-found n e =
        let (j, counted, y, at, first) =
        first-found (inverse_seen s) (is_inverse i a) IsIt 0 rows n (decide-each rows h.numbered) e in
        let same : j ≡ n = omega (arith, counted) in
        (y, subst (λ x. slice_get (map (inverse_seen s) rows) x ≡ Some y) same at, first)

    -- one that passes the test is the first
    pub inverse-tested : IsResolved s → (n : ℕ) → HasTest (is_inverse i a) rows n
        → (y : InverseAttribute) × (slice_get (map (inverse_seen s) rows) n ≡ Some y)
        × IsInverse s (map (inverse_seen s) rows) p a y
    unfolding IsIt
    inverse-tested r n (x, at, t) =
        let there = mapped-at (inverse_seen s) rows n x at in
        let it = (decides x (every-at (IsNumberedInverse s) x rows h.numbered (at-among rows n x at))).0 t in
        let (domain, turns) = h.declared in (
          inverse_seen s x,
          there,
          first-alone (λ (j : InverseAttribute). (j.entity ≡ p) × (j.name ≡ a)) (map (inverse_seen s) rows) n
              (inverse_seen s x) there it (λ m z here q. one-inverse s domain r (map (inverse_seen s) rows) turns m n z
              (inverse_seen s x) here there (q.0 ∙ sym it.0) (q.1 ∙ sym it.1)),
        )

    pub inverse-there : DeclaresInverse s p a → position_from (is_inverse i a) 0 rows ≡ None → ⊥
    unfolding IsIt
    inverse-there d e =
        let (domain, turns) = h.declared in
        let (y, m, it) = declared-there s domain (map (inverse_seen s) rows) p a turns d in
        none-there (inverse_seen s) (is_inverse i a) IsIt 0 rows (decide-each rows h.numbered) e y m it

-- What is declared and isn't derived there is stored.
nth-own : (xs : List Derived) (a : Name) → Among a (own_names (map (λ (d : Derived). d.attribute) xs))
    → (n : ℕ) × (d : Derived) × IsNth xs n d × (d.attribute ≡ own a)
nth-own [] a m = elim m [ ]
nth-own (x ∷ xs) a m = by x.attribute refl m (nth-own xs a)
  where
    by : (t : Attribute) → x.attribute ≡ t → Among a (own_names (t ∷ map (λ (d : Derived). d.attribute) xs))
        → (Among a (own_names (map (λ (d : Derived). d.attribute) xs))
        → (n : ℕ) × (d : Derived) × IsNth xs n d × (d.attribute ≡ own a))
        → (n : ℕ) × (d : Derived) × IsNth (x ∷ xs) n d × (d.attribute ≡ own a)
    by (own n) is (inl e) more = (0, x, refl, is ∙ ap own e)
    by (own n) is (inr m) more = let (i, d, at, e) = more m in (suc i, d, at, e)
    by (redeclared q n) is m more = let (i, d, at, e) = more m in (suc i, d, at, e)

pub is-stored : (s : Schema) (p a : Name) → Declares s p a → (DerivesIt s p a p → ⊥) → IsStored s p a
is-stored s p a (e, at, m) free = which (among-either a (explicit_names e ++ derived_names e) (inverse_names e) m)
  where
    front : Among a (explicit_names e) ⊎ Among a (derived_names e) → IsStored s p a
    front (inl k) = inl (e, at, k)
    front (inr k) =
        let (n, d, nth, named) = nth-own (listed e.derived) a k in
        absurd (free (n, (d, (e, at, nth), inl (named, refl))))

    which : Among a (explicit_names e ++ derived_names e) ⊎ Among a (inverse_names e) → IsStored s p a
    which (inl k) = front (among-either a (explicit_names e) (derived_names e) k)
    which (inr k) = inr (e, at, k)

pub stored-source : (s : Schema) (inverses : List InverseAttribute) (types : List Name) (p a : Name) (x : Source)
    → IsStoredAt s inverses p a x → IsUnderived s types p a → IsSource s inverses types p a x
stored-source s inverses types p a (explicit q) h free = (h.0, h.1, free)
stored-source s inverses types p a (derived d) h free = absurd h
stored-source s inverses types p a (inverse i) h free = (h.0, h.1, free)
stored-source s inverses types p a unclear h free = absurd h

pub word-is : (w : Word) (n : Name) → Some (capitals w) ≡ Some n → capitals w ≡ n
word-is w n e = cc

pub not-stored : (s : Schema) (p a : Name) → IsStored s p a → (DeclaresExplicit s p a → ⊥)
    → (DeclaresInverse s p a → ⊥) → ⊥
not-stored s p a (inl d) f g = f d
not-stored s p a (inr d) f g = g d
