-- A file that is written anew has the values of the old one, with their references led.
use Rattle.std.specs.Prelude.{◌≡◌, ⊤, ℕ, suc, ◌==◌, not, Bool, true, false, cond, List, [], ◌∷◌, ◌++◌, length, map, flat_map, Some}
use Rattle.std.specs.List.{filter}
use Rattle.std.proofs.Common.{refl, sym, ◌∙◌, ap, subst, inl, inr}
use Rattle.step_literals.specs.Words.{upper}
use Rattle.step_lexer.specs.declared.token.Mark.TheVariants.{Dollar, Asterisk}
use Rattle.step_structures.specs.Words as words
use Rattle.step_structures.specs.Words.{Word}
use Rattle.step_structures.specs.Trees as trees
use Rattle.step_structures.specs.Trees.{Tree, Trees, Record, Form, internal, external, ExchangeRow}
use Rattle.step_values.specs.Leaves as leaves
use Rattle.step_values.specs.Values.{leaf, typed, sequence, bag, Values, more, Agree}
use Rattle.step_values.specs.References.{renamed, renamed_each}
use Rattle.step_values.proofs.Agreement.{same_refl}
use Rattle.express_syntax.specs.Schemas.{Schema, DataType}
use Rattle.express_syntax.specs.Profile.{Every}
use Rattle.schema_semantics.specs.Names.{Name, Among}
use Rattle.schema_semantics.specs.Attributes.{Place}
use Rattle.conformance.specs.Bases.{Base, aggregate, Domain, base}
use Rattle.conformance.specs.ParameterFits.{has_no_order, count, is_entity, entity_names, is_listed, is_star_or_dollar, word_value, inner, base_or_this, gathered, element, value_as, values_as}
use Rattle.conformance.specs.Entities.{Entities, named_entity, records, parameters, joined_trees, own_places_of, types_of, places_of, how_many, has_count, wrong_counts, is_derived, data_types}
use Rattle.conformance.specs.Populations.{Slot, first_base, value_at, slots_of, instance_of}
use Rattle.conformance.specs.ValueSpellings.{WordSpelt, IsSpelt, EachSpelt}
use Rattle.conformance.specs.RecordSpellings.{GivenSpelt, AreSpelt, IsRowSpelt}
use Rattle.conformance.specs.Images.{IsLed}
use Rattle.conformance.specs.RewrittenFiles.{WordLed, TreeLed, TreesLed, RecordLed, RecordsLed, FormLed}

-- the same places, with values that agree with the old ones, each reference led through h
abbrev AreLed : (ℕ → ℕ) → List Slot → List Slot → Type 0
AreLed h [] [] = ⊤
AreLed h (x ∷ xs) (y ∷ ys) = (x.place ≡ y.place) × Agree (◌==◌) (renamed h x.value) y.value × AreLed h xs ys
AreLed h xs ys = ⊥

place_there : (h : ℕ → ℕ) (xs ys : List Slot) → AreLed h xs ys → (x : Slot) → Among x xs
    → Among x.place (map (λ (y : Slot). y.place) ys)
place_there h [] ys e x m = elim m [ ]
place_there h (z ∷ xs) (y ∷ ys) e x (inl same) = inl (sym e.0 ∙ ap (λ (v : Slot). v.place) same)
place_there h (z ∷ xs) (y ∷ ys) e x (inr m) = inr (place_there h xs ys e.2 x m)
place_there h (z ∷ xs) [] e x m = absurd e

value_there : (h : ℕ → ℕ) (xs ys : List Slot) → AreLed h xs ys → (y : Slot) → Among y ys
    → (x : Slot) × Among x xs × (x.place ≡ y.place) × Agree (◌==◌) (renamed h x.value) y.value
value_there h xs [] e y m = elim m [ ]
value_there h (x ∷ xs) (z ∷ ys) e y (inl same) = (
  x,
  inl refl,
  e.0 ∙ ap (λ (v : Slot). v.place) same,
  subst (λ (v : Slot). Agree (◌==◌) (renamed h x.value) v.value) same e.1,
)
value_there h (x ∷ xs) (z ∷ ys) e y (inr m) =
    let rest = value_there h xs ys e.2 y m in (rest.0, inr rest.1, rest.2, rest.3)
value_there h [] (z ∷ ys) e y m = absurd e

module _ (h : ℕ → ℕ) where
  word_led : (w v : Word) → WordLed h w v → word_value v ≡ renamed h (word_value w)
  word_led (words.name y t) v (u, e) = ap word_value e
  word_led (words.element t) v (u, e, same) = ap word_value e ∙ ap (λ n. leaf (leaves.element n)) (sym same)
  word_led (words.mark Asterisk) v e = ap word_value e
  word_led (words.mark Dollar) v e = ap word_value e
  word_led (words.number t) v e = ap word_value e
  word_led (words.string t) v e = ap word_value e
  word_led (words.binary t) v e = ap word_value e
  word_led w v e = ap word_value e

  gathered_led : (b : Base) (vs : Values) → gathered b (renamed_each h vs) ≡ renamed h (gathered b vs)
  gathered_led (aggregate a) vs = go (has_no_order a.collection)
    where
      go : (t : Bool) → cond t (bag (renamed_each h vs)) (sequence (renamed_each h vs))
          ≡ renamed h (cond t (bag vs) (sequence vs))
      go true = refl
      go false = refl
  gathered_led b vs = refl

  word_spelt : (b : Base) (w v : Word) → WordLed h w v → WordSpelt w b → WordSpelt v b
  word_spelt b (words.name y t) v (u, e) f = subst (λ x. WordSpelt x b) (sym e) tt
  word_spelt b (words.element t) v (u, e, same) f = subst (λ x. WordSpelt x b) (sym e) tt
  word_spelt b w v e f = subst (λ x. WordSpelt x b) (sym e) f

  star_led : (x y : Tree) → TreeLed h x y → is_star_or_dollar x ≡ true → is_star_or_dollar y ≡ true
  star_led (trees.leaf (words.mark Dollar)) (trees.leaf v) e f = ap (λ w. is_star_or_dollar (trees.leaf w)) e
  star_led (trees.leaf (words.mark Asterisk)) (trees.leaf v) e f = ap (λ w. is_star_or_dollar (trees.leaf w)) e
  star_led (trees.leaf (words.mark Dollar)) y e f = absurd e
  star_led (trees.leaf (words.mark Asterisk)) y e f = absurd e
  star_led x y e f = absurd (cc)

  count_led : (xs ys : Trees) → TreesLed h xs ys → count xs ≡ count ys
  count_led trees.none trees.none e = refl
  count_led (trees.one x xs) (trees.one y ys) e = ap suc (count_led xs ys e.1)
  count_led xs ys e = absurd e

  joined_led : (xs ys us vs : Trees) → TreesLed h xs ys → TreesLed h us vs → TreesLed h (joined_trees xs us) (joined_trees ys vs)
  joined_led trees.none trees.none us vs e f = f
  joined_led (trees.one x xs) (trees.one y ys) us vs e f = (e.0, joined_led xs ys us vs e.1 f)
  joined_led xs ys us vs e f = absurd e

  parameters_led : (ps qs : List Record) → RecordsLed h ps qs → TreesLed h (parameters ps) (parameters qs)
  parameters_led [] [] e = tt
  parameters_led (p ∷ ps) (q ∷ qs) e =
      joined_led p.values q.values (parameters ps) (parameters qs) e.0.1 (parameters_led ps qs e.1)
  parameters_led ps qs e = absurd e

  names_led : (ps qs : List Record) → RecordsLed h ps qs → map named_entity ps ≡ map named_entity qs
  names_led [] [] e = refl
  names_led (p ∷ ps) (q ∷ qs) e =
      ap (λ n. n ∷ map named_entity ps) e.0.0 ∙ ap (λ ns. named_entity q ∷ ns) (names_led ps qs e.1)
  names_led ps qs e = absurd e

  module _ (s : Schema) (d : Domain) where
    mutual
      -- the value of a parameter that is led
      pub value_led : (b : Base) (x y : Tree) → TreeLed h x y → value_as s d b y ≡ renamed h (value_as s d b x)
      value_led b (trees.leaf w) (trees.leaf v) e = word_led w v e
      value_led b (trees.typed n x) (trees.typed m y) e =
          ap (λ k. typed k (value_as s d (base_or_this s d b (inner s d b k)) y)) (sym e.0)
          ∙ ap (typed (upper n)) (value_led (base_or_this s d b (inner s d b (upper n))) x y e.1)
      value_led b (trees.group xs) (trees.group ys) e =
          ap (gathered b) (values_led (element s d b) xs ys e) ∙ gathered_led b (values_as s d (element s d b) xs)
      value_led b x y e = absurd e

      values_led : (b : Base) (xs ys : Trees) → TreesLed h xs ys
          → values_as s d b ys ≡ renamed_each h (values_as s d b xs)
      values_led b trees.none trees.none e = refl
      values_led b (trees.one x xs) (trees.one y ys) e =
          ap (λ v. more v (values_as s d b ys)) (value_led b x y e.0)
          ∙ ap (more (renamed h (value_as s d b x))) (values_led b xs ys e.1)
      values_led b xs ys e = absurd e

    mutual
      pub spelt_led : (b : Base) (x y : Tree) → TreeLed h x y → IsSpelt s d b x → IsSpelt s d b y
      spelt_led b (trees.leaf w) (trees.leaf v) e f = word_spelt b w v e f
      spelt_led b (trees.typed n x) (trees.typed m y) e f =
          λ c i. spelt_led c x y e.1 (f c (subst (λ k. inner s d b k ≡ Some c) (sym e.0) i))
      spelt_led b (trees.group xs) (trees.group ys) e f = λ a i. each_led (base d a.element) xs ys e (f a i)
      spelt_led b x y e f = absurd e

      each_led : (b : Base) (xs ys : Trees) → TreesLed h xs ys → EachSpelt s d b xs → EachSpelt s d b ys
      each_led b trees.none trees.none e f = tt
      each_led b (trees.one x xs) (trees.one y ys) e f = (spelt_led b x y e.0 f.0, each_led b xs ys e.1 f.1)
      each_led b xs ys e f = absurd e

    all_types_led : (ks : List DataType) (x y : Tree) → TreeLed h x y
        → Every (λ (k : DataType). IsSpelt s d (base d k) x) ks → Every (λ (k : DataType). IsSpelt s d (base d k) y) ks
    all_types_led [] x y e f = tt
    all_types_led (k ∷ ks) x y e f = (spelt_led (base d k) x y e f.0, all_types_led ks x y e f.1)

    given_led : (derived : Bool) (ks : List DataType) (x y : Tree) → TreeLed h x y → GivenSpelt s d derived ks x
        → GivenSpelt s d derived ks y
    given_led true ks x y e f = star_led x y e f
    given_led false ks x y e f = all_types_led ks x y e f

    module _ (en : Entities) (types : List Name) where
      given_value_led : (derived : Bool) (ks : List DataType) (x y : Tree) → TreeLed h x y
          → cond derived (leaf leaves.derived) (value_as s d (first_base s d en ks) y)
          ≡ renamed h (cond derived (leaf leaves.derived) (value_as s d (first_base s d en ks) x))
      given_value_led true ks x y e = refl
      given_value_led false ks x y e = value_led (first_base s d en ks) x y e

      slots_led : (ps : List Place) (xs ys : Trees) → TreesLed h xs ys
          → AreLed h (slots_of s d en types ps xs) (slots_of s d en types ps ys)
      slots_led [] xs ys e = tt
      slots_led (p ∷ ps) trees.none trees.none e = tt
      slots_led (p ∷ ps) (trees.one x xs) (trees.one y ys) e = (
        refl,
        subst (Agree (◌==◌) (renamed h (value_at s d en types p x)))
            (sym (given_value_led (is_derived s en types p) (data_types s en types p) x y e.0))
            (same_refl (renamed h (value_at s d en types p x))),
        slots_led ps xs ys e.1,
      )
      slots_led (p ∷ ps) xs ys e = absurd e

      are_spelt_led : (ps : List Place) (xs ys : Trees) → TreesLed h xs ys → AreSpelt s d en types ps xs
          → AreSpelt s d en types ps ys
      are_spelt_led [] xs ys e f = tt
      are_spelt_led (p ∷ ps) trees.none trees.none e f = tt
      are_spelt_led (p ∷ ps) (trees.one x xs) (trees.one y ys) e f =
          (given_led (is_derived s en types p) (data_types s en types p) x y e.0 f.0, are_spelt_led ps xs ys e.1 f.1)
      are_spelt_led (p ∷ ps) xs ys e f = absurd e

  module _ (s : Schema) (en : Entities) where
    types_led : (f g : Form) → FormLed h f g → types_of s en f ≡ types_of s en g
    types_led (internal p) (internal q) e = ap (λ n. filter (en.is_kind_of n) (entity_names s)) e.0
    types_led (external ps) (external qs) e =
        ap (λ ns. filter (λ n. is_listed n ns) (entity_names s)) (names_led ps qs e)
    types_led f g e = absurd e

    own_places_led : (ps qs : List Record) → RecordsLed h ps qs
        → flat_map (λ r. own_places_of s (named_entity r)) ps ≡ flat_map (λ r. own_places_of s (named_entity r)) qs
    own_places_led [] [] e = refl
    own_places_led (p ∷ ps) (q ∷ qs) e =
        ap (λ n. own_places_of s n ++ flat_map (λ r. own_places_of s (named_entity r)) ps) e.0.0
        ∙ ap (λ ns. own_places_of s (named_entity q) ++ ns) (own_places_led ps qs e.1)
    own_places_led ps qs e = absurd e

    places_led : (f g : Form) → FormLed h f g → places_of s en f ≡ places_of s en g
    places_led (internal p) (internal q) e = ap en.places e.0
    places_led (external ps) (external qs) e = own_places_led ps qs e
    places_led f g e = absurd e

    records_led : (f g : Form) → FormLed h f g → RecordsLed h (records f) (records g)
    records_led (internal p) (internal q) e = (e, tt)
    records_led (external ps) (external qs) e = e
    records_led f g e = absurd e

    how_many_led : (test : Record → Bool) → ((p q : Record) → RecordLed h p q → test p ≡ test q) → (ps qs : List Record)
        → RecordsLed h ps qs → how_many test ps ≡ how_many test qs
    how_many_led test same [] [] e = refl
    how_many_led test same (p ∷ ps) (q ∷ qs) e =
        both (test p) (test q) (same p q e.0) (how_many_led test same ps qs e.1)
      where
        both : (a b : Bool) → a ≡ b → how_many test ps ≡ how_many test qs
            → length (cond a (p ∷ filter test ps) (filter test ps))
            ≡ length (cond b (q ∷ filter test qs) (filter test qs))
        both true true e rest = ap suc rest
        both false false e rest = rest
        both true false e rest = absurd (cc)
        both false true e rest = absurd (cc)
    how_many_led test same ps qs e = absurd e

    has_count_led : (p q : Record) → RecordLed h p q → (here there : List Place) → here ≡ there
        → has_count s en here p ≡ has_count s en there q
    has_count_led p q e here there same =
        ap (λ n. n == length here) (count_led p.values q.values e.1) ∙ ap (λ ps. count q.values == length ps) same

    counts_led : (f g : Form) → FormLed h f g → wrong_counts s en f ≡ wrong_counts s en g
    counts_led (internal p) (internal q) e =
        ap (λ b. cond b 0 1) (has_count_led p q e (en.places (named_entity p)) (en.places (named_entity q))
        (ap en.places e.0))
    counts_led (external ps) (external qs) e =
        how_many_led (λ r. not (has_count s en (own_places_of s (named_entity r)) r))
        (λ p q r. ap not (has_count_led p q r (own_places_of s (named_entity p)) (own_places_of s (named_entity q))
        (ap (own_places_of s) r.0))) ps qs e
    counts_led f g e = absurd e

    module _ (d : Domain) (r q : ExchangeRow) (e : FormLed h r.form q.form) where
      same_types : types_of s en r.form ≡ types_of s en q.form
      same_types = types_led r.form q.form e

      same_places : places_of s en r.form ≡ places_of s en q.form
      same_places = places_led r.form q.form e

      given : TreesLed h (parameters (records r.form)) (parameters (records q.form))
      given = parameters_led (records r.form) (records q.form) (records_led r.form q.form e)

      slots_there : (k l : ℕ) → AreLed h (instance_of s d en k r).slots (instance_of s d en l q).slots
      slots_there k l =
          subst (λ ts. AreLed h (slots_of s d en (types_of s en r.form) (places_of s en r.form)
          (parameters (records r.form))) (slots_of s d en ts (places_of s en q.form) (parameters (records q.form))))
          same_types
          (subst (λ ps. AreLed h (slots_of s d en (types_of s en r.form) (places_of s en r.form)
          (parameters (records r.form))) (slots_of s d en (types_of s en r.form) ps (parameters (records q.form))))
          same_places
          (slots_led s d en (types_of s en r.form) (places_of s en r.form) (parameters (records r.form))
          (parameters (records q.form)) given))

      -- the instance of a row that is led is led
      pub instance_led : (k l : ℕ) → IsLed h (instance_of s d en k r) (instance_of s d en l q)
      instance_led k l =
          record {
            types = same_types;
            places = place_there h (instance_of s d en k r).slots (instance_of s d en l q).slots (slots_there k l);
            values = value_there h (instance_of s d en k r).slots (instance_of s d en l q).slots (slots_there k l);
          }

      pub row_spelt_led : IsRowSpelt s d en r → IsRowSpelt s d en q
      row_spelt_led f =
          record {
            keywords = sym (how_many_led (λ r. not (is_entity s (named_entity r)))
                (λ p q g. ap (λ n. not (is_entity s n)) g.0)
                (records r.form) (records q.form) (records_led r.form q.form e)) ∙ f.keywords;
            counts = sym (counts_led r.form q.form e) ∙ f.counts;
            values = subst (λ ts. AreSpelt s d en ts (places_of s en q.form) (parameters (records q.form))) same_types
                (subst (λ ps. AreSpelt s d en (types_of s en r.form) ps (parameters (records q.form))) same_places
                (are_spelt_led s d en (types_of s en r.form) (places_of s en r.form) (parameters (records r.form))
                (parameters (records q.form)) given f.values));
          }
