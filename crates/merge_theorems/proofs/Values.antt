-- The values of a merged file are those of the file, with their references led.
use Rattle.std.specs.Prelude.{◌≡◌, ℕ, ◌==◌, Bool, true, false, cond, List, [], ◌∷◌, ◌++◌, map, flat_map}
use Rattle.std.specs.List.{filter}
use Rattle.std.proofs.Common.{refl, ap, ◌∙◌}
use Rattle.std.proofs.lemmas.Str.Ascii.{uppercase-uppercase}
use Rattle.step_literals.specs.Words.{upper}
use Rattle.step_lexer.specs.declared.token.Mark.TheVariants.{Open, Close, Comma, Semicolon, Equals, Dollar, Asterisk}
use Rattle.step_structures.specs.Words as words
use Rattle.step_structures.specs.Words.{Word}
use Rattle.step_structures.specs.Trees as trees
use Rattle.step_structures.specs.Trees.{Tree, Trees, Record, Form, internal, external, ExchangeRow}
use Rattle.step_structures.specs.Normal.{normal_word, normal_tree, normal_trees, normal_record, normal_form, normal_row}
use Rattle.step_structures.specs.MergedTexts.{led_word, led_tree, led_trees, led_record, led_form, led_row}
use Rattle.step_values.specs.Leaves as leaves
use Rattle.step_values.specs.Values.{leaf, typed, sequence, bag, Values, none, more}
use Rattle.step_values.specs.References.{renamed, renamed_each}
use Rattle.express_syntax.specs.Schemas.{Schema, DataType}
use Rattle.schema_semantics.specs.Names.{Name}
use Rattle.schema_semantics.specs.Attributes.{Place}
use Rattle.conformance.specs.Bases.{Base, aggregate, Domain}
use Rattle.conformance.specs.ParameterFits.{has_no_order, entity_names, is_listed, word_value, inner, base_or_this, gathered, element, value_as, values_as}
use Rattle.conformance.specs.Entities.{Entities, named_entity, records, parameters, joined_trees, own_places_of, types_of, places_of, is_derived, data_types}
use Rattle.conformance.specs.Populations.{first_base, slots_of, instance_of}
use Rattle.merge_theorems.specs.MergedPopulations.{led_slot, led_instance}

pub upper_upper : (w : List ℕ) → upper (upper w) ≡ upper w
upper_upper [] = refl
upper_upper (x ∷ xs) = λ i. uppercase-uppercase x i ∷ upper_upper xs i

module _ (h : ℕ → ℕ) where
  -- what the merged text says of a tree
  abbrev pub tree : Tree → Tree
  tree x = normal_tree (led_tree h x)

  abbrev pub trees_of : Trees → Trees
  trees_of xs = normal_trees (led_trees h xs)

  abbrev pub record_of : Record → Record
  record_of p = normal_record (led_record h p)

  abbrev pub form_of : Form → Form
  form_of f = normal_form (led_form h f)

  abbrev pub row_of : ExchangeRow → ExchangeRow
  row_of r = normal_row (led_row h r)

  word_led : (w : Word) → word_value (normal_word (led_word h w)) ≡ renamed h (word_value w)
  word_led (words.name y t) = refl
  word_led (words.element t) = ap (λ n. leaf (leaves.element n)) (upper_upper t)
  word_led (words.mark Asterisk) = refl
  word_led (words.mark Dollar) = refl
  word_led (words.mark Open) = refl
  word_led (words.mark Close) = refl
  word_led (words.mark Comma) = refl
  word_led (words.mark Semicolon) = refl
  word_led (words.mark Equals) = refl
  word_led words.begins = refl
  word_led words.ends = refl
  word_led (words.keyword t) = refl
  word_led (words.user_defined t) = refl
  word_led words.scope = refl
  word_led (words.number t) = refl
  word_led (words.string t) = refl
  word_led (words.binary t) = refl

  gathered_led : (b : Base) (vs : Values) → gathered b (renamed_each h vs) ≡ renamed h (gathered b vs)
  gathered_led (aggregate a) vs = go (has_no_order a.collection)
    where
      go : (t : Bool) → cond t (bag (renamed_each h vs)) (sequence (renamed_each h vs))
          ≡ renamed h (cond t (bag vs) (sequence vs))
      go true = refl
      go false = refl
  gathered_led b vs = refl

  joined_led : (xs ys : Trees) → joined_trees (trees_of xs) (trees_of ys) ≡ trees_of (joined_trees xs ys)
  joined_led trees.none ys = refl
  joined_led (trees.one x xs) ys = ap (trees.one (tree x)) (joined_led xs ys)

  parameters_led : (ps : List Record) → parameters (map normal_record (map (led_record h) ps)) ≡ trees_of (parameters ps)
  parameters_led [] = refl
  parameters_led (p ∷ ps) =
      ap (joined_trees (trees_of p.values)) (parameters_led ps) ∙ joined_led p.values (parameters ps)

  pub names_led : (ps : List Record) → map named_entity (map normal_record (map (led_record h) ps)) ≡ map named_entity ps
  names_led [] = refl
  names_led (p ∷ ps) = λ i. upper_upper p.keyword i ∷ names_led ps i

  pub given_led : (f : Form) → parameters (records (form_of f)) ≡ trees_of (parameters (records f))
  given_led (internal p) = parameters_led (p ∷ [])
  given_led (external ps) = parameters_led ps

  module _ (s : Schema) (d : Domain) where
    mutual
      value_led : (b : Base) (x : Tree) → value_as s d b (tree x) ≡ renamed h (value_as s d b x)
      value_led b (trees.leaf w) = word_led w
      value_led b (trees.typed n x) =
          ap (λ k. typed k (value_as s d (base_or_this s d b (inner s d b k)) (tree x))) (upper_upper n)
          ∙ ap (typed (upper n)) (value_led (base_or_this s d b (inner s d b (upper n))) x)
      value_led b (trees.group xs) =
          ap (gathered b) (values_led (element s d b) xs) ∙ gathered_led b (values_as s d (element s d b) xs)

      values_led : (b : Base) (xs : Trees) → values_as s d b (trees_of xs) ≡ renamed_each h (values_as s d b xs)
      values_led b trees.none = refl
      values_led b (trees.one x xs) = λ i. more (value_led b x i) (values_led b xs i)

    module _ (en : Entities) where
      pub types_led : (f : Form) → types_of s en (form_of f) ≡ types_of s en f
      types_led (internal p) = ap (λ n. filter (en.is_kind_of n) (entity_names s)) (upper_upper p.keyword)
      types_led (external ps) = ap (λ ns. filter (λ e. is_listed e ns) (entity_names s)) (names_led ps)

      own_led : (ps : List Record)
          → flat_map (λ r. own_places_of s (named_entity r)) (map normal_record (map (led_record h) ps))
          ≡ flat_map (λ r. own_places_of s (named_entity r)) ps
      own_led [] = refl
      own_led (p ∷ ps) = λ i. own_places_of s (upper_upper p.keyword i) ++ own_led ps i

      pub places_led : (f : Form) → places_of s en (form_of f) ≡ places_of s en f
      places_led (internal p) = ap en.places (upper_upper p.keyword)
      places_led (external ps) = own_led ps

      derived_led : (b : Bool) (ks : List DataType) (x : Tree)
          → cond b (leaf leaves.derived) (value_as s d (first_base s d en ks) (tree x))
          ≡ renamed h (cond b (leaf leaves.derived) (value_as s d (first_base s d en ks) x))
      derived_led true ks x = refl
      derived_led false ks x = value_led (first_base s d en ks) x

      slots_led : (types : List Name) (ps : List Place) (xs : Trees)
          → slots_of s d en types ps (trees_of xs) ≡ map (led_slot h) (slots_of s d en types ps xs)
      slots_led types [] xs = refl
      slots_led types (p ∷ ps) trees.none = refl
      slots_led types (p ∷ ps) (trees.one x xs) =
          λ i. record {
            place = p;
            value = derived_led (is_derived s en types p) (data_types s en types p) x i;
          } ∷ slots_led types ps xs i

      pub instance_led : (k : ℕ) (r : ExchangeRow) → instance_of s d en k (row_of r) ≡ led_instance h (instance_of s d en k r)
      instance_led k r =
          let types = types_led r.form in
          let slots = (λ i. slots_of s d en (types i) (places_led r.form i) (given_led r.form i))
          ∙ slots_led (types_of s en r.form) (places_of s en r.form) (parameters (records r.form)) in
          λ i. record { name = r.name; section = k; types = types i; slots = slots i }
