-- A parameter that is spelt as its data type asks and whose value fits has no finding.
use Rattle.std.proofs.Common.{◌≡◌, ℕ, Bool, true, false, cond, refl, sym, ◌∙◌, ap, subst, ◌⊎◌, inl, inr, List, Option, Some, None}
use Rattle.std.specs.Prelude.{◌==◌, ◌&&◌, ◌||◌, not, bytes_eq}
use Rattle.std.specs.List.{list_any}
use Rattle.std.proofs.lemmas.Bool.{and_from}
use Rattle.step_literals.specs.Bits.{bits_of}
use Rattle.step_literals.specs.Decimals.{units}
use Rattle.step_literals.specs.Items.{string_items}
use Rattle.step_literals.specs.Words.{upper}
use Rattle.step_lexer.specs.declared.token.Mark.TheVariants.{Dollar, Asterisk}
use Rattle.step_structures.specs.Words as words
use Rattle.step_structures.specs.Words.{Word}
use Rattle.step_structures.specs.Trees as trees
use Rattle.step_structures.specs.Trees.{Tree, Trees}
use Rattle.step_values.specs.Leaves as leaves
use Rattle.step_values.specs.Values.{Value, leaf, typed, sequence, bag, Values, none, more, Agree}
use Rattle.step_values.specs.AgreementTests.{value_count, same_test}
use Rattle.step_values.proofs.Deciding.{test_sound}
use Rattle.express_syntax.specs.Schemas.{Schema}
use Rattle.schema_semantics.specs.Names.{Name}
use Rattle.conformance.specs.declared.finding.FindingKind.{FindingKind}
use Rattle.conformance.specs.declared.finding.FindingKind.TheVariants.{WrongKind, OutOfBounds, NotDistinct, UnknownElement, WrongEntity, NoSelectItem}
use Rattle.conformance.specs.Bases.{Aggregate, Base, integer, number, boolean, logical, string, binary, enumeration, entity, select, aggregate, Domain, base}
use Rattle.conformance.specs.ParameterFits.{Target, of_types, first_finding, needs, in_bounds, has_no_order, is_set, set_ones, differs_from, all_differ, are_distinct, count, is_dollar, is_truth, is_integer, is_listed, misfit_target, misfit_reference, misfit_number, misfit_string, misfit_binary, misfit_element, misfit_word, misfit_inner, misfit_group, misfit, misfit_each, other_kind, inner, base_or_this, gathered, element, value_as, values_as, word_value}
use Rattle.conformance.specs.Fits.{LeafFits, Takes, DiffersFrom, AllDiffer, IsLeftOut, Gathers, Typing, Fits, FitEach}
use Rattle.conformance.specs.ValueSpellings.{WordSpelt, IsSpelt, EachSpelt}
use Rattle.conformance.proofs.Linking.{sizes}

met : (b : Bool) (f : FindingKind) → b ≡ true → needs b f ≡ None
met b f e = ap (λ x. needs x f) e

number_back : (b : Base) (t : List ℕ) → WordSpelt (words.number t) b → LeafFits b (leaves.number (units t))
    → misfit_number b t ≡ None
number_back integer t s f = met (is_integer t) WrongKind s
number_back number t s f = refl
number_back b t s f = absurd f

string_back : (b : Base) (t : List ℕ) → LeafFits b (leaves.text (string_items t)) → misfit_string b t ≡ None
string_back (string w) t f = f
string_back b t f = absurd f

binary_back : (b : Base) (t : List ℕ) → LeafFits b (leaves.bits (bits_of t)) → misfit_binary b t ≡ None
binary_back (binary w) t f = f
binary_back b t f = absurd f

element_back : (b : Base) (n : Name) → LeafFits b (leaves.element n) → misfit_element b n ≡ None
element_back boolean n f = met (is_truth false n) UnknownElement f
element_back logical n f = met (is_truth true n) UnknownElement f
element_back (enumeration items) n f = met (is_listed n items) UnknownElement f
element_back b n f = absurd f

unset_none : (b : Base) → LeafFits b leaves.unset → ⊥
unset_none integer f = f
unset_none number f = f
unset_none boolean f = f
unset_none b f = f

derived_none : (b : Base) → LeafFits b leaves.derived → ⊥
derived_none integer f = f
derived_none b f = f

apart : (v w : Value) → (Agree (◌==◌) v w → ⊥) → not (same_test v w) ≡ true
apart v w h = go (same_test v w) refl
  where
    go : (b : Bool) → same_test v w ≡ b → not b ≡ true
    go true e = absurd (h (test_sound v w e))
    go false e = refl

differs_back : (v : Value) (vs : Values) → is_set v ≡ true → DiffersFrom v vs → differs_from v (set_ones vs) ≡ true
differs_back v none s d = refl
differs_back v (more w ws) s d = go (is_set w) (differs_back v ws s d.1)
  where
    go : (b : Bool) → differs_from v (set_ones ws) ≡ true
        → differs_from v (cond b (more w (set_ones ws)) (set_ones ws)) ≡ true
    go true rest = and_from (not (same_test v w)) (differs_from v (set_ones ws)) (apart v w (d.0 s)) rest
    go false rest = rest

distinct_back : (vs : Values) → AllDiffer vs → all_differ (set_ones vs) ≡ true
distinct_back none d = refl
distinct_back (more v vs) d = go (is_set v) refl (distinct_back vs d.1)
  where
    go : (b : Bool) → is_set v ≡ b → all_differ (set_ones vs) ≡ true
        → all_differ (cond b (more v (set_ones vs)) (set_ones vs)) ≡ true
    go true e rest = and_from (differs_from v (set_ones vs)) (all_differ (set_ones vs)) (differs_back v vs e d.0) rest
    go false e rest = rest

pub both_none : (a b : Option FindingKind) → a ≡ None → b ≡ None → first_finding a b ≡ None
both_none a b e f = ap (λ x. first_finding x b) e ∙ f

pub same_aggregate : (a c : Aggregate) → aggregate a ≡ aggregate c → a ≡ c
same_aggregate a c e = cc

pub gathered_set : (b : Base) (vs : Values) → gathered b vs ≡ leaf leaves.unset → ⊥
gathered_set (aggregate a) vs e = go (has_no_order a.collection) e
  where
    go : (b : Bool) → cond b (bag vs) (sequence vs) ≡ leaf leaves.unset → ⊥
    go true e = cc
    go false e = cc
gathered_set integer vs e = cc
gathered_set b vs e = cc

-- an unset value that is spelt well is spelt `$`
pub unset_dollar : (s : Schema) (d : Domain) (b : Base) (x : Tree) → IsSpelt s d b x
    → value_as s d b x ≡ leaf leaves.unset → is_dollar x ≡ true
unset_dollar s d b (trees.leaf (words.mark Dollar)) h e = refl
unset_dollar s d b (trees.leaf (words.mark Asterisk)) h e = absurd (cc)
unset_dollar s d b (trees.leaf (words.number t)) h e = absurd (cc)
unset_dollar s d b (trees.leaf (words.string t)) h e = absurd (cc)
unset_dollar s d b (trees.leaf (words.binary t)) h e = absurd (cc)
unset_dollar s d b (trees.leaf (words.element t)) h e = absurd (cc)
unset_dollar s d b (trees.leaf (words.name y t)) h e = absurd (cc)
unset_dollar s d b (trees.typed w x) h e = absurd (cc)
unset_dollar s d b (trees.group xs) h e = absurd (gathered_set b (values_as s d (element s d b) xs) e)
unset_dollar s d b (trees.leaf w) h e = absurd h

module _ (s : Schema) (d : Domain) (target : ℕ → Target) (typing : Typing)
    (told : (y : ℕ) (types : List Name) → typing y ≡ Some types → target y ≡ of_types types) where
  reference_back : (b : Base) (y : ℕ) (types : List Name) → target y ≡ of_types types → Takes d b types
      → misfit_reference s d b (target y) ≡ None
  reference_back (entity n) y types e f =
      ap (misfit_target (bytes_eq n) WrongEntity) e ∙ met (list_any (bytes_eq n) types) WrongEntity f
  reference_back (select m) y types e f =
      ap (misfit_target (d.is_item m) NoSelectItem) e ∙ met (list_any (d.is_item m) types) NoSelectItem f
  reference_back b y types e f = absurd f

  word_back : (b : Base) (w : Word) → WordSpelt w b → Fits s d typing b (word_value w)
      → misfit_word s d target b w ≡ None
  word_back b (words.number t) h f = number_back b t h f
  word_back b (words.string t) h f = string_back b t f
  word_back b (words.binary t) h f = binary_back b t f
  word_back b (words.element t) h f = element_back b (upper t) f
  word_back b (words.name y t) h f = reference_back b y f.0 (told y f.0 f.1) f.2
  word_back b (words.mark Asterisk) h f = absurd (derived_none b f)
  word_back b w h f = absurd (unset_none b f)

  typed_back : (b : Base) (word : Name) (x : Tree)
      → ((c : Base) → inner s d b word ≡ Some c → Fits s d typing c (value_as s d c x) → misfit s d target c x ≡ None)
      → Fits s d typing b (typed word (value_as s d (base_or_this s d b (inner s d b word)) x))
      → misfit_inner s d target (other_kind b) (inner s d b word) (λ c. misfit s d target c x) ≡ None
  typed_back b word x g f =
      let value : Fits s d typing f.0 (value_as s d f.0 x) =
      subst (λ o. Fits s d typing f.0 (value_as s d (base_or_this s d b o) x)) f.1 f.2 in
      ap (λ o. misfit_inner s d target (other_kind b) o (λ c. misfit s d target c x)) f.1 ∙ g f.0 f.1 value

  one_back : (optional : Bool) (b : Base) (x : Tree) → IsSpelt s d b x
      → (Fits s d typing b (value_as s d b x) → misfit s d target b x ≡ None)
      → IsLeftOut optional (value_as s d b x) ⊎ Fits s d typing b (value_as s d b x)
      → cond (optional && is_dollar x) None (misfit s d target b x) ≡ None
  one_back optional b x h g (inl o) =
      ap (λ t. cond t None (misfit s d target b x))
      (and_from optional (is_dollar x) o.0 (unset_dollar s d b x h o.1))
  one_back optional b x h g (inr f) = either (optional && is_dollar x) (g f)
    where
      either : (t : Bool) → misfit s d target b x ≡ None → cond t None (misfit s d target b x) ≡ None
      either true e = refl
      either false e = e

  gathered_back : (b : Base) (xs : Trees)
      → ((a : Aggregate) → b ≡ aggregate a
      → FitEach s d typing a.optional (base d a.element) (values_as s d (base d a.element) xs)
      → misfit_each s d target a.optional (base d a.element) xs ≡ None)
      → Fits s d typing b (gathered b (values_as s d (element s d b) xs))
      → misfit_group s d target b (count xs) (λ a. misfit_each s d target a.optional (base d a.element) xs)
      (λ a. are_distinct (values_as s d (base d a.element) xs)) ≡ None
  gathered_back (aggregate a) xs g f = go (has_no_order a.collection) f
    where
      vs : Values
      vs = values_as s d (base d a.element) xs

      parts : (no_order : Bool)
          → Gathers no_order (aggregate a) vs (λ c. FitEach s d typing c.optional (base d c.element) vs)
          → first_finding (needs (in_bounds a (count xs)) OutOfBounds)
          (first_finding (misfit_each s d target a.optional (base d a.element) xs)
          (needs (not a.unique || are_distinct vs) NotDistinct)) ≡ None
      parts no_order f =
          let same : a ≡ f.of = same_aggregate a f.of f.is_of in
          let bounds : in_bounds a (count xs) ≡ true =
          ap (in_bounds a) (sizes s d (base d a.element) xs) ∙ ap (λ c. in_bounds c (value_count vs)) same ∙ f.bounds in
          let all : FitEach s d typing a.optional (base d a.element) vs =
          subst (λ c. FitEach s d typing c.optional (base d c.element) vs) (sym same) f.each in
          let differ : a.unique ≡ true → AllDiffer vs = λ u. f.unique (sym (ap (λ c. c.unique) same) ∙ u) in
          both_none _ _ (met (in_bounds a (count xs)) OutOfBounds bounds)
          (both_none _ _ (g a refl all) (met (not a.unique || are_distinct vs) NotDistinct (unique_or a.unique differ)))
        where
          unique_or : (u : Bool) → (u ≡ true → AllDiffer vs) → (not u || are_distinct vs) ≡ true
          unique_or true h = distinct_back vs (h refl)
          unique_or false h = refl

      go : (no_order : Bool) → Fits s d typing (aggregate a) (cond no_order (bag vs) (sequence vs))
          → first_finding (needs (in_bounds a (count xs)) OutOfBounds)
          (first_finding (misfit_each s d target a.optional (base d a.element) xs)
          (needs (not a.unique || are_distinct vs) NotDistinct)) ≡ None
      go true f = parts true f
      go false f = parts false f
  gathered_back b xs g f = let e = f.is_of in absurd (cc)

  mutual
    -- a parameter that is spelt as its data type asks and whose value fits has no finding
    pub fits_back : (b : Base) (x : Tree) → IsSpelt s d b x → Fits s d typing b (value_as s d b x)
        → misfit s d target b x ≡ None
    fits_back b (trees.leaf w) h f = word_back b w h f
    fits_back b (trees.typed word x) h f =
        typed_back b (upper word) x (λ c i v. fits_back c x (h c i) v) f
    fits_back b (trees.group xs) h f =
        gathered_back b xs (λ a e v. fit_each_back a.optional (base d a.element) xs (h a e) v) f

    fit_each_back : (optional : Bool) (b : Base) (xs : Trees) → EachSpelt s d b xs
        → FitEach s d typing optional b (values_as s d b xs) → misfit_each s d target optional b xs ≡ None
    fit_each_back optional b trees.none h f = refl
    fit_each_back optional b (trees.one x xs) h f =
        both_none _ _ (one_back optional b x h.0 (λ v. fits_back b x h.0 v) f.0) (fit_each_back optional b xs h.1 f.1)
