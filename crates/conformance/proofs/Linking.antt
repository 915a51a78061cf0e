-- A parameter of which there is no finding has a value that fits.
use Rattle.std.proofs.Common.{◌≡◌, ℕ, suc, Bool, true, false, cond, refl, ap, subst, ◌⊎◌, inl, inr, List, Option, Some, None}
use Rattle.std.specs.Prelude.{◌==◌, ◌&&◌, ◌||◌, not, bytes_eq}
use Rattle.std.specs.List.{list_any}
use Rattle.std.proofs.lemmas.Bool.{and_parts}
use Rattle.step_literals.specs.Bits.{bits_of}
use Rattle.step_literals.specs.Decimals.{units, mantissa}
use Rattle.step_literals.specs.Items.{string_items}
use Rattle.step_literals.specs.Words.{upper}
use Rattle.step_lexer.specs.declared.token.Mark.TheVariants.{Dollar, Asterisk}
use Rattle.step_structures.specs.Words as words
use Rattle.step_structures.specs.Words.{Word}
use Rattle.step_structures.specs.Trees as trees
use Rattle.step_structures.specs.Trees.{Tree, Trees}
use Rattle.step_values.specs.Leaves as leaves
use Rattle.step_values.specs.Values.{Value, leaf, typed, sequence, bag, Values, none, more, Agree}
use Rattle.step_values.specs.AgreementTests.{value_count, same_test}
use Rattle.step_values.proofs.Deciding.{test_complete}
use Rattle.express_syntax.specs.Schemas.{Schema}
use Rattle.schema_semantics.specs.Names.{Name}
use Rattle.conformance.specs.declared.finding.FindingKind.{FindingKind}
use Rattle.conformance.specs.declared.finding.FindingKind.TheVariants.{OutOfBounds, NotDistinct, UnknownElement, WrongEntity, NoSelectItem}
use Rattle.conformance.specs.Bases.{Base, integer, number, boolean, logical, string, binary, enumeration, entity, select, aggregate, Domain, base}
use Rattle.conformance.specs.ParameterFits.{Target, absent, unknown, of_types, first_finding, needs, in_bounds, has_no_order, is_set, set_ones, differs_from, all_differ, are_distinct, count, is_dollar, is_truth, is_integer, is_listed, misfit_target, misfit_reference, misfit_number, misfit_string, misfit_binary, misfit_element, misfit_word, misfit_inner, misfit_group, misfit, misfit_each, other_kind, inner, base_or_this, gathered, element, value_as, values_as, word_value}
use Rattle.conformance.specs.Fits.{LeafFits, Takes, DiffersFrom, AllDiffer, IsLeftOut, Gathers, Typing, Fits, FitEach}
use Rattle.conformance.proofs.Carrying.{set_same, same_sym}
use Rattle.conformance.proofs.WholeNumbers.{whole_worth}
use Rattle.conformance.specs.declared.finding.FindingKind.TheVariants.{WrongKind}

pub needed : (b : Bool) (f : FindingKind) → needs b f ≡ None → b ≡ true
needed true f e = refl
needed false f e = absurd (cc)

pub first_none : (a b : Option FindingKind) → first_finding a b ≡ None → a ≡ None
first_none None b e = refl
first_none (Some f) b e = absurd (cc)

pub second_none : (a b : Option FindingKind) → first_finding a b ≡ None → b ≡ None
second_none None b e = e
second_none (Some f) b e = absurd (cc)

pub no_kind : (f : FindingKind) → Some f ≡ None → ⊥
no_kind f e = cc

number_fits : (b : Base) (t : List ℕ) → misfit_number b t ≡ None → LeafFits b (leaves.number (units t))
number_fits integer t e = (mantissa t, whole_worth t (needed (is_integer t) WrongKind e))
number_fits number t e = tt
number_fits b t e = absurd (no_kind (other_kind b) e)

string_fits : (b : Base) (t : List ℕ) → misfit_string b t ≡ None → LeafFits b (leaves.text (string_items t))
string_fits (string w) t e = e
string_fits b t e = absurd (no_kind (other_kind b) e)

binary_fits : (b : Base) (t : List ℕ) → misfit_binary b t ≡ None → LeafFits b (leaves.bits (bits_of t))
binary_fits (binary w) t e = e
binary_fits b t e = absurd (no_kind (other_kind b) e)

element_fits : (b : Base) (n : Name) → misfit_element b n ≡ None → LeafFits b (leaves.element n)
element_fits boolean n e = needed (is_truth false n) UnknownElement e
element_fits logical n e = needed (is_truth true n) UnknownElement e
element_fits (enumeration items) n e = needed (is_listed n items) UnknownElement e
element_fits b n e = absurd (no_kind (other_kind b) e)

pub sizes : (s : Schema) (d : Domain) (b : Base) (xs : Trees) → count xs ≡ value_count (values_as s d b xs)
sizes s d b trees.none = refl
sizes s d b (trees.one x xs) = ap suc (sizes s d b xs)

not_same : (v w : Value) → not (same_test v w) ≡ true → Agree (◌==◌) v w → ⊥
not_same v w n a = let same = test_complete v w a in absurd (cc)

-- one that differs from the set ones differs from all
differs : (v : Value) (vs : Values) → is_set v ≡ true → differs_from v (set_ones vs) ≡ true → DiffersFrom v vs
differs v none s d = tt
differs v (more w ws) s d = go (is_set w) refl d (differs v ws s)
  where
    go : (b : Bool) → is_set w ≡ b → differs_from v (cond b (more w (set_ones ws)) (set_ones ws)) ≡ true
        → (differs_from v (set_ones ws) ≡ true → DiffersFrom v ws) → DiffersFrom v (more w ws)
    go true e d f =
        let parts = and_parts (not (same_test v w)) (differs_from v (set_ones ws)) d in
        ((λ s a. not_same v w parts.0 a), f parts.1)
    go false e d f = ((λ t a. let u = set_same w v (same_sym v w a) t in absurd (cc)), f d)

all_differ_set : (vs : Values) → all_differ (set_ones vs) ≡ true → AllDiffer vs
all_differ_set none d = tt
all_differ_set (more v vs) d = go (is_set v) refl d (all_differ_set vs)
  where
    unset_passes : (ws : Values) → is_set v ≡ false → DiffersFrom v ws
    unset_passes none e = tt
    unset_passes (more w ws) e = ((λ s a. absurd (cc)), unset_passes ws e)

    go : (b : Bool) → is_set v ≡ b → all_differ (cond b (more v (set_ones vs)) (set_ones vs)) ≡ true
        → (all_differ (set_ones vs) ≡ true → AllDiffer vs) → AllDiffer (more v vs)
    go true e d f =
        let parts = and_parts (differs_from v (set_ones vs)) (all_differ (set_ones vs)) d in
        (differs v vs e parts.0, f parts.1)
    go false e d f = (unset_passes vs e, f d)

pub dollar_unset : (s : Schema) (d : Domain) (b : Base) (x : Tree) → is_dollar x ≡ true
    → value_as s d b x ≡ leaf leaves.unset
dollar_unset s d b (trees.leaf (words.mark Dollar)) e = refl
dollar_unset s d b x e = absurd (cc)

module _ (s : Schema) (d : Domain) (target : ℕ → Target) (typing : Typing)
    (told : (y : ℕ) (types : List Name) → target y ≡ of_types types → typing y ≡ Some types)
    (all_known : (y : ℕ) → target y ≡ unknown → ⊥) where
  target_fits : (takes : Name → Bool) (f : FindingKind) (y : ℕ) (t : Target) → target y ≡ t
      → misfit_target takes f t ≡ None
      → (types : List Name) × (typing y ≡ Some types) × (list_any takes types ≡ true)
  target_fits takes f y absent e m = absurd (cc)
  target_fits takes f y unknown e m = absurd (all_known y e)
  target_fits takes f y (of_types types) e m = (types, told y types e, needed (list_any takes types) f m)

  reference_fits : (b : Base) (y : ℕ) → misfit_reference s d b (target y) ≡ None
      → (types : List Name) × (typing y ≡ Some types) × Takes d b types
  reference_fits (entity e) y m = target_fits (bytes_eq e) WrongEntity y (target y) refl m
  reference_fits (select n) y m = target_fits (d.is_item n) NoSelectItem y (target y) refl m
  reference_fits b y m = absurd (cc)

  typed_fits : (b : Base) (word : Name) (x : Tree)
      → ((c : Base) → misfit s d target c x ≡ None → Fits s d typing c (value_as s d c x))
      → misfit_inner s d target (other_kind b) (inner s d b word) (λ c. misfit s d target c x) ≡ None
      → Fits s d typing b (typed word (value_as s d (base_or_this s d b (inner s d b word)) x))
  typed_fits b word x f m = go (inner s d b word) refl m
    where
      go : (o : Option Base) → inner s d b word ≡ o
          → misfit_inner s d target (other_kind b) o (λ c. misfit s d target c x) ≡ None
          → Fits s d typing b (typed word (value_as s d (base_or_this s d b o) x))
      go None i n = absurd (no_kind (other_kind b) n)
      go (Some c) i n = (c, i, f c n)

  word_fits : (b : Base) (w : Word) → misfit_word s d target b w ≡ None → Fits s d typing b (word_value w)
  word_fits b (words.number t) m = number_fits b t m
  word_fits b (words.string t) m = string_fits b t m
  word_fits b (words.binary t) m = binary_fits b t m
  word_fits b (words.element t) m = element_fits b (upper t) m
  word_fits b (words.name y t) m = reference_fits b y m
  word_fits b (words.mark Dollar) m = absurd (cc)
  word_fits b (words.mark Asterisk) m = absurd (cc)
  word_fits b w m = absurd (no_kind (other_kind b) m)

  gathered_fits : (b : Base) (xs : Trees) → ((optional : Bool) (c : Base) → misfit_each s d target optional c xs ≡ None
      → FitEach s d typing optional c (values_as s d c xs))
      → misfit_group s d target b (count xs) (λ a. misfit_each s d target a.optional (base d a.element) xs)
      (λ a. are_distinct (values_as s d (base d a.element) xs)) ≡ None
      → Fits s d typing b (gathered b (values_as s d (element s d b) xs))
  gathered_fits (aggregate a) xs f m = collected (has_no_order a.collection) refl
    where
      vs : Values
      vs = values_as s d (base d a.element) xs

      in_bounds_first : Option FindingKind
      in_bounds_first = needs (in_bounds a (count xs)) OutOfBounds

      each_then : Option FindingKind
      each_then = misfit_each s d target a.optional (base d a.element) xs

      rest : first_finding each_then (needs (not a.unique || are_distinct vs) NotDistinct) ≡ None
      rest = second_none in_bounds_first _ m

      either : (u d : Bool) → (not u || d) ≡ true → u ≡ true → d ≡ true
      either true d l e = l
      either false d l e = absurd (cc)

      gathers : (no_order : Bool) → has_no_order a.collection ≡ no_order
          → Gathers no_order (aggregate a) vs (λ c. FitEach s d typing c.optional (base d c.element) vs)
      gathers no_order e =
          record {
            of = a;
            is_of = refl;
            order = e;
            bounds = subst (λ n. in_bounds a n ≡ true) (sizes s d (base d a.element) xs)
                (needed (in_bounds a (count xs)) OutOfBounds (first_none in_bounds_first _ m));
            each = f a.optional (base d a.element) (first_none each_then _ rest);
            unique = λ u. all_differ_set vs (either a.unique (are_distinct vs)
                (needed (not a.unique || are_distinct vs) NotDistinct (second_none each_then _ rest)) u);
          }

      collected : (no_order : Bool) → has_no_order a.collection ≡ no_order
          → Fits s d typing (aggregate a) (cond no_order (bag vs) (sequence vs))
      collected true e = gathers true e
      collected false e = gathers false e
  gathered_fits b xs f m = absurd (cc)

  one_fits : (optional : Bool) (b : Base) (x : Tree)
      → (misfit s d target b x ≡ None → Fits s d typing b (value_as s d b x))
      → cond (optional && is_dollar x) None (misfit s d target b x) ≡ None
      → IsLeftOut optional (value_as s d b x) ⊎ Fits s d typing b (value_as s d b x)
  one_fits optional b x f m = go (optional && is_dollar x) refl m
    where
      go : (t : Bool) → (optional && is_dollar x) ≡ t → cond t None (misfit s d target b x) ≡ None
          → IsLeftOut optional (value_as s d b x) ⊎ Fits s d typing b (value_as s d b x)
      go true e n =
          let parts = and_parts optional (is_dollar x) e in
          inl (parts.0, dollar_unset s d b x parts.1)
      go false e n = inr (f n)

  mutual
    -- a parameter with no finding has a value that fits
    pub fits_none : (b : Base) (x : Tree) → misfit s d target b x ≡ None → Fits s d typing b (value_as s d b x)
    fits_none b (trees.leaf w) m = word_fits b w m
    fits_none b (trees.typed word x) m = typed_fits b (upper word) x (λ c n. fits_none c x n) m
    fits_none b (trees.group xs) m = gathered_fits b xs (λ o c n. fit_each_none o c xs n) m

    fit_each_none : (optional : Bool) (b : Base) (xs : Trees) → misfit_each s d target optional b xs ≡ None
        → FitEach s d typing optional b (values_as s d b xs)
    fit_each_none optional b trees.none m = tt
    fit_each_none optional b (trees.one x xs) m =
        let here = cond (optional && is_dollar x) None (misfit s d target b x) in (
          one_fits optional b x (λ n. fits_none b x n) (first_none here _ m),
          fit_each_none optional b xs (second_none here _ m),
        )
