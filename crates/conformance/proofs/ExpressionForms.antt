-- The law of each form of expression: where answers are alike, it means the like.
use Rattle.std.proofs.Common.{◌≡◌, ℕ, Bool, true, false, refl, ap}
use Rattle.std.specs.Prelude.{⊤, if◌then◌else◌, Option, Some, None, List, [], ◌∷◌}
use Rattle.std.specs.Str.{bytes_eq}
use Rattle.step_literals.specs.declared.literal.items.Item.{Item}
use Rattle.express_syntax.specs.declared.expression.Logical.{Logical}
use Rattle.express_syntax.specs.declared.expression.Logical.TheVariants.{Unknown}
use Rattle.express_syntax.specs.declared.expression.Sign.{Sign}
use Rattle.express_syntax.specs.declared.expression.Sign.TheVariants as signs
use Rattle.express_syntax.specs.declared.expression.Relation.TheVariants as relations
use Rattle.express_syntax.specs.declared.expression.Function.{Function}
use Rattle.express_syntax.specs.declared.expression.Function.TheVariants as functions
use Rattle.express_syntax.specs.Trees.{Tree, literal, signed, reference, parenthesized, aggregate, interval, query, call, nvl, negation, conjunction, disjunction, comparison, Trees, none, one, Alternatives, finish, another, Qualifiers, plain, attribute, group, index, Number, Literal, number, text, codes_of_text, bits, constant, indeterminate, own, named}
use Rattle.schema_semantics.specs.Names.{Name}
use Rattle.express_logic.specs.Logic.{negated, both, either, known}
use Rattle.express_logic.specs.Data.{Datum}
use Rattle.express_logic.specs.Data as data_of
use Rattle.express_logic.specs.Comparison.{member}
use Rattle.conformance.specs.Operations.{bare, says, indexed}
use Rattle.conformance.specs.Expressions.{Setting, of_literal, of_signed, of_call, of_junction, string_of, is_of_type, instance_attribute, attribute_of, or_this, with_attribute, instance_group, with_group, Variable, variable, first_of_two, named_value, with_value, item_value, bound, means, selected, item_behind, and_all, or_all, is_in, among_each}
use Rattle.conformance.specs.AlikeValues.{Alike}
use Rattle.conformance.proofs.Comparisons.{alike_bare, alike_says, alike_known, picked_by, equal_alike, limited_alike, member_alike, compared_alike}
use Rattle.conformance.proofs.Elements.{size_alike, high_index_alike, low_index_alike, or_else_alike, indexed_alike, queried_alike}

abbrev pub AlikeFound : (ℕ → ℕ → Type 0) → Option Datum → Option Datum → Type 0
AlikeFound led None None = ⊤
AlikeFound led (Some d) (Some e) = Alike led d e
AlikeFound led o p = ⊥

-- two settings answer alike
pub record SettingsAlike (led : ℕ → ℕ → Type 0) (S T : Setting) : Type 0 where
  pub attribute : (x y : ℕ) → led x y → (a : Name) → AlikeFound led (S.attribute x a) (T.attribute y a)
  pub attribute_of : (x y : ℕ) → led x y → (e a : Name) → Alike led (S.attribute_of x e a) (T.attribute_of y e a)
  pub has_type : (x y : ℕ) → led x y → (n : List Item) → S.has_type x n ≡ T.has_type y n
  pub is_defined_by : (t : Name) (n : List Item) → S.is_defined_by t n ≡ T.is_defined_by t n
  pub is_item : (n : Name) → S.is_item n ≡ T.is_item n
  pub is_item_of : (t n : Name) → S.is_item_of t n ≡ T.is_item_of t n

abbrev pub VariablesAlike : (ℕ → ℕ → Type 0) → List Variable → List Variable → Type 0
VariablesAlike led [] [] = ⊤
VariablesAlike led (v ∷ vs) (w ∷ ws) = (v.name ≡ w.name) × (Alike led v.value w.value × VariablesAlike led vs ws)
VariablesAlike led vs ws = ⊥

literal_alike : (led : ℕ → ℕ → Type 0) (l : Literal) → Alike led (of_literal l) (of_literal l)
literal_alike led (number n) = refl
literal_alike led (text t) = refl
literal_alike led (codes_of_text t) = refl
literal_alike led (bits t) = refl
literal_alike led (constant p) = refl
literal_alike led indeterminate = tt

signed_alike : (led : ℕ → ℕ → Type 0) (s : Sign) (n : Number) → Alike led (of_signed s n) (of_signed s n)
signed_alike led signs.Plus n = refl
signed_alike led signs.Minus n = refl

call_alike : (led : ℕ → ℕ → Type 0) (f : Function) (d e : Datum) → Alike led d e → Alike led (of_call f d) (of_call f e)
call_alike led functions.Exists d e h = ap known (alike_known led d e h)
call_alike led functions.Sizeof d e h = size_alike led (bare d) (bare e) (alike_bare led d e h)
call_alike led functions.Hiindex d e h = high_index_alike led (bare d) (bare e) (alike_bare led d e h)
call_alike led functions.Loindex d e h = low_index_alike led (bare d) (bare e) (alike_bare led d e h)
call_alike led functions.Typeof d e h = tt

value_alike : (led : ℕ → ℕ → Type 0) (o p : Option Datum) → AlikeFound led o p → (d e : Datum) → Alike led d e
    → (f g : Datum → Datum)
    → ((a b : Datum) → Alike led a b → Alike led (f a) (g b)) → Alike led (with_value o d f) (with_value p e g)
value_alike led None None h d e k f g c = k
value_alike led (Some a) (Some b) h d e k f g c = c a b h
value_alike led _ _ h d e k f g c = absurd h

or_this_alike : (led : ℕ → ℕ → Type 0) (o p : Option Datum) → AlikeFound led o p → (d e : Datum) → Alike led d e
    → Alike led (or_this o d) (or_this p e)
or_this_alike led None None h d e k = k
or_this_alike led (Some a) (Some b) h d e k = h
or_this_alike led _ _ h d e k = absurd h

first_alike : (led : ℕ → ℕ → Type 0) (o p : Option Datum) → AlikeFound led o p → (q r : Option Datum) → AlikeFound led
    q r → AlikeFound led (first_of_two o q) (first_of_two p r)
first_alike led None None h q r k = k
first_alike led (Some a) (Some b) h q r k = h
first_alike led _ _ h q r k = absurd h

same_variable : (led : ℕ → ℕ → Type 0) (b c : Bool) → b ≡ c → (d e : Datum) → Alike led d e → (o p : Option Datum)
    → AlikeFound led o p
    → AlikeFound led (if b then Some d else o) (if c then Some e else p)
same_variable led true true r d e h o p k = h
same_variable led false false r d e h o p k = k
same_variable led true false r d e h o p k = absurd (cc)
same_variable led false true r d e h o p k = absurd (cc)

variable_alike : (led : ℕ → ℕ → Type 0) (vs ws : List Variable) → VariablesAlike led vs ws → (n : List ℕ) → AlikeFound
    led (variable vs n) (variable ws n)
variable_alike led [] [] h n = tt
variable_alike led (v ∷ vs) (w ∷ ws) h n =
    same_variable led (bytes_eq n v.name) (bytes_eq n w.name) (ap (λ m. bytes_eq n m) h.0) v.value w.value h.1.0
    (variable vs n) (variable ws n) (variable_alike led vs ws h.1.1 n)
variable_alike led _ _ h n = absurd h

module _ (led : ℕ → ℕ → Type 0) (S T : Setting) (alike : SettingsAlike led S T) where
  instance_alike : (d e : Datum) → Alike led d e → (n' : List ℕ) → AlikeFound led (instance_attribute S d n')
      (instance_attribute T e n')
  instance_alike data_of.indeterminate data_of.indeterminate h n' = tt
  instance_alike (data_of.number a) (data_of.number b) h n' = tt
  instance_alike (data_of.text a) (data_of.text b) h n' = tt
  instance_alike (data_of.bits a) (data_of.bits b) h n' = tt
  instance_alike (data_of.element a) (data_of.element b) h n' = tt
  instance_alike (data_of.logical a) (data_of.logical b) h n' = tt
  instance_alike (data_of.instance a) (data_of.instance b) h n' = alike.attribute a b h n'
  instance_alike (data_of.typed n a) (data_of.typed m b) h n' = tt
  instance_alike (data_of.aggregate s ds) (data_of.aggregate t es) h n' = tt
  instance_alike _ _ h n' = absurd h

  attribute_alike : (d e : Datum) → Alike led d e → (n' : List ℕ) → AlikeFound led (attribute_of S d n')
      (attribute_of T e n')
  attribute_alike d e h n' = instance_alike (bare d) (bare e) (alike_bare led d e h) n'

  dot_alike : (d e : Datum) → Alike led d e → (a : Name) → Alike led (with_attribute S d a) (with_attribute T e a)
  dot_alike d e h a =
      or_this_alike led (attribute_of S d a) (attribute_of T e a) (attribute_alike d e h a) data_of.indeterminate
      data_of.indeterminate tt

  inner_group_alike : (d e : Datum) → Alike led d e → (e' n' : List ℕ) → Alike led (instance_group S d e' n')
      (instance_group T e e' n')
  inner_group_alike data_of.indeterminate data_of.indeterminate h e' n' = tt
  inner_group_alike (data_of.number a) (data_of.number b) h e' n' = tt
  inner_group_alike (data_of.text a) (data_of.text b) h e' n' = tt
  inner_group_alike (data_of.bits a) (data_of.bits b) h e' n' = tt
  inner_group_alike (data_of.element a) (data_of.element b) h e' n' = tt
  inner_group_alike (data_of.logical a) (data_of.logical b) h e' n' = tt
  inner_group_alike (data_of.instance a) (data_of.instance b) h e' n' = alike.attribute_of a b h e' n'
  inner_group_alike (data_of.typed n a) (data_of.typed m b) h e' n' = tt
  inner_group_alike (data_of.aggregate s ds) (data_of.aggregate t es) h e' n' = tt
  inner_group_alike _ _ h e' n' = absurd h

  grouped_alike : (d e : Datum) → Alike led d e → (e' n' : List ℕ) → Alike led (with_group S d e' n')
      (with_group T e e' n')
  grouped_alike d e h e' n' = inner_group_alike (bare d) (bare e) (alike_bare led d e h) e' n'

  type_alike : (d e : Datum) → Alike led d e → (n' : List Item) → is_of_type S (Some n') d ≡ is_of_type T (Some n') e
  type_alike data_of.indeterminate data_of.indeterminate h n' = refl
  type_alike (data_of.number a) (data_of.number b) h n' = refl
  type_alike (data_of.text a) (data_of.text b) h n' = refl
  type_alike (data_of.bits a) (data_of.bits b) h n' = refl
  type_alike (data_of.element a) (data_of.element b) h n' = refl
  type_alike (data_of.logical a) (data_of.logical b) h n' = refl
  type_alike (data_of.instance a) (data_of.instance b) h n' = ap known (alike.has_type a b h n')
  type_alike (data_of.typed n a) (data_of.typed m b) h n' = λ i. known (alike.is_defined_by (h.0 i) n' i)
  type_alike (data_of.aggregate s ds) (data_of.aggregate t es) h n' = refl
  type_alike _ _ h n' = absurd h

  typeof_alike : (o : Option (List Item)) (d e : Datum) → Alike led d e → is_of_type S o d ≡ is_of_type T o e
  typeof_alike None d e h = refl
  typeof_alike (Some n) d e h = type_alike d e h n

  plain_alike : (n : List ℕ) → Alike led (item_value S n) (item_value T n)
  plain_alike n =
      picked_by led (S.is_item n) (T.is_item n) (alike.is_item n) (data_of.element n) data_of.indeterminate
      (data_of.element n) data_of.indeterminate refl tt

  named_alike : (vs ws : List Variable) → VariablesAlike led vs ws → (me you : Datum) → Alike led me you
      → (n : List ℕ) → AlikeFound led (named_value S vs me n) (named_value T ws you n)
  named_alike vs ws v me you m n =
      first_alike led (variable vs n) (variable ws n) (variable_alike led vs ws v n) (attribute_of S me n)
      (attribute_of T you n) (attribute_alike me you m n)

  inside_alike : (c d : Datum) → Alike led c d → (e f : Datum) → Alike led e f → member c (bare e) ≡ member d (bare f)
  inside_alike c d h e f k = member_alike led c d h (bare e) (bare f) (alike_bare led e f k)

  mutual
    pub means_alike : (x : Tree) (vs ws : List Variable) → VariablesAlike led vs ws → (me you : Datum) → Alike led me
        you → Alike led (means S vs me x) (means T ws you x)
    means_alike (literal l) vs ws v me you m = literal_alike led l
    means_alike (signed s n) vs ws v me you m = signed_alike led s n
    means_alike (reference own qs) vs ws v me you m = selected_alike qs vs ws v me you m me you m
    means_alike (reference (named n) qs) vs ws v me you m =
        value_alike led (named_value S vs me n) (named_value T ws you n) (named_alike vs ws v me you m n)
        (item_behind S vs me n qs) (item_behind T ws you n qs) (then_alike qs vs ws v me you m n)
        (λ d. selected S vs me qs d) (λ d. selected T ws you qs d) (λ d e k. selected_alike qs vs ws v me you m d e k)
    means_alike (parenthesized x) vs ws v me you m = means_alike x vs ws v me you m
    means_alike (aggregate xs) vs ws v me you m = tt
    means_alike (interval low above x below high) vs ws v me you m =
        let l = means_alike low vs ws v me you m in
        let a = means_alike x vs ws v me you m in
        let k = means_alike high vs ws v me you m in
        λ i. both (limited_alike led above (means S vs me low) (means S vs me x) (means T ws you low)
        (means T ws you x) l a i)
        (limited_alike led below (means S vs me x) (means S vs me high) (means T ws you x) (means T ws you high) a k i)
    means_alike (query n source condition) vs ws v me you m =
        queried_alike led (λ d. means S (bound n d vs) me condition) (λ d. means T (bound n d ws) you condition)
        (λ d e k. means_alike condition (bound n d vs) (bound n e ws) (refl, (k, v)) me you m)
        (bare (means S vs me source)) (bare (means T ws you source))
        (alike_bare led (means S vs me source) (means T ws you source) (means_alike source vs ws v me you m))
    means_alike (call f x) vs ws v me you m =
        call_alike led f (means S vs me x) (means T ws you x) (means_alike x vs ws v me you m)
    means_alike (nvl x y) vs ws v me you m =
        or_else_alike led (means S vs me x) (means T ws you x) (means_alike x vs ws v me you m) (means S vs me y)
        (means T ws you y) (means_alike y vs ws v me you m)
    means_alike (negation x) vs ws v me you m =
        ap negated (alike_says led (means S vs me x) (means T ws you x) (means_alike x vs ws v me you m))
    means_alike (conjunction x xs) vs ws v me you m =
        all_alike xs vs ws v me you m (says (means S vs me x)) (says (means T ws you x)) (alike_says led
        (means S vs me x) (means T ws you x) (means_alike x vs ws v me you m))
    means_alike (disjunction x xs) vs ws v me you m =
        joined_alike xs vs ws v me you m (says (means S vs me x)) (says (means T ws you x)) (alike_says led
        (means S vs me x) (means T ws you x) (means_alike x vs ws v me you m))
    means_alike (comparison x relations.In y) vs ws v me you m =
        within_alike y vs ws v me you m (string_of x) (means S vs me x) (means T ws you x) (means_alike x vs ws v me
        you m) (means S vs me y) (means T ws you y) (means_alike y vs ws v me you m)
    means_alike (comparison x relations.Equal y) vs ws v me you m =
        compared_alike led relations.Equal (means S vs me x) (means S vs me y) (means T ws you x) (means T ws you y)
        (means_alike x vs ws v me you m) (means_alike y vs ws v me you m)
    means_alike (comparison x relations.NotEqual y) vs ws v me you m =
        compared_alike led relations.NotEqual (means S vs me x) (means S vs me y) (means T ws you x)
        (means T ws you y) (means_alike x vs ws v me you m) (means_alike y vs ws v me you m)
    means_alike (comparison x relations.Less y) vs ws v me you m =
        compared_alike led relations.Less (means S vs me x) (means S vs me y) (means T ws you x) (means T ws you y)
        (means_alike x vs ws v me you m) (means_alike y vs ws v me you m)
    means_alike (comparison x relations.Greater y) vs ws v me you m =
        compared_alike led relations.Greater (means S vs me x) (means S vs me y) (means T ws you x) (means T ws you y)
        (means_alike x vs ws v me you m) (means_alike y vs ws v me you m)
    means_alike (comparison x relations.LessOrEqual y) vs ws v me you m =
        compared_alike led relations.LessOrEqual (means S vs me x) (means S vs me y) (means T ws you x)
        (means T ws you y) (means_alike x vs ws v me you m) (means_alike y vs ws v me you m)
    means_alike (comparison x relations.GreaterOrEqual y) vs ws v me you m =
        compared_alike led relations.GreaterOrEqual (means S vs me x) (means S vs me y) (means T ws you x)
        (means T ws you y) (means_alike x vs ws v me you m) (means_alike y vs ws v me you m)

    pub selected_alike : (qs : Qualifiers) (vs ws : List Variable) → VariablesAlike led vs ws → (me you : Datum)
        → Alike led me you → (d e : Datum) → Alike led d e → Alike led (selected S vs me qs d) (selected T ws you qs
        e)
    selected_alike plain vs ws v me you m d e h = h
    selected_alike (attribute a qs) vs ws v me you m d e h =
        selected_alike qs vs ws v me you m (with_attribute S d a) (with_attribute T e a) (dot_alike d e h a)
    selected_alike (group n a qs) vs ws v me you m d e h =
        selected_alike qs vs ws v me you m (with_group S d n a) (with_group T e n a) (grouped_alike d e h n a)
    selected_alike (index x qs) vs ws v me you m d e h =
        selected_alike qs vs ws v me you m (indexed (bare d) (bare (means S vs me x)))
        (indexed (bare e) (bare (means T ws you x)))
        (indexed_alike led (bare d) (bare e) (alike_bare led d e h) (bare (means S vs me x)) (bare (means T ws you x))
        (alike_bare led (means S vs me x) (means T ws you x) (means_alike x vs ws v me you m)))

    pub then_alike : (qs : Qualifiers) (vs ws : List Variable) → VariablesAlike led vs ws → (me you : Datum) → Alike
        led me you → (n : List ℕ) → Alike led (item_behind S vs me n qs) (item_behind T ws you n qs)
    then_alike plain vs ws v me you m n = plain_alike n
    then_alike (attribute a qs) vs ws v me you m n =
        picked_by led (S.is_item_of n a) (T.is_item_of n a) (alike.is_item_of n a) (selected S vs me qs
        (data_of.element a)) data_of.indeterminate
        (selected T ws you qs (data_of.element a)) data_of.indeterminate (selected_alike qs vs ws v me you m
        (data_of.element a) (data_of.element a) refl) tt
    then_alike (group e a qs) vs ws v me you m n = tt
    then_alike (index x qs) vs ws v me you m n = tt

    pub all_alike : (xs : Trees) (vs ws : List Variable) → VariablesAlike led vs ws → (me you : Datum) → Alike led me
        you → (p q : Logical) → p ≡ q → and_all S vs me p xs ≡ and_all T ws you q xs
    all_alike none vs ws v me you m p q h = h
    all_alike (one x xs) vs ws v me you m p q h =
        all_alike xs vs ws v me you m (both p (says (means S vs me x))) (both q (says (means T ws you x)))
        (λ i. both (h i) (alike_says led (means S vs me x) (means T ws you x) (means_alike x vs ws v me you m) i))

    pub joined_alike : (xs : Alternatives) (vs ws : List Variable) → VariablesAlike led vs ws → (me you : Datum)
        → Alike led me you → (p q : Logical) → p ≡ q → or_all S vs me p xs ≡ or_all T ws you q xs
    joined_alike finish vs ws v me you m p q h = h
    joined_alike (another j x xs) vs ws v me you m p q h =
        joined_alike xs vs ws v me you m (of_junction j p (says (means S vs me x))) (of_junction j q
        (says (means T ws you x))) (λ i. of_junction j (h i) (alike_says led (means S vs me x) (means T ws you x)
        (means_alike x vs ws v me you m) i))

    pub within_alike : (y : Tree) (vs ws : List Variable) → VariablesAlike led vs ws → (me you : Datum) → Alike led me
        you → (s : Option (List Item)) (c d : Datum) → Alike led c d → (e f : Datum) → Alike led e f
        → is_in S vs me s c e y ≡ is_in T ws you s d f y
    within_alike (parenthesized y) vs ws v me you m s c d h e f k = within_alike y vs ws v me you m s c d h e f k
    within_alike (aggregate ys) vs ws v me you m s c d h e f k =
        λ i. if alike_known led c d h i then any_alike ys vs ws v me you m c d h i else Unknown
    within_alike (call functions.Exists x) vs ws v me you m s c d h e f k = inside_alike c d h e f k
    within_alike (call functions.Sizeof x) vs ws v me you m s c d h e f k = inside_alike c d h e f k
    within_alike (call functions.Hiindex x) vs ws v me you m s c d h e f k = inside_alike c d h e f k
    within_alike (call functions.Loindex x) vs ws v me you m s c d h e f k = inside_alike c d h e f k
    within_alike (call functions.Typeof x) vs ws v me you m s c d h e f k =
        typeof_alike s (means S vs me x) (means T ws you x) (means_alike x vs ws v me you m)
    within_alike (literal l) vs ws v me you m s c d h e f k = inside_alike c d h e f k
    within_alike (signed j n) vs ws v me you m s c d h e f k = inside_alike c d h e f k
    within_alike (reference r qs) vs ws v me you m s c d h e f k = inside_alike c d h e f k
    within_alike (interval low above x below high) vs ws v me you m s c d h e f k = inside_alike c d h e f k
    within_alike (query n source condition) vs ws v me you m s c d h e f k = inside_alike c d h e f k
    within_alike (nvl x y) vs ws v me you m s c d h e f k = inside_alike c d h e f k
    within_alike (negation x) vs ws v me you m s c d h e f k = inside_alike c d h e f k
    within_alike (conjunction x xs) vs ws v me you m s c d h e f k = inside_alike c d h e f k
    within_alike (disjunction x xs) vs ws v me you m s c d h e f k = inside_alike c d h e f k
    within_alike (comparison x r y) vs ws v me you m s c d h e f k = inside_alike c d h e f k

    pub any_alike : (ys : Trees) (vs ws : List Variable) → VariablesAlike led vs ws → (me you : Datum) → Alike led me
        you → (c d : Datum) → Alike led c d → among_each S vs me c ys ≡ among_each T ws you d ys
    any_alike none vs ws v me you m c d h = refl
    any_alike (one y ys) vs ws v me you m c d h =
        λ i. either (equal_alike led c (means S vs me y) d (means T ws you y) h (means_alike y vs ws v me you m) i)
        (any_alike ys vs ws v me you m c d h i)
