-- What the tables and the comparisons decide.
use Rattle.std.proofs.Common.{◌≡◌, Bool, true, false, ◌==◌, nat_lt, ℤ, ◌<ℤ◌, int_lt, int_cmp, List, Decides, refl, sym, ap, ◌∙◌, ◌↔◌, ◌⊎◌, inl, inr, eqb-true, eq-eqb, ltb-true, lt-ltb, Ordering, Less, Equal, Greater, is_lt}
use Rattle.std.specs.Prelude.{cond}
use Rattle.std.specs.Cmp.{signed_Decides, booleans_Decides, int_ranks, int_cmp_is}
use Rattle.std.specs.Cmp.Lexicographic.{pointwise_decides}
use Rattle.std.specs.Ordering.{int_eq, MatchOrdering}
use Rattle.std.specs.Str.{bytes_eq}
use Rattle.std.proofs.lemmas.Bool.{and_parts, and_from}
use Rattle.std.proofs.lemmas.Slice.Eq.{bytes_eq-Decides}
use Rattle.step_literals.specs.declared.literal.items.Item.{Item}
use Rattle.step_literals.specs.declared.literal.items.Item.TheVariants.{Code, Page, Raw}
use Rattle.express_syntax.specs.declared.expression.Logical.{Logical}
use Rattle.express_syntax.specs.declared.expression.Logical.TheVariants.{False, Unknown, True}
use Rattle.express_logic.specs.Logic.{either, known, rank}
use Rattle.express_logic.specs.Data.{Datum, aggregate, Data, none, more}
use Rattle.express_logic.specs.Comparison.{Scalar, a_number, a_text, some_bits, an_element, a_logical, scalar, same_item, same_text, same_bits, equal_scalars, less_scalars, equal, among, member}
use Rattle.express_logic.specs.Laws.{LogicHasItsOrder, IsOneKind, IsSame, EqualValuesAreTheSame, HaveOrder, IsLessScalar, LesserValuesAreBelow, IsOneOf, MembersAreEqualElements}
use Rattle.express_logic.proofs.Ordered.{less_told}

pub logic_order : LogicHasItsOrder
logic_order False False = (refl, refl, refl, refl)
logic_order False Unknown = (refl, refl, refl, refl)
logic_order False True = (refl, refl, refl, refl)
logic_order Unknown False = (refl, refl, refl, refl)
logic_order Unknown Unknown = (refl, refl, refl, refl)
logic_order Unknown True = (refl, refl, refl, refl)
logic_order True False = (refl, refl, refl, refl)
logic_order True Unknown = (refl, refl, refl, refl)
logic_order True True = (refl, refl, refl, refl)

-- tests of two values of a kind

item_decides : (i j : Item) → Decides (same_item i j) (i ≡ j)
item_decides (Code c) (Code d) = (λ e. ap Code (eqb-true c d e), λ e. eq-eqb c d (cc))
item_decides (Page p b) (Page q c) = (
  λ e. let parts = and_parts (p == q) (b == c) e in
      let page : p ≡ q = eqb-true p q parts.0 in
      let byte : b ≡ c = eqb-true b c parts.1 in cc,
  λ e. and_from (p == q) (b == c) (eq-eqb p q (cc)) (eq-eqb b c (cc)),
)
item_decides (Raw b) (Raw c) = (λ e. ap Raw (eqb-true b c e), λ e. eq-eqb b c (cc))
item_decides _ _ = (λ e. absurd (cc), λ e. absurd (cc))

text_decides : (s t : List Item) → Decides (same_text s t) (s ≡ t)
text_decides = pointwise_decides item_decides

bits_decide : (b c : List Bool) → Decides (same_bits b c) (b ≡ c)
bits_decide = pointwise_decides booleans_Decides

rank_decides : (p q : Logical) → Decides (rank p == rank q) (p ≡ q)
rank_decides False False = (λ e. refl, λ e. refl)
rank_decides Unknown Unknown = (λ e. refl, λ e. refl)
rank_decides True True = (λ e. refl, λ e. refl)
rank_decides _ _ = (λ e. absurd (cc), λ e. absurd (cc))

-- what is answered where a test decides, and where there is none
told : {K P : Type 0} (b : Bool) → K → Decides b P → ((known b ≡ True) ↔ (K × P)) × ((known b ≡ Unknown) ↔ (K → ⊥))
told true k d = ((λ e. (k, d.0 refl), λ h. refl), (λ e. absurd (cc), λ h. absurd (h k)))
told false k d = (
  (λ e. absurd (cc), λ h. absurd (let q : false ≡ true = d.1 h.1 in cc)),
  (λ e. absurd (cc), λ h. absurd (h k)),
)

untold : {K P : Type 0} → (K → ⊥) → ((Unknown ≡ True) ↔ (K × P)) × ((Unknown ≡ Unknown) ↔ (K → ⊥))
untold n = ((λ e. absurd (cc), λ h. absurd (n h.0)), (λ e. n, λ h. refl))

scalars_told : (s t : Scalar) → ((equal_scalars s t ≡ True) ↔ IsSame s t)
    × ((equal_scalars s t ≡ Unknown) ↔ (IsOneKind s t → ⊥))
scalars_told (a_number y) (a_number z) =
    told (int_eq y z) tt (λ e. ap a_number ((signed_Decides y z).0 e), λ e. (signed_Decides y z).1 (cc))
scalars_told (a_text s) (a_text t) =
    told (same_text s t) tt (λ e. ap a_text ((text_decides s t).0 e), λ e. (text_decides s t).1 (cc))
scalars_told (some_bits b) (some_bits c) =
    told (same_bits b c) tt (λ e. ap some_bits ((bits_decide b c).0 e), λ e. (bits_decide b c).1 (cc))
scalars_told (an_element d) (an_element e) =
    told (bytes_eq d e) tt (λ h. ap an_element ((bytes_eq-Decides d e).0 h), λ h. (bytes_eq-Decides d e).1 (cc))
scalars_told (a_logical p) (a_logical q) =
    told (rank p == rank q) tt (λ e. ap a_logical ((rank_decides p q).0 e), λ e. (rank_decides p q).1 (cc))
scalars_told _ _ = untold (λ k. k)

pub equal_same : EqualValuesAreTheSame
equal_same d e = scalars_told (scalar d) (scalar e)

-- the order of two values of a kind

below_told : {K P : Type 0} (b : Bool) → K → Decides b P → ((known b ≡ True) ↔ P) × ((known b ≡ Unknown) ↔ (K → ⊥))
below_told true k d = ((λ e. d.0 refl, λ h. refl), (λ e. absurd (cc), λ h. absurd (h k)))
below_told false k d = (
  (λ e. absurd (cc), λ h. absurd (let q : false ≡ true = d.1 h in cc)),
  (λ e. absurd (cc), λ h. absurd (h k)),
)

below_untold : {K : Type 0} → (K → ⊥) → ((Unknown ≡ True) ↔ ⊥) × ((Unknown ≡ Unknown) ↔ (K → ⊥))
below_untold n = ((λ e. absurd (cc), λ h. absurd h), (λ e. n, λ h. refl))

ranked_less : (x y : ℤ) (r : Ordering) → MatchOrdering r (x <ℤ y) (x ≡ y) (y <ℤ x) → is_lt r ≡ true → x <ℤ y
ranked_less x y Less h e = h
ranked_less x y Equal h e = absurd (cc)
ranked_less x y Greater h e = absurd (cc)

int_lt_decides : (x y : ℤ) → Decides (int_lt x y) (x <ℤ y)
int_lt_decides x y = (
  λ e. ranked_less x y (int_cmp x y) (int_ranks x y) (less_told x y ∙ e),
  λ h. sym (less_told x y) ∙ ap is_lt (sym (int_cmp_is x y Less h)),
)

less_told_by : (s t : Scalar) → ((less_scalars s t ≡ True) ↔ IsLessScalar s t)
    × ((less_scalars s t ≡ Unknown) ↔ (HaveOrder s t → ⊥))
less_told_by (a_number y) (a_number z) = below_told (int_lt y z) tt (int_lt_decides y z)
less_told_by (a_logical p) (a_logical q) =
    below_told (nat_lt (rank p) (rank q)) tt (ltb-true (rank p) (rank q), lt-ltb (rank p) (rank q))
less_told_by _ _ = below_untold (λ k. k)

pub lesser_below : LesserValuesAreBelow
lesser_below d e = less_told_by (scalar d) (scalar e)

-- elements

either_is_true : (p q : Logical) → either p q ≡ True → (p ≡ True) ⊎ (q ≡ True)
either_is_true True q h = inl refl
either_is_true False q h = inr (by q h)
  where
    by : (q : Logical) → either False q ≡ True → q ≡ True
    by True h = refl
    by False h = absurd (cc)
    by Unknown h = absurd (cc)
either_is_true Unknown True h = inr refl
either_is_true Unknown False h = absurd (cc)
either_is_true Unknown Unknown h = absurd (cc)

either_is_false : (p q : Logical) → either p q ≡ False → (p ≡ False) × (q ≡ False)
either_is_false False False h = (refl, refl)
either_is_false True q h = absurd (cc)
either_is_false False Unknown h = absurd (cc)
either_is_false False True h = absurd (cc)
either_is_false Unknown False h = absurd (cc)
either_is_false Unknown Unknown h = absurd (cc)
either_is_false Unknown True h = absurd (cc)

either_true : (p : Logical) → either p True ≡ True
either_true False = refl
either_true Unknown = refl
either_true True = refl

found_in : (d x : Datum) (es : Data) → (among d es ≡ True → (e : Datum) × IsOneOf e es × (equal d e ≡ True))
    → (equal d x ≡ True) ⊎ (among d es ≡ True) → (e : Datum) × IsOneOf e (more x es) × (equal d e ≡ True)
found_in d x es rest (inl k) = (x, inl refl, k)
found_in d x es rest (inr k) = let r = rest k in (r.0, inr r.1, r.2)

find : (d : Datum) (es : Data) → among d es ≡ True → (e : Datum) × IsOneOf e es × (equal d e ≡ True)
find d none h = absurd (cc)
find d (more x es) h = found_in d x es (λ k. find d es k) (either_is_true (equal d x) (among d es) h)

found : (d : Datum) (es : Data) (e : Datum) → IsOneOf e es → equal d e ≡ True → among d es ≡ True
found d none e m k = absurd m
found d (more x es) e (inl q) k = ap (λ p. either p (among d es)) (ap (equal d) (sym q) ∙ k)
found d (more x es) e (inr m) k = ap (either (equal d x)) (found d es e m k) ∙ either_true (equal d x)

each : (d : Datum) (es : Data) → among d es ≡ False → (e : Datum) → IsOneOf e es → equal d e ≡ False
each d none h e m = absurd m
each d (more x es) h e (inl q) = ap (equal d) q ∙ (either_is_false (equal d x) (among d es) h).0
each d (more x es) h e (inr m) = each d es (either_is_false (equal d x) (among d es) h).1 e m

none_found : (d : Datum) (es : Data) → ((e : Datum) → IsOneOf e es → equal d e ≡ False) → among d es ≡ False
none_found d none f = refl
none_found d (more x es) f =
    let rest = none_found d es (λ e m. f e (inr m)) in λ i. either (f x (inl refl) i) (rest i)

pub members_equal : MembersAreEqualElements
members_equal d s es h =
    let q : member d (aggregate s es) ≡ among d es = ap (λ b. cond b (among d es) Unknown) h in (
      (λ e. find d es (sym q ∙ e), λ k. q ∙ found d es k.0 k.1 k.2),
      (λ e. each d es (sym q ∙ e), λ f. q ∙ none_found d es f),
    )
