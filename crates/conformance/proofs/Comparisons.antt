-- Values that are alike have the same truth, compare alike, and so on.
use Rattle.std.proofs.Common.{◌≡◌, ℕ, Bool, true, false, refl, ap, subst, ◌∙◌}
use Rattle.std.specs.Prelude.{if◌then◌else◌}
use Rattle.express_syntax.specs.declared.expression.Logical.{Logical}
use Rattle.express_syntax.specs.declared.expression.Logical.TheVariants.{False, Unknown, True}
use Rattle.express_syntax.specs.declared.expression.Relation.{Relation}
use Rattle.express_syntax.specs.declared.expression.Relation.TheVariants as relations
use Rattle.express_syntax.specs.declared.expression.Limit.{Limit}
use Rattle.express_syntax.specs.declared.expression.Limit.TheVariants as limits
use Rattle.express_logic.specs.Logic.{either, negated}
use Rattle.express_logic.specs.Comparison.{a_number, a_text, some_bits, an_element, a_logical, scalar, equal_scalars, less_scalars, equal, less, among, among_elements, member}
use Rattle.express_logic.specs.Data.{Shape, list, bag, array, Datum, indeterminate, number, text, bits, element, logical, instance, typed, aggregate, Data, none, more, truth, is_known}
use Rattle.conformance.specs.Operations.{bare, says, compared, limited}
use Rattle.conformance.specs.AlikeValues.{IsDataReordering, unchanged, kept, swapped, joined, InOrder, Alike, AlikeEach}

pub alike_scalar : (led : ℕ → ℕ → Type 0) (d e : Datum) → Alike led d e → scalar d ≡ scalar e
alike_scalar led indeterminate indeterminate h = refl
alike_scalar led (number a) (number b) h = ap a_number h
alike_scalar led (text a) (text b) h = ap a_text h
alike_scalar led (bits a) (bits b) h = ap some_bits h
alike_scalar led (element a) (element b) h = ap an_element h
alike_scalar led (logical a) (logical b) h = ap a_logical h
alike_scalar led (instance a) (instance b) h = refl
alike_scalar led (typed n d) (typed m e) h = alike_scalar led d e h.1
alike_scalar led (aggregate s ds) (aggregate t es) h = refl
alike_scalar led _ _ h = absurd h

alike_truth : (led : ℕ → ℕ → Type 0) (d e : Datum) → Alike led d e → truth d ≡ truth e
alike_truth led indeterminate indeterminate h = refl
alike_truth led (number a) (number b) h = refl
alike_truth led (text a) (text b) h = refl
alike_truth led (bits a) (bits b) h = refl
alike_truth led (element a) (element b) h = refl
alike_truth led (logical a) (logical b) h = ap (λ p. p) h
alike_truth led (instance a) (instance b) h = refl
alike_truth led (typed n d) (typed m e) h = refl
alike_truth led (aggregate s ds) (aggregate t es) h = refl
alike_truth led _ _ h = absurd h

-- what is inside typed values that are alike is alike
pub alike_bare : (led : ℕ → ℕ → Type 0) (d e : Datum) → Alike led d e → Alike led (bare d) (bare e)
alike_bare led indeterminate indeterminate h = tt
alike_bare led (number a) (number b) h = h
alike_bare led (text a) (text b) h = h
alike_bare led (bits a) (bits b) h = h
alike_bare led (element a) (element b) h = h
alike_bare led (logical a) (logical b) h = h
alike_bare led (instance a) (instance b) h = h
alike_bare led (typed n d) (typed m e) h = alike_bare led d e h.1
alike_bare led (aggregate s ds) (aggregate t es) h = h
alike_bare led _ _ h = absurd h

pub alike_says : (led : ℕ → ℕ → Type 0) (d e : Datum) → Alike led d e → says d ≡ says e
alike_says led d e h = alike_truth led (bare d) (bare e) (alike_bare led d e h)

pub alike_known : (led : ℕ → ℕ → Type 0) (d e : Datum) → Alike led d e → is_known d ≡ is_known e
alike_known led indeterminate indeterminate h = refl
alike_known led (number a) (number b) h = refl
alike_known led (text a) (text b) h = refl
alike_known led (bits a) (bits b) h = refl
alike_known led (element a) (element b) h = refl
alike_known led (logical a) (logical b) h = refl
alike_known led (instance a) (instance b) h = refl
alike_known led (typed n d) (typed m e) h = refl
alike_known led (aggregate s ds) (aggregate t es) h = refl
alike_known led _ _ h = absurd h

-- the values of a test that is the same, at values that are alike
pub picked : (led : ℕ → ℕ → Type 0) (b : Bool) (c d e f : Datum) → Alike led c e → Alike led d f → Alike led
    (if b then c else d) (if b then e else f)
picked led true c d e f h k = h
picked led false c d e f h k = k

pub picked_by : (led : ℕ → ℕ → Type 0) (b k : Bool) → b ≡ k → (c d e f : Datum) → Alike led c e → Alike led d f
    → Alike led (if b then c else d) (if k then e else f)
picked_by led b k r c d e f h m =
    subst (λ z. Alike led (if b then c else d) (if z then e else f)) r (picked led b c d e f h m)

pub equal_alike : (led : ℕ → ℕ → Type 0) (c d e f : Datum) → Alike led c e → Alike led d f → equal c d ≡ equal e f
equal_alike led c d e f h k = λ i. equal_scalars (alike_scalar led c e h i) (alike_scalar led d f k i)

pub less_alike : (led : ℕ → ℕ → Type 0) (c d e f : Datum) → Alike led c e → Alike led d f → less c d ≡ less e f
less_alike led c d e f h k = λ i. less_scalars (alike_scalar led c e h i) (alike_scalar led d f k i)

pub limited_alike : (led : ℕ → ℕ → Type 0) (l : Limit) (c d e f : Datum) → Alike led c e → Alike led d f → limited l c
    d ≡ limited l e f
limited_alike led limits.Less c d e f h k = less_alike led c d e f h k
limited_alike led limits.LessOrEqual c d e f h k = ap negated (less_alike led d c f e k h)

either_swap : (p q r : Logical) → either p (either q r) ≡ either q (either p r)
either_swap False False False = refl
either_swap False False Unknown = refl
either_swap False False True = refl
either_swap False Unknown False = refl
either_swap False Unknown Unknown = refl
either_swap False Unknown True = refl
either_swap False True False = refl
either_swap False True Unknown = refl
either_swap False True True = refl
either_swap Unknown False False = refl
either_swap Unknown False Unknown = refl
either_swap Unknown False True = refl
either_swap Unknown Unknown False = refl
either_swap Unknown Unknown Unknown = refl
either_swap Unknown Unknown True = refl
either_swap Unknown True False = refl
either_swap Unknown True Unknown = refl
either_swap Unknown True True = refl
either_swap True False False = refl
either_swap True False Unknown = refl
either_swap True False True = refl
either_swap True Unknown False = refl
either_swap True Unknown Unknown = refl
either_swap True Unknown True = refl
either_swap True True False = refl
either_swap True True Unknown = refl
either_swap True True True = refl

pub among_reordered : (d : Datum) {us es : Data} → IsDataReordering us es → among d us ≡ among d es
among_reordered d (unchanged es) = refl
among_reordered d (kept e r) = ap (either (equal d e)) (among_reordered d r)
among_reordered d (swapped e f es) = either_swap (equal d e) (equal d f) (among d es)
among_reordered d (joined r s) = among_reordered d r ∙ among_reordered d s

pub among_in_order : (s : Shape) (d : Datum) (us es : Data) → InOrder s us es → among d us ≡ among d es
among_in_order list d us es r = ap (among d) r
among_in_order bag d us es r = among_reordered d r
among_in_order (array low high) d us es r = ap (among d) r

pub among_each : (led : ℕ → ℕ → Type 0) (d e : Datum) → Alike led d e → (ds es : Data) → AlikeEach led ds es → among d
    ds ≡ among e es
among_each led d e h none none k = refl
among_each led d e h (more a ds) (more b es) k =
    λ i. either (equal_alike led d a e b h k.0 i) (among_each led d e h ds es k.1 i)
among_each led d e h _ _ k = absurd k

elements_alike : (led : ℕ → ℕ → Type 0) (c e : Datum) → Alike led c e → (d f : Datum) → Alike led d f → among_elements
    c d ≡ among_elements e f
elements_alike led c e h (aggregate s ds) (aggregate t es) k =
    among_each led c e h ds k.1.0 k.1.1 ∙ among_in_order s e k.1.0 es k.1.2
elements_alike led c e h indeterminate indeterminate k = refl
elements_alike led c e h (number a) (number b) k = refl
elements_alike led c e h (text a) (text b) k = refl
elements_alike led c e h (bits a) (bits b) k = refl
elements_alike led c e h (element a) (element b) k = refl
elements_alike led c e h (logical a) (logical b) k = refl
elements_alike led c e h (instance a) (instance b) k = refl
elements_alike led c e h (typed n a) (typed m b) k = refl
elements_alike led c e h _ _ k = absurd k

pub member_alike : (led : ℕ → ℕ → Type 0) (c e : Datum) → Alike led c e → (d f : Datum) → Alike led d f → member c d ≡
    member e f
member_alike led c e h d f k = λ i. if alike_known led c e h i then elements_alike led c e h d f k i else Unknown

pub compared_alike : (led : ℕ → ℕ → Type 0) (r : Relation) (c d e f : Datum) → Alike led c e → Alike led d f
    → compared r c d ≡ compared r e f
compared_alike led relations.Equal c d e f h k = equal_alike led c d e f h k
compared_alike led relations.NotEqual c d e f h k = ap negated (equal_alike led c d e f h k)
compared_alike led relations.Less c d e f h k = less_alike led c d e f h k
compared_alike led relations.Greater c d e f h k = less_alike led d c f e k h
compared_alike led relations.LessOrEqual c d e f h k = ap negated (less_alike led d c f e k h)
compared_alike led relations.GreaterOrEqual c d e f h k = ap negated (less_alike led c d e f h k)
compared_alike led relations.In c d e f h k = member_alike led c e h d f k
