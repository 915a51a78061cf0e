-- Relations that keep shapes, and walks from two data types at once.
use Rattle.std.proofs.Common.{◌≡◌, ℕ, zero, suc, ◌<◌, ◌-◌, ◌+◌, ◌∙◌, sym, Bool, true, false, ◌&&◌, List, get_or, length, ltb, Option, Some, None, refl, ap, arith}
use Rattle.std.proofs.lemmas.Bool.Decides.{nat_tests}
use Rattle.std.proofs.lemmas.Option.{slice_get-get_or, get_or_from_slice_get}
use Rattle.schema_data_types.specs.declared.shapes.Shape.{Shape}
use Rattle.schema_data_types.specs.declared.shapes.Shape.TheVariants.{Numbers, Logicals, Strings, Binaries, Items, Instances, Arrays, Lists, Collections}
use Rattle.schema_data_types.specs.steps.Alike.{IsTable, AreOne, KeepsShapes, AreAlikeAt}
use Rattle.schema_data_types.specs.steps.Comparing.{kind, element, kind_at, onward, next, agree}
use Rattle.schema_data_types.proofs.Walks.{first-kind, later-agree, step-agree, kinds-apart, next-below, stays}

-- shapes that are one are of one kind, and lead to what R relates
one-onward : (R : ℕ → ℕ → Bool) (f g : Shape) (k l : ℕ) → R k l ≡ true → AreOne R f g
    → (kind f ≡ kind g) × (R (onward (element f) k) (onward (element g) l) ≡ true)
one-onward R Numbers Numbers k l h e = (refl, h)
one-onward R Logicals Logicals k l h e = (refl, h)
one-onward R Strings Strings k l h e = (refl, h)
one-onward R Binaries Binaries k l h e = (refl, h)
one-onward R Items Items k l h e = (refl, h)
one-onward R Instances Instances k l h e = (refl, h)
one-onward R (Arrays a) (Arrays b) k l h e = (refl, e)
one-onward R (Lists a) (Lists b) k l h e = (refl, e)
one-onward R (Collections a) (Collections b) k l h e = (refl, e)
one-onward R f g k l h e = absurd e

onward-one : (R : ℕ → ℕ → Bool) (f g : Shape) (k l : ℕ) → kind f ≡ kind g
    → R (onward (element f) k) (onward (element g) l) ≡ true → AreOne R f g
onward-one R Numbers Numbers k l e h = tt
onward-one R Logicals Logicals k l e h = tt
onward-one R Strings Strings k l e h = tt
onward-one R Binaries Binaries k l e h = tt
onward-one R Items Items k l e h = tt
onward-one R Instances Instances k l e h = tt
onward-one R (Arrays a) (Arrays b) k l e h = h
onward-one R (Lists a) (Lists b) k l e h = h
onward-one R (Collections a) (Collections b) k l e h = h
onward-one R f g k l e h = absurd (omega arith)

-- what a relation that keeps shapes relates agrees for any number of steps
pub related-agree : (s : List Shape) (R : ℕ → ℕ → Bool) → KeepsShapes s R → (r k l : ℕ) → R k l ≡ true
    → agree s r k l ≡ true
unfolding agree
related-agree s R keeps zero k l h = refl
related-agree s R keeps (suc r) k l h =
    let at = keeps k l h in
    let ours = get_or_from_slice_get s k at.0 Numbers at.2 in
    let theirs = get_or_from_slice_get s l at.1 Numbers at.3 in
    let on = one-onward R at.0 at.1 k l h at.4 in
    let kinds : kind_at s k ≡ kind_at s l = ap kind ours ∙ on.0 ∙ sym (ap kind theirs) in
    let to : next s k ≡ onward (element at.0) k = ap (λ (f : Shape). onward (element f) k) ours in
    let other : next s l ≡ onward (element at.1) l = ap (λ (f : Shape). onward (element f) l) theirs in
    let related : R (next s k) (next s l) ≡ true = ap (λ (a : ℕ). R a (next s l)) to
    ∙ ap (λ (b : ℕ). R (onward (element at.0) k) b) other ∙ on.1 in
    step-agree s r k l kinds ∙ related-agree s R keeps r (next s k) (next s l) related

-- data types of the table that agree for a step for each
within : List Shape → ℕ → ℕ → Bool
within s k l = ltb k (length s) && (ltb l (length s) && agree s (length s) k l)

within-made : (s : List Shape) (k l : ℕ) → k < length s → l < length s → agree s (length s) k l ≡ true
    → within s k l ≡ true
unfolding within
within-made s k l kl ll e = grind (arith, nat_tests)

within-parts : (s : List Shape) (k l : ℕ) → within s k l ≡ true
    → (k < length s) × (l < length s) × (agree s (length s) k l ≡ true)
unfolding within
within-parts s k l e = (grind (arith, nat_tests), grind (arith, nat_tests), grind (arith, nat_tests))

within-keeps : (s : List Shape) → IsTable s → KeepsShapes s (within s)
within-keeps s table k l h =
    let parts = within-parts s k l h in
    let more = stays s table k l parts.0 parts.1 parts.2 in
    let later = within-made s (next s k) (next s l) (next-below s k table parts.0) (next-below s l table parts.1)
    (later-agree s (length s) k l more) in (
      get_or s k Numbers,
      get_or s l Numbers,
      slice_get-get_or s k Numbers parts.0,
      slice_get-get_or s l Numbers parts.1,
      onward-one (within s) (get_or s k Numbers) (get_or s l Numbers) k l (first-kind s (length s) k l more) later,
    )

pub agree-alike : (s : List Shape) → IsTable s → (k l : ℕ) → k < length s → l < length s
    → agree s (length s) k l ≡ true → AreAlikeAt s k l
agree-alike s table k l kl ll e = (within s, within-made s k l kl ll e, within-keeps s table)

-- the walk of the code, at its step i of n
pub ends-apart : (s : List Shape) (n i k l : ℕ) → i < n → (kind_at s k ≡ kind_at s l → ⊥)
    → agree s (n - i) k l ≡ false
ends-apart s n i k l lt e =
    let more : n - i ≡ suc (n - (i + 1)) = omega arith in rw more (kinds-apart s (n - (i + 1)) k l e)

pub goes-on : (s : List Shape) (n i k l a b : ℕ) → i < n → kind_at s k ≡ kind_at s l
    → element (get_or s k Numbers) ≡ Some a → element (get_or s l Numbers) ≡ Some b
    → agree s (n - i) k l ≡ agree s (n - (i + 1)) a b
goes-on s n i k l a b lt e f g =
    let more : n - i ≡ suc (n - (i + 1)) = omega arith in
    let to : next s k ≡ a = ap (λ (o : Option ℕ). onward o k) f in
    let other : next s l ≡ b = ap (λ (o : Option ℕ). onward o l) g in
    ap (λ (m : ℕ). agree s m k l) more ∙ step-agree s (n - (i + 1)) k l e
    ∙ ap (λ (m : ℕ). agree s (n - (i + 1)) m (next s l)) to ∙ ap (λ (m : ℕ). agree s (n - (i + 1)) a m) other

pub ends-alike : (s : List Shape) (r k l : ℕ) → kind_at s k ≡ kind_at s l → element (get_or s k Numbers) ≡ None
    → element (get_or s l Numbers) ≡ None → agree s r k l ≡ true
unfolding agree
ends-alike s zero k l e f g = refl
ends-alike s (suc r) k l e f g =
    let to : next s k ≡ k = ap (λ (o : Option ℕ). onward o k) f in
    let other : next s l ≡ l = ap (λ (o : Option ℕ). onward o l) g in
    step-agree s r k l e ∙ ap (λ (m : ℕ). agree s r m (next s l)) to ∙ ap (λ (m : ℕ). agree s r k m) other
    ∙ ends-alike s r k l e f g

pub alike-agree : (s : List Shape) (r k l : ℕ) → AreAlikeAt s k l → agree s r k l ≡ true
alike-agree s r k l h = related-agree s h.0 h.2 r k l h.1

pub leads-below : (s : List Shape) (k a : ℕ) → IsTable s → k < length s → element (get_or s k Numbers) ≡ Some a
    → a < length s
leads-below s k a table h e =
    let to : next s k ≡ a = ap (λ (o : Option ℕ). onward o k) e in
    let lt = next-below s k table h in
    rw to at lt
