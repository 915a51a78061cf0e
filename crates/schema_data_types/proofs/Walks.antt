-- Walks from two data types at once: `agree`.
use Rattle.std.proofs.Common.{◌≡◌, ℕ, zero, suc, ◌<◌, ◌∙◌, sym, Bool, true, false, ◌||◌, List, [], ◌∷◌, get_or, length, eqb, ◌⊎◌, inl, inr, refl, arith}
use Rattle.std.specs.Cmp.{IsEquivalence}
use Rattle.std.specs.List.{list_any, IsDistinct}
use Rattle.std.proofs.lemmas.Bool.Decides.{nat_tests}
use Rattle.std.proofs.lemmas.Option.{slice_get-get_or}
use Rattle.std.proofs.lemmas.Map.Steps.{length-le_from_distinct_below}
use Rattle.schema_data_types.specs.declared.shapes.Shape.{Shape}
use Rattle.schema_data_types.specs.declared.shapes.Shape.TheVariants.{Numbers, Arrays, Lists, Collections}
use Rattle.schema_data_types.specs.steps.Alike.{LeadsBelow, IsTable}
use Rattle.schema_data_types.specs.steps.Comparing.{element, kind_at, onward, next, agree}
use Rattle.schema_data_types.proofs.Classes.{IsFiner, one-apart, distinct-finer}

agree-refl : (s : List Shape) (r k : ℕ) → agree s r k k ≡ true
unfolding agree
agree-refl s zero k = refl
agree-refl s (suc r) k = let later = agree-refl s r (next s k) in grind (arith, nat_tests)

agree-symm : (s : List Shape) (r k l : ℕ) → agree s r k l ≡ agree s r l k
unfolding agree
agree-symm s zero k l = refl
agree-symm s (suc r) k l = let later = agree-symm s r (next s k) (next s l) in
    let turned : eqb (kind_at s k) (kind_at s l) ≡ eqb (kind_at s l) (kind_at s k) = grind (arith, nat_tests) in cc

-- the two halves of a step
pub first-kind : (s : List Shape) (r k l : ℕ) → agree s (suc r) k l ≡ true → kind_at s k ≡ kind_at s l
unfolding agree
first-kind s r k l h = grind (arith, nat_tests)

pub later-agree : (s : List Shape) (r k l : ℕ) → agree s (suc r) k l ≡ true → agree s r (next s k) (next s l) ≡ true
unfolding agree
later-agree s r k l h = grind (arith, nat_tests)

pub step-agree : (s : List Shape) (r k l : ℕ) → kind_at s k ≡ kind_at s l
    → agree s (suc r) k l ≡ agree s r (next s k) (next s l)
unfolding agree
step-agree s r k l e = grind (arith, nat_tests)

pub kinds-apart : (s : List Shape) (r k l : ℕ) → (kind_at s k ≡ kind_at s l → ⊥) → agree s (suc r) k l ≡ false
unfolding agree
kinds-apart s r k l e = grind (arith, nat_tests)

agree-congr : (s : List Shape) (r k l m : ℕ) → agree s r k l ≡ true → agree s r k m ≡ agree s r l m
unfolding agree
agree-congr s zero k l m h = refl
agree-congr s (suc r) k l m h =
    let later = agree-congr s r (next s k) (next s l) (next s m) (later-agree s r k l h) in
    let kinds = first-kind s r k l h in cc

pub agree-laws : (s : List Shape) (r : ℕ) → IsEquivalence (agree s r)
agree-laws s r = record { refl = agree-refl s r; symm = agree-symm s r; congr = agree-congr s r }

pub agree-finer : (s : List Shape) (r : ℕ) → IsFiner (agree s (suc r)) (agree s r)
unfolding agree
agree-finer s zero k l h = refl
agree-finer s (suc r) k l h =
    step-agree s r k l (first-kind s (suc r) k l h)
    ∙ agree-finer s r (next s k) (next s l) (later-agree s (suc r) k l h)

-- a step stays in the table
onward-below : (n : ℕ) (f : Shape) (k : ℕ) → k < n → LeadsBelow n f → onward (element f) k < n
onward-below n (Arrays l) k h b = b
onward-below n (Lists l) k h b = b
onward-below n (Collections l) k h b = b
onward-below n f k h b = h

pub next-below : (s : List Shape) (k : ℕ) → IsTable s → k < length s → next s k < length s
next-below s k table h =
    onward-below (length s) (get_or s k Numbers) k h (table k (get_or s k Numbers) (slice_get-get_or s k Numbers h))

-- Where two agree for r steps and no more, so does what they lead to for a step less, and so on. Each of these pairs
-- tells a class more apart: in the end there are r + 1 data types of which no two agree for r + 1 steps.
pub record Spread (s : List Shape) (r : ℕ) : Type 0 where
  pub of : List ℕ
  pub many : length of ≡ r
  pub distinct : IsDistinct (agree s r) of
  pub below : (q : ℕ) → list_any (eqb q) of ≡ true → q < length s

one-more : (s : List Shape) (r a b : ℕ) → a < length s → b < length s → agree s r a b ≡ true
    → agree s (suc r) a b ≡ false → Spread s r → Spread s (suc r)
one-more s r a b al bl ab apart h =
    let more = one-apart (agree s r) (agree s (suc r)) (agree-laws s r) (agree-laws s (suc r)) (agree-finer s r) a b ab
    apart h.of h.distinct in record {
      of = more.0 ∷ h.of;
      many = (let many = h.many in omega arith);
      distinct = more.2;
      below = λ q e. within q more.0 (list_any (eqb q) h.of) more.1 (h.below q) e;
    }
  where
    within : (q x : ℕ) (c : Bool) → ((x ≡ a) ⊎ (x ≡ b)) → (c ≡ true → q < length s) → (eqb q x || c) ≡ true
        → q < length s
    within q x true which later e = later refl
    within q x false (inl g) later e = grind (arith, nat_tests)
    within q x false (inr g) later e = grind (arith, nat_tests)

none-apart : (s : List Shape) → Spread s zero
unfolding IsDistinct
none-apart s = record { of = []; many = refl; distinct = tt; below = λ q e. absurd (cc) }

pub spread : (s : List Shape) → IsTable s → (r k l : ℕ) → k < length s → l < length s → agree s r k l ≡ true
    → agree s (suc r) k l ≡ false → Spread s (suc r)
spread s table zero k l kl ll e f = one-more s zero k l kl ll e f (none-apart s)
spread s table (suc r) k l kl ll e f = one-more s (suc r) k l kl ll e f
    (spread s table r (next s k) (next s l) (next-below s k table kl) (next-below s l table ll)
    (later-agree s r k l e) (sym (step-agree s (suc r) k l (first-kind s r k l e)) ∙ f))

same-agree : (s : List Shape) (r : ℕ) → IsFiner eqb (agree s r)
same-agree s r k l h = let e : k ≡ l = grind (arith, nat_tests) in rw e (agree-refl s r l)

-- what agrees for a step for each data type agrees for one more
pub stays : (s : List Shape) → IsTable s → (k l : ℕ) → k < length s → l < length s → agree s (length s) k l ≡ true
    → agree s (suc (length s)) k l ≡ true
stays s table k l kl ll e = case (agree s (suc (length s)) k l) refl
  where
    case : (c : Bool) → agree s (suc (length s)) k l ≡ c → agree s (suc (length s)) k l ≡ true
    case true f = f
    case false f = let h = spread s table (length s) k l kl ll e f in
        let few = length-le_from_distinct_below h.of (length s)
        (distinct-finer (agree s (suc (length s))) eqb (same-agree s (suc (length s))) h.of h.distinct) h.below in
        let many = h.many in absurd (omega arith)
