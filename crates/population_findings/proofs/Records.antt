-- Records one after another.
use Rattle.std.specs.Prelude.{◌≡◌, ℕ, zero, suc, ◌+◌, Bool, true, false, ◌&&◌, not, cond, List, [], ◌∷◌, ◌++◌, length, map, take, Some, slice_get}
use Rattle.std.specs.List.{filter}
use Rattle.std.proofs.Common.{refl, sym, ap, subst, ◌∙◌, arith, add-one, zero-add}
use Rattle.step_structures.specs.Trees.{Tree, Record}
use Rattle.step_exchange.specs.Views.{record_in}
use Rattle.step_exchange.proofs.Writing.{take_next}
use Rattle.schema_names.proofs.Rows.{map-joined}
use Rattle.express_syntax.specs.Schemas.{Schema}
use Rattle.schema_semantics.specs.Names.{IsEntity}
use Rattle.schema_names.specs.Numbers.{HasNumber}
use Rattle.conformance.specs.ParameterFits.{is_entity}
use Rattle.conformance.specs.Entities.{named_entity, how_many}
use Rattle.population_findings.specs.steps.Keywords.{are_entities, unknown_among, NumberAll}

-- in a loop: the records up to one more
pub records-next : (xs : List Tree) (i : ℕ) (x : Tree) → slice_get xs i ≡ Some x
    → map record_in (take (i + 1) xs) ≡ map record_in (take i xs) ++ record_in x ∷ []
records-next xs i x at =
    let t : take (i + 1) xs ≡ take i xs ++ x ∷ [] = rw add-one (take_next xs i x at) in
    ap (map record_in) t ∙ map-joined record_in (take i xs) (x ∷ [])

count-joined : (b : Bool) (r : Record) (xs ys zs : List Record) → length zs ≡ length xs + length ys
    → length (cond b (r ∷ zs) zs) ≡ length (cond b (r ∷ xs) xs) + length ys
count-joined true r xs ys zs h = omega (arith, h)
count-joined false r xs ys zs h = h

how-many-joined : (test : Record → Bool) (xs ys : List Record)
    → how_many test (xs ++ ys) ≡ how_many test xs + how_many test ys
how-many-joined test [] ys = sym (zero-add (how_many test ys))
how-many-joined test (x ∷ xs) ys =
    count-joined (test x) x (filter test xs) (filter test ys) (filter test (xs ++ ys)) (how-many-joined test xs ys)

pub unknown-next : (s : Schema) (xs : List Tree) (i : ℕ) (x : Tree) → slice_get xs i ≡ Some x
    → unknown_among s (map record_in (take (i + 1) xs))
    ≡ unknown_among s (map record_in (take i xs)) + unknown_among s (record_in x ∷ [])
unknown-next s xs i x at =
    ap (unknown_among s) (records-next xs i x at)
    ∙ how-many-joined (λ (r : Record). not (is_entity s (named_entity r))) (map record_in (take i xs))
    (record_in x ∷ [])

-- one more that is numbered
and-true : (a b : Bool) → a ≡ true → b ≡ true → (a && b) ≡ true
and-true a b h k = rw (h, k) refl

number-more : (s : Schema) (rs : List Record) (is : List ℕ) (r : Record) (i : ℕ) → NumberAll s rs is true
    → (is_entity s (named_entity r) ≡ true) → IsEntity s (named_entity r) → HasNumber s (named_entity r) i
    → NumberAll s (rs ++ r ∷ []) (is ++ i ∷ []) true
number-more s [] [] r i h a b n = (and-true (is_entity s (named_entity r)) true a refl, ((b, n), tt))
number-more s [] (j ∷ is) r i h a b n = absurd h.1
number-more s (q ∷ rs) [] r i h a b n = absurd h.1
number-more s (q ∷ rs) (j ∷ is) r i h a b n =
    let front = both (is_entity s (named_entity q)) (are_entities s rs) h.0 in
    let more = number-more s rs is r i (front.1, h.1.1) a b n in
    (and-true (is_entity s (named_entity q)) (are_entities s (rs ++ r ∷ [])) front.0 more.0, (h.1.0, more.1))
  where
    both : (a b : Bool) → (a && b) ≡ true → (a ≡ true) × (b ≡ true)
    both true b h = (refl, h)
    both false b h = absurd (cc)

pub number-next : (s : Schema) (xs : List Tree) (is : List ℕ) (k : ℕ) (x : Tree) (i : ℕ) → slice_get xs k ≡ Some x
    → NumberAll s (map record_in (take k xs)) is true
    → (is_entity s (named_entity (record_in x)) ≡ true) × IsEntity s (named_entity (record_in x))
    × HasNumber s (named_entity (record_in x)) i
    → NumberAll s (map record_in (take (k + 1) xs)) (is ++ i ∷ []) true
number-next s xs is k x i at h e =
    subst (λ rs. NumberAll s rs (is ++ i ∷ []) true) (sym (records-next xs k x at))
    (number-more s (map record_in (take k xs)) is (record_in x) i h e.0 e.1 e.2)

-- one that is none
and-false : (a b : Bool) → b ≡ false → (a && b) ≡ false
and-false true b h = h
and-false false b h = refl

pub not-all : (s : Schema) (xs : List Tree) (k : ℕ) (x : Tree) → slice_get xs k ≡ Some x
    → is_entity s (named_entity (record_in x)) ≡ false → are_entities s (map record_in xs) ≡ false
not-all s [] k x at h = absurd (cc)
not-all s (y ∷ xs) zero x at h =
    let same : y ≡ x = cc in
    ap (λ b. b && are_entities s (map record_in xs)) (ap (λ z. is_entity s (named_entity (record_in z))) same ∙ h)
not-all s (y ∷ xs) (suc k) x at h =
    and-false (is_entity s (named_entity (record_in y))) (are_entities s (map record_in xs)) (not-all s xs k x at h)

-- none is unknown where all are entities
pub none-unknown : (s : Schema) (rs : List Record) → are_entities s rs ≡ true → unknown_among s rs ≡ 0
none-unknown s [] h = refl
none-unknown s (r ∷ rs) h = by (is_entity s (named_entity r)) h (none-unknown s rs)
  where
    by : (b : Bool) → (b && are_entities s rs) ≡ true → (are_entities s rs ≡ true → unknown_among s rs ≡ 0)
        → length (cond (not b) (r ∷ filter (λ (q : Record). not (is_entity s (named_entity q))) rs)
        (filter (λ (q : Record). not (is_entity s (named_entity q))) rs)) ≡ 0
    by true k more = more k
    by false k more = absurd (cc)

pub some-unknown : (s : Schema) (rs : List Record) → (are_entities s rs ≡ true → ⊥) → (n : ℕ)
    × (unknown_among s rs ≡ suc n)
some-unknown s [] h = absurd (h refl)
some-unknown s (r ∷ rs) h = by (is_entity s (named_entity r)) h (some-unknown s rs)
  where
    by : (b : Bool) → ((b && are_entities s rs) ≡ true → ⊥)
        → ((are_entities s rs ≡ true → ⊥) → (n : ℕ) × (unknown_among s rs ≡ suc n)) → (n : ℕ)
        × (length (cond (not b) (r ∷ filter (λ (q : Record). not (is_entity s (named_entity q))) rs)
        (filter (λ (q : Record). not (is_entity s (named_entity q))) rs)) ≡ suc n)
    by true k more = more k
    by false k more = (length (filter (λ (q : Record). not (is_entity s (named_entity q))) rs), refl)

-- one record
pub known-one : (s : Schema) (r : Record) → is_entity s (named_entity r) ≡ true → 0 ≡ unknown_among s (r ∷ [])
known-one s r e = sym (ap (λ b. length (cond (not b) (r ∷ []) [])) e)

pub unknown-one : (s : Schema) (r : Record) → is_entity s (named_entity r) ≡ false → 1 ≡ unknown_among s (r ∷ [])
unknown-one s r e = sym (ap (λ b. length (cond (not b) (r ∷ []) [])) e)
