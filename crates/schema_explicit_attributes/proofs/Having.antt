-- Whether an entity has an attribute, decided by the numbers above its own.
use Rattle.std.specs.Prelude.{◌≡◌, ℕ, Bool, true, false, ◌||◌, ◌⊎◌, List, [], ◌∷◌, Option, None, eqb, bytes_eq}
use Rattle.std.specs.List.{list_any}
use Rattle.std.proofs.Common.{refl, inl, inr, sym, subst, ◌∙◌, arith}
use Rattle.std.proofs.lemmas.Slice.Eq.{bytes_eq-Decides}
use Rattle.std.proofs.lemmas.Bool.Decides.{nat_tests}
use Rattle.graphs.specs.Graphs.{Graph, has, next}
use Rattle.graphs.proofs.Searching.{either, left-holds}
use Rattle.express_syntax.specs.Schemas.{Schema, Declaration, type, entity, skipped, Entity}
use Rattle.schema_semantics.specs.Names.{Name, Among, IsEntityAt, IsSubtypeOf}
use Rattle.schema_semantics.proofs.Lists.{first-step}
use Rattle.schema_names.specs.Numbers.{number_of, HasNumber, IsAt}
use Rattle.schema_names.proofs.Numbers.{what-stands, stands-at, each-number}
use Rattle.schema_names.proofs.Edges.{below-forth, below-back}
use Rattle.schema_explicit_attributes.specs.declared.own_attributes.Meant.{Meant}
use Rattle.schema_explicit_attributes.specs.Supertypes.{AreAbove}
use Rattle.schema_explicit_attributes.specs.steps.Owned.{includes, names_meant, names_in, declares_in, declares_at, has_meant, HasMeant}

pub right-holds : (p q : Bool) → q ≡ true → (p || q) ≡ true
right-holds true q h = refl
right-holds false q h = h

-- one of a list passes a test
pub passing : (f : ℕ → Bool) (xs : List ℕ) → list_any f xs ≡ true → (j : ℕ) × (has xs j ≡ true) × (f j ≡ true)
passing f [] h = absurd (cc)
passing f (x ∷ xs) h = by (either (f x) (list_any f xs) h) (passing f xs)
  where
    itself : eqb x x ≡ true
    itself = grind (arith, nat_tests)

    by : (f x ≡ true) ⊎ (list_any f xs ≡ true)
        → (list_any f xs ≡ true → (j : ℕ) × (has xs j ≡ true) × (f j ≡ true))
        → (j : ℕ) × (has (x ∷ xs) j ≡ true) × (f j ≡ true)
    by (inl e) more = (x, left-holds (eqb x x) (has xs x) itself, e)
    by (inr e) more = let (j, m, d) = more e in (j, right-holds (eqb j x) (has xs j) m, d)

pub passes : (f : ℕ → Bool) (xs : List ℕ) (j : ℕ) → has xs j ≡ true → f j ≡ true → list_any f xs ≡ true
passes f [] j h d = absurd (cc)
passes f (x ∷ xs) j h d = by (either (eqb j x) (has xs j) h) (λ m. passes f xs j m d)
  where
    by : (eqb j x ≡ true) ⊎ (has xs j ≡ true) → (has xs j ≡ true → list_any f xs ≡ true)
        → list_any f (x ∷ xs) ≡ true
    by (inl e) more =
        let same : j ≡ x = grind (arith, nat_tests) in
        left-holds (f x) (list_any f xs) (subst (λ y. f y ≡ true) same d)
    by (inr e) more = right-holds (f x) (list_any f xs) (more e)

pub included : (ns : List Name) (a : Name) → includes ns a ≡ true → Among a ns
included [] a h = absurd (cc)
included (n ∷ ns) a h = by (either (bytes_eq n a) (includes ns a) h) (included ns a)
  where
    by : (bytes_eq n a ≡ true) ⊎ (includes ns a ≡ true) → (includes ns a ≡ true → Among a ns) → Among a (n ∷ ns)
    by (inl e) more = inl ((bytes_eq-Decides n a).0 e)
    by (inr e) more = inr (more e)

pub includes-it : (ns : List Name) (a : Name) → Among a ns → includes ns a ≡ true
includes-it [] a h = elim h [ ]
includes-it (n ∷ ns) a (inl e) = left-holds (bytes_eq n a) (includes ns a) ((bytes_eq-Decides n a).1 e)
includes-it (n ∷ ns) a (inr m) = right-holds (bytes_eq n a) (includes ns a) (includes-it ns a m)

module _ (s : Schema) (m : Meant) (a : Name) where
  -- the entity of this name declares it
  abbrev pub DeclaresIt : Name → Type 0
  DeclaresIt n = (e : Entity) × IsEntityAt s n e × Among a (names_meant m e)

  pub declared-forth : (n : Name) (j : ℕ) → HasNumber s n j → declares_at s m a j ≡ true → DeclaresIt n
  declared-forth n j k d =
      let (x, at, named) = what-stands s n j k in
      by x at (subst (λ (o : Option Declaration). declares_in m a o ≡ true) at d)
    where
      by : (x : Declaration) → IsAt s j x → includes (names_in m x) a ≡ true → DeclaresIt n
      by (type t) at h = absurd (cc)
      by (entity e) at h = (e, stands-at s n j k ∙ at, included (names_meant m e) a h)
      by (skipped p) at h = absurd (cc)

  pub declared-back : (n : Name) (j : ℕ) → HasNumber s n j → DeclaresIt n → declares_at s m a j ≡ true
  declared-back n j k (e, at, among) =
      subst (λ (o : Option Declaration). declares_in m a o ≡ true) (sym at ∙ stands-at s n j k)
      (includes-it (names_meant m e) a among)

  -- what stands for nothing has none
  pub has-none : (q : Name) → number_of s q ≡ None → HasMeant s m q a → ⊥
  has-none q none (p, inl same, e, at, among) =
      let (i, k) = each-number 0 s.declarations q (entity e) (subst (λ n. IsEntityAt s n e) (sym same) at) in
      absurd (cc)
  has-none q none (p, inr below, e, at, among) =
      let (r, (x, is, m)) = first-step (IsSubtypeOf s) q p below in
      let (i, k) = each-number 0 s.declarations q (entity x) is in absurd (cc)

  module _ (t : Graph) (h : AreAbove s t) where
    pub has-forth : (q : Name) (i : ℕ) → HasNumber s q i → has_meant s t m a i ≡ true → HasMeant s m q a
    has-forth q i k r = by (either (declares_at s m a i) (list_any (declares_at s m a) (next t i)) r)
      where
        by : (declares_at s m a i ≡ true) ⊎ (list_any (declares_at s m a) (next t i) ≡ true) → HasMeant s m q a
        by (inl d) = let (e, at, among) = declared-forth q i k d in (q, inl refl, e, at, among)
        by (inr d) =
            let (j, step, there) = passing (declares_at s m a) (next t i) d in
            let (p, l, below) = below-forth s h.graph h.drawn q i j k ((h.closed.reached i j).0 step) in
            let (e, at, among) = declared-forth p j l there in (p, inr below, e, at, among)

    pub has-back : (q : Name) (i : ℕ) → HasNumber s q i → HasMeant s m q a → has_meant s t m a i ≡ true
    has-back q i k (p, inl same, e, at, among) =
        left-holds (declares_at s m a i) (list_any (declares_at s m a) (next t i))
        (declared-back q i k (e, subst (λ n. IsEntityAt s n e) (sym same) at, among))
    has-back q i k (p, inr below, e, at, among) =
        let (j, l) = each-number 0 s.declarations p (entity e) at in
        right-holds (declares_at s m a i) (list_any (declares_at s m a) (next t i))
        (passes (declares_at s m a) (next t i) j
        ((h.closed.reached i j).1 (below-back s h.graph h.drawn q p i j k l below))
        (declared-back p j l (e, at, among)))
