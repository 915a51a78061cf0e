-- Where no name is declared twice in its scope, each declaration has the number of its own name.
use Rattle.std.specs.Prelude.{◌≡◌, ℕ, ◌+◌, Bool, true, false, cond, List, [], ◌∷◌, ◌++◌, Option, None, Some, slice_get, bytes_eq}
use Rattle.std.proofs.Common.{refl, inl, inr, ap, ◌∙◌, arith, zero, suc}
use Rattle.std.proofs.lemmas.Slice.Eq.{bytes_eq-Decides}
use Rattle.express_syntax.specs.Schemas.{Schema, Declaration, type, entity, skipped}
use Rattle.schema_semantics.specs.Names.{Name, Among, declared_name, is_named, attribute_names}
use Rattle.schema_semantics.specs.Faults.{Declared, declared_from, declared, StandsTwice, in_scope, enumerated_items}
use Rattle.schema_semantics.proofs.Lists.{among-right}
use Rattle.schema_names.specs.Numbers.{number_from, HasNumber, IsAt}

pub name-among : (k : ℕ) (ds : List Declaration) (i : ℕ) (d : Declaration) (n : Name) → slice_get ds i ≡ Some d
    → declared_name d ≡ Some n → Among (0, n) (declared_from k ds)
name-among k [] i d n at named = absurd (cc)
name-among k (x ∷ ds) zero d n at named =
    let same : x ≡ d = cc in front k x ds n (ap declared_name same ∙ named)
  where
    front : (k : ℕ) (x : Declaration) (ds : List Declaration) (n : Name) → declared_name x ≡ Some n
        → Among (0, n) (declared_from k (x ∷ ds))
    front k (type t) ds n e = let same : t.name ≡ n = cc in inl (ap (λ m. (0, m)) same)
    front k (entity t) ds n e = let same : t.name ≡ n = cc in inl (ap (λ m. (0, m)) same)
    front k (skipped p) ds n e = absurd (cc)
name-among k (type t ∷ ds) (suc i) d n at named =
    inr (among-right (0, n) (in_scope k (enumerated_items t.underlying)) (declared_from (k + 1) ds)
    (name-among (k + 1) ds i d n at named))
name-among k (entity e ∷ ds) (suc i) d n at named =
    inr (among-right (0, n) (in_scope k (attribute_names e)) (declared_from (k + 1) ds)
    (name-among (k + 1) ds i d n at named))
name-among k (skipped p ∷ ds) (suc i) d n at named = name-among (k + 1) ds i d n at named

-- the name of the first declaration stands once
stands-alone : (k : ℕ) (x : Declaration) (ds : List Declaration) (m : Name) → declared_name x ≡ Some m
    → ((y : Declared) → StandsTwice (declared_from k (x ∷ ds)) y → ⊥) → Among (0, m) (declared_from (k + 1) ds) → ⊥
stands-alone k (type t) ds m e once among =
    let same : t.name ≡ m = cc in
    once (0, m) (inl (
      ap (λ n. (0, n)) same,
      among-right (0, m) (in_scope k (enumerated_items t.underlying))
          (declared_from (k + 1) ds) among,
    ))
stands-alone k (entity t) ds m e once among =
    let same : t.name ≡ m = cc in
    once (0, m) (inl (
      ap (λ n. (0, n)) same,
      among-right (0, m) (in_scope k (attribute_names t))
          (declared_from (k + 1) ds) among,
    ))
stands-alone k (skipped p) ds m e once among = absurd (cc)

-- nor does any behind
twice-right : {A : Type 0} (xs ys : List A) (x : A) → StandsTwice ys x → StandsTwice (xs ++ ys) x
twice-right [] ys x h = h
twice-right (y ∷ xs) ys x h = inr (twice-right xs ys x h)

once-behind : (k : ℕ) (x : Declaration) (ds : List Declaration)
    → ((y : Declared) → StandsTwice (declared_from k (x ∷ ds)) y → ⊥) → (y : Declared)
    → StandsTwice (declared_from (k + 1) ds) y → ⊥
once-behind k (type t) ds once y h =
    once y (inr (twice-right (in_scope k (enumerated_items t.underlying)) (declared_from (k + 1) ds) y h))
once-behind k (entity e) ds once y h =
    once y (inr (twice-right (in_scope k (attribute_names e)) (declared_from (k + 1) ds) y h))
once-behind k (skipped p) ds once y h = once y h

own-number : (j k : ℕ) (ds : List Declaration) (i : ℕ) (d : Declaration) (n : Name)
    → ((y : Declared) → StandsTwice (declared_from k ds) y → ⊥) → slice_get ds i ≡ Some d
    → declared_name d ≡ Some n → number_from j ds n ≡ Some (j + i)
own-number j k [] i d n once at named = absurd (cc)
own-number j k (x ∷ ds) zero d n once at named =
    let same : x ≡ d = cc in
    let is : is_named n (declared_name x) ≡ true =
    ap (is_named n) (ap declared_name same ∙ named) ∙ (bytes_eq-Decides n n).1 refl in
    let none : j ≡ j + 0 = omega arith in
    ap (λ b. cond b (Some j) (number_from (j + 1) ds n)) is ∙ ap Some none
own-number j k (x ∷ ds) (suc i) d n once at named =
    case (declared_name x) refl (name-among (k + 1) ds i d n at named)
    (own-number (j + 1) (k + 1) ds i d n (once-behind k x ds once) at named)
  where
    next : j + 1 + i ≡ j + suc i
    next = omega arith

    case : (o : Option Name) → declared_name x ≡ o → Among (0, n) (declared_from (k + 1) ds)
        → number_from (j + 1) ds n ≡ Some (j + 1 + i)
        → cond (is_named n (declared_name x)) (Some j) (number_from (j + 1) ds n) ≡ Some (j + suc i)
    case None e among more =
        ap (λ o. cond (is_named n o) (Some j) (number_from (j + 1) ds n)) e ∙ more ∙ ap Some next
    case (Some m) e among more = test (bytes_eq m n) refl
      where
        test : (b : Bool) → bytes_eq m n ≡ b
            → cond (is_named n (declared_name x)) (Some j) (number_from (j + 1) ds n) ≡ Some (j + suc i)
        test true same =
            let is : m ≡ n = (bytes_eq-Decides m n).0 same in
            absurd (stands-alone k x ds n (e ∙ ap Some is) once among)
        test false differs =
            ap (λ o. cond (is_named n o) (Some j) (number_from (j + 1) ds n)) e
            ∙ ap (λ b. cond b (Some j) (number_from (j + 1) ds n)) differs ∙ more ∙ ap Some next

pub own-number-of : (s : Schema) (i : ℕ) (d : Declaration) (n : Name)
    → ((y : Declared) → StandsTwice (declared s) y → ⊥) → IsAt s i d → declared_name d ≡ Some n → HasNumber s n i
own-number-of s i d n once at named =
    let none : 0 + i ≡ i = omega arith in
    own-number 0 1 s.declarations i d n once at named ∙ ap Some none
