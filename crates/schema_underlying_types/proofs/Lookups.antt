-- What the tables answer.
use Rattle.std.specs.Prelude.{◌≡◌, ℕ, ◌<◌, ◌≤◌, Bool, true, false, cond, not, ◌&&◌, ◌||◌, List, [], ◌∷◌, Option, None, Some, map, slice_get, get_or, length, Result, Ok, Err, is_ok, MatchResult, bytes_eq, nat_lt}
use Rattle.std.specs.Option.{option_map}
use Rattle.std.specs.List.{list_any}
use Rattle.std.proofs.Common.{refl, inl, inr, ap, sym, subst, ◌∙◌, arith, zero, suc}
use Rattle.std.proofs.lemmas.Bool.Decides.{nat_tests}
use Rattle.std.proofs.lemmas.Slice.Eq.{bytes_eq-Decides}
use Rattle.graphs.specs.Graphs.{has}
use Rattle.graphs.proofs.Found.{at-member, member-at}
use Rattle.express_syntax.specs.Schemas.{Schema, Declaration, type, entity, skipped, Entity, DataType, named}
use Rattle.schema_semantics.specs.Names.{Name, Among, entities, declared_name}
use Rattle.schema_semantics.specs.Faults.{IsResolved}
use Rattle.schema_names.specs.Numbers.{number_of, HasNumber, IsAt}
use Rattle.schema_names.proofs.Numbers.{what-stands}
use Rattle.schema_data_types.specs.NumberedTypes.{all_data_types}
use Rattle.schema_explicit_attributes.proofs.OwnNumbers.{own-number-of}
use Rattle.conformance.specs.Bases.{Domain, IsDomain, select, base}
use Rattle.conformance.specs.ParameterFits.{is_entity, inner}
use Rattle.schema_underlying_types.specs.declared.base.Base.{Base}
use Rattle.schema_underlying_types.specs.declared.base.Base.TheVariants.{Integer}
use Rattle.schema_underlying_types.specs.declared.bases.BaseTypes.{BaseTypes}
use Rattle.schema_underlying_types.specs.BaseViews.{type_at, or_integer, base_seen}
use Rattle.schema_underlying_types.specs.Tables.{AreBaseTypes, NamesKnownType, IsNumberedBase}
use Rattle.schema_underlying_types.specs.BaseEntries.{entry, is_some_entity, is_entity_at}
use Rattle.schema_underlying_types.proofs.Domains.{entity-among, entity-declared}
use Rattle.schema_underlying_types.proofs.Opening.{item-last}
use Rattle.schema_underlying_types.proofs.Tables.{same-test, some-is}

-- what a search finds in numbers that rise
pub found-is : (xs : List ℕ) (x : ℕ) (r : Result ℕ ℕ)
    → MatchResult r (λ i. (i < length xs) × (get_or xs i 0 ≡ x))
    (λ i. (i ≤ length xs) × ((k : ℕ) → k < i → get_or xs k 0 < x)
    × ((k : ℕ) → i ≤ k → k < length xs → x < get_or xs k 0)) → is_ok r ≡ has xs x
found-is xs x (Ok i) (lt, at) =
    sym (subst (λ y. has xs y ≡ true) at (at-member xs i 0 lt))
found-is xs x (Err i) (le, low, high) = none (has xs x) refl
  where
    none : (b : Bool) → has xs x ≡ b → false ≡ b
    none false e = refl
    none true e =
        let (k, lt, at) = member-at xs x e in absurd (by k lt at (nat_lt k i) refl)
      where
        by : (k : ℕ) → k < length xs → get_or xs k 0 ≡ x → (b : Bool) → nat_lt k i ≡ b → ⊥
        by k lt at true e =
            let under : k < i = grind (arith, nat_tests) in let less = low k under in omega (arith, less, at)
        by k lt at false e =
            let over : i ≤ k = grind (arith, nat_tests) in let more = high k over lt in omega (arith, more, at)

at-get : {A : Type 0} (xs : List A) (i : ℕ) (x d : A) → slice_get xs i ≡ Some x → get_or xs i d ≡ x
at-get [] i x d h = absurd (cc)
at-get (y ∷ ys) zero x d h = cc
at-get (y ∷ ys) (suc i) x d h = at-get ys i x d h

get-none : {A : Type 0} (xs : List A) (i : ℕ) (d : A) → slice_get xs i ≡ None → get_or xs i d ≡ d
get-none [] i d h = refl
get-none (y ∷ ys) zero d h = absurd (cc)
get-none (y ∷ ys) (suc i) d h = get-none ys i d h

get-within : {A : Type 0} (xs : List A) (i : ℕ) → i < length xs → slice_get xs i ≡ None → ⊥
get-within [] i lt h = omega (arith, lt)
get-within (y ∷ ys) zero lt h = cc
get-within (y ∷ ys) (suc i) lt h = get-within ys i (omega (arith, lt)) h

within : {A : Type 0} (xs : List A) (i : ℕ) (x : A) → slice_get xs i ≡ Some x → i < length xs
within [] i x h = absurd (cc)
within (y ∷ ys) zero x h = omega arith
within (y ∷ ys) (suc i) x h = let lt = within ys i x h in omega (arith, lt)

-- names among those of entities
any-forth : (n : Name) (es : List Entity) (e : Entity) → Among e es → e.name ≡ n
    → list_any (bytes_eq n) (map (λ (x : Entity). x.name) es) ≡ true
any-forth n [] e h same = elim h [ ]
any-forth n (x ∷ es) e (inl is) same =
    let here : bytes_eq n x.name ≡ true =
    (bytes_eq-Decides n x.name).1 (sym same ∙ sym (ap (λ (y : Entity). y.name) is)) in
    rw here refl
any-forth n (x ∷ es) e (inr h) same = behind (bytes_eq n x.name) (any-forth n es e h same)
  where
    behind : (b : Bool) → list_any (bytes_eq n) (map (λ (x : Entity). x.name) es) ≡ true
        → (b || list_any (bytes_eq n) (map (λ (x : Entity). x.name) es)) ≡ true
    behind true k = refl
    behind false k = k

any-back : (n : Name) (es : List Entity) → list_any (bytes_eq n) (map (λ (x : Entity). x.name) es) ≡ true
    → (e : Entity) × Among e es × (e.name ≡ n)
any-back n [] h = absurd (cc)
any-back n (x ∷ es) h = by (bytes_eq n x.name) refl h (any-back n es)
  where
    by : (b : Bool) → bytes_eq n x.name ≡ b → (b || list_any (bytes_eq n) (map (λ (y : Entity). y.name) es)) ≡ true
        → (list_any (bytes_eq n) (map (λ (y : Entity). y.name) es) ≡ true → (e : Entity) × Among e es × (e.name ≡ n))
        → (e : Entity) × Among e (x ∷ es) × (e.name ≡ n)
    by true q k more = (x, inl refl, sym ((bytes_eq-Decides n x.name).0 q))
    by false q k more = let (e, m, same) = more k in (e, inr m, same)

module _ (s : Schema) (r : IsResolved s) where
  entity-told : (n : Name) (j : ℕ) → HasNumber s n j → is_entity_at s j ≡ is_entity s n
  entity-told n j k = same-test (is_entity_at s j) (is_entity s n) forth back
    where
      forth : is_entity_at s j ≡ true → is_entity s n ≡ true
      forth h = let (d, at, called) = what-stands s n j k in by d at called (ap is_some_entity (sym at) ∙ h)
        where
          by : (d : Declaration) → IsAt s j d → declared_name d ≡ Some n → is_some_entity (Some d) ≡ true
              → is_entity s n ≡ true
          by (entity e) at called q =
              any-forth n (entities s) e (entity-among s.declarations j e at) (some-is e.name n called)
          by (type t) at called q = absurd (cc)
          by (skipped p) at called q = absurd (cc)

      back : is_entity s n ≡ true → is_entity_at s j ≡ true
      back h =
          let (e, m, same) = any-back n (entities s) h in
          let (i, at) = entity-declared s.declarations e m in
          let own = own-number-of s i (entity e) e.name r.once at refl in
          let here : i ≡ j = some-is i j (sym own ∙ ap (number_of s) same ∙ k) in
          ap (is_entity_at s) (sym here) ∙ ap is_some_entity at

  module _ (t : BaseTypes) (are : AreBaseTypes s t) where
    -- of a known data type
    number-some : (i : ℕ) (b : Base) → slice_get t.by_number.items i ≡ Some b → NamesKnownType s (type_at s i)
        → (d : Domain) → IsDomain s d → base_seen s b ≡ base d (type_at s i)
    number-some i b at known d is = by (slice_get (all_data_types s) i) refl
      where
        by : (o : Option DataType) → slice_get (all_data_types s) i ≡ o → base_seen s b ≡ base d (type_at s i)
        by None e =
            let count = are.count in let lt = within t.by_number.items i b at in
            absurd (get-within (all_data_types s) i (omega (arith, count, lt)) e)
        by (Some k) e =
            let same : type_at s i ≡ k = ap or_integer e in
            let (c, there, says) = are.by_number d is i k e (subst (NamesKnownType s) same known) in
            ap (base_seen s) (some-is b c (sym at ∙ there)) ∙ says ∙ ap (base d) (sym same)

    number-none : (i : ℕ) → slice_get t.by_number.items i ≡ None → (d : Domain) → IsDomain s d
        → base_seen s Integer ≡ base d (type_at s i)
    number-none i none d is = by (slice_get (all_data_types s) i) refl
      where
        by : (o : Option DataType) → slice_get (all_data_types s) i ≡ o → base_seen s Integer ≡ base d (type_at s i)
        by None e = ap (λ (o : Option DataType). base d (or_integer o)) (sym e)
        by (Some k) e =
            let count = are.count in let lt = within (all_data_types s) i k e in
            absurd (get-within t.by_number.items i (omega (arith, count, lt)) none)

    pub number-says : (i : ℕ) → NamesKnownType s (type_at s i) → (d : Domain) → IsDomain s d
        → base_seen s (entry t.by_number.items i) ≡ base d (type_at s i)
    number-says i known d is = by (slice_get t.by_number.items i) refl
      where
        by : (o : Option Base) → slice_get t.by_number.items i ≡ o
            → base_seen s (entry t.by_number.items i) ≡ base d (type_at s i)
        by None e = ap (base_seen s) (get-none t.by_number.items i Integer e) ∙ number-none i e d is
        by (Some b) e = ap (base_seen s) (at-get t.by_number.items i b Integer e) ∙ number-some i b e known d is

    pub number-numbered-at : (i : ℕ) → IsNumberedBase s (entry t.by_number.items i)
    number-numbered-at i = by (slice_get t.by_number.items i) refl
      where
        by : (o : Option Base) → slice_get t.by_number.items i ≡ o → IsNumberedBase s (entry t.by_number.items i)
        by None e = subst (IsNumberedBase s) (sym (get-none t.by_number.items i Integer e)) tt
        by (Some b) e =
            subst (IsNumberedBase s) (sym (at-get t.by_number.items i b Integer e)) (are.numbered i b e)

    pub entry-says : (d : Domain) → IsDomain s d → (n : Name) (j : ℕ) → HasNumber s n j
        → base_seen s (entry t.by_declaration.items j) ≡ d.of_name n
    entry-says d is n j k =
        let (b, at, says) = are.by_declaration d is n j k in
        ap (base_seen s) (at-get t.by_declaration.items j b Integer at) ∙ says

    pub entry-numbered-at : (n : Name) (j : ℕ) → HasNumber s n j → IsNumberedBase s (entry t.by_declaration.items j)
    entry-numbered-at n j k =
        let (d, is) = are.exists in
        let (b, at, says) = are.by_declaration d is n j k in
        subst (IsNumberedBase s) (sym (at-get t.by_declaration.items j b Integer at)) (are.declared j b at)

    -- the item of a name
    inner-none : (d : Domain) → IsDomain s d → (m n : Name) → number_of s n ≡ None
        → inner s d (select m) n ≡ None
    inner-none d is m n none = by (d.is_item m n) refl
      where
        by : (b : Bool) → d.is_item m n ≡ b
            → cond (d.is_item m n && not (is_entity s n)) (Some (base d (named n))) None ≡ None
        by true e =
            let (j, k) = item-last s r m n ((is.items m n).0 e) in
            let no : None ≡ Some j = sym none ∙ k in absurd (cc)
        by false e = ap (λ b. cond (b && not (is_entity s n)) (Some (base d (named n))) None) e

    pub no-inner : (d : Domain) → IsDomain s d → (m n : Name) → number_of s n ≡ None
        → option_map (base_seen s) None ≡ inner s d (select m) n
    no-inner d is m n none = sym (inner-none d is m n none)

    inner-at : (d : Domain) → IsDomain s d → (m n : Name) (j : ℕ) → HasNumber s n j → (a b : Bool)
        → a ≡ d.is_item m n → b ≡ is_entity_at s j
        → option_map (base_seen s) (cond (a && not b) (Some (entry t.by_declaration.items j)) None)
        ≡ inner s d (select m) n
    inner-at d is m n j k a b ea eb =
        by (a && not b)
        ∙ ap (λ c. cond (c && not b) (Some (base d (named n))) None) ea
        ∙ ap (λ c. cond (d.is_item m n && not c) (Some (base d (named n))) None) (eb ∙ entity-told n j k)
      where
        by : (c : Bool) → option_map (base_seen s) (cond c (Some (entry t.by_declaration.items j)) None)
            ≡ cond c (Some (base d (named n))) None
        by true = ap Some (entry-says d is n j k)
        by false = refl

    pub inner-yes : (d : Domain) → IsDomain s d → (m n : Name) (j : ℕ) → HasNumber s n j → (a b : Bool)
        → a ≡ d.is_item m n → b ≡ is_entity_at s j → a ≡ true → b ≡ false
        → option_map (base_seen s) (Some (entry t.by_declaration.items j)) ≡ inner s d (select m) n
    inner-yes d is m n j k a b ea eb ya nb =
        subst (λ c. option_map (base_seen s) (cond c (Some (entry t.by_declaration.items j)) None)
        ≡ inner s d (select m) n) (both a b ya nb) (inner-at d is m n j k a b ea eb)
      where
        both : (a b : Bool) → a ≡ true → b ≡ false → (a && not b) ≡ true
        both a b e f = rw (e, f) refl

    pub inner-no : (d : Domain) → IsDomain s d → (m n : Name) (j : ℕ) → HasNumber s n j → (a b : Bool)
        → a ≡ d.is_item m n → b ≡ is_entity_at s j → (a && not b) ≡ false
        → option_map (base_seen s) None ≡ inner s d (select m) n
    inner-no d is m n j k a b ea eb failed =
        subst (λ c. option_map (base_seen s) (cond c (Some (entry t.by_declaration.items j)) None)
        ≡ inner s d (select m) n) failed (inner-at d is m n j k a b ea eb)

pub no-left : (a b : Bool) → a ≡ false → (a && not b) ≡ false
no-left a b e = rw e refl

pub no-right : (a b : Bool) → b ≡ true → (a && not b) ≡ false
no-right true b e = rw e refl
no-right false b e = refl
