-- Entries of data types that go on.
use Rattle.std.specs.Prelude.{◌≡◌, ℕ, zero, suc, ◌+◌, ◌<◌, List, [], ◌∷◌, ◌++◌, Some, map, flat_map, length, get_or, take, slice_get}
use Rattle.std.proofs.Common.{refl, ap, sym, subst, ◌∙◌, arith}
use Rattle.std.proofs.lemmas.List.{append_assoc, append-nil, length-append}
use Rattle.express_syntax.specs.Schemas.{Schema, Declaration, DataType}
use Rattle.schema_names.proofs.Rows.{map-joined, flat-joined, take-more}
use Rattle.schema_data_types.specs.NumberedTypes.{within, whole_types}
use Rattle.schema_underlying_types.specs.declared.base.Base.{Base}
use Rattle.schema_underlying_types.specs.BaseEntries.{base_of, bases_from, GoesOn}

module _ (s : Schema) (declared : List Base) where
  -- of joined lists
  from-joined : (n : ℕ) (ks ls : List DataType)
      → bases_from s declared n (ks ++ ls) ≡ bases_from s declared n ks ++ bases_from s declared (n + length ks) ls
  from-joined n [] ls = let none : n ≡ n + 0 = omega arith in ap (λ m. bases_from s declared m ls) none
  from-joined n (k ∷ ks) ls =
      let next : n + 1 + length ks ≡ n + length (k ∷ ks) = omega arith in
      ap (λ bs. base_of s declared (n + 1) k ∷ bs) (from-joined (n + 1) ks ls
      ∙ ap (λ m. bases_from s declared (n + 1) ks ++ bases_from s declared m ls) next)

  pub from-length : (n : ℕ) (ks : List DataType) → length (bases_from s declared n ks) ≡ length ks
  from-length n [] = refl
  from-length n (k ∷ ks) = ap suc (from-length (n + 1) ks)

  pub goes-joined : (a b c : List Base) (ks ls : List DataType) → GoesOn s declared a ks b → GoesOn s declared b ls c
      → GoesOn s declared a (ks ++ ls) c
  goes-joined a b c ks ls h k =
      k ∙ ap (λ xs. xs ++ bases_from s declared (length b) ls) h
      ∙ ap (λ m. (a ++ bases_from s declared (length a) ks) ++ bases_from s declared m ls) long
      ∙ append_assoc a (bases_from s declared (length a) ks) (bases_from s declared (length a + length ks) ls)
      ∙ ap (λ xs. a ++ xs) (sym (from-joined (length a) ks ls))
    where
      long : length b ≡ length a + length ks
      long =
          let all = length-append a (bases_from s declared (length a) ks) in
          let count = from-length (length a) ks in
          let same : length b ≡ length (a ++ bases_from s declared (length a) ks) = ap length h in
          omega (arith, all, count, same)

  -- Items of a list are added in turn.
  module _ {A V : Type 0} (seen : A → V) (of : V → DataType) where
    pub goes-next : (xs : List A) (i : ℕ) (x : A) (a b c : List Base) → i < length xs → x ≡ get_or xs i x
        → GoesOn s declared a (flat_map within (map of (map seen (take i xs)))) b
        → GoesOn s declared b (within (of (seen x))) c
        → GoesOn s declared a (flat_map within (map of (map seen (take (i + 1) xs)))) c
    goes-next xs i x a b c lt at h k =
        subst (λ ks. GoesOn s declared a ks c) (sym next)
        (goes-joined a b c (flat_map within (map of (map seen (take i xs)))) (within (of (seen x))) h k)
      where
        next : flat_map within (map of (map seen (take (i + 1) xs)))
            ≡ flat_map within (map of (map seen (take i xs))) ++ within (of (seen x))
        next =
            ap (λ ys. flat_map within (map of (map seen ys))) (take-more xs i x lt at)
            ∙ ap (λ vs. flat_map within (map of vs)) (map-joined seen (take i xs) (x ∷ []))
            ∙ ap (flat_map within) (map-joined of (map seen (take i xs)) (seen x ∷ []))
            ∙ flat-joined within (map of (map seen (take i xs))) (of (seen x) ∷ [])
            ∙ ap (λ ks. flat_map within (map of (map seen (take i xs))) ++ ks) (append-nil (within (of (seen x))))

  -- the data types of declarations
  abbrev pub given : List Declaration → List DataType
  given ds = flat_map (λ (d : Declaration). flat_map within (whole_types d)) ds

  module _ {A : Type 0} (seen : A → Declaration) where
    pub goes-declaration : (xs : List A) (i : ℕ) (x : A) (a b c : List Base) → i < length xs → x ≡ get_or xs i x
        → GoesOn s declared a (given (map seen (take i xs))) b
        → GoesOn s declared b (flat_map within (whole_types (seen x))) c
        → GoesOn s declared a (given (map seen (take (i + 1) xs))) c
    goes-declaration xs i x a b c lt at h k =
        subst (λ ks. GoesOn s declared a ks c) (sym next)
        (goes-joined a b c (given (map seen (take i xs))) (flat_map within (whole_types (seen x))) h k)
      where
        next : given (map seen (take (i + 1) xs))
            ≡ given (map seen (take i xs)) ++ flat_map within (whole_types (seen x))
        next =
            ap (λ ys. given (map seen ys)) (take-more xs i x lt at)
            ∙ ap given (map-joined seen (take i xs) (x ∷ []))
            ∙ flat-joined (λ (d : Declaration). flat_map within (whole_types d)) (map seen (take i xs)) (seen x ∷ [])
            ∙ ap (λ ks. given (map seen (take i xs)) ++ ks) (append-nil (flat_map within (whole_types (seen x))))

  -- what stands at a number
  from-at : (n i : ℕ) (ks : List DataType) (k : DataType) → slice_get ks i ≡ Some k
      → slice_get (bases_from s declared n ks) i ≡ Some (base_of s declared (n + i + 1) k)
  from-at n i [] k h = absurd (cc)
  from-at n zero (x ∷ ks) k h =
      let same : x ≡ k = cc in
      let none : n + 1 ≡ n + 0 + 1 = omega arith in
      ap (λ y. Some (base_of s declared (n + 1) y)) same ∙ ap (λ m. Some (base_of s declared m k)) none
  from-at n (suc i) (x ∷ ks) k h =
      let next : n + 1 + i + 1 ≡ n + suc i + 1 = omega arith in
      from-at (n + 1) i ks k h ∙ ap (λ m. Some (base_of s declared m k)) next

  pub number-at : (i : ℕ) (ks : List DataType) (k : DataType) → slice_get ks i ≡ Some k
      → slice_get (bases_from s declared 0 ks) i ≡ Some (base_of s declared (i + 1) k)
  number-at i ks k h =
      let none : 0 + i + 1 ≡ i + 1 = omega arith in
      from-at 0 i ks k h ∙ ap (λ m. Some (base_of s declared m k)) none

  from-back : (n i : ℕ) (ks : List DataType) (b : Base) → slice_get (bases_from s declared n ks) i ≡ Some b
      → (k : DataType) × (slice_get ks i ≡ Some k)
  from-back n i [] b h = absurd (cc)
  from-back n zero (x ∷ ks) b h = (x, refl)
  from-back n (suc i) (x ∷ ks) b h = from-back (n + 1) i ks b h

  pub number-back : (i : ℕ) (ks : List DataType) (b : Base) → slice_get (bases_from s declared 0 ks) i ≡ Some b
      → (k : DataType) × (slice_get ks i ≡ Some k)
  number-back i ks b h = from-back 0 i ks b h
