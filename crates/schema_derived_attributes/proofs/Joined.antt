-- Formulas that are made one behind the other.
use Rattle.std.specs.Prelude.{◌≡◌, ℕ, ◌+◌, ◌<◌, List, [], ◌∷◌, ◌++◌, Option, None, Some, map, length, get_or, slice_get, take, option_map}
use Rattle.std.proofs.Common.{refl, ap, sym, subst, ◌∙◌, arith, zero, suc}
use Rattle.std.proofs.lemmas.List.{append_assoc, append-nil, length-append, length-map}
use Rattle.express_syntax.specs.Schemas.{Derived}
use Rattle.schema_names.proofs.Rows.{map-joined, take-more}
use Rattle.schema_derived_attributes.specs.declared.formula.Formula.{Formula}
use Rattle.schema_derived_attributes.specs.Formulas.{formula_seen}
use Rattle.schema_derived_attributes.specs.steps.Making.{formula_by, formulas_from, formulas_seen, Adds}

module _ (ranks : List (Option ℕ)) where
  pub from-length : (n : ℕ) (ds : List Derived) → length (formulas_from ranks n ds) ≡ length ds
  from-length n [] = refl
  from-length n (d ∷ ds) = ap suc (from-length (n + 1) ds)

  pub from-at : (n : ℕ) (ds : List Derived) (i j : ℕ) (x : Derived) → slice_get ds i ≡ Some x → j ≡ n + i
      → slice_get (formulas_from ranks n ds) i ≡ Some (formula_by (get_or ranks j None) x.body)
  from-at n [] i j x h is = absurd (cc)
  from-at n (d ∷ ds) zero j x h is =
      let same : d ≡ x = cc in
      let number : n ≡ j = omega (arith, is) in
      ap (λ k. Some (formula_by (get_or ranks k None) d.body)) number
      ∙ ap (λ (y : Derived). Some (formula_by (get_or ranks j None) y.body)) same
  from-at n (d ∷ ds) (suc i) j x h is = from-at (n + 1) ds i j x h (omega (arith, is))

  from-joined : (n k : ℕ) (xs ys : List Derived) → k ≡ n + length xs
      → formulas_from ranks n (xs ++ ys) ≡ formulas_from ranks n xs ++ formulas_from ranks k ys
  from-joined n k [] ys is = let same : n ≡ k = omega (arith, is) in ap (λ m. formulas_from ranks m ys) same
  from-joined n k (x ∷ xs) ys is =
      ap (λ zs. formula_by (get_or ranks n None) x.body ∷ zs) (from-joined (n + 1) k xs ys (omega (arith, is)))

  pub adds-none : (old : List (Option Formula)) → Adds ranks [] old old
  adds-none old = sym (append-nil (formulas_seen old))

  grown : (ds : List Derived) (old new : List (Option Formula)) → Adds ranks ds old new
      → length new ≡ length old + length ds
  grown ds old new h =
      let all : length (formulas_seen new) ≡ length (formulas_seen old ++ formulas_from ranks (length old) ds) =
      ap length h in
      let parts = length-append (formulas_seen old) (formulas_from ranks (length old) ds) in
      let after = length-map new (option_map formula_seen) in
      let before = length-map old (option_map formula_seen) in
      let more = from-length (length old) ds in
      omega (arith, all, parts, after, before, more)

  pub adds-joined : (xs ys : List Derived) (a b c : List (Option Formula)) → Adds ranks xs a b → Adds ranks ys b c
      → Adds ranks (xs ++ ys) a c
  adds-joined xs ys a b c h k =
      k ∙ ap (λ zs. zs ++ formulas_from ranks (length b) ys) h
      ∙ append_assoc (formulas_seen a) (formulas_from ranks (length a) xs) (formulas_from ranks (length b) ys)
      ∙ ap (λ zs. formulas_seen a ++ zs) (sym (from-joined (length a) (length b) xs ys (grown xs a b h)))

  pub adds-one : (x : Derived) (o : Option Formula) (rank : Option ℕ) (old new : List (Option Formula))
      → rank ≡ get_or ranks (length old) None → option_map formula_seen o ≡ formula_by rank x.body
      → new ≡ old ++ o ∷ [] → Adds ranks (x ∷ []) old new
  adds-one x o rank old new ranked is more =
      ap formulas_seen more ∙ map-joined (option_map formula_seen) old (o ∷ [])
      ∙ ap (λ z. formulas_seen old ++ z ∷ []) (is ∙ ap (λ r. formula_by r x.body) ranked)

  -- Items are gone over in turn: `seen` shows them, and `of` gives their derived attributes.
  module _ {T V : Type 0} (seen : T → V) (of : List V → List Derived)
      (joins : (xs ys : List V) → of (xs ++ ys) ≡ of xs ++ of ys) where
    pub adds-next : (xs : List T) (i : ℕ) (x : T) (a b c : List (Option Formula)) → i < length xs
        → x ≡ get_or xs i x → Adds ranks (of (map seen (take i xs))) a b → Adds ranks (of (seen x ∷ [])) b c
        → Adds ranks (of (map seen (take (i + 1) xs))) a c
    adds-next xs i x a b c lt at h k =
        subst (λ ys. Adds ranks ys a c) (sym next)
        (adds-joined (of (map seen (take i xs))) (of (seen x ∷ [])) a b c h k)
      where
        next : of (map seen (take (i + 1) xs)) ≡ of (map seen (take i xs)) ++ of (seen x ∷ [])
        next =
            ap (λ ys. of (map seen ys)) (take-more xs i x lt at) ∙ ap of (map-joined seen (take i xs) (x ∷ []))
            ∙ joins (map seen (take i xs)) (seen x ∷ [])
