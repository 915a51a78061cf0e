-- Items of a clause that are gone over in turn, each with its number in the clause.
use Rattle.std.specs.Prelude.{◌≡◌, ℕ, ◌+◌, ◌<◌, List, [], ◌∷◌, ◌++◌, map, length, get_or, take}
use Rattle.std.proofs.Common.{refl, ap, sym, subst, ◌∙◌, append-nil, append_assoc, arith}
use Rattle.std.proofs.lemmas.List.{take_more, map-append, length-take, length-map}
use Rattle.schema_semantics.specs.Parts.{Unchecked, Candidate}
use Rattle.schema_unchecked_declarations.specs.UncheckedLists.{Adds}
use Rattle.schema_unchecked_declarations.proofs.Joining.{adds-joined}

-- `parts` gives the candidates of items from the n-th on
module _ {A V : Type 0} (seen : A → V) (parts : ℕ → List V → List Candidate) (none : (n : ℕ) → parts n [] ≡ [])
    (more : (n : ℕ) (x : V) (xs : List V) → parts n (x ∷ xs) ≡ parts n (x ∷ []) ++ parts (n + 1) xs) where
  counted-joined : (n k : ℕ) (xs ys : List V) → k ≡ n + length xs → parts n (xs ++ ys) ≡ parts n xs ++ parts k ys
  counted-joined n k [] ys e =
      let same : n ≡ k = omega (arith, e) in
      ap (λ m. parts m ys) same ∙ ap (λ cs. cs ++ parts k ys) (sym (none n))
  counted-joined n k (x ∷ xs) ys e =
      let on : k ≡ n + 1 + length xs = omega (arith, e) in
      more n x (xs ++ ys) ∙ ap (λ cs. parts n (x ∷ []) ++ cs) (counted-joined (n + 1) k xs ys on)
      ∙ sym (append_assoc (parts n (x ∷ [])) (parts (n + 1) xs) (parts k ys))
      ∙ ap (λ cs. cs ++ parts k ys) (sym (more n x xs))

  next : (xs : List A) (i : ℕ) (x : A) → i < length xs → x ≡ get_or xs i x
      → parts 1 (map seen (take (i + 1) xs)) ≡ parts 1 (map seen (take i xs)) ++ parts (i + 1) (seen x ∷ [])
  next xs i x lt at =
      let long : length (map seen (take i xs)) ≡ i = grind (arith, length-map, length-take) in
      ap (λ ys. parts 1 (map seen ys)) (take_more xs i x lt ∙ ap (λ y. take i xs ++ y ∷ []) (sym at))
      ∙ ap (parts 1) (map-append seen (take i xs) (x ∷ []))
      ∙ counted-joined 1 (i + 1) (map seen (take i xs)) (seen x ∷ []) (omega (arith, long))

  pub adds-counted : (xs : List A) (i : ℕ) (x : A) (a b c : List Unchecked) → i < length xs → x ≡ get_or xs i x
      → Adds (parts 1 (map seen (take i xs))) a b → Adds (parts (i + 1) (seen x ∷ [])) b c
      → Adds (parts 1 (map seen (take (i + 1) xs))) a c
  adds-counted xs i x a b c lt at h k =
      subst (λ cs. Adds cs a c) (sym (next xs i x lt at))
      (adds-joined (parts 1 (map seen (take i xs))) (parts (i + 1) (seen x ∷ [])) a b c h k)
