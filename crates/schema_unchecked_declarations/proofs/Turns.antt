-- Items that are gone over in turn.
use Rattle.std.specs.Prelude.{◌≡◌, ℕ, ◌+◌, ◌<◌, List, [], ◌∷◌, ◌++◌, map, length, get_or, take}
use Rattle.std.proofs.Common.{refl, ap, sym, subst, ◌∙◌, append-nil, append_assoc}
use Rattle.std.proofs.lemmas.List.{take_more, map-append}
use Rattle.schema_semantics.specs.Parts.{Unchecked, Candidate, for_each}
use Rattle.schema_unchecked_declarations.specs.UncheckedLists.{Adds}
use Rattle.schema_unchecked_declarations.proofs.Joining.{adds-joined}

each-joined : {X : Type 0} (f : X → List Candidate) (xs ys : List X)
    → for_each f (xs ++ ys) ≡ for_each f xs ++ for_each f ys
each-joined f [] ys = refl
each-joined f (x ∷ xs) ys =
    ap (λ cs. f x ++ cs) (each-joined f xs ys) ∙ sym (append_assoc (f x) (for_each f xs) (for_each f ys))

-- `seen` shows the items, and `f` gives the candidates of each
module _ {A V : Type 0} (seen : A → V) (f : V → List Candidate) where
  next : (xs : List A) (i : ℕ) (x : A) → i < length xs → x ≡ get_or xs i x
      → for_each f (map seen (take (i + 1) xs)) ≡ for_each f (map seen (take i xs)) ++ f (seen x)
  next xs i x lt at =
      ap (λ ys. for_each f (map seen ys)) (take_more xs i x lt ∙ ap (λ y. take i xs ++ y ∷ []) (sym at))
      ∙ ap (for_each f) (map-append seen (take i xs) (x ∷ []))
      ∙ each-joined f (map seen (take i xs)) (seen x ∷ [])
      ∙ ap (λ cs. for_each f (map seen (take i xs)) ++ cs) (append-nil (f (seen x)))

  pub adds-next : (xs : List A) (i : ℕ) (x : A) (a b c : List Unchecked) → i < length xs → x ≡ get_or xs i x
      → Adds (for_each f (map seen (take i xs))) a b → Adds (f (seen x)) b c
      → Adds (for_each f (map seen (take (i + 1) xs))) a c
  adds-next xs i x a b c lt at h k =
      subst (λ cs. Adds cs a c) (sym (next xs i x lt at))
      (adds-joined (for_each f (map seen (take i xs))) (f (seen x)) a b c h k)
