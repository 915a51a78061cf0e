-- Rows that are made in turn.
use Rattle.std.specs.Prelude.{◌≡◌, ◌+◌, ◌<◌, ℕ, List, [], ◌∷◌, ◌++◌, Some, map, flat_map, length, get_or, slice_get, take}
use Rattle.std.proofs.Common.{refl, ap, sym, subst, ◌∙◌}
use Rattle.std.proofs.lemmas.List.{append_assoc, append-nil}
use Rattle.std.proofs.lemmas.Option.{slice_get_read}
use Rattle.express_syntax.specs.Schemas.{Declaration, type, entity, skipped, Entity}
use Rattle.express_syntax.specs.Profile.{Every}
use Rattle.schema_semantics.specs.Names.{entities_of}
use Rattle.schema_names.proofs.Rows.{map-joined, take-more}
use Rattle.schema_names.proofs.Items.{mapped-at}
use Rattle.conformance.specs.Rules.{InTurn}
use Rattle.schema_constraints.specs.steps.Making.{Adds, of_entity}

-- what is read of a list, as it is seen
pub seen-at : {A B : Type 0} (seen : A → B) (xs : List A) (i : ℕ) (x : A) → i < length xs → x ≡ get_or xs i x
    → slice_get (map seen xs) i ≡ Some (seen x)
seen-at seen xs i x lt is = mapped-at seen xs i x (slice_get_read xs (length xs) i x refl lt is)

module _ {A B : Type 0} (R : A → B → Type 0) where
  in-turn-joined : (xs ys : List A) (rs ss : List B) → InTurn R xs rs → InTurn R ys ss
      → InTurn R (xs ++ ys) (rs ++ ss)
  in-turn-joined [] ys [] ss h k = k
  in-turn-joined [] ys (r ∷ rs) ss h k = absurd h
  in-turn-joined (x ∷ xs) ys [] ss h k = absurd h
  in-turn-joined (x ∷ xs) ys (r ∷ rs) ss h k = (h.0, in-turn-joined xs ys rs ss h.1 k)

  pub adds-none : (old : List B) → Adds R [] old old
  adds-none old = ([], sym (append-nil old), tt)

  pub adds-one : (x : A) (r : B) (old new : List B) → new ≡ old ++ r ∷ [] → R x r → Adds R (x ∷ []) old new
  adds-one x r old new is h = (r ∷ [], is, (h, tt))

  pub adds-joined : (xs ys : List A) (a b c : List B) → Adds R xs a b → Adds R ys b c → Adds R (xs ++ ys) a c
  adds-joined xs ys a b c (rs, is, h) (ss, so, k) = (
    rs ++ ss,
    so ∙ ap (λ zs. zs ++ ss) is ∙ append_assoc a rs ss,
    in-turn-joined xs ys rs ss h k,
  )

  -- Items of a list are gone over in turn: `seen` shows them, and `of` gives those for which rows are made.
  module _ {T V : Type 0} (seen : T → V) (of : List V → List A)
      (joins : (xs ys : List V) → of (xs ++ ys) ≡ of xs ++ of ys) where
    pub adds-next : (xs : List T) (i : ℕ) (x : T) (a b c : List B) → i < length xs → x ≡ get_or xs i x
        → Adds R (of (map seen (take i xs))) a b → Adds R (of (seen x ∷ [])) b c
        → Adds R (of (map seen (take (i + 1) xs))) a c
    adds-next xs i x a b c lt at h k =
        subst (λ ys. Adds R ys a c) (sym next)
        (adds-joined (of (map seen (take i xs))) (of (seen x ∷ [])) a b c h k)
      where
        next : of (map seen (take (i + 1) xs)) ≡ of (map seen (take i xs)) ++ of (seen x ∷ [])
        next =
            ap (λ ys. of (map seen ys)) (take-more xs i x lt at) ∙ ap of (map-joined seen (take i xs) (x ∷ []))
            ∙ joins (map seen (take i xs)) (seen x ∷ [])

  -- what holds of each row
  pub each-row : (Q : B → Type 0) → ((x : A) (r : B) → R x r → Q r) → (xs : List A) (rs : List B) → InTurn R xs rs
      → Every Q rs
  each-row Q so [] [] h = tt
  each-row Q so [] (r ∷ rs) h = absurd h
  each-row Q so (x ∷ xs) [] h = absurd h
  each-row Q so (x ∷ xs) (r ∷ rs) h = (so x r h.0, each-row Q so xs rs h.1)

  -- R of each row gives T of the row that f makes of it
  pub each-seen : {C : Type 0} (T : A → C → Type 0) (f : B → C) → ((x : A) (r : B) → R x r → T x (f r)) → (xs : List A)
      (rs : List B) → InTurn R xs rs → InTurn T xs (map f rs)
  each-seen T f so [] [] h = tt
  each-seen T f so [] (r ∷ rs) h = absurd h
  each-seen T f so (x ∷ xs) [] h = absurd h
  each-seen T f so (x ∷ xs) (r ∷ rs) h = (so x r h.0, each-seen T f so xs rs h.1)

-- those of entities, declaration by declaration
pub of-entities : {A : Type 0} (f : Entity → List A) (ds : List Declaration)
    → flat_map (of_entity f) ds ≡ flat_map f (entities_of ds)
of-entities f [] = refl
of-entities f (type t ∷ ds) = of-entities f ds
of-entities f (entity e ∷ ds) = ap (λ xs. f e ++ xs) (of-entities f ds)
of-entities f (skipped p ∷ ds) = of-entities f ds
