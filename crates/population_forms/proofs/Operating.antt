-- The operands of ONEOFs, by number.
use Rattle.std.specs.Prelude.{◌≡◌, ℕ, ◌+◌, ◌<◌, ◌++◌, ◌||◌, List, [], ◌∷◌, map, flat_map, filter_map, take, length, get_or, Option, None, Some, eqb, bytes_eq}
use Rattle.std.specs.List.{cons_option}
use Rattle.std.proofs.Common.{refl, ap, sym, ◌∙◌}
use Rattle.std.proofs.lemmas.List.{append-nil}
use Rattle.std.proofs.lemmas.Slice.Eq.{bytes_eq-Decides}
use Rattle.graphs.specs.Graphs.{has}
use Rattle.express_syntax.specs.Schemas.{Schema, Declaration, type, entity, skipped, Entity}
use Rattle.schema_semantics.specs.Names.{Name, entities_of}
use Rattle.schema_semantics.proofs.Bools.{is-false}
use Rattle.schema_names.specs.Numbers.{number_of, HasNumber}
use Rattle.schema_names.proofs.Rows.{take-more, map-joined, flat-joined}
use Rattle.conformance.specs.ParameterFits.{is_listed}
use Rattle.conformance.specs.Entities.{one_of_in}
use Rattle.population_forms.specs.steps.Knowing.{one_ofs_in}
use Rattle.population_forms.proofs.Naming.{same-name}

pub operands-more : {A D X Y : Type 0} (v : A → D) (f : D → List X) (g : X → Y) (xs : List A) (i : ℕ) (x : A)
    (old new : List Y) → i < length xs → x ≡ get_or xs i x → old ≡ map g (flat_map f (map v (take i xs)))
    → new ≡ old ++ map g (f (v x)) → new ≡ map g (flat_map f (map v (take (i + 1) xs)))
operands-more v f g xs i x old new lt at before is =
    is ∙ ap (λ ys. ys ++ map g (f (v x))) before
    ∙ sym (map-joined g (flat_map f (map v (take i xs))) (f (v x)))
    ∙ ap (λ ys. map g (flat_map f (map v (take i xs)) ++ ys)) (sym (append-nil (f (v x))))
    ∙ ap (map g) (sym (flat-joined f (map v (take i xs)) (v x ∷ [])))
    ∙ ap (λ ys. map g (flat_map f ys)) (sym (map-joined v (take i xs) (x ∷ [])))
    ∙ ap (λ ys. map g (flat_map f (map v ys))) (sym (take-more xs i x lt at))

pub of-entities : (ds : List Declaration)
    → flat_map one_ofs_in ds ≡ flat_map (λ (e : Entity). one_of_in e.supertype) (entities_of ds)
of-entities [] = refl
of-entities (type t ∷ ds) = of-entities ds
of-entities (entity e ∷ ds) = ap (λ xs. one_of_in e.supertype ++ xs) (of-entities ds)
of-entities (skipped p ∷ ds) = of-entities ds

-- whether a name is among the operands is told by its number
pub operand-is : (s : Schema) (n : Name) (i : ℕ) → HasNumber s n i → (ns : List Name)
    → is_listed n ns ≡ has (filter_map (number_of s) ns) i
operand-is s n i h [] = refl
operand-is s n i h (m ∷ ns) = by (number_of s m) refl (operand-is s n i h ns)
  where
    by : (o : Option ℕ) → number_of s m ≡ o → is_listed n ns ≡ has (filter_map (number_of s) ns) i
        → (bytes_eq n m || is_listed n ns) ≡ has (cons_option (number_of s m) (filter_map (number_of s) ns)) i
    by None none rest =
        ap (λ b. b || is_listed n ns)
        (is-false (bytes_eq n m) (λ e. absent (sym (ap (number_of s) ((bytes_eq-Decides n m).0 e)) ∙ h)))
        ∙ rest ∙ sym (ap (λ o. has (cons_option o (filter_map (number_of s) ns)) i) none)
      where
        absent : number_of s m ≡ Some i → ⊥
        absent k = cc
    by (Some j) k rest =
        ap (λ b. b || is_listed n ns) (same-name s n m i j h k) ∙ ap (λ b. eqb i j || b) rest
        ∙ sym (ap (λ o. has (cons_option o (filter_map (number_of s) ns)) i) k)
